-- What holds of lengths that are not refused. Assumes nothing.
use Prim.Native.Nat.{ℕ, ◌≤◌}
use mathlib.Core.Path.{◌≡◌, sym, ap, ◌∙◌}
use mathlib.Core.List.{List}
use lib.ListN.{length, get_or}
use Rattle.fips197.specs.Field.{◌⊕◌}
use Rattle.fips197.specs.State.{◌⊞◌}
use Rattle.fips197.proofs.Vectors.{length_⊞, get_or_⊞}
use Rattle.lists.specs.Lists.{tab}
use Rattle.lists.proofs.Tabs.{tab-is}
use native.Mathlib.Omega.{arith}
use Rattle.std.proofs.lemmas.Bool.Decides.{nat_tests}
use Rattle.halves.specs.Product.{most_product, mul_number, take_number, open_number, open_of}

-- all slices of a product are n long
pub record Alike (n ai aii bi bii alphas : ℕ) : Type 0 where
  pub first : ai ≡ n
  pub second : aii ≡ n
  pub third : bi ≡ n
  pub fourth : bii ≡ n
  pub fifth : alphas ≡ n
  pub most : n ≤ most_product

pub mul_fits : (n ai aii bi bii alphas : ℕ) → mul_number n ai aii bi bii alphas ≡ 0 → Alike n ai aii bi bii alphas
unfolding mul_number
mul_fits n ai aii bi bii alphas e =
    record {
      first = grind (arith, nat_tests);
      second = grind (arith, nat_tests);
      third = grind (arith, nat_tests);
      fourth = grind (arith, nat_tests);
      fifth = grind (arith, nat_tests);
      most = grind (arith, nat_tests);
    }

pub alike_zero : (n ai aii bi bii alphas : ℕ) → Alike n ai aii bi bii alphas → mul_number n ai aii bi bii alphas ≡ 0
unfolding mul_number
alike_zero n ai aii bi bii alphas f = grind (arith, nat_tests)

pub take_fits : (n received : ℕ) → take_number n received ≡ 0 → received ≡ n
unfolding take_number
take_fits n received e = grind (arith, nat_tests)

pub take_zero : (n received : ℕ) → n ≤ most_product → received ≡ n → take_number n received ≡ 0
unfolding take_number
take_zero n received h e = grind (arith, nat_tests)

-- both shares and the message are as long as what is opened
pub record Opens (n si sii received : ℕ) : Type 0 where
  pub first : si ≡ n
  pub second : sii ≡ n
  pub third : received ≡ n

pub open_fits : (n si sii received : ℕ) → open_number n si sii received ≡ 0 → Opens n si sii received
unfolding open_number
open_fits n si sii received e =
    record { first = grind (arith, nat_tests); second = grind (arith, nat_tests); third = grind (arith, nat_tests) }

-- what a loop that opens position by position leaves
pub opens_sum : (n : ℕ) (si sii received : List ℕ) → Opens n (length si) (length sii) (length received)
    → tab n (λ j. get_or si j 0 ⊕ get_or sii j 0 ⊕ get_or received j 0) ≡ open_of si sii received
unfolding open_of
opens_sum n si sii received f =
    let e : length si ≡ length sii = f.first ∙ sym f.second in
    let d : length (si ⊞ sii) ≡ length received = length_⊞ si sii e ∙ f.first ∙ sym f.third in
    sym (tab-is n _ (si ⊞ sii ⊞ received) (length_⊞ (si ⊞ sii) received d ∙ length_⊞ si sii e ∙ f.first)
    (λ j h. get_or_⊞ (si ⊞ sii) received j d ∙ ap (λ (m : ℕ). m ⊕ get_or received j 0) (get_or_⊞ si sii j e)))
