-- A run: a local map, then a step in which the parties exchange, then a local map, and so on. From a consistent table it ends in a
-- consistent table, and with alphas that cancel that opens to the plain run of what the first opened to. By induction over the list of
-- local maps, for every step; a cipher's step inverts all positions. Assumes nothing.
use Prim.Native.Nat.{ℕ, suc, ◌*◌, ◌<◌, suc-le-suc}
use native.Mathlib.Nat.{zero-lt-suc}
use mathlib.Core.Path.{◌≡◌, refl, ap, ◌∙◌}
use mathlib.Core.List.{List, [], ◌∷◌, ◌++◌}
use lib.ListN.{length}
use Rattle.rep3.specs.Tables.{Consistent, opened}
use Rattle.chida.proofs.OpensInversion.{CancelTo}
use Rattle.runs.proofs.Local.{Local, done, plain, length-done, done-consistent, done-opened}

-- what stands between two local maps: given each party's alphas, so many of them
pub record Step (n : ℕ) : Type 0 where
  pub inv : (ℕ → List ℕ) → List ℕ → List ℕ
  pub used : ℕ
  -- what it does to what the table opens to
  pub plainly : List ℕ → List ℕ
  pub long : (α : ℕ → List ℕ) (t : List ℕ) → length t ≡ 6 * n → length (inv α t) ≡ 6 * n
  pub consistent : (α : ℕ → List ℕ) (t : List ℕ) → length t ≡ 6 * n → Consistent n t → Consistent n (inv α t)
  pub opens : (α : ℕ → List ℕ) (t : List ℕ) → length t ≡ 6 * n → Consistent n t → CancelTo used α → opened n (inv α t) ≡ plainly (opened n t)

module _ {n : ℕ} (s : Step n) where
  -- α i p is what step i, counted from 0, draws of party p's alphas
  unfoldable pub run : Local n → List (Local n) → (ℕ → ℕ → List ℕ) → List ℕ → List ℕ
  run l [] α t = done l t
  run l (m ∷ ms) α t = run m ms (λ i. α (suc i)) (s.inv (α 0) (done l t))

  unfoldable pub plain-run : Local n → List (Local n) → List ℕ → List ℕ
  plain-run l [] x = plain l x
  plain-run l (m ∷ ms) x = plain-run m ms (s.plainly (plain l x))

  pub length_run : (l : Local n) (ms : List (Local n)) (α : ℕ → ℕ → List ℕ) (t : List ℕ) → length t ≡ 6 * n → length (run l ms α t) ≡ 6 * n
  unfolding run
  length_run l [] α t e = length-done l t e
  length_run l (m ∷ ms) α t e = length_run m ms (λ i. α (suc i)) _ (s.long (α 0) (done l t) (length-done l t e))

  pub run-consistent : (l : Local n) (ms : List (Local n)) (α : ℕ → ℕ → List ℕ) (t : List ℕ) → length t ≡ 6 * n → Consistent n t
      → Consistent n (run l ms α t)
  unfolding run
  run-consistent l [] α t e c = done-consistent l t e c
  run-consistent l (m ∷ ms) α t e c =
      let d = length-done l t e in
      run-consistent m ms (λ i. α (suc i)) _ (s.long (α 0) (done l t) d) (s.consistent (α 0) (done l t) d (done-consistent l t e c))

  pub run-opened : (l : Local n) (ms : List (Local n)) (α : ℕ → ℕ → List ℕ) (t : List ℕ) → length t ≡ 6 * n → Consistent n t
      → ((i : ℕ) → i < length ms → CancelTo s.used (α i)) → opened n (run l ms α t) ≡ plain-run l ms (opened n t)
  unfolding run plain-run
  run-opened l [] α t e c g = done-opened l t e
  run-opened l (m ∷ ms) α t e c g =
      let u = done l t in
      let d : length u ≡ 6 * n = length-done l t e in
      let k : Consistent n u = done-consistent l t e c in
      run-opened m ms (λ i. α (suc i)) (s.inv (α 0) u) (s.long (α 0) u d) (s.consistent (α 0) u d k) (λ i h. g (suc i) (suc-le-suc h))
      ∙ ap (plain-run m ms) (s.opens (α 0) u d k (g 0 (zero-lt-suc (length ms))) ∙ ap s.plainly (done-opened l t e))

  -- ---- one map more, at the end

  pub run_more : (l : Local n) (ms : List (Local n)) (m : Local n) (α : ℕ → ℕ → List ℕ) (t : List ℕ)
      → run l (ms ++ (m ∷ [])) α t ≡ done m (s.inv (α (length ms)) (run l ms α t))
  unfolding run
  run_more l [] m α t = refl
  run_more l (k ∷ ms) m α t = run_more k ms m (λ i. α (suc i)) (s.inv (α 0) (done l t))

  pub plain-run_more : (l : Local n) (ms : List (Local n)) (m : Local n) (x : List ℕ)
      → plain-run l (ms ++ (m ∷ [])) x ≡ plain m (s.plainly (plain-run l ms x))
  unfolding plain-run
  plain-run_more l [] m x = refl
  plain-run_more l (k ∷ ms) m x = plain-run_more k ms m (s.plainly (plain l x))
