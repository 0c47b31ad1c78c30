-- A function of state tables of b blocks that is a run of R inversions, and whose plain run changes each block: what it promises of lengths,
-- consistency and opening, on states and in byte order. The cipher and the inverse are such. Assumes nothing.
use Prim.Native.Nat.{ℕ, ◌*◌, ◌≤◌}
use native.Mathlib.Omega.{arith}
use mathlib.Core.Path.{◌≡◌, ap, ◌∙◌}
use mathlib.Core.List.{List}
use lib.ListN.{length}
use Rattle.fips197.specs.State.{from_bytes, to_bytes}
use Rattle.rep3.specs.Tables.{Consistent, opened, Cancel}
use Rattle.rep3.proofs.Opening.{length-opened}
use Rattle.chain.specs.Chain.{inversion_need}
use Rattle.layers.specs.Layers.{each_block}
use Rattle.layers.proofs.EachBlock.{KeepsBlock}
use Rattle.aes.specs.Runs.{alphas_of}
use Rattle.runs.proofs.Local.{Local}
use Rattle.runs.proofs.Run.{run, plain-run, length_run, run-consistent, run-opened}
use Rattle.runs.proofs.Inverting.{inverting, alphas_cancel}
use Rattle.runs.proofs.ByteOrder.{length-rows, rows-consistent, rows-opened, bytes-consistent, bytes-opened, each_between}

pub record BlockRun (b R : ℕ) (alphas : List ℕ) (F f : List ℕ → List ℕ) : Type 0 where
  pub first : Local (16 * b)
  pub maps : List (Local (16 * b))
  pub inversions : 1 ≤ R → length maps ≡ R
  pub runs : (t : List ℕ) → length t ≡ 6 * (16 * b) → F t ≡ run (inverting (16 * b)) first maps (alphas_of (16 * b) R alphas) t
  pub plainly : (x : List ℕ) → length x ≡ 16 * b → plain-run (inverting (16 * b)) first maps x ≡ each_block f x
  pub keeps : KeepsBlock f

module _ {b R : ℕ} {alphas : List ℕ} {F f : List ℕ → List ℕ} (r : BlockRun b R alphas F f) where
  abbrev α : ℕ → ℕ → List ℕ
  α = alphas_of (16 * b) R alphas

  -- ---- on states

  module _ (t : List ℕ) (e : length t ≡ 96 * b) where
    six : length t ≡ 6 * (16 * b)
    six = omega arith

    pub length_blocks : length (F t) ≡ 96 * b
    length_blocks = ap length (r.runs t six) ∙ length_run (inverting (16 * b)) r.first r.maps α t six ∙ omega arith

    pub blocks-consistent : Consistent (16 * b) t → Consistent (16 * b) (F t)
    blocks-consistent c = rw (r.runs t six) (run-consistent (inverting (16 * b)) r.first r.maps α t six c)

    pub blocks-opened : Consistent (16 * b) t → 1 ≤ R → Cancel (R * inversion_need (16 * b)) alphas
        → opened (16 * b) (F t) ≡ each_block f (opened (16 * b) t)
    unfolding inverting
    blocks-opened c one cancel =
        let l : length r.maps ≡ R = r.inversions one in
        ap (opened (16 * b)) (r.runs t six)
        ∙ run-opened (inverting (16 * b)) r.first r.maps α t six c (λ i h. alphas_cancel (16 * b) R alphas cancel i (omega arith))
        ∙ r.plainly (opened (16 * b) t) (length-opened (16 * b) t six)

  -- ---- in byte order

  module _ (d : List ℕ) (e : length d ≡ 96 * b) (c : Consistent (16 * b) d) where
    long : length (F (each_block from_bytes d)) ≡ 96 * b
    long = length_blocks (each_block from_bytes d) (length-rows b d e)

    pub blocks-consistent-bytes : Consistent (16 * b) (each_block to_bytes (F (each_block from_bytes d)))
    blocks-consistent-bytes = bytes-consistent b _ long (blocks-consistent _ (length-rows b d e) (rows-consistent b d e c))

    pub blocks-opened-bytes : 1 ≤ R → Cancel (R * inversion_need (16 * b)) alphas
        → opened (16 * b) (each_block to_bytes (F (each_block from_bytes d))) ≡ each_block (λ s. to_bytes (f (from_bytes s))) (opened (16 * b) d)
    blocks-opened-bytes one cancel =
        bytes-opened b _ long
        ∙ ap (each_block to_bytes)
        (blocks-opened _ (length-rows b d e) (rows-consistent b d e c) one cancel ∙ ap (each_block f) (rows-opened b d e))
        ∙ each_between f r.keeps (opened (16 * b) d)
