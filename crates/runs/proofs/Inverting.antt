-- Inversion of all n positions as the step of a run, and the alphas that each step of a cipher or an inverse draws: where those of the whole
-- buffer cancel, so do these. Assumes nothing.
use Prim.Native.Nat.{ℕ, ◌+◌, ◌*◌, ◌≤◌, ◌<◌}
use native.Mathlib.Omega.{arith}
use mathlib.Core.List.{List, map}
use Rattle.fips197.specs.Field.{inverse}
use Rattle.lists.proofs.Chunks.{apart, get_d_chunk}
use Rattle.rep3.specs.Tables.{Cancel}
use Rattle.chida.specs.Inversion.{inversion_of}
use Rattle.chain.specs.Chain.{inversion_need}
use Rattle.chida.proofs.OpensInversion.{CancelTo, length-inversion_of, inversion-consistent, inversion-opened}
use Rattle.aes.specs.Runs.{alphas_of}
use Rattle.runs.proofs.Run.{Step}

unfoldable pub inverting : (n : ℕ) → Step n
inverting n =
    record {
      inv = inversion_of n;
      used = 4 * n;
      plainly = map inverse;
      long = λ α t e. length-inversion_of n α t;
      consistent = λ α t e c. inversion-consistent n α t;
      opens = λ α t e c g. inversion-opened n t e c α g;
    }

pub alphas_cancel : (n R : ℕ) (alphas : List ℕ) → Cancel (R * inversion_need n) alphas → (r : ℕ) → r < R
    → CancelTo (4 * n) (alphas_of n R alphas r)
unfolding Cancel alphas_of inversion_need
alphas_cancel n R alphas cancel r h j g =
    let w : r * (4 * n) + 4 * n ≤ R * (4 * n) = apart (4 * n) r R h in
    simp get_d_chunk (cancel (r * (4 * n) + j) (omega arith))
