-- A run of K rounds and a last round, each an inversion and then a local map: what it takes to show that tables, or what they open to, go
-- through such a run, when they are given round by round. Assumes nothing.
use Prim.Native.Nat.{ℕ, zero, suc, ◌≤◌, ◌<◌}
use native.Mathlib.Nat.{le_refl}
use native.Mathlib.Omega.{arith}
use mathlib.Core.Path.{◌≡◌, refl, sym, ap, ◌∙◌}
use mathlib.Core.List.{List, [], ◌∷◌, ◌++◌}
use lib.ListN.{length, length-append}
use Rattle.runs.proofs.Local.{Local, done, plain}
use Rattle.runs.proofs.Run.{Step, run, plain-run, run_more, plain-run_more}

-- l before the rounds, m r after inversion r, z after the last
module _ {n : ℕ} (s : Step n) (K : ℕ) (l : Local n) (m : (r : ℕ) → r < K → Local n) (z : Local n) where
  below : (r : ℕ) → r < K → r ≤ K
  below r h = omega arith

  maps : (r : ℕ) → r ≤ K → List (Local n)
  maps zero h = []
  maps (suc r) h = maps r (below r h) ++ (m r h ∷ [])

  length-maps : (r : ℕ) (h : r ≤ K) → length (maps r h) ≡ r
  unfolding maps
  length-maps zero h = refl
  length-maps (suc r) h = length-append (maps r (below r h)) (m r h ∷ []) ∙ omega (arith, length-maps r (below r h))

  pub round_maps : List (Local n)
  round_maps = maps K (le_refl K) ++ (z ∷ [])

  pub length-round_maps : length round_maps ≡ suc K
  unfolding round_maps
  length-round_maps = length-append (maps K (le_refl K)) (z ∷ []) ∙ omega (arith, length-maps K (le_refl K))

  -- ---- tables, T r after r rounds

  module _ (α : ℕ → ℕ → List ℕ) (t : List ℕ) (T : ℕ → List ℕ) where
    more : (ms : List (Local n)) (k : Local n) (r : ℕ) → length ms ≡ r → T r ≡ run s l ms α t
        → done k (s.inv (α r) (T r)) ≡ run s l (ms ++ (k ∷ [])) α t
    more ms k r e p = rw (p, ← e) (sym (run_more s l ms k α t))

    module _ (start : T 0 ≡ done l t) (next : (r : ℕ) (h : r < K) → T (suc r) ≡ done (m r h) (s.inv (α r) (T r))) where
      after : (r : ℕ) (h : r ≤ K) → T r ≡ run s l (maps r h) α t
      unfolding maps run
      after zero h = start
      after (suc r) h = next r h ∙ more (maps r (below r h)) (m r h) r (length-maps r (below r h)) (after r (below r h))

      pub rounds-run : done z (s.inv (α K) (T K)) ≡ run s l round_maps α t
      unfolding round_maps
      rounds-run = more (maps K (le_refl K)) z K (length-maps K (le_refl K)) (after K (le_refl K))

  -- ---- what they open to, P r after r rounds

  module _ (x : List ℕ) (P : ℕ → List ℕ) (start : P 0 ≡ plain l x)
      (next : (r : ℕ) (h : r < K) → P (suc r) ≡ plain (m r h) (s.plainly (P r)))
    where
      plain-after : (r : ℕ) (h : r ≤ K) → P r ≡ plain-run s l (maps r h) x
      unfolding maps plain-run
      plain-after zero h = start
      plain-after (suc r) h =
          next r h ∙ ap (λ (y : List ℕ). plain (m r h) (s.plainly y)) (plain-after r (below r h))
          ∙ sym (plain-run_more s l (maps r (below r h)) (m r h) x)

      pub rounds-plain : plain z (s.plainly (P K)) ≡ plain-run s l round_maps x
      unfolding round_maps
      rounds-plain =
          ap (λ (y : List ℕ). plain z (s.plainly y)) (plain-after K (le_refl K)) ∙ sym (plain-run_more s l (maps K (le_refl K)) z x)
