-- The loop of `tables::parts::with_constant`: f was called on the bytes before the index. Assumes nothing.
use Rattle.std.proofs.Common.{length, get_or}
use Rattle.lists.proofs.Filling.{Filling}
use Rattle.tables.proofs.parts.with_constant.Given as goal

abbrev pub invariant-loop-x : goal.invariant-loop-x
invariant-loop-x g l = goal.F-IsAlwaysCallable g l.f × Filling (λ i. g.gives (get_or l.initial.part i 0) l.c) (length l.initial.part) l.initial.part l.x-index l.part
