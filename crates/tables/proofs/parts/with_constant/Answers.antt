-- `tables::parts::with_constant` meets its contract: a party of three is given its share of the constant. Assumes nothing.
use Rattle.std.proofs.Common.{ℕ, ap, refl, ◌∙◌, arith, map}
use Rattle.fips197.specs.Field.{affine_constant}
use Rattle.lists.proofs.Filling.{filling_start, filling-more, filling_read, filling_end, mapped}
use Rattle.tables.proofs.PartMaps.{constant_given, constant_held}
use Rattle.tables.proofs.parts.with_constant.Goals as goal

pub returns-in_default : goal.returns-in_default
unfolding affine_constant
returns-in_default g c =
    let s = constant_given c.args.k _ c.requires.1.0 _ c.constant.ensures in
    absurd (c.in_default.not-Ok s.0 s.1)

pub loop-x-init : goal.loop-x-init
loop-x-init g c = (c.requires.1.1.0, filling_start _ _ _ refl)

pub loop-x-preserved : goal.loop-x-preserved
loop-x-preserved g c =
    let i = c.loop-x.invariant in
    let read = filling_read _ _ _ _ _ i.1 c.loop-x.x-index 0 (omega arith) in
    (i.0, filling-more _ _ _ _ _ i.1 _ (omega arith) (c.requires.1.1.1 _ _ _ c.f.ensures ∙ ap (λ (x : ℕ). g.gives x c.half_held-c.result) read))

pub returns-clause-bytes : goal.returns-clause-bytes
unfolding affine_constant
returns-clause-bytes g c =
    let h = c.half_held-c.ensures ∙ constant_held c.args.k _ _ c.requires.1.0 c.in-Ok.ensures in
    filling_end _ _ _ _ _ c.loop-x.invariant.1 (omega arith) ∙ mapped _ (λ x. g.gives x c.half_held-c.result) c.args.part.now refl
    ∙ ap (λ (b : ℕ). map (λ x. g.gives x b) c.args.part.now) h
