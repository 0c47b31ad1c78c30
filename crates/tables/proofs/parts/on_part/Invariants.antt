-- What the closures of `tables::parts::on_part` give for a byte and the part's byte of the constant. Assumes nothing.
use Rattle.fips197.specs.Field.{◌⊕◌, affine, inv_affine}
use Rattle.tables.proofs.parts.on_part.Given as goal

abbrev pub ghost-with_constant : goal.ghost-with_constant
ghost-with_constant a = λ x c. affine x ⊕ c

abbrev pub ghost-with_constant-2 : goal.ghost-with_constant-2
ghost-with_constant-2 a = λ x c. inv_affine (x ⊕ c)
