-- `gf8::inv_aes_sbox_affine_transform` meets its contract: the table's rule is one computed test. Assumes nothing.
use Rattle.std.proofs.Common.{rules}
use Rattle.fips197.specs.Field.{◌⊕◌, bit, byte_n, inv_affine_bit, inv_affine}
use Rattle.gf8.proofs.Table.{table}
use Rattle.gf8.specs.declared.inv_affine_table.TheConstants.{TABLE}
use Rattle.gf8.proofs.inv_aes_sbox_affine_transform.Goals as goal

pub returns : goal.returns
unfolding ◌⊕◌ bit byte_n inv_affine_bit inv_affine
returns c = table inv_affine TABLE tt tt c.args.a (search rules)
