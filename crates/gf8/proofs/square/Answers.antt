-- `gf8::square` meets its contract: the table's rule is one computed test. Assumes nothing.
use Rattle.std.proofs.Common.{rules}
use Rattle.fips197.specs.Field.{◌⊕◌, bit, times_n, modulus, reduce_n, ◌·◌, square}
use Rattle.gf8.proofs.Table.{table}
use Rattle.gf8.specs.declared.square_table.TheConstants.{TABLE}
use Rattle.gf8.proofs.square.Goals as goal

pub returns : goal.returns
unfolding ◌⊕◌ bit times_n modulus reduce_n ◌·◌ square
returns c = table square TABLE tt tt c.args.a (search rules)
