-- The table's words stand at the front.
use Rattle.std.proofs.Common.{arith}
use Rattle.query.proofs.Copies.{copied}
use Rattle.query.proofs.copy_in.Goals as goal

pub returns : goal.returns
returns c = copied c.args.nodes.now c.args.table.now _ c.copy_from_slice.ensures.after (omega (arith, c.requires, c.told-nodes))
