-- `chain::link_up` writes the root, and then each node from the back: the nodes that are left, linked, make the chain.
use Rattle.std.proofs.Common.{◌≡◌}
use Rattle.chain.specs.Chain.{below}
use Rattle.chain.proofs.link_up.Given as goal

abbrev pub invariant-loop-i : goal.invariant-loop-i
invariant-loop-i l = below l.i l.table ≡ below l.last l.initial.table
