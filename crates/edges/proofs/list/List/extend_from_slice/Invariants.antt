-- `list::List::extend_from_slice`: the items so far and those that are left are all.
use Rattle.std.proofs.Common.{◌≡◌, ◌++◌, drop}
use Rattle.edges.proofs.list.List.extend_from_slice.Given as goal

abbrev pub invariant-loop-item : goal.invariant-loop-item
invariant-loop-item g l = l.self ++ drop l.item-index l.items ≡ l.fn.self ++ l.items
