-- The places before i are gathered.
use Rattle.std.proofs.Common.{map}
use Rattle.word.specs.Word.{decode}
use Rattle.page.proofs.Gathering.{Gathering}
use Rattle.page.proofs.groups.gathered.Given as goal

abbrev pub invariant-loop-i : goal.invariant-loop-i
invariant-loop-i l =
    Gathering (map decode l.table.words.now) l.i (record { count = l.count; groups = l.groups; size = l.size })
