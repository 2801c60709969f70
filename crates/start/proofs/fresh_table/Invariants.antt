-- The nodes before `i` are their own parents.
use Rattle.std.proofs.Common.{length, map}
use Rattle.basics.proofs.Taken.{Taken}
use Rattle.word.specs.Word.{encode}
use Rattle.rules.specs.Table.{fresh}
use Rattle.start.proofs.fresh_table.Given as goal

abbrev pub invariant-loop-i : goal.invariant-loop-i
invariant-loop-i l = Taken 0 l.initial.table (map encode (fresh (length l.initial.table))) l.i l.table
