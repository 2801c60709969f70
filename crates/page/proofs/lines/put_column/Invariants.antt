-- Spaces are written until the digits fill the column.
use Rattle.page.proofs.Columns.{Padding}
use Rattle.page.proofs.lines.put_column.Given as goal

abbrev pub invariant-loop : goal.invariant-loop
invariant-loop l = Padding l.initial.counter l.counter l.at l.fn.page l.page l.next
