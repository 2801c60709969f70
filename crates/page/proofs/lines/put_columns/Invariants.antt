-- The columns of the numbers before this one are written.
use Rattle.std.proofs.Common.{map, take, length}
use Rattle.text.specs.Text.{decimal}
use Rattle.text.proofs.Writing.{Through}
use Rattle.page.specs.Page.{columns}
use Rattle.page.proofs.lines.put_columns.Given as goal

abbrev pub invariant-loop-n : goal.invariant-loop-n
invariant-loop-n l = Through (λ k. columns (map decimal (take k l.fn.numbers))) (length l.fn.numbers) l.n-index l.at l.fn.page l.page l.next
