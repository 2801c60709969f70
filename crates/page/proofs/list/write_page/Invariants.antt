-- The lines of the first i rows are written.
use Rattle.std.proofs.Common.{◌≡◌}
use Rattle.page.specs.Written.{lined}
use Rattle.page.proofs.list.write_page.Given as goal

abbrev pub invariant-loop-i : goal.invariant-loop-i
invariant-loop-i l = l.page ≡ lined l.rows l.i l.fn.page
