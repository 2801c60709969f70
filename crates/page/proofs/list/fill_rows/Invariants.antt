-- The first k rows are filled.
use Rattle.std.proofs.Common.{◌≡◌, ◌++◌, map, take, drop}
use Rattle.word.specs.Word.{decode}
use Rattle.page.specs.Rows.{group_rows}
use Rattle.page.proofs.list.fill_rows.Given as goal

abbrev pub invariant-loop-k : goal.invariant-loop-k
invariant-loop-k l = l.rows ≡ take l.k (group_rows (map decode l.table.words.now)) ++ drop l.k l.fn.rows
