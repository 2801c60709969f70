-- `records::put_rows`: the records of the rows before the row are stored, whatever each call is known to store.
use Rattle.std.proofs.Common.{ℕ, List, ◌≡◌, ◌+◌, ◌*◌, ◌<◌, length, get_or, MutBor}
use Rattle.writer.specs.Write.{Put}
use Rattle.writer.proofs.Rows.{RowsPut}
use Rattle.writer.proofs.records.put_rows.Given as goal

abbrev pub invariant-loop-row : goal.invariant-loop-row
invariant-loop-row g l =
    (l.at ≡ l.start + l.size * l.row-index)
    × ((bytes : g.row.R.Denot → List ℕ)
    → ((i : ℕ) (row : g.row.R.Denot) (before : MutBor (List ℕ)) (at : ℕ) (after : MutBor (List ℕ)) → i < length l.rows
    → row ≡ get_or l.rows i row → goal.F-post g l.put before at row tt after → Put l.size (bytes row) at before.now after.now)
    → RowsPut bytes l.size l.start l.rows l.fn.out l.row-index l.out)
