-- The lent report as a list of numbers.
--
--   row_in numbers at        the row whose four numbers start at a place
--   stored numbers at row    the report with those four written
--   flat_rows rows           the report's numbers, four a request
--   rows_of numbers          the rows of a report, four numbers each
use Rattle.std.specs.Prelude.{List, [], ◌∷◌, ℕ, ◌+◌, get_or, set}
use Rattle.rules.specs.declared.Row.{Row}

abbrev pub row_in : List ℕ → ℕ → Row
row_in numbers at =
    record {
      answer = get_or numbers at 0;
      first = get_or numbers (at + 1) 0;
      last = get_or numbers (at + 2) 0;
      used = get_or numbers (at + 3) 0;
    }

abbrev pub stored : List ℕ → ℕ → Row → List ℕ
stored numbers at row =
    set (set (set (set numbers at row.answer) (at + 1) row.first) (at + 2) row.last) (at + 3) row.used

-- Each request gets four numbers: answer, first grant, last grant, grants used.
abbrev pub flat_rows : List Row → List ℕ
flat_rows [] = []
flat_rows (row ∷ rows) = row.answer ∷ row.first ∷ row.last ∷ row.used ∷ flat_rows rows

-- The same read back.
abbrev pub rows_of : List ℕ → List Row
rows_of [] = []
rows_of (a ∷ []) = []
rows_of (a ∷ f ∷ []) = []
rows_of (a ∷ f ∷ l ∷ []) = []
rows_of (a ∷ f ∷ l ∷ u ∷ numbers) = record { answer = a; first = f; last = l; used = u } ∷ rows_of numbers
