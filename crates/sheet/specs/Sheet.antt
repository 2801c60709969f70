-- Document 02, A5: the text of a sheet, for any rule of which requests are seen. The file's rights, which
-- make such a rule, are no part of it.
--
--   seen q                      the rule: request number q of the file is seen
--   seen_numbers seen n         the seen numbers below n, rising
--   number_of seen q            the number that the seen request q has on the sheet
--   up_to n                     the numbers below n, rising
--   point_in entries q          the point of request q's entry; 0 where it has none
--   row_line n row              the line of a request: its number on the sheet and its four report numbers
--   seen_line seen report q     the line of request q where it is seen, else nothing
--   request_lines seen report   the lines of the seen requests
--   entry_lines seen entries    the lines of the seen requests' entries
--   sheet_text seen report entries   the text
use Rattle.std.specs.Prelude.{Bool, true, cond, List, [], ◌∷◌, ◌++◌, ℕ, eqb, length}
use Rattle.basics.specs.Count.{count, passing_below}
use Rattle.text.specs.Text.{each}
use Rattle.listing.specs.Listing.{request_line, entry_line}
use Rattle.linearization.specs.Entry.{Entry}
use Rattle.rules.specs.declared.Row.{Row}
use Rattle.rules.specs.Report.{row_at}

-- What a gapless numbering from 0 uses.
abbrev pub up_to : ℕ → List ℕ
up_to = passing_below (λ i. true)

-- Points are grants, which count from 1: no entry has the point 0.
abbrev pub point_in : List Entry → ℕ → ℕ
point_in [] q = 0
point_in (e ∷ es) q = cond (eqb e.request q) e.point (point_in es q)

-- "each with its four report numbers": answer, first grant, last grant, grants used.
abbrev pub row_line : ℕ → Row → List ℕ
row_line n row = request_line n row.answer row.first row.last row.used

module _ (seen : ℕ → Bool) where
  -- The seen requests in file order.
  abbrev pub seen_numbers : ℕ → List ℕ
  seen_numbers = passing_below seen

  -- "numbered from 0 among themselves": by how many seen requests stand before it in the file.
  abbrev pub number_of : ℕ → ℕ
  number_of q = count seen q

  -- "lists the requests of the heads it may see", and no others.
  abbrev pub seen_line : List Row → ℕ → List ℕ
  seen_line report q = cond (seen q) (row_line (number_of q) (row_at report q)) []

  -- "in file order"
  abbrev pub request_lines : List Row → List ℕ
  request_lines report = each (seen_line report) (length report)

  -- "and their line-up": in its own order, each request by its number on the sheet.
  abbrev pub entry_lines : List Entry → List ℕ
  entry_lines [] = []
  entry_lines (e ∷ es) = cond (seen e.request) (entry_line e.point (number_of e.request)) [] ++ entry_lines es

  -- "written as the listing's request and line lines"
  unfoldable pub sheet_text : List Row → List Entry → List ℕ
  sheet_text report entries = request_lines report ++ entry_lines entries
