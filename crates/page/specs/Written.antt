-- What the loop leaves that writes a call's page.
--
--   page_length n       the bytes of a page of n rows, which is also where the lines of row n begin
--   lined rows n page   the lent page, with the lines of the first n rows written on it
use Rattle.std.specs.Prelude.{List, ℕ, zero, suc, ◌+◌, ◌*◌, ◌/◌, get_or}
use Rattle.std.proofs.lemmas.List.Edits.{sets}
use Rattle.page.specs.declared.Row.{Row}
use Rattle.page.specs.Rows.{no_row}
use Rattle.page.specs.Page.{row_lines}

-- Lines are 32 characters and a line feed, and a heading goes with each twenty rows that are begun.
abbrev pub page_length : ℕ → ℕ
page_length n = 33 * (n + (n + 19) / 20)

abbrev pub lined : List Row → ℕ → List ℕ → List ℕ
lined rows zero page = page
lined rows (suc n) page = sets (lined rows n page) (page_length n) (row_lines n (get_or rows n no_row))
