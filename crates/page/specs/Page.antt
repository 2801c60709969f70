-- Document 02, A1: the page made from rows, and the call's outcome.
--
--   right_aligned text        a text right-aligned in 8 characters
--   columns texts             texts side by side, each right-aligned
--   line_of texts             a line of such columns
--   names                     the names of the columns
--   heading, row_line r       the line of the names, and of the row r
--   row_lines i r             the lines of row number i: its own, and a heading before it where one is due
--   lines_to rows n, page_of rows   the lines of the first n rows, and of all of them: the page
--   page_refusal words rows page   the refusal's number for a list of so many rows and a page of so many bytes, 0 for none
--   Outcome                   the answer, and what both buffers hold at exit
--   paged_of words rows page  the outcome for the lent rows and page
use Rattle.std.specs.Prelude.{cond, List, [], ◌∷◌, ◌++◌, map, ℕ, ◌+◌, ◌-◌, ◌%◌, eqb, ltb, length, get_or, drop, replicate}
use Rattle.word.specs.Word.{decode}
use Rattle.text.specs.Text.{decimal, each}
use Rattle.table.specs.Admitted.{table_refusal}
use Rattle.page.specs.declared.Row.{Row}
use Rattle.page.specs.declared.Paged.{Paged}
use Rattle.page.specs.Rows.{no_row, group_rows}

-- Each field is right-aligned in 8. ASCII 32 is a space.
abbrev pub right_aligned : List ℕ → List ℕ
right_aligned text = replicate (8 - length text) 32 ++ text

abbrev pub columns : List (List ℕ) → List ℕ
columns [] = []
columns (text ∷ texts) = right_aligned text ++ columns texts

-- ASCII 10 is a line feed.
abbrev pub line_of : List (List ℕ) → List ℕ
line_of texts = columns texts ++ (10 ∷ [])

-- "group", "size", "root", "rank".
abbrev pub names : List (List ℕ)
names =
    (103 ∷ 114 ∷ 111 ∷ 117 ∷ 112 ∷ [])
    ∷ (115 ∷ 105 ∷ 122 ∷ 101 ∷ [])
    ∷ (114 ∷ 111 ∷ 111 ∷ 116 ∷ [])
    ∷ (114 ∷ 97 ∷ 110 ∷ 107 ∷ [])
    ∷ []

-- They stand in the same columns.
unfoldable pub heading : List ℕ
heading = line_of names

unfoldable pub row_line : Row → List ℕ
row_line r = line_of (map decimal (r.lowest ∷ r.size ∷ r.root ∷ r.rank ∷ []))

-- The heading stands before rows 1, 21, 41 and so on, which are numbers 0, 20, 40.
abbrev pub row_lines : ℕ → Row → List ℕ
row_lines i r = cond (eqb (i % 20) 0) (heading ++ row_line r) (row_line r)

-- The lines of the first n rows.
abbrev pub lines_to : List Row → ℕ → List ℕ
lines_to rows n = each (λ i. row_lines i (get_or rows i no_row)) n

unfoldable pub page_of : List Row → List ℕ
page_of rows = lines_to rows (length rows)

-- The table is checked as an enquiry's is. 17 when the row list is shorter than the groups or the page buffer than the page,
-- after 15 and 16.
abbrev pub page_refusal : List ℕ → ℕ → ℕ → ℕ
page_refusal words rows page =
    cond (eqb (table_refusal words) 0)
    (cond (ltb rows (length (group_rows (map decode words)))) 17
    (cond (ltb page (length (page_of (group_rows (map decode words))))) 17 0))
    (table_refusal words)

pub record Outcome : Type 0 where
  pub answer : Paged
  pub rows : List Row
  pub page : List ℕ

-- The answer is the rows and bytes written.
abbrev pub written_answer : List Row → Paged
written_answer found = record { number = 0; rows = length found; bytes = length (page_of found) }

-- A refusal gives its number, and zero for both.
abbrev pub refused_answer : ℕ → Paged
refused_answer number = record { number = number; rows = 0; bytes = 0 }

-- Rows and bytes past those written stay.
abbrev pub written : List Row → List Row → List ℕ → Outcome
written found rows page =
    record {
      answer = written_answer found;
      rows = found ++ drop (length found) rows;
      page = page_of found ++ drop (length (page_of found)) page;
    }

-- A refusal writes nothing.
abbrev pub refused : ℕ → List Row → List ℕ → Outcome
refused number rows page = record { answer = refused_answer number; rows = rows; page = page }

unfoldable pub paged_of : List ℕ → List Row → List ℕ → Outcome
paged_of words rows page =
    cond (eqb (page_refusal words (length rows) (length page)) 0)
    (written (group_rows (map decode words)) rows page)
    (refused (page_refusal words (length rows) (length page)) rows page)
