-- A sheet from buffers of numbers: the numbering of the seen requests, made once, and the lines by it.
--
--   number_in seen q           request q's number on the sheet, none where it is not seen
--   Numbered seen n numbers    the numbering of the first n requests
--   line_under number line     the line under that number, and nothing under none
--   request_line_in            the line of request q, by the numbering and the report
--   entry_line_in              the line of entry i, by the numbering and the line-up
--   sheet_in                   the text
--   EntriesNumbered            the entries' requests are numbered
--   Readable                   the buffers have what the text shows
--   Narrow numbers r l         the numbers have 16 bits, and those of the report r and the line-up l 32
--   Holding rows entries r l n the report r has the rows, and the line-up l the entries, n of them
--   HoldingRun file r l n      the same of the run of a file
use Rattle.std.specs.Prelude.{◌≡◌, Bool, cond, List, [], ◌++◌, ℕ, ◌+◌, ◌*◌, ◌^◌, ◌≤◌, ◌<◌, length, get_or, Option, Some, None}
use Rattle.text.specs.Text.{each}
use Rattle.listing.specs.Listing.{report_line, entry_line}
use Rattle.linearization.specs.Entry.{Entry, flat}
use Rattle.rules.specs.declared.Row.{Row}
use Rattle.sheet.specs.Sheet.{number_of}
use Rattle.sheet.specs.Agree.{LineUp, Numbers}
use Rattle.sheet.specs.Call.{run_in}

-- A request's number on the sheet.
abbrev pub number_in : (ℕ → Bool) → ℕ → Option ℕ
number_in seen q = cond (seen q) (Some (number_of seen q)) None

-- One place a request; what is past them does not matter.
pub record Numbered (seen : ℕ → Bool) (n : ℕ) (numbers : List (Option ℕ)) : Type 0 where
  pub long : n ≤ length numbers
  pub each : (q : ℕ) → q < n → get_or numbers q None ≡ number_in seen q
  pub small : (k number : ℕ) → get_or numbers k None ≡ Some number → number < 2 ^ 16

abbrev pub line_under : Option ℕ → (ℕ → List ℕ) → List ℕ
line_under None line = []
line_under (Some number) line = line number

-- A line under its number on the sheet, and none without one.
abbrev pub request_line_in : List (Option ℕ) → List ℕ → ℕ → List ℕ
request_line_in numbers report q = line_under (get_or numbers q None) (λ number. report_line number report q)

-- An entry is a point and a request, of which the numbering tells the number on the sheet.
abbrev pub entry_line_in : List (Option ℕ) → List ℕ → ℕ → List ℕ
entry_line_in numbers linearization i =
    line_under (get_or numbers (get_or linearization (2 * i + 1) 0) None) (entry_line (get_or linearization (2 * i) 0))

-- Requests first, then entries.
abbrev pub sheet_in : List (Option ℕ) → List ℕ → ℕ → List ℕ → ℕ → List ℕ
sheet_in numbers report requests linearization entries =
    each (request_line_in numbers report) requests ++ each (entry_line_in numbers linearization) entries

-- Every entry is of a request that is numbered.
abbrev pub EntriesNumbered : List (Option ℕ) → List ℕ → ℕ → Type 0
EntriesNumbered numbers linearization entries = (i : ℕ) → i < entries → get_or linearization (2 * i + 1) 0 < length numbers

-- The counts do not reach past the buffers.
pub record Readable (numbers : List (Option ℕ)) (report : List ℕ) (requests : ℕ) (linearization : List ℕ) (entries : ℕ) : Type 0 where
  pub numbered : requests ≤ length numbers
  pub rows : 4 * requests ≤ length report
  pub points : 2 * entries ≤ length linearization
  pub listed : EntriesNumbered numbers linearization entries

pub record Narrow (numbers : List (Option ℕ)) (report linearization : List ℕ) : Type 0 where
  pub small : (k number : ℕ) → get_or numbers k None ≡ Some number → number < 2 ^ 16
  pub rows : (k : ℕ) → get_or report k 0 < 2 ^ 32
  pub points : (k : ℕ) → get_or linearization k 0 < 2 ^ 32

-- What is past the rows and the entries does not matter.
pub record Holding (rows : List Row) (entries : List Entry) (report linearization : List ℕ) (count : ℕ) : Type 0 where
  pub line_up : LineUp rows entries
  pub report_long : 4 * length rows ≤ length report
  pub report_rows : Numbers report rows
  pub past : List ℕ
  pub listed : linearization ≡ flat entries ++ past
  pub counted : count ≡ length entries

-- What a play of the file leaves.
abbrev pub HoldingRun : List ℕ → List ℕ → List ℕ → ℕ → Type 0
HoldingRun file = Holding (run_in file).report (run_in file).entries
