-- Document 01, "Played cases": the text that a played job prints, and refusal 14 where a buffer is too short for it.
--
--   job_name .. refused_name   the names of the lines
--   job_line p, tally_line y   the lines of the counts and of the tally
--   refused_line number        the line of a refusal
--   request_line n a f l u     the line of a request, by its number and its four
--   entry_line p q             the line of an entry, by its point and its request
--   report_line n report i     the line of request i under the number n, from the report's buffer
--   Section                    the parts of the text that have a line for each place, request or entry
--   row s buffer i             line number i of section s, from the numbers in the section's buffer
--   row_size s                 how many numbers of its buffer a line of section s shows
--   rows p t r l               the lines of all words, requests and entries
--   accepted p t r l           the text of a play that was not refused
--   listing p t r l            the text of the play p with table t, report r and linearization l
--   sources_short p t r l      a buffer of numbers is shorter than what its lines show
--   too_short p t r l out      that, or `out` is shorter than the text
--   listed p t r l out         the answer: 14, or the number of bytes
--   listed_told r              what is told of an answer
--   printed p t r l out        the buffer `out` afterwards
--   Enough p t r l             table t, report r and linearization l hold all that the text of p shows
--   Narrow t r l               their numbers have 32 bits
use Rattle.std.specs.Prelude.{Bool, true, cond, List, [], ◌∷◌, ◌++◌, ℕ, ◌+◌, ◌*◌, ◌^◌, ◌≤◌, ◌<◌, eqb, ltb, length, get_or, drop, Result}
use Rattle.std.specs.declared.result.Result.TheVariants.{Ok, Err}
use Rattle.job.specs.Refusal.{number_of}
use Rattle.job.specs.declared.refusal.Refusal.{Refusal}
use Rattle.job.specs.declared.Played.{Played}
use Rattle.job.specs.declared.Tally.{Tally}
use Rattle.word.specs.Word.{rank_of, parent_of}
use Rattle.text.specs.Text.{line, each}
use Rattle.listing.specs.declared.Listed.{Listed}

-- The names of the lines, in ASCII: job, word, request, line, tally, refused.
abbrev pub job_name : List ℕ
job_name = 106 ∷ 111 ∷ 98 ∷ []

abbrev pub word_name : List ℕ
word_name = 119 ∷ 111 ∷ 114 ∷ 100 ∷ []

abbrev pub request_name : List ℕ
request_name = 114 ∷ 101 ∷ 113 ∷ 117 ∷ 101 ∷ 115 ∷ 116 ∷ []

abbrev pub line_name : List ℕ
line_name = 108 ∷ 105 ∷ 110 ∷ 101 ∷ []

abbrev pub tally_name : List ℕ
tally_name = 116 ∷ 97 ∷ 108 ∷ 108 ∷ 121 ∷ []

abbrev pub refused_name : List ℕ
refused_name = 114 ∷ 101 ∷ 102 ∷ 117 ∷ 115 ∷ 101 ∷ 100 ∷ []

-- job: places, heads, requests, grants.
abbrev pub job_line : Played → List ℕ
job_line p = line job_name (p.nodes ∷ p.heads ∷ p.requests ∷ p.grants ∷ [])

-- request: number, then its four (answer, first grant, last grant, grants used).
abbrev pub request_line : ℕ → ℕ → ℕ → ℕ → ℕ → List ℕ
request_line number answer first last used = line request_name (number ∷ answer ∷ first ∷ last ∷ used ∷ [])

-- line: point, request.
abbrev pub entry_line : ℕ → ℕ → List ℕ
entry_line point request = line line_name (point ∷ request ∷ [])

-- Of request i the report has four numbers. The listing's own number for it is i.
abbrev pub report_line : ℕ → List ℕ → ℕ → List ℕ
report_line number report i =
    request_line number (get_or report (4 * i) 0) (get_or report (4 * i + 1) 0) (get_or report (4 * i + 2) 0) (get_or report (4 * i + 3) 0)

pub data Section : Type 0 where
  Words : Section
  Requests : Section
  Entries : Section

-- word: place, parent, rank. A request and an entry are read from their buffers.
abbrev pub row : Section → List ℕ → ℕ → List ℕ
row Words table i = line word_name (i ∷ parent_of (get_or table i 0) ∷ rank_of (get_or table i 0) ∷ [])
row Requests report i = report_line i report i
row Entries linearization i = entry_line (get_or linearization (2 * i) 0) (get_or linearization (2 * i + 1) 0)

-- A place has one number in the table, a request four in the report, an entry two in the line-up.
abbrev pub row_size : Section → ℕ
row_size Words = 1
row_size Requests = 4
row_size Entries = 2

-- tally: idle grants, failed swaps, links, heads with work left.
abbrev pub tally_line : Tally → List ℕ
tally_line y = line tally_name (y.idle ∷ y.failed ∷ y.links ∷ y.working ∷ [])

-- A refusal prints only one line, "refused" and the number.
abbrev pub refused_line : ℕ → List ℕ
refused_line number = line refused_name (number ∷ [])

-- A text has the number 0 and its length; a refusal has its number and zero.
abbrev pub listed_told : Result ℕ Refusal → Listed
listed_told (Ok bytes) = record { number = 0; bytes = bytes }
listed_told (Err refusal) = record { number = number_of refusal; bytes = 0 }

module _ (played : Played) (table report linearization : List ℕ) where
  -- Numbers past the places, the requests and the entries are not printed.
  abbrev pub rows : List ℕ
  rows =
      each (row Words table) played.nodes
      ++ (each (row Requests report) played.requests
      ++ each (row Entries linearization) played.entries)

  abbrev pub accepted : List ℕ
  accepted = job_line played ++ (rows ++ tally_line played.tally)

  unfoldable pub listing : List ℕ
  listing = cond (eqb played.number 0) accepted (refused_line played.number)

  -- 14: table shorter than the places, report shorter than four numbers a request, line-up shorter than two an entry.
  -- A refused play has zero for every count, so that its line asks for none of the three.
  abbrev pub sources_short : Bool
  sources_short =
      cond (ltb (length table) (row_size Words * played.nodes)) true
      (cond (ltb (length report) (row_size Requests * played.requests)) true
      (ltb (length linearization) (row_size Entries * played.entries)))

  -- 14 too: the buffer for the text is shorter than the text.
  abbrev pub too_short : List ℕ → Bool
  too_short out = cond sources_short true (ltb (length out) (length listing))

  -- A refusal gives its number and zero for every count.
  unfoldable pub listed : List ℕ → Listed
  listed out = cond (too_short out) (record { number = 14; bytes = 0 }) (record { number = 0; bytes = length listing })

  -- A refusal writes nothing; bytes beyond what is written stay.
  unfoldable pub printed : List ℕ → List ℕ
  printed out = cond (too_short out) out (listing ++ drop (length listing) out)

-- ---- for the inner functions

pub record Enough (played : Played) (table report linearization : List ℕ) : Type 0 where
  pub words : row_size Words * played.nodes ≤ length table
  pub requests : row_size Requests * played.requests ≤ length report
  pub entries : row_size Entries * played.entries ≤ length linearization

pub record Narrow (table report linearization : List ℕ) : Type 0 where
  pub words : (k : ℕ) → get_or table k 0 < 2 ^ 32
  pub requests : (k : ℕ) → get_or report k 0 < 2 ^ 32
  pub entries : (k : ℕ) → get_or linearization k 0 < 2 ^ 32
