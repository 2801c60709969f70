-- Document 02, A5: sheets of a few runs, and calls on a few files, as two tables.
--
--   Case          the numbers of the requests that are seen, a report, a line-up, and the lines that are expected
--   among ns q    q is one of the numbers ns
--   outcome c     what the definitions leave
--   wanted c      what is expected
--   cases         the table
--   Call          a file, a head, a buffer for the sheet, and what is expected of the call
--   called c      what the definitions leave
--   call, sheet   a case and a sheet, by their parts
--   sample_lines  the sheet of document 01's job
--   joiners, watchers   document 01's requests by two heads with rights: one joins and the other enquires and sees both; one sees
--                 nothing and the other itself
--   wide          a job of 32 heads that all see all
--   waited        a job in which a request waits, and whose head sees itself alone
--   threefold     three requests by three heads, of which head 0 sees itself, head 1 also head 0, and head 2 all
--   before, after two jobs of them that agree on what head 0 sees
--   calls         the table
use Rattle.std.specs.Prelude.{Bool, true, false, cond, List, [], ◌∷◌, ◌++◌, ℕ, eqb, take}
use Prim.Native.String.{String}
use Rattle.listing.specs.Cases.{text, lent}
use Rattle.linearization.specs.Entry.{Entry}
use Rattle.rules.specs.declared.Row.{Row}
use Rattle.rules.specs.Cases.{row, entry}
use Rattle.jobfile.specs.Written.{rights_bytes}
use Rattle.jobfile.specs.Cases.{sample_file, header, right, request, wait, run, close, every_sight, carriers_file}
use Rattle.sheet.specs.Sheet.{sheet_text}
use Rattle.sheet.specs.Call.{Sheet, refusal, sheet_of}

-- ---- sheets of rows and entries

pub record Case : Type 0 where
  pub seen : List ℕ
  pub report : List Row
  pub entries : List Entry
  pub expected : List String

abbrev pub among : List ℕ → ℕ → Bool
among [] q = false
among (n ∷ ns) q = cond (eqb n q) true (among ns q)

abbrev pub outcome : Case → List ℕ
outcome c = sheet_text (among c.seen) c.report c.entries

abbrev pub wanted : Case → List ℕ
wanted c = text c.expected

abbrev pub cases : List Case
cases =
    -- The job that document 01 prints, both of its requests seen: the listing's own lines.
    record {
      seen = 0 ∷ 1 ∷ [];
      report = row 1 3 8 6 ∷ row 4 1 9 3 ∷ [];
      entries = entry 2 1 ∷ entry 7 0 ∷ [];
      expected = "request 0 1 3 8 6" ∷ "request 1 4 1 9 3" ∷ "line 2 1" ∷ "line 7 0" ∷ [];
    }
    ∷
    -- The second alone is number 0.
    record {
      seen = 1 ∷ [];
      report = row 1 3 8 6 ∷ row 4 1 9 3 ∷ [];
      entries = entry 2 1 ∷ entry 7 0 ∷ [];
      expected = "request 0 4 1 9 3" ∷ "line 2 0" ∷ [];
    }
    ∷
    -- None is seen; a number past the requests is none.
    record {
      seen = 2 ∷ [];
      report = row 1 3 8 6 ∷ row 4 1 9 3 ∷ [];
      entries = entry 2 1 ∷ entry 7 0 ∷ [];
      expected = [];
    }
    ∷
    -- Three of five: the first is unlisted, the third has the earlier point.
    record {
      seen = 1 ∷ 2 ∷ 4 ∷ [];
      report = row 1 1 20 9 ∷ row 0 2 0 4 ∷ row 1 3 18 10 ∷ row 0 0 0 0 ∷ row 4 5 12 3 ∷ [];
      entries = entry 6 4 ∷ entry 10 0 ∷ entry 11 2 ∷ [];
      expected = "request 0 0 2 0 4" ∷ "request 1 1 3 18 10" ∷ "request 2 4 5 12 3" ∷ "line 6 2" ∷ "line 11 1" ∷ [];
    }
    ∷
    -- The same three as the first of four, beside another one: the same sheet.
    record {
      seen = 0 ∷ 1 ∷ 2 ∷ [];
      report = row 0 2 0 4 ∷ row 1 3 18 10 ∷ row 4 5 12 3 ∷ row 2 7 17 5 ∷ [];
      entries = entry 6 2 ∷ entry 11 1 ∷ entry 17 3 ∷ [];
      expected = "request 0 0 2 0 4" ∷ "request 1 1 3 18 10" ∷ "request 2 4 5 12 3" ∷ "line 6 2" ∷ "line 11 1" ∷ [];
    }
    ∷ []

-- ---- calls

pub record Call : Type 0 where
  pub file : List ℕ
  pub head : ℕ
  pub out : List ℕ
  pub expected : Sheet

abbrev pub called : Call → Sheet
called c = sheet_of c.file c.head c.out

abbrev pub call : List ℕ → ℕ → List ℕ → Sheet → Call
call file head out expected = record { file = file; head = head; out = out; expected = expected }

-- So many bytes of lines, and the rest of the buffer as it was lent.
abbrev pub sheet : ℕ → List String → List ℕ → Sheet
sheet bytes lines rest = record { answer = record { number = 0; bytes = bytes }; out = text lines ++ rest }

-- The listing's own lines, of which each head sees all.
abbrev pub sample_lines : List String
sample_lines = "request 0 0 3 0 6" ∷ "request 1 4 1 9 3" ∷ "line 2 1" ∷ "line 7 0" ∷ []

-- "one per head or none at all": what each head may ask and see.
abbrev pub joiners : List ℕ
joiners = carriers_file (right 0 1 1 ++ right 1 2 3) 0x1048

abbrev pub watchers : List ℕ
watchers = carriers_file (right 0 3 0 ++ right 1 3 2) 0x0D4A

abbrev pub wide : List ℕ
wide = header 2 32 ++ rights_bytes (every_sight 0xFFFFFFFF 0 32) ++ request 31 1 0 1 ++ run 31 13 ++ close 0xCA8F

abbrev pub waited : List ℕ
waited =
    header 4 2 ++ right 0 3 3 ++ right 1 3 2 ++ request 0 1 0 1 ++ request 1 2 0 1 ++ wait 1 0 ++ run 1 3 ++ run 0 13 ++ run 1 6
    ++ close 0xC109

abbrev pub threefold : List ℕ → List ℕ
threefold rest = header 4 3 ++ right 0 3 1 ++ right 1 3 3 ++ right 2 3 7 ++ request 0 1 2 3 ++ rest

abbrev pub before : List ℕ
before = threefold (request 1 2 0 1 ++ request 2 1 0 1 ++ run 0 13 ++ run 1 3 ++ close 0xB5DF)

-- The last two requests are exchanged, and head 2 has grants at the end.
abbrev pub after : List ℕ
after = threefold (request 2 1 0 1 ++ request 1 2 0 1 ++ run 0 13 ++ run 1 3 ++ run 2 3 ++ close 0x6096)

abbrev pub calls : List Call
calls =
    -- Document 01's 38 bytes: both heads see both requests. What is past the sheet stays.
    call sample_file 0 (lent 54) (sheet 54 sample_lines [])
    ∷ call sample_file 1 (lent 57) (sheet 54 sample_lines (lent 3))
    -- One byte too few, and none.
    ∷ call sample_file 1 (lent 53) (refusal 14 (lent 53))
    ∷ call sample_file 0 [] (refusal 14 [])
    -- There is no third head, whatever is lent.
    ∷ call sample_file 2 (lent 54) (refusal 10 (lent 54))
    ∷ call sample_file 4294967295 [] (refusal 10 [])
    -- A file is refused first: one with a wrong balance, and an empty one.
    ∷ call (take 37 sample_file ++ 0xC3 ∷ []) 2 (lent 54) (refusal 13 (lent 54))
    ∷ call [] 0 [] (refusal 2 [])
    -- A head that sees itself gets its own request; one that sees both gets both.
    ∷ call joiners 0 (lent 29) (sheet 29 ("request 0 1 3 15 13" ∷ "line 7 0" ∷ []) [])
    ∷ call joiners 1 (lent 60) (sheet 57 ("request 0 1 3 15 13" ∷ "request 1 4 1 16 3" ∷ "line 2 1" ∷ "line 7 0" ∷ []) (lent 3))
    ∷ call joiners 0 (lent 28) (refusal 14 (lent 28))
    ∷ call joiners 2 (lent 60) (refusal 10 (lent 60))
    -- A mask of no head gives an empty sheet, with nothing lent too; a request is renumbered.
    ∷ call watchers 0 [] (sheet 0 [] [])
    ∷ call watchers 0 (lent 3) (sheet 0 [] (lent 3))
    ∷ call watchers 1 (lent 28) (sheet 28 ("request 0 4 1 16 3" ∷ "line 2 0" ∷ []) [])
    -- 32 heads.
    ∷ call wide 0 (lent 29) (sheet 29 ("request 0 1 1 13 13" ∷ "line 5 0" ∷ []) [])
    ∷ call wide 31 (lent 29) (sheet 29 ("request 0 1 1 13 13" ∷ "line 5 0" ∷ []) [])
    ∷ call wide 32 (lent 29) (refusal 10 (lent 29))
    -- A request that waited for one that its head may not see: the grants tell.
    ∷ call waited 1 (lent 30) (sheet 30 ("request 0 3 17 22 6" ∷ "line 22 0" ∷ []) [])
    -- Two runs that agree on what head 0 sees, and not on what head 2 does.
    ∷ call before 0 (lent 29) (sheet 29 ("request 0 1 1 13 13" ∷ "line 5 0" ∷ []) [])
    ∷ call after 0 (lent 29) (sheet 29 ("request 0 1 1 13 13" ∷ "line 5 0" ∷ []) [])
    ∷ call before 2 (lent 80)
    (sheet 77 ("request 0 1 1 13 13" ∷ "request 1 4 14 16 3" ∷ "request 2 0 0 0 0" ∷ "line 5 0" ∷ "line 15 1" ∷ []) (lent 3))
    ∷ call after 2 (lent 80)
    (sheet 78 ("request 0 1 1 13 13" ∷ "request 1 0 17 0 3" ∷ "request 2 4 14 16 3" ∷ "line 5 0" ∷ "line 15 2" ∷ []) (lent 2))
    ∷ []
