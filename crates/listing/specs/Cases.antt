-- Document 01, "Played cases": the printed job, and listings at their edges, as one table.
--
--   Case                a play with its three buffers of numbers, a buffer for the text, and what is expected
--   Outcome             the answer and the text's buffer afterwards
--   outcome c           what the definitions leave
--   wanted c            what is expected
--   ascii text, text ls the bytes of a text, and of lines that each end with a line feed
--   job, tally          the counts of a play that was not refused, and its tally, by their numbers
--   lent n              n bytes as they are lent
--   written n ls rest   the answer of n bytes, the text of the lines ls, and the rest of the buffer
--   untouched n          14, and a buffer of n bytes as it was lent
--   few, few_lines      one place, two requests, one entry, and their lines
--   cases               the table
use Rattle.std.specs.Prelude.{List, [], ◌∷◌, ◌++◌, ℕ, replicate}
use Prim.Native.Char.{code}
use Prim.Native.String.{String, [] as end, ◌∷◌ as next}
use Rattle.job.specs.declared.Played.{Played}
use Rattle.job.specs.declared.Tally.{Tally}
use Rattle.listing.specs.declared.Listed.{Listed}
use Rattle.listing.specs.Listing.{listed, printed}

pub record Outcome : Type 0 where
  pub answer : Listed
  pub out : List ℕ

pub record Case : Type 0 where
  pub played : Played
  pub table : List ℕ
  pub report : List ℕ
  pub linearization : List ℕ
  pub out : List ℕ
  pub expected : Outcome

-- What the definitions leave.
abbrev pub outcome : Case → Outcome
outcome c =
    record {
      answer = listed c.played c.table c.report c.linearization c.out;
      out = printed c.played c.table c.report c.linearization c.out;
    }

-- What document 01 says.
abbrev pub wanted : Case → Outcome
wanted c = c.expected

-- ---- the parts of a case

abbrev pub ascii : String → List ℕ
ascii end = []
ascii (next c rest) = code c ∷ ascii rest

-- Every line ends with a line feed, 10 in ASCII.
abbrev pub text : List String → List ℕ
text [] = []
text (l ∷ ls) = ascii l ++ (10 ∷ text ls)

-- Idle grants, failed swaps, links, heads with work left.
abbrev pub tally : ℕ → ℕ → ℕ → ℕ → Tally
tally idle failed links working = record { idle = idle; failed = failed; links = links; working = working }

-- Places, heads, requests, grants, line-up entries.
abbrev pub job : ℕ → ℕ → ℕ → ℕ → ℕ → Tally → Played
job nodes heads requests grants entries tally =
    record { number = 0; nodes = nodes; heads = heads; requests = requests; grants = grants; entries = entries; tally = tally }

-- No byte of a text is 238.
abbrev pub lent : ℕ → List ℕ
lent n = replicate n 238

abbrev pub written : ℕ → List String → List ℕ → Outcome
written bytes lines rest = record { answer = record { number = 0; bytes = bytes }; out = text lines ++ rest }

abbrev pub untouched : ℕ → Outcome
untouched room = record { answer = record { number = 14; bytes = 0 }; out = lent room }

-- No job is played so: every number differs from those beside it, and there are fewer entries than requests.
abbrev pub few : Played
few = job 1 5 2 30 1 (tally 1 3 2 4)

-- 93 bytes, where the table has rank 6 and parent 7.
abbrev pub few_lines : List String
few_lines = "job 1 5 2 30" ∷ "word 0 7 6" ∷ "request 0 11 12 13 14" ∷ "request 1 21 22 23 24" ∷ "line 31 32" ∷ "tally 1 3 2 4" ∷ []

-- ---- the table

abbrev pub cases : List Case
cases =
    -- The job that document 01 prints, in a buffer of exactly its length.
    record {
      played = job 4 2 2 9 2 (tally 0 0 1 0);
      table = 0 ∷ 1 ∷ 3 ∷ 65539 ∷ [];
      report = 1 ∷ 3 ∷ 8 ∷ 6 ∷ 4 ∷ 1 ∷ 9 ∷ 3 ∷ [];
      linearization = 2 ∷ 1 ∷ 7 ∷ 0 ∷ [];
      out = lent 124;
      expected =
          written 124
          ("job 4 2 2 9"
          ∷ "word 0 0 0"
          ∷ "word 1 1 0"
          ∷ "word 2 3 0"
          ∷ "word 3 3 1"
          ∷ "request 0 1 3 8 6"
          ∷ "request 1 4 1 9 3"
          ∷ "line 2 1"
          ∷ "line 7 0"
          ∷ "tally 0 0 1 0"
          ∷ [])
          [];
    }
    ∷
    -- The refusal of an empty file prints one line, and the rest of the buffer stays.
    record {
      played =
          record { number = 2; nodes = 0; heads = 0; requests = 0; grants = 0; entries = 0; tally = tally 0 0 0 0 };
      table = [];
      report = [];
      linearization = [];
      out = lent 12;
      expected = written 10 ("refused 2" ∷ []) (lent 2);
    }
    ∷
    -- Numbers of one digit, of two, and the largest of 32 bits.
    record {
      played = job 0 0 0 0 0 (tally 9 10 65537 4294967295);
      table = [];
      report = [];
      linearization = [];
      out = lent 40;
      expected = written 40 ("job 0 0 0 0" ∷ "tally 9 10 65537 4294967295" ∷ []) [];
    }
    ∷
    -- One place, two requests, one entry: as many numbers and as much room as they need.
    record {
      played = few;
      table = 393223 ∷ [];
      report = 11 ∷ 12 ∷ 13 ∷ 14 ∷ 21 ∷ 22 ∷ 23 ∷ 24 ∷ [];
      linearization = 31 ∷ 32 ∷ [];
      out = lent 93;
      expected = written 93 few_lines [];
    }
    ∷
    -- More of each: numbers past what is printed change nothing, and the rest of the buffer stays.
    record {
      played = few;
      table = 393223 ∷ 1 ∷ [];
      report = 11 ∷ 12 ∷ 13 ∷ 14 ∷ 21 ∷ 22 ∷ 23 ∷ 24 ∷ 25 ∷ [];
      linearization = 31 ∷ 32 ∷ 33 ∷ 34 ∷ [];
      out = lent 96;
      expected = written 93 few_lines (lent 3);
    }
    ∷
    -- One byte too few for the text: nothing is written.
    record {
      played = few;
      table = 393223 ∷ [];
      report = 11 ∷ 12 ∷ 13 ∷ 14 ∷ 21 ∷ 22 ∷ 23 ∷ 24 ∷ [];
      linearization = 31 ∷ 32 ∷ [];
      out = lent 92;
      expected = untouched 92;
    }
    ∷
    -- One number too few in the table,
    record {
      played = few;
      table = [];
      report = 11 ∷ 12 ∷ 13 ∷ 14 ∷ 21 ∷ 22 ∷ 23 ∷ 24 ∷ [];
      linearization = 31 ∷ 32 ∷ [];
      out = lent 93;
      expected = untouched 93;
    }
    ∷
    -- in the report,
    record {
      played = few;
      table = 393223 ∷ [];
      report = 11 ∷ 12 ∷ 13 ∷ 14 ∷ 21 ∷ 22 ∷ 23 ∷ [];
      linearization = 31 ∷ 32 ∷ [];
      out = lent 93;
      expected = untouched 93;
    }
    ∷
    -- and in the line-up.
    record {
      played = few;
      table = 393223 ∷ [];
      report = 11 ∷ 12 ∷ 13 ∷ 14 ∷ 21 ∷ 22 ∷ 23 ∷ 24 ∷ [];
      linearization = 31 ∷ [];
      out = lent 93;
      expected = untouched 93;
    }
    ∷ []
