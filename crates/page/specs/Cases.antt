-- Cases of the group page: the table of cases, which holds of the definition by computation.
--
--   Case              a table, how many rows and bytes are lent, and the answer and rows that are expected
--   Left              what a call leaves: its answer, and the rows at exit
--   outcome, wanted   what the definition leaves, and what is expected
--   cases             the table
--   page_text         the page of document 01's 38 bytes
use Rattle.std.specs.Prelude.{List, [], ◌∷◌, ◌++◌, ℕ, zero, suc, ◌+◌, replicate}
use Rattle.page.specs.declared.Row.{Row}
use Rattle.page.specs.declared.Paged.{Paged}
use Rattle.page.specs.Rows.{no_row}
use Rattle.page.specs.Page.{Outcome, paged_of}

pub record Left : Type 0 where
  pub answer : Paged
  pub rows : List Row

pub record Case : Type 0 where
  pub words : List ℕ
  pub rows : ℕ
  pub page : ℕ
  pub expected : Left

abbrev pub played : List ℕ → ℕ → ℕ → Outcome
played words rows page = paged_of words (replicate rows no_row) (replicate page 0)

abbrev pub outcome : Case → Left
outcome c =
    record { answer = (played c.words c.rows c.page).answer; rows = (played c.words c.rows c.page).rows }

abbrev pub wanted : Case → Left
wanted c = c.expected

-- Rows and bytes written, and the rows at exit.
abbrev pub written : ℕ → ℕ → List Row → Left
written rows bytes left = record { answer = record { number = 0; rows = rows; bytes = bytes }; rows = left }

-- A refusal's number, and how many rows are as they were.
abbrev pub refused : ℕ → ℕ → Left
refused number rows = record { answer = record { number = number; rows = 0; bytes = 0 }; rows = replicate rows no_row }

abbrev pub row : ℕ → ℕ → ℕ → ℕ → Row
row lowest size root rank = record { lowest = lowest; size = size; root = root; rank = rank }

-- Places that are all alone.
abbrev pub singles : ℕ → List ℕ
singles zero = []
singles (suc n) = singles n ++ (n ∷ [])

abbrev pub single_rows : ℕ → List Row
single_rows zero = []
single_rows (suc n) = single_rows n ++ (row n 1 n 0 ∷ [])

abbrev pub cases : List Case
cases =
    record { words = 0 ∷ []; rows = 1; page = 66; expected = written 1 66 (row 0 1 0 0 ∷ []) }
    ∷ record { words = 1 ∷ 65537 ∷ []; rows = 1; page = 66; expected = written 1 66 (row 0 2 1 1 ∷ []) }
    ∷ record { words = 65536 ∷ 0 ∷ []; rows = 2; page = 80; expected = written 1 66 (row 0 2 0 1 ∷ no_row ∷ []) }
    -- The table of document 01's 38 bytes.
    ∷ record {
      words = 0 ∷ 1 ∷ 3 ∷ 65539 ∷ [];
      rows = 3;
      page = 132;
      expected = written 3 132 (row 0 1 0 0 ∷ row 1 1 1 0 ∷ row 2 2 3 1 ∷ []);
    }
    -- Rows rise by lowest place, wherever the roots stand.
    ∷ record {
      words = 2 ∷ 3 ∷ 65538 ∷ 65539 ∷ [];
      rows = 2;
      page = 99;
      expected = written 2 99 (row 0 2 2 1 ∷ row 1 2 3 1 ∷ []);
    }
    ∷ record {
      words = 4 ∷ 65537 ∷ 1 ∷ 4 ∷ 131076 ∷ 5 ∷ [];
      rows = 3;
      page = 132;
      expected = written 3 132 (row 0 3 4 2 ∷ row 1 2 1 1 ∷ row 5 1 5 0 ∷ []);
    }
    -- Twenty rows stand under one heading; the next has one of its own.
    ∷ record { words = singles 20; rows = 20; page = 693; expected = written 20 693 (single_rows 20) }
    ∷ record { words = singles 21; rows = 21; page = 759; expected = written 21 759 (single_rows 21) }
    -- Refusals: an empty table, one too long, and each fault of a word.
    ∷ record { words = []; rows = 0; page = 0; expected = refused 15 0 }
    ∷ record { words = replicate 4097 0; rows = 1; page = 66; expected = refused 15 1 }
    ∷ record { words = 1 ∷ []; rows = 1; page = 66; expected = refused 16 1 }
    ∷ record { words = 0 ∷ 851969 ∷ []; rows = 2; page = 99; expected = refused 16 2 }
    ∷ record { words = 1 ∷ 0 ∷ []; rows = 0; page = 0; expected = refused 16 0 }
    ∷ record { words = 0 ∷ 0 ∷ []; rows = 2; page = 99; expected = refused 16 2 }
    -- One row or one byte too few.
    ∷ record { words = 0 ∷ 1 ∷ 3 ∷ 65539 ∷ []; rows = 2; page = 132; expected = refused 17 2 }
    ∷ record { words = 0 ∷ 1 ∷ 3 ∷ 65539 ∷ []; rows = 3; page = 131; expected = refused 17 3 }
    ∷ []

-- A digit in its column.
abbrev pub digit : ℕ → List ℕ
digit n = replicate 7 32 ++ ((48 + n) ∷ [])

abbrev pub digits : ℕ → ℕ → ℕ → ℕ → List ℕ
digits a b c d = digit a ++ (digit b ++ (digit c ++ (digit d ++ (10 ∷ []))))

-- "   group    size    root    rank", then the rows.
abbrev pub page_text : List ℕ
page_text =
    32 ∷ 32 ∷ 32 ∷ 103 ∷ 114 ∷ 111 ∷ 117 ∷ 112 ∷ 32 ∷ 32 ∷ 32 ∷ 32 ∷ 115 ∷ 105 ∷ 122 ∷ 101
    ∷ 32 ∷ 32 ∷ 32 ∷ 32 ∷ 114 ∷ 111 ∷ 111 ∷ 116 ∷ 32 ∷ 32 ∷ 32 ∷ 32 ∷ 114 ∷ 97 ∷ 110 ∷ 107 ∷ 10
    ∷ (digits 0 1 0 0 ++ (digits 1 1 1 0 ++ digits 2 2 3 1))
