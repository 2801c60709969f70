-- Document 01's starred enquiry, and further ones: the table of cases, which holds of the definition by computation.
--
--   Case        an enquiry with what is expected of it
--   outcome, wanted   what the definition gives, and what is expected
--   cases       the table
use Rattle.std.specs.Prelude.{List, [], ◌∷◌, ℕ, replicate}
use Rattle.query.specs.Query.{Result, queried}

pub record Case : Type 0 where
  pub words : List ℕ
  pub x : ℕ
  pub y : ℕ
  pub budget : ℕ
  pub expected : Result

abbrev pub outcome : Case → Result
outcome c = queried c.words c.x c.y c.budget

abbrev pub wanted : Case → Result
wanted c = c.expected

-- Number, answer, grants used, words at exit.
abbrev pub result : ℕ → ℕ → ℕ → List ℕ → Result
result number answer used words = record { queried = record { number = number; answer = answer; used = used }; table = words }

abbrev pub cases : List Case
cases =
    -- Enquiry 0 1 on words 1, 65,537: allowance 5 spent, 6 yes.
    record { words = 1 ∷ 65537 ∷ []; x = 0; y = 1; budget = 5; expected = result 0 0 5 (1 ∷ 65537 ∷ []) }
    ∷ record { words = 1 ∷ 65537 ∷ []; x = 0; y = 1; budget = 6; expected = result 0 3 6 (1 ∷ 65537 ∷ []) }
    -- A rank of 12 is admitted; two roots need three grants.
    ∷ record { words = 0 ∷ 786433 ∷ []; x = 0; y = 1; budget = 3; expected = result 0 4 3 (0 ∷ 786433 ∷ []) }
    -- Refusals: an empty table, one too long, a place that is its length, both faults at once, and each fault of a word.
    ∷ record { words = []; x = 0; y = 0; budget = 9; expected = result 15 0 0 [] }
    ∷ record { words = replicate 4097 0; x = 0; y = 0; budget = 9; expected = result 15 0 0 (replicate 4097 0) }
    ∷ record { words = 0 ∷ []; x = 0; y = 1; budget = 9; expected = result 15 0 0 (0 ∷ []) }
    ∷ record { words = 7 ∷ []; x = 0; y = 1; budget = 9; expected = result 15 0 0 (7 ∷ []) }
    ∷ record { words = 7 ∷ []; x = 0; y = 0; budget = 9; expected = result 16 0 0 (7 ∷ []) }
    ∷ record { words = 851968 ∷ []; x = 0; y = 0; budget = 9; expected = result 16 0 0 (851968 ∷ []) }
    ∷ record { words = 0 ∷ 0 ∷ []; x = 0; y = 1; budget = 9; expected = result 16 0 0 (0 ∷ 0 ∷ []) }
    -- A table with a path of four: halved on the way, and spent in the midst of it.
    ∷ record { words = 1 ∷ 2 ∷ 3 ∷ 3 ∷ []; x = 0; y = 1; budget = 3; expected = result 0 0 3 (2 ∷ 2 ∷ 3 ∷ 3 ∷ []) }
    ∷ record { words = 1 ∷ 2 ∷ 3 ∷ 3 ∷ []; x = 0; y = 1; budget = 14; expected = result 0 3 14 (2 ∷ 3 ∷ 3 ∷ 3 ∷ []) }
    ∷ []
