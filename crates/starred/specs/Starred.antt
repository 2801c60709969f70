-- Document 01, "Played cases": every starred case as one table, of the definitions themselves. The rows of the rules and of
-- the enquiry stand in their own crates, with a few more that reach the traps of the trade.
--
--   Case           a job played by the rules, an enquiry, or a file that is refused
--   Outcome        what is left of each
--   outcome c      what the definitions leave
--   wanted c       what is expected
--   starred        the table
--   Shown          what is shown of it
use Rattle.std.specs.Prelude.{◌≡◌, List, [], ◌∷◌, ◌++◌, map, ℕ, length}
use Rattle.jobfile.specs.Meaning.{Meaning, meaning}
use Rattle.rules.specs.Cases as rules
use Rattle.query.specs.Query.{Result}
use Rattle.query.specs.Cases as query

pub data Case : Type 0 where
  played : rules.Case → Case
  enquired : query.Case → Case
  -- a file and the number that it is refused with
  refused : List ℕ → ℕ → Case

pub data Outcome : Type 0 where
  left : rules.Outcome → Outcome
  told : Result → Outcome
  means : Meaning → Outcome

abbrev pub outcome : Case → Outcome
outcome (played c) = left (rules.outcome c)
outcome (enquired c) = told (query.outcome c)
outcome (refused file n) = means (meaning file)

-- A refused file means its number, and zero for every count.
abbrev pub wanted : Case → Outcome
wanted (played c) = left (rules.wanted c)
wanted (enquired c) = told (query.wanted c)
wanted (refused file n) =
    means (record { number = n; job = record { nodes = 0; heads = 0; rights = []; requests = []; waits = []; schedule = [] } })

abbrev pub starred : List Case
starred =
    map played rules.cases
    ++ map enquired query.cases
    -- Empty file: 2.
    ++ refused [] 2 ∷ []

pub record Shown : Type 0 where
  -- what the definitions leave of each case is what is expected of it
  pub holds : map outcome starred ≡ map wanted starred
  -- and no case is missing: the starred ones, and those that reach the traps
  pub whole : length starred ≡ 56
