-- What holds at every moment of every run, and what holds between two moments of it: the statements, over plain lists and
-- numbers as those of demand 3 are.
--
--   some test n                  some number below n passes the test
--   is_unfinished qs report h q  request q is of head h and unfinished
--   heads_left qs report m       how many heads below m have an unfinished request
--   Truthful a                   what the steps say of the grant a is what its access and the word seen tell
--   Anchored q row past          the point of a finished same-set q, told by its row
--   Lawful                       what holds of table, report, tally and number of grants after a history, one clause a sentence
--   Follows nodes t t'           what holds of the table t' at a later moment than that of the table t
use Rattle.std.specs.Prelude.{◌≡◌, ◌≢◌, Bool, true, false, cond, ℕ, zero, suc, ◌+◌, ◌^◌, ◌≤◌, ◌<◌, eqb, length}
use mathlib.Core.List.{List, Memᴰ}
use Rattle.basics.specs.Count.{count}
use Rattle.job.specs.declared.Kind.TheVariants.{SameSet}
use Rattle.job.specs.declared.Request.{Request}
use Rattle.job.specs.declared.Tally.{Tally}
use Rattle.word.specs.declared.Node.{Node}
use Rattle.word.specs.Word.{before}
use Rattle.forest.specs.Forest.{root_count, Together}
use Rattle.rules.specs.declared.Row.{Row}
use Rattle.rules.specs.Table.{parent, rank}
use Rattle.rules.specs.Report.{no_row, row_at, unfinished}
use Rattle.rules.specs.State.{request_at}
use Rattle.rules.specs.Action.{Agrees}
use Rattle.rules.specs.Run.{Happening}
use Rattle.rules.specs.Run.Happening.{idle, serving}
use Rattle.rules.specs.History.{last_but_one, count_where, is_idle, has_failed, has_link, is_of, row_of, point_of}

-- Some number below n passes the test.
abbrev pub some : (ℕ → Bool) → ℕ → Bool
some test zero = false
some test (suc n) = cond (test n) true (some test n)

-- A request of head h whose answer is still 0.
abbrev pub is_unfinished : List Request → List Row → ℕ → ℕ → Bool
is_unfinished qs report h q = cond (eqb (request_at qs q).head h) (unfinished report q) false

-- The heads with work left, told by the requests and the report alone.
abbrev pub heads_left : List Request → List Row → ℕ → ℕ
heads_left qs report m = count (λ h. some (is_unfinished qs report h) (length qs)) m

-- The steps' own flags of a grant agree with its access and the word that it saw; an idle grant has none.
abbrev pub Truthful : Happening → Type 0
Truthful idle = Unit {0}
Truthful (serving q act) = Agrees act

-- That a grant ended a find from y is what the steps say of themselves; the report tells the same of a finished same-set:
-- its point is its last grant where the answer is yes, and the last of its grants before that where it is no.
pub record Anchored (q : ℕ) (row : Row) (past : List Happening) : Type 0 where
  pub yes : row.answer ≡ 3 → point_of SameSet q past ≡ row.last
  pub no : row.answer ≡ 4 → point_of SameSet q past ≡ last_but_one (is_of q) past

-- At every moment of a run that started from that many groups.
pub record Lawful (groups nodes heads : ℕ) (qs : List Request) (table : List Node) (report : List Row) (tally : Tally) (grants : ℕ)
    (past : List Happening) : Type 0 where
  -- "Every parent that isn't the place itself comes after it."
  pub parents : (i : ℕ) → i < nodes → parent table i ≢ i → before (rank table i) i (rank table (parent table i)) (parent table i) ≡ true
  -- "Ranks never exceed the whole part of the base-2 logarithm of the place count."
  pub ranks : (i : ℕ) → i < nodes → 2 ^ rank table i ≤ nodes
  -- "Roots plus successful links equal the place count": as many as there were groups at the start.
  pub roots : root_count (parent table) nodes + tally.links ≡ groups
  -- "Each request gets four 32-bit numbers": those that the history gives it.
  pub reports : length report ≡ length qs
  pub rows : (q : ℕ) → q < length qs → row_at report q ≡ row_of q past
  -- "all four are 0 before its first grant"
  pub fresh : (q : ℕ) → q < length qs → count_where (is_of q) past ≡ 0 → row_at report q ≡ no_row
  -- "Grants count from 1": the number of the last one is how many there were, idle ones included.
  pub clock : grants ≡ length past
  -- "The tally holds idle grants, failed swaps and links": as many as the history has of each,
  pub idle : tally.idle ≡ count_where is_idle past
  pub failed : tally.failed ≡ count_where has_failed past
  pub links : tally.links ≡ count_where has_link past
  -- "and the heads with work left now".
  pub work : tally.working ≡ heads_left qs report heads
  -- What the steps say of a swap is what its access and the word seen tell.
  pub truthful : (a : Happening) → Memᴰ a past → Truthful a
  -- "for a same-set, the grant that ended its last find from y": what the report says of it
  pub anchored : (q : ℕ) → q < length qs → Anchored q (row_at report q) past
  -- A head serves its requests in file order: of two, the later has begun only if the earlier is finished,
  pub finished : (p q : ℕ) → p < q → q < length qs → (request_at qs p).head ≡ (request_at qs q).head
      → (row_at report q).first ≢ 0 → (row_at report p).answer ≢ 0
  -- and one after the other: the earlier's last grant comes before the later's first.
  pub ordered : (p q : ℕ) → p < q → q < length qs → (request_at qs p).head ≡ (request_at qs q).head
      → (row_at report q).first ≢ 0 → (row_at report p).last < (row_at report q).first

-- Between any two moments of a run: t is the table at the earlier one.
pub record Follows (nodes : ℕ) (t t' : List Node) : Type 0 where
  -- A place that is no root stays none,
  pub lower : (i : ℕ) → i < nodes → parent t i ≢ i → parent t' i ≢ i
  -- and its rank is frozen.
  pub frozen : (i : ℕ) → i < nodes → parent t i ≢ i → rank t' i ≡ rank t i
  -- Ranks never fall.
  pub rising : (i : ℕ) → i < nodes → rank t i ≤ rank t' i
  -- Groups only merge.
  pub merging : (i j : ℕ) → i < nodes → j < nodes → Together (parent t) i j → Together (parent t') i j
