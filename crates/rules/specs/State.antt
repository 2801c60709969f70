-- Document 01, "Whole runs and the plain book": what stands between two grants, and what stands before the first.
--
--   no_request           what stands past the last request
--   request_at qs q      request number q
--   seek qs h q          the first request of head h from number q on, or the number of requests
--   seek_in h q rs       the same among the requests rs, which are numbered from q on
--   State                table, heads, report, entries, counters, grants so far
--   resting q            a head at rest before request q
--   heads_from qs h m    m heads from number h on, each before its first request
--   start qs m t         m heads before their first request, on the table t
--   has_work qs head     the head has an unfinished request
--   working qs heads     how many heads have work left
--   tally_of qs S        the four counters
--   holds report q w     the pair w lets request q wait
--   lowest_wait ws report q   the request that q waits for, told one higher, or none
--   wait_of ws report head    the same of a head: what its next request waits for while it rests
use Rattle.std.specs.Prelude.{Bool, false, cond, List, [], ◌∷◌, ℕ, zero, suc, eqb, ltb, length, get_or, drop, replicate}
use Rattle.job.specs.declared.Kind.TheVariants.{Union}
use Rattle.job.specs.declared.Request.{Request}
use Rattle.job.specs.declared.Wait.{Wait}
use Rattle.job.specs.declared.Tally.{Tally}
use Rattle.word.specs.declared.Node.{Node}
use Rattle.process.specs.declared.Stage.TheVariants.{Resting}
use Rattle.process.specs.declared.Head.{Head}
use Rattle.process.specs.Process.{is_resting, no_wait}
use Rattle.linearization.specs.Entry.{Entry}
use Rattle.rules.specs.declared.Row.{Row}
use Rattle.rules.specs.Report.{no_row, unfinished}

-- What stands past the last request.
abbrev pub no_request : Request
no_request = record { head = 0; kind = Union; x = 0; y = 0 }

-- A request by its number.
abbrev pub request_at : List Request → ℕ → Request
request_at qs q = get_or qs q no_request

-- Request numbers count from 0 in file order; a head serves its own in that order.
abbrev pub seek_in : ℕ → ℕ → List Request → ℕ
seek_in h q [] = q
seek_in h q (r ∷ rs) = cond (eqb r.head h) q (seek_in h (suc q) rs)

-- The request that a head serves next: its first from number q on, or the count where it has none left.
unfoldable pub seek : List Request → ℕ → ℕ → ℕ
seek qs h q = seek_in h q (drop q qs)

-- Each grant finds what the grant before it left, and nobody else writes to any of that in between.
pub record State : Type 0 where
  pub table : List Node
  pub heads : List Head
  pub report : List Row
  pub entries : List Entry
  pub idle : ℕ
  pub failed : ℕ
  pub links : ℕ
  -- the number of grants so far; grants count from 1
  pub now : ℕ

-- A head at rest before request q.
abbrev pub resting : ℕ → Head
resting q = record { stage = Resting; task = record { x = 0; y = 0; request = q; waits = no_wait } }

-- m heads from number h on, each resting before its first request.
abbrev pub heads_from : List Request → ℕ → ℕ → List Head
heads_from qs h zero = []
heads_from qs h (suc m) = resting (seek qs h 0) ∷ heads_from qs (suc h) m

-- Every head resting before its first request, the requests' report numbers zero and no line-up entry.
abbrev pub start : List Request → ℕ → List Node → State
start qs m t =
    record {
      table = t;
      heads = heads_from qs 0 m;
      report = replicate (length qs) no_row;
      entries = [];
      idle = 0;
      failed = 0;
      links = 0;
      now = 0;
    }

-- A head's request is its current one, or while it rests its next one; it has none left when that is the count.
abbrev pub has_work : List Request → Head → Bool
has_work qs head = ltb head.task.request (length qs)

-- The number of heads with work left.
abbrev pub working : List Request → List Head → ℕ
working qs [] = 0
working qs (head ∷ heads) = cond (has_work qs head) (suc (working qs heads)) (working qs heads)

-- The tally: idle grants, failed swaps, links, and the heads with work left now.
abbrev pub tally_of : List Request → State → Tally
tally_of qs S = record { idle = S.idle; failed = S.failed; links = S.links; working = working qs S.heads }

-- ---- waiting (02, A3)

-- The later request of a pair waits as long as the earlier one is unfinished.
abbrev pub holds : List Row → ℕ → Wait → Bool
holds report q w = cond (eqb w.later q) (unfinished report w.earlier) false

-- The lowest unfinished request that q waits for: the pairs of q rise, so it is that of the first which holds.
abbrev pub lowest_wait : List Wait → List Row → ℕ → ℕ
lowest_wait [] report q = no_wait
lowest_wait (w ∷ ws) report q = cond (holds report q w) (suc w.earlier) (lowest_wait ws report q)

-- A request waits only before it begins: a head that serves one waits for none.
abbrev pub wait_of : List Wait → List Row → Head → ℕ
wait_of ws report head = cond (is_resting head) (lowest_wait ws report head.task.request) no_wait
