-- Document 01, "Report and line-up": the four numbers of a request, and what each of its grants does to them.
--
--   no_row              all four zero: before the request's first grant
--   row_at report q     the four numbers of request q
--   unfinished report q request q has no answer yet
--   is_final a          the answer a finishes a request
--   charge row now a    the row after one more grant, number `now`, that gave the answer a
use Rattle.std.specs.Prelude.{Bool, true, false, cond, List, ℕ, ◌+◌, eqb, get_or}
use Rattle.job.specs.declared.Answer.{Answer}
use Rattle.job.specs.declared.Answer.TheVariants.{Unfinished, Joined, Together, Yes, No}
use Rattle.job.specs.Job.{answer_number}
use Rattle.rules.specs.declared.Row.{Row}

-- All four numbers are 0 before the request's first grant.
abbrev pub no_row : Row
no_row = record { answer = 0; first = 0; last = 0; used = 0 }

-- The four numbers of request q.
abbrev pub row_at : List Row → ℕ → Row
row_at report q = get_or report q no_row

-- A request is unfinished as long as its answer is 0, linked or not.
abbrev pub unfinished : List Row → ℕ → Bool
unfinished report q = eqb (row_at report q).answer 0

-- Every answer but unfinished ends its request.
abbrev pub is_final : Answer → Bool
is_final Unfinished = false
is_final Joined = true
is_final Together = true
is_final Yes = true
is_final No = true

-- Last grant is 0 while unfinished; all four are 0 before the first grant.
unfoldable pub charge : Row → ℕ → Answer → Row
charge row now a =
    record {
      answer = answer_number a;
      first = cond (eqb row.first 0) now row.first;
      last = cond (is_final a) now 0;
      used = row.used + 1;
    }
