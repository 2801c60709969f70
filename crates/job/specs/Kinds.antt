-- The kinds of requests, read from the numbers that a file has for them.
--
--   kind_read n   the kind of the number n, or the refusal of a number that is none
use Rattle.std.specs.Prelude.{ℕ, cond, eqb, Result}
use Rattle.std.specs.declared.result.Result.TheVariants.{Ok, Err}
use Rattle.job.specs.declared.Kind.{Kind}
use Rattle.job.specs.declared.Kind.TheVariants.{Union, SameSet}
use Rattle.job.specs.declared.refusal.Refusal.{Refusal}
use Rattle.job.specs.declared.refusal.Refusal.TheVariants.{RequestKind}

-- Document 01, "Job file": 1 is a union and 2 a same-set; other numbers are refused.
abbrev pub kind_read : ℕ → Result Kind Refusal
kind_read n = cond (eqb n 1) (Ok Union) (cond (eqb n 2) (Ok SameSet) (Err RequestKind))
