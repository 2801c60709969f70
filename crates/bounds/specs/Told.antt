-- What planners are told of the limits of requests.
--
--   refused_with n   the answer of a refusal
--   limits_told r    what is told of the limits, or of a refusal
use Rattle.std.specs.Prelude.{ℕ, Result}
use Rattle.std.specs.declared.result.Result.TheVariants.{Ok, Err}
use Rattle.job.specs.declared.refusal.Refusal.{Refusal}
use Rattle.job.specs.Refusal.{number_of}
use Rattle.bounds.specs.declared.Bound.{Bound}
use Rattle.bounds.specs.declared.Limits.{Limits}

-- Each refusal gives its number and zero for every count.
abbrev pub refused_with : ℕ → Limits
refused_with n = record { number = n; same_set_grants = 0; union_grants = 0 }

-- Limits have the number 0.
abbrev pub limits_told : Result Bound Refusal → Limits
limits_told (Ok bound) =
    record { number = 0; same_set_grants = bound.same_set_grants; union_grants = bound.union_grants }
limits_told (Err refusal) = refused_with (number_of refusal)
