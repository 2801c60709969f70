-- Document 02, A7: what bay planners are told of a number of places; the limits themselves are `rules/specs/Bounds`.
--
--   refusal_of n  the refusal of n places
--   limits_of n   the limits of a same-set and of a union on n places, or the refusal of n
use Rattle.std.specs.Prelude.{cond, ℕ, eqb}
use Rattle.job.specs.declared.Kind.TheVariants.{Union, SameSet}
use Rattle.jobfile.specs.Format.{sizes_refusal}
use Rattle.rules.specs.Bounds.{limit_of}
use Rattle.bounds.specs.declared.Limits.{Limits}

-- The refusal of a job of n places that has one head: only its places can be refused.
abbrev pub refusal_of : ℕ → ℕ
refusal_of nodes = sizes_refusal nodes 1

-- A number of places that no job has is refused as a job's is, with zero for every count.
unfoldable pub limits_of : ℕ → Limits
limits_of nodes =
    cond (eqb (refusal_of nodes) 0)
    (record { number = 0; same_set_grants = limit_of SameSet nodes; union_grants = limit_of Union nodes })
    (record { number = refusal_of nodes; same_set_grants = 0; union_grants = 0 })
