-- A refusal of the limits, by its number.
use mathlib.Core.Path.{◌≡◌}
use Prim.Native.Nat.{ℕ}
use borrow.Author.Tests.{ne_eqb}
use Rattle.job.specs.declared.refusal.Refusal.{Refusal}
use Rattle.job.specs.Refusal.{number_of}
use Rattle.job.proofs.Refusals.{refuses}
use Rattle.bounds.specs.Bounds.{refusal_of, limits_of}
use Rattle.bounds.specs.Told.{refused_with}

-- No refusal has the number 0, so that the definition refuses as well.
pub limits_refused : (nodes : ℕ) (refusal : Refusal) → number_of refusal ≡ refusal_of nodes
    → refused_with (number_of refusal) ≡ limits_of nodes
unfolding limits_of
limits_refused nodes refusal e = rw (← e, ne_eqb _ 0 (refuses refusal))
