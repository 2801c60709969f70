-- The grants that the writer is given: what the loops over them keep, and the runs that they make.
--
--   grant_stops, grant_passes, no_grant   the refusal of the grants from one on, and behind the last
--   Growing gs at rest k r   the run r of the grants from at on is under way, with k of the rest behind its first
--   run_taken           the longest run at a grant lies within the grants
--   runs_few            there are no more runs than grants
--   Counted gs i runs   the runs of the grants before the i-th are counted
use Rattle.std.proofs.Common.{◌≡◌, ℕ, suc, ◌+◌, ◌<◌, ◌≤◌, List, [], ◌∷◌, ◌++◌, length, get_or, drop, replicate, sym}
use Rattle.std.proofs.Common.{ap, ◌∙◌, add-one, arith, length-append, length-drop, drop_of_length-le, drop-cons, le-leb}
use lib.ListN.{length-replicate}
use borrow.Author.Tests.{lt-leb}
use Rattle.basics.proofs.Conditions.{split}
use Rattle.jobfile.specs.declared.Run.{Run}
use Rattle.jobfile.specs.Format.{most_grants, extends}
use Rattle.jobfile.specs.Meaning.{granted}
use Rattle.jobfile.specs.Written.{runs_from, longest_runs}
use Rattle.jobfile.specs.Draft.{grants_refusal}
use Rattle.jobfile.proofs.Runs.{granted_longest}

pub drop_next : (gs : List ℕ) (i : ℕ) → i < length gs → drop i gs ≡ get_or gs i 0 ∷ drop (i + 1) gs
drop_next gs i l = rw (drop-cons gs i 0 l, add-one)

-- The refusal of the grants from one on: a grant for no head stops, another one counts no more,
module _ (heads : ℕ) (gs : List ℕ) (i : ℕ) where
  pub grant_stops : i < length gs → heads ≤ get_or gs i 0 → grants_refusal heads (drop i gs) ≡ 10
  unfolding grants_refusal
  grant_stops l refuses = rw (drop_next gs i l, le-leb heads (get_or gs i 0) refuses)

  pub grant_passes : i < length gs → get_or gs i 0 < heads → grants_refusal heads (drop i gs) ≡ grants_refusal heads (drop (i + 1) gs)
  unfolding grants_refusal
  grant_passes l passes = rw (drop_next gs i l, lt-leb heads (get_or gs i 0) passes)

  -- and there is none behind the last.
  pub no_grant : length gs ≤ i → grants_refusal heads (drop i gs) ≡ 0
  unfolding grants_refusal
  no_grant done = rw (drop_of_length-le gs {i = i} done)

pub record Growing (gs : List ℕ) (at : ℕ) (rest : List ℕ) (k : ℕ) (r : Run) : Type 0 where
  pub within : k ≤ length rest
  -- the run has the grant at its start and k of the rest behind it
  pub behind : rest ≡ drop (at + 1) gs
  pub reach : r.count ≡ k + 1
  pub few : r.count ≤ most_grants
  -- the runs from its start on are those with r under way
  pub same : runs_from r (drop k rest) ≡ longest_runs (drop at gs)

-- The longest runs grant the grants, so the first of them is no longer than those.
pub run_taken : (gs : List ℕ) (at : ℕ) (r : Run) → at ≤ length gs → longest_runs (drop at gs) ≡ r
    ∷ longest_runs (drop (at + r.count) gs) → at + r.count ≤ length gs
run_taken gs at r within e =
    let rest = drop (at + r.count) gs in
    let cut : drop at gs ≡ replicate r.count r.head ++ rest =
    sym (granted_longest (drop at gs)) ∙ ap granted e ∙ ap (λ (t : List ℕ). replicate r.count r.head ++ t) (granted_longest rest) in
    omega (arith, length-drop at gs, length-drop (at + r.count) gs, simp (length-append, length-replicate) at (ap length cut))

from_few : (r : Run) (gs : List ℕ) → length (runs_from r gs) ≤ suc (length gs)
from_few r [] = omega arith
from_few r (g ∷ gs) =
    split (extends r g)
    (λ e. rw e (omega (arith, from_few (record { head = r.head; count = r.count + 1 }) gs)))
    (λ e. rw e (omega (arith, from_few (record { head = g; count = 1 }) gs)))

pub runs_few : (gs : List ℕ) → length (longest_runs gs) ≤ length gs
runs_few [] = omega arith
runs_few (g ∷ gs) = from_few (record { head = g; count = 1 }) gs

pub record Counted (gs : List ℕ) (i runs : ℕ) : Type 0 where
  pub within : i ≤ length gs
  -- with the runs that are left, the count is that of all
  pub same : runs + length (longest_runs (drop i gs)) ≡ length (longest_runs gs)

module _ (gs : List ℕ) (i runs : ℕ) (counted : Counted gs i runs) where
  module _ (r : Run) (first : longest_runs (drop i gs) ≡ r ∷ longest_runs (drop (i + r.count) gs)) where
    pub counted_on : Counted gs (i + r.count) (runs + 1)
    counted_on = record { within = run_taken gs i r counted.within first; same = omega (arith, counted.same, ap length first) }

    pub counted_few : runs + 1 ≤ length gs
    counted_few = omega (arith, counted.same, ap length first, runs_few gs)

  pub counted_all : length gs ≤ i → runs ≡ length (longest_runs gs)
  counted_all done = omega (arith, counted.same, ap (λ gs. length (longest_runs gs)) (drop_of_length-le gs {i = i} done))
