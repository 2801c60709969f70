-- Pairs: what it says that a job's pairs are not refused, pair by pair or of all of them.
--
--   Rising n b ws       each of the pairs ws is one of a job with n requests, and rises from the one before it; b stands
--                       before the first
--   rising_each, rising_next   so each is one of its requests, and each rises to the next
--   rising_all          and from these two they rise, where nothing stands before the first
--   rising_checked      pairs that the writer does not refuse rise
--   checked_rising      and it refuses none that rise
use mathlib.Core.Path.{◌≡◌}
use mathlib.Core.Bool.{true}
use mathlib.Core.List.{List}
use Prim.Native.Nat.{ℕ, suc, ◌<◌}
use native.Mathlib.Omega.{arith}
use lib.ListN.{length, get_or}
use borrow.Author.Tests.{lt-ltb}
use Rattle.job.specs.declared.Wait.{Wait}
use Rattle.jobfile.specs.Format.{rises_to, pair_refusal, no_pair}
use Rattle.jobfile.specs.Draft.{pairs_refusal}
use Rattle.jobfile.specs.Admitted.{Pairs}
use Rattle.jobfile.proofs.Refusals.{Paired, paired, paired_passes}
use Rattle.jobfile.proofs.Chains.{Chained, latest, chained_each, chained_next, chained, checked_chain, chain_checked}

abbrev pub Rising : ℕ → Wait → List Wait → Type 0
Rising count = Chained (Paired count) latest

module _ (count : ℕ) where
  pub rising_each : (before : Wait) (ws : List Wait) → Rising count before ws
      → (i : ℕ) (none : Wait) → i < length ws → Pairs count (get_or ws i none)
  rising_each = chained_each (Paired count) latest (Pairs count) (λ before w p. record { later = p.later; earlier = p.earlier })

  pub rising_next : (before : Wait) (ws : List Wait) → Rising count before ws
      → (i : ℕ) (none : Wait) → suc i < length ws → rises_to (get_or ws i none) (get_or ws (suc i) none) ≡ true
  rising_next before ws r i none l = (chained_next (Paired count) before ws r i none l).rises

  -- a pair of different requests rises from none
  first_rises : (w : Wait) → Pairs count w → Paired count no_pair w
  first_rises w p =
      record { later = p.later; earlier = p.earlier; rises = rw (lt-ltb 0 w.later (omega (arith, p.earlier))) }

  pub rising_all : (ws : List Wait) → ((i : ℕ) (none : Wait) → i < length ws → Pairs count (get_or ws i none))
      → ((i : ℕ) (none : Wait) → suc i < length ws → rises_to (get_or ws i none) (get_or ws (suc i) none) ≡ true) → Rising count no_pair ws
  rising_all ws each next =
      chained (Paired count) no_pair ws (λ none l. first_rises (get_or ws 0 none) (each 0 none l))
      (λ i none l. let p = each (suc i) none l in record { later = p.later; earlier = p.earlier; rises = next i none l })

  pub rising_checked : (before : Wait) (ws : List Wait) → pairs_refusal count before ws ≡ 0 → Rising count before ws
  rising_checked = checked_chain (pair_refusal count) (Paired count) latest (paired count)

  pub checked_rising : (before : Wait) (ws : List Wait) → Rising count before ws → pairs_refusal count before ws ≡ 0
  checked_rising = chain_checked (pair_refusal count) (Paired count) latest (paired_passes count)
