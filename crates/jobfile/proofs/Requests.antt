-- Requests: what the rules say of each with its number, and of all of a job's.
--
--   Asked n h rs k q    the request q, number k, is one of a job with n nodes, h heads and the rights rs
--   Asking n h rs k qs  so is each of qs, where the first has number k
--   asking_each, asking_few   so each is served by one of the heads, and there are at most 512
--   asking_all          and from these two they are
use mathlib.Core.List.{List}
use Prim.Native.Nat.{ℕ, ◌+◌, ◌≤◌, ◌<◌}
use native.Mathlib.Omega.{arith}
use lib.ListN.{length, get_or}
use Rattle.job.specs.declared.Request.{Request}
use Rattle.job.specs.declared.Right.{Right}
use Rattle.job.specs.Job.{most_requests}
use Rattle.jobfile.specs.Admitted.{Serves}
use Rattle.jobfile.proofs.Chains.{Chained, counted, chained_each, counted_all, counted_few}

pub record Asked (nodes heads : ℕ) (rights : List Right) (number : ℕ) (q : Request) : Type 0 where
  pub few : number < most_requests
  pub serves : Serves nodes heads rights q

abbrev pub Asking : ℕ → ℕ → List Right → ℕ → List Request → Type 0
Asking nodes heads rights = Chained (Asked nodes heads rights) counted

module _ (nodes heads : ℕ) (rights : List Right) where
  pub asking_each : (number : ℕ) (qs : List Request) → Asking nodes heads rights number qs
      → (q : ℕ) (none : Request) → q < length qs → Serves nodes heads rights (get_or qs q none)
  asking_each = chained_each (Asked nodes heads rights) counted (Serves nodes heads rights) (λ number q a. a.serves)

  pub asking_few : (number : ℕ) (qs : List Request) → number ≤ most_requests → Asking nodes heads rights number qs
      → number + length qs ≤ most_requests
  asking_few = counted_few (Asked nodes heads rights) most_requests (λ number q a. a.few)

  pub asking_all : (qs : List Request) → length qs ≤ most_requests
      → ((q : ℕ) (none : Request) → q < length qs → Serves nodes heads rights (get_or qs q none)) → Asking nodes heads rights 0 qs
  asking_all qs few each =
      counted_all (Asked nodes heads rights) 0 qs (λ q none l. record { few = omega arith; serves = each q none l })
