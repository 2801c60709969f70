-- Document 02, A5: which requests a head may see.
--
--   sees sight k               the mask `sight` has the bit of head k
--   sighted sight requests q   the head of request q is one that the mask has
--   visible j h q              head h of the job j may see request q
use Rattle.std.specs.Prelude.{Bool, List, ℕ, ◌/◌, ◌%◌, ◌^◌, eqb}
use Rattle.job.specs.declared.Request.{Request}
use Rattle.job.specs.Job.{Job, sight_of}
use Rattle.rules.specs.State.{request_at}

-- "a 32-bit mask of heads it may see": bit k is head k's.
abbrev pub sees : ℕ → ℕ → Bool
sees sight k = eqb (sight / 2 ^ k % 2) 1

-- "the requests of the heads it may see"
abbrev pub sighted : ℕ → List Request → ℕ → Bool
sighted sight requests q = sees sight (request_at requests q).head

-- A head need not see its own requests: its mask tells.
abbrev pub visible : Job → ℕ → ℕ → Bool
visible j h = sighted (sight_of j h) j.requests
