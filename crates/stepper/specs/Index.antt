-- An index of requests, made once: for each of the first ones the number of its head's next request. It holds no request.
--
--   Indexes qs successors   successors has the successors of the first requests; of the others the file itself is asked
use Rattle.std.specs.Prelude.{◌≡◌, List, ℕ, suc, ◌<◌, length, get_or}
use Rattle.job.specs.declared.Request.{Request}
use Rattle.rules.specs.State.{request_at, seek}

pub record Indexes (qs : List Request) (successors : List ℕ) : Type 0 where
  pub successor : (q : ℕ) → q < length successors → q < length qs → get_or successors q 0 ≡ seek qs (request_at qs q).head (suc q)
