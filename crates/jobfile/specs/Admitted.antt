-- The jobs that have a file, and lists of bytes.
--
--   Holds h k r       the right r is head k's in a job of h heads
--   Serves n h rs q   the request q is one of a job with n nodes, h heads and the rights rs
--   Pairs n w         the pair w is one of a job with n requests
--   Admitted j        the job j has a file
--   Bytes s           every number of s is a byte
use Rattle.std.specs.Prelude.{◌≡◌, true, List, ℕ, suc, ◌^◌, ◌<◌, ◌≤◌, length, get_or}
use Rattle.job.specs.declared.Request.{Request}
use Rattle.job.specs.declared.Wait.{Wait}
use Rattle.job.specs.declared.Right.{Right}
use Rattle.job.specs.Job.{Job, most_nodes, most_heads, most_requests, may_ask, right_of}
use Rattle.jobfile.specs.Format.{most_bytes, rises_to}
use Rattle.jobfile.specs.Written.{written}

-- A right stands at its head's position, its rights are 1 to 3, and its mask has no bit for no head (02, A5).
pub record Holds (heads number : ℕ) (r : Right) : Type 0 where
  pub head : r.head ≡ number
  pub some : 0 < r.rights
  pub few : r.rights ≤ 3
  pub sight : r.sight < 2 ^ heads

-- A request's head is below the heads, its two places below the places, and (02, A5) its kind among its head's rights.
pub record Serves (nodes heads : ℕ) (rights : List Right) (q : Request) : Type 0 where
  pub head : q.head < heads
  pub x : q.x < nodes
  pub y : q.y < nodes
  pub asks : may_ask (right_of rights q.head).rights q.kind ≡ true

-- Both requests of a pair exist, and the earlier number is below the later (02, A3).
pub record Pairs (count : ℕ) (w : Wait) : Type 0 where
  pub later : w.later < count
  pub earlier : w.earlier < w.later

-- A job that no check refuses.
pub record Admitted (j : Job) : Type 0 where
  -- there are 1 to 4,096 nodes, 1 to 32 heads and at most 512 requests
  pub some_nodes : 0 < j.nodes
  pub few_nodes : j.nodes ≤ most_nodes
  pub some_heads : 0 < j.heads
  pub few_heads : j.heads ≤ most_heads
  pub few_requests : length j.requests ≤ most_requests
  -- there are no rights, or one a head (02, A5)
  pub complete : 0 < length j.rights → length j.rights ≡ j.heads
  pub each_right : (k : ℕ) (none : Right) → k < length j.rights → Holds j.heads k (get_or j.rights k none)
  -- every request is served by one of the heads, on two of the nodes
  pub each_request : (q : ℕ) (none : Request) → q < length j.requests
      → Serves j.nodes j.heads j.rights (get_or j.requests q none)
  -- every pair is one of its requests, and the pairs rise strictly (02, A3)
  pub each_wait : (i : ℕ) (none : Wait) → i < length j.waits → Pairs (length j.requests) (get_or j.waits i none)
  pub rising : (i : ℕ) (none : Wait) → suc i < length j.waits → rises_to (get_or j.waits i none) (get_or j.waits (suc i) none) ≡ true
  -- every grant is for one of the heads
  pub each_grant : (g none : ℕ) → g < length j.schedule → get_or j.schedule g none < j.heads
  -- and the file is not too long
  pub short : length (written j) ≤ most_bytes

-- What a file is made of.
abbrev pub Bytes : List ℕ → Type 0
Bytes s = (i : ℕ) → get_or s i 0 < 256
