-- Document 01, "Played cases": what the program prints for a job file.
--
--   text_of left              the text of what a play left
--   output file               the text of a file
--   longest                   room for every text
--   Put text before after n   the n bytes of the text were written at the start of a buffer
--   Holds input buffer n      the first n bytes of a buffer are as much of the input as it has room for
--   PutInput b n before after r   the text of the input that the buffer b holds was written, r bytes
--   Printable p t r l         table t, report r and linearization l hold what the text of p shows, in not too many lines
use Rattle.std.specs.Prelude.{◌≡◌, List, ◌++◌, ℕ, ◌+◌, ◌*◌, ◌≤◌, length, take, drop, replicate}
use Rattle.job.specs.Job.{most_nodes, most_requests}
use Rattle.job.specs.declared.Played.{Played}
use Rattle.player.specs.Player.{Left, played_of}
use Rattle.listing.specs.Listing.{listing, Enough}

-- A job's listing, or a refusal's line.
abbrev pub text_of : Left → List ℕ
text_of left = listing left.result left.table left.report left.linearization

-- The file is played on a table, a report and a linearization of zeros, as long as the largest job needs:
-- 4,096 places, and four and two numbers for each of 512 requests.
unfoldable pub output : List ℕ → List ℕ
output file = text_of (played_of file (replicate most_nodes 0) (replicate (4 * most_requests) 0) (replicate (2 * most_requests) 0))

-- A line for each place, request and entry, the job's and the tally's, of at most 64 bytes each.
abbrev pub longest : ℕ
longest = 64 * (most_nodes + most_requests + most_requests + 2)

-- What is printed: the first `bytes` bytes of a buffer.
pub record Put (text before after : List ℕ) (bytes : ℕ) : Type 0 where
  pub counted : bytes ≡ length text
  -- bytes beyond what is written stay
  pub stored : after ≡ text ++ drop (length text) before

-- What reading leaves: the first bytes of the input in order, and fewer than the buffer has room for only where the input ends.
abbrev pub Holds : List ℕ → List ℕ → ℕ → Type 0
Holds input buffer bytes = take bytes buffer ≡ take (length buffer) input

-- Whatever the input was, its own text is written: the part that the buffer has no room for changes nothing.
abbrev pub PutInput : List ℕ → ℕ → List ℕ → List ℕ → ℕ → Type 0
PutInput buffer bytes before after printed = (input : List ℕ) → Holds input buffer bytes → Put (output input) before after printed

-- ---- for the inner functions

pub record Printable (played : Played) (table report linearization : List ℕ) : Type 0 where
  pub enough : Enough played table report linearization
  pub lines : played.nodes + played.requests + played.entries ≤ most_nodes + most_requests + most_requests
