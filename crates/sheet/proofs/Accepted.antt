-- What is known of an accepted file where its sheet is made.
--
--   few_requests, few_heads   it has no more requests than the numbering has places, and their heads have bits in a mask
use mathlib.Core.Path.{◌≡◌, ap}
use mathlib.Core.List.{List}
use Prim.Native.Nat.{ℕ, ◌≤◌, ◌<◌}
use native.Mathlib.Omega.{arith}
use lib.ListN.{get_or}
use Rattle.job.specs.declared.Request.{Request}
use Rattle.job.specs.Job.{most_heads, most_requests}
use Rattle.reader.specs.declared.Checked.{Checked}
use Rattle.reader.specs.Reader.{Playing}
use Rattle.reader.proofs.Playing.{playing_count}
use Rattle.rules.specs.State.{no_request}
use Rattle.stepper.specs.Shown.{requests_in}
use Rattle.stepper.proofs.Reached.{playing_admitted}

module _ {file : List ℕ} {counts : Checked} (playing : Playing file counts) where
  pub few_requests : counts.requests ≤ most_requests
  few_requests = omega (arith, playing_count playing, (playing_admitted playing).few_requests)

  pub few_heads : (q : ℕ) → q < counts.requests → (r : Request) → ((none : Request) → r ≡ get_or (requests_in file) q none)
      → r.head < most_heads
  few_heads q l r is =
      omega (
        arith,
        ap (λ k. k.head) (is no_request),
        ((playing_admitted playing).each_request q no_request (omega (arith, playing_count playing))).head,
        (playing_admitted playing).few_heads,
      )
