-- Document 02, A4: "What holds of heads should be shown for a head count left open". A run with more heads is the same run.
--
--   SameRun qs S S'     the two states differ in their heads at most, and not in their tally
--   SameAfter           from that table, m heads and m' heads have the same run and history after the grants gs
--   HeadsOpen           so have any two numbers of heads, if all requests and all grants are those of the lower number's heads
use Rattle.std.specs.Prelude.{◌≡◌, ℕ, ◌≤◌, ◌<◌, length}
use mathlib.Core.List.{List, [], Memᴰ}
use Rattle.job.specs.declared.Request.{Request}
use Rattle.job.specs.declared.Wait.{Wait}
use Rattle.word.specs.declared.Node.{Node}
use Rattle.rules.specs.State.{State, request_at, start, tally_of}
use Rattle.rules.specs.Run.{run, history}

-- "keeps its table, report, line-up and tally"
pub record SameRun (qs : List Request) (S S' : State) : Type 0 where
  pub table : S.table ≡ S'.table
  pub report : S.report ≡ S'.report
  pub entries : S.entries ≡ S'.entries
  pub idle : S.idle ≡ S'.idle
  pub failed : S.failed ≡ S'.failed
  pub links : S.links ≡ S'.links
  pub now : S.now ≡ S'.now
  pub tally : tally_of qs S ≡ tally_of qs S'

pub record SameAfter (qs : List Request) (ws : List Wait) (m m' : ℕ) (t : List Node) (gs : List ℕ) : Type 0 where
  pub states : SameRun qs (run qs ws (start qs m t) gs) (run qs ws (start qs m' t) gs)
  pub histories : history qs ws (start qs m t) [] gs ≡ history qs ws (start qs m' t) [] gs

-- Heads from m on have no request and no grant.
abbrev pub HeadsOpen : Type 0
HeadsOpen =
    (qs : List Request) (ws : List Wait) (m m' : ℕ) (t : List Node) (gs : List ℕ) → m ≤ m'
    → ((q : ℕ) → q < length qs → (request_at qs q).head < m)
    → ((h : ℕ) → Memᴰ h gs → h < m)
    → SameAfter qs ws m m' t gs
