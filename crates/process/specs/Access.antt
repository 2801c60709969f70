-- Document 01, "One grant, one word", and document 02, A2: a grant lets one head read one word or make one swap. Which one, by
-- stage.
--
--   raising y r    the swap that raises the root y from rank r
--   access_at k t  the access of a head with the task k at stage t
--   access_of h    the access that the head h makes next
use Rattle.std.specs.Prelude.{ℕ, ◌+◌}
use Rattle.process.specs.declared.Stage.{Stage}
use Rattle.process.specs.declared.Stage.TheVariants.{Resting, Find, RereadX, ReadRankX, ReadRankY, Link, Raise}
use Rattle.process.specs.declared.Stage.TheVariants.{ReadRankLinked, RaiseFound}
use Rattle.process.specs.declared.Task.{Task}
use Rattle.process.specs.declared.Head.{Head}
use Rattle.process.specs.declared.Access.{Access}
use Rattle.process.specs.declared.Access.TheVariants.{Idle, Load, Cas}
use Rattle.process.specs.Process.{node_at}
use Rattle.process.specs.Find.{find_access}

-- Swap y's word from root with that rank to root with rank one higher.
abbrev pub raising : ℕ → ℕ → Access
raising y r = Cas y (record { rank = r; parent = y }) (record { rank = r + 1; parent = y })

-- The one word that the grant reads or swaps, stage by stage.
abbrev pub access_at : Task → Stage → Access
access_at k Resting = Idle
-- the find's own
access_at k (Find e s) = find_access (node_at k e) s
-- same-set, the two roots differ: read x's word
access_at k (RereadX p) = Load k.x
-- union: read x's word for its rank, then y's for its rank
access_at k ReadRankX = Load k.x
access_at k (ReadRankY r) = Load k.y
-- swap x's word from root with the rank read to parent y with x's rank kept
access_at k (Link r e) = Cas k.x (record { rank = r; parent = k.x }) (record { rank = r; parent = k.y })
-- the ranks read were equal: swap y's word from root with that rank to root with rank one higher
access_at k (Raise r) = raising k.y r
-- (02, A2) the find from the linked x has ended at y: read that x's word for its rank
access_at k ReadRankLinked = Load k.x
-- then one swap of y's word from root with that rank to root with one more
access_at k (RaiseFound r) = raising k.y r

-- The access of a head is that of its stage.
unfoldable pub access_of : Head → Access
access_of h = access_at h.task h.stage
