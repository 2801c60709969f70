-- What a head knows keeps its access inside the table.
use Prim.Native.Nat.{ℕ, ◌<◌}
use Rattle.job.specs.declared.Request.{Request}
use Rattle.process.specs.declared.Step.{Step}
use Rattle.process.specs.declared.Step.TheVariants.{ReadNode, ReadParent, Halve, ReadAgain}
use Rattle.process.specs.declared.Stage.{Stage}
use Rattle.process.specs.declared.Stage.TheVariants.{Resting, Find, RereadX, ReadRankX, ReadRankY, Link, Raise, ReadRankLinked, RaiseFound}
use Rattle.process.specs.declared.Task.{Task}
use Rattle.process.specs.Find.{find_access}
use Rattle.process.specs.Access.{access_at}
use Rattle.rules.specs.Table.{parent, rank}
use Rattle.rules.proofs.Finds.{FindKnows}
use Rattle.rules.proofs.Stages.{Moment, Knows, find_node}
use Rattle.table.specs.Touch.{Within}

pub find_within : (n : ℕ) (p r B : ℕ → ℕ) (v : ℕ) → v < n → (s : Step) → FindKnows n p r B v s → Within n (find_access v s)
find_within n p r B v node ReadNode a = node
find_within n p r B v node (ReadParent rank t) a = a.parent.node
find_within n p r B v node (Halve rank t u) a = node
find_within n p r B v node (ReadAgain t) a = a.node

module _ {n : ℕ} (m : Moment n) (q : Request) (k : Task) where
  pub access_within : (stage : Stage) → Knows m q k stage → Within n (access_at k stage)
  access_within Resting a = a
  access_within (Find e s) a = find_within n (parent m.table) (rank m.table) m.labels _ (find_node a) s a.find
  access_within (RereadX point) a = a.finding.left
  access_within ReadRankX a = a.finding.left
  access_within (ReadRankY rank) a = a.finding.right
  access_within (Link rank e) a = a.finding.left
  access_within (Raise rank) a = a.linked.right
  access_within ReadRankLinked a = a.left
  access_within (RaiseFound rank) a = a.linked.right
