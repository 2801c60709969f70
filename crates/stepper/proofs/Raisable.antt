-- What a head knows keeps the rank that it raises within a byte.
use Prim.Native.Nat.{ℕ, suc, ◌+◌, ◌≤◌, ◌<◌}
use native.Mathlib.Omega.{arith}
use Rattle.job.specs.declared.Request.{Request}
use Rattle.word.specs.Word.{node_limit, rank_limit}
use Rattle.process.specs.declared.Stage.{Stage}
use Rattle.process.specs.declared.Stage.TheVariants.{Resting, Find, RereadX, ReadRankX, ReadRankY, Link, Raise, ReadRankLinked, RaiseFound}
use Rattle.process.specs.declared.Task.{Task}
use Rattle.process.specs.Process.{Raisable}
use Rattle.forest.proofs.Size.{size_le}
use Rattle.forest.proofs.Sound.{power_limit}
use Rattle.rules.proofs.Stages.{Moment, Raising, Knows}

module _ {n : ℕ} (m : Moment n) (q : Request) (k : Task) (few : n ≤ node_limit) where
  -- a root that is about to be raised is in a set of at least the nodes that the higher rank asks for
  raising_fits : {x rank : ℕ} → Raising m q x k.y rank → rank + 1 < rank_limit
  raising_fits {x} {rank} a =
      omega (arith, power_limit (suc rank) 16 n (omega (arith, a.weight, size_le n m.labels (m.labels k.y))) (omega arith))

  pub stage_raisable : (stage : Stage) → Knows m q k stage → Raisable stage
  stage_raisable Resting a = omega arith
  stage_raisable (Find e s) a = omega arith
  stage_raisable (RereadX point) a = omega arith
  stage_raisable ReadRankX a = omega arith
  stage_raisable (ReadRankY rank) a = omega arith
  stage_raisable (Link rank e) a = omega arith
  stage_raisable (Raise rank) a = raising_fits a
  stage_raisable ReadRankLinked a = omega arith
  stage_raisable (RaiseFound rank) a = raising_fits a
