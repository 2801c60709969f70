-- `records::put_runs`: a run that is stored.
use Rattle.writer.proofs.Grants.{run_taken}
use Rattle.writer.proofs.Stores.{storing_on}
use Rattle.writer.proofs.records.put_runs.Goals as goal

pub loop-i-preserved : goal.loop-i-preserved
loop-i-preserved c =
    rw c.from-i.ensures (record {
      within = run_taken _ _ _ c.loop-i.invariant.within c.run_at-run.ensures;
      storing = storing_on c.loop-i.invariant.storing _ _ c.run_at-run.ensures _ c.put_run.ensures;
    })
