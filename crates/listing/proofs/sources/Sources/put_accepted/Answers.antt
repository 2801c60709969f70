-- `Sources::put_accepted`: the job's line, the rows, the tally's line.
use Rattle.text.proofs.Writing.{wrote_append}
use Rattle.listing.proofs.sources.Sources.put_accepted.Goals as goal

pub returns : goal.returns
returns c = wrote_append c.put_job-job.ensures (wrote_append c.put_rows-rows.ensures c.put_tally.ensures)
