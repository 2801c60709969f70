-- `reader::Accepted::run`: a run stands behind the requests, the pairs and the runs before it.
use Rattle.reader.proofs.Playing.{run_fits}
use Rattle.reader.proofs.Accepted.run.Goals as goal

pub run_here-requires : goal.run_here-requires
run_here-requires c = rw c.run_place.ensures (run_fits c.args.self.playing c.args.index c.requires)
