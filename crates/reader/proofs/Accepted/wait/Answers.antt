-- `reader::Accepted::wait`: a pair stands behind the requests and the pairs before it.
use Rattle.reader.proofs.Playing.{wait_fits}
use Rattle.reader.proofs.Accepted.wait.Goals as goal

pub wait_here-requires : goal.wait_here-requires
wait_here-requires c = rw c.wait_place.ensures (wait_fits c.args.self.playing c.args.index c.requires)
