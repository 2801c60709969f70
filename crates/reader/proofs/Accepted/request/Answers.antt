-- `reader::Accepted::request`: request q stands in its place.
use Rattle.reader.proofs.Playing.{request_fits}
use Rattle.reader.proofs.Accepted.request.Goals as goal

pub request_here-requires : goal.request_here-requires
request_here-requires c = rw c.request_place.ensures (request_fits c.args.self.playing c.args.q c.requires)
