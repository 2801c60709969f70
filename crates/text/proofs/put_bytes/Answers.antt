-- `text::put_bytes`: a turn writes one byte more.
use Rattle.std.proofs.Common.{arith}
use Rattle.basics.proofs.Lists.{take_next}
use Rattle.text.proofs.Writing.{through_next}
use Rattle.text.proofs.put_bytes.Goals as goal

pub loop-byte-preserved : goal.loop-byte-preserved
loop-byte-preserved c = through_next c.loop-byte.invariant (omega arith) (take_next _ _ (omega arith)) c.put_byte-next.ensures
