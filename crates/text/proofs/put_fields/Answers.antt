-- `text::put_fields`: a turn writes one number more.
use Rattle.std.proofs.Common.{arith}
use Rattle.text.proofs.Text.{fields_next}
use Rattle.text.proofs.Writing.{wrote_append, through_next}
use Rattle.text.proofs.put_fields.Goals as goal

pub loop-number-preserved : goal.loop-number-preserved
loop-number-preserved c =
    through_next c.loop-number.invariant (omega arith) (fields_next _ _ (omega arith))
    (wrote_append c.put_byte-digits.ensures c.put_decimal-next.ensures)
