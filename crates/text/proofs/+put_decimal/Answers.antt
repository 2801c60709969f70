-- `text::put_decimal`: the digits of the hundredth, then the last two.
use Rattle.std.proofs.Common.{arith}
use Rattle.text.proofs.Text.{decimal_hundred}
use Rattle.text.proofs.Writing.{wrote_append}
use Rattle.text.proofs.+put_decimal.Goals as goal

pub returns : goal.returns
returns t c = rw (decimal_hundred c.args.n (omega arith)) (wrote_append c.put_decimal-next.ensures c.put_last_two-2.ensures)
