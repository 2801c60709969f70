-- One digit is written with its seven spaces; a longer number after those that fill the column.
use Rattle.std.proofs.Common.{arith}
use Rattle.text.proofs.Text.{decimal_digit}
use Rattle.page.proofs.Columns.{padding_next, padding_done}
use Rattle.page.proofs.lines.put_column.Goals as goal

pub returns-then-n-lt10 : goal.returns-then-n-lt10
returns-then-n-lt10 c = rw (decimal_digit c.args.n (omega arith)) c.put_bytes.ensures

pub loop-preserved : goal.loop-preserved
loop-preserved c = padding_next c.loop.invariant (omega arith) c.put_byte-next.ensures

pub returns : goal.returns
returns c = padding_done c.loop.invariant (omega arith) c.digits-counter.ensures c.put_decimal.ensures
