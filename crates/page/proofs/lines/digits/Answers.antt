-- A number of 32 bits has few digits, and a tenth of it one fewer.
use Rattle.std.proofs.Common.{length, arith, ap}
use Rattle.text.proofs.Text.{decimal_digit, decimal_more_length, decimal_short}
use Rattle.page.proofs.lines.digits.Goals as goal

pub overflow_add-digits : goal.overflow_add-digits
overflow_add-digits c = omega (arith, decimal_short c.args.n c.ranges.n.fits)

pub loop-left-preserved : goal.loop-left-preserved
loop-left-preserved c = omega (arith, decimal_more_length c.loop-left.left (omega arith))

pub returns : goal.returns
returns c = omega (arith, ap length (decimal_digit c.loop-left.left (omega arith)))
