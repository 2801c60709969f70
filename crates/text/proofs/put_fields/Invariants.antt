-- `text::put_fields`: the numbers before the one at hand are written, a space before each.
use Rattle.std.proofs.Common.{length, take}
use Rattle.text.specs.Text.{fields}
use Rattle.text.proofs.Writing.{Through}
use Rattle.text.proofs.put_fields.Given as goal

abbrev pub invariant-loop-number : goal.invariant-loop-number
invariant-loop-number l = Through (λ k. fields (take k l.fn.numbers)) (length l.fn.numbers) l.number-index l.fn.at l.fn.out l.out l.next
