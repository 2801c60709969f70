-- `fields::bytes::sum_words`: with the words that are left, the sum is that of all, without carries out of 16 bits.
use Rattle.std.proofs.Common.{◌≡◌, ◌+◌, ◌%◌, drop}
use Rattle.fields.proofs.Sums.{rows_sum}
use Rattle.fields.proofs.bytes.sum_words.Given as goal

abbrev pub invariant-loop-low : goal.invariant-loop-low
invariant-loop-low l =
    (l.sum + rows_sum (drop l.low-index l.words)) % 65536 ≡ rows_sum l.words % 65536
