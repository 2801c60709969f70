-- `fields::bytes::sum_words`: behind the last row, the sum with the byte that is left over is that of the file.
use Rattle.std.proofs.Common.{arith}
use Rattle.fields.proofs.Sums.{sum_all}
use Rattle.fields.proofs.bytes.sum_words.Goals as goal

pub returns : goal.returns
returns c =
    sum_all _ _ _ _ _ _ c.as_chunks.ensures.front c.as_chunks.ensures.back (omega arith) c.loop-low.invariant c.word_at.ensures
