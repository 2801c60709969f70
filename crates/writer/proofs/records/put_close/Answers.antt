-- `records::put_close`: the mark, the sum of the words up to it, and the balance.
use Rattle.std.proofs.Common.{arith}
use Rattle.writer.proofs.Close.{close_stored}
use Rattle.writer.proofs.records.put_close.Goals as goal

pub returns : goal.returns
returns c =
    close_stored c.args.out.now _ _ c.args.at c.sum_words-sum.result c.wrapping_neg.result (omega arith) (omega arith)
    c.put_word.ensures c.sum_words-sum.ensures c.wrapping_neg.ensures c.put_word-2.ensures
