-- One node more is its own parent, and then they all are.
use Rattle.std.proofs.Common.{length, sym, ◌∙◌, arith}
use Rattle.basics.proofs.Taken.{taken_on, taken_all}
use Rattle.start.proofs.Start.{length_words, fresh_word}
use Rattle.start.proofs.fresh_table.Goals as goal

pub loop-i-preserved : goal.loop-i-preserved
loop-i-preserved c =
    taken_on c.loop-i.i c.loop-i.table _ (omega arith)
    (c.from.ensures ∙ sym (fresh_word (length c.args.table.now) c.loop-i.i (omega arith))) c.loop-i.invariant

pub returns : goal.returns
returns c =
    taken_all c.loop-i.i c.loop-i.table (sym (length_words (length c.args.table.now))) (omega arith) c.loop-i.invariant
