-- `put_each`: nothing at first, and a call writes one text more.
use Rattle.std.proofs.Common.{rules, refl, arith}
use Rattle.text.specs.Text.{each}
use Rattle.text.proofs.Text.{each_next}
use Rattle.text.proofs.Writing.{wrote_nothing, through_next}
use Rattle.text.proofs.put_each.Goals as goal

pub loop-i-init : goal.loop-i-init
unfolding each
loop-i-init g c = λ text writes. record { within = omega arith; wrote = wrote_nothing _ _ (search rules) (search rules) }

pub loop-i-preserved : goal.loop-i-preserved
loop-i-preserved g c = λ text writes.
    through_next (c.loop-i.invariant text writes) (omega arith) (each_next text _) (writes _ _ _ _ _ c.loop-i-test.true c.put-next.ensures)
