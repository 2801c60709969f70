-- `checks::check_each_right`: the rows hold the rights, and there are no more of them than heads.
use Rattle.std.proofs.Common.{refl, ap, arith}
use Rattle.jobfile.specs.Draft.{each_right_refusal}
use Rattle.writer.proofs.Rights.{rights_count, rights_of_rows, right_end}
use Rattle.writer.proofs.checks.check_each_right.Goals as goal

pub loop-head-init : goal.loop-head-init
loop-head-init c = (refl, rw c.as_chunks.ensures.front (ap (each_right_refusal c.args.heads 0) (rights_of_rows c.args.rights.now)))

pub overflow_add-number : goal.overflow_add-number
overflow_add-number c =
    omega (
      arith,
      c.loop-head.invariant.0,
      c.loop-head-test.true,
      c.as_chunks.ensures.front_len,
      c.requires,
      rights_count c.args.rights.now,
    )

pub returns : goal.returns
returns c =
    right_end c.args.heads c.loop-head.number c.as_chunks.result.0.now c.loop-head.head-index _ c.loop-head.invariant.1 (omega arith)
