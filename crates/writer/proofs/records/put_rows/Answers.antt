-- `records::put_rows`: nothing at first, and a call stores one record more.
use Rattle.std.proofs.Common.{◌≡◌, ◌+◌, ◌*◌, length, ap, ◌∙◌, arith, mul-zero, mul-suc}
use Rattle.writer.proofs.Rows.{rows_room, rows_start, rows_on, rows_done}
use Rattle.writer.proofs.records.put_rows.Goals as goal

pub loop-row-init : goal.loop-row-init
loop-row-init g c = (omega (arith, mul-zero c.args.size), λ bytes puts. rows_start _ _ _ _ _)

pub put-requires : goal.put-requires
put-requires g c =
    c.requires.calls c.loop-row.row-index c.row-item.result _ _ c.loop-row-test.true c.row-item.is
    (rows_room _ _ _ _ _ _ c.loop-row.invariant.0 c.loop-row-test.true (omega (arith, c.requires.room, c.loop-row.auto.out)))

pub overflow_add-at : goal.overflow_add-at
overflow_add-at g c =
    omega (arith, rows_room _ _ _ _ _ _ c.loop-row.invariant.0 c.loop-row-test.true c.requires.room)

pub loop-row-preserved : goal.loop-row-preserved
loop-row-preserved g c = (
  omega (arith, c.loop-row.invariant.0, mul-suc c.args.size c.loop-row.row-index),
  λ bytes puts. rows_on _ _ _ _ _ _ _ _ _ _ (c.loop-row.invariant.1 bytes puts) c.loop-row-test.true c.row-item.is c.loop-row.invariant.0
      (puts _ _ _ _ _ c.loop-row-test.true c.row-item.is c.put.ensures),
)

pub returns-clause-end : goal.returns-clause-end
returns-clause-end g c =
    let all : c.loop-row.row-index ≡ length c.args.rows.now = omega arith in
    c.loop-row.invariant.0 ∙ ap (λ n. c.args.start + c.args.size * n) all

pub returns-clause-written : goal.returns-clause-written
returns-clause-written g c = λ bytes puts.
    rows_done _ _ _ _ _ _ _ (c.loop-row.invariant.1 bytes puts) (omega arith)
