-- A place whose root was met before, or the lowest of its group.
use Rattle.std.proofs.Common.{map, arith}
use Rattle.word.specs.Word.{decode}
use Rattle.page.proofs.Gathering.{gathering_start, gathering_room}
use Rattle.page.proofs.Gathering.{gathering_inside, gathering_few, gathering_other, gathering_lowest}
use Rattle.page.proofs.groups.gathered.Goals as goal

pub loop-i-init : goal.loop-i-init
loop-i-init c = gathering_start (map decode c.args.table.words.now)

pub bounds-size-root : goal.bounds-size-root
bounds-size-root c =
    gathering_inside c.loop-i.invariant c.args.table.admitted c.loop-i-test.true _ c.root_of-root.ensures

pub overflow_add-size : goal.overflow_add-size
overflow_add-size c =
    omega (
      arith,
      c.args.table.admitted.few,
      c.loop-i-test.true,
      gathering_few c.loop-i.invariant c.args.table.admitted c.loop-i-test.true _ c.root_of-root.ensures,
    )

pub bounds-size-root-in-loop-i : goal.bounds-size-root-in-loop-i
bounds-size-root-in-loop-i c =
    gathering_inside c.loop-i.invariant c.args.table.admitted c.loop-i-test.true _ c.root_of-root.ensures

pub loop-i-preserved-then-before-ne0 : goal.loop-i-preserved-then-before-ne0
loop-i-preserved-then-before-ne0 c =
    gathering_other c.loop-i.invariant c.args.table.admitted c.loop-i-test.true _ c.root_of-root.ensures c.if-before-ne0.true

pub overflow_cast-groups-in-loop-i : goal.overflow_cast-groups-in-loop-i
overflow_cast-groups-in-loop-i c =
    omega (arith, gathering_inside c.loop-i.invariant c.args.table.admitted c.loop-i-test.true _ c.root_of-root.ensures)

pub bounds-groups-count : goal.bounds-groups-count
bounds-groups-count c =
    omega (arith, c.args.table.admitted.few, c.loop-i-test.true, gathering_room c.loop-i.invariant)

pub loop-i-preserved : goal.loop-i-preserved
loop-i-preserved c =
    gathering_lowest c.loop-i.invariant c.args.table.admitted c.loop-i-test.true _ c.root_of-root.ensures c.if-before-ne0.false
