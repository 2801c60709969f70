-- Each part asks what the state shown grants it, and the parts together make the rules' step; a head that waits is left as it is.
-- After the access the heads' records are as the report wants them, one after the other. The test for a wait is found and not
-- named, so that a wrong test is refused by the goals.
use Rattle.std.proofs.Common.{◌≡◌, refl, false, set, cond, map, List, sym, ◌∙◌, arith, rules}
use Rattle.process.specs.declared.Head.{Head}
use Rattle.stepper.specs.Buffers.{rows_of}
use Rattle.stepper.specs.Shown.{buffers, waits_in, noted}
use Rattle.stepper.specs.Waits.{frees}
use Rattle.stepper.proofs.Needs.{waiting_stepped}
use Rattle.stepper.proofs.Parts.{service_of, Parts, parts_grants, parts_renewable, ready_next, ready_records, ready_rows}
use Rattle.stepper.proofs.Parts.{ready_small, ready_raisable, ready_touchable, ready_number, ready_room, ready_used}
use Rattle.stepper.proofs.Parts.{ready_insertable, ready_moved, ready_own}
use Rattle.stepper.proofs.Renewed.{renewed_start, renewed_here, renewed_on, renewed_end, frees_final, renewed_noted}
use Rattle.stepper.proofs.serve.Goals as goal
use Rattle.stepper.proofs.serve.Goals.{After-frees}

-- ---- what holds there

-- the grant frees nobody or some; these are the heads with the one that was granted
abbrev moved : After-frees → List Head
moved c = set c.args.before c.args.h c.settled_head-next.result

parts : (c : After-frees)
    → Parts c.args.indexed.job.file.now c.args.indexed.job.counts c.args.h c.args.number
    (buffers c.args.before c.args.table.now c.args.report.now c.args.linearization.now c.args.entries c.args.mask)
    c.ready_head-head.result
    c.stepped-moved.result c.stepped-moved.new.table c.charge_row.new.report c.enter-listed.new.linearization
    c.enter-listed.result c.work_left-work.result c.settled_head-next.result
parts c =
    record {
      service = service_of c.requires.grantable c.requires.bit_set (search rules) c.ready_head-head.ensures;
      moves = c.stepped-moved.ensures.leads;
      touches = c.stepped-moved.ensures.leaves;
      charges = c.charge_row.ensures;
      enters = rw (sym c.from.ensures) c.enter-listed.ensures.entered;
      counted = c.enter-listed.ensures.counted;
      settles = c.settled_head-next.ensures;
      masks = c.work_left-work.ensures;
    }

-- where it frees nobody, the heads are as they are
unchanged : (c : After-frees) → c.frees.result ≡ false
    → moved c
    ≡ cond (frees c.args.indexed.job.counts.waits c.stepped-moved.result.event.answer)
    (map (noted (waits_in c.args.indexed.job.file.now) (rows_of c.charge_row.new.report)) (moved c)) (moved c)
unchanged c none = rw (sym c.frees.ensures ∙ none) refl

-- ---- the goals

pub returns-then-is_waiting : goal.returns-then-is_waiting
returns-then-is_waiting c =
    λ origin gs lent standing.
    let ready = c.requires.grantable in
    waiting_stepped ready.playing ready.head standing c.idled.result c.idled.ensures (search rules)

pub ready_head-head-requires : goal.ready_head-head-requires
ready_head-head-requires c =
    ready_next c.requires.grantable c.requires.bit_set (search rules)

pub stepped-moved-requires : goal.stepped-moved-requires
stepped-moved-requires c =
    let s = service_of c.requires.grantable c.requires.bit_set (search rules) c.ready_head-head.ensures in
    record { touchable = ready_touchable s; raisable = ready_raisable s }

pub settled_head-next-requires : goal.settled_head-next-requires
settled_head-next-requires c =
    let s = service_of c.requires.grantable c.requires.bit_set (search rules) c.ready_head-head.ensures in
    record { within = ready_moved s _ c.stepped-moved.ensures.leads; own = ready_own s _ c.stepped-moved.ensures.leads }

pub charge_row-requires : goal.charge_row-requires
charge_row-requires c =
    let s = service_of c.requires.grantable c.requires.bit_set (search rules) c.ready_head-head.ensures in
    record { request_in_bounds = ready_room s; used_bound = ready_used s (omega arith) }

pub enter-listed-requires : goal.enter-listed-requires
enter-listed-requires c =
    let s = service_of c.requires.grantable c.requires.bit_set (search rules) c.ready_head-head.ensures in
    record { insertable = ready_insertable s _ c.stepped-moved.ensures.leads; entries_bound = ready_small s }

pub returns-then-at-lt-HALF : goal.returns-then-at-lt-HALF
returns-then-at-lt-HALF c =
    let d = (goal.at.returns-then-at-lt-HALF c).After-frees in
    parts_grants (parts d) _ (c.half_moved.ensures ∙ unchanged d c.if-not-frees.true) _ c.used.ensures

pub returns-then-not-frees : goal.returns-then-not-frees
returns-then-not-frees c =
    let d = (goal.at.returns-then-not-frees c).After-frees in
    parts_grants (parts d) _ (c.half_moved-then-not-frees.ensures ∙ unchanged d c.if-not-frees.true) _
    c.used-then-not-frees.ensures

pub invariant_of-reported : goal.invariant_of-reported
invariant_of-reported c =
    let s = service_of c.requires.grantable c.requires.bit_set (search rules) c.ready_head-head.ensures in
    record { rows = ready_rows s.asked _ _ _ c.charge_row.ensures }

pub loop-k-init : goal.loop-k-init
loop-k-init c = renewed_start

pub renewed_head-requires : goal.renewed_head-requires
renewed_head-requires c =
    let s = service_of c.requires.grantable c.requires.bit_set (search rules) c.ready_head-head.ensures in
    ready_number s

pub loop-k-preserved : goal.loop-k-preserved
loop-k-preserved c =
    let d = (goal.at.loop-k-preserved c).After-frees in
    let l = c.loop-k.invariant in
    let records = ready_records c.requires.grantable c.settled_head-next.result in
    let final = frees_final _ _ (sym c.frees.ensures ∙ c.if-not-frees.false) in
    renewed_on l records _ (omega arith)
    (c.renewed_head.ensures
    ∙ renewed_noted (parts_renewable (parts d) final) c.loop-k.k (omega arith) _ (renewed_here l records))

pub returns : goal.returns
returns c =
    let d = (goal.at.returns c).After-frees in
    parts_grants (parts d) _ (rw (sym c.frees.ensures ∙ c.if-not-frees.false)
    (renewed_end c.loop-k.invariant (ready_records c.requires.grantable c.settled_head-next.result) (omega arith))) _ c.used-2.ensures
