-- The pair that is read is of another request, or holds, or holds nothing back.
use Rattle.std.proofs.Common.{◌≡◌, ℕ, ◌+◌, ◌<◌, List, get_or, sym, ap, ◌∙◌, arith}
use Rattle.job.specs.declared.Wait.{Wait}
use Rattle.reader.specs.declared.Checked.{Checked}
use Rattle.reader.specs.Reader.{Playing}
use Rattle.reader.proofs.Playing.{playing_count, playing_waits}
use Rattle.rules.specs.Report.{unfinished}
use Rattle.rules.specs.Waits.{pair}
use Rattle.stepper.specs.Buffers.{rows_of}
use Rattle.stepper.specs.Shown.{waits_in}
use Rattle.stepper.proofs.Reached.{playing_admitted}
use Rattle.stepper.proofs.Pairs.{scanned_start, scanned_here, scanned_on, scanned_past}
use Rattle.stepper.proofs.waits.Reported.lowest_wait.Goals as goal

-- the earlier request of a pair is one of the job's, and small
earlier_within : {file : List ℕ} {counts : Checked} → Playing file counts → (i : ℕ) → i < counts.waits → (w : Wait)
    → w ≡ get_or (waits_in file) i (pair 0 0)
    → (w.earlier < counts.requests) × (w.earlier < 65535)
earlier_within {counts = counts} playing i l w is =
    let a = playing_admitted playing in
    let p = a.each_wait i (pair 0 0) (omega (arith, l, playing_waits playing)) in
    let within : w.earlier < counts.requests = omega (arith, ap (λ v. v.earlier) is, p.later, p.earlier, playing_count playing) in
    (within, omega (arith, playing_count playing, a.few_requests))

pub loop-i-init : goal.loop-i-init
loop-i-init c = rw (sym c.from.ensures) (scanned_start _ c.first_pair-i.ensures)

pub returns-then-wait-from-clause-lowest : goal.returns-then-wait-from-clause-lowest
returns-then-wait-from-clause-lowest c =
    let p = c.args.self.job.playing in
    scanned_past _ (playing_admitted p) c.loop-i.invariant (omega (arith, playing_waits p))
    (λ e. c.if-wait-from.true (ap (λ w. w.later) (c.wait-wait.ensures (pair 0 0)) ∙ e ∙ sym c.from-in-loop-i.ensures))

pub is_unfinished-requires : goal.is_unfinished-requires
is_unfinished-requires c =
    omega (arith, (earlier_within c.args.self.job.playing _ c.loop-i-test.true _ (c.wait-wait.ensures (pair 0 0))).0)

pub overflow_cast-result : goal.overflow_cast-result
overflow_cast-result c =
    omega (arith, (earlier_within c.args.self.job.playing _ c.loop-i-test.true _ (c.wait-wait.ensures (pair 0 0))).1)

pub returns-then-is_unfinished-clause-lowest : goal.returns-then-is_unfinished-clause-lowest
returns-then-is_unfinished-clause-lowest c =
    let is = c.wait-wait.ensures (pair 0 0) in
    ap (λ w. w.earlier + 1) is
    ∙ scanned_here c.loop-i.invariant (omega (arith, playing_waits c.args.self.job.playing))
    (sym (ap (λ w. w.later) is) ∙ c.if-wait-from.false ∙ c.from-in-loop-i.ensures)
    (ap (λ w. unfinished (rows_of c.args.self.report.now) w.earlier) (sym is) ∙ sym c.if-is_unfinished.ensures)

pub returns-then-is_unfinished-clause-fits : goal.returns-then-is_unfinished-clause-fits
returns-then-is_unfinished-clause-fits c =
    omega (arith, (earlier_within c.args.self.job.playing _ c.loop-i-test.true _ (c.wait-wait.ensures (pair 0 0))).1)

pub loop-i-preserved : goal.loop-i-preserved
loop-i-preserved c =
    let is = c.wait-wait.ensures (pair 0 0) in
    scanned_on c.loop-i.invariant (omega (arith, playing_waits c.args.self.job.playing))
    (sym (ap (λ w. w.later) is) ∙ c.if-wait-from.false ∙ c.from-in-loop-i.ensures)
    (ap (λ w. unfinished (rows_of c.args.self.report.now) w.earlier) (sym is) ∙ sym c.if-is_unfinished.ensures)
