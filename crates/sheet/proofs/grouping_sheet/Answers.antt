-- `grouping_sheet`: the play refuses the file, or the head is none of the job's, or its sheet is written.
use Rattle.std.proofs.Common.{ap, sym, refl, ◌∙◌, arith}
use Rattle.std.proofs.lemmas.Result.{err_from_is_err_and}
use Rattle.job.proofs.Refusals.{refuses}
use Rattle.stepper.specs.Shown.{requests_in}
use Rattle.sheet.specs.Sight.{sighted}
use Rattle.sheet.specs.Call.{run_in, run_text, text_of, written_of}
use Rattle.sheet.proofs.Played.{call_played}
use Rattle.sheet.proofs.Call.{sheet_refused, sheet_headless, sheet_written}
use Rattle.sheet.proofs.grouping_sheet.Goals as goal

pub returns-in_err-play : goal.returns-in_err-play
returns-in_err-play c =
    let p = err_from_is_err_and c.from_residual.result c.from_residual.ensures.1 in
    let known = call_played c.args.file.now (λ i. omega (arith, c.type_inv.file i)) _ c.in_err-play.ensures.exact in
    rw (p.1, p.2) (sheet_refused _ _ _ known.number (refuses _))

pub returns-then-play-head : goal.returns-then-play-head
returns-then-play-head c =
    let known = call_played c.args.file.now (λ i. omega (arith, c.type_inv.file i)) _ c.in_ok-play.ensures.exact in
    sheet_headless _ _ _ (sym known.number) (omega (arith, known.heads refl, c.if-play-head.true))

pub returns-in_err-job : goal.returns-in_err-job
returns-in_err-job c =
    let p = err_from_is_err_and c.from_residual-in_err-job.result c.from_residual-in_err-job.ensures.1 in
    rw (p.1, p.2) (sheet_refused _ _ _ c.in_err-job.ensures.told (refuses _))

pub sheet_for-requires : goal.sheet_for-requires
sheet_for-requires c =
    let known = call_played c.args.file.now (λ i. omega (arith, c.type_inv.file i)) _ c.in_ok-play.ensures.exact in
    rw c.in_ok-job.ensures.same (known.holding refl)

pub returns : goal.returns
returns c =
    let file = c.args.file.now in
    let read = c.in_ok-job.job.file.now in
    let out = c.args.out.now in
    let known = call_played file (λ i. omega (arith, c.type_inv.file i)) _ c.in_ok-play.ensures.exact in
    c.sheet_for.ensures
    ∙ ap (λ sight. written_of (run_text (sighted sight (requests_in read)) (run_in read)) out) c.sight_of-sight.ensures
    ∙ ap (λ f. written_of (text_of f c.args.head) out) c.in_ok-job.ensures.same
    ∙ sheet_written _ _ _ (sym known.number) (omega (arith, known.heads refl, c.if-play-head.false))
