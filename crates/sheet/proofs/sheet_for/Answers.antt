-- `sheet_for`: the buffers hold the run's rows and entries, and the requests are numbered.
use Rattle.std.proofs.Common.{ap, ◌∙◌, arith}
use Rattle.sheet.specs.Call.{written_of}
use Rattle.sheet.proofs.Played.{run_readable, run_text_printed}
use Rattle.sheet.proofs.sheet_for.Goals as goal

pub invariant_of-parts-clause-readable : goal.invariant_of-parts-clause-readable
invariant_of-parts-clause-readable c = run_readable c.args.job.playing c.requires c.numbered.ensures

pub invariant_of-parts-clause-narrow : goal.invariant_of-parts-clause-narrow
invariant_of-parts-clause-narrow c =
    record {
      small = c.numbered.ensures.small;
      rows = λ k. omega (arith, c.type_inv.report k);
      points = λ k. omega (arith, c.type_inv.linearization k);
    }

pub returns : goal.returns
returns c =
    c.write.ensures
    ∙ ap (λ text. written_of text c.args.out.now) (run_text_printed c.args.job.playing c.requires c.numbered.ensures)
