-- `dock::print_job`: what the play leaves can be printed.
use Rattle.std.proofs.Common.{sym, subst, arith}
use Rattle.jobfile.specs.Admitted.{Bytes}
use Rattle.dock.proofs.Dock.{PrintableLeft, printable, told_printable, put_output}
use Rattle.dock.proofs.print_job.Goals as goal

pub put_text-requires-clause-printable : goal.put_text-requires-clause-printable
put_text-requires-clause-printable c =
    let bytes : Bytes c.args.file.now = λ i. omega (arith, c.type_inv.file i) in
    told_printable _ _ c.from-played.ensures (subst PrintableLeft (sym c.play.ensures.exact) (printable _ _ _ _ bytes))

pub returns : goal.returns
returns c = put_output c.args.file.now _ c.play.ensures.exact _ c.from-played.ensures c.put_text.ensures
