-- All heads rest with their tasks.
use Rattle.std.proofs.Common.{◌≡◌, length, sym, ◌∙◌, arith, rules}
use Rattle.std.proofs.lemmas.List.{length-map}
use Rattle.basics.proofs.Taken.{taken_all}
use Rattle.job.specs.Job.{most_heads}
use Rattle.start.specs.Start.{at_rest}
use Rattle.start.proofs.resting_heads.Goals as goal

pub returns : goal.returns
returns c =
    let size : length c.args.tasks ≡ most_heads = search rules in
    taken_all c.loop-h.h c.loop-h.heads (sym (length-map c.args.tasks at_rest ∙ size)) (omega arith) c.loop-h.invariant
