-- `checks::right_of`: the row of a head is its right.
use Rattle.std.proofs.Common.{get_or, ap, ◌∙◌, arith}
use Rattle.writer.proofs.Rights.{right_given}
use Rattle.writer.proofs.checks.right_of.Goals as goal

pub returns-in-Some : goal.returns-in-Some
returns-in-Some c =
    let found = c.in-Some.ensures.lookup in
    right_given c.args.rights.now c.args.head c.in-Some.field-0.now (omega (arith, found.0, c.as_chunks.ensures.front_len))
    (found.1 ∙ ap (λ rows. get_or rows c.args.head c.in-Some.field-0.now) c.as_chunks.ensures.front)
