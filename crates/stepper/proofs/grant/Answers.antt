-- Where the mask has no bit of the head, the grant is idle.
use Rattle.std.proofs.Common.{sym}
use Rattle.stepper.proofs.Needs.{idle_stepped}
use Rattle.stepper.proofs.grant.Goals as goal

pub returns : goal.returns
returns c =
    λ origin gs lent standing.
    let p = c.requires in
    idle_stepped p.playing p.head standing c.idled.result c.idled.ensures (sym c.if-is_set.ensures)
