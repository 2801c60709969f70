-- A half of the heads is taken over, and so they all are.
use Rattle.std.proofs.Common.{◌≡◌, length, arith, rules}
use Rattle.stepper.proofs.Halves.{half_end}
use Rattle.stepper.proofs.half_moved.Goals as goal

pub returns : goal.returns
returns c =
    let size : length c.args.before ≡ length c.args.after = search rules in
    half_end c.requires c.loop-k.k c.loop-k.heads size (omega (arith, c.loop-k-test.false)) c.loop-k.invariant
