-- `checks::check_waits`: the pairs that are left have the refusal of all.
use Rattle.std.proofs.Common.{◌≡◌, drop, map}
use Rattle.jobfile.specs.Format.{no_pair}
use Rattle.jobfile.specs.Draft.{pairs_of, pairs_refusal}
use Rattle.writer.proofs.Pairs.{pair_in}
use Rattle.writer.proofs.checks.check_waits.Given as goal

abbrev pub invariant-loop-later : goal.invariant-loop-later
invariant-loop-later l =
    pairs_refusal l.count l.before (map pair_in (drop l.later-index l.rows)) ≡ pairs_refusal l.count no_pair (pairs_of l.waits)
