-- `checks::check_each_right`: the rights that are left have the refusal of all, and are numbered by their places.
use Rattle.std.proofs.Common.{◌≡◌, drop, map}
use Rattle.jobfile.specs.Draft.{rights_given, each_right_refusal}
use Rattle.writer.proofs.Rights.{right_in}
use Rattle.writer.proofs.checks.check_each_right.Given as goal

abbrev pub invariant-loop-head : goal.invariant-loop-head
invariant-loop-head l =
    (l.number ≡ l.head-index)
    × (each_right_refusal l.heads l.number (map right_in (drop l.head-index l.rows))
    ≡ each_right_refusal l.heads 0 (rights_given l.fn.rights))
