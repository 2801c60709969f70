-- `put_each`: the texts before i are written, whatever each call is known to write.
use Rattle.std.proofs.Common.{ℕ, List, ◌<◌, MutBor}
use Rattle.text.specs.Text.{each}
use Rattle.text.specs.Writing.{Wrote}
use Rattle.text.proofs.Writing.{Through}
use Rattle.text.proofs.put_each.Given as goal

abbrev pub invariant-loop-i : goal.invariant-loop-i
invariant-loop-i g l =
    (text : ℕ → List ℕ)
    → ((i : ℕ) (before : MutBor (List ℕ)) (from next : ℕ) (after : MutBor (List ℕ)) → i < l.count
    → goal.F-post g l.put i before from next after → Wrote (text i) from before.now after.now next)
    → Through (each text) l.count l.i l.fn.at l.fn.out l.out l.next
