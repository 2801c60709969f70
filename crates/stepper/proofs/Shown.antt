-- What one entry does to the linearization that shows a state.
--
-- Main laws: entered_shown, its numbers; count_shown, how many entries there are.
use mathlib.Core.Path.{◌≡◌, refl, sym, ap, ◌∙◌}
use mathlib.Core.Bool.{cond}
use mathlib.Core.List.{List, ◌++◌}
use Prim.Native.Nat.{ℕ, suc, ◌+◌, ◌*◌}
use native.Mathlib.Omega.{arith}
use lib.Dec.{eqb}
use lib.ListN.{length, drop}
use lib.Seq.{drop-drop}
use Rattle.basics.proofs.Conditions.{split}
use Rattle.process.specs.declared.Event.{Event}
use Rattle.linearization.specs.Entry.{Entry, insert, flat, inserted}
use Rattle.linearization.proofs.Entries.{length_insert}
use Rattle.linearization.proofs.Numbers.{inserted_shown}
use Rattle.rules.specs.Step.{entered}
pub use Rattle.table.specs.Touch.{Worded}

pub entered_shown : (es : List Entry) (q : ℕ) (e : Event) (lent : List ℕ)
    → cond (eqb e.point 0) (flat es ++ drop (2 * length es) lent)
    (inserted (flat es ++ drop (2 * length es) lent) (length es) e.point q)
    ≡ flat (entered es q e) ++ drop (2 * length (entered es q e)) lent
entered_shown es q e lent =
    split (eqb e.point 0) (λ t. rw t refl)
    (λ t.
    let more : 2 * length (insert e.point q es) ≡ 2 * length es + 2 = omega (arith, length_insert e.point q es) in
    rw t
    (inserted_shown es (drop (2 * length es) lent) e.point q
    ∙ ap (λ l. flat (insert e.point q es) ++ l) (drop-drop 2 (2 * length es) lent ∙ ap (λ k. drop k lent) (sym more))))

pub count_shown : (es : List Entry) (q : ℕ) (e : Event) → cond (eqb e.point 0) (length es) (length es + 1) ≡ length (entered es q e)
count_shown es q e =
    split (eqb e.point 0) (λ t. rw t refl)
    (λ t. let more : length es + 1 ≡ suc (length es) = omega arith in rw t (more ∙ sym (length_insert e.point q es)))
