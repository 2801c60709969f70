-- What a test decides.
--
--   split t f g    both outcomes of the test t, each with its equation
--   cond_both      what holds of both choices holds of the one chosen
--   both_left, both_right   two tests that pass together pass
use mathlib.Core.Path.{◌≡◌, refl, sym}
use mathlib.Core.Bool.{Bool, true, false, cond, true≢false}
pub use borrow.Table.Steps.{cases as split}

pub cond_both : {A : Type 0} (P : A → Type 0) (b : Bool) {x y : A} → P x → P y → P (cond b x y)
cond_both P true p q = p
cond_both P false p q = q

pub both_left : (a b : Bool) → cond a b false ≡ true → a ≡ true
both_left true b e = refl
both_left false b e = absurd (true≢false (sym e))

pub both_right : (a b : Bool) → cond a b false ≡ true → b ≡ true
both_right true b e = e
both_right false b e = absurd (true≢false (sym e))
