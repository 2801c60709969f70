-- Where a find ends, by what its errand decides.
--
-- Laws: ended_x, the find from y follows; ended_tidy, the rank of the linked x is read; ended_y, both finds have ended.
use mathlib.Core.Path.{◌≡◌, refl, sym}
use mathlib.Core.Bool.{true, false, true≢false}
use Prim.Native.Nat.{ℕ}
use Rattle.process.specs.declared.Step.TheVariants.{ReadNode}
use Rattle.process.specs.declared.Errand.{Errand}
use Rattle.process.specs.declared.Errand.TheVariants.{UnionX, UnionY, SameX, SameY, Tidy}
use Rattle.process.specs.declared.Stage.TheVariants.{Find, ReadRankLinked}
use Rattle.process.specs.declared.Task.{Task}
use Rattle.process.specs.Process.{tidies, kind_of, serves_x, next_errand}
use Rattle.process.specs.Advance.{go_on, compared, ended}

module _ (k : Task) (now : ℕ) where
  pub ended_x : (e : Errand) → serves_x e ≡ true → go_on k (Find (next_errand e) ReadNode) ≡ ended k e now
  ended_x UnionX x = refl
  ended_x UnionY x = absurd (true≢false (sym x))
  ended_x SameX x = refl
  ended_x SameY x = absurd (true≢false (sym x))
  ended_x Tidy x = absurd (true≢false (sym x))

  pub ended_tidy : (e : Errand) → tidies e ≡ true → go_on k ReadRankLinked ≡ ended k e now
  ended_tidy UnionX t = absurd (true≢false (sym t))
  ended_tidy UnionY t = absurd (true≢false (sym t))
  ended_tidy SameX t = absurd (true≢false (sym t))
  ended_tidy SameY t = absurd (true≢false (sym t))
  ended_tidy Tidy t = refl

  pub ended_y : (e : Errand) → serves_x e ≡ false → tidies e ≡ false → compared k (kind_of e) now ≡ ended k e now
  ended_y UnionX x t = absurd (true≢false x)
  ended_y UnionY x t = refl
  ended_y SameX x t = absurd (true≢false x)
  ended_y SameY x t = refl
  ended_y Tidy x t = absurd (true≢false t)
