-- Kinds and their numbers: each is told by the other.
--
--   kind_back       the kind of a kind's number is that kind
--   kind_written    the number of an admitted number's kind is that number
--   some_kind, few_kinds   a kind's number is admitted: 1 or 2
--   every_kind      every kind is among all rights (02, A5)
use mathlib.Core.Path.{◌≡◌, refl}
use mathlib.Core.Bool.{true}
use Prim.Native.Nat.{ℕ, zero, suc, ◌≤◌, ◌<◌}
use native.Mathlib.Omega.{arith}
use Rattle.job.specs.declared.Kind.{Kind}
use Rattle.job.specs.declared.Kind.TheVariants.{Union, SameSet}
use Rattle.job.specs.Job.{kind_of, kind_number, may_ask}

pub kind_back : (k : Kind) → kind_of (kind_number k) ≡ k
kind_back Union = refl
kind_back SameSet = refl

pub kind_written : (n : ℕ) → 0 < n → n ≤ 2 → kind_number (kind_of n) ≡ n
kind_written zero some few = absurd (omega arith)
kind_written (suc zero) some few = refl
kind_written (suc (suc zero)) some few = refl
kind_written (suc (suc (suc n))) some few = absurd (omega arith)

pub some_kind : (k : Kind) → 0 < kind_number k
some_kind Union = omega arith
some_kind SameSet = omega arith

pub few_kinds : (k : Kind) → kind_number k ≤ 2
few_kinds Union = omega arith
few_kinds SameSet = omega arith

pub every_kind : (k : Kind) → may_ask 3 k ≡ true
every_kind Union = refl
every_kind SameSet = refl
