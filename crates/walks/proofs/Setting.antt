-- Where a walk by hand is made, its lent parameters, and what the outcome of a test says.
--
--   Setting          the model of the logic at which a walk is made, with what is given there
--   Lent X           a reference as it is passed: its lifetime, the share of its token, its place, its name, and what stands there at entry
--   lent             a reference with its lifetime and the share of its token, as a walk is given them
--   at_name, passed  the reference at a place, under a name, at a value; under its own name, at entry
--   as_read          a `&` at its place, at a value
--   pointer          the machine value of a reference
--   Loan, loan       what a reference is lent on for: a lifetime and a name
--   token, loan_token   the token of a reference; of a loan
--   differs, agrees  what the outcome of a test `!=` says
--   needs_both       what two `requires` clauses say is learned, as the kit's `needs` does it for one
use mathlib.Core.Path.{◌≡◌, refl, subst}
use mathlib.Core.Logic.{◌≢◌}
use mathlib.Core.Bool.{Bool, true, false, not}
use mathlib.Core.List.{[], ◌∷◌}
use Prim.Native.Nat.{ℕ}
use lib.Dec.{T as Holds, eqb}
use borrow.Author.Tests.{eq-eqb, eqb-true}
use seplogic.Ra.Ura.{Ura}
use base.Fraction.{full_share}
use mir.Val.{Val, vptr}
use base.Logic.{SProp, ent, sep, via, assoc'}
use base.Fml.{GName, Lft, Share, flft}
use prog.Memory.{Memory}
use prog.Routine.{Routine}
use types.Logic.{Logic}
use contract.Monad.{Fun, fact}
use types.Kit.{Item, ‵}
use denote.MutBor.{MutBor}
use denote.Bor.{Bor}
use denote.Triple.Walked.{needs}

pub record Setting : Type 2 where
  pub M : Type 1
  pub 𝓤 : Ura M
  pub 𝓛 : Logic 𝓤
  pub at_mem : Memory → SProp 𝓤
  pub run : Routine → Fun 𝓤

-- ---- a test

pub differs : (a b : ℕ) → Holds (not (eqb a b)) → a ≢ b
differs a b t e = subst (λ (y : Bool). Holds (not y)) (eq-eqb a b e) t

held : (y : Bool) → Holds (not (not y)) → y ≡ true
held true t = refl
held false t = absurd t

pub agrees : (a b : ℕ) → Holds (not (not (eqb a b))) → a ≡ b
agrees a b t = eqb-true a b (held (eqb a b) t)

-- ---- two clauses

pub needs_both : {M : Type 1} (𝓤 : Ura M) (φ ψ : Type 0) (P : SProp 𝓤) {Q : SProp 𝓤} → (φ → ψ → ent 𝓤 P Q)
    → ent 𝓤 (sep 𝓤 P (sep 𝓤 (fact 𝓤 φ) (fact 𝓤 ψ))) Q
needs_both 𝓤 φ ψ P h =
    via 𝓤 (sep 𝓤 (sep 𝓤 P (fact 𝓤 φ)) (fact 𝓤 ψ)) (assoc' 𝓤 P (fact 𝓤 φ) (fact 𝓤 ψ))
    (needs 𝓤 ψ (sep 𝓤 P (fact 𝓤 φ)) (λ b. needs 𝓤 φ P (λ a. h a b)))

-- ---- a lent parameter

pub record Lent (X : Type 0) : Type 0 where
  pub lifetime : Lft
  pub share : Share
  pub block : ℕ
  pub offset : ℕ
  pub name : GName
  pub entry : X

abbrev pub lent : {X : Type 0} → Lft → Share → MutBor X → Lent X
lent κ q r = record { lifetime = κ; share = q; block = r.ref_ptr.0; offset = r.ref_ptr.1; name = r.ghost_name; entry = r.now }

abbrev pub at_name : {X : Type 0} → Lent X → GName → X → MutBor X
at_name s δ x = record { ref_ptr = (s.block, s.offset); ghost_name = δ; now = x }

abbrev pub as_read : {X : Type 0} → Lent X → X → Bor X
as_read s x = record { ref_ptr = (s.block, s.offset); now = x }

abbrev pub passed : {X : Type 0} → Lent X → MutBor X
passed s = at_name s s.name s.entry

abbrev pub pointer : {X : Type 0} → Lent X → Val
pointer s = vptr s.block s.offset

pub record Loan : Type 0 where
  pub lifetime : ℕ
  pub name : GName

abbrev pub loan : ℕ → GName → Loan
loan ν δ = record { lifetime = ν; name = δ }

abbrev pub token : {M : Type 1} {𝓤 : Ura M} {X : Type 0} → Lent X → Item 𝓤
token s = ‵ (flft s.lifetime s.share)

abbrev pub loan_token : {M : Type 1} {𝓤 : Ura M} → Loan → Item 𝓤
loan_token n = ‵ (flft (n.lifetime ∷ []) full_share)
