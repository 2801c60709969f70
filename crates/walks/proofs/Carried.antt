-- A struct that a walk by hand carries by value.
--
--   Carried          a struct that owns nothing but facts, with the kit's laws of it
--   value, IsValue   the machine value of a record; that the one stands for the other
--   by_value         what is owned of a record that is passed by value
--   typed            a record's machine value is of its MIR type
--   sees, makes      what is owned of a record shows its machine value, and is had for nothing
--   opens_value      a lent record's borrow is opened: its cell at its machine value
--   told_value       what is had of a call by value that returns a struct: what the clause says of it, and what it owns
--   tells            so in a walk, after the call
use mathlib.Core.Path.{◌≡◌}
use mathlib.Core.List.{List, [], ◌∷◌}
use Prim.Native.Nat.{ℕ}
use lib.Dec.{T as Holds}
use seplogic.Ra.Ura.{Ura}
use base.Fraction.{full_share}
use mir.Val.{Val, has_ty, WT}
use base.Logic.{SProp, ent, sep, ex, emp, guard}
use base.Fml.{GName, Lft, Share, ftrue, flft, fobs, fauth, fbor, fobor}
use types.Logic.{Logic, sem}
use contract.Monad.{fact}
use types.Kit.{Item, Goal, Seq, Step, Soaks, ‵, raw, ◌⊛◌, some, later, ◌$◌, ◌∵◌, !, qed, move, drop, use1, split}
use types.Kit.{given, mean, learn, pick, check, await, updating, now as at_once, show, done}
use types.SemTy.{Body}
use denote.RattleType.{RattleType}
use denote.Laws.{Is, shows}
use denote.Memory.{mem, cell_at}
use denote.Steps.{opens, owned, peeks, heard}
use denote.Struct.Declared as declared
use denote.Struct.Declared.{Declared}
use denote.Struct.Struct.{Plains, layout}
use denote.Struct.Steps.{spelt}
use denote.Struct.Laws as LL
use Rattle.walks.proofs.Setting.{Setting}

pub record Carried : Type 2 where
  pub type : Declared
  pub laws : LL.Laws type
  pub plain : Plains (declared.fields type)
  pub copyable : LL.Copyables type.parts

module _ (s : Carried) where
  abbrev pub row : RattleType
  row = declared.row s.type

  abbrev pub value : s.type.D → Val
  value = LL.val s.type s.laws

  abbrev pub IsValue : s.type.D → Type 0
  IsValue x = Is row x (value x ∷ [])

  -- whatever a record's own relates to it is its machine value
  pub told : (x : s.type.D) {v : Val} → Is row x (v ∷ []) → (v ∷ []) ≡ (value x ∷ [])
  told x {v} is = LL.tells s.type s.laws x (v ∷ []) is

abbrev pub by_value : {M : Type 1} {𝓤 : Ura M} (s : Carried) → s.type.D → Item 𝓤
by_value s x = ‵ ((row s).own_val x (value s x ∷ []))

module _ {M : Type 1} {𝓤 : Ura M} (𝓛 : Logic 𝓤) (s : Carried) where
  pub typed : (x : s.type.D) {v : Val} → Is (row s) x (v ∷ []) → Holds (has_ty (layout (declared.shape s.type)) v) × WT v
  typed x {v} is = ((LL.lawful s.type s.laws 𝓛).typed x (v ∷ []) is).0

module _ {M : Type 1} {𝓤 : Ura M} {𝓛 : Logic 𝓤} {K : Type 0} {Γ : List (Item 𝓤)} {G : Goal 𝓤 𝓛.H} where
  pub sees : K → (s : Carried) (x : s.type.D) (vs : List Val) → (Is (row s) x vs → Seq K 𝓛 (‵ ((row s).own_val x vs) ∷ Γ) G)
      → Seq K 𝓛 (‵ ((row s).own_val x vs) ∷ Γ) G
  sees t s = peeks t (row s) (Is (row s)) (shows 𝓛 (row s))

  pub makes : K → (s : Carried) (x : s.type.D) (vs : List Val) → Is (row s) x vs → Step K 𝓛 (‵ ((row s).own_val x vs) ∷ Γ) G Γ G
  makes t s = owned t (row s) (Is (row s)) (LL.makes s.type s.plain 𝓛)

  pub opens_value : K → Soaks G → (s : Carried) (x : s.type.D) {κ : Lft} {q : Share} {γ : GName} (b o : ℕ)
      → (IsValue s x → Seq K 𝓛 (‵ (cell_at full_share (row s).mir (value s x ∷ []) b o) ∷ ‵ ((row s).own_val x (value s x ∷ []))
      ∷ ‵ (fobor κ q (Body (mem (row s)) b o γ)) ∷ ‵ (fobs γ ((row s).coded.code x)) ∷ ‵ (fauth γ ((row s).coded.code x)) ∷ Γ) G)
      → Seq K 𝓛 (‵ (fobs γ ((row s).coded.code x)) ∷ ‵ (fbor κ (Body (mem (row s)) b o γ)) ∷ ‵ (flft κ q) ∷ Γ) G
  opens_value t soaks s x b o k =
      opens t soaks (row s) {h = x} b o (λ vs.
      spelt t (row s) (Is (row s)) (shows 𝓛 (row s)) (LL.vals s.type s.laws)
      (LL.tells s.type s.laws) full_share x vs b o $ move t (1 ∷ []) $
      peeks t (row s) (Is (row s)) (shows 𝓛 (row s)) x (value s x ∷ []) (λ was. move t (1 ∷ 0 ∷ []) $ k was))

module _ (w : Setting) (s : Carried) (φ : s.type.D → Type 0) (v : Val) where
  open w use {𝓤, 𝓛}
  open 𝓛 use {H, A}

  abbrev pub Returned : s.type.D → SProp 𝓤
  Returned r = guard 𝓤 (φ r) (sem 𝓛 ((row s).own_val r (v ∷ [])))

  pub told_value : (E : s.type.D → SProp 𝓤) → ((r : s.type.D) → ent 𝓤 (E r) (fact 𝓤 (φ r)))
      → ent 𝓤 (H.⇛ (ex 𝓤 (λ (r : s.type.D). sep 𝓤 (sep 𝓤 (emp 𝓤) (sem 𝓛 ((row s).own_val r (v ∷ [])))) (E r)))) (H.⇛ (ex 𝓤 Returned))
  told_value E clause =
      qed 𝓛 (later (some (λ (r : s.type.D). (‵ ftrue ⊛ ‵ ((row s).own_val r (v ∷ []))) ⊛ raw (E r))) ∷ []) ∵ updating ! $
      await ! tt $ pick ! (λ r. split ! $ move ! (1 ∷ []) $
      use1 𝓛 (raw (fact 𝓤 (φ r))) (clause r) $ heard ! (φ r) (λ e. split ! $ drop ! $ at_once ! $ show ! Returned r $ check ! e $ done !))

-- a call by value has returned: its result, of which φ is known, has its machine value
pub tells : (w : Setting) {K : Type 0} {Γ : List (Item w.𝓤)} {G : Goal w.𝓤 w.𝓛.H} {i : Item w.𝓤} → K → Soaks G
    → (s : Carried) (φ : s.type.D → Type 0) (v : Val) → ent w.𝓤 (mean w.𝓛 i) (w.𝓛.H.⇛ (ex w.𝓤 (Returned w s φ v)))
    → ((r : s.type.D) → φ r → Is (row s) r (v ∷ []) → Seq K w.𝓛 (‵ ((row s).own_val r (v ∷ [])) ∷ Γ) G) → Seq K w.𝓛 (i ∷ Γ) G
tells w t soaks s φ v law k =
    use1 w.𝓛 (later (some (λ (r : s.type.D). given (φ r) (‵ ((row s).own_val r (v ∷ [])))))) law $ await t soaks $
    pick t (λ r. learn t (λ e. sees t s r (v ∷ []) (λ is. k r e is)))
