-- Places in the context of a walk by hand. The locals stand last, the last local first, each its cell and that it dies: so a local is
-- found from the end, whatever stands before the locals and however many they are.
--
--   local_at, head                  the place of local k; of the first entry
--   there, with                     what stands in the place of local i; the context with another entry there
--   full, room, fields, Typed       the cell of local i as the code finds it: with a value, empty, of a struct; a value of its type
--   copied, copied_field, also      an operand: a local, a field of one; one operand more, a local
--   behind, behind_slice, slice_of  what a reference in a local points at, or a slice; a slice lent on
--   assigned, landed, replaced, -last   a statement or a call stores in a local
--   argument, answered              an argument is stored in its parameter; the answer is read
--   forgets                         the locals from k on, which hold vs, are not needed any more
--
-- The code says which local a statement reads or stores: each rule but the last finds it there.
use mathlib.Core.Path.{◌≡◌, sym, ap, subst}
use mathlib.Core.Option.{some}
use mathlib.Core.List.{List, [], ◌∷◌}
use Prim.Native.Nat.{ℕ, zero, suc, ◌+◌, ◌*◌, ◌-◌}
use lib.Dec.{T as Holds}
use lib.ListN.{length}
use seplogic.Ra.Ura.{Ura}
use base.Fraction.{full_share}
use mir.Syntax.{Sym, Ty, Tys, tcons, ty_struct, Opd as Operand, Rv as RValue, Body, copy, place, field, deref, aggregate, seq, assign}
use mir.Syntax.{ty_unit}
use mir.Val.{Val, vunit, Vals, vcons, vptr, vstruct, of_list, has_ty, WT}
use mir.Fields.{get_v, set_v}
use base.Fml.{Share, ftrue, fat, froom}
use prog.Memory.{field_of, field_at}
use prog.Wp.{Heap, Env, Calls, Loops, spot_of, next}
use types.Logic.{Logic}
use types.Kit.{Item, Goal, Post, Step, step, ◌$◌, ‵, post, prop, runs, lands, settles, passes, nth, put}
use types.Run.{Reads, Finds, Opd, Opds, Rv, look, init, store, forget, load, from, stop, hop, fld, and_then, no_more, assigns}
use types.Run.{assigns_last, land, land_last, pass1}
use types.Part.{Part, agg, whole, sub, look_in}

abbrev size : {M : Type 1} {𝓤 : Ura M} → List (Item 𝓤) → ℕ
size [] = zero
size (i ∷ Γ) = suc (size Γ)

abbrev pub local_at : {M : Type 1} {𝓤 : Ura M} → List (Item 𝓤) → ℕ → ℕ
local_at Γ k = size Γ - 2 * suc k

abbrev pub head : ℕ
head = zero

-- a local as the code finds it, full or empty, and what stands in its place
module _ {M : Type 1} (𝓤 : Ura M) (H : Heap 𝓤) (E : Env 𝓤 H) (i : ℕ) where
  abbrev pub full : Share → Val → Item 𝓤
  full q v = ‵ (fat q (spot_of 𝓤 H E i).0 (spot_of 𝓤 H E i).1 zero v)

  abbrev pub room : Item 𝓤
  room = ‵ (froom (spot_of 𝓤 H E i).0 (spot_of 𝓤 H E i).1 zero)

  -- a struct's cell: field by field
  abbrev pub fields : Share → Sym → Tys → Vals → Item 𝓤
  fields q ν τs vs = ‵ (fat q (ty_struct ν τs) (spot_of 𝓤 H E i).1 zero (vstruct vs))

  abbrev pub Typed : Val → Type 0
  Typed v = Holds (has_ty (spot_of 𝓤 H E i).0 v) × WT v

module _ {M : Type 1} {𝓤 : Ura M} (𝓛 : Logic 𝓤) (Γ : List (Item 𝓤)) (i : ℕ) where
  abbrev pub there : Item 𝓤
  there = nth 𝓛 (local_at Γ i) Γ

  abbrev pub with : Item 𝓤 → List (Item 𝓤)
  with j = put 𝓛 (local_at Γ i) j Γ

-- a field of a struct in a local is read
field_read : {M : Type 1} {𝓤 : Ura M} {𝓛 : Logic 𝓤} {K : Type 0} {Γ : List (Item 𝓤)} → K → (E : Env 𝓤 𝓛.H)
    (i f : ℕ) {q : Share} {ν : Sym} {τs : Tys} {vs : Vals} {σ : Ty} {d : ℕ} → there 𝓛 Γ i ≡ fields 𝓤 𝓛.H E i q ν τs vs
    → field_at zero τs f ≡ some (σ, d) → Reads K 𝓛 Γ σ (spot_of 𝓤 𝓛.H E i).1 (zero + d) (get_v vs f)
field_read {M} {𝓤} {𝓛} {K} {Γ} t E i f {q} {ν} {τs} {vs} {σ} {d} e at =
    look_in t (local_at Γ i) (subst (λ (j : Item 𝓤). Part K 𝓛 j q σ (spot_of 𝓤 𝓛.H E i).1 (zero + d) (get_v vs f)
    (λ u. fields 𝓤 𝓛.H E i q ν τs (set_v vs f u))) (sym e) (sub t f at (whole t)))

module _ {M : Type 1} {𝓤 : Ura M} {𝓛 : Logic 𝓤} {K : Type 0} {Γ : List (Item 𝓤)} {E : Env 𝓤 𝓛.H} where
  open 𝓛 use {H}

  pub copied : K → {i : ℕ} {q : Share} {v : Val} → there 𝓛 Γ i ≡ full 𝓤 H E i q v → Opd K 𝓛 Γ E (copy (place i [])) v
  copied t {i} e = load t (from t (stop t)) (look t (local_at Γ i) e)

  pub behind : K → {i : ℕ} {q : Share} {σ : Ty} {b o : ℕ} → there 𝓛 Γ i ≡ full 𝓤 H E i q (vptr b o)
      → Finds K 𝓛 Γ E (place i (deref σ ∷ [])) (σ, b, o)
  behind t {i} e = from t (hop t (look t (local_at Γ i) e) (stop t))

  pub copied_field : K → {i f : ℕ} {q : Share} {ν : Sym} {τs : Tys} {vs : Vals} {σ : Ty} {d : ℕ}
      → there 𝓛 Γ i ≡ fields 𝓤 H E i q ν τs vs → field_at zero τs f ≡ some (σ, d) → field_of (spot_of 𝓤 H E i).0 f ≡ some (σ, d)
      → Opd K 𝓛 Γ E (copy (place i (field f ∷ []))) (get_v vs f)
  copied_field t {i} {f} e at of = load t (from t (fld t of (stop t))) (field_read t E i f e at)

  -- what a slice in a local points at: its field 0
  pub behind_slice : K → {i : ℕ} {q : Share} {ν : Sym} {ρ σ τ : Ty} {τs : Tys} {b o d : ℕ} {vs : Vals}
      → there 𝓛 Γ i ≡ fields 𝓤 H E i q ν (tcons ρ τs) (vcons (vptr b o) vs) → field_at zero (tcons ρ τs) zero ≡ some (τ, d)
      → field_of (spot_of 𝓤 H E i).0 zero ≡ some (τ, d) → Finds K 𝓛 Γ E (place i (field zero ∷ deref σ ∷ [])) (σ, b, o)
  behind_slice t {i} e at of = from t (fld t of (hop t (field_read t E i zero e at) (stop t)))

  -- a slice lent on: from its address, in local i, and the count of the slice in local k
  pub slice_of : K → {i k : ℕ} {q p : Share} {v : Val} {ν : Sym} {τs : Tys} {vs : Vals} {σ : Ty} {d : ℕ}
      → there 𝓛 Γ i ≡ full 𝓤 H E i q v → there 𝓛 Γ k ≡ fields 𝓤 H E k p ν τs vs
      → field_at zero τs 1 ≡ some (σ, d) → field_of (spot_of 𝓤 H E k).0 1 ≡ some (σ, d)
      → Rv K 𝓛 Γ E (aggregate (copy (place i []) ∷ copy (place k (field 1 ∷ [])) ∷ [])) (vstruct (of_list (v ∷ get_v vs 1 ∷ [])))
  slice_of t e e' at of = agg t (and_then t (copied t e) (and_then t (copied_field t e' at of) (no_more t)))

  -- a call's operands, when they are whole locals
  pub also : K → {i : ℕ} {xs : List Operand} {q : Share} {v : Val} {vs : List Val} → there 𝓛 Γ i ≡ full 𝓤 H E i q v
      → Opds K 𝓛 Γ E xs vs → Opds K 𝓛 Γ E (copy (place i []) ∷ xs) (v ∷ vs)
  also t e os = and_then t (copied t e) os

  -- a value v is stored, and told as u: in an empty local, or in place of what a local holds
  module _ {C : Calls 𝓤 H} {Λ : Loops 𝓤 H} {q : Post 𝓤 H} {i : ℕ} {rest : Body} {v u : Val} where
    pub assigned : K → {rv : RValue} → Rv K 𝓛 Γ E rv v → v ≡ u → there 𝓛 Γ i ≡ room 𝓤 H E i → Typed 𝓤 H E i v
        → Step K 𝓛 (with 𝓛 Γ i (full 𝓤 H E i full_share u)) (runs C Λ E rest q) Γ (runs C Λ E (seq (assign (place i []) rv) rest) q)
    assigned t {rv} r is e ty = subst (λ (x : Val). Step K 𝓛 (with 𝓛 Γ i (full 𝓤 H E i full_share x)) (runs C Λ E rest q) Γ
        (runs C Λ E (seq (assign (place i []) rv) rest) q)) is (assigns t r (from t (stop t)) (init t (local_at Γ i) e ty))

    pub landed : K → v ≡ u → there 𝓛 Γ i ≡ room 𝓤 H E i → Typed 𝓤 H E i v
        → Step K 𝓛 (with 𝓛 Γ i (full 𝓤 H E i full_share u)) (runs C Λ E rest q) Γ (lands C Λ E (place i []) v rest q)
    landed t is e ty = subst (λ (x : Val). Step K 𝓛 (with 𝓛 Γ i (full 𝓤 H E i full_share x)) (runs C Λ E rest q) Γ
        (lands C Λ E (place i []) v rest q)) is (land t (from t (stop t)) (init t (local_at Γ i) e ty))

    pub replaced : K → {v₀ : Val} → v ≡ u → there 𝓛 Γ i ≡ full 𝓤 H E i full_share v₀ → Typed 𝓤 H E i v
        → Step K 𝓛 (with 𝓛 Γ i (full 𝓤 H E i full_share u)) (runs C Λ E rest q) Γ (lands C Λ E (place i []) v rest q)
    replaced t is e ty = subst (λ (x : Val). Step K 𝓛 (with 𝓛 Γ i (full 𝓤 H E i full_share x)) (runs C Λ E rest q) Γ
        (lands C Λ E (place i []) v rest q)) is (land t (from t (stop t)) (store t (local_at Γ i) e ty))

  -- the last statement of a turn stores in place of what a local holds
  pub replaced_last : K → {C : Calls 𝓤 H} {Λ : Loops 𝓤 H} {q : Post 𝓤 H} {i : ℕ} {rv : RValue} {v u v₀ : Val} → Rv K 𝓛 Γ E rv v → v ≡ u
      → there 𝓛 Γ i ≡ full 𝓤 H E i full_share v₀ → Typed 𝓤 H E i v
      → Step K 𝓛 (with 𝓛 Γ i (full 𝓤 H E i full_share u)) (prop (post 𝓤 H q next)) Γ (runs C Λ E (assign (place i []) rv) q)
  replaced_last t {C} {Λ} {q} {i} {rv} r is e ty =
      subst (λ (x : Val). Step K 𝓛 (with 𝓛 Γ i (full 𝓤 H E i full_share x)) (prop (post 𝓤 H q next)) Γ
      (runs C Λ E (assign (place i []) rv) q)) is (assigns_last t r (from t (stop t)) (store t (local_at Γ i) e ty))

  -- the last statement of a turn is a call
  pub landed_last : K → {q : Post 𝓤 H} {i : ℕ} {v : Val} → there 𝓛 Γ i ≡ room 𝓤 H E i → Typed 𝓤 H E i v
      → Step K 𝓛 (with 𝓛 Γ i (full 𝓤 H E i full_share v)) (prop (post 𝓤 H q next)) Γ (settles E (place i []) v q)
  landed_last t {q} {i} e ty = land_last t (from t (stop t)) (init t (local_at Γ i) e ty)

  -- an argument is stored in its parameter: the local after those that were stored already
  pub argument : K → {C : Calls 𝓤 H} {Λ : Loops 𝓤 H} {F : Env 𝓤 H} {body : Body} {q : Post 𝓤 H} {τ : Ty} {b : ℕ} {v : Val} {vs : List Val}
      → there 𝓛 Γ (length F - suc (length E)) ≡ ‵ (froom τ b zero) → Holds (has_ty τ v) × WT v
      → Step K 𝓛 (with 𝓛 Γ (length F - suc (length E)) (‵ (fat full_share τ b zero v))) (passes E vs (runs C Λ F body q)) Γ
      (passes ((τ, b) ∷ E) (v ∷ vs) (runs C Λ F body q))
  argument t {C} {Λ} {F} e ty = pass1 t (init t (local_at Γ (length F - suc (length E))) e ty)

-- the answer is local 0
pub answered : {M : Type 1} {𝓤 : Ura M} {𝓛 : Logic 𝓤} {K : Type 0} {Γ : List (Item 𝓤)} → K
    → {q : Share} {τ : Ty} {b o : ℕ} {v : Val} → there 𝓛 Γ zero ≡ ‵ (fat q τ b o v) → Reads K 𝓛 Γ τ b o v
answered {M} {𝓤} {𝓛} {K} {Γ} t e = look t (local_at Γ zero) e

-- ---- locals that are not needed any more: those from k on, which hold vs

abbrev first : {M : Type 1} {𝓤 : Ura M} → List (Item 𝓤) → Item 𝓤
first [] = ‵ ftrue
first (i ∷ Γ) = i

abbrev others : {M : Type 1} {𝓤 : Ura M} → List (Item 𝓤) → List (Item 𝓤)
others [] = []
others (i ∷ Γ) = Γ

module _ {M : Type 1} {𝓤 : Ura M} (𝓛 : Logic 𝓤) (E : Env 𝓤 𝓛.H) where
  open 𝓛 use {H}

  abbrev pub emptied : ℕ → List Val → List (Item 𝓤) → List (Item 𝓤)
  emptied k [] Γ = Γ
  emptied k (v ∷ vs) Γ = emptied (suc k) vs (with 𝓛 Γ k (room 𝓤 H E k))

  abbrev pub held : ℕ → List Val → List (Item 𝓤) → List (Item 𝓤)
  held k [] Γ = []
  held k (v ∷ vs) Γ = there 𝓛 Γ k ∷ held (suc k) vs (with 𝓛 Γ k (room 𝓤 H E k))

  abbrev pub holding : ℕ → List Val → List (Item 𝓤)
  holding k [] = []
  holding k (v ∷ vs) = full 𝓤 H E k full_share v ∷ holding (suc k) vs

pub forgets : {M : Type 1} {𝓤 : Ura M} {𝓛 : Logic 𝓤} {K : Type 0} {Γ : List (Item 𝓤)} {G : Goal 𝓤 𝓛.H}
    → K → (E : Env 𝓤 𝓛.H) (k : ℕ) (vs : List Val) → held 𝓛 E k vs Γ ≡ holding 𝓛 E k vs → Step K 𝓛 (emptied 𝓛 E k vs Γ) G Γ G
forgets {M} {𝓤} {𝓛} {K} {Γ} t E k [] e = step (λ s. s)
forgets {M} {𝓤} {𝓛} {K} {Γ} t E k (v ∷ vs) e =
    step (λ s. forget t (local_at Γ k) (ap first e) $
    forgets {Γ = with 𝓛 Γ k (room 𝓤 𝓛.H E k)} t E (suc k) vs (ap others e) $ s)

-- ---- what a call that answers nothing stores

pub unit_typed : {v : Val} → v ≡ vunit → Holds (has_ty ty_unit v) × WT v
unit_typed e = subst (λ (y : Val). Holds (has_ty ty_unit y) × WT y) (sym e) (tt, tt)
