-- An element of a lent slice of structs is stored: the slice's borrow is opened, the element's cell is written, and the borrow is closed.
--
--   ElementOpen      a context while element i is open: its cell, the other elements and the open borrow, and what stands behind them
--
-- Main law: element_stored, `s[i] = y` by a pointer to element i.
use mathlib.Core.Path.{◌≡◌, refl, sym, subst}
use mathlib.Core.List.{List, [], ◌∷◌}
use Prim.Native.Nat.{ℕ, ◌<◌}
use lib.ListN.{length, get_or, set, length-set}
use base.Fraction.{full_share}
use mir.Syntax.{Place, Opd as Operand, Body, seq, assign, rv_opd}
use mir.Val.{Val}
use base.Fml.{Fml}
use prog.Wp.{Env, Calls, Loops}
use types.Kit.{Item, Post, Step, ‵, given, later, runs, step, ◌⊛◌, ◌$◌, use2, move, drop, split, learn, rewrite, await}
use types.Run.{Opd, Finds, of_opd, assigns, store_raw}
use denote.Laws.{Is, shows}
use denote.Memory.{mem, shares, cell_at}
use denote.Slice.{Room}
use denote.Index.{place_is, others, elem_out, elem_put}
use denote.Index as index
use denote.Struct.Declared as declared
use denote.Struct.Struct.{layout}
use denote.Struct.Laws as LL
use Rattle.walks.specs.Laid.{element_offset}
use Rattle.walks.proofs.Setting.{Setting, Lent, token}
use Rattle.walks.proofs.Carried.{Carried, row, value, typed, makes}
use Rattle.walks.proofs.Again.{SliceHeld, SliceOpen, opened, shut}

module _ (c : Carried) (s : Lent (List c.type.D)) where
  abbrev element : Val → ℕ → Fml
  element v o = cell_at full_share (row c).mir (v ∷ []) s.block o

module _ (w : Setting) (c : Carried) (s : Lent (List c.type.D)) (ys : List c.type.D) (i : ℕ) (y : c.type.D) where
  open w use {𝓤, 𝓛}
  open 𝓛 use {H, A}

  abbrev pub ElementOpen : List (Item 𝓤) → List (Item 𝓤)
  ElementOpen Γ =
      ‵ (element c s (value c (get_or ys i y)) (element_offset (mem (row c)).size s.offset i))
      ∷ ‵ (others (shares (row c)) full_share ys i s.block s.offset) ∷ ‵ (SliceOpen (row c) s ys) ∷ Γ

  -- all elements, as the open borrow has them
  abbrev Elements : Item 𝓤
  Elements = ‵ (index.row (row c) full_share ys s.block s.offset)

  module _ {K : Type 0} {Γ : List (Item 𝓤)} {E : Env 𝓤 H} {C : Calls 𝓤 H} {Λ : Loops 𝓤 H} {q : Post 𝓤 H} where
    pub element_stored : K → length ys ≡ length s.entry → i < length ys → {v : Val} → Is (row c) y (v ∷ [])
        → {x : Operand} {p : Place} {rest : Body} → Opd K 𝓛 (ElementOpen Γ) E x v
        → Finds K 𝓛 (ElementOpen Γ) E p (layout (declared.shape c.type), s.block, element_offset (mem (row c)).size s.offset i)
        → Step K 𝓛 (‵ (SliceHeld (row c) s (set ys i y)) ∷ token s ∷ Γ) (runs C Λ E rest q)
        (‵ (SliceHeld (row c) s ys) ∷ token s ∷ Γ) (runs C Λ E (seq (assign p (rv_opd x)) rest) q)
    element_stored t same less {v} is from at =
        step (λ k.
        use2 𝓛 (later (given (Room (row c) (length ys)) (Elements ⊛ ‵ (SliceOpen (row c) s ys)))) (opened w (row c) s ys same) $
        await t tt $ learn t (λ room. split t $
        elem_out t (row c) (Is (row c)) (shows 𝓛 (row c)) (LL.vals c.type c.laws) (LL.tells c.type c.laws)
        full_share ys i y s.block s.offset less (λ was. move t (1 ∷ []) $ drop t $
        rewrite t 0 (λ (o : ℕ). ‵ (element c s (value c (get_or ys i y)) o)) lies refl $
        assigns t (of_opd t from) at (store_raw t 0 refl (typed 𝓛 c y is)) $
        rewrite t 0 (λ (o : ℕ). ‵ (element c s v o)) (sym lies) refl $
        makes t c y (v ∷ []) is $ move t (1 ∷ 0 ∷ []) $ elem_put t (row c) full_share ys i y (v ∷ []) s.block s.offset less $
        use2 𝓛 (later (‵ (SliceHeld (row c) s (set ys i y)) ⊛ token s))
        (shut w (row c) s ys same (set ys i y) (subst (Room (row c)) same room) (length-set ys i y)) $ await t tt $ split t $ k)))
      where
        lies : index.place (mem (row c)).size s.offset i ≡ element_offset (mem (row c)).size s.offset i
        lies = place_is (mem (row c)).size s.offset i
