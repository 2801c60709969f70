-- An element of a `&` slice of structs is read by a walk by hand: its cell is taken out of the slice, read there, and put back.
--
--   SharedHeld        what is owned of a `&` slice
--   ElementCell       the cell of element i, at a share of it
--   Beside            what is left of the slice while that cell is out
--
-- Main laws: element_out and element_back.
use mathlib.Core.Path.{refl, sym}
use mathlib.Core.List.{List, [], ◌∷◌}
use Prim.Native.Nat.{ℕ, ◌<◌}
use lib.ListN.{length, get_or}
use seplogic.Ra.Ura.{Ura}
use mir.Syntax.{named}
use base.Fml.{Fml, Share, fhide}
use types.Logic.{Logic}
use types.Kit.{Item, Goal, Seq, Step, Soaks, ‵, ◌⊛◌, ◌$◌, step, move, drop, split, join, rewrite, fsplit, fjoin}
use denote.Opens.{Shut}
use denote.Laws.{Is, shows}
use denote.Memory.{mem, shares, cell_at}
use denote.Slice.{ShrSlice, elements_shared, shr_slice_at}
use denote.Index.{others, place_is, elem_out, elem_back, looks_slice, shuts_slice}
use denote.Index as index
use denote.Struct.Laws as LL
use Rattle.walks.specs.Laid.{element_offset}
use Rattle.walks.proofs.Setting.{Lent, as_read, token}
use Rattle.walks.proofs.Carried.{Carried, row, value, IsValue, makes}
use Rattle.walks.proofs.Again.{slice_value}

module _ (s : Carried) (x : Lent (List s.type.D)) where
  -- the slice's place; and what it holds of its elements
  abbrev AtPlace : Fml
  AtPlace = shr_slice_at (row s) (as_read x x.entry) (slice_value x ∷ [])

  abbrev Elements : Fml
  Elements = fhide (elements_shared (row s) x.entry x.block x.offset x.lifetime)

  abbrev pub SharedHeld : Fml
  SharedHeld = (ShrSlice (named 0) x.lifetime (row s)).own_val (as_read x x.entry) (slice_value x ∷ [])

  module _ (i : ℕ) (default : s.type.D) (q : Share) where
    abbrev pub ElementCell : Fml
    ElementCell =
        cell_at q (row s).mir (value s (get_or x.entry i default) ∷ []) x.block
        (element_offset (mem (row s)).size x.offset i)

  abbrev pub Beside : {M : Type 1} {𝓤 : Ura M} → Logic 𝓤 → ℕ → Share → Item 𝓤
  Beside 𝓛 i q =
      ‵ (others (shares (row s)) q x.entry i x.block x.offset)
      ⊛ (Shut 𝓛 x.lifetime x.share (index.row (row s) q x.entry x.block x.offset) ⊛ (‵ Elements ⊛ ‵ AtPlace))

module _ {M : Type 1} {𝓤 : Ura M} {𝓛 : Logic 𝓤} {K : Type 0} {Γ : List (Item 𝓤)} {G : Goal 𝓤 𝓛.H} where
  module _ (t : K) (soaks : Soaks G) (s : Carried) (x : Lent (List s.type.D)) (i : ℕ) (default : s.type.D)
      (below : i < length x.entry) where
    pub element_out : ((q : Share) → IsValue s (get_or x.entry i default)
        → Seq K 𝓛 (‵ (ElementCell s x i default q) ∷ Beside s x 𝓛 i q ∷ Γ) G) → Seq K 𝓛 (‵ (SharedHeld s x) ∷ token x ∷ Γ) G
    element_out k =
        fsplit t $ move t (1 ∷ 2 ∷ []) $
        looks_slice t soaks (row s) (LL.copied s.type s.copyable 𝓛) x.entry x.block x.offset (λ q.
        elem_out t (row s) (Is (row s)) (shows 𝓛 (row s)) (LL.vals s.type s.laws) (LL.tells s.type s.laws)
        q x.entry i default x.block x.offset below (λ is.
        -- [the element's cell; what it owns; the others; the way back; what the slice holds of its elements; the slice's place]
        rewrite t 0 (λ (o : ℕ). ‵ (cell_at q (row s).mir (value s (get_or x.entry i default) ∷ []) x.block o))
        (place_is (mem (row s)).size x.offset i) refl $ move t (1 ∷ []) $ drop t $
        move t (3 ∷ 4 ∷ []) $ join t $ move t (3 ∷ 0 ∷ []) $ join t $ move t (2 ∷ 0 ∷ []) $ join t $ move t (1 ∷ 0 ∷ []) $ k q is))

    pub element_back : (q : Share) → IsValue s (get_or x.entry i default)
        → Step K 𝓛 (‵ (SharedHeld s x) ∷ token x ∷ Γ) G (‵ (ElementCell s x i default q) ∷ Beside s x 𝓛 i q ∷ Γ) G
    element_back q is = step (λ k.
        rewrite t 0 (λ (o : ℕ). ‵ (cell_at q (row s).mir (value s (get_or x.entry i default) ∷ []) x.block o))
        (sym (place_is (mem (row s)).size x.offset i)) refl $
        move t (1 ∷ []) $ split t $ move t (1 ∷ []) $ split t $ move t (1 ∷ []) $ split t $
        makes t s (get_or x.entry i default) _ is $
        -- [what the element owns; what the slice holds of its elements; the slice's place; the way back; the others; the element's cell]
        move t (5 ∷ 0 ∷ 4 ∷ []) $
        elem_back t (row s) q x.entry i default (value s (get_or x.entry i default) ∷ []) x.block x.offset below $
        move t (0 ∷ 3 ∷ []) $ shuts_slice t soaks (row s) q x.entry x.block x.offset $
        -- [the token; what the slice holds of its elements; the slice's place]
        move t (2 ∷ 1 ∷ []) $ fjoin t $ k)
