-- A lent slice, of elements of any type, that is lent on for a call and comes back: the kit's laws of a loan around an open borrow.
--
--   slice_value           the machine value of a slice: its place and its count
--   SliceHeld             what is owned of a `&mut` slice at a list
--   SliceLent, -Shared    what a callee gets of it that may write it; that may read it
--   SliceOpen             what is left of it while its borrow is open
--   SliceKept, -KeptRead  what its holder keeps while it is lent on to be written; to be read
--   opened, shut          its borrow is opened: its elements are had; it is closed at a list of the same length
--
-- Main laws: slice_lends and slice_comes, for a callee that takes it `&mut`; slice_reads and slice_read_back, for one that takes it `&`.
use mathlib.Core.Path.{◌≡◌, refl, sym, ◌∙◌, ap, subst}
use Prim.Native.Nat.{ℕ, ◌<◌, ◌^◌}
use mathlib.Core.List.{List, [], ◌∷◌}
use lib.ListN.{length}
use base.Fraction.{full_share}
use mir.Syntax.{Lifetime, named, w64}
use mir.Val.{Val, Fits}
use base.Logic.{SProp, ent, sep, ex, guard, via}
use base.Fml.{GName, Fml, Incl-refl, fsep, fdead, fobs, fauth, flent, flft, fobor}
use types.Logic.{sem}
use types.Kit.{‵, ◌⊛◌, given, some, later, ◌$◌, ◌∵◌, !, qed, move, use1, use2, use3, drop, split, pick, learn, check, rewrite, fsplit}
use types.Kit.{fjoin, feq_i, await, updating, now as at_once, show, done}
use types.Tokens.{lent_back}
use types.Share.{arr_parts}
use types.SemTy.{cells, Arr}
use denote.RattleType.{RattleType}
use denote.Shadow.{pure_l, pure_i}
use denote.Memory.{mem, shares}
use denote.Slice.{slice_val, MutSlice, ShrSlice, heres, Room, finally, mut_slice_at, coded_holeys}
use denote.Lend.{Held, lends_slice, slice_back, lends_shr_slice}
use denote.Copied.{Copied}
use denote.Index.{row, whole_out, whole_in, opens_slice, closes_slice}
use Rattle.walks.proofs.Setting.{Setting, Lent, Loan, loan, at_name, as_read, token}

-- what is owned of a slice doesn't depend on how its lifetime is written
abbrev any : Lifetime
any = named 0

abbrev pub slice_value : {X : Type 0} → Lent (List X) → Val
slice_value s = slice_val (s.block, s.offset) (length s.entry)

-- it is of a slice's MIR type
abbrev pub slice_typed : {c : ℕ} → c < 2 ^ 64 → Unit {0} × (Unit {0} × (Fits w64 c × Unit {0}))
slice_typed small = (tt, (tt, (record { fits = small }, tt)))

module _ (T : RattleType) (s : Lent (List T.Denot)) where
  abbrev pub SliceHeld : List T.Denot → Fml
  SliceHeld ys = (MutSlice any s.lifetime T).own_val (at_name s s.name ys) (slice_value s ∷ [])

  abbrev pub SliceLent : Loan → List T.Denot → Fml
  SliceLent n ys = (MutSlice any (n.lifetime ∷ []) T).own_val (at_name s n.name ys) (slice_value s ∷ [])

  abbrev pub SliceShared : ℕ → List T.Denot → Fml
  SliceShared ν ys = (ShrSlice any (ν ∷ []) T).own_val (as_read s ys) (slice_value s ∷ [])

  abbrev pub SliceOpen : List T.Denot → Fml
  SliceOpen ys =
      fsep (fobor s.lifetime s.share (Held T (length ys) s.block s.offset s.name))
      (fsep (fobs s.name ((coded_holeys T).code (heres T ys))) (fauth s.name ((coded_holeys T).code (heres T ys))))

  abbrev pub SliceKept : Loan → List T.Denot → Fml
  SliceKept n ys = fsep (flent (n.lifetime ∷ []) (Held T (length ys) s.block s.offset n.name)) (SliceOpen ys)

  abbrev pub SliceKeptRead : ℕ → List T.Denot → Fml
  SliceKeptRead ν ys =
      fsep (flent (ν ∷ []) ((arr_parts (shares T) (length ys)).part full_share ys s.block s.offset)) (SliceOpen ys)

-- ys is as long as the list at entry, whose count stays in the machine value
module _ (w : Setting) (T : RattleType) (s : Lent (List T.Denot)) (ys : List T.Denot) (same : length ys ≡ length s.entry) where
  open w use {𝓤, 𝓛}
  open 𝓛 use {H, A}

  abbrev elements : List T.Denot → Fml
  elements zs = row T full_share zs s.block s.offset

  abbrev Owned : List T.Denot → SProp 𝓤
  Owned zs = sep 𝓤 (sem 𝓛 (SliceHeld T s zs)) (A.lft s.lifetime s.share)

  -- the slice's borrow is opened, and closed at a list of the same length
  pub opened : ent 𝓤 (Owned ys)
      (H.⇛ (guard 𝓤 (Room T (length ys)) (sep 𝓤 (sem 𝓛 (elements ys)) (sem 𝓛 (SliceOpen T s ys)))))
  opened =
      qed 𝓛 (‵ (SliceHeld T s ys) ∷ token s ∷ []) ∵ updating ! $
      fsplit ! $ pure_l ! (mut_slice_at T (at_name s s.name ys) (slice_value s ∷ [])) (λ p. fsplit ! $
      opens_slice ! tt T ys s.block s.offset $ at_once ! $ check ! p.1 $ done !)

  pub shut : (zs : List T.Denot) → Room T (length s.entry) → length zs ≡ length ys
      → ent 𝓤 (sep 𝓤 (sem 𝓛 (elements zs)) (sem 𝓛 (SliceOpen T s ys))) (H.⇛ (Owned zs))
  shut zs room long =
      qed 𝓛 (‵ (elements zs) ∷ ‵ (SliceOpen T s ys) ∷ []) ∵ updating ! $
      move ! (1 ∷ []) $ fsplit ! $ move ! (1 ∷ []) $ fsplit ! $ move ! (3 ∷ 2 ∷ 0 ∷ 1 ∷ []) $
      closes_slice ! tt T ys zs long s.block s.offset $ at_once ! $
      fjoin ! $ pure_i ! (mut_slice_at T (at_name s s.name zs) (slice_value s ∷ [])) (tt, (tt, tt))
      (ap (λ (c : ℕ). slice_val (s.block, s.offset) c ∷ []) (sym (long ∙ same)), subst (Room T) (sym (long ∙ same)) room) $
      fjoin ! $ done !

  -- lent on for the lifetime ν, as the kit lends the elements: what the callee gets at their count, and what the lender gets
  module _ (ν : ℕ) (own : GName → ℕ → Fml) (lender : GName → Fml) where
    lends : (Room T (length ys) → ent 𝓤 (sem 𝓛 (elements ys))
        (H.⇛ (ex 𝓤 (λ (δ : GName). sep 𝓤 (sem 𝓛 (own δ (length ys))) (A.lent (ν ∷ []) (lender δ))))))
        → ent 𝓤 (Owned ys) (H.⇛ (ex 𝓤 (λ (δ : GName). sep 𝓤 (sem 𝓛 (own δ (length s.entry)))
        (sem 𝓛 (fsep (flent (ν ∷ []) (lender δ)) (SliceOpen T s ys))))))
    lends law =
        qed 𝓛 (‵ (SliceHeld T s ys) ∷ token s ∷ []) ∵ updating ! $
        use2 𝓛 (later (given (Room T (length ys)) (‵ (elements ys) ⊛ ‵ (SliceOpen T s ys)))) opened $ await ! tt $ learn ! (λ room.
        split ! $ use1 𝓛 (later (some (λ (δ : GName). ‵ (own δ (length ys)) ⊛ ‵ (flent (ν ∷ []) (lender δ))))) (law room) $ await ! tt $
        pick ! (λ δ. split ! $ rewrite ! 0 (λ (c : ℕ). ‵ (own δ c)) same refl $ at_once ! $
        show ! (λ (δ : GName). sep 𝓤 (sem 𝓛 (own δ (length s.entry)))
        (sem 𝓛 (fsep (flent (ν ∷ []) (lender δ)) (SliceOpen T s ys)))) δ $ done !))

  pub slice_lends : (ν : ℕ) → ent 𝓤 (Owned ys)
      (H.⇛ (ex 𝓤 (λ (δ : GName). sep 𝓤 (sem 𝓛 (SliceLent T s (loan ν δ) ys)) (sem 𝓛 (SliceKept T s (loan ν δ) ys)))))
  slice_lends ν =
      lends ν (λ δ c. (MutSlice any (ν ∷ []) T).own_val (at_name s δ ys) (slice_val (s.block, s.offset) c ∷ []))
      (λ δ. Held T (length ys) s.block s.offset δ)
      (λ room. via 𝓤 (sem 𝓛 (cells (mem T) ys s.block s.offset)) (whole_in 𝓛 T ys s.block s.offset)
      (lends_slice 𝓛 T any (ν ∷ []) ys s.block s.offset room))

  -- to be read it is lent with the token of ν, which comes back; its elements can be copied
  pub slice_reads : Copied 𝓛 T → (ν : ℕ) → ent 𝓤 (sep 𝓤 (Owned ys) (A.lft (ν ∷ []) full_share))
      (H.⇛ (sep 𝓤 (sem 𝓛 (SliceShared T s ν ys)) (sep 𝓤 (sem 𝓛 (SliceKeptRead T s ν ys)) (A.lft (ν ∷ []) full_share))))
  slice_reads copied ν =
      qed 𝓛 ((‵ (SliceHeld T s ys) ⊛ token s) ∷ ‵ (flft (ν ∷ []) full_share) ∷ []) ∵ updating ! $ split ! $
      use2 𝓛 (later (given (Room T (length ys)) (‵ (elements ys) ⊛ ‵ (SliceOpen T s ys)))) opened $ await ! tt $ learn ! (λ room.
      split ! $ feq_i ! ℕ (length ys) (length ys) refl $ fjoin ! $ move ! (0 ∷ 2 ∷ []) $
      use2 𝓛 (later ((‵ (shared_at (length ys)) ⊛ ‵ (flent (ν ∷ []) whole_part)) ⊛ ‵ (flft (ν ∷ []) full_share)))
      (lends_shr_slice 𝓛 T any (ν ∷ []) full_share ys s.block s.offset room (ν ∷ []) (copied.shares full_share (ν ∷ []))
      ((ν ∷ [], full_share) ∷ []) (Incl-refl (ν ∷ [])) (Incl-refl (ν ∷ []))) $ await ! tt $ split ! $ split ! $
      -- [the slice shared; what the lender gets; the token of ν; the slice's open borrow]
      rewrite ! 0 (λ (c : ℕ). ‵ (shared_at c)) same refl $ at_once ! $ move ! (1 ∷ 3 ∷ []) $ fjoin ! $ move ! (1 ∷ 0 ∷ []) $ done !)
    where
      shared_at : ℕ → Fml
      shared_at c = (ShrSlice any (ν ∷ []) T).own_val (as_read s ys) (slice_val (s.block, s.offset) c ∷ [])

      whole_part : Fml
      whole_part = (arr_parts (shares T) (length ys)).part full_share ys s.block s.offset

  module _ (room : Room T (length s.entry)) where
    pub slice_comes : (n : Loan) (zs : List T.Denot) → length zs ≡ length ys
        → ent 𝓤 (sep 𝓤 (A.dead (n.lifetime ∷ [])) (sep 𝓤 (sem 𝓛 (SliceKept T s n ys)) (sem 𝓛 (finally T n.name zs))))
        (H.⇛ (Owned zs))
    slice_comes n zs long =
        qed 𝓛 (‵ (fdead (n.lifetime ∷ [])) ∷ ‵ (SliceKept T s n ys) ∷ ‵ (finally T n.name zs) ∷ []) ∵ updating ! $
        move ! (1 ∷ []) $ fsplit ! $ move ! (2 ∷ 0 ∷ 3 ∷ []) $
        use3 𝓛 (later (‵ ((Arr (mem T) (length ys)).own_at zs s.block s.offset)))
        (slice_back 𝓛 T (n.lifetime ∷ []) n.name zs (length ys) s.block s.offset) $ await ! tt $
        fsplit ! $ drop ! $ use1 𝓛 (‵ (elements zs)) (whole_out 𝓛 T zs s.block s.offset) $
        use2 𝓛 (later (‵ (SliceHeld T s zs) ⊛ token s)) (shut zs room long) $ await ! tt $ at_once ! $ done !

    pub slice_read_back : (ν : ℕ) → ent 𝓤 (sep 𝓤 (A.dead (ν ∷ [])) (sem 𝓛 (SliceKeptRead T s ν ys))) (H.⇛ (Owned ys))
    slice_read_back ν =
        qed 𝓛 (‵ (fdead (ν ∷ [])) ∷ ‵ (SliceKeptRead T s ν ys) ∷ []) ∵ updating ! $
        move ! (1 ∷ []) $ fsplit ! $ move ! (2 ∷ 0 ∷ []) $ lent_back ! tt $ fsplit ! $ drop ! $
        use2 𝓛 (later (‵ (SliceHeld T s ys) ⊛ token s)) (shut ys room refl) $ await ! tt $ at_once ! $ done !
