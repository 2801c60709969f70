-- Several lent slices, lent on for one call and coming back together: the laws of one slice, for each.
--
--   Slice              a lent slice: its element type, and that its list has room
--   Lists, Loans       for each slice a list; a loan
--   Same, entries      that two such lists are equally long; the lists at entry
--   Held               what is owned of each slice, before its token
--   LoanTokens, Lents, Kepts, Finals   for each: its loan's token; what a callee gets; what is kept; its last list
--   Lasts              what a call says of them at exit
--
-- Main laws: lends_all, comes_all; over_all, a call is over.
use mathlib.Core.Path.{◌≡◌}
use mathlib.Core.List.{List, [], ◌∷◌}
use lib.ListN.{length}
use seplogic.Ra.Ura.{Ura}
use base.Logic.{ent, ex, guard}
use base.Fml.{GName, Fml, ftrue, fsep}
use types.Logic.{sem}
use types.Kit.{Item, ‵, mean, ⋆, ◌⊛◌, given, some, later, ◌$◌, ◌∵◌, !, qed, move, use1, use2, use3, drop, split, join, pick, learn}
use types.Kit.{check, fsplit, feq_l, await, updating, now as at_once, show, done}
use types.Tokens.{lft_new, lft_end}
use denote.RattleType.{RattleType}
use denote.Slice.{Room, finally}
use denote.Steps.{nothing}
use Rattle.walks.specs.Laid.{SliceLast}
use Rattle.walks.proofs.Setting.{Setting, Lent, Loan, loan, token, loan_token}
use Rattle.walks.proofs.Again.{SliceHeld, SliceLent, SliceKept, slice_lends, slice_comes}
use Rattle.walks.proofs.Context.{flip, chain}

pub record Slice : Type 2 where
  pub T : RattleType
  pub lent : Lent (List T.Denot)
  pub room : Room T (length lent.entry)

abbrev pub Lists : List Slice → Type 0
Lists [] = Unit {0}
Lists (s ∷ ss) = List s.T.Denot × Lists ss

abbrev pub Loans : List Slice → Type 0
Loans [] = Unit {0}
Loans (s ∷ ss) = Loan × Loans ss

abbrev pub Same : (ss : List Slice) → Lists ss → Lists ss → Type 0
Same [] b c = Unit {0}
Same (s ∷ ss) b c = (length b.0 ≡ length c.0) × Same ss b.1 c.1

abbrev pub entries : (ss : List Slice) → Lists ss
entries [] = tt
entries (s ∷ ss) = (s.lent.entry, entries ss)

abbrev pub Lasts : (ss : List Slice) → Loans ss → Lists ss → Lists ss → Fml
Lasts [] n b b' = ftrue
Lasts (s ∷ ss) n b b' = fsep (SliceLast s.T n.0.name b.0 b'.0) (Lasts ss n.1 b.1 b'.1)

module _ {M : Type 1} {𝓤 : Ura M} where
  abbrev pub Held : (ss : List Slice) → Lists ss → List (Item 𝓤)
  Held [] b = []
  Held (s ∷ ss) b = ‵ (SliceHeld s.T s.lent b.0) ∷ token s.lent ∷ Held ss b.1

  abbrev pub LoanTokens : (ss : List Slice) → Loans ss → List (Item 𝓤)
  LoanTokens [] n = []
  LoanTokens (s ∷ ss) n = loan_token n.0 ∷ LoanTokens ss n.1

  abbrev pub Lents : (ss : List Slice) → Loans ss → Lists ss → List (Item 𝓤)
  Lents [] n b = []
  Lents (s ∷ ss) n b = ‵ (SliceLent s.T s.lent n.0 b.0) ∷ Lents ss n.1 b.1

  abbrev pub Kepts : (ss : List Slice) → Loans ss → Lists ss → List (Item 𝓤)
  Kepts [] n b = []
  Kepts (s ∷ ss) n b = ‵ (SliceKept s.T s.lent n.0 b.0) ∷ Kepts ss n.1 b.1

  abbrev pub Finals : (ss : List Slice) → Loans ss → Lists ss → List (Item 𝓤)
  Finals [] n b = []
  Finals (s ∷ ss) n b = ‵ (finally s.T n.0.name b.0) ∷ Finals ss n.1 b.1

module _ (w : Setting) where
  open w use {𝓤, 𝓛}
  open 𝓛 use {H, A}

  abbrev pub Offered : (ss : List Slice) → Lists ss → Loans ss → Item 𝓤
  Offered ss b n = chain (LoanTokens ss n) ⊛ chain (Lents ss n b) ⊛ chain (Kepts ss n b)

  abbrev Lends : (ss : List Slice) → Lists ss → Type 1
  Lends ss b = ent 𝓤 (mean 𝓛 (chain (Held ss b))) (H.⇛ (ex 𝓤 (λ (n : Loans ss). mean 𝓛 (Offered ss b n))))

  abbrev Comes : (ss : List Slice) → Loans ss → Lists ss → Lists ss → Type 1
  Comes ss n b b' = ent 𝓤 (⋆ 𝓛 (chain (LoanTokens ss n) ∷ chain (Finals ss n b') ∷ chain (Kepts ss n b) ∷ []))
      (H.⇛ (mean 𝓛 (chain (Held ss b'))))

  abbrev Over : (ss : List Slice) → Loans ss → Lists ss → Lists ss → Type 1
  Over ss n b b' = ent 𝓤 (sem 𝓛 (Lasts ss n b b')) (guard 𝓤 (Same ss b' b) (mean 𝓛 (chain (Finals ss n b'))))

  -- one slice more
  module _ (s : Slice) (ss : List Slice) where
    lends_one : (b : Lists (s ∷ ss)) → Same (s ∷ ss) b (entries (s ∷ ss)) → Lends ss b.1 → Lends (s ∷ ss) b
    lends_one b e others =
        qed 𝓛 (chain (Held (s ∷ ss) b) ∷ []) ∵ updating ! $ split ! $ flip ! $ split ! $
        -- [the slice's token; the other slices; the slice]
        lft_new ! tt (λ ν. move ! (3 ∷ 1 ∷ []) $
        use2 𝓛 (later (some (λ (δ : GName). ‵ (SliceLent s.T s.lent (loan ν δ) b.0)
        ⊛ ‵ (SliceKept s.T s.lent (loan ν δ) b.0)))) (slice_lends w s.T s.lent b.0 e.0 ν) $ await ! tt $
        pick ! (λ δ. split ! $ move ! (3 ∷ []) $
        use1 𝓛 (later (some (Offered ss b.1))) others $ await ! tt $ pick ! (λ n. split ! $ flip ! $ split ! $
        -- [the others lent, kept, and their loans' tokens; the slice lent, kept, and its loan's token]
        at_once ! $ show ! (λ (m : Loans (s ∷ ss)). mean 𝓛 (Offered (s ∷ ss) b m)) (loan ν δ, n) $
        move ! (5 ∷ 2 ∷ []) $ join ! $ move ! (3 ∷ 1 ∷ []) $ join ! $ move ! (3 ∷ 2 ∷ []) $ join ! $ move ! (2 ∷ 1 ∷ 0 ∷ []) $ done !)))

    module _ (n : Loans (s ∷ ss)) (b b' : Lists (s ∷ ss)) where
      comes_one : Same (s ∷ ss) b (entries (s ∷ ss)) → Same (s ∷ ss) b' b → Comes ss n.1 b.1 b'.1 → Comes (s ∷ ss) n b b'
      comes_one e e' others =
          qed 𝓛 (chain (LoanTokens (s ∷ ss) n) ∷ chain (Finals (s ∷ ss) n b') ∷ chain (Kepts (s ∷ ss) n b) ∷ []) ∵ updating ! $
          split ! $ move ! (2 ∷ []) $ split ! $ move ! (4 ∷ []) $ split ! $ move ! (4 ∷ []) $ lft_end ! tt $ move ! (0 ∷ 1 ∷ 3 ∷ []) $
          use3 𝓛 (later (‵ (SliceHeld s.T s.lent b'.0) ⊛ token s.lent))
          (slice_comes w s.T s.lent b.0 e.0 s.room n.0 b'.0 e'.0) $ await ! tt $
          -- [the slice and its token; what is kept of the others; their last lists; their loans' tokens]
          move ! (3 ∷ 2 ∷ 1 ∷ []) $ use3 𝓛 (later (chain (Held ss b'.1))) others $ await ! tt $ at_once ! $ flip ! $ split ! $ done !

      over_one : Over ss n.1 b.1 b'.1 → Over (s ∷ ss) n b b'
      over_one others =
          qed 𝓛 (‵ (Lasts (s ∷ ss) n b b') ∷ []) ∵ fsplit ! $ fsplit ! $ flip ! $ feq_l ! (λ e. flip ! $
          use1 𝓛 (given (Same ss b'.1 b.1) (chain (Finals ss n.1 b'.1))) others $
          learn ! (λ es. check ! (e, es) $ flip ! $ done !))

  lends_none : Lends [] tt
  lends_none =
      qed 𝓛 (‵ ftrue ∷ []) ∵ updating ! $ at_once ! $ show ! (λ (n : Unit {0}). mean 𝓛 (Offered [] tt n)) tt $
      nothing ! $ nothing ! $ done !

  pub lends_all : (ss : List Slice) (b : Lists ss) → Same ss b (entries ss) → Lends ss b
  lends_all [] b e = lends_none
  lends_all (s ∷ ss) b e = lends_one s ss b e (lends_all ss b.1 e.1)

  comes_none : Comes [] tt tt tt
  comes_none = qed 𝓛 (‵ ftrue ∷ ‵ ftrue ∷ ‵ ftrue ∷ []) ∵ updating ! $ drop ! $ drop ! $ at_once ! $ done !

  pub comes_all : (ss : List Slice) (n : Loans ss) (b b' : Lists ss) → Same ss b (entries ss) → Same ss b' b → Comes ss n b b'
  comes_all [] n b b' e e' = comes_none
  comes_all (s ∷ ss) n b b' e e' = comes_one s ss n b b' e e' (comes_all ss n.1 b.1 b'.1 e.1 e'.1)

  over_none : Over [] tt tt tt
  over_none = qed 𝓛 (‵ ftrue ∷ []) ∵ check ! tt $ done !

  pub over_all : (ss : List Slice) (n : Loans ss) (b b' : Lists ss) → Over ss n b b'
  over_all [] n b b' = over_none
  over_all (s ∷ ss) n b b' = over_one s ss n b b' (over_all ss n.1 b.1 b'.1)
