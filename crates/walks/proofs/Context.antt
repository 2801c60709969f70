-- The context of a walk by hand: its parts, and how a signature says what a function gets.
--
--   swap, flip         the context's first two parts, or entries, change places
--   becomes            its first part becomes another; -some: for some x; -such: for some x of which φ is known
--   chain, chains, un- entries as one, nested to the right; from a part to its chain; and back
--   parted, unparted   from a context to the chains of its parts; and back
--   signed, as_signed  tokens and owned parameters, from how a signature says them to entries of a context; and back
--   as_asked           so for a contract without `requires`
--   paired, unpaired   the order of these entries in which each parameter stands before its token; and back
use mathlib.Core.List.{List, [], ◌∷◌, ◌++◌}
use Prim.Native.Nat.{ℕ, zero, suc, ◌+◌}
use seplogic.Ra.Ura.{Ura}
use base.Logic.{ent, sep, ex, emp, emp∗, guard, via, id⊢, assoc∗, assoc', comm∗, mono∗, mono_l, mono_r}
use base.Fml.{ftrue}
use types.Logic.{Logic}
use types.Kit.{Item, Goal, Seq, Step, Soaks, ‵, raw, given, later, some as such, mean, ⋆, push, pop, ++⊢, ⊢++, ◌⊛◌, ◌$◌, step, cut}
use types.Kit.{await, pick, learn}
use Rattle.walks.proofs.Setting.{Setting}

-- ---- two parts change places

pub swap : {M : Type 1} {𝓤 : Ura M} {𝓛 : Logic 𝓤} {K : Type 0} {G : Goal 𝓤 𝓛.H} (Δ Δ' Γ : List (Item 𝓤))
    → Step K 𝓛 (Δ' ++ (Δ ++ Γ)) G (Δ ++ (Δ' ++ Γ)) G
swap {M} {𝓤} {𝓛} {K} {G} Δ Δ' Γ =
    let P = ⋆ 𝓛 Δ in let Q = ⋆ 𝓛 Δ' in let R = ⋆ 𝓛 Γ in step (λ s. record {
      prf = via 𝓤 (sep 𝓤 P (⋆ 𝓛 (Δ' ++ Γ))) (⊢++ 𝓛 Δ (Δ' ++ Γ))
          (via 𝓤 (sep 𝓤 P (sep 𝓤 Q R)) (mono_r 𝓤 P (⊢++ 𝓛 Δ' Γ))
          (via 𝓤 (sep 𝓤 (sep 𝓤 P Q) R) (assoc' 𝓤 P Q R)
          (via 𝓤 (sep 𝓤 (sep 𝓤 Q P) R) (mono_l 𝓤 R (comm∗ 𝓤 P Q))
          (via 𝓤 (sep 𝓤 Q (sep 𝓤 P R)) (assoc∗ 𝓤 Q P R)
          (via 𝓤 (sep 𝓤 Q (⋆ 𝓛 (Δ ++ Γ))) (mono_r 𝓤 Q (++⊢ 𝓛 Δ Γ))
          (via 𝓤 (⋆ 𝓛 (Δ' ++ (Δ ++ Γ))) (++⊢ 𝓛 Δ' (Δ ++ Γ)) s.prf))))));
    })

-- the first two entries change places
pub flip : {M : Type 1} {𝓤 : Ura M} {𝓛 : Logic 𝓤} {K : Type 0} {G : Goal 𝓤 𝓛.H} {i j : Item 𝓤}
    {Γ : List (Item 𝓤)} → K → Step K 𝓛 (j ∷ i ∷ Γ) G (i ∷ j ∷ Γ) G
flip {i = i} {j = j} {Γ = Γ} t = swap (i ∷ []) (j ∷ []) Γ

-- ---- the first part becomes another

module _ {M : Type 1} {𝓤 : Ura M} {𝓛 : Logic 𝓤} {K : Type 0} {G : Goal 𝓤 𝓛.H} where
  open 𝓛 use {H}

  pub becomes : K → Soaks G → (Δ Δ' Γ : List (Item 𝓤)) → ent 𝓤 (⋆ 𝓛 Δ) (H.⇛ (⋆ 𝓛 Δ')) → Step K 𝓛 (Δ' ++ Γ) G (Δ ++ Γ) G
  becomes t soaks Δ Δ' Γ law =
      step (λ s. cut Δ (later (raw (⋆ 𝓛 Δ')) ∷ []) Γ law $ await t soaks $ cut (raw (⋆ 𝓛 Δ') ∷ []) Δ' Γ (id⊢ 𝓤 (⋆ 𝓛 Δ')) $ s)

  pub becomes_some : K → Soaks G → (Δ : List (Item 𝓤)) {X : Type 0} (Δ' : X → List (Item 𝓤)) (Γ : List (Item 𝓤))
      → ent 𝓤 (⋆ 𝓛 Δ) (H.⇛ (ex 𝓤 (λ (x : X). ⋆ 𝓛 (Δ' x)))) → ((x : X) → Seq K 𝓛 (Δ' x ++ Γ) G) → Seq K 𝓛 (Δ ++ Γ) G
  becomes_some t soaks Δ {X} Δ' Γ law k =
      cut Δ (later (such (λ (x : X). raw (⋆ 𝓛 (Δ' x)))) ∷ []) Γ law $ await t soaks $ pick t (λ x.
      cut (raw (⋆ 𝓛 (Δ' x)) ∷ []) (Δ' x) Γ (id⊢ 𝓤 (⋆ 𝓛 (Δ' x))) $ k x)

  pub becomes_given : K → Soaks G → (Δ : List (Item 𝓤)) {φ : Type 0} (Δ' Γ : List (Item 𝓤))
      → ent 𝓤 (⋆ 𝓛 Δ) (H.⇛ (guard 𝓤 φ (⋆ 𝓛 Δ'))) → (φ → Seq K 𝓛 (Δ' ++ Γ) G) → Seq K 𝓛 (Δ ++ Γ) G
  becomes_given t soaks Δ {φ} Δ' Γ law k =
      cut Δ (later (given φ (raw (⋆ 𝓛 Δ'))) ∷ []) Γ law $ await t soaks $ learn t (λ e.
      cut (raw (⋆ 𝓛 Δ') ∷ []) Δ' Γ (id⊢ 𝓤 (⋆ 𝓛 Δ')) $ k e)

  pub becomes_such : K → Soaks G → (Δ : List (Item 𝓤)) {X : Type 0} (φ : X → Type 0) (Δ' : X → List (Item 𝓤)) (Γ : List (Item 𝓤))
      → ent 𝓤 (⋆ 𝓛 Δ) (H.⇛ (ex 𝓤 (λ (x : X). guard 𝓤 (φ x) (⋆ 𝓛 (Δ' x)))))
      → ((x : X) → φ x → Seq K 𝓛 (Δ' x ++ Γ) G) → Seq K 𝓛 (Δ ++ Γ) G
  becomes_such t soaks Δ {X} φ Δ' Γ law k =
      cut Δ (later (such (λ (x : X). given (φ x) (raw (⋆ 𝓛 (Δ' x))))) ∷ []) Γ law $ await t soaks $ pick t (λ x. learn t (λ e.
      cut (raw (⋆ 𝓛 (Δ' x)) ∷ []) (Δ' x) Γ (id⊢ 𝓤 (⋆ 𝓛 (Δ' x))) $ k x e))

-- ---- what a signature says: a token for each lifetime, and what is owned of each parameter

abbrev pub chain : {M : Type 1} {𝓤 : Ura M} → List (Item 𝓤) → Item 𝓤
chain [] = ‵ ftrue
chain (i ∷ Δ) = i ⊛ chain Δ

module _ (w : Setting) where
  open w use {𝓤, 𝓛}

  pub chains : (Δ : List (Item 𝓤)) → ent 𝓤 (⋆ 𝓛 Δ) (mean 𝓛 (chain Δ))
  chains [] = id⊢ 𝓤 (emp 𝓤)
  chains (i ∷ Δ) = via 𝓤 (sep 𝓤 (mean 𝓛 i) (⋆ 𝓛 Δ)) (pop 𝓛 i Δ) (mono_r 𝓤 (mean 𝓛 i) (chains Δ))

  pub unchains : (Δ : List (Item 𝓤)) → ent 𝓤 (mean 𝓛 (chain Δ)) (⋆ 𝓛 Δ)
  unchains [] = id⊢ 𝓤 (emp 𝓤)
  unchains (i ∷ Δ) = via 𝓤 (sep 𝓤 (mean 𝓛 i) (⋆ 𝓛 Δ)) (mono_r 𝓤 (mean 𝓛 i) (unchains Δ)) (push 𝓛 i Δ)

  -- parts, each as one entry; and their entries
  abbrev pub parts : List (List (Item 𝓤)) → List (Item 𝓤)
  parts [] = []
  parts (Δ ∷ Δs) = chain Δ ∷ parts Δs

  abbrev pub whole : List (List (Item 𝓤)) → List (Item 𝓤)
  whole [] = []
  whole (Δ ∷ Δs) = Δ ++ whole Δs

  pub parted : (Δs : List (List (Item 𝓤))) → ent 𝓤 (⋆ 𝓛 (whole Δs)) (⋆ 𝓛 (parts Δs))
  parted [] = id⊢ 𝓤 (emp 𝓤)
  parted (Δ ∷ Δs) = via 𝓤 (sep 𝓤 (⋆ 𝓛 Δ) (⋆ 𝓛 (whole Δs))) (⊢++ 𝓛 Δ (whole Δs))
      (via 𝓤 (sep 𝓤 (mean 𝓛 (chain Δ)) (⋆ 𝓛 (parts Δs))) (mono∗ 𝓤 (chains Δ) (parted Δs)) (push 𝓛 (chain Δ) (parts Δs)))

  pub unparted : (Δs : List (List (Item 𝓤))) → ent 𝓤 (⋆ 𝓛 (parts Δs)) (⋆ 𝓛 (whole Δs))
  unparted [] = id⊢ 𝓤 (emp 𝓤)
  unparted (Δ ∷ Δs) = via 𝓤 (sep 𝓤 (mean 𝓛 (chain Δ)) (⋆ 𝓛 (parts Δs))) (pop 𝓛 (chain Δ) (parts Δs))
      (via 𝓤 (sep 𝓤 (⋆ 𝓛 Δ) (⋆ 𝓛 (whole Δs))) (mono∗ 𝓤 (unchains Δ) (unparted Δs)) (++⊢ 𝓛 Δ (whole Δs)))

  -- the tokens Δ and what is owned, Θ
  pub as_signed : (Δ Θ : List (Item 𝓤)) → ent 𝓤 (⋆ 𝓛 (Δ ++ Θ)) (sep 𝓤 (mean 𝓛 (chain Δ)) (mean 𝓛 (chain Θ)))
  as_signed Δ Θ = via 𝓤 (sep 𝓤 (⋆ 𝓛 Δ) (⋆ 𝓛 Θ)) (⊢++ 𝓛 Δ Θ) (mono∗ 𝓤 (chains Δ) (chains Θ))

  -- what a contract without `requires` asks
  pub as_asked : (Δ Θ : List (Item 𝓤)) → ent 𝓤 (⋆ 𝓛 (Δ ++ Θ)) (sep 𝓤 (sep 𝓤 (mean 𝓛 (chain Δ)) (mean 𝓛 (chain Θ))) (emp 𝓤))
  as_asked Δ Θ =
      let X = sep 𝓤 (mean 𝓛 (chain Δ)) (mean 𝓛 (chain Θ)) in
      via 𝓤 X (as_signed Δ Θ) (via 𝓤 (sep 𝓤 (emp 𝓤) X) (emp∗ 𝓤 X) (comm∗ 𝓤 (emp 𝓤) X))

  pub signed : (Δ Θ : List (Item 𝓤)) → ent 𝓤 (sep 𝓤 (mean 𝓛 (chain Δ)) (mean 𝓛 (chain Θ))) (⋆ 𝓛 (Δ ++ Θ))
  signed Δ Θ = via 𝓤 (sep 𝓤 (⋆ 𝓛 Δ) (⋆ 𝓛 Θ)) (mono∗ 𝓤 (unchains Δ) (unchains Θ)) (++⊢ 𝓛 Δ Θ)

-- of n tokens and then n parameters: each parameter before its token; and back
abbrev every : ℕ → ℕ → ℕ → List ℕ
every zero a d = []
every (suc n) a d = a ∷ every n (a + d) d

abbrev zipped : List ℕ → List ℕ → List ℕ
zipped [] ms = ms
zipped (n ∷ ns) [] = n ∷ ns
zipped (n ∷ ns) (m ∷ ms) = n ∷ m ∷ zipped ns ms

abbrev pub paired : ℕ → List ℕ
paired n = zipped (every n n 1) (every n 0 1)

abbrev pub unpaired : ℕ → List ℕ
unpaired n = every n 1 2 ++ every n 0 2

-- ---- an entry taken out of its place, true standing there meanwhile

-- n numbers from k on
abbrev counting : ℕ → ℕ → List ℕ
counting k zero = []
counting k (suc n) = k ∷ counting (suc k) n

-- the order in which entry k comes first, where a new first entry takes its place; and in which the first entry stands at k again
abbrev pub taken_out : ℕ → List ℕ
taken_out k = suc k ∷ counting 1 k ++ (0 ∷ [])

abbrev pub put_back : ℕ → List ℕ
put_back k = counting 1 k ++ (0 ∷ [])
