-- The locals of a walk by hand: allocated at entry, standing last in the context, freed at the exit.
--
--   after        the code after its first n statements
--   Frame        each local, the last first: its cell, which holds a value or is empty, and that it dies; then what stands behind them
--   allocates    a function is entered: its locals stand last, empty
--   frees_all    it returns: its locals, empty, are freed
use mathlib.Core.Option.{Option, some, none}
use mathlib.Core.List.{List, [], ◌∷◌, ◌++◌}
use Prim.Native.Nat.{ℕ, zero, suc}
use seplogic.Ra.Ura.{Ura}
use base.Fraction.{full_share}
use mir.Syntax.{Ty, Local, local, Body, skip, seq, assign, block, loop, cond, switch, exit, return, call, unreachable, call_v, lend_static}
use mir.Val.{Val}
use base.Logic.{SProp, ent, sep, emp, emp∗, via, id⊢, comm∗}
use base.Fml.{fat, froom, fdies}
use prog.Wp.{Heap, Env, release}
use types.Logic.{Logic}
use types.Kit.{Item, Goal, Seq, Step, ‵, raw, prop, allocs, frees, aim, ⋆, ++⊢, ◌⊛◌, ◌$◌, ◌∵◌, !, step, qed, by, move, use1, split}
use types.Kit.{join, done, frame}
use types.Run.{alloc1, alloc0}
use Rattle.walks.specs.Laid.{locals_at}
use Rattle.walks.proofs.Context.{swap}

-- ---- the code after its first n statements

abbrev rest : Body → Body
rest (seq a b) = b
rest skip = skip
rest (assign p r) = skip
rest (block b) = skip
rest (loop b) = skip
rest (cond c a b) = skip
rest (switch c a) = skip
rest (exit n) = skip
rest return = skip
rest (call n a p) = skip
rest unreachable = skip
rest (call_v _ _ _ _) = skip
rest (lend_static _ _ _) = skip

abbrev pub after : ℕ → Body → Body
after zero b = b
after (suc n) b = after n (rest b)

-- ---- the locals

-- the block b for local 0, and L for the others
abbrev from_first : ℕ → (ℕ → ℕ) → ℕ → ℕ
from_first b L zero = b
from_first b L (suc k) = L k

module _ {M : Type 1} (𝓤 : Ura M) (H : Heap 𝓤) where
  abbrev cell : Ty × ℕ → Option Val → Item 𝓤
  cell e none = ‵ (froom e.0 e.1 zero)
  cell e (some v) = ‵ (fat full_share e.0 e.1 zero v)

  -- a local beyond the values is empty
  abbrev pub Frame : Env 𝓤 H → List (Option Val) → List (Item 𝓤) → List (Item 𝓤)
  Frame [] vs Γ = Γ
  Frame (e ∷ E) [] Γ = Frame E [] (cell e none ∷ ‵ (fdies e.0 e.1) ∷ Γ)
  Frame (e ∷ E) (v ∷ vs) Γ = Frame E vs (cell e v ∷ ‵ (fdies e.0 e.1) ∷ Γ)

-- what is had beside the locals may stand outside
outside : {M : Type 1} {𝓤 : Ura M} → (𝓛 : Logic 𝓤) → (E : Env 𝓤 𝓛.H) (P Q : SProp 𝓤)
    → ent 𝓤 (release 𝓤 𝓛.H E (sep 𝓤 P Q)) (sep 𝓤 P (release 𝓤 𝓛.H E Q))
outside {M} {𝓤} 𝓛 [] P Q = id⊢ 𝓤 (sep 𝓤 P Q)
outside {M} {𝓤} 𝓛 (e ∷ E) P Q =
    qed 𝓛 (raw (sep 𝓤 (𝓛.H.room e.0 e.1 zero) (𝓛.H.dies e.0 e.1)) ∷ raw (release 𝓤 𝓛.H E (sep 𝓤 P Q)) ∷ []) ∵ move ! (1 ∷ []) $
    use1 𝓛 (raw P ⊛ raw (release 𝓤 𝓛.H E Q)) (outside 𝓛 E P Q) $ split ! $ move ! (0 ∷ 2 ∷ []) $ done !

module _ {M : Type 1} {𝓤 : Ura M} {𝓛 : Logic 𝓤} {K : Type 0} where
  open 𝓛 use {H}

  allocates_at : K → (ls : List Local) (Γ Θ : List (Item 𝓤)) (Kt : Env 𝓤 H → Goal 𝓤 H)
      → ((L : ℕ → ℕ) → Seq K 𝓛 (Γ ++ Frame 𝓤 H (locals_at 𝓤 H ls L) [] Θ) (Kt (locals_at 𝓤 H ls L))) → Seq K 𝓛 (Γ ++ Θ) (allocs ls Kt)
  allocates_at t [] Γ Θ Kt k = alloc0 t $ k (λ _. zero)
  allocates_at t (local τ h ∷ ls) Γ Θ Kt k =
      alloc1 t (λ b. swap (cell 𝓤 H (τ, b) none ∷ ‵ (fdies τ b) ∷ []) Γ Θ $
      allocates_at t ls Γ _ (λ E. Kt ((τ, b) ∷ E)) (λ L. k (from_first b L)))

  pub allocates : K → {ls : List Local} {Γ : List (Item 𝓤)} {Kt : Env 𝓤 H → Goal 𝓤 H}
      → ((L : ℕ → ℕ) → Seq K 𝓛 (Γ ++ Frame 𝓤 H (locals_at 𝓤 H ls L) [] []) (Kt (locals_at 𝓤 H ls L))) → Seq K 𝓛 Γ (allocs ls Kt)
  allocates t {ls} {Γ} {Kt} k =
      record {
        prf = via 𝓤 (sep 𝓤 (⋆ 𝓛 Γ) (emp 𝓤)) (via 𝓤 (sep 𝓤 (emp 𝓤) (⋆ 𝓛 Γ)) (emp∗ 𝓤 (⋆ 𝓛 Γ)) (comm∗ 𝓤 (emp 𝓤) (⋆ 𝓛 Γ)))
            (via 𝓤 (⋆ 𝓛 (Γ ++ [])) (++⊢ 𝓛 Γ []) (allocates_at t ls Γ [] Kt k).prf);
      }

  pub frees_all : K → (E : Env 𝓤 H) (Δ Γ : List (Item 𝓤)) (G : Goal 𝓤 H) → Step K 𝓛 (Δ ++ Γ) G (Δ ++ Frame 𝓤 H E [] Γ) (frees E G)
  frees_all t [] Δ Γ G = step (λ s. record { prf = s.prf })
  frees_all t (e ∷ E) Δ Γ G =
      let r = cell 𝓤 H e none in let d = ‵ (fdies e.0 e.1) in
      let both = sep 𝓤 (H.room e.0 e.1 zero) (H.dies e.0 e.1) in step (λ s. record {
        prf = via 𝓤 (release 𝓤 H E (sep 𝓤 both (aim 𝓤 H G)))
            (frees_all t E Δ (r ∷ d ∷ Γ) (prop (sep 𝓤 both (aim 𝓤 H G))) $
            swap Δ (r ∷ d ∷ []) Γ $ join t $ frame {P = aim 𝓤 H G} t $ by t s.prf).prf (outside 𝓛 E both (aim 𝓤 H G));
      })
