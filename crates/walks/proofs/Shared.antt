-- A local that is lent to be read for a call, and comes back.
--
--   ValueShared   what a callee gets of it
--   ValueKept     what its holder keeps meanwhile
--
-- Main laws: value_reads and value_read_back.
use mathlib.Core.Path.{◌≡◌, refl}
use mathlib.Core.List.{List, [], ◌∷◌}
use Prim.Native.Nat.{ℕ}
use base.Fraction.{full_share}
use mir.Syntax.{named}
use mir.Val.{Val, vptr}
use base.Logic.{ent, sep, via}
use base.Fml.{Fml, fsep, fdead, flent}
use types.Logic.{sem}
use types.Kit.{‵, ◌$◌, ◌∵◌, !, qed, move, rewrite, fsplit, fjoin, fpick, fpack, updating, now as at_once, done, drop}
use types.Tokens.{lent_back}
use denote.RattleType.{RattleType}
use denote.Laws.{Is, shows}
use denote.Memory.{cell_at, part_at, part_of}
use denote.Ref.{ShrRef}
use denote.Copied.{Copied}
use denote.Lend.{lends_free}
use denote.Steps.{peeks}
use Rattle.walks.proofs.Setting.{Setting}

module _ (R : RattleType) (x : R.Denot) (block : ℕ) where
  abbrev pub ValueShared : ℕ → Fml
  ValueShared ν =
      (ShrRef (named 0) (ν ∷ []) R).own_val (record { ref_ptr = (block, 0); now = x }) (vptr block 0 ∷ [])

  abbrev pub ValueKept : ℕ → Fml
  ValueKept ν = flent (ν ∷ []) (part_at R full_share x block 0)

module _ (w : Setting) (R : RattleType) (x : R.Denot) (v : Val) (block : ℕ) where
  open w use {𝓤, 𝓛}
  open 𝓛 use {H, A}

  pub value_reads : Copied 𝓛 R → (ν : ℕ)
      → ent 𝓤 (sep 𝓤 (sem 𝓛 (cell_at full_share R.mir (v ∷ []) block 0)) (sem 𝓛 (R.own_val x (v ∷ []))))
      (H.⇛ (sep 𝓤 (sem 𝓛 (ValueShared R x block ν)) (sem 𝓛 (ValueKept R x block ν))))
  unfolding part_of
  value_reads copied ν =
      via 𝓤 (sem 𝓛 (part_at R full_share x block 0))
      (qed 𝓛 (‵ (cell_at full_share R.mir (v ∷ []) block 0) ∷ ‵ (R.own_val x (v ∷ [])) ∷ []) ∵ fjoin ! $
      fpack ! (List Val) (λ vs. fsep (cell_at full_share R.mir vs block 0) (R.own_val x vs)) (v ∷ []) $ done !)
      (lends_free 𝓛 R (named 0) (ν ∷ []) full_share x block 0 (copied.lends full_share x block 0))

  pub value_read_back : (ν : ℕ) → ((vs : List Val) → Is R x vs → vs ≡ v ∷ [])
      → ent 𝓤 (sep 𝓤 (A.dead (ν ∷ [])) (sem 𝓛 (ValueKept R x block ν)))
      (H.⇛ (sem 𝓛 (cell_at full_share R.mir (v ∷ []) block 0)))
  unfolding part_of
  value_read_back ν told =
      qed 𝓛 (‵ (fdead (ν ∷ [])) ∷ ‵ (ValueKept R x block ν) ∷ []) ∵ updating ! $ lent_back ! tt $ fpick ! (λ vs. fsplit ! $
      move ! (1 ∷ []) $ peeks ! R (Is R) (shows 𝓛 R) x vs (λ is. drop ! $
      rewrite ! 0 (λ (us : List Val). ‵ (cell_at full_share R.mir us block 0)) (told vs is) refl $ at_once ! $ done !))
