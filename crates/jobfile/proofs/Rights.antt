-- Rights: what the rules say of each with its number, and of all of a job's (02, A5).
--
--   Held h k r          the right r, number k, is a head's of a job with h heads
--   Holding h k rs      so is each of rs, where the first has number k
--   holding_each, holding_few   so each holds what its head may, and there are no more than heads
--   complete_few        rights that are none or one a head are no more than the heads
--   holding_all         and such rights, where each holds what its head may, are a job's
--   holds_checked       rights that the writer does not refuse hold what their heads may
--   checked_holds       and it refuses none that do
use mathlib.Core.Path.{◌≡◌}
use mathlib.Core.List.{List}
use Prim.Native.Nat.{ℕ, zero, suc, ◌≤◌, ◌<◌}
use native.Mathlib.Omega.{arith}
use native.Mathlib.Nat.{zero-add}
use lib.ListN.{length, get_or}
use Rattle.job.specs.declared.Right.{Right}
use Rattle.jobfile.specs.Format.{right_refusal}
use Rattle.jobfile.specs.Draft.{each_right_refusal}
use Rattle.jobfile.specs.Admitted.{Holds}
use Rattle.jobfile.proofs.Refusals.{held, holds_passes}
use Rattle.jobfile.proofs.Chains.{Chained, counted, counted_each, counted_all, counted_few, checked_chain, chain_checked}

pub record Held (heads number : ℕ) (r : Right) : Type 0 where
  pub among : number < heads
  pub holds : Holds heads number r

abbrev pub Holding : ℕ → ℕ → List Right → Type 0
Holding heads = Chained (Held heads) counted

module _ (heads : ℕ) where
  pub holding_each : (rs : List Right) → Holding heads 0 rs
      → (k : ℕ) (none : Right) → k < length rs → Holds heads k (get_or rs k none)
  holding_each rs c k none l = rw zero-add at (counted_each (Held heads) 0 rs c k none l).holds

  pub holding_few : (rs : List Right) → Holding heads 0 rs → length rs ≤ heads
  holding_few rs c = omega (arith, counted_few (Held heads) heads (λ number r h. h.among) 0 rs (omega arith) c)

  pub complete_few : (count : ℕ) → (0 < count → count ≡ heads) → count ≤ heads
  complete_few zero complete = omega arith
  complete_few (suc count) complete = omega (arith, complete (omega arith))

  pub holding_all : (rs : List Right) → (0 < length rs → length rs ≡ heads)
      → ((k : ℕ) (none : Right) → k < length rs → Holds heads k (get_or rs k none)) → Holding heads 0 rs
  holding_all rs complete each =
      counted_all (Held heads) 0 rs
      (λ k none l. record { among = omega (arith, complete_few (length rs) complete); holds = rw zero-add (each k none l) })

  pub holds_checked : (rs : List Right) → each_right_refusal heads 0 rs ≡ 0
      → (k : ℕ) (none : Right) → k < length rs → Holds heads k (get_or rs k none)
  holds_checked rs e k none l =
      let chain = checked_chain (right_refusal heads) (Holds heads) counted (held heads) 0 rs e in
      rw zero-add at (counted_each (Holds heads) 0 rs chain k none l)

  pub checked_holds : (rs : List Right) → ((k : ℕ) (none : Right) → k < length rs → Holds heads k (get_or rs k none))
      → each_right_refusal heads 0 rs ≡ 0
  checked_holds rs each =
      chain_checked (right_refusal heads) (Holds heads) counted (holds_passes heads) 0 rs
      (counted_all (Holds heads) 0 rs (λ k none l. rw zero-add (each k none l)))
