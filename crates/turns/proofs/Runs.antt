-- The cursor over the runs of a file: it is at the next grant of the schedule.
--
--   At rs c h rest   the cursor c is before a grant for head h, with the grants `rest` behind it
use mathlib.Core.Path.{◌≡◌, sym, ap, ◌∙◌}
use mathlib.Core.Logic.{◌≢◌}
use mathlib.Core.List.{List, [], ◌∷◌, ◌++◌}
use Prim.Native.Nat.{ℕ, zero, suc, ◌+◌, ◌-◌, ◌≤◌, ◌<◌}
use native.Mathlib.Omega.{arith}
use native.Mathlib.Decide.{ℕ_discrete, dec_lt}
use lib.ListN.{length, get_or, drop, replicate}
use borrow.Author.Tests.{eq-eqb, ne_eqb}
use Rattle.reader.specs.declared.Checked.{Checked}
use Rattle.reader.specs.Reader.{Playing}
use Rattle.jobfile.specs.declared.Run.{Run}
use Rattle.jobfile.specs.Format.{most_grants}
use Rattle.jobfile.specs.Meaning.{meaning, granted}
use Rattle.jobfile.proofs.Runs.{Follows, longest_follow}
use Rattle.jobfile.proofs.Places.{granted_next, granted_end, few_grants}
use Rattle.stepper.proofs.Reached.{playing_admitted}
use Rattle.turns.specs.declared.Cursor.{Cursor}
use Rattle.turns.specs.Turns.{runs_of, no_run, opened_of, remaining, Openable}

-- ---- the runs of an accepted file

follows_some : (heads : ℕ) (before : Run) (rs : List Run) → Follows heads before rs → (i : ℕ) → i < length rs
    → 0 < (get_or rs i no_run).count
follows_some heads before [] f i l = absurd (omega arith)
follows_some heads before (r ∷ rs) f zero l = f.0.some
follows_some heads before (r ∷ rs) f (suc i) l = follows_some heads r rs f.1 i (omega arith)

module _ {file : List ℕ} {counts : Checked} (playing : Playing file counts) where
  pub runs_some : (i : ℕ) → i < length (runs_of file) → 0 < (get_or (runs_of file) i no_run).count
  runs_some = follows_some (meaning file).job.heads (record { head = 0; count = most_grants }) (runs_of file)
      (longest_follow (meaning file).job.heads 0 (meaning file).job.schedule (playing_admitted playing).each_grant)

  pub grants_few : length (meaning file).job.schedule ≤ 2088195
  grants_few = few_grants (meaning file).job (playing_admitted playing)

-- ---- the cursor at a grant

none_left : {h : ℕ} {rest : List ℕ} → h ∷ rest ≢ []
none_left e = let z : ◌≡◌ {A = ℕ} (suc _) 0 = ap length e in absurd (omega arith)

module _ (rs : List Run) (some : (i : ℕ) → i < length rs → 0 < (get_or rs i no_run).count)
    (c : Cursor) (h : ℕ) (rest : List ℕ) (at : remaining rs c ≡ h ∷ rest) where
  pub at_openable : Openable rs c
  at_openable = record { there = λ z. there z (dec_lt c.next (length rs)) }
    where
      there : c.left ≡ 0 → Dec (c.next < length rs) → c.next < length rs
      there z (yes l) = l
      there z (no l) =
          let empty : remaining rs c ≡ [] =
          ap (λ k. replicate k c.head ++ granted (drop c.next rs)) z ∙ granted_end rs c.next (omega arith) in
          absurd (none_left (sym at ∙ empty))

  -- opening a run changes no grant
  opened_remaining : Dec (c.left ≡ 0) → remaining rs (opened_of rs c) ≡ h ∷ rest
  opened_remaining (yes z) =
      let next : granted (drop c.next rs)
      ≡ replicate (get_or rs c.next no_run).count (get_or rs c.next no_run).head ++ granted (drop (c.next + 1) rs) =
      granted_next rs c.next no_run (at_openable.there z) in
      rw (eq-eqb c.left 0 z) (sym next ∙ sym (ap (λ k. replicate k c.head ++ granted (drop c.next rs)) z) ∙ at)
  opened_remaining (no d) = rw (ne_eqb c.left 0 d) at

  opened_left : Dec (c.left ≡ 0) → 0 < (opened_of rs c).left
  opened_left (yes z) = rw (eq-eqb c.left 0 z) (some c.next (at_openable.there z))
  opened_left (no d) = rw (ne_eqb c.left 0 d) (omega arith)

  pub opened_some : 0 < (opened_of rs c).left
  opened_some = opened_left (ℕ_discrete c.left 0)

  -- the opened cursor is before the grant for head h
  abbrev o : Cursor
  o = opened_of rs c

  opened_cons : o.head ∷ remaining rs (record { next = o.next; head = o.head; left = o.left - 1 }) ≡ h ∷ rest
  opened_cons =
      let one : o.left ≡ suc (o.left - 1) = omega (arith, opened_some) in
      sym (ap (λ k. replicate k o.head ++ granted (drop o.next rs)) one) ∙ opened_remaining (ℕ_discrete c.left 0)

  pub opened_head : o.head ≡ h
  opened_head = ap (λ l. get_or l 0 0) opened_cons

  pub opened_rest : remaining rs (record { next = o.next; head = o.head; left = o.left - 1 }) ≡ rest
  opened_rest = ap (λ l. drop 1 l) opened_cons
