-- One turn: the cursor is before the schedule's next grant, and the grant makes the rules' step.
use mathlib.Core.Path.{◌≡◌, sym, ap, ◌∙◌}
use mathlib.Core.List.{List, ◌∷◌}
use Prim.Native.Nat.{ℕ, suc, ◌+◌, ◌-◌, ◌<◌}
use native.Mathlib.Omega.{arith}
use lib.ListN.{get_or, take, drop}
use lib.Seq.{drop-cons}
use Rattle.reader.specs.declared.Checked.{Checked}
use Rattle.jobfile.specs.Meaning.{meaning}
use Rattle.rules.specs.State.{State}
use Rattle.rules.specs.Start.{Start}
use Rattle.rules.specs.Step.{step}
use Rattle.rules.specs.Run.{happened}
use Rattle.stepper.specs.Shown.{Buffers, shown, done_of, requests_in, waits_in, Grantable}
use Rattle.stepper.proofs.Reached.{after_next, playing_admitted}
use Rattle.turns.specs.declared.Cursor.{Cursor}
use Rattle.turns.specs.declared.Progress.{Progress}
use Rattle.turns.specs.Turns.{runs_of, schedule_in, state_at, opened_of, remaining, Openable, buffers_of, Turnable, Turned}
use Rattle.turns.proofs.Runs.{runs_some, at_openable, opened_some, opened_head, opened_rest}

module _ {file : List ℕ} {counts : Checked} {p : Progress} {table report linearization : List ℕ}
    (t : Turnable file counts p table report linearization) where
  abbrev schedule : List ℕ
  schedule = schedule_in file

  abbrev head : ℕ
  head = get_or schedule p.number 0

  before_grant : remaining (runs_of file) p.cursor ≡ head ∷ drop (suc p.number) schedule
  before_grant = t.left ∙ drop-cons schedule p.number 0 t.more

  pub turn_openable : Openable (runs_of file) p.cursor
  turn_openable = at_openable (runs_of file) (runs_some t.playing) p.cursor head (drop (suc p.number) schedule) before_grant

  module _ (c : Cursor) (is : c ≡ opened_of (runs_of file) p.cursor) where
    pub turn_left : 0 < c.left
    turn_left =
        omega (
          arith,
          ap (λ k. k.left) is,
          opened_some (runs_of file) (runs_some t.playing) p.cursor head
              (drop (suc p.number) schedule) before_grant,
        )

    turn_head : c.head ≡ head
    turn_head =
        ap (λ k. k.head) is ∙ opened_head (runs_of file) (runs_some t.playing) p.cursor head (drop (suc p.number) schedule)
        before_grant

    pub turn_grantable : Grantable file counts c.head (p.number + 1) (buffers_of p table report linearization)
    turn_grantable =
        record {
          playing = t.playing;
          head = omega (
            arith,
            turn_head,
            (playing_admitted t.playing).each_grant p.number 0 t.more,
            (playing_admitted
                t.playing).few_heads,
          );
          origin = t.origin;
          grants = take p.number schedule;
          lent = t.lent;
          standing = t.standing;
        }

    -- the state after a grant to head k
    abbrev after : Start → ℕ → State
    after origin k = step (requests_in file) (waits_in file) (state_at origin file p.number) k

    pub turn_turned : (p' : Progress) (b' : Buffers) (origin : Start) (lent : List ℕ) → p'.number ≡ p.number + 1
        → p'.cursor ≡ record { next = c.next; head = c.head; left = c.left - 1 }
        → b' ≡ shown (requests_in file) (waits_in file) (after origin c.head) lent
        → p'.done ≡ done_of (happened (requests_in file) (waits_in file) (state_at origin file p.number) c.head)
        → Turned file p p' b' origin lent
    turn_turned p' b' origin lent number cursor buffers done =
        let one : suc p.number ≡ p.number + 1 = omega arith in
        record {
          number = number;
          left = ap (remaining (runs_of file)) (cursor ∙ ap (λ k. record { next = k.next; head = k.head; left = k.left - 1 }) is)
              ∙ opened_rest (runs_of file) (runs_some t.playing) p.cursor head (drop (suc p.number) schedule) before_grant
              ∙ ap (λ k. drop k schedule) one;
          buffers = buffers ∙ ap (λ k. shown (requests_in file) (waits_in file) (after origin k) lent) turn_head
              ∙ ap (λ T. shown (requests_in file) (waits_in file) T lent)
              (sym (after_next origin (meaning file).job schedule p.number t.more));
          done = done ∙ ap (λ k. done_of (happened (requests_in file) (waits_in file) (state_at origin file p.number) k)) turn_head;
        }
