-- One grant keeps the invariant: idle, or serving a head that goes on with its request or begins its next one.
--
-- Main laws: served_within and served_free, what it says that a head is served; step_outcome, whatever the stage; served_effect,
-- what the grant does to a head that it serves; step_invariant.
use mathlib.Core.Path.{◌≡◌, refl, sym, ap, ◌∙◌, subst}
use mathlib.Core.Bool.{Bool, true, false, cond, true≢false}
use mathlib.Core.List.{List, ◌∷◌}
use Prim.Native.Nat.{ℕ, suc, ◌<◌}
use native.Mathlib.Omega.{arith}
use lib.ListN.{length}
use borrow.Author.Tests.{eqb-true, ltb-true, eq-eqb}
use Rattle.basics.proofs.Conditions.{split, both_left, both_right}
use Rattle.job.specs.declared.Request.{Request}
use Rattle.job.specs.declared.Wait.{Wait}
use Rattle.process.specs.declared.Stage.{Stage}
use Rattle.process.specs.declared.Stage.TheVariants.{Resting, Find, RereadX, ReadRankX, ReadRankY, Link, Raise, ReadRankLinked, RaiseFound}
use Rattle.process.specs.declared.Task.{Task}
use Rattle.process.specs.declared.Head.{Head}
use Rattle.process.specs.Process.{traits_of, is_resting, no_wait, begin}
use Rattle.process.specs.Access.{access_at, access_of}
use Rattle.process.specs.Advance.{advance_at, advance_of}
use Rattle.forest.proofs.Later.{later_refl}
use Rattle.linearization.specs.Partition.{Labels}
use Rattle.linearization.specs.Entry.{occurrences}
use Rattle.linearization.proofs.Replay.{labels_to_all, replayed_fact, replayed_map}
use Rattle.rules.specs.declared.Row.{Row}
use Rattle.rules.specs.Table.{at, parent, rank, seen, touched}
use Rattle.rules.specs.State.{State, request_at, has_work, wait_of}
use Rattle.rules.specs.Step.{is_served, ready, head_at, advanced, served, passed, step}
use Rattle.rules.specs.Run.{Happening, happened}
use Rattle.rules.specs.Run.Happening.{idle}
use Rattle.rules.specs.History.{link_of}
use Rattle.rules.specs.Linearized.{promised}
use Rattle.rules.proofs.History.{row_other}
use Rattle.rules.proofs.Stages.{Moment, Inside, Knows, Onward, finding_begin, restart_knows, restart_unlinked, knows_later}
use Rattle.rules.proofs.Outcomes.{Outcome, Present}
use Rattle.rules.proofs.FindSteps.{find_step, reread_x}
use Rattle.rules.proofs.UnionSteps.{read_rank_x, read_rank_y, link_x, raise_y, read_rank_linked, raise_found_y}
use Rattle.rules.proofs.Invariant.{labels, moment_of, head_until, Current, Waiting, Phase, Invariant}
use Rattle.rules.proofs.Invariant.Phase.{over, current, waiting}
use Rattle.rules.proofs.Others.{timed_other, phase_other, placed_other}
use Rattle.rules.proofs.Positions.{phase_of}
use Rattle.rules.proofs.Serving.{Serving, more, effect_invariant, Effect}
use Rattle.rules.proofs.Effects.{outcome_effect}

-- ---- whom a grant serves

-- a head that is served has work left, and waits for nothing
module _ (qs : List Request) (ws : List Wait) (report : List Row) (head : Head) (is : is_served qs ws report head ≡ true) where
  pub served_within : head.task.request < length qs
  served_within = ltb-true head.task.request (length qs) (both_left (has_work qs head) _ is)

  pub served_free : wait_of ws report head ≡ no_wait
  served_free = eqb-true (wait_of ws report head) no_wait (both_right (has_work qs head) _ is)

-- The request of a head with work left is being served, if the head is not at rest, or waits for it.
module _ {head : Head} {past : List Happening} {times : ℕ} where
  phase_current : Phase head head.task.request past times → is_resting head ≡ false → Current head.task.request past times
  phase_current (over l o) b = absurd (omega arith)
  phase_current (current e r c) b = c
  phase_current (waiting l r w) b = absurd (true≢false (sym (r refl) ∙ b))

  pub phase_waiting : Phase head head.task.request past times → is_resting head ≡ true → Waiting head.task.request past times
  phase_waiting (over l o) b = absurd (omega arith)
  phase_waiting (current e r c) b = absurd (true≢false (sym b ∙ r))
  phase_waiting (waiting l r w) b = w

-- A head's own grant: from what it knows at its stage to one of the five outcomes.
module _ {n : ℕ} {m : Moment n} {q : Request} (present : Present m q) (k : Task) where
  step_outcome : (st : Stage) → (traits_of st).resting ≡ false → Knows m q k st
      → Outcome m (touched m.table (access_at k st)) q st (advance_at k (seen m.table (access_at k st)) (suc m.now) st)
  step_outcome Resting busy a = absurd (true≢false busy)
  step_outcome (Find e s) busy a = find_step present k e s a
  step_outcome (RereadX point) busy a = reread_x present k point a
  step_outcome ReadRankX busy a = read_rank_x present k a
  step_outcome (ReadRankY r) busy a = read_rank_y present k r a
  step_outcome (Link r e) busy a = link_x present k r a e
  step_outcome (Raise r) busy a = raise_y present k r a (at m.table k.y)
  step_outcome ReadRankLinked busy a = read_rank_linked present k a
  step_outcome (RaiseFound r) busy a = raise_found_y present k r a (at m.table k.y)

module _ {qs : List Request} {n : ℕ} {B : Labels} {roots₀ : ℕ} {S : State} {past : List Happening}
    (inside : (q : ℕ) → q < length qs → Inside n (request_at qs q)) (inv : Invariant qs n B roots₀ S past) where
  -- ---- an idle grant

  idle_invariant : Invariant qs n B roots₀ (passed S) (idle ∷ past)
  idle_invariant =
      record {
        nodes = inv.nodes;
        clock = ap suc inv.clock;
        reports = inv.reports;
        rows = λ q l. inv.rows q l ∙ sym (row_other q idle past refl);
        sound = inv.sound;
        roots = inv.roots;
        own = inv.own;
        busy = inv.busy;
        knows = λ h b. knows_later onward (inside (head_at S h).task.request (inv.busy h b).within)
            (head_at S h).task (head_at S h).stage (inv.knows h b);
        timed = λ h b. timed_other idle refl (omega (arith, inv.clock, head_until qs n B S (head_at S h) (inv.knows h b)))
            (inv.timed h b);
        entries = replayed_map inv.entries (λ e m p. placed_other idle refl p)
            (λ e m. ap (λ r. promised r.answer) (sym (row_other e.request idle past refl)));
        phases = λ q l. phase_other q past idle refl refl (inv.phases q l);
      }
    where
      onward : Onward (moment_of qs n B S) (moment_of qs n B (passed S))
      onward =
          record {
            table = later_refl n (parent S.table) (rank S.table) (labels qs B S);
            passes = omega arith;
            settled = λ point l. refl;
          }

  -- ---- a grant that serves a head

  -- no entry is beyond this grant
  pub present_now : (p : ℕ) → p < length qs → Present (moment_of qs n B S) (request_at qs p)
  present_now p within =
      record {
        nodes = inv.nodes;
        inside = inside p within;
        sound = inv.sound;
        latest = labels_to_all _ (suc S.now) B S.entries (λ e m. omega (arith, (replayed_fact inv.entries e m).until, inv.clock));
      }

  module _ (h : ℕ) (present : h < length S.heads) where
    abbrev q : ℕ
    q = (head_at S h).task.request

    module _ (within : q < length qs) where
      own_head : (request_at qs q).head ≡ h
      own_head = inv.own h present within

      own_phase : Phase (head_at S h) q past (occurrences q S.entries)
      own_phase = phase_of inv h q within own_head

      chosen : {b : Bool} → is_resting (head_at S h) ≡ b → ready qs (head_at S h) ≡ cond b (begin (request_at qs q) q) (head_at S h)
      chosen t = ap (λ b. cond b (begin (request_at qs q) q) (head_at S h)) t

      -- the head goes on
      serving_busy : is_resting (head_at S h) ≡ false → Serving qs n B S past h (head_at S h)
      serving_busy busy =
          let c = phase_current own_phase busy in
          record {
            present = present;
            is = sym (chosen busy);
            within = within;
            own = own_head;
            position = refl;
            busy = busy;
            knows = inv.knows h busy;
            timed = inv.timed h busy;
            begun = λ r. c.begun;
            unfinished = c.unfinished;
            listed = c.listed;
          }

      -- it begins its next request
      serving_begun : is_resting (head_at S h) ≡ true → Serving qs n B S past h (begin (request_at qs q) q)
      serving_begun rests =
          let w = phase_waiting own_phase rests in
          let unlinked = restart_unlinked (request_at qs q).kind in
          record {
            present = present;
            is = sym (chosen rests);
            within = within;
            own = own_head;
            position = refl;
            busy = refl;
            knows = restart_knows (request_at qs q).kind (begin (request_at qs q) q).task
                (finding_begin (request_at qs q) (inside q within));
            timed = record {
              unlinked = λ e. w.unlinked;
              linked = λ e. absurd (true≢false (sym e ∙ unlinked));
              candidate = λ d. absurd (d refl);
            };
            begun = λ e. absurd (true≢false (sym e ∙ unlinked));
            unfinished = w.unfinished;
            listed = w.unlisted ∙ sym (rw (eq-eqb (link_of q past) 0 w.unlinked));
          }

      pub serving_ready : Serving qs n B S past h (ready qs (head_at S h))
      serving_ready =
          split (is_resting (head_at S h))
          (λ t. subst (Serving qs n B S past h) (sym (chosen t)) (serving_begun t))
          (λ t. subst (Serving qs n B S past h) (sym (chosen t)) (serving_busy t))

    served_outcome : {head : Head} → Serving qs n B S past h head
        → Outcome (moment_of qs n B S) (touched S.table (access_of head)) (request_at qs head.task.request) head.stage
        (advanced S head)
    unfolding access_of advance_of
    served_outcome {head} srv =
        step_outcome (present_now head.task.request srv.within) head.task head.stage srv.busy srv.knows

    pub served_effect : {head : Head} → Serving qs n B S past h head
        → Effect qs n B roots₀ S (served qs S h head) (more S head past) head.task.request (advanced S head)
    served_effect {head} srv = outcome_effect qs n B roots₀ S past h head inv srv (served_outcome srv)

    pub step_invariant : (ws : List Wait) → Invariant qs n B roots₀ (step qs ws S h) (happened qs ws S h ∷ past)
    unfolding step happened
    step_invariant ws =
        split (is_served qs ws S.report (head_at S h))
        (λ t.
        let serving = serving_ready (served_within qs ws S.report (head_at S h) t) in
        rw t (effect_invariant inside inv serving (served_effect serving)))
        (λ t. rw t idle_invariant)
