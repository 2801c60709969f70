-- What a grant does to the request that it was used for, as the history tells it.
--
--   past'   the history with the grant, which did `act` for request q
--
-- Main laws: anchored_joined, anchored_found and anchored_no, the point of a same-set by its answer; finished_over and
-- unfinished_current, the request's phase after the grant; timed_on and timed_linked, what its
-- next stage may rely on; placed_now, placed_pending and placed_still, its entry at this grant, at the pending point, or
-- where it stood.
use mathlib.Core.Path.{◌≡◌, sym, ap, ◌∙◌}
use mathlib.Core.Logic.{◌≢◌}
use mathlib.Core.Bool.{true, false, cond, true≢false}
use mathlib.Core.List.{List, ◌∷◌}
use Prim.Native.Nat.{ℕ, suc, ◌≤◌, ◌<◌}
use native.Mathlib.Omega.{arith}
use lib.Dec.{eqb}
use lib.ListN.{length}
use Rattle.job.specs.declared.Kind.{Kind}
use Rattle.job.specs.declared.Kind.TheVariants.{Union, SameSet}
use Rattle.job.specs.declared.Answer.{Answer}
use Rattle.job.specs.declared.Answer.TheVariants.{Unfinished, Joined, No}
use Rattle.job.specs.declared.Request.{Request}
use Rattle.job.specs.Job.{answer_number}
use Rattle.process.specs.declared.Stage.{Stage}
use Rattle.process.specs.Process.{traits_of}
use Rattle.process.specs.Advance.{together}
use Rattle.linearization.proofs.Entries.{entry}
use Rattle.rules.specs.Report.{is_final}
use Rattle.rules.specs.State.{request_at}
use Rattle.rules.specs.Action.{Action, links}
use Rattle.rules.specs.Run.{Happening}
use Rattle.rules.specs.Run.Happening.{serving}
use Rattle.rules.specs.History.{is_of, row_of, link_of, point_of}
use Rattle.rules.specs.Laws.{Anchored}
use Rattle.rules.proofs.History.{last_new, but_one_new, final_number, of_itself, served_answer, served_last, served_ended}
use Rattle.rules.proofs.History.{served_first, served_settled, row_first_bound, row_last_bound, link_unserved}
use Rattle.rules.proofs.History.{find_served, find_unserved, point_same_set, point_union, used_for, used_now, used_kept}
use Rattle.rules.proofs.Invariant.{Candidate, Timed, Over, Current, Placed}

-- no is not told to nodes in one set
together_number : (k : Kind) → answer_number (together k) ≢ 4
together_number Union e = omega arith
together_number SameSet e = omega arith

module _ (q : ℕ) (act : Action) (past : List Happening) where
  abbrev past' : List Happening
  past' = serving q act ∷ past

  -- ---- its phase

  -- the answer of a request that is finished with this grant
  answered_now : {a : Answer} {m : ℕ} → act.event.answer ≡ a → (row_of q past').answer ≡ m → answer_number a ≡ m
  answered_now answer e = sym (served_answer q act past ∙ ap answer_number answer) ∙ e

  -- joined, it has no point of a same-set
  pub anchored_joined : act.event.answer ≡ Joined → Anchored q (row_of q past') past'
  anchored_joined answer =
      record { yes = λ e. absurd (omega (arith, answered_now answer e)); no = λ e. absurd (omega (arith, answered_now answer e)) }

  -- the find from y ended with this grant at x: if the request is a same-set, it is told yes
  pub anchored_found : (k : Kind) → act.event.answer ≡ together k → act.event.found ≡ true → is_final act.event.answer ≡ true
      → Anchored q (row_of q past') past'
  anchored_found k answer found final =
      record {
        yes = λ e. point_same_set q past' ∙ find_served q act past found ∙ sym (served_ended q act past final);
        no = λ e. absurd (together_number k (answered_now answer e));
      }

  -- it ended with the grant before
  pub anchored_no : {point : ℕ} → act.event.answer ≡ No → act.event.found ≡ false → Candidate q past point
      → Anchored q (row_of q past') past'
  anchored_no answer unfound candidate =
      record {
        yes = λ e. absurd (omega (arith, answered_now answer e));
        no = λ e. point_same_set q past' ∙ find_unserved q act past unfound ∙ candidate.last ∙ sym candidate.newest
            ∙ sym (but_one_new (is_of q) (serving q act) past (of_itself q act past));
      }

  pub finished_over : {times : ℕ} → is_final act.event.answer ≡ true → Anchored q (row_of q past') past' → times ≡ 1 → Over q past' times
  finished_over final anchored once =
      record {
        finished = λ z. final_number act.event.answer final (sym (served_answer q act past) ∙ z);
        begun = served_first q act past;
        ended = row_last_bound q past';
        anchored = anchored;
        listed = once;
      }

  pub unfinished_current : {times : ℕ} → act.event.answer ≡ Unfinished → times ≡ cond (eqb (link_of q past') 0) 0 1 → Current q past' times
  unfinished_current answer listed =
      record { unfinished = served_answer q act past ∙ ap answer_number answer; begun = served_first q act past; listed = listed }

  -- ---- what its next stage may rely on

  -- a pending point is this grant, which ended the find from y
  candidate_now : {point : ℕ} → point ≡ suc (length past) → act.event.found ≡ true → Candidate q past' point
  candidate_now here found =
      record {
        begun = served_first q act past;
        since = omega (arith, row_first_bound q past');
        last = find_served q act past found ∙ sym here;
        newest = last_new (is_of q) (serving q act) past (of_itself q act past) ∙ sym here;
        used = ap (used_for past') here ∙ used_now q act past;
      }

  pub timed_on : {st : Stage} → (traits_of st).linked ≡ false → link_of q past' ≡ 0
      → ((traits_of st).pending ≢ 0 → (traits_of st).pending ≡ suc (length past)) → ((traits_of st).pending ≢ 0 → act.event.found ≡ true)
      → Timed q past' st
  timed_on still unlinked proposed found =
      record {
        unlinked = λ r. unlinked;
        linked = λ r. absurd (true≢false (sym r ∙ still));
        candidate = λ d. candidate_now (proposed d) (found d);
      }

  pub timed_linked : {st : Stage} → (traits_of st).linked ≡ true → (traits_of st).pending ≡ 0 → link_of q past' ≢ 0 → Timed q past' st
  timed_linked has none linked =
      record { unlinked = λ r. absurd (true≢false (sym has ∙ r)); linked = λ r. linked; candidate = λ d. absurd (d none) }

  -- ---- its entry

  -- a union that has linked stays at its link
  point_still : (k : Kind) → k ≡ Union → links act.access act.seen ≡ false → link_of q past ≢ 0 → point_of k q past' ≡ point_of k q past
  point_still k union unlinked linked =
      let link = link_unserved q act past unlinked in
      ap (λ k. point_of k q past') union ∙ point_union q past' (λ z. linked (sym link ∙ z)) ∙ link
      ∙ sym (point_union q past linked) ∙ ap (λ k. point_of k q past) (sym union)

  module _ {qs : List Request} (known : q < length qs) where
    pub placed_now : suc (length past) ≡ point_of (request_at qs q).kind q past' → Placed qs past' (entry (suc (length past)) q)
    placed_now point =
        record {
          known = known;
          since = row_first_bound q past';
          until = omega arith;
          ended = λ z. omega (arith, served_last q act past z);
          point = point;
          used = used_now q act past;
        }

    -- a no stands where the find from y ended
    pub placed_pending : {point : ℕ} → (request_at qs q).kind ≡ SameSet → act.event.found ≡ false → point ≤ length past
        → Candidate q past point → Placed qs past' (entry point q)
    placed_pending {point} kind unfound until candidate =
        record {
          known = known;
          since = omega (arith, served_settled q act past candidate.begun, candidate.since);
          until = omega arith;
          ended = λ z. omega (arith, served_last q act past z);
          point = sym (ap (λ k. point_of k q past') kind ∙ point_same_set q past' ∙ find_unserved q act past unfound ∙ candidate.last);
          used = used_kept (serving q act) past point until ∙ candidate.used;
        }

    pub placed_still : {point : ℕ} → (request_at qs q).kind ≡ Union → links act.access act.seen ≡ false → link_of q past ≢ 0
        → (row_of q past).first ≢ 0 → Placed qs past (entry point q) → Placed qs past' (entry point q)
    placed_still {point} kind unlinked linked begun p =
        record {
          known = known;
          since = omega (arith, served_settled q act past begun, p.since);
          until = omega (arith, p.until);
          ended = λ z. omega (arith, p.until, served_last q act past z);
          point = p.point ∙ sym (point_still (request_at qs q).kind kind unlinked linked);
          used = used_kept (serving q act) past point p.until ∙ p.used;
        }
