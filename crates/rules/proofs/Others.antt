-- What a grant leaves alone of the requests that it was not used for.
--
-- Main laws: timed_other, phase_other and placed_other, the parts of the invariant that speak of one request.
use mathlib.Core.Path.{◌≡◌, sym, ap, ◌∙◌}
use mathlib.Core.Bool.{cond}
use mathlib.Core.List.{List, ◌∷◌}
use Prim.Native.Nat.{ℕ, ◌≤◌}
use native.Mathlib.Omega.{arith}
use lib.Dec.{eqb}
use lib.ListN.{length}
use Rattle.job.specs.declared.Kind.TheVariants.{SameSet}
use Rattle.job.specs.declared.Request.{Request}
use Rattle.process.specs.declared.Stage.{Stage}
use Rattle.process.specs.Process.{traits_of}
use Rattle.process.specs.declared.Head.{Head}
use Rattle.linearization.specs.Entry.{Entry}
use Rattle.rules.specs.State.{request_at}
use Rattle.rules.specs.Run.{Happening}
use Rattle.rules.specs.History.{is_of, row_of}
use Rattle.rules.specs.Laws.{Anchored}
use Rattle.rules.proofs.History.{Other, last_kept, but_one_kept, row_other, link_other, find_other, point_other, used_kept}
use Rattle.rules.proofs.Invariant.{Candidate, Timed, Over, Current, Waiting, Phase, Placed}
use Rattle.rules.proofs.Invariant.Phase.{over, current, waiting}

pub timed_other : {q : ℕ} {past : List Happening} {st : Stage} (a : Happening) → Other q a → (traits_of st).pending ≤ length past
    → Timed q past st → Timed q (a ∷ past) st
timed_other {q} {past} {st} a o until timed =
    record {
      unlinked = λ e. link_other q a past o ∙ timed.unlinked e;
      linked = λ e z. timed.linked e (sym (link_other q a past o) ∙ z);
      candidate = λ d. candidate (timed.candidate d);
    }
  where
    first : (row_of q (a ∷ past)).first ≡ (row_of q past).first
    first = ap (λ r. r.first) (row_other q a past o)

    candidate : Candidate q past (traits_of st).pending → Candidate q (a ∷ past) (traits_of st).pending
    candidate c =
        record {
          begun = λ z. c.begun (sym first ∙ z);
          since = omega (arith, first, c.since);
          last = find_other q a past o ∙ c.last;
          newest = last_kept (is_of q) a past o ∙ c.newest;
          used = used_kept a past (traits_of st).pending until ∙ c.used;
        }

module _ (q : ℕ) (past : List Happening) {times times' : ℕ} (a : Happening) (o : Other q a) (same : times' ≡ times) where
  row : row_of q (a ∷ past) ≡ row_of q past
  row = row_other q a past o

  anchored_other : Anchored q (row_of q past) past → Anchored q (row_of q (a ∷ past)) (a ∷ past)
  anchored_other p =
      record {
        yes = λ e. point_other q a past o SameSet ∙ p.yes (sym (ap (λ r. r.answer) row) ∙ e) ∙ sym (ap (λ r. r.last) row);
        no = λ e. point_other q a past o SameSet ∙ p.no (sym (ap (λ r. r.answer) row) ∙ e) ∙ sym (but_one_kept (is_of q) a past o);
      }

  pub over_other : Over q past times → Over q (a ∷ past) times'
  over_other p =
      record {
        finished = λ z. p.finished (sym (ap (λ r. r.answer) row) ∙ z);
        begun = λ z. p.begun (sym (ap (λ r. r.first) row) ∙ z);
        ended = omega (arith, ap (λ r. r.last) row, p.ended);
        anchored = anchored_other p.anchored;
        listed = same ∙ p.listed;
      }

  current_other : Current q past times → Current q (a ∷ past) times'
  current_other p =
      record {
        unfinished = ap (λ r. r.answer) row ∙ p.unfinished;
        begun = λ z. p.begun (sym (ap (λ r. r.first) row) ∙ z);
        listed = same ∙ p.listed ∙ ap (λ l. cond (eqb l 0) 0 1) (sym (link_other q a past o));
      }

  pub waiting_other : Waiting q past times → Waiting q (a ∷ past) times'
  waiting_other p =
      record {
        unfinished = ap (λ r. r.answer) row ∙ p.unfinished;
        fresh = ap (λ r. r.first) row ∙ p.fresh;
        unlinked = link_other q a past o ∙ p.unlinked;
        unlisted = same ∙ p.unlisted;
      }

  pub phase_other : {head : Head} → Phase head q past times → Phase head q (a ∷ past) times'
  phase_other (over l p) = over l (over_other p)
  phase_other (current e b p) = current e b (current_other p)
  phase_other (waiting l r p) = waiting l r (waiting_other p)

-- An entry of another request stands at its point.
pub placed_other : {qs : List Request} {past : List Happening} {e : Entry} (a : Happening) → Other e.request a
    → Placed qs past e → Placed qs (a ∷ past) e
placed_other {qs} {past} {e} a o p =
    let row = row_other e.request a past o in
    record {
      known = p.known;
      since = omega (arith, ap (λ r. r.first) row, p.since);
      until = omega (arith, p.until);
      ended = λ z. rw row (p.ended (λ y. z (ap (λ r. r.last) row ∙ y)));
      point = p.point ∙ sym (point_other e.request a past o (request_at qs e.request).kind);
      used = used_kept a past e.point p.until ∙ p.used;
    }
