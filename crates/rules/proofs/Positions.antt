-- What a head's position says of its requests, and so of the heads with work left.
--
-- Main laws: phase_of, a request's phase by the head that it is for; phase_begun, phase_passed and phase_left, a request
-- by its head's position; work_left, the heads with work left are those with an unfinished request.
use mathlib.Core.Path.{◌≡◌, refl, sym, ap, ◌∙◌, subst}
use mathlib.Core.Logic.{◌≢◌}
use mathlib.Core.Bool.{Bool, true, false, true≢false}
use mathlib.Core.List.{List, [], ◌∷◌}
use Prim.Native.Nat.{ℕ, zero, suc, ◌≤◌, ◌<◌}
use native.Mathlib.Omega.{arith}
use lib.Dec.{eqb}
use lib.ListN.{length, get_or}
use borrow.Author.Tests.{eqb-true, eq-eqb, ne_eqb, ltb-true, ltb-false}
use Rattle.basics.specs.Count.{count}
use Rattle.basics.proofs.Conditions.{split}
use Rattle.basics.proofs.Counts.{count_first, count_same}
use Rattle.job.specs.declared.Request.{Request}
use Rattle.process.specs.declared.Head.{Head}
use Rattle.linearization.specs.Partition.{Labels}
use Rattle.linearization.specs.Entry.{occurrences}
use Rattle.rules.specs.Report.{row_at}
use Rattle.rules.specs.State.{State, request_at, resting, has_work, working}
use Rattle.rules.specs.Step.{head_at, plus}
use Rattle.rules.specs.Run.{Happening}
use Rattle.rules.specs.History.{row_of}
use Rattle.rules.specs.Laws.{some, is_unfinished, heads_left, Anchored}
use Rattle.rules.proofs.Invariant.{Phase, Invariant}
use Rattle.rules.proofs.Invariant.Phase.{over, current, waiting}

-- ---- one request

-- one that is not finished has no answer of a same-set
unanswered : {q : ℕ} {past : List Happening} → (row_of q past).answer ≡ 0 → Anchored q (row_of q past) past
unanswered none = record { yes = λ e. absurd (omega arith); no = λ e. absurd (omega arith) }

module _ {head : Head} {q : ℕ} {past : List Happening} {times : ℕ} where
  -- one that has begun is not beyond its head's position
  pub phase_begun : Phase head q past times → (row_of q past).first ≢ 0 → q ≤ head.task.request
  phase_begun (over l o) begun = omega arith
  phase_begun (current e b c) begun = omega arith
  phase_begun (waiting l r w) begun = absurd (begun w.fresh)

  -- one that the head has passed is finished
  pub phase_passed : Phase head q past times → q < head.task.request → (row_of q past).answer ≢ 0
  phase_passed (over l o) passed = o.finished
  phase_passed (current e b c) passed = absurd (omega arith)
  phase_passed (waiting l r w) passed = absurd (omega arith)

  -- and no other is
  pub phase_left : Phase head q past times → head.task.request ≤ q → (row_of q past).answer ≡ 0
  phase_left (over l o) left = absurd (omega arith)
  phase_left (current e b c) left = c.unfinished
  phase_left (waiting l r w) left = w.unfinished

  -- a point of a same-set is told by its row
  pub phase_anchored : Phase head q past times → Anchored q (row_of q past) past
  phase_anchored (over l o) = o.anchored
  phase_anchored (current e b c) = unanswered c.unfinished
  phase_anchored (waiting l r w) = unanswered w.unfinished

-- ---- counting

some_true : (test : ℕ → Bool) (n i : ℕ) → i < n → test i ≡ true → some test n ≡ true
some_true test zero i l e = absurd (omega arith)
some_true test (suc n) i l e =
    split (test n) (λ t. rw t refl)
    (λ f. let d : i ≢ n = λ is. true≢false (sym e ∙ ap test is ∙ f) in rw f (some_true test n i (omega (arith, d)) e))

pub some_false : (test : ℕ → Bool) (n : ℕ) → ((i : ℕ) → i < n → test i ≡ false) → some test n ≡ false
some_false test zero fails = refl
some_false test (suc n) fails = rw (fails n (omega arith)) (some_false test n (λ i l. fails i (omega arith)))

working_count : (qs : List Request) (heads : List Head)
    → working qs heads ≡ count (λ h. has_work qs (get_or heads h (resting 0))) (length heads)
working_count qs [] = refl
working_count qs (head ∷ heads) =
    ap (plus (has_work qs head)) (working_count qs heads)
    ∙ sym (count_first (λ h. has_work qs (get_or (head ∷ heads) h (resting 0))) (length heads))

-- ---- all requests of a head

module _ {qs : List Request} {n : ℕ} {B : Labels} {roots₀ : ℕ} {S : State} {past : List Happening}
    (inv : Invariant qs n B roots₀ S past) where
  pub phase_of : (h q : ℕ) → q < length qs → (request_at qs q).head ≡ h → Phase (head_at S h) q past (occurrences q S.entries)
  phase_of h q l own = subst (λ k. Phase (head_at S k) q past (occurrences q S.entries)) own (inv.phases q l)

  pub answer_is : (q : ℕ) → q < length qs → (row_at S.report q).answer ≡ (row_of q past).answer
  answer_is q l = ap (λ r. r.answer) (inv.rows q l)

  module _ (h : ℕ) where
    abbrev q : ℕ
    q = (head_at S h).task.request

    unfinished_yes : (q : ℕ) → (request_at qs q).head ≡ h → (row_at S.report q).answer ≡ 0 → is_unfinished qs S.report h q ≡ true
    unfinished_yes q own none = rw (eq-eqb (request_at qs q).head h own) (eq-eqb (row_at S.report q).answer 0 none)

    unfinished_no : (q : ℕ) → ((request_at qs q).head ≡ h → (row_at S.report q).answer ≢ 0) → is_unfinished qs S.report h q ≡ false
    unfinished_no q finished =
        split (eqb (request_at qs q).head h)
        (λ t. rw t (ne_eqb (row_at S.report q).answer 0 (finished (eqb-true (request_at qs q).head h t))))
        (λ f. rw f refl)

    -- a head's position is an unfinished request of its own
    work_here : h < length S.heads → q < length qs → is_unfinished qs S.report h q ≡ true
    work_here present within =
        let own = inv.own h present within in
        unfinished_yes q own (answer_is q within ∙ phase_left (phase_of h q within own) (omega arith))

    -- and a head beyond the requests has finished all of its own
    no_work : length qs ≤ q → (p : ℕ) → p < length qs → is_unfinished qs S.report h p ≡ false
    no_work beyond p l = unfinished_no p (λ own z. phase_passed (phase_of h p l own) (omega arith) (sym (answer_is p l) ∙ z))

    has_work_left : h < length S.heads → has_work qs (head_at S h) ≡ some (is_unfinished qs S.report h) (length qs)
    has_work_left present =
        split (has_work qs (head_at S h))
        (λ t.
        let within = ltb-true q (length qs) t in
        t ∙ sym (some_true (is_unfinished qs S.report h) (length qs) q within (work_here present within)))
        (λ f. f ∙ sym (some_false (is_unfinished qs S.report h) (length qs) (no_work (ltb-false q (length qs) f))))

  pub work_left : working qs S.heads ≡ heads_left qs S.report (length S.heads)
  work_left =
      working_count qs S.heads
      ∙ count_same (λ h. has_work qs (head_at S h)) (λ h. some (is_unfinished qs S.report h) (length qs)) (length S.heads) has_work_left
