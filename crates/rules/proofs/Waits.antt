-- Document 02, A3: what holds of the pairs of requests, proved of every run of every accepted job.
--
--   Awaited count e r s    request e exists, and with the row r it was finished before the one with the row s began
--   AllWaited qs ws past   so it is of each pair whose later request has begun
--   Unwaiting S            no head of the state stores a wait
--
-- Main laws: run_waited, no request begins before those that it waits for are finished; without_pairs; run_unwaiting, no head of
-- the rules' state stores a wait; run_served, as long as a head has work left,
-- one with work left does not wait.
use mathlib.Core.Path.{◌≡◌, refl, sym, ap, ◌∙◌, subst, subst₂}
use mathlib.Core.Logic.{◌≢◌}
use mathlib.Core.Bool.{Bool, true, false, cond, true≢false}
use mathlib.Core.List.{List, [], ◌∷◌, Memᴰ}
use Prim.Native.Nat.{ℕ, zero, suc, ◌+◌, ◌≤◌, ◌<◌}
use native.Mathlib.Omega.{arith}
use native.Mathlib.Decide.{ℕ_discrete, dec_lt}
use lib.ListN.{length, get_or, get_or-eq_default}
use borrow.Author.Tests.{eq-eqb, ne_eqb, eqb-true, eqb-false, lt-ltb, ltb-true}
use Rattle.basics.proofs.Lists.{get_or_set_each}
use Rattle.basics.proofs.Conditions.{split, cond_both}
use Rattle.job.specs.declared.Request.{Request}
use Rattle.job.specs.declared.Wait.{Wait}
use Rattle.process.specs.declared.Head.{Head}
use Rattle.word.specs.declared.Node.{Node}
use Rattle.process.specs.Process.{is_resting, no_wait, begin, queued}
use Rattle.process.specs.Access.{access_of}
use Rattle.process.specs.Advance.{advance_of}
use Rattle.linearization.specs.Partition.{Labels}
use Rattle.linearization.specs.Entry.{occurrences}
use Rattle.rules.specs.declared.Row.{Row}
use Rattle.rules.specs.Table.{seen}
use Rattle.rules.specs.Report.{no_row, row_at, unfinished, is_final}
use Rattle.rules.specs.State.{State, request_at, seek, resting, heads_from, start, has_work, lowest_wait, wait_of}
use Rattle.rules.specs.Start.{Start}
use Rattle.rules.specs.Step.{is_served, ready, head_at, advanced, settled, step}
use Rattle.rules.specs.Run.{Happening, action_of, run}
use Rattle.rules.specs.Run.Happening.{idle}
use Rattle.rules.specs.History.{row_of}
use Rattle.rules.specs.Linearized.{Playable, Linearized}
use Rattle.rules.specs.Waits.{pair, Waited, AsBefore, Served}
use Rattle.rules.proofs.History.{Other, other_served, row_other, finished_last}
use Rattle.rules.proofs.Steps.{advance_keeps}
use Rattle.rules.proofs.Lowest.{lowest_none, lowest_some}
use Rattle.rules.proofs.Invariant.{Phase, Invariant}
use Rattle.rules.proofs.Invariant.Phase.{over, current, waiting}
use Rattle.rules.proofs.Serving.{Serving, serving_of, more}
use Rattle.rules.proofs.Grant.{served_free}
use Rattle.rules.proofs.Theorem.{length_heads, Startable, playable_inside, start_invariant, started_invariant, invariant_linearized}
use Rattle.rules.proofs.Positions.{phase_of, phase_left, answer_is}
use Rattle.rules.proofs.Laws.{run_heads}
use Rattle.rules.proofs.Layer.{Layer, run_layer, Before, before_other, before_served}

-- ---- no request begins before those that it waits for are finished

-- the request e, with the row r, was finished before the one with the row s began
pub record Awaited (count e : ℕ) (r s : Row) : Type 0 where
  pub exists : e < count
  pub finished : r.answer ≢ 0
  pub before : r.last < s.first

abbrev pub AllWaited : List Request → List Wait → List Happening → Type 0
AllWaited qs ws past =
    (w : Wait) → Memᴰ w ws → (row_of w.later past).first ≢ 0
    → Awaited (length qs) w.earlier (row_of w.earlier past) (row_of w.later past)

-- a request with a number in the report exists
within_report : (report : List Row) (q : ℕ) (f : Row → ℕ) → f no_row ≡ 0 → f (row_at report q) ≢ 0 → q < length report
within_report report q f none some = go (dec_lt q (length report))
  where
    go : Dec (q < length report) → q < length report
    go (yes l) = l
    go (no l) = absurd (some (ap f (get_or-eq_default report no_row {n = q} (omega arith)) ∙ none))

module _ {qs : List Request} (ws : List Wait) {n : ℕ} {B : Labels} {roots₀ : ℕ} {S : State} {past : List Happening} {h : ℕ} {head : Head}
    (inv : Invariant qs n B roots₀ S past) (is : is_served qs ws S.report (head_at S h) ≡ true) (srv : Serving qs n B S past h head) where
  abbrev q : ℕ
  q = head.task.request

  -- the head of a request that begins was at rest
  begins_at_rest : (row_of q past).first ≡ 0 → is_resting (head_at S h) ≡ true
  begins_at_rest fresh = go (phase_of inv h q srv.within srv.own)
    where
      go : Phase (head_at S h) q past (occurrences q S.entries) → is_resting (head_at S h) ≡ true
      go (over l o) = absurd (o.finished srv.unfinished)
      go (current e b c) = absurd (c.begun fresh)
      go (waiting l rests w) = rests (sym srv.position)

  begins_free : (row_of q past).first ≡ 0 → lowest_wait ws S.report q ≡ no_wait
  begins_free fresh =
      ap (lowest_wait ws S.report) (sym srv.position)
      ∙ sym (ap (λ b. cond b (lowest_wait ws S.report (head_at S h).task.request) no_wait) (begins_at_rest fresh))
      ∙ served_free qs ws S.report (head_at S h) is

  -- so that what it waits for is finished
  begins_after : (row_of q past).first ≡ 0 → (w : Wait) → Memᴰ w ws → w.later ≡ q
      → (w.earlier < length qs) × ((row_of w.earlier past).answer ≢ 0)
  begins_after fresh w m own =
      let e = w.earlier in
      let finished : (row_at S.report e).answer ≢ 0 =
      eqb-false (row_at S.report e).answer 0 (lowest_none ws S.report q (begins_free fresh) w m own) in
      let within : e < length qs = omega (arith, within_report S.report e (λ r. r.answer) refl finished, inv.reports) in
      (within, λ z. finished (ap (λ r. r.answer) (inv.rows e within) ∙ z))

  unserved : {k : ℕ} → k ≢ q → Other k (serving_of S head)
  unserved {k} d = other_served k q (action_of S head) d

  module _ (holds : AllWaited qs ws past) (w : Wait) (m : Memᴰ w ws) (begun : (row_of w.later (more S head past)).first ≢ 0) where
    -- the earlier one is finished before this grant
    earlier_finished : (w.earlier < length qs) × ((row_of w.earlier past).answer ≢ 0)
    earlier_finished = go (ℕ_discrete w.later q) (ℕ_discrete (row_of w.later past).first 0)
      where
        go : Dec (w.later ≡ q) → Dec ((row_of w.later past).first ≡ 0) → (w.earlier < length qs) × ((row_of w.earlier past).answer ≢ 0)
        go _ (no d) = ((holds w m d).exists, (holds w m d).finished)
        go (yes e) (yes z) = begins_after (ap (λ k. (row_of k past).first) (sym e) ∙ z) w m e
        go (no d) (yes z) = absurd (begun (ap (λ r. r.first) (row_other w.later (serving_of S head) past (unserved d)) ∙ z))

    -- so it is not the one that is served
    apart : w.earlier ≢ q
    apart e = earlier_finished.1 (ap (λ k. (row_of k past).answer) e ∙ srv.unfinished)

    before_more : Dec (w.later ≡ q) → Before (row_of w.earlier (more S head past)) (row_of w.later (more S head past))
    before_more (yes e) =
        subst
        (λ k. Before (row_of w.earlier past) (row_of k past) → Before (row_of w.earlier (more S head past)) (row_of k (more S head past)))
        (sym e) (before_served w.earlier q (action_of S head) past (unserved apart)) (λ d. (holds w m d).before)
    before_more (no d) =
        before_other w.earlier w.later (serving_of S head) past (unserved apart) (unserved d) (λ d. (holds w m d).before)

    waited_more : Awaited (length qs) w.earlier (row_of w.earlier (more S head past)) (row_of w.later (more S head past))
    waited_more =
        let row = row_other w.earlier (serving_of S head) past (unserved apart) in
        record {
          exists = earlier_finished.0;
          finished = λ z. earlier_finished.1 (sym (ap (λ r. r.answer) row) ∙ z);
          before = before_more (ℕ_discrete w.later q) begun;
        }

waited_layer : {qs : List Request} {ws : List Wait} {n : ℕ} {B : Labels} {roots₀ : ℕ}
    → Layer qs ws n B roots₀ (λ S past. AllWaited qs ws past)
waited_layer {qs} {ws} =
    record {
      idles = λ {S} {past} inv holds w m.
          subst₂ (λ r s. s.first ≢ 0 → Awaited (length qs) w.earlier r s)
          (sym (row_other w.earlier idle past refl)) (sym (row_other w.later idle past refl)) (holds w m);
      serves = λ inv is srv effect holds w m begun. waited_more ws inv is srv holds w m begun;
    }

-- ---- every run

module _ {qs : List Request} {ws : List Wait} {n : ℕ} {B : Labels} {roots₀ : ℕ} {S : State} {past : List Happening}
    (inv : Invariant qs n B roots₀ S past) (holds : AllWaited qs ws past) where
  abbrev lined : Linearized B n qs S.table S.report S.entries past
  lined = invariant_linearized inv

  -- a finished request is listed, and has begun
  listed_once : (q : ℕ) → q < length qs → (row_at S.report q).answer ≢ 0 → occurrences q S.entries ≡ 1
  listed_once q l finished = lined.listed q l ∙ rw (ne_eqb (row_at S.report q).answer 0 finished)

  finished_begun : (q : ℕ) → q < length qs → (row_at S.report q).answer ≢ 0 → (row_at S.report q).first ≢ 0
  finished_begun q l finished z = go (inv.phases q l)
    where
      go : {k : Head} {times : ℕ} → Phase k q past times → ⊥
      go (over l' o) = o.begun (sym (ap (λ r. r.first) (inv.rows q l)) ∙ z)
      go (current e b c) = finished (ap (λ r. r.answer) (inv.rows q l) ∙ c.unfinished)
      go (waiting l' r w) = finished (ap (λ r. r.answer) (inv.rows q l) ∙ w.unfinished)

  -- the same of the report
  awaited : (w : Wait) → Memᴰ w ws → (row_at S.report w.later).first ≢ 0
      → Awaited (length qs) w.earlier (row_at S.report w.earlier) (row_at S.report w.later)
  awaited w m begun =
      let within : w.later < length qs = omega (arith, within_report S.report w.later (λ r. r.first) refl begun, inv.reports) in
      let a = holds w m (λ z. begun (ap (λ r. r.first) (inv.rows w.later within) ∙ z)) in
      subst₂ (Awaited (length qs) w.earlier) (sym (inv.rows w.earlier a.exists)) (sym (inv.rows w.later within)) a

  awaited_finished : (w : Wait) → Memᴰ w ws → (row_at S.report w.later).answer ≢ 0
      → (w.later < length qs) × Awaited (length qs) w.earlier (row_at S.report w.earlier) (row_at S.report w.later)
  awaited_finished w m finished =
      let within : w.later < length qs =
      omega (arith, within_report S.report w.later (λ r. r.answer) refl finished, inv.reports) in
      (within, awaited w m (finished_begun w.later within finished))

  invariant_waited : Waited ws S.report S.entries
  invariant_waited =
      record {
        finished = λ w m begun. (awaited w m begun).finished;
        ended = λ w m begun. (awaited w m begun).before;
        listed = λ w m finished.
            let a = awaited_finished w m finished in
            (listed_once w.earlier a.1.exists a.1.finished, listed_once w.later a.0 finished);
        stands = λ e f me mf m finished.
            let a = (awaited_finished (pair f.request e.request) m finished).1 in
            let last : (row_at S.report e.request).last ≢ 0 = λ z. finished_last e.request past
            (λ y. a.finished (ap (λ r. r.answer) (inv.rows e.request a.exists) ∙ y))
            (sym (ap (λ r. r.last) (inv.rows e.request a.exists)) ∙ z) in
            lined.ordered e f me mf last a.before;
      }

start_waited : (qs : List Request) (ws : List Wait) → AllWaited qs ws []
unfolding row_of
start_waited qs ws w m begun = absurd (begun refl)

module _ {n : ℕ} (qs : List Request) (ws : List Wait) (m : ℕ) {s : Start} (begin : Startable n s) where
  pub run_waited : {gs : List ℕ} → Playable n m qs gs
      → Waited ws (run qs ws (start qs m s.table) gs).report (run qs ws (start qs m s.table) gs).entries
  run_waited {gs} playable =
      let first = start qs m s.table in
      let held = run_layer (playable_inside playable) waited_layer first [] gs
      (λ h k. omega (arith, playable.granted h k, length_heads qs 0 m)) (start_invariant qs m begin) (start_waited qs ws) in
      invariant_waited (started_invariant playable ws begin) held

-- ---- without pairs

pub without_pairs : (qs : List Request) (S : State) (h : ℕ) → AsBefore qs S h
without_pairs qs S h =
    let free : wait_of [] S.report (head_at S h) ≡ no_wait = cond_both (λ k. k ≡ no_wait) (is_resting (head_at S h)) refl refl in
    record { served = split (has_work qs (head_at S h)) (λ t. rw (t, free)) (λ f. rw f); free = free }

-- ---- the heads of the rules' state store no wait: what a head waits for is told by the report

abbrev pub Unwaiting : State → Type 0
Unwaiting S = (h : ℕ) → (head_at S h).task.waits ≡ no_wait

heads_unwaiting : (qs : List Request) (h m k : ℕ) → (get_or (heads_from qs h m) k (resting 0)).task.waits ≡ no_wait
heads_unwaiting qs h zero k = refl
heads_unwaiting qs h (suc m) zero = refl
heads_unwaiting qs h (suc m) (suc k) = heads_unwaiting qs (suc h) m k

-- a step keeps what the head waits for, and so does its end
settled_unwaiting : (qs : List Request) (S : State) (h : ℕ) (head : Head) → head.task.waits ≡ no_wait
    → (settled qs h (advanced S head)).task.waits ≡ no_wait
unfolding advance_of
settled_unwaiting qs S h head none =
    let a = advanced S head in
    let kept = (advance_keeps head.task (seen S.table (access_of head)) (suc S.now) head.stage).waits ∙ none in
    let next = queued a.head (seek qs h (suc a.head.task.request)) in
    cond_both (λ k. k.task.waits ≡ no_wait) (is_final a.event.answer) {x = next} kept kept

ready_unwaiting : (qs : List Request) (head : Head) → head.task.waits ≡ no_wait → (ready qs head).task.waits ≡ no_wait
ready_unwaiting qs head none =
    let begun = begin (request_at qs head.task.request) head.task.request in
    cond_both (λ k. k.task.waits ≡ no_wait) (is_resting head) {x = begun} refl none

pub next_unwaiting : (qs : List Request) (S : State) (h : ℕ) → Unwaiting S
    → (settled qs h (advanced S (ready qs (head_at S h)))).task.waits ≡ no_wait
next_unwaiting qs S h none = settled_unwaiting qs S h (ready qs (head_at S h)) (ready_unwaiting qs (head_at S h) (none h))

module _ (qs : List Request) (ws : List Wait) where
  step_unwaiting : (S : State) (h : ℕ) → Unwaiting S → Unwaiting (step qs ws S h)
  unfolding step
  step_unwaiting S h none =
      split (is_served qs ws S.report (head_at S h))
      (λ t. rw t (get_or_set_each (λ k. k.task.waits ≡ no_wait) S.heads h (settled qs h (advanced S (ready qs (head_at S h)))) (resting 0)
      (next_unwaiting qs S h none) none))
      (λ f. rw f none)

  pub run_unwaiting : (S : State) (gs : List ℕ) → Unwaiting S → Unwaiting (run qs ws S gs)
  run_unwaiting S [] none = none
  run_unwaiting S (h ∷ gs) none = run_unwaiting (step qs ws S h) gs (step_unwaiting S h none)

pub start_unwaiting : (qs : List Request) (m : ℕ) (t : List Node) → Unwaiting (start qs m t)
start_unwaiting qs m t = heads_unwaiting qs 0 m

-- ---- some head can always go on

-- the first number that passes a test
record First (test : ℕ → Bool) (n : ℕ) : Type 0 where
  place : ℕ
  within : place ≤ n
  passes : test place ≡ true
  none : (i : ℕ) → i < place → test i ≡ false

first_from : (test : ℕ → Bool) (n k left : ℕ) → k + left ≡ n → test n ≡ true → ((i : ℕ) → i < k → test i ≡ false) → First test n
first_from test n k zero e t none = record { place = n; within = omega arith; passes = t; none = λ i l. none i (omega arith) }
first_from test n k (suc left) e t none =
    split (test k)
    (λ passes. record { place = k; within = omega arith; passes = passes; none = none })
    (λ fails. first_from test n (suc k) left (omega arith) t (λ i l. below i l fails (ℕ_discrete i k)))
  where
    below : (i : ℕ) → i < suc k → test k ≡ false → Dec (i ≡ k) → test i ≡ false
    below i l fails (yes e) = ap test e ∙ fails
    below i l fails (no d) = none i (omega (arith, d))

module _ {qs : List Request} (ws : List Wait) {n : ℕ} {B : Labels} {roots₀ : ℕ} {S : State} {past : List Happening}
    (inv : Invariant qs n B roots₀ S past) (rising : (w : Wait) → Memᴰ w ws → w.earlier < w.later) where
  abbrev left : ℕ → Bool
  left = unfinished S.report

  left_here : (q : ℕ) → q < length qs → (row_of q past).answer ≡ 0 → left q ≡ true
  left_here q within none = eq-eqb (row_at S.report q).answer 0 (answer_is inv q within ∙ none)

  -- the lowest unfinished request of all: its head has come to it, and it waits for none
  module _ (p : ℕ) (within : p < length qs) (last : left p ≡ true) (lowest : (i : ℕ) → i < p → left i ≡ false)
      (present : (request_at qs p).head < length S.heads) where
    abbrev head : Head
    head = head_at S (request_at qs p).head

    not_passed : head.task.request ≤ p
    not_passed = go (inv.phases p within)
      where
        go : {times : ℕ} → Phase head p past times → head.task.request ≤ p
        go (over l o) = absurd (o.finished (sym (answer_is inv p within) ∙ eqb-true (row_at S.report p).answer 0 last))
        go (current e b c) = omega arith
        go (waiting l r w) = l

    not_before : head.task.request < p → ⊥
    not_before l =
        let q = head.task.request in
        let there : q < length qs = omega arith in
        let phase = phase_of inv (request_at qs p).head q there (inv.own (request_at qs p).head present there) in
        true≢false (sym (left_here q there (phase_left phase (omega arith))) ∙ lowest q l)

    arrived : head.task.request ≡ p
    arrived = omega (arith, not_passed, not_before)

    waits_none : (k : ℕ) → lowest_wait ws S.report p ≡ k → k ≡ no_wait
    waits_none zero is = refl
    waits_none (suc e) is =
        let some = lowest_some ws S.report p e is in
        absurd (true≢false (sym some.1 ∙ lowest e (rising (pair p e) some.0)))

    goes_on : is_served qs ws S.report head ≡ true
    goes_on =
        let free : wait_of ws S.report head ≡ no_wait = cond_both (λ k. k ≡ no_wait) (is_resting head)
        (ap (lowest_wait ws S.report) arrived ∙ waits_none (lowest_wait ws S.report p) refl) refl in
        rw (lt-ltb head.task.request (length qs) (omega (arith, arrived)), free)

  some_served : (h : ℕ) → h < length S.heads → has_work qs (head_at S h) ≡ true
      → ((q : ℕ) → q < length qs → (request_at qs q).head < length S.heads) → Served qs ws S
  some_served h present work heads =
      let q = (head_at S h).task.request in
      let within : q < length qs = ltb-true q (length qs) work in
      let phase = phase_of inv h q within (inv.own h present within) in
      let f = first_from left q 0 q (omega arith) (left_here q within (phase_left phase (omega arith))) (λ i l. absurd (omega arith)) in
      let there : f.place < length qs = omega (arith, f.within) in
      let seat = heads f.place there in
      record { head = (request_at qs f.place).head; present = seat; served = goes_on f.place there f.passes f.none seat }

-- of every run whose pairs are of an earlier and a later request
module _ {n : ℕ} (qs : List Request) (ws : List Wait) (m : ℕ) {s : Start} (begin : Startable n s) {gs : List ℕ}
    (playable : Playable n m qs gs) where
  abbrev S : State
  S = run qs ws (start qs m s.table) gs

  heads_all : length S.heads ≡ m
  heads_all = run_heads qs ws (start qs m s.table) gs ∙ length_heads qs 0 m

  pub run_served : ((w : Wait) → Memᴰ w ws → w.earlier < w.later) → ((q : ℕ) → q < length qs → (request_at qs q).head < m)
      → (h : ℕ) → h < m → has_work qs (head_at S h) ≡ true → Served qs ws S
  run_served rising heads h present work =
      some_served ws (started_invariant playable ws begin) rising h (omega (arith, heads_all)) work
      (λ q l. omega (arith, heads_all, heads q l))
