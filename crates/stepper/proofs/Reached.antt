-- Behind a standing: the state that the buffers show is one of a run of an accepted job, so that the rules' invariant holds.
--
--   Reached   the buffers show the state S, which a run over n nodes from that start has reached with the history `past`
--
-- Main laws: cut_granted, the grants of a cut are for heads; after_next, one grant more of a schedule is the rules' step;
-- after_invariant, the invariant after any grants for heads; playing_admitted and playing_inside, what an accepted file says;
-- reached, the buffers that stand show a state with the invariant.
use mathlib.Core.Path.{◌≡◌, ap, ◌∙◌, subst}
use mathlib.Core.List.Memᴰ
use mathlib.Core.List.{List, [], ◌∷◌, Memᴰ}
use Prim.Native.Nat.{ℕ, suc, ◌+◌, ◌*◌, ◌≤◌, ◌<◌}
use native.Mathlib.Omega.{arith}
use lib.ListN.{length, get_or, take, drop, take-append-drop}
use lib.Seq.{take-suc}
use Rattle.reader.specs.declared.Checked.{Checked}
use Rattle.reader.specs.Reader.{Playing}
use Rattle.job.specs.declared.Request.{Request}
use Rattle.job.specs.declared.Wait.{Wait}
use Rattle.job.specs.Job.{Job, most_heads}
use Rattle.jobfile.specs.Meaning.{meaning}
use Rattle.jobfile.specs.Admitted.{Admitted}
use Rattle.jobfile.proofs.RoundTrip.{admitted_meaning}
use Rattle.rules.specs.State.{State, no_request, request_at}
use Rattle.rules.specs.Start.{Start, Initial}
use Rattle.rules.specs.Step.{step}
use Rattle.rules.specs.Run.{Happening, happened, history}
use Rattle.rules.specs.Linearized.{Playable}
use Rattle.rules.proofs.Stages.{Inside}
use Rattle.rules.proofs.Invariant.{Invariant}
use Rattle.rules.proofs.Theorem.{length_heads, run_prefix, started_invariant, initial_startable}
use Rattle.rules.proofs.Laws.{run_heads}
use Rattle.rules.proofs.Waits.{Unwaiting, start_unwaiting, run_unwaiting}
use Rattle.stepper.specs.Shown.{Buffers, shown, start_of, state_after, history_after, requests_in, waits_in, Standing}

pub record Reached (origin : Start) (qs : List Request) (ws : List Wait) (n : ℕ) (b : Buffers) (number : ℕ) (S : State)
    (past : List Happening) (lent : List ℕ) : Type 0 where
  pub invariant : Invariant qs n origin.labels origin.groups S past
  pub heads : length S.heads ≡ most_heads
  pub shows : b ≡ shown qs ws S lent
  pub unwaiting : Unwaiting S
  pub next : number ≡ suc S.now
  pub room : 2 * length qs ≤ length lent

-- ---- the grants of a schedule, one by one

pub below_member : (k h : ℕ) (gs : List ℕ) → ((g none : ℕ) → g < length gs → get_or gs g none < k) → Memᴰ h gs → h < k
below_member k h [] below member = elim member [ ]
below_member k h (g ∷ gs) below (Memᴰ.head same) = omega (arith, same, below 0 0 (omega arith))
below_member k h (g ∷ gs) below (Memᴰ.tail m) = below_member k h gs (λ i none l. below (suc i) none (omega arith)) m

pub admitted_granted : (j : Job) → Admitted j → (h : ℕ) → Memᴰ h j.schedule → h < most_heads
admitted_granted j a h m = omega (arith, below_member j.heads h j.schedule a.each_grant m, a.few_heads)

pub cut_granted : (j : Job) → Admitted j → (k h : ℕ) → Memᴰ h (take k j.schedule) → h < most_heads
cut_granted j a k h m =
    admitted_granted j a h (subst (Memᴰ h) (take-append-drop k j.schedule) (Memᴰ.append_left (drop k j.schedule) m))

pub after_next : (origin : Start) (j : Job) (gs : List ℕ) (k : ℕ) → k < length gs
    → state_after origin j (take (k + 1) gs) ≡ step j.requests j.waits (state_after origin j (take k gs)) (get_or gs k 0)
after_next origin j gs k l =
    let one : k + 1 ≡ suc k = omega arith in
    ap (λ i. state_after origin j (take i gs)) one ∙ ap (state_after origin j) (take-suc gs k 0 l)
    ∙ run_prefix j.requests j.waits (start_of origin j) (take k gs) (get_or gs k 0 ∷ [])

-- ---- a run counts its grants

length_history : (qs : List Request) (ws : List Wait) (S : State) (past : List Happening) (gs : List ℕ)
    → length (history qs ws S past gs) ≡ length gs + length past
length_history qs ws S past [] = omega arith
length_history qs ws S past (h ∷ gs) = omega (arith, length_history qs ws (step qs ws S h) (happened qs ws S h ∷ past) gs)

-- ---- after any grants for heads

pub after_playable : (j : Job) → Admitted j → (gs : List ℕ) → ((h : ℕ) → Memᴰ h gs → h < most_heads)
    → Playable j.nodes most_heads j.requests gs
after_playable j a gs granted =
    record {
      few = omega (arith, a.few_nodes);
      left = λ q l. (a.each_request q no_request l).x;
      right = λ q l. (a.each_request q no_request l).y;
      granted = granted;
    }

module _ {origin : Start} (j : Job) (initial : Initial j.nodes origin) (admitted : Admitted j) (gs : List ℕ)
    (granted : (h : ℕ) → Memᴰ h gs → h < most_heads) where
  pub after_invariant : Invariant j.requests j.nodes origin.labels origin.groups (state_after origin j gs)
      (history_after origin j gs)
  after_invariant =
      let playable = after_playable j admitted gs granted in
      started_invariant playable j.waits (initial_startable playable.few initial)

  pub after_now : (state_after origin j gs).now ≡ length gs
  after_now = omega (arith, after_invariant.clock, length_history j.requests j.waits (start_of origin j) [] gs)

-- ---- what an accepted file says

module _ {file : List ℕ} {counts : Checked} (playing : Playing file counts) where
  pub playing_admitted : Admitted (meaning file).job
  playing_admitted = admitted_meaning file playing.bytes playing.accepted

  pub playing_inside : (q : ℕ) → q < length (requests_in file) → Inside (meaning file).job.nodes (request_at (requests_in file) q)
  playing_inside q l =
      let s = playing_admitted.each_request q no_request l in
      record { x = s.x; y = s.y }

  pub reached : {origin : Start} {b : Buffers} {number : ℕ} {gs lent : List ℕ} → Standing origin (meaning file).job b number gs lent
      → Reached origin (requests_in file) (waits_in file) (meaning file).job.nodes b number
      (state_after origin (meaning file).job gs) (history_after origin (meaning file).job gs) lent
  reached {origin} {gs = gs} standing =
      record {
        invariant = after_invariant (meaning file).job standing.initial playing_admitted gs standing.granted;
        heads = run_heads (requests_in file) (waits_in file) (start_of origin (meaning file).job) gs
            ∙ length_heads (requests_in file) 0 most_heads;
        shows = standing.shows;
        unwaiting = run_unwaiting (requests_in file) (waits_in file) (start_of origin (meaning file).job) gs
            (start_unwaiting (requests_in file) most_heads origin.table);
        next = omega (arith, standing.next, after_now (meaning file).job standing.initial playing_admitted gs standing.granted);
        room = standing.room;
      }
