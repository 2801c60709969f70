-- The cuts of an accepted file are accepted files, and what a play leaves for one is the run's state after its grants.
--
-- Main law: cuts.
use mathlib.Core.Path.{◌≡◌, refl, sym, ap, ◌∙◌, subst₂}
use mathlib.Core.List.{List, [], ◌∷◌, ◌++◌, map}
use Prim.Native.Nat.{ℕ, zero, suc, ◌*◌, ◌≤◌, ◌<◌}
use native.Mathlib.Omega.{arith}
use lib.ListN.{length, get_or, take, drop, take-append-drop}
use lib.Seq.{take_all}
use Rattle.job.specs.Job.{Job, most_heads}
use Rattle.word.specs.Word.{decode}
use Rattle.jobfile.specs.Meaning.{accepted, meaning}
use Rattle.jobfile.specs.Written.{written}
use Rattle.jobfile.specs.Admitted.{Admitted, Bytes}
use Rattle.jobfile.proofs.Forward.{meaning_written}
use Rattle.jobfile.proofs.RoundTrip.{written_meaning, admitted_meaning}
use Rattle.jobfile.proofs.Places.{length_written}
use Rattle.jobfile.proofs.Cuts.{runs_cut, written_bytes}
use Rattle.rules.specs.Laws.{Follows}
use Rattle.rules.specs.Bounds.{Ends}
use Rattle.rules.specs.Start.{fresh_start}
use Rattle.rules.specs.Linearized.{Playable}
use Rattle.rules.proofs.Theorem.{Startable, initial_startable}
use Rattle.rules.proofs.Laws.{run_follows}
use Rattle.rules.proofs.Bounds.{run_ends}
use Rattle.stepper.specs.Buffers.{rows_of}
use Rattle.stepper.specs.Shown.{state_after}
use Rattle.stepper.proofs.Reached.{cut_granted, after_playable}
use Rattle.player.specs.Player.{lent_refusal, origin_in, left_at, played_of}
use Rattle.player.specs.Cuts.{cut, file_cut, nodes_left, rows_left, LongEnough, Cuts}
use Rattle.player.proofs.Refusals.{refusal, refusal_lent, accepted_left}
use Rattle.player.proofs.Demand.{origin_initial, table_back, report_back}

-- ---- the grants of a cut

module _ {A : Type 0} where
  take_less : (k l : ℕ) (xs : List A) → k ≤ l → take k (take l xs) ≡ take k xs
  take_less zero l xs h = refl
  take_less (suc k) zero xs h = absurd (omega arith)
  take_less (suc k) (suc l) [] h = refl
  take_less (suc k) (suc l) (x ∷ xs) h = ap (λ (r : List A). x ∷ r) (take_less k l xs (omega arith))

  take_on : (k l : ℕ) (xs : List A) → k ≤ l → take k xs ++ drop k (take l xs) ≡ take l xs
  take_on k l xs h = ap (λ r. r ++ drop k (take l xs)) (sym (take_less k l xs h)) ∙ take-append-drop k (take l xs)

get_or_take : (k : ℕ) (gs : List ℕ) (g none : ℕ) → g < length (take k gs) → get_or (take k gs) g none ≡ get_or gs g none
get_or_take zero gs g none l = absurd (omega arith)
get_or_take (suc k) [] g none l = absurd (omega arith)
get_or_take (suc k) (h ∷ gs) zero none l = refl
get_or_take (suc k) (h ∷ gs) (suc g) none l = get_or_take k gs g none (omega arith)

length_cut : (k : ℕ) (gs : List ℕ) → length (take k gs) ≤ length gs
length_cut zero gs = omega arith
length_cut (suc k) [] = omega arith
length_cut (suc k) (g ∷ gs) = omega (arith, length_cut k gs)

-- ---- a cut of an admitted job

module _ (j : Job) (admitted : Admitted j) (k : ℕ) where
  cut_short : length (written (cut k j)) ≤ length (written j)
  cut_short = omega (arith, length_written j, length_written (cut k j), runs_cut k j.schedule)

  cut_admitted : Admitted (cut k j)
  cut_admitted =
      record {
        some_nodes = admitted.some_nodes;
        few_nodes = admitted.few_nodes;
        some_heads = admitted.some_heads;
        few_heads = admitted.few_heads;
        few_requests = admitted.few_requests;
        complete = admitted.complete;
        each_right = admitted.each_right;
        each_request = admitted.each_request;
        each_wait = admitted.each_wait;
        rising = admitted.rising;
        each_grant = λ g none l.
            omega (arith, get_or_take k j.schedule g none l, admitted.each_grant g none (omega (arith, l, length_cut k j.schedule)));
        short = omega (arith, cut_short, admitted.short);
      }

  -- the lent buffers are asked for the nodes and the requests alone
  cut_room : (table report linearization : ℕ)
      → lent_refusal (cut k j) table report linearization ≡ lent_refusal j table report linearization
  unfolding lent_refusal
  cut_room table report linearization = refl

-- ---- the cuts of an accepted file

module _ (file : List ℕ) (bytes : Bytes file) (accepts : (meaning file).number ≡ 0) where
  abbrev j : Job
  j = (meaning file).job

  admitted : Admitted j
  admitted = admitted_meaning file bytes accepts

  cut_meaning : (k : ℕ) → meaning (file_cut k file) ≡ accepted (cut k j)
  cut_meaning k = meaning_written (cut k j) (cut_admitted j admitted k)

  whole_cut : (k : ℕ) → length j.schedule ≤ k → cut k j ≡ j
  whole_cut k all =
      ap (λ gs. record {
        nodes = j.nodes;
        heads = j.heads;
        rights = j.rights;
        requests = j.requests;
        waits = j.waits;
        schedule = gs;
      })
      (take_all k j.schedule all)

  module _ (table report linearization : List ℕ) (room : LongEnough j table report linearization) where
    cut_played : (k : ℕ) → played_of (file_cut k file) table report linearization
        ≡ left_at (cut k j) (state_after (origin_in file) j (take k j.schedule)) table report linearization
    cut_played k =
        let is = ap (λ m. m.job) (cut_meaning k) in
        let none : refusal (file_cut k file) (length table) (length report) (length linearization) ≡ 0 =
        refusal_lent (file_cut k file) (length table) (length report) (length linearization) (ap (λ m. m.number) (cut_meaning k))
        ∙ ap (λ i. lent_refusal i (length table) (length report) (length linearization)) is
        ∙ cut_room j admitted k (length table) (length report) (length linearization) ∙ room in
        sym (accepted_left (file_cut k file) table report linearization none)
        ∙ ap (λ i. left_at i (state_after (fresh_start i.nodes) i i.schedule) table report linearization) is

    nodes_after : (k : ℕ) → nodes_left k file table report linearization ≡ (state_after (origin_in file) j (take k j.schedule)).table
    nodes_after k =
        ap (λ x. map decode (take j.nodes x.table)) (cut_played k)
        ∙ table_back (cut k j) (origin_initial file) (cut_admitted j admitted k) (drop j.nodes table)

    rows_left_after : (k : ℕ) → rows_left k file table report linearization ≡ (state_after (origin_in file) j (take k j.schedule)).report
    rows_left_after k =
        ap (λ x. rows_of (take (4 * length j.requests) x.report)) (cut_played k)
        ∙ report_back (cut k j) (origin_initial file) (cut_admitted j admitted k) (drop (4 * length j.requests) report)

    -- the grants of the one cut, then those up to the other
    module _ (k l : ℕ) (h : k ≤ l) where
      abbrev first : List ℕ
      first = take k j.schedule

      abbrev then : List ℕ
      then = drop k (take l j.schedule)

      all : first ++ then ≡ take l j.schedule
      all = take_on k l j.schedule h

      playable : Playable j.nodes most_heads j.requests (first ++ then)
      playable = after_playable j admitted (first ++ then) (λ g m. cut_granted j admitted l g (rw all at m))

      startable : Startable j.nodes (origin_in file)
      startable = initial_startable playable.few (origin_initial file)

      cut_follows : Follows j.nodes (nodes_left k file table report linearization) (nodes_left l file table report linearization)
      cut_follows =
          subst₂ (Follows j.nodes) (sym (nodes_after k))
          (sym (nodes_after l ∙ ap (λ gs. (state_after (origin_in file) j gs).table) (sym all)))
          (run_follows j.requests j.waits most_heads startable first then playable)

      cut_ends : Ends j.nodes j.requests (rows_left k file table report linearization)
          (rows_left l file table report linearization) then
      cut_ends =
          subst₂ (λ r r'. Ends j.nodes j.requests r r' then) (sym (rows_left_after k))
          (sym (rows_left_after l ∙ ap (λ gs. (state_after (origin_in file) j gs).report) (sym all)))
          (run_ends j.requests j.waits most_heads startable first then playable)

  pub cuts : Cuts file
  cuts =
      record {
        admitted = cut_admitted j admitted;
        bytes = λ k. written_bytes (cut k j) (cut_admitted j admitted k);
        short = λ k. omega (arith, cut_short j admitted k, ap length (written_meaning file bytes accepts));
        accepted = λ k. ap (λ m. m.number) (cut_meaning k);
        meant = λ k. ap (λ m. m.job) (cut_meaning k);
        whole = λ k all. ap written (whole_cut k all) ∙ written_meaning file bytes accepts;
        played = λ k table report linearization room. cut_played table report linearization room k;
        follows = λ k l h table report linearization room. cut_follows table report linearization room k l h;
        ends = λ k l h table report linearization room. cut_ends table report linearization room k l h;
      }
