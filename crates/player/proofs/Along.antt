-- The invariant of the loop over the grants, on lent buffers; and what the play ends with, refused or not.
--
--   Entry       the file and the buffers as they were lent
--   PlayEnded   what holds when the play returns
--   Lending     accepted: the parts that the job needs stand as the rules' run so far, the rest is as lent, and as long
--   Along       where the loop is, with that
--
-- Main laws: refused_end, the end of a refused play; lending_start; along_next and along_end; along_still, of an idle grant.
use mathlib.Core.Path.{◌≡◌, refl, sym, ap, ◌∙◌, subst}
use mathlib.Core.Bool.{true}
use mathlib.Core.List.{List, [], ◌++◌, map}
use Prim.Native.Nat.{ℕ, ◌*◌, ◌≤◌, ◌<◌}
use native.Mathlib.Omega.{arith}
use lib.ListN.{length, take, drop, replicate, take-append-drop, length-map, length-replicate}
use lib.Seq.{take_at, drop_at}
use lib.Count.{ones}
use Rattle.job.specs.declared.Tally.{Tally}
use Rattle.job.specs.declared.Played.{Played}
use Rattle.job.specs.declared.refusal.Refusal.{Refusal}
use Rattle.job.specs.Played.{refused_with}
use Rattle.job.specs.Refusal.{number_of}
use Rattle.job.proofs.Refusals.{refuses}
use Rattle.word.specs.Word.{encode}
use Rattle.jobfile.specs.Meaning.{meaning}
use Rattle.reader.specs.declared.Checked.{Checked}
use Rattle.rules.specs.State.{tally_of}
use Rattle.rules.proofs.Theorem.{initial_startable}
use Rattle.start.proofs.Start.{start_standing}
use Rattle.stepper.specs.Shown.{requests_in, Standing}
use Rattle.stepper.proofs.Reached.{playing_admitted}
use Rattle.turns.specs.declared.Progress.{Progress}
use Rattle.turns.specs.Turns.{Addable, counted_of, state_at, buffers_of, first_tally, run_of}
use Rattle.turns.proofs.Runs.{grants_few}
use Rattle.turns.proofs.Counters.{small_addable}
use Rattle.turns.proofs.Going.{Going, going_start, going_still, going_next, going_end}
use Rattle.player.specs.Player.{left, left_at, cut_of, origin_in, played_of, Roomy}
use Rattle.player.specs.Parts.{Laid, progress_of, laid_of, TurnedOn, TurnsOn, closed_of}
use Rattle.player.specs.Demand.{LinearizedHere, LawfulHere, WaitedHere, BoundedHere}
use Rattle.player.proofs.Refusals.{refusal, not_refused, refused_left, accepted_left}
use Rattle.player.proofs.Laid.{nodes_are, rows_are}
use Rattle.player.proofs.Demand.{linearized_from, lawful_from, waited_from, bounded_from, origin_initial}

-- ---- the invariant

pub record Entry : Type 0 where
  pub file : List ℕ
  pub table : List ℕ
  pub report : List ℕ
  pub linearization : List ℕ

abbrev pub entry : List ℕ → List ℕ → List ℕ → List ℕ → Entry
entry file table report linearization = record { file = file; table = table; report = report; linearization = linearization }

module _ (E : Entry) where
  open E use {file, table as table₀, report as report₀, linearization as linearization₀}

  abbrev pub number₀ : ℕ
  number₀ = refusal file (length table₀) (length report₀) (length linearization₀)

  pub record PlayEnded (table report linearization : List ℕ) (result : Played) : Type 0 where
    pub exact : left table report linearization result ≡ played_of file table₀ report₀ linearization₀
    pub linearized : result.number ≡ 0 → LinearizedHere file result table report linearization
    pub lawful : result.number ≡ 0 → LawfulHere file result table report
    pub waited : result.number ≡ 0 → WaitedHere file result report linearization
    pub bounded : result.number ≡ 0 → BoundedHere file result report

module _ (E : Entry) (counts : Checked) where
  open E use {file, table as table₀, report as report₀, linearization as linearization₀}

  abbrev n : ℕ
  n = counts.nodes

  abbrev m : ℕ
  m = 4 * counts.requests

  pub record Lending (p : Progress) (tally : Tally) (table report linearization : List ℕ) : Type 0 where
    pub accepted : number₀ E ≡ 0
    pub table_long : length table ≡ length table₀
    pub report_long : length report ≡ length report₀
    pub linearization_long : length linearization ≡ length linearization₀
    pub nodes : n ≤ length table
    pub rows : m ≤ length report
    pub table_rest : drop n table ≡ drop n table₀
    pub report_rest : drop m report ≡ drop m report₀
    pub going : Going (origin_in file) file counts linearization₀ p tally (take n table) (take m report) linearization

  pub record Along : Type 0 where
    pub progress : Progress
    pub tally : Tally
    pub table : List ℕ
    pub report : List ℕ
    pub linearization : List ℕ
    pub lending : Lending progress tally table report linearization

  abbrev pub along : {p : Progress} {tally : Tally} {table report linearization : List ℕ}
      → Lending p tally table report linearization → Along
  along {p} {tally} {table} {report} {linearization} l =
      record { progress = p; tally = tally; table = table; report = report; linearization = linearization; lending = l }

  -- ---- one turn

  module _ (a : Along) (more : a.progress.number < counts.grants) where
    more_left : a.progress.number < length (meaning file).job.schedule
    more_left = omega (arith, more, ap (λ k. k.grants) a.lending.going.playing.checked)

    pub along_addable : Addable a.tally
    along_addable = small_addable (omega (arith, more_left, grants_few a.lending.going.playing)) a.lending.going.small

    module _ (p' : Progress) (table' report' linearization' : List ℕ) (tally' : Tally) (table_long : length table' ≡ length a.table)
        (report_long : length report' ≡ length a.report) (linearization_long : length linearization' ≡ length a.linearization)
        (turned : TurnsOn file counts a.progress p' (buffers_of a.progress a.table a.report a.linearization)
        (buffers_of p' table' report' linearization'))
        (added : tally' ≡ counted_of a.tally p'.done p'.mask) where
      turned_here : TurnedOn file counts a.progress p' (buffers_of a.progress a.table a.report a.linearization)
          (buffers_of p' table' report' linearization') (origin_in file) linearization₀
      turned_here = turned (origin_in file) linearization₀ a.lending.going.standing

      pub along_still : p'.done.idle ≡ true → a.tally.working ≡ ones p'.mask
      along_still = going_still a.lending.going more_left p' tally' (take n table') (take m report') linearization'
          turned_here.turned added

      pub lending_next : Lending p' tally' table' report' linearization'
      lending_next =
          record {
            accepted = a.lending.accepted;
            table_long = table_long ∙ a.lending.table_long;
            report_long = report_long ∙ a.lending.report_long;
            linearization_long = linearization_long ∙ a.lending.linearization_long;
            nodes = omega (arith, table_long, a.lending.nodes);
            rows = omega (arith, report_long, a.lending.rows);
            table_rest = turned_here.table_rest ∙ a.lending.table_rest;
            report_rest = turned_here.report_rest ∙ a.lending.report_rest;
            going = going_next a.lending.going more_left p' tally' (take n table') (take m report') linearization'
                turned_here.turned added;
          }

      abbrev pub along_next : Along
      along_next =
          record {
            progress = p';
            tally = tally';
            table = table';
            report = report';
            linearization = linearization';
            lending = lending_next;
          }

  -- ---- the end

  module _ (a : Along) (over : counts.grants ≤ a.progress.number) where
    abbrev answer : Played
    answer = closed_of counts a.progress a.tally

    table_cut : a.table ≡ take n a.table ++ drop n table₀
    table_cut = sym (take-append-drop n a.table) ∙ ap (λ d. take n a.table ++ d) a.lending.table_rest

    report_cut : a.report ≡ take m a.report ++ drop m report₀
    report_cut = sym (take-append-drop m a.report) ∙ ap (λ d. take m a.report ++ d) a.lending.report_rest

    last : state_at (origin_in file) file a.progress.number ≡ run_of (origin_in file) (meaning file).job
    last = going_end a.lending.going (omega (arith, over, ap (λ k. k.grants) a.lending.going.playing.checked))

    ended_cut : left a.table a.report a.linearization answer
        ≡ cut_of (origin_in file) (meaning file).job table₀ report₀ linearization₀
    ended_cut =
        let counts_are = a.lending.going.playing.checked in
        let shows = a.lending.going.standing.shows in
        (λ i. left (table_cut i) (report_cut i) a.linearization answer)
        ∙ (λ i. left ((shows i).table ++ drop (nodes_are a.lending.going.playing i) table₀)
        ((shows i).report ++ drop (rows_are a.lending.going.playing i) report₀) (shows i).linearization
        (record {
          number = 0;
          nodes = (counts_are i).nodes;
          heads = (counts_are i).heads;
          requests = (counts_are i).requests;
          grants = (counts_are i).grants;
          entries = (shows i).entries;
          tally = a.lending.going.tallied i;
        }))
        ∙ ap (λ T. left_at (meaning file).job T table₀ report₀ linearization₀) last

    pub along_tally : a.tally ≡ tally_of (requests_in file) (run_of (origin_in file) (meaning file).job)
    along_tally = ap (λ x. x.result.tally) ended_cut

    accepted_end : PlayEnded E a.table a.report a.linearization answer
    accepted_end =
        let admitted = playing_admitted a.lending.going.playing in
        record {
          exact = ended_cut ∙ accepted_left file table₀ report₀ linearization₀ a.lending.accepted;
          linearized = λ z. linearized_from file (origin_initial file) admitted table₀ report₀ linearization₀ _ ended_cut;
          lawful = λ z. lawful_from file (origin_initial file) admitted table₀ report₀ linearization₀ _ ended_cut;
          waited = λ z. waited_from file (origin_initial file) admitted table₀ report₀ linearization₀ _ ended_cut;
          bounded = λ z. bounded_from file (origin_initial file) admitted table₀ report₀ linearization₀ _ ended_cut;
        }

    pub along_end : (result : Played) → result ≡ answer → PlayEnded E a.table a.report a.linearization result
    along_end result is = subst (PlayEnded E a.table a.report a.linearization) (sym is) accepted_end

-- ---- refused

pub refused_end : (E : Entry) (e : Refusal) → number_of e ≡ number₀ E
    → PlayEnded E E.table E.report E.linearization (refused_with (number_of e))
refused_end E e told =
    record {
      exact = refused_left E.file E.table E.report E.linearization e told;
      linearized = λ z. absurd (refuses e z);
      lawful = λ z. absurd (refuses e z);
      waited = λ z. absurd (refuses e z);
      bounded = λ z. absurd (refuses e z);
    }

-- ---- accepted: what `lay_out` left

module _ (E : Entry) (counts : Checked) (roomy : Roomy E.file counts (length E.table) (length E.report) (length E.linearization))
    (table report : List ℕ) (progress : Progress)
    (is : ◌≡◌ {A = Laid} (record { table = table; report = report; progress = progress }) (laid_of E.file E.table E.report)) where
  open E use {file, table as table₀, report as report₀, linearization as linearization₀}

  abbrev size : ℕ
  size = counts.nodes

  abbrev rows : ℕ
  rows = 4 * counts.requests

  abbrev words : List ℕ
  words = map encode (origin_in file).table

  abbrev zeros : List ℕ
  zeros = replicate (4 * length (requests_in file)) 0

  table_is : table ≡ words ++ drop size table₀
  table_is = ap (λ x. x.table) is ∙ ap (λ k. words ++ drop k table₀) (sym (nodes_are roomy.playing))

  report_is : report ≡ zeros ++ drop rows report₀
  report_is = ap (λ x. x.report) is ∙ ap (λ k. zeros ++ drop k report₀) (sym (rows_are roomy.playing))

  words_long : length words ≡ size
  words_long =
      length-map (origin_in file).table encode
      ∙ (initial_startable (omega (arith, (playing_admitted roomy.playing).few_nodes)) (origin_initial file)).nodes
      ∙ sym (nodes_are roomy.playing)

  zeros_long : length zeros ≡ rows
  zeros_long = length-replicate (4 * length (requests_in file)) 0 ∙ sym (rows_are roomy.playing)

  -- the parts that the job needs are the start of the rules
  starts : buffers_of progress (take size table) (take rows report) linearization₀
      ≡ buffers_of (progress_of file) words zeros linearization₀
  starts =
      (λ i. buffers_of (is i).progress
      ((ap (take size) table_is ∙ take_at words (drop size table₀) size words_long) i)
      ((ap (take rows) report_is ∙ take_at zeros (drop rows report₀) rows zeros_long) i)
      linearization₀)

  pub lending_start : length table ≡ length table₀ → length report ≡ length report₀
      → (tally : Tally) → tally ≡ first_tally progress.mask
      → Lending E counts progress tally table report linearization₀
  lending_start table_long report_long tally is-tally =
      record {
        accepted = not_refused roomy;
        table_long = table_long;
        report_long = report_long;
        linearization_long = refl;
        nodes = omega (arith, nodes_are roomy.playing, table_long, roomy.nodes);
        rows = omega (arith, rows_are roomy.playing, report_long, roomy.rows);
        table_rest = ap (drop size) table_is ∙ drop_at words (drop size table₀) size words_long;
        report_rest = ap (drop rows) report_is ∙ drop_at zeros (drop rows report₀) rows zeros_long;
        going = going_start roomy.playing progress tally (ap (λ x. x.progress) is) is-tally
            (subst (λ b. Standing (origin_in file) (meaning file).job b 1 [] linearization₀) (sym starts)
            (start_standing (meaning file).job (origin_initial file) linearization₀ roomy.room));
      }
