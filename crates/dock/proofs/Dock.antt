-- Every play can be printed: its buffers hold what its text shows, and the text fits into `longest` bytes.
--
--   PrintableLeft left   `Printable`, of what a play left
use mathlib.Core.Path.{◌≡◌, refl, sym, ap, ◌∙◌, subst}
use mathlib.Core.Bool.{false}
use mathlib.Core.List.{List, map}
use Prim.Native.Nat.{ℕ, ◌*◌, ◌≤◌}
use native.Mathlib.Omega.{arith}
use lib.Dec.{eqb}
use lib.ListN.{length, drop, replicate, length-append, length-map}
use borrow.Author.Tests.{eqb-true, le-ltb}
use Rattle.std.proofs.Common.{Result, Ok, Err}
use Rattle.std.specs.Result.{result_unwrap_or}
use Rattle.basics.proofs.Conditions.{split}
use Rattle.job.specs.Job.{most_nodes, most_requests}
use Rattle.job.specs.declared.Played.{Played}
use Rattle.job.specs.declared.refusal.Refusal.{Refusal}
use Rattle.word.specs.Word.{encode}
use Rattle.linearization.specs.Entry.{flat}
use Rattle.linearization.proofs.Numbers.{length_flat}
use Rattle.jobfile.specs.Meaning.{meaning}
use Rattle.jobfile.specs.Admitted.{Admitted, Bytes}
use Rattle.jobfile.proofs.Refusals.{through}
use Rattle.jobfile.proofs.RoundTrip.{admitted_meaning}
use Rattle.stepper.specs.Buffers.{flat_rows}
use Rattle.stepper.proofs.Lists.{length_rows}
use Rattle.stepper.proofs.Needs.{invariant_few}
use Rattle.turns.specs.Turns.{run_of}
use Rattle.player.specs.Player.{Left, cut_of, origin_in, lent_refusal, play_refusal, played_of}
use Rattle.player.proofs.Demand.{run_ended, origin_initial}
use Rattle.listing.specs.Listing.{listing, sources_short, listed, listed_told, printed}
use Rattle.listing.proofs.Listing.{Fitting, listing_short}
use Rattle.dock.specs.Dock.{text_of, output, longest, Put, Printable}

-- ---- what a play leaves

abbrev pub PrintableLeft : Left → Type 0
PrintableLeft left = Printable left.result left.table left.report left.linearization

-- The table has the job's nodes, the report its requests, and a request is entered at most once.
accepted_printable : (file : List ℕ) → Admitted (meaning file).job → (table report linearization : List ℕ)
    → PrintableLeft (cut_of (origin_in file) (meaning file).job table report linearization)
accepted_printable file admitted table report linearization =
    let j = (meaning file).job in
    let end = run_of (origin_in file) j in
    let ended = run_ended j (origin_initial file) admitted in
    record {
      enough = record {
        words = omega (
          arith,
          length-append (map encode end.table) (drop j.nodes table),
          length-map end.table encode,
          ended.nodes,
        );
        requests = omega (
          arith,
          length-append (flat_rows end.report) (drop (4 * length j.requests) report),
          length_rows end.report,
          ended.reports,
        );
        entries = omega (
          arith,
          length-append (flat end.entries) (drop (2 * length end.entries) linearization),
          length_flat end.entries,
        );
      };
      lines = omega (arith, admitted.few_nodes, admitted.few_requests, invariant_few ended);
    }

-- The file's own refusal comes first.
accepted_file : (file : List ℕ) (table report linearization : ℕ) → play_refusal file table report linearization ≡ 0
    → (meaning file).number ≡ 0
unfolding play_refusal
accepted_file file table report linearization e =
    (through (meaning file).number (lent_refusal (meaning file).job table report linearization) e).first

-- A refused play has zero for every count.
pub printable : (file table report linearization : List ℕ) → Bytes file → PrintableLeft (played_of file table report linearization)
unfolding played_of
printable file table report linearization bytes =
    let refusal : ℕ = play_refusal file (length table) (length report) (length linearization) in
    split (eqb refusal 0)
    (λ accepted.
    let own = accepted_file file _ _ _ (eqb-true refusal 0 accepted) in
    rw accepted (accepted_printable file (admitted_meaning file bytes own) table report linearization))
    (λ refused. rw refused (record {
      enough = record { words = omega arith; requests = omega arith; entries = omega arith };
      lines = omega arith;
    }))

-- ---- its text

told_bytes : (answer : Result ℕ Refusal) → result_unwrap_or answer 0 ≡ (listed_told answer).bytes
told_bytes (Ok bytes) = refl
told_bytes (Err refusal) = refl

module _ (played : Played) (table report linearization out : List ℕ) (printable : Printable played table report linearization)
    (room : longest ≤ length out) (fitting : Fitting played table report linearization) where
  abbrev text : List ℕ
  text = listing played table report linearization

  text_fits : length text ≤ length out
  text_fits = omega (arith, listing_short played table report linearization fitting, printable.lines, room)

  long_enough : sources_short played table report linearization ≡ false
  long_enough =
      let enough = printable.enough in
      simp (le-ltb _ _ enough.words, le-ltb _ _ enough.requests, le-ltb _ _ enough.entries)

  -- so that the listing answers with the text's length
  pub put_whole : (answer : Result ℕ Refusal) (bytes : ℕ) (after : List ℕ)
      → bytes ≡ result_unwrap_or answer 0
      → listed_told answer ≡ listed played table report linearization out
      → after ≡ printed played table report linearization out
      → Put text out after bytes
  unfolding listed printed
  put_whole answer bytes after is told left =
      record {
        counted = is ∙ told_bytes answer ∙ ap (λ a. a.bytes) told ∙ rw (long_enough, le-ltb _ _ text_fits);
        stored = left ∙ rw (long_enough, le-ltb _ _ text_fits);
      }

-- what is told of a play can be printed as what it left
pub told_printable : (left : Left) (told : Played) → told ≡ left.result → PrintableLeft left
    → Printable told left.table left.report left.linearization
told_printable left told is held = subst (λ p. Printable p left.table left.report left.linearization) (sym is) held

-- the text of the play is what the program prints
pub put_output : (file : List ℕ) (left : Left)
    → left ≡ played_of file (replicate most_nodes 0) (replicate (4 * most_requests) 0) (replicate (2 * most_requests) 0)
    → (told : Played) → told ≡ left.result
    → {before after : List ℕ} {bytes : ℕ} → Put (listing told left.table left.report left.linearization) before after bytes
    → Put (output file) before after bytes
unfolding output
put_output file left is told same {before} {after} {bytes} put =
    subst (λ text. Put text before after bytes)
    (ap (λ p. listing p left.table left.report left.linearization) same ∙ ap text_of is) put
