-- Everything is checked before anything is written: which refusal, and what the checks know of a file and lent buffers.
--
--   refusal     the refusal of a play, 0 for none
--   unchanged   the buffers as lent, with an answer
--
-- Main laws: room_of and not_refused, what is admitted has room; refused_left and accepted_left, what a play leaves in the two
-- cases.
use mathlib.Core.Path.{◌≡◌, refl, sym, ap, ◌∙◌}
use mathlib.Core.List.{List}
use Prim.Native.Nat.{ℕ, ◌*◌, ◌≤◌}
use native.Mathlib.Omega.{arith}
use lib.ListN.{length}
use borrow.Author.Tests.{eq-eqb, ne_eqb, le-ltb}
use Rattle.job.specs.declared.Played.{Played}
use Rattle.job.specs.declared.refusal.Refusal.{Refusal}
use Rattle.job.specs.Played.{refused_with}
use Rattle.job.specs.Refusal.{number_of}
use Rattle.job.proofs.Refusals.{refuses}
use Rattle.jobfile.specs.Meaning.{meaning}
use Rattle.reader.specs.declared.Checked.{Checked}
use Rattle.reader.specs.Reader.{Playing}
use Rattle.player.specs.Player.{lent_refusal, play_refusal, Left, cut_of, origin_in, played_of, Roomy}

-- ---- which refusal

module _ (file : List ℕ) (table report linearization : ℕ) where
  abbrev pub refusal : ℕ
  refusal = play_refusal file table report linearization

  pub refusal_lent : (meaning file).number ≡ 0 → refusal ≡ lent_refusal (meaning file).job table report linearization
  unfolding play_refusal
  refusal_lent e = rw (eq-eqb (meaning file).number 0 e)

-- ---- what the checks know

module _ {file : List ℕ} {counts : Checked} {table report linearization : ℕ} where
  pub room_of : Playing file counts → counts.nodes ≤ table → 4 * counts.requests ≤ report → 2 * counts.requests ≤ linearization
      → Roomy file counts table report linearization
  room_of playing nodes rows room =
      let nodes_are = ap (λ k. k.nodes) playing.checked in
      let requests_are = ap (λ k. k.requests) playing.checked in
      record { playing = playing; nodes = omega arith; rows = omega arith; room = omega arith }

  pub not_refused : Roomy file counts table report linearization → refusal file table report linearization ≡ 0
  unfolding play_refusal lent_refusal
  not_refused roomy =
      rw (
        eq-eqb (meaning file).number 0 roomy.playing.accepted,
        le-ltb table (meaning file).job.nodes roomy.nodes,
        le-ltb report (4 * length (meaning file).job.requests) roomy.rows,
        le-ltb linearization (2 * length (meaning file).job.requests) roomy.room,
      )

-- ---- what a play leaves

module _ (file table report linearization : List ℕ) where
  abbrev unchanged : Played → Left
  unchanged p = record { table = table; report = report; linearization = linearization; result = p }

  abbrev number : ℕ
  number = refusal file (length table) (length report) (length linearization)

  pub refused_left : (e : Refusal) → number_of e ≡ number
      → unchanged (refused_with (number_of e)) ≡ played_of file table report linearization
  unfolding played_of
  refused_left e is =
      ap (λ n. unchanged (refused_with n)) is ∙ sym (rw (ne_eqb number 0 (λ z. refuses e (is ∙ z))) refl)

  pub accepted_left : number ≡ 0
      → cut_of (origin_in file) (meaning file).job table report linearization ≡ played_of file table report linearization
  unfolding played_of
  accepted_left e = sym (rw (eq-eqb number 0 e) refl)
