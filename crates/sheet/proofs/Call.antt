-- What the call leaves, from what its parts leave.
--
-- Main laws: written_short and written_whole, a text into a buffer; sheet_refused, sheet_headless and sheet_written, the outcomes.
use mathlib.Core.Path.{◌≡◌, ◌∙◌}
use mathlib.Core.List.{List}
use Prim.Native.Nat.{ℕ, ◌≤◌, ◌<◌}
use native.Mathlib.Omega.{arith}
use lib.Dec.{ltb}
use lib.ListN.{length}
use borrow.Author.Tests.{lt-ltb, le-ltb, le-leb, lt-leb, eq-eqb, ne_eqb}
use Rattle.basics.proofs.Conditions.{split}
use Rattle.text.specs.Writing.{Wrote}
use Rattle.text.proofs.Writing.{wrote_whole}
use Rattle.jobfile.specs.Meaning.{meaning}
use Rattle.sheet.specs.Call.{text_of, sheet_refusal, Sheet, refusal, written_of, sheet_of}

-- ---- a text into a buffer

module _ (text before : List ℕ) {bytes : ℕ} (size : bytes ≡ length text) where
  pub written_short : length before < bytes → refusal 14 before ≡ written_of text before
  unfolding written_of
  written_short l = rw (lt-ltb (length before) (length text) (omega (arith, size)))

  pub written_whole : bytes ≤ length before → {after : List ℕ} {next : ℕ} → Wrote text 0 before after next
      → ◌≡◌ {A = Sheet} (record { answer = record { number = 0; bytes = bytes }; out = after }) (written_of text before)
  unfolding written_of
  written_whole l w =
      let room : length text ≤ length before = omega (arith, size) in
      rw (le-ltb (length before) (length text) room)
      (λ i. record { answer = record { number = 0; bytes = size i }; out = wrote_whole w room i })

pub written_accepted : (text out : List ℕ) → length text ≤ length out → (written_of text out).answer.number ≡ 0
unfolding written_of
written_accepted text out room = rw (le-ltb (length out) (length text) room)

-- ---- the outcomes

module _ (file : List ℕ) (head : ℕ) (out : List ℕ) where
  pub sheet_refused : {number : ℕ} → number ≡ (meaning file).number → (number ≡ 0 → ⊥) → refusal number out ≡ sheet_of file head out
  unfolding sheet_refusal sheet_of
  sheet_refused is some = rw is (simp (ne_eqb (meaning file).number 0 (λ none. some (is ∙ none))))

  module _ (accepted : (meaning file).number ≡ 0) where
    pub sheet_headless : (meaning file).job.heads ≤ head → refusal 10 out ≡ sheet_of file head out
    unfolding sheet_refusal sheet_of
    sheet_headless beyond = simp (eq-eqb (meaning file).number 0 accepted, le-leb (meaning file).job.heads head beyond)

    pub sheet_written : head < (meaning file).job.heads → written_of (text_of file head) out ≡ sheet_of file head out
    unfolding sheet_refusal sheet_of written_of
    sheet_written below =
        split (ltb (length out) (length (text_of file head)))
        (λ short. simp (eq-eqb (meaning file).number 0 accepted, lt-leb (meaning file).job.heads head below, short))
        (λ roomy. simp (eq-eqb (meaning file).number 0 accepted, lt-leb (meaning file).job.heads head below, roomy))
