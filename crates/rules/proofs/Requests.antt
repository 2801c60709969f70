-- The search for a head's next request: it finds the first of its own, and passes over no other.
--
--   seek_from, seek_bound   the request found is not before the place searched from, nor beyond the number of requests
--   seek_own                it is the head's own
--   seek_least              no request of that head is passed over
--   seek_absent             a head that has none is told the number of requests
use mathlib.Core.Path.{◌≡◌, sym, ap, ◌∙◌}
use mathlib.Core.Logic.{◌≢◌}
use mathlib.Core.List.{List, [], ◌∷◌}
use Prim.Native.Nat.{ℕ, zero, suc, ◌+◌, ◌-◌, ◌≤◌, ◌<◌}
use native.Mathlib.Omega.{arith}
use native.Mathlib.Decide.{dec_lt}
use lib.Dec.{eqb}
use lib.ListN.{length, get_or, drop, length-drop}
use lib.Seq.{get_or-drop}
use borrow.Author.Tests.{eqb-true, eq-eqb}
use Rattle.basics.proofs.Conditions.{split}
use Rattle.job.specs.declared.Request.{Request}
use Rattle.rules.specs.State.{no_request, request_at, seek_in, seek}

module _ (h : ℕ) where
  seek_in_from : (q : ℕ) (rs : List Request) → q ≤ seek_in h q rs
  seek_in_from q [] = omega arith
  seek_in_from q (r ∷ rs) = split (eqb r.head h) (λ t. rw t (omega arith)) (λ t. rw t (omega (arith, seek_in_from (suc q) rs)))

  seek_in_bound : (q : ℕ) (rs : List Request) → seek_in h q rs ≤ q + length rs
  seek_in_bound q [] = omega arith
  seek_in_bound q (r ∷ rs) = split (eqb r.head h) (λ t. rw t (omega arith)) (λ t. rw t (omega (arith, seek_in_bound (suc q) rs)))

  seek_in_own : (q i : ℕ) (rs : List Request) → seek_in h q rs ≡ q + i → i < length rs → (get_or rs i no_request).head ≡ h
  seek_in_own q i [] found inside = absurd (omega arith)
  seek_in_own q zero (r ∷ rs) found inside =
      split (eqb r.head h) (λ t. eqb-true r.head h t)
      (λ t. let later : seek_in h (suc q) rs ≡ q + zero = rw t at found in absurd (omega (arith, seek_in_from (suc q) rs)))
  seek_in_own q (suc i) (r ∷ rs) found inside =
      split (eqb r.head h)
      (λ t. let here : q ≡ q + suc i = rw t at found in absurd (omega arith))
      (λ t. let later : seek_in h (suc q) rs ≡ q + suc i = rw t at found in seek_in_own (suc q) i rs (omega arith) (omega arith))

  seek_in_least : (q i : ℕ) (rs : List Request) → i < length rs → (get_or rs i no_request).head ≡ h → seek_in h q rs ≤ q + i
  seek_in_least q i [] inside own = absurd (omega arith)
  seek_in_least q zero (r ∷ rs) inside own = rw (eq-eqb r.head h own) (omega arith)
  seek_in_least q (suc i) (r ∷ rs) inside own =
      split (eqb r.head h) (λ t. rw t (omega arith)) (λ t. rw t (omega (arith, seek_in_least (suc q) i rs (omega arith) own)))

module _ (qs : List Request) (h q : ℕ) where
  pub seek_from : q ≤ seek qs h q
  unfolding seek
  seek_from = seek_in_from h q (drop q qs)

  pub seek_bound : q ≤ length qs → seek qs h q ≤ length qs
  unfolding seek
  seek_bound inside = omega (arith, seek_in_bound h q (drop q qs), length-drop q qs)

  pub seek_own : seek qs h q < length qs → (request_at qs (seek qs h q)).head ≡ h
  unfolding seek
  seek_own inside =
      let i = seek_in h q (drop q qs) - q in
      let found : seek_in h q (drop q qs) ≡ q + i = omega (arith, seek_in_from h q (drop q qs)) in
      let there : (get_or (drop q qs) i no_request).head ≡ h =
      seek_in_own h q i (drop q qs) found (omega (arith, length-drop q qs, seek_in_from h q (drop q qs))) in
      ap (λ k. (request_at qs k).head) found ∙ ap (λ r. r.head) (sym (get_or-drop q qs i no_request)) ∙ there

  pub seek_least : (k : ℕ) → q ≤ k → k < length qs → (request_at qs k).head ≡ h → seek qs h q ≤ k
  unfolding seek
  seek_least k from inside own =
      let i = k - q in
      let found : k ≡ q + i = omega arith in
      let there : (get_or (drop q qs) i no_request).head ≡ h =
      ap (λ r. r.head) (get_or-drop q qs i no_request) ∙ ap (λ j. (request_at qs j).head) (sym found) ∙ own in
      omega (arith, seek_in_least h q i (drop q qs) (omega (arith, length-drop q qs)) there)

  pub seek_absent : q ≤ length qs → ((k : ℕ) → k < length qs → (request_at qs k).head ≢ h) → seek qs h q ≡ length qs
  seek_absent inside absent = go (dec_lt (seek qs h q) (length qs))
    where
      go : Dec (seek qs h q < length qs) → seek qs h q ≡ length qs
      go (yes l) = absurd (absent (seek qs h q) l (seek_own l))
      go (no l) = omega (arith, seek_bound inside)
