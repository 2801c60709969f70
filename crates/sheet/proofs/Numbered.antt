-- The numbering of the seen requests, made request by request.
--
--   NumberedTo seen n q count numbers   the first q of n requests are numbered, and `count` of them are seen
use Rattle.std.specs.Prelude.{Option, Some, None}
use mathlib.Core.Path.{◌≡◌, refl, ap, ◌∙◌}
use mathlib.Core.Bool.{Bool, true, false}
use mathlib.Core.List.{List}
use Prim.Native.Nat.{ℕ, zero, suc, ◌+◌, ◌^◌, ◌≤◌, ◌<◌}
use native.Mathlib.Numerals.{add-one}
use native.Mathlib.Omega.{arith}
use native.Mathlib.Decide.{ℕ_discrete}
use lib.Dec.{ltb}
use lib.ListN.{length, get_or, set, replicate, length-set, length-replicate}
use lib.Seq.{get_or-set_same, get_or-set_other}
use borrow.Author.Tests.{ltb-true, ltb-false}
use Rattle.basics.proofs.Conditions.{split}
use Rattle.basics.proofs.Counts.{count_in, count_out, count_le}
use Rattle.job.specs.Job.{most_requests}
use Rattle.sheet.specs.Sheet.{number_of}
use Rattle.sheet.specs.Buffers.{number_in, Numbered}

pub record NumberedTo (seen : ℕ → Bool) (n q count : ℕ) (numbers : List (Option ℕ)) : Type 0 where
  pub within : q ≤ n
  pub size : length numbers ≡ most_requests
  pub counted : count ≡ number_of seen q
  pub done : (i : ℕ) → i < q → get_or numbers i None ≡ number_in seen i
  pub rest : (i : ℕ) → q ≤ i → get_or numbers i None ≡ None

none_each : (m i : ℕ) → get_or (replicate {A = Option ℕ} m None) i None ≡ None
none_each zero i = refl
none_each (suc m) zero = refl
none_each (suc m) (suc i) = none_each m i

-- A number that there is, 0 for none.
abbrev value : Option ℕ → ℕ
value None = 0
value (Some number) = number

number_small : (seen : ℕ → Bool) (k : ℕ) → k < most_requests → value (number_in seen k) < 2 ^ 16
number_small seen k l = split (seen k) (λ s. rw s (omega (arith, count_le seen k))) (λ s. rw s (omega arith))

module _ {seen : ℕ → Bool} {n : ℕ} where
  pub numbered_none : NumberedTo seen n 0 0 (replicate most_requests None)
  numbered_none =
      record {
        within = omega arith;
        size = length-replicate {A = Option ℕ} most_requests None;
        counted = refl;
        done = λ i l. absurd (omega arith);
        rest = λ i l. none_each most_requests i;
      }

  module _ {q count : ℕ} {numbers : List (Option ℕ)} (to : NumberedTo seen n q count numbers) where
    pub numbered_few : count ≤ q
    numbered_few = omega (arith, to.counted, count_le seen q)

    value_small : n ≤ most_requests → (k : ℕ) → value (get_or numbers k None) < 2 ^ 16
    value_small few k =
        split (ltb k q)
        (λ s. rw (to.done k (ltb-true k q s)) (number_small seen k (omega (arith, ltb-true k q s, to.within))))
        (λ s. rw (to.rest k (ltb-false k q s)) (omega arith))

    pub numbered_all : n ≤ q → n ≤ most_requests → Numbered seen n numbers
    numbered_all l few =
        record {
          long = omega (arith, to.size);
          each = λ i h. to.done i (omega arith);
          small = λ k number e. omega (arith, ap value e, value_small few k);
        }

    module _ (more : q < n) (few : n ≤ most_requests) where
      next : number_of seen (q + 1) ≡ number_of seen (suc q)
      next = rw add-one

      -- an unseen request keeps what stands there from the start
      pub numbered_unseen : seen q ≡ false → NumberedTo seen n (q + 1) count numbers
      numbered_unseen e =
          record {
            within = omega arith;
            size = to.size;
            counted = omega (arith, to.counted, next, count_out seen q e);
            done = λ i l. at i l (ℕ_discrete i q);
            rest = λ i l. to.rest i (omega arith);
          }
        where
          at : (i : ℕ) → i < q + 1 → Dec (i ≡ q) → get_or numbers i None ≡ number_in seen i
          at i l (yes d) = rw (d, e) (to.rest q (omega arith))
          at i l (no d) = to.done i (omega (arith, d))

      -- a seen one has as its number how many were seen before it
      pub numbered_seen : seen q ≡ true → NumberedTo seen n (q + 1) (count + 1) (set numbers q (Some count))
      numbered_seen e =
          record {
            within = omega arith;
            size = length-set numbers q (Some count) ∙ to.size;
            counted = omega (arith, to.counted, next, count_in seen q e);
            done = λ i l. at i l (ℕ_discrete i q);
            rest = λ i l. get_or-set_other numbers q i (Some count) None (λ d. omega arith) ∙ to.rest i (omega arith);
          }
        where
          at : (i : ℕ) → i < q + 1 → Dec (i ≡ q) → get_or (set numbers q (Some count)) i None ≡ number_in seen i
          at i l (yes d) = rw (d, e) (get_or-set_same numbers q (Some count) None (omega (arith, to.size)) ∙ ap Some to.counted)
          at i l (no d) = get_or-set_other numbers q i (Some count) None d ∙ to.done i (omega (arith, d))
