-- A list that is taken over, place by place from the front: what a loop that fills an array keeps.
--
--   Taken d before after k l   the list l has what `after` has before place k, and what `before` has from there on
--
-- Main laws: taken_none, taken_on and taken_all, the loop from the first place to the last; taken_end, where from the loop's end on
-- the two have the same.
use mathlib.Core.Path.{◌≡◌, refl, sym, ◌∙◌}
use mathlib.Core.List.{List}
use Prim.Native.Nat.{ℕ, ◌+◌, ◌≤◌, ◌<◌}
use native.Mathlib.Omega.{arith}
use native.Mathlib.Decide.{ℕ_discrete, dec_lt}
use lib.ListN.{length, get_or, set, length-set}
use lib.Seq.{get_or-set_same, get_or-set_other, ext_get_or}

pub record Taken {A : Type 0} (d : A) (before after : List A) (k : ℕ) (l : List A) : Type 0 where
  pub size : length l ≡ length before
  pub taken : (j : ℕ) → j < k → get_or l j d ≡ get_or after j d
  pub kept : (j : ℕ) → k ≤ j → get_or l j d ≡ get_or before j d

module _ {A : Type 0} {d : A} {before after : List A} where
  pub taken_none : Taken d before after 0 before
  taken_none = record { size = refl; taken = λ j h. absurd (omega arith); kept = λ j h. refl }

  -- one place more
  pub taken_on : (k : ℕ) (l : List A) (v : A) → k < length before → v ≡ get_or after k d → Taken d before after k l
      → Taken d before after (k + 1) (set l k v)
  taken_on k l v inside is t =
      record {
        size = length-set l k v ∙ t.size;
        taken = λ j h. at j h (ℕ_discrete j k);
        kept = λ j h. get_or-set_other l k j v d (λ e. absurd (omega arith)) ∙ t.kept j (omega arith);
      }
    where
      at : (j : ℕ) → j < k + 1 → Dec (j ≡ k) → get_or (set l k v) j d ≡ get_or after j d
      at j h (yes e) = rw e (get_or-set_same l k v d (omega (arith, t.size)) ∙ is)
      at j h (no e) = get_or-set_other l k j v d e ∙ t.taken j (omega (arith, e))

  pub taken_end : (k : ℕ) (l : List A) → length before ≡ length after
      → ((j : ℕ) → k ≤ j → j < length before → get_or after j d ≡ get_or before j d) → Taken d before after k l → l ≡ after
  taken_end k l size alike t = ext_get_or d l after (t.size ∙ size) (λ j h. at j (omega (arith, t.size)) (dec_lt j k))
    where
      at : (j : ℕ) → j < length before → Dec (j < k) → get_or l j d ≡ get_or after j d
      at j h (yes i) = t.taken j i
      at j h (no i) = t.kept j (omega arith) ∙ sym (alike j (omega arith) h)

  pub taken_all : (k : ℕ) (l : List A) → length before ≡ length after → length before ≤ k → Taken d before after k l → l ≡ after
  taken_all k l size all = taken_end k l size (λ j from until. absurd (omega arith))
