-- No more entries than requests: each request is listed at most once.
--
--   total es k   how often the requests below k are listed
use mathlib.Core.Path.{◌≡◌, refl, ap, ◌∙◌}
use mathlib.Core.List.{List, [], ◌∷◌, Memᴰ}
use Prim.Native.Nat.{ℕ, zero, suc, ◌+◌, ◌≤◌, ◌<◌}
use native.Mathlib.Omega.{arith}
use native.Mathlib.Decide.{ℕ_discrete}
use lib.ListN.{length}
use borrow.Author.Tests.{eq-eqb, ne_eqb}
use Rattle.linearization.specs.Entry.{Entry, occurrences}

abbrev total : List Entry → ℕ → ℕ
total es zero = 0
total es (suc k) = occurrences k es + total es k

total_none : (k : ℕ) → total [] k ≡ 0
total_none zero = refl
total_none (suc k) = omega (arith, total_none k)

module _ (e : Entry) (es : List Entry) where
  total_miss : (k : ℕ) → k ≤ e.request → total (e ∷ es) k ≡ total es k
  total_miss zero h = refl
  total_miss (suc k) h =
      let here : occurrences k (e ∷ es) ≡ occurrences k es = rw (ne_eqb e.request k (λ z. omega arith)) in
      omega (arith, here, total_miss k (omega arith))

  total_hit : (k : ℕ) → e.request < k → total (e ∷ es) k ≡ suc (total es k)
  total_hit zero h = absurd (omega arith)
  total_hit (suc k) h = go (ℕ_discrete e.request k) (λ l. total_hit k l)
    where
      go : Dec (e.request ≡ k) → (e.request < k → total (e ∷ es) k ≡ suc (total es k)) → total (e ∷ es) (suc k) ≡ suc (total es (suc k))
      go (yes z) rest =
          let here : occurrences k (e ∷ es) ≡ suc (occurrences k es) = rw (eq-eqb e.request k z) in
          omega (arith, here, total_miss k (omega arith))
      go (no z) rest =
          let here : occurrences k (e ∷ es) ≡ occurrences k es = rw (ne_eqb e.request k z) in
          omega (arith, here, rest (omega arith))

total_all : (es : List Entry) (k : ℕ) → ((e : Entry) → Memᴰ e es → e.request < k) → total es k ≡ length es
total_all [] k h = total_none k
total_all (e ∷ es) k h = total_hit e es k (h e (Memᴰ.head refl)) ∙ ap suc (total_all es k (λ f m. h f (Memᴰ.tail m)))

total_few : (es : List Entry) (k : ℕ) → ((q : ℕ) → q < k → occurrences q es ≤ 1) → total es k ≤ k
total_few es zero h = omega arith
total_few es (suc k) h = omega (arith, h k (omega arith), total_few es k (λ q l. h q (omega arith)))

pub entries_few : (es : List Entry) (k : ℕ) → ((e : Entry) → Memᴰ e es → e.request < k)
    → ((q : ℕ) → q < k → occurrences q es ≤ 1) → length es ≤ k
entries_few es k known once = omega (arith, total_all es k known, total_few es k once)
