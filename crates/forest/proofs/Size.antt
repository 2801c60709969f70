-- Sizes of sets, counted by label.
--
-- Laws: size_le, no set is larger than all nodes; size_positive, a node's own set is not empty; size_grows, a set that
-- goes over into another is no larger; size_sum, two sets that go over into one are together no larger.
use mathlib.Core.Path.{◌≡◌, refl, sym, ◌∙◌}
use mathlib.Core.Logic.{◌≢◌}
use Prim.Native.Nat.{ℕ, ◌+◌, ◌≤◌, ◌<◌}
use lib.Dec.{eqb}
use borrow.Author.Tests.{eqb-true, eq-eqb, ne_eqb}
use Rattle.basics.proofs.Counts.{count_le, count_mono, count_positive, count_sum}
pub use Rattle.forest.specs.Groups.{size}

pub size_le : (n : ℕ) (B : ℕ → ℕ) (l : ℕ) → size n B l ≤ n
unfolding size
size_le n B l = count_le (λ i. eqb (B i) l) n

pub size_grows : (n : ℕ) (B B' : ℕ → ℕ) (l m : ℕ) → ((i : ℕ) → i < n → B i ≡ l → B' i ≡ m) → size n B l ≤ size n B' m
unfolding size
size_grows n B B' l m h =
    count_mono (λ i. eqb (B i) l) (λ i. eqb (B' i) m) n (λ i k e. eq-eqb (B' i) m (h i k (eqb-true (B i) l e)))

pub size_sum : (n : ℕ) (B B' : ℕ → ℕ) (l m k : ℕ) → l ≢ m → ((i : ℕ) → i < n → B i ≡ l → B' i ≡ k)
    → ((i : ℕ) → i < n → B i ≡ m → B' i ≡ k) → size n B l + size n B m ≤ size n B' k
unfolding size
size_sum n B B' l m k apart left right =
    count_sum (λ i. eqb (B i) l) (λ i. eqb (B i) m) (λ i. eqb (B' i) k) n
    (λ i h e. ne_eqb (B i) m (λ f. apart (sym (eqb-true (B i) l e) ∙ f)))
    (λ i h e. eq-eqb (B' i) k (left i h (eqb-true (B i) l e)))
    (λ i h e. eq-eqb (B' i) k (right i h (eqb-true (B i) m e)))

pub size_positive : (n : ℕ) (B : ℕ → ℕ) (i : ℕ) → i < n → 1 ≤ size n B (B i)
unfolding size
size_positive n B i l = count_positive (λ j. eqb (B j) (B i)) n i l (eq-eqb (B i) (B i) refl)
