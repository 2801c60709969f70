-- Soundness of a table against labels: the facts that every write keeps.
--
--   Heavy n p r B        a set has at least as many nodes as its ranks ask for
--   Sound n p r B        well formed, labelled and heavy
--   Singletons n p r B   each node its own parent, rank 0 and alone
--
-- Main laws: singletons_sound, singletons are sound; rank_bound and rank_at_most, ranks never exceed the base-2 logarithm of
-- the node count.
use mathlib.Core.Path.{◌≡◌, sym, ap, ◌∙◌}
use mathlib.Core.Logic.{◌≢◌}
use Prim.Native.Nat.{ℕ, suc, ◌^◌, ◌≤◌, ◌<◌}
use native.Mathlib.Omega.{arith}
use native.Mathlib.Decide.{dec_le}
use lib.Pow.{pow_mono, pow_pos}
use Rattle.word.specs.Word.{node_limit}
use Rattle.forest.proofs.Forest.{WellFormed, Labelled}
use Rattle.forest.proofs.Size.{size, size_le, size_positive}

pub record Heavy (n : ℕ) (p r B : ℕ → ℕ) : Type 0 where
  -- a node of rank k is in a set of at least 2 ^ k nodes
  pub all : (i : ℕ) → i < n → 2 ^ r i ≤ size n B (B i)
  -- and one that is no root, in a set of twice as many
  pub lower : (i : ℕ) → i < n → p i ≢ i → 2 ^ suc (r i) ≤ size n B (B i)

pub record Sound (n : ℕ) (p r B : ℕ → ℕ) : Type 0 where
  pub formed : WellFormed n p r
  pub labelled : Labelled n p B
  pub heavy : Heavy n p r B

pub record Singletons (n : ℕ) (p r B : ℕ → ℕ) : Type 0 where
  pub limit : n ≤ node_limit
  pub roots : (i : ℕ) → i < n → p i ≡ i
  pub ranks : (i : ℕ) → i < n → r i ≡ 0
  pub alone : (i : ℕ) → i < n → B i ≡ i

-- exponents are ordered as their powers
pub power_limit : (k m n : ℕ) → 2 ^ k ≤ n → n ≤ 2 ^ m → k ≤ m
power_limit k m n low high = go (dec_le k m)
  where
    go : Dec (k ≤ m) → k ≤ m
    go (yes h) = h
    go (no h) =
        let more : suc m ≤ k = omega arith in
        absurd (omega (arith, pow_mono more, pow_pos m))

module _ {n : ℕ} {p r B : ℕ → ℕ} (sound : Sound n p r B) where
  -- ranks never exceed the whole part of the base-2 logarithm of the node count
  pub rank_bound : (i : ℕ) → i < n → 2 ^ r i ≤ n
  rank_bound i l = omega (arith, sound.heavy.all i l, size_le n B (B i))

  pub rank_at_most : (k : ℕ) → n ≤ 2 ^ k → (i : ℕ) → i < n → r i ≤ k
  rank_at_most k h i l = power_limit (r i) k n (rank_bound i l) h

module _ {n : ℕ} {p r B : ℕ → ℕ} (single : Singletons n p r B) where
  singletons_formed : WellFormed n p r
  singletons_formed =
      record {
        limit = single.limit;
        inside = λ i l. omega (arith, single.roots i l);
        rising = λ i l d. absurd (d (single.roots i l));
      }

  singletons_labelled : Labelled n p B
  singletons_labelled =
      record {
        along = λ i l. ap B (single.roots i l);
        apart = λ i j li lj _ _ e. sym (single.alone i li) ∙ e ∙ single.alone j lj;
      }

  singletons_heavy : Heavy n p r B
  singletons_heavy =
      record {
        all = λ i l. rw (single.ranks i l) (size_positive n B i l);
        lower = λ i l d. absurd (d (single.roots i l));
      }

  pub singletons_sound : Sound n p r B
  singletons_sound = record { formed = singletons_formed; labelled = singletons_labelled; heavy = singletons_heavy }
