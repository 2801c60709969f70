-- Laws of the numbers below a limit that pass a test, as a list.
--
--   PassingAt t n i   what stands at place i of them: a number below n that passes, with i such numbers before it
--
-- Main laws: passing_many, they are as many as are counted; passing_at; passing_rising; passing_all, each number that passes
-- stands at its count.
use mathlib.Core.Path.{◌≡◌, refl, ap, ◌∙◌}
use mathlib.Core.Bool.{Bool, true, false}
use mathlib.Core.List.{[], ◌∷◌}
use Prim.Native.Nat.{ℕ, zero, suc, ◌<◌}
use native.Mathlib.Omega.{arith}
use native.Mathlib.Decide.{dec_lt}
use lib.ListN.{length, get_or, length-append, get_or-append}
use lib.Seq.{get_or_at}
use Rattle.basics.specs.Count.{count, passing_below}
use Rattle.basics.proofs.Conditions.{split}
use Rattle.basics.proofs.Counts.{count_in, count_grows, count_before, count_apart}

pub record PassingAt (t : ℕ → Bool) (n i : ℕ) : Type 0 where
  pub inside : get_or (passing_below t n) i 0 < n
  pub passes : t (get_or (passing_below t n) i 0) ≡ true
  pub counted : count t (get_or (passing_below t n) i 0) ≡ i

module _ (t : ℕ → Bool) where
  pub passing_many : (n : ℕ) → length (passing_below t n) ≡ count t n
  passing_many zero = refl
  passing_many (suc n) =
      split (t n) (λ e. rw e (omega (arith, length-append (passing_below t n) (n ∷ []), passing_many n))) (λ e. rw e (passing_many n))

  pub passing_at : (n i : ℕ) → i < count t n → PassingAt t n i
  passing_at zero i l = absurd (omega arith)
  passing_at (suc n) i l = split (t n) (λ e. go e (dec_lt i (count t n)) (passing_at n i)) (λ e. out e (passing_at n i (rw e at l)))
    where
      -- what stands there is x
      at : (x : ℕ) → get_or (passing_below t (suc n)) i 0 ≡ x → x < suc n → t x ≡ true → count t x ≡ i → PassingAt t (suc n) i
      at x is inside passes counted =
          record { inside = omega arith; passes = ap t is ∙ passes; counted = ap (count t) is ∙ counted }

      out : t n ≡ false → PassingAt t n i → PassingAt t (suc n) i
      out e old = at _ (rw e) (omega (arith, old.inside)) old.passes old.counted

      go : t n ≡ true → Dec (i < count t n) → (i < count t n → PassingAt t n i) → PassingAt t (suc n) i
      go e (yes h) below =
          let same : get_or (passing_below t (suc n)) i 0 ≡ get_or (passing_below t n) i 0 =
          rw e (get_or-append (passing_below t n) (n ∷ []) 0 i (omega (arith, passing_many n))) in
          at _ same (omega (arith, (below h).inside)) (below h).passes (below h).counted
      go e (no h) below =
          let last : count t n ≡ i = omega (arith, count_in t n e) in
          at n (rw e (get_or_at (passing_below t n) n [] 0 i (passing_many n ∙ last))) (omega arith) e last

  pub passing_rising : (n i j : ℕ) → i < j → j < count t n → get_or (passing_below t n) i 0 < get_or (passing_below t n) j 0
  passing_rising n i j l h = go (dec_lt (get_or (passing_below t n) i 0) (get_or (passing_below t n) j 0))
    where
      go : Dec (get_or (passing_below t n) i 0 < get_or (passing_below t n) j 0)
          → get_or (passing_below t n) i 0 < get_or (passing_below t n) j 0
      go (yes rises) = rises
      go (no falls) =
          let back = count_grows t (get_or (passing_below t n) j 0) (get_or (passing_below t n) i 0) (omega arith) in
          absurd (omega (arith, back, (passing_at n i (omega arith)).counted, (passing_at n j h).counted))

  pub passing_all : (n p : ℕ) → p < n → t p ≡ true → get_or (passing_below t n) (count t p) 0 ≡ p
  passing_all n p l e =
      let there = passing_at n (count t p) (count_before t p n e l) in
      count_apart t _ p there.passes e there.counted
