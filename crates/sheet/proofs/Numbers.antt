-- Laws of the seen numbers: how they are numbered among themselves.
--
-- Main laws: number_eqb, seen requests have different numbers; seen_below, what is promised of the seen numbers.
use mathlib.Core.Path.{◌≡◌, refl, sym, ap, ◌∙◌}
use mathlib.Core.Bool.{Bool, true}
use mathlib.Core.List.{List, [], ◌∷◌, ◌++◌, map, map-append}
use Prim.Native.Nat.{ℕ, zero, suc}
use native.Mathlib.Decide.{ℕ_discrete}
use lib.Dec.{eqb}
use borrow.Author.Tests.{eq-eqb, ne_eqb}
use Rattle.basics.specs.Count.{count}
use Rattle.basics.proofs.Conditions.{split}
use Rattle.basics.proofs.Counts.{count_apart}
use Rattle.basics.proofs.Passing.{passing_many, passing_at, passing_rising, passing_all}
use Rattle.sheet.specs.Sheet.{seen_numbers, number_of, up_to}
use Rattle.sheet.specs.Agree.{SeenBelow}

module _ (seen : ℕ → Bool) where
  pub number_eqb : (p q : ℕ) → seen p ≡ true → seen q ≡ true → eqb (number_of seen p) (number_of seen q) ≡ eqb p q
  number_eqb p q s t = go (ℕ_discrete p q)
    where
      go : Dec (p ≡ q) → eqb (number_of seen p) (number_of seen q) ≡ eqb p q
      go (yes d) = eq-eqb _ _ (ap (number_of seen) d) ∙ sym (eq-eqb p q d)
      go (no d) = ne_eqb _ _ (λ same. d (count_apart seen p q s t same)) ∙ sym (ne_eqb p q d)

  seen_numbered : (n : ℕ) → map (number_of seen) (seen_numbers seen n) ≡ up_to (count seen n)
  seen_numbered zero = refl
  seen_numbered (suc n) =
      split (seen n)
      (λ s.
      rw s
      (map-append (number_of seen) (seen_numbers seen n) (n ∷ [])
      ∙ ap {B = List ℕ} (λ ns. ns ++ (number_of seen n ∷ [])) (seen_numbered n)))
      (λ s. rw s (seen_numbered n))

  pub seen_below : (n : ℕ) → SeenBelow seen n
  seen_below n =
      record {
        many = passing_many seen n;
        numbered = seen_numbered n;
        rising = passing_rising seen n;
        inside = λ i l. (passing_at seen n i l).inside;
        only = λ i l. (passing_at seen n i l).passes;
        all = passing_all seen n;
      }
