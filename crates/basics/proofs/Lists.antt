-- Lists read and written at one place, under a map, and taken apart.
--
--   get_or_mapped   what stands at a place of the mapped list
--   set_mapped     a store in the mapped list is the map of a store
--   get_or_set_each what holds at every place, and of what is stored, holds at every place after the store
--   length_three   the length of three pieces
--   take_next      one element more: what a loop over a list adds in a turn
use mathlib.Core.Path.{◌≡◌, refl, ap}
use mathlib.Core.List.{List, [], ◌∷◌, ◌++◌, map}
use Prim.Native.Nat.{ℕ, zero, suc, ◌+◌, ◌<◌}
use native.Mathlib.Numerals.{add-one}
use native.Mathlib.Omega.{arith}
use lib.ListN.{length, get_or, set, take, length-append}
use lib.Seq.{take-suc}

module _ {A B : Type 0} (f : A → B) where
  pub get_or_mapped : (l : List A) (i : ℕ) (d : A) (e : B) → i < length l → get_or (map f l) i e ≡ f (get_or l i d)
  get_or_mapped [] i d e h = absurd (omega arith)
  get_or_mapped (a ∷ l) zero d e h = refl
  get_or_mapped (a ∷ l) (suc i) d e h = get_or_mapped l i d e (omega arith)

  pub set_mapped : (l : List A) (i : ℕ) (v : A) → set (map f l) i (f v) ≡ map f (set l i v)
  set_mapped [] i v = refl
  set_mapped (a ∷ l) zero v = refl
  set_mapped (a ∷ l) (suc i) v = ap {B = List B} (λ r. f a ∷ r) (set_mapped l i v)

module _ {A : Type 0} where
  pub get_or_set_each : (P : A → Type 0) (l : List A) (i : ℕ) (v d : A) → P v → ((j : ℕ) → P (get_or l j d))
      → (j : ℕ) → P (get_or (set l i v) j d)
  get_or_set_each P [] i v d new each j = each j
  get_or_set_each P (a ∷ l) zero v d new each zero = new
  get_or_set_each P (a ∷ l) zero v d new each (suc j) = each (suc j)
  get_or_set_each P (a ∷ l) (suc i) v d new each zero = each 0
  get_or_set_each P (a ∷ l) (suc i) v d new each (suc j) = get_or_set_each P l i v d new (λ k. each (suc k)) j

pub length_three : (a b c : List ℕ) → length (a ++ (b ++ c)) ≡ length a + length b + length c
length_three a b c = omega (arith, length-append a (b ++ c), length-append b c)

pub take_next : (l : List ℕ) (i : ℕ) → i < length l → take (i + 1) l ≡ take i l ++ (get_or l i 0 ∷ [])
take_next l i h = rw (add-one, take-suc l i 0)
