-- Laws of masks, for a list of flags and for a list of items under a test.
--
--   mask_none, mask_more   a mask is built from its last flag down
--   mask_bound             a mask of n flags is below 2 ^ n
--   mask_flag, flag_of     bit h tells the h-th flag, or whether the h-th item passes
--   mask_cleared, mask_left   clearing a flag, or an item that stops passing, takes its bit away
--   mask_kept              an item that changes without changing its test keeps the mask
--   mask_count             the ones of a mask are the flags that are set
use mathlib.Core.Path.{◌≡◌, refl, ap, ◌∙◌}
use mathlib.Core.Bool.{Bool, true, false}
use mathlib.Core.List.{List, [], ◌∷◌, map}
use Prim.Native.Nat.{ℕ, zero, suc, ◌+◌, ◌*◌, ◌-◌, ◌/◌, ◌%◌, ◌^◌, ◌<◌}
use native.Mathlib.Omega.{arith}
use native.Mathlib.Nat.{pow-succ', div-div-eq-div-mul, div-one}
use lib.Dec.{eqb}
use lib.Count.{ones, ones_step}
use lib.ListN.{length, get_or, set, length-map}
use lib.Seq.{map-set_same}
use Rattle.basics.proofs.Lists.{get_or_mapped, set_mapped}
use Rattle.mask.specs.Mask.{bit_of, mask_of, count_of}

-- ---- one flag more below a mask

-- the lowest digit is the first flag, the rest the mask of the other flags
low_digit : (b : Bool) (m : ℕ) → (2 * m + bit_of b) % 2 ≡ bit_of b
low_digit true m = omega arith
low_digit false m = omega arith

rest : (b : Bool) (m : ℕ) → (2 * m + bit_of b) / 2 ≡ m
rest true m = omega arith
rest false m = omega arith

bit_test : (b : Bool) → eqb (bit_of b) 1 ≡ b
bit_test true = refl
bit_test false = refl

-- ---- lists of flags

-- a mask is built from its last flag down
pub mask_none : mask_of [] ≡ 0
unfolding mask_of
mask_none = refl

pub mask_more : (b : Bool) (bs : List Bool) → mask_of (b ∷ bs) ≡ 2 * mask_of bs + bit_of b
unfolding mask_of
mask_more b bs = refl

pub mask_bound : (bs : List Bool) → mask_of bs < 2 ^ length bs
unfolding mask_of
mask_bound [] = omega arith
mask_bound (true ∷ bs) = omega (arith, mask_bound bs, pow-succ' 2 (length bs))
mask_bound (false ∷ bs) = omega (arith, mask_bound bs, pow-succ' 2 (length bs))

mask_digit : (bs : List Bool) (h : ℕ) → h < length bs → mask_of bs / 2 ^ h % 2 ≡ bit_of (get_or bs h false)
unfolding mask_of
mask_digit [] h within = absurd (omega arith)
mask_digit (b ∷ bs) zero within = rw div-one (low_digit b (mask_of bs))
mask_digit (b ∷ bs) (suc h) within =
    rw (pow-succ' 2 h, ← div-div-eq-div-mul (2 * mask_of bs + bit_of b) 2 (2 ^ h), rest b (mask_of bs)) (mask_digit bs h (omega arith))

-- the test of bit h tells the h-th flag
pub mask_flag : (bs : List Bool) (h : ℕ) → h < length bs → eqb (mask_of bs / 2 ^ h % 2) 1 ≡ get_or bs h false
mask_flag bs h within = rw (mask_digit bs h within) (bit_test (get_or bs h false))

-- clearing the h-th flag takes 2 ^ h away
mask_taken :
    (bs : List Bool) (h : ℕ) → h < length bs → get_or bs h false ≡ true → mask_of bs ≡ mask_of (set bs h false) + 2 ^ h
unfolding mask_of
mask_taken [] h within on = absurd (omega arith)
mask_taken (b ∷ bs) zero within on = rw on (omega arith)
mask_taken (b ∷ bs) (suc h) within on = omega (arith, mask_taken bs h (omega arith) on, pow-succ' 2 h)

module _ (bs : List Bool) (h : ℕ) (within : h < length bs) (on : get_or bs h false ≡ true) where
  pub mask_cleared : mask_of bs - 2 ^ h ≡ mask_of (set bs h false)
  mask_cleared = omega (arith, mask_taken bs h within on)

-- the ones of a mask are the flags that are set
pub mask_count : (bs : List Bool) → ones (mask_of bs) ≡ count_of bs
unfolding ones mask_of count_of
mask_count [] = refl
mask_count (b ∷ bs) =
    ones_step (mask_of (b ∷ bs)) ∙ rw (low_digit b (mask_of bs), rest b (mask_of bs), mask_count bs) (one_more b)
  where
    one_more : (b : Bool) → bit_of b + count_of bs ≡ count_of (b ∷ bs)
    one_more true = omega arith
    one_more false = omega arith

-- ---- lists under a test: the h-th flag says whether the h-th item passes

module _ {A : Type 0} (f : A → Bool) (d : A) where
  -- the test of bit h tells whether the h-th item passes
  pub flag_of : (l : List A) (h : ℕ) → h < length l → eqb (mask_of (map f l) / 2 ^ h % 2) 1 ≡ f (get_or l h d)
  flag_of l h within = mask_flag (map f l) h (omega (arith, length-map l f)) ∙ get_or_mapped f l h d false within

  -- an item that changes without changing its test keeps the mask
  pub mask_kept : (l : List A) (h : ℕ) (v : A) → f v ≡ f (get_or l h d) → mask_of (map f (set l h v)) ≡ mask_of (map f l)
  mask_kept l h v same = ap mask_of (map-set_same f l h v d same)

  module _ (l : List A) (h : ℕ) (within : h < length l) (passes : f (get_or l h d) ≡ true) where
    on : get_or (map f l) h false ≡ true
    on = get_or_mapped f l h d false within ∙ passes

    -- an item that stops passing takes its bit out of the mask
    pub mask_left : (v : A) → f v ≡ false → mask_of (map f l) - 2 ^ h ≡ mask_of (map f (set l h v))
    mask_left v fails = rw (← set_mapped f l h v, fails) (mask_cleared (map f l) h (omega (arith, length-map l f)) on)
