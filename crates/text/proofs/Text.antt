-- Laws of texts: the digits of a number, fields and sequences piece by piece, and how long they get.
--
--   Narrow ns   every number of ns is one of 32 bits
use mathlib.Core.Path.{◌≡◌, refl, sym, ap, ap₂, ◌∙◌}
use mathlib.Core.Bool.{Bool, true, false}
use mathlib.Core.List.{List, [], ◌∷◌, ◌++◌, append_assoc, append-nil}
use Prim.Native.Nat.{ℕ, zero, suc, ◌+◌, ◌*◌, ◌/◌, ◌%◌, ◌^◌, ◌≤◌, ◌<◌}
use native.Mathlib.Nat.{pow-succ'}
use native.Mathlib.Numerals.{add-one}
use native.Mathlib.Omega.{arith}
use lib.Dec.{ltb}
use lib.ListN.{length, get_or, take, length-append}
use borrow.Author.Tests.{ltb-true, ltb-false, lt-ltb, le-ltb}
use Rattle.basics.proofs.Lists.{length_three, take_next}
use Rattle.text.specs.Text.{digits_by, digits_within, decimal, last_two, fields, line, each}

-- Any fuel above the number gives the same digits.
digits_enough : (f g n : ℕ) → n < f → n < g → digits_within f n ≡ digits_within g n
unfolding digits_within
digits_enough zero g n h k = absurd (omega arith)
digits_enough (suc f) zero n h k = absurd (omega arith)
digits_enough (suc f) (suc g) n h k = go (ltb n 10) refl (λ large. digits_enough f g (n / 10) (omega arith) (omega arith))
  where
    go : (small : Bool) → ltb n 10 ≡ small → (10 ≤ n → digits_within f (n / 10) ≡ digits_within g (n / 10))
        → digits_by small n (digits_within f) ≡ digits_by small n (digits_within g)
    go true e tenth = refl
    go false e tenth = ap (λ (ds : List ℕ). ds ++ ((48 + n % 10) ∷ [])) (tenth (ltb-false n 10 e))

pub decimal_digit : (n : ℕ) → n < 10 → decimal n ≡ (48 + n) ∷ []
unfolding digits_within decimal
decimal_digit n h = rw (lt-ltb n 10 h)

pub decimal_more : (n : ℕ) → 10 ≤ n → decimal n ≡ decimal (n / 10) ++ ((48 + n % 10) ∷ [])
unfolding digits_within decimal
decimal_more n h =
    rw (le-ltb n 10 h)
    (ap (λ (ds : List ℕ). ds ++ ((48 + n % 10) ∷ [])) (digits_enough n (suc (n / 10)) (n / 10) (omega arith) (omega arith)))

-- two digits at once
pub decimal_two : (n : ℕ) → 10 ≤ n → n < 100 → decimal n ≡ last_two n
decimal_two n h l =
    let tenth : n / 10 % 10 ≡ n / 10 = omega arith in
    decimal_more n h ∙ ap (λ (t : List ℕ). t ++ ((48 + n % 10) ∷ [])) (decimal_digit (n / 10) (omega arith))
    ∙ ap (λ d. (48 + d) ∷ (48 + n % 10) ∷ []) (sym tenth)

pub decimal_hundred : (n : ℕ) → 100 ≤ n → decimal n ≡ decimal (n / 100) ++ last_two n
decimal_hundred n h =
    let hundredth : n / 10 / 10 ≡ n / 100 = omega arith in
    decimal_more n (omega arith) ∙ ap (λ (t : List ℕ). t ++ ((48 + n % 10) ∷ [])) (decimal_more (n / 10) (omega arith))
    ∙ append_assoc (decimal (n / 10 / 10)) ((48 + n / 10 % 10) ∷ []) ((48 + n % 10) ∷ [])
    ∙ ap (λ k. decimal k ++ last_two n) hundredth

pub decimal_more_length : (n : ℕ) → 10 ≤ n → length (decimal n) ≡ length (decimal (n / 10)) + 1
decimal_more_length n h = ap length (decimal_more n h) ∙ length-append (decimal (n / 10)) ((48 + n % 10) ∷ [])

pub digits_most : (k n : ℕ) → n < 10 ^ suc k → length (decimal n) ≤ suc k
digits_most zero n h = omega (arith, ap length (decimal_digit n h))
digits_most (suc k) n h = go (ltb n 10) refl (digits_most k (n / 10) (omega (arith, pow-succ' 10 (suc k))))
  where
    go : (b : Bool) → ltb n 10 ≡ b → length (decimal (n / 10)) ≤ suc k → length (decimal n) ≤ suc (suc k)
    go true e tenth = omega (arith, ap length (decimal_digit n (ltb-true n 10 e)))
    go false e tenth = omega (arith, decimal_more_length n (ltb-false n 10 e))

-- A number of 32 bits has at most ten digits.
pub decimal_short : (n : ℕ) → n < 2 ^ 32 → length (decimal n) ≤ 10
decimal_short n h = digits_most 9 n (omega arith)

fields_append : (ms ns : List ℕ) → fields (ms ++ ns) ≡ fields ms ++ fields ns
unfolding fields
fields_append [] ns = refl
fields_append (m ∷ ms) ns =
    ap (λ (t : List ℕ). (32 ∷ decimal m) ++ t) (fields_append ms ns) ∙ sym (append_assoc (32 ∷ decimal m) (fields ms) (fields ns))

fields_one : (n : ℕ) → fields (n ∷ []) ≡ (32 ∷ []) ++ decimal n
unfolding fields
fields_one n = ap (λ (t : List ℕ). 32 ∷ t) (append-nil (decimal n))

pub fields_next : (ns : List ℕ) (i : ℕ) → i < length ns
    → fields (take (i + 1) ns) ≡ fields (take i ns) ++ ((32 ∷ []) ++ decimal (get_or ns i 0))
fields_next ns i h =
    rw (take_next ns i h)
    (fields_append (take i ns) (get_or ns i 0 ∷ []) ∙ ap (λ (t : List ℕ). fields (take i ns) ++ t) (fields_one (get_or ns i 0)))

-- The same for a sequence.
pub each_next : (f : ℕ → List ℕ) (i : ℕ) → each f (i + 1) ≡ each f i ++ f i
unfolding each
each_next f i = rw add-one

-- the first apart instead of the last
pub each_first : (f : ℕ → List ℕ) (n : ℕ) → each f (suc n) ≡ f 0 ++ each (λ i. f (suc i)) n
unfolding each
each_first f zero = sym (append-nil (f 0))
each_first f (suc n) =
    ap {B = List ℕ} (λ t. t ++ f (suc n)) (each_first f n) ∙ append_assoc (f 0) (each (λ i. f (suc i)) n) (f (suc n))

pub each_same : (f g : ℕ → List ℕ) (n : ℕ) → ((i : ℕ) → i < n → f i ≡ g i) → each f n ≡ each g n
unfolding each
each_same f g zero same = refl
each_same f g (suc n) same = ap₂ {C = List ℕ} ◌++◌ (each_same f g n (λ i l. same i (omega arith))) (same n (omega arith))

-- Lines of numbers of 32 bits are short, so that a text of them can be counted in 64 bits.
abbrev pub Narrow : List ℕ → Type 0
Narrow [] = Unit {0}
Narrow (n ∷ ns) = (n < 2 ^ 32) × Narrow ns

pub fields_none : length (fields []) ≡ 0
unfolding fields
fields_none = omega arith

pub fields_length : (n : ℕ) (ns : List ℕ) → length (fields (n ∷ ns)) ≡ suc (length (decimal n)) + length (fields ns)
unfolding fields
fields_length n ns = length-append (32 ∷ decimal n) (fields ns)

pub fields_short : (ns : List ℕ) → Narrow ns → length (fields ns) ≤ 11 * length ns
fields_short [] h = omega (arith, fields_none)
fields_short (n ∷ ns) h = omega (arith, fields_length n ns, decimal_short n h.0, fields_short ns h.1)

pub line_length : (name ns : List ℕ) → length (line name ns) ≡ length name + length (fields ns) + 1
unfolding line
line_length name ns = length_three name (fields ns) (10 ∷ [])

pub line_short : (name ns : List ℕ) → Narrow ns → length (line name ns) ≤ length name + 11 * length ns + 1
line_short name ns h = omega (arith, line_length name ns, fields_short ns h)

pub each_short : (f : ℕ → List ℕ) (most n : ℕ) → ((i : ℕ) → i < n → length (f i) ≤ most) → length (each f n) ≤ most * n
unfolding each
each_short f most zero h = omega arith
each_short f most (suc n) h =
    omega (arith, length-append (each f n) (f n), h n (omega arith), each_short f most n (λ i l. h i (omega arith)))
