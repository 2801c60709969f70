-- Laws of counting: how the count of a test changes with the test.
--
--   Passing t n           one of the numbers below n that pass
--   count_in, count_out   one number more: it passes, or it does not
--   count_next            one number more counts no less
--   count_grows           nor does any higher limit
--   count_before          a number that passes is counted before a higher one is reached
--   count_apart           so numbers that pass have different counts below them
--   count_le              at most every number passes
--   count_all             every number passes
--   count_none            no number passes
--   count_positive        some number passes
--   count_some            and the other way round
--   count_mono            a weaker test counts no less
--   count_same            tests that agree count the same
--   count_less            one number ceases to pass
--   count_strict          a weaker test that one more number passes counts more
--   count_sum             two tests that exclude each other, within a third
--   count_first           the first number apart instead of the last
--   count_more            numbers that do not pass add nothing
--   count_swap            two tests are counted in either order
use mathlib.Core.Path.{◌≡◌, refl, sym, ap, ◌∙◌}
use mathlib.Core.Logic.{◌≢◌}
use mathlib.Core.Bool.{Bool, true, false, cond, true≢false}
use Prim.Native.Nat.{ℕ, zero, suc, ◌+◌, ◌≤◌, ◌<◌}
use native.Mathlib.Omega.{arith}
use native.Mathlib.Decide.{ℕ_discrete, dec_lt}
use lib.Dec.{eqb}
use borrow.Author.Tests.{eqb-true, eq-eqb, ne_eqb}
use Rattle.basics.specs.Count.{count}
use Rattle.basics.proofs.Conditions.{split}

pub count_in : (t : ℕ → Bool) (n : ℕ) → t n ≡ true → count t (suc n) ≡ suc (count t n)
count_in t n e = rw e

pub count_out : (t : ℕ → Bool) (n : ℕ) → t n ≡ false → count t (suc n) ≡ count t n
count_out t n e = rw e

pub count_next : (t : ℕ → Bool) (n : ℕ) → count t n ≤ count t (suc n)
count_next t n = split (t n) (λ e. omega (arith, count_in t n e)) (λ e. omega (arith, count_out t n e))

pub count_grows : (t : ℕ → Bool) (m n : ℕ) → m ≤ n → count t m ≤ count t n
count_grows t m zero l = let none : m ≡ 0 = omega arith in omega (arith, ap (count t) none)
count_grows t m (suc n) l = go (dec_lt m (suc n)) (count_grows t m n)
  where
    go : Dec (m < suc n) → (m ≤ n → count t m ≤ count t n) → count t m ≤ count t (suc n)
    go (yes h) below = omega (arith, below (omega arith), count_next t n)
    go (no h) below = let last : m ≡ suc n = omega arith in omega (arith, ap (count t) last)

pub count_before : (t : ℕ → Bool) (p q : ℕ) → t p ≡ true → p < q → count t p < count t q
count_before t p q e l = omega (arith, count_in t p e, count_grows t (suc p) q l)

pub count_apart : (t : ℕ → Bool) (p q : ℕ) → t p ≡ true → t q ≡ true → count t p ≡ count t q → p ≡ q
count_apart t p q e f same = go (dec_lt p q) (dec_lt q p)
  where
    go : Dec (p < q) → Dec (q < p) → p ≡ q
    go (yes l) b = absurd (omega (arith, count_before t p q e l))
    go (no a) (yes l) = absurd (omega (arith, count_before t q p f l))
    go (no a) (no b) = omega arith

pub count_le : (t : ℕ → Bool) (n : ℕ) → count t n ≤ n
count_le t zero = omega arith
count_le t (suc n) =
    split (t n) (λ e. omega (arith, count_in t n e, count_le t n)) (λ e. omega (arith, count_out t n e, count_le t n))

pub count_all : (t : ℕ → Bool) (n : ℕ) → ((i : ℕ) → i < n → t i ≡ true) → count t n ≡ n
count_all t zero h = refl
count_all t (suc n) h = count_in t n (h n (omega arith)) ∙ ap suc (count_all t n (λ i l. h i (omega arith)))

pub count_none : (t : ℕ → Bool) (n : ℕ) → ((i : ℕ) → i < n → t i ≡ false) → count t n ≡ 0
count_none t zero h = refl
count_none t (suc n) h = count_out t n (h n (omega arith)) ∙ count_none t n (λ i l. h i (omega arith))

pub count_positive : (t : ℕ → Bool) (n i : ℕ) → i < n → t i ≡ true → 1 ≤ count t n
count_positive t zero i l e = absurd (omega arith)
count_positive t (suc n) i l e =
    split (t n) (λ f. omega (arith, count_in t n f))
    (λ f.
    let other : i ≢ n = λ d. true≢false (sym e ∙ ap t d ∙ f) in
    omega (arith, count_out t n f, count_positive t n i (omega (arith, other)) e))

pub record Passing (t : ℕ → Bool) (n : ℕ) : Type 0 where
  pub number : ℕ
  pub inside : number < n
  pub passes : t number ≡ true

pub count_some : (t : ℕ → Bool) (n : ℕ) → 1 ≤ count t n → Passing t n
count_some t zero l = absurd (omega arith)
count_some t (suc n) l =
    split (t n) (λ e. record { number = n; inside = omega arith; passes = e })
    (λ e.
    let below = count_some t n (omega (arith, count_out t n e)) in
    record { number = below.number; inside = omega (arith, below.inside); passes = below.passes })

pub count_mono : (t u : ℕ → Bool) (n : ℕ) → ((i : ℕ) → i < n → t i ≡ true → u i ≡ true) → count t n ≤ count u n
count_mono t u zero h = omega arith
count_mono t u (suc n) h =
    let below = count_mono t u n (λ i l. h i (omega arith)) in
    split (t n) (λ e. omega (arith, below, count_in t n e, count_in u n (h n (omega arith) e)))
    (λ e. omega (arith, below, count_out t n e, count_next u n))

pub count_same : (t u : ℕ → Bool) (n : ℕ) → ((i : ℕ) → i < n → t i ≡ u i) → count t n ≡ count u n
count_same t u n h =
    omega (arith, count_mono t u n (λ i l e. sym (h i l) ∙ e), count_mono u t n (λ i l e. h i l ∙ e))

-- x passed and no longer does; every other number is as it was
pub count_less : (t u : ℕ → Bool) (n x : ℕ) → x < n → t x ≡ true → u x ≡ false → ((i : ℕ) → i ≢ x → t i ≡ u i)
    → suc (count u n) ≡ count t n
count_less t u zero x l e f h = absurd (omega arith)
count_less t u (suc n) x l e f h = go (ℕ_discrete n x) (λ k. count_less t u n x k e f h)
  where
    go : Dec (n ≡ x) → (x < n → suc (count u n) ≡ count t n) → suc (count u (suc n)) ≡ count t (suc n)
    go (yes d) m =
        let below = count_same t u n (λ i k. h i (λ q. absurd (omega arith))) in
        omega (arith, count_in t n (ap t d ∙ e), count_out u n (ap u d ∙ f), below)
    go (no d) m =
        split (t n)
        (λ g. omega (arith, m (omega arith), count_in t n g, count_in u n (sym (h n d) ∙ g)))
        (λ g. omega (arith, m (omega arith), count_out t n g, count_out u n (sym (h n d) ∙ g)))

pub count_sum : (t u w : ℕ → Bool) (n : ℕ) → ((i : ℕ) → i < n → t i ≡ true → u i ≡ false)
    → ((i : ℕ) → i < n → t i ≡ true → w i ≡ true) → ((i : ℕ) → i < n → u i ≡ true → w i ≡ true)
    → count t n + count u n ≤ count w n
count_sum t u w zero apart left right = omega arith
count_sum t u w (suc n) apart left right =
    let below = count_sum t u w n (λ i l. apart i (omega arith)) (λ i l. left i (omega arith)) (λ i l. right i (omega arith)) in
    split (t n)
    (λ e. omega (arith, below, count_in t n e, count_out u n (apart n (omega arith) e), count_in w n (left n (omega arith) e)))
    (λ e.
    split (u n)
    (λ f. omega (arith, below, count_out t n e, count_in u n f, count_in w n (right n (omega arith) f)))
    (λ f. omega (arith, below, count_out t n e, count_out u n f, count_next w n)))

-- x passes the weaker test alone
pub count_strict : (t u : ℕ → Bool) (n x : ℕ) → x < n → t x ≡ false → u x ≡ true → ((i : ℕ) → i < n → t i ≡ true → u i ≡ true)
    → count t n < count u n
count_strict t u n x l fails passes weaker =
    let only : ℕ → Bool = λ i. eqb i x in
    let both = count_sum t only u n (λ i k e. ne_eqb i x (λ is. true≢false (sym e ∙ ap t is ∙ fails)))
    weaker (λ i k e. ap u (eqb-true i x e) ∙ passes) in
    omega (arith, both, count_positive only n x l (eq-eqb x x refl))

pub count_swap : (s t : Bool) (n : ℕ)
    → cond s (suc (cond t (suc n) n)) (cond t (suc n) n) ≡ cond t (suc (cond s (suc n) n)) (cond s (suc n) n)
count_swap true true n = refl
count_swap true false n = refl
count_swap false true n = refl
count_swap false false n = refl

pub count_first : (test : ℕ → Bool) (n : ℕ)
    → count test (suc n) ≡ cond (test 0) (suc (count (λ i. test (suc i)) n)) (count (λ i. test (suc i)) n)
count_first test zero = refl
count_first test (suc n) =
    ap (λ k. cond (test (suc n)) (suc k) k) (count_first test n) ∙ count_swap (test (suc n)) (test 0) (count (λ i. test (suc i)) n)

pub count_more : (test : ℕ → Bool) (n k : ℕ) → ((h : ℕ) → n ≤ h → test h ≡ false) → count test (n + k) ≡ count test n
count_more test n zero none = let same : n + 0 ≡ n = omega arith in ap (count test) same
count_more test n (suc k) none =
    let more : n + suc k ≡ suc (n + k) = omega arith in
    rw (more, none (n + k) (omega arith)) (count_more test n k none)
