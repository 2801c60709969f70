-- Groups: the plain walk ends at the root, each root is the root of one lowest place, and the groups' sizes add up.
--
--   Leading n p root   `root` gives the root that each of n places leads to by the parents p
--   weigh root w m r   the weight w of r if one of the places below m has the root r, else 0
--   LowestOf root n i  which of the lowest places of n places has the root of place i
--   LowestIn root i    the lowest place of the group of place i
--
-- Main laws: within_leads; lowest_row and lowest_one, a place's root is the root of exactly one lowest place; lowest_count,
-- the lowest places are as many as the roots; lowest_sizes, the sizes of their groups add up to the place count.
use mathlib.Core.Path.{◌≡◌, refl, sym, ap, ◌∙◌}
use mathlib.Core.Logic.{◌≢◌}
use mathlib.Core.Bool.{true, false, cond}
use mathlib.Core.List.{[], ◌∷◌, ◌++◌, map, map-append}
use Prim.Native.Nat.{ℕ, zero, suc, ◌+◌, ◌*◌, ◌≤◌, ◌<◌}
use native.Mathlib.Omega.{arith}
use native.Mathlib.Decide.{ℕ_discrete, dec_lt}
use lib.Dec.{eqb}
use lib.ListN.{length, get_or}
use borrow.Author.Tests.{eqb-true, eqb-false, eq-eqb, ne_eqb}
use Rattle.basics.specs.Count.{count}
use Rattle.basics.specs.Sum.{sum, sum_to}
use Rattle.basics.proofs.Conditions.{split}
use Rattle.basics.proofs.Counts.{count_in, count_out, count_before, count_le, count_none, count_positive, Passing, count_some}
use Rattle.basics.proofs.Passing.{passing_many, passing_at, passing_rising, passing_all}
use Rattle.basics.proofs.Sums.{sum_next, sum_ones, sum_to_same, sum_to_more, sum_to_none, sum_to_count}
use Rattle.word.specs.Word.{key, node_limit}
use Rattle.forest.specs.Forest.{root_count, Leads, root as ends, up}
use Rattle.forest.specs.Groups.{root_within, size, is_lowest, lowest_places}
use Rattle.forest.proofs.Forest.{WellFormed, leads_root, leads_unique}

-- ---- the plain walk

module _ {n : ℕ} {p r : ℕ → ℕ} (formed : WellFormed n p r) (top : ℕ) (ranks : (i : ℕ) → i < n → r i ≤ top) where
  -- keys rise along parents up to a bound, so that enough fuel is never spent
  pub within_leads : (fuel x : ℕ) → x < n → suc top * node_limit ≤ key (r x) x + fuel → Leads p x (root_within fuel p x)
  within_leads zero x l b = absurd (omega (arith, ranks x l, formed.limit))
  within_leads (suc fuel) x l b =
      split (eqb (p x) x) (λ e. rw e (ends x (eqb-true _ _ e)))
      (λ e.
      let d = eqb-false (p x) x e in
      rw e (up x _ d (within_leads fuel (p x) (formed.inside x l) (omega (arith, formed.rising x l d)))))

pub record Leading (n : ℕ) (p root : ℕ → ℕ) : Type 0 where
  pub inside : (i : ℕ) → i < n → root i < n
  pub leads : (i : ℕ) → i < n → Leads p i (root i)

-- ---- sizes, one place more

module _ (root : ℕ → ℕ) (m r : ℕ) where
  pub size_in : root m ≡ r → size (suc m) root r ≡ suc (size m root r)
  unfolding size
  size_in e = count_in (λ i. eqb (root i) r) m (eq-eqb _ _ e)

  pub size_out : root m ≢ r → size (suc m) root r ≡ size m root r
  unfolding size
  size_out d = count_out (λ i. eqb (root i) r) m (ne_eqb _ _ d)

  size_some : (i : ℕ) → i < m → root i ≡ r → 1 ≤ size m root r
  unfolding size
  size_some i l e = count_positive (λ j. eqb (root j) r) m i l (eq-eqb _ _ e)

  size_none : ((i : ℕ) → i < m → root i ≢ r) → size m root r ≡ 0
  unfolding size
  size_none none = count_none (λ i. eqb (root i) r) m (λ i l. ne_eqb _ _ (none i l))

  size_found : 1 ≤ size m root r → Passing (λ i. eqb (root i) r) m
  unfolding size
  size_found l = count_some (λ i. eqb (root i) r) m l

-- ---- the lowest places

pub record LowestOf (root : ℕ → ℕ) (n i : ℕ) : Type 0 where
  pub row : ℕ
  pub inside : row < length (lowest_places root n)
  pub same : root (get_or (lowest_places root n) row 0) ≡ root i

-- The lowest place of the group of i.
record LowestIn (root : ℕ → ℕ) (i : ℕ) : Type 0 where
  place : ℕ
  upto : place ≤ i
  lowest : is_lowest root place ≡ true
  same : root place ≡ root i

module _ (root : ℕ → ℕ) where
  pub lowest_in : (m : ℕ) → is_lowest root m ≡ true → lowest_places root (suc m) ≡ lowest_places root m ++ (m ∷ [])
  lowest_in m e = rw e

  pub lowest_out : (m : ℕ) → is_lowest root m ≡ false → lowest_places root (suc m) ≡ lowest_places root m
  lowest_out m e = rw e

  pub lowest_few : (m : ℕ) → length (lowest_places root m) ≤ m
  lowest_few m = omega (arith, passing_many (is_lowest root) m, count_le (is_lowest root) m)

  -- no place below a lowest one has its root
  pub lowest_first : (i j : ℕ) → is_lowest root j ≡ true → i < j → root i ≢ root j
  lowest_first i j e l f = omega (arith, eqb-true (size j root (root j)) 0 e, size_some root j (root j) i l f)

  pub lowest_one : (i j : ℕ) → is_lowest root i ≡ true → is_lowest root j ≡ true → root i ≡ root j → i ≡ j
  lowest_one i j ei ej e = go (dec_lt i j) (dec_lt j i)
    where
      go : Dec (i < j) → Dec (j < i) → i ≡ j
      go (yes l) b = absurd (lowest_first i j ej l e)
      go (no a) (yes l) = absurd (lowest_first j i ei l (sym e))
      go (no a) (no b) = omega arith

  -- they are places, and lowest
  pub lowest_at : (m k : ℕ) → k < length (lowest_places root m)
      → (get_or (lowest_places root m) k 0 < m) × (is_lowest root (get_or (lowest_places root m) k 0) ≡ true)
  lowest_at m k l =
      let there = passing_at (is_lowest root) m k (omega (arith, passing_many (is_lowest root) m)) in
      (there.inside, there.passes)

  pub lowest_rising : (m j k : ℕ) → j < k → k < length (lowest_places root m)
      → get_or (lowest_places root m) j 0 < get_or (lowest_places root m) k 0
  lowest_rising m j k h l = passing_rising (is_lowest root) m j k h (omega (arith, passing_many (is_lowest root) m))

  -- a group has a lowest place: the place itself, or one below it
  group_lowest : (m i : ℕ) → i < m → LowestIn root i
  group_lowest zero i l = absurd (omega arith)
  group_lowest (suc m) i l =
      split (is_lowest root i)
      (λ e. record { place = i; upto = omega arith; lowest = e; same = refl })
      (λ e.
      let other = eqb-false (size i root (root i)) 0 e in
      let met = size_found root i (root i) (omega arith) in
      let found = group_lowest m met.number (omega (arith, met.inside)) in
      record {
        place = found.place;
        upto = omega (arith, found.upto, met.inside);
        lowest = found.lowest;
        same = found.same ∙ eqb-true _ _ met.passes;
      })

  pub lowest_row : (m i : ℕ) → i < m → LowestOf root m i
  lowest_row m i l =
      let found = group_lowest m i l in
      let inside : found.place < m = omega (arith, found.upto) in
      record {
        row = count (is_lowest root) found.place;
        inside = omega (
          arith,
          count_before (is_lowest root) found.place m found.lowest inside,
          passing_many (is_lowest root) m,
        );
        same = ap root (passing_all (is_lowest root) m found.place inside found.lowest) ∙ found.same;
      }

-- ---- sums over the lowest places

abbrev weigh : (ℕ → ℕ) → (ℕ → ℕ) → ℕ → ℕ → ℕ
weigh root w m r = cond (eqb (size m root r) 0) 0 (w r)

module _ (root : ℕ → ℕ) (n : ℕ) (inside : (i : ℕ) → i < n → root i < n) where
  -- every place counts once
  sizes_total : (m : ℕ) → m ≤ n → sum_to (size m root) n ≡ m
  sizes_total zero l = sum_to_none (size 0 root) n (λ r k. size_none root 0 r (λ i h. absurd (omega arith)))
  sizes_total (suc m) l =
      let below = sizes_total m (omega arith) in
      let more = size_in root m (root m) refl in
      let rest = sum_to_more (size (suc m) root) (size m root) n (root m) 1 (inside m l) (omega (arith, more))
      (λ r d. size_out root m r (λ e. d (sym e))) in
      omega (arith, below, rest)

  module _ (w : ℕ → ℕ) where
    weigh_same : (m r : ℕ) → root m ≢ r → weigh root w (suc m) r ≡ weigh root w m r
    weigh_same m r d = ap (λ s. cond (eqb s 0) 0 (w r)) (size_out root m r d)

    weigh_in : (m : ℕ) → weigh root w (suc m) (root m) ≡ w (root m)
    weigh_in m = rw (ne_eqb (size (suc m) root (root m)) 0 (λ e. omega (arith, size_in root m (root m) refl))) refl

    lowest_weights : (m : ℕ) → m ≤ n → sum (map (λ i. w (root i)) (lowest_places root m)) ≡ sum_to (weigh root w m) n
    lowest_weights zero l =
        sym (sum_to_none (weigh root w 0) n (λ r k. rw (eq-eqb _ 0 (size_none root 0 r (λ i h. absurd (omega arith)))) refl))
    lowest_weights (suc m) l =
        let below = lowest_weights m (omega arith) in
        split (is_lowest root m)
        (λ e.
        let old : weigh root w m (root m) ≡ 0 = rw e refl in
        let places = map-append (λ i. w (root i)) (lowest_places root m) (m ∷ []) in
        let more = sum_to_more (weigh root w (suc m)) (weigh root w m) n (root m) (w (root m)) (inside m l)
        (omega (arith, weigh_in m, old)) (λ r d. weigh_same m r (λ f. d (sym f))) in
        rw (e, places) (omega (arith, below, more, sum_next (map (λ i. w (root i)) (lowest_places root m)) (w (root m)))))
        (λ e. rw e (below ∙ sum_to_same (weigh root w m) (weigh root w (suc m)) n (λ r k. same r e (ℕ_discrete (root m) r))))
      where
        -- a root that was met before keeps its weight
        same : (r : ℕ) → is_lowest root m ≡ false → Dec (root m ≡ r) → weigh root w m r ≡ weigh root w (suc m) r
        same r e (yes d) = let here : weigh root w m (root m) ≡ w (root m) = rw e refl in rw (← d) (here ∙ sym (weigh_in m))
        same r e (no d) = sym (weigh_same m r d)

  -- the sizes of the groups add up to the place count
  pub lowest_sizes : sum (map (λ i. size n root (root i)) (lowest_places root n)) ≡ n
  lowest_sizes =
      lowest_weights (size n root) n (omega arith)
      ∙ sum_to_same (weigh root (size n root) n) (size n root) n (λ r k. same r (ℕ_discrete (size n root r) 0))
      ∙ sizes_total n (omega arith)
    where
      same : (r : ℕ) → Dec (size n root r ≡ 0) → weigh root (size n root) n r ≡ size n root r
      same r (yes e) = rw (eq-eqb _ 0 e) (sym e)
      same r (no d) = rw (ne_eqb _ 0 d) refl

-- ---- lowest places and roots

module _ {n : ℕ} {p root : ℕ → ℕ} (leading : Leading n p root) where
  -- a root is its own
  pub root_own : (r : ℕ) → r < n → p r ≡ r → root r ≡ r
  root_own r l e = leads_unique (leading.leads r l) (ends r e)

  -- the lowest places are as many as the roots
  pub lowest_count : length (lowest_places root n) ≡ root_count p n
  lowest_count =
      sym (sum_ones (lowest_places root n))
      ∙ lowest_weights root n leading.inside (λ r. 1) n (omega arith)
      ∙ sum_to_same (weigh root (λ r. 1) n) (λ r. cond (eqb (p r) r) 1 0) n (λ r l. same r l (ℕ_discrete (p r) r))
      ∙ sum_to_count (λ r. eqb (p r) r) n
    where
      same : (r : ℕ) → r < n → Dec (p r ≡ r) → weigh root (λ r. 1) n r ≡ cond (eqb (p r) r) 1 0
      same r l (yes e) =
          let met = size_some root n r r l (root_own r l e) in
          rw (eq-eqb _ _ e, ne_eqb (size n root r) 0 (λ z. omega arith)) refl
      same r l (no d) =
          let none = size_none root n r (λ i h e. d (rw e at (leads_root (leading.leads i h)))) in
          rw (ne_eqb _ _ d, eq-eqb _ 0 none) refl
