-- The entries that a sheet shows: those of seen requests, each with its request's number on the sheet.
--
--   RisingOnce low es        the points rise strictly from above low, and no request is listed twice
--   shown_entries seen es    the entries that the sheet shows
--
-- Main laws: rising_same, rising entries that give each request the same point are the same; shown_same, so are the entries
-- that are shown of two line-ups that agree.
use mathlib.Core.Path.{◌≡◌, refl, sym, ap, ap₂, ◌∙◌}
use mathlib.Core.Logic.{◌≢◌}
use mathlib.Core.Bool.{Bool, true, cond, true≢false}
use mathlib.Core.List.{List, [], ◌∷◌, map, Memᴰ}
use Prim.Native.Nat.{ℕ, suc, ◌≤◌, ◌<◌}
use native.Mathlib.Omega.{arith}
use native.Mathlib.Decide.{ℕ_discrete, dec_lt}
use lib.Dec.{eqb}
use lib.ListN.{length, get_or, length-map, get_or-eq_default}
use borrow.Author.Tests.{eq-eqb, ne_eqb}
use Rattle.basics.specs.Count.{count}
use Rattle.basics.proofs.Conditions.{split}
use Rattle.basics.proofs.Lists.{get_or_mapped}
use Rattle.basics.proofs.Counts.{count_before}
use Rattle.basics.proofs.Passing.{passing_many, passing_at}
use Rattle.linearization.specs.Entry.{Entry, Rising, rises, occurrences}
use Rattle.linearization.proofs.Entries.{entry}
use Rattle.rules.specs.declared.Row.{Row}
use Rattle.sheet.specs.Sheet.{seen_numbers, number_of, point_in}
use Rattle.sheet.specs.Agree.{LineUp, Agree}
use Rattle.sheet.proofs.Numbers.{number_eqb}

-- ---- rising entries are known by their points

-- A request without an entry has the point 0.
pub data RisingOnce : ℕ → List Entry → Type 0 where
  none : {low : ℕ} → RisingOnce low []
  next : {low : ℕ} {e : Entry} {es : List Entry} → low < e.point → point_in es e.request ≡ 0 → RisingOnce e.point es
      → RisingOnce low (e ∷ es)

point_later : {low : ℕ} {es : List Entry} → RisingOnce low es → (q : ℕ) → 0 < point_in es q → low < point_in es q
point_later none q l = absurd (omega arith)
point_later {es = e ∷ es} (next first once rest) q l =
    split (eqb e.request q) (λ t. rw t first) (λ t. rw t (omega (arith, point_later rest q (rw t at l))))

point_first : (e : Entry) (es : List Entry) → point_in (e ∷ es) e.request ≡ e.point
point_first e es = rw (eq-eqb e.request e.request refl)

point_other : (e : Entry) (es : List Entry) (q : ℕ) → e.request ≢ q → point_in (e ∷ es) q ≡ point_in es q
point_other e es q d = rw (ne_eqb e.request q d)

module _ (e f : Entry) (es fs : List Entry) (same : (q : ℕ) → point_in (e ∷ es) q ≡ point_in (f ∷ fs) q) where
  -- a first entry has the least point, so that the two first entries are of one request
  first_same : 0 < e.point → 0 < f.point → RisingOnce e.point es → RisingOnce f.point fs → e.request ≡ f.request
  first_same l h left right = go (ℕ_discrete e.request f.request)
    where
      go : Dec (e.request ≡ f.request) → e.request ≡ f.request
      go (yes d) = d
      go (no d) =
          let there : point_in fs e.request ≡ e.point =
          sym (point_other f fs e.request (λ r. d (sym r))) ∙ sym (same e.request) ∙ point_first e es in
          let here : point_in es f.request ≡ f.point =
          sym (point_other e es f.request d) ∙ same f.request ∙ point_first f fs in
          absurd (omega (arith, point_later right e.request (omega arith), point_later left f.request (omega arith)))

  -- and without them the others' points still agree
  rest_same : e.request ≡ f.request → point_in es e.request ≡ 0 → point_in fs f.request ≡ 0
      → (q : ℕ) → point_in es q ≡ point_in fs q
  rest_same r left right q = go (ℕ_discrete e.request q)
    where
      go : Dec (e.request ≡ q) → point_in es q ≡ point_in fs q
      go (yes d) = ap (point_in es) (sym d) ∙ left ∙ sym right ∙ ap (point_in fs) (sym r ∙ d)
      go (no d) = sym (point_other e es q d) ∙ same q ∙ point_other f fs q (λ is. d (r ∙ is))

pub rising_same : {low low' : ℕ} {es fs : List Entry} → RisingOnce low es → RisingOnce low' fs
    → ((q : ℕ) → point_in es q ≡ point_in fs q) → es ≡ fs
rising_same none none same = refl
rising_same {fs = f ∷ fs} none (next l once right) same = absurd (omega (arith, same f.request, point_first f fs))
rising_same {es = e ∷ es} (next l once left) none same = absurd (omega (arith, same e.request, point_first e es))
rising_same {es = e ∷ es} {fs = f ∷ fs} (next l once left) (next h once' right) same =
    let request = first_same e f es fs same (omega arith) (omega arith) left right in
    let point = sym (point_first e es) ∙ same e.request ∙ ap (point_in (f ∷ fs)) request ∙ point_first f fs in
    ap₂ {C = List Entry} ◌∷◌ (ap₂ entry point request) (rising_same left right (rest_same e f es fs same request once once'))

-- ---- a line-up lists no request twice

point_absent : (q : ℕ) (es : List Entry) → occurrences q es ≡ 0 → point_in es q ≡ 0
point_absent q [] absent = refl
point_absent q (e ∷ es) absent =
    split (eqb e.request q)
    (λ t. let listed : suc (occurrences q es) ≡ 0 = rw t at absent in absurd (omega arith))
    (λ t. rw t (point_absent q es (rw t at absent)))

occurrences_tail : (q : ℕ) (e : Entry) (es : List Entry) → occurrences q es ≤ occurrences q (e ∷ es)
occurrences_tail q e es = split (eqb e.request q) (λ t. rw t (omega arith)) (λ t. rw t (omega arith))

rising_once : {low : ℕ} (es : List Entry) → Rising low es → ((e : Entry) → Memᴰ e es → occurrences e.request es ≤ 1)
    → RisingOnce low es
rising_once [] rising once = none
rising_once (e ∷ es) (rises first rest) once =
    let listed : suc (occurrences e.request es) ≤ 1 =
    rw (eq-eqb e.request e.request refl) at (once e (Memᴰ.head refl)) in
    next first (point_absent e.request es (omega arith))
    (rising_once es rest (λ f m. omega (arith, once f (Memᴰ.tail m), occurrences_tail f.request e es)))

-- ---- the entries that are shown

module _ (seen : ℕ → Bool) where
  abbrev pub shown_entries : List Entry → List Entry
  shown_entries [] = []
  shown_entries (e ∷ es) =
      cond (seen e.request) (entry e.point (number_of seen e.request) ∷ shown_entries es) (shown_entries es)

  -- a seen request keeps its point
  shown_point : (es : List Entry) (q : ℕ) → seen q ≡ true → point_in (shown_entries es) (number_of seen q) ≡ point_in es q
  shown_point [] q s = refl
  shown_point (e ∷ es) q s =
      split (seen e.request)
      (λ t. rw (t, number_eqb seen e.request q t s) (ap (cond (eqb e.request q) e.point) (shown_point es q s)))
      (λ t.
      let other : e.request ≢ q = λ d. true≢false (sym s ∙ ap seen (sym d) ∙ t) in
      rw (t, ne_eqb e.request q other) (shown_point es q s))

  -- and no other number has one
  shown_past : (n : ℕ) (es : List Entry) → ((e : Entry) → Memᴰ e es → e.request < n)
      → (i : ℕ) → count seen n ≤ i → point_in (shown_entries es) i ≡ 0
  shown_past n [] inside i l = refl
  shown_past n (e ∷ es) inside i l =
      let rest = shown_past n es (λ f m. inside f (Memᴰ.tail m)) i l in
      split (seen e.request)
      (λ t.
      let less = count_before seen e.request n t (inside e (Memᴰ.head refl)) in
      rw (t, ne_eqb (number_of seen e.request) i (omega arith)) rest)
      (λ t. rw t rest)

  shown_rising : {low low' : ℕ} {es : List Entry} → low ≤ low' → RisingOnce low' es → RisingOnce low (shown_entries es)
  shown_rising l none = none
  shown_rising {low = low} {es = e ∷ es} l (next first once rest) =
      let above : low < e.point = omega arith in
      split (seen e.request)
      (λ s. rw s (next above (shown_point es e.request s ∙ once) (shown_rising (omega arith) rest)))
      (λ s. rw s (shown_rising (omega arith) rest))

  shown_points : (n : ℕ) (es : List Entry) → ((e : Entry) → Memᴰ e es → e.request < n)
      → (i : ℕ) → point_in (shown_entries es) i ≡ get_or (map (point_in es) (seen_numbers seen n)) i 0
  shown_points n es inside i = go (dec_lt i (count seen n))
    where
      go : Dec (i < count seen n) → point_in (shown_entries es) i ≡ get_or (map (point_in es) (seen_numbers seen n)) i 0
      go (yes l) =
          let there = passing_at seen n i l in
          ap (point_in (shown_entries es)) (sym there.counted) ∙ shown_point es _ there.passes
          ∙ sym (get_or_mapped (point_in es) (seen_numbers seen n) i 0 0 (omega (arith, passing_many seen n)))
      go (no l) = shown_past n es inside i (omega arith)
          ∙ sym (get_or-eq_default (map (point_in es) (seen_numbers seen n)) 0
          (omega (arith, length-map (seen_numbers seen n) (point_in es), passing_many seen n)))

  shown_ordered : (report : List Row) (entries : List Entry) → LineUp report entries → RisingOnce 0 (shown_entries entries)
  shown_ordered report entries u =
      shown_rising (omega arith) (rising_once entries u.rising (λ e m. u.once e.request (u.requests e m)))

pub shown_same : (seen seen' : ℕ → Bool) (report report' : List Row) (entries entries' : List Entry)
    → LineUp report entries → LineUp report' entries' → Agree seen report entries seen' report' entries'
    → shown_entries seen entries ≡ shown_entries seen' entries'
shown_same seen seen' report report' entries entries' u u' agree =
    rising_same (shown_ordered seen report entries u) (shown_ordered seen' report' entries' u')
    (λ i.
    shown_points seen (length report) entries u.requests i ∙ ap (λ (points : List ℕ). get_or points i 0) agree.points
    ∙ sym (shown_points seen' (length report') entries' u'.requests i))
