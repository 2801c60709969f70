-- Laws of entries: what an insertion changes, and how the order of rising entries is the order of their points.
--
--   entry point request   the entry of two numbers
--   Free point es         no entry has that point
--   Below limit es        every point is less than the limit
use mathlib.Core.Path.{◌≡◌, refl, sym, ap, ◌∙◌}
use mathlib.Core.Logic.{◌≢◌}
use mathlib.Core.Bool.{cond}
use mathlib.Core.List.Memᴰ
use mathlib.Core.List.{List, [], ◌∷◌, ◌++◌, Memᴰ}
use Prim.Native.Nat.{ℕ, suc, ◌≤◌, ◌<◌}
use native.Mathlib.Omega.{arith}
use lib.Dec.{eqb, ltb}
use lib.ListN.{length, take, drop}
use borrow.Author.Tests.{eq-eqb, ne_eqb, lt-ltb, le-ltb}
use Rattle.basics.proofs.Conditions.{split}
use Rattle.basics.proofs.Counts.{count_swap}
use Rattle.linearization.specs.Entry.{Entry, insert, earlier, Rising, empty, rises, occurrences}

abbrev pub entry : ℕ → ℕ → Entry
entry point request = record { point = point; request = request }

abbrev pub Free : ℕ → List Entry → Type 0
Free point es = (e : Entry) → Memᴰ e es → e.point ≢ point

abbrev pub Below : ℕ → List Entry → Type 0
Below limit es = (e : Entry) → Memᴰ e es → e.point < limit

-- ---- insertion

module _ (point request : ℕ) where
  -- an entry beyond all others goes in last
  pub insert_last : (es : List Entry) → Below point es → insert point request es ≡ es ++ (entry point request ∷ [])
  insert_last [] below = refl
  insert_last (e ∷ es) below =
      let first : e.point < point = below e (Memᴰ.head refl) in
      rw (le-ltb point e.point (omega arith)) (ap {B = List Entry} (λ r. e ∷ r) (insert_last es (λ f m. below f (Memᴰ.tail m))))

  pub length_insert : (es : List Entry) → length (insert point request es) ≡ suc (length es)
  length_insert [] = refl
  length_insert (e ∷ es) = split (ltb point e.point) (λ t. rw (t, length)) (λ t. rw (t, length) (ap suc (length_insert es)))

  -- an insertion lists its request once more and the others as often as before
  pub occurrences_insert : (q : ℕ) (es : List Entry) → occurrences q (insert point request es) ≡ occurrences q (entry point request ∷ es)
  occurrences_insert q [] = refl
  occurrences_insert q (e ∷ es) =
      split (ltb point e.point) (λ t. rw (t, occurrences))
      (λ t.
      rw (t, occurrences)
      (ap (λ n. cond (eqb e.request q) (suc n) n) (occurrences_insert q es)
      ∙ count_swap (eqb e.request q) (eqb request q) (occurrences q es)))

  pub occurrences_inserted : (es : List Entry) → occurrences request (insert point request es) ≡ suc (occurrences request es)
  occurrences_inserted es = occurrences_insert request es ∙ rw (eq-eqb request request refl)

  pub occurrences_other : (q : ℕ) (es : List Entry) → request ≢ q → occurrences q (insert point request es) ≡ occurrences q es
  occurrences_other q es d = occurrences_insert q es ∙ rw (ne_eqb request q d)

  -- where the entry goes in: behind the earlier ones
  pub insert_split :
      (es : List Entry) →
      insert point request es ≡ take (earlier point es) es ++ entry point request ∷ drop (earlier point es) es
  insert_split [] = refl
  insert_split (e ∷ es) =
      split (ltb point e.point) (λ t. rw (t, take, drop))
      (λ t. rw (t, take, drop) (ap {B = List Entry} (λ r. e ∷ r) (insert_split es)))

-- ---- occurrences

-- and one that is not listed is no entry's
pub occurrences_absent : {e : Entry} {es : List Entry} (q : ℕ) → occurrences q es ≡ 0 → Memᴰ e es → e.request ≢ q
occurrences_absent {e = e} {es = []} q zero-times member e-is = elim member [ ]
occurrences_absent {es = f ∷ es} q zero-times (Memᴰ.head same) e-is =
    let f_is : f.request ≡ q = ap (λ g. g.request) (sym same) ∙ e-is in
    let listed : suc (occurrences q es) ≡ 0 = rw (eq-eqb f.request q f_is) at zero-times in
    omega arith
occurrences_absent {es = f ∷ es} q zero-times (Memᴰ.tail member) e-is =
    split (eqb f.request q)
    (λ t. let listed : suc (occurrences q es) ≡ 0 = rw t at zero-times in omega arith)
    (λ t. occurrences_absent q (rw t at zero-times) member e-is)

-- ---- the order of rising entries

pub rising_member : {low : ℕ} {e : Entry} {es : List Entry} → Rising low es → Memᴰ e es → low < e.point
rising_member {e = e} (empty {low = low}) member = elim member [ ]
rising_member (rises first rest) (Memᴰ.head same) = omega (arith, ap (λ g. g.point) same)
rising_member (rises first rest) (Memᴰ.tail member) = omega (arith, rising_member rest member)

-- the entries in front of others that rise with them rise
pub rising_front : {low : ℕ} (es fs : List Entry) → Rising low (es ++ fs) → Rising low es
rising_front [] fs rising = empty
rising_front (e ∷ es) fs (rises first rest) = rises first (rising_front es fs rest)

-- ---- how many entries are earlier

pub earlier_le : (point : ℕ) (es : List Entry) → earlier point es ≤ length es
earlier_le point [] = omega arith
earlier_le point (e ∷ es) = split (ltb point e.point) (λ t. rw t (omega arith)) (λ t. rw t (omega (arith, earlier_le point es)))

-- a last entry that is later does not count
pub earlier_later : (point : ℕ) (es : List Entry) (e : Entry) → point < e.point → earlier point (es ++ (e ∷ [])) ≡ earlier point es
earlier_later point [] e h = rw (lt-ltb point e.point h)
earlier_later point (f ∷ es) e h = split (ltb point f.point) (λ t. rw t) (λ t. rw t (ap suc (earlier_later point es e h)))

-- where the last of rising entries is not later, all are earlier
pub earlier_last :
    {low : ℕ} (point : ℕ) (es : List Entry) (e : Entry) → Rising low (es ++ (e ∷ [])) → e.point ≤ point →
    earlier point (es ++ (e ∷ [])) ≡ suc (length es)
earlier_last point [] e rising h = rw (le-ltb point e.point h)
earlier_last point (f ∷ es) e (rises first rest) h =
    let f_lower : f.point < e.point = rising_member rest (Memᴰ.append_right es (Memᴰ.head refl)) in
    rw (le-ltb point f.point (omega arith)) (ap suc (earlier_last point es e rest h))
