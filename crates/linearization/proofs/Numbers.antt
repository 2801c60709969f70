-- Entries as numbers in a lent buffer: from the one to the other and back, and what an insertion leaves there.
--
-- Main laws: entries_of_flat and flat_entries_of, each is the other's inverse; insertable_shown and inserted_shown, of a
-- buffer that shows entries with numbers past them; inserted_parts, an insertion by its parts of the buffer.
use mathlib.Core.Path.{◌≡◌, refl, sym, ap, ap₂, ◌∙◌, subst}
use mathlib.Core.List.{List, [], ◌∷◌, ◌++◌, append_assoc}
use Prim.Native.Nat.{ℕ, zero, suc, ◌+◌, ◌*◌, ◌≤◌}
use native.Mathlib.Omega.{arith}
use native.Mathlib.Numerals.{unary_clauses}
use lib.ListN.{length, take, drop, get_or, length-append}
use lib.Seq.{take_at, drop-append-add, length-take-le, take-nil, drop-nil, take-take}
use Rattle.linearization.specs.Entry.{Entry, insert, earlier, Rising, flat, entries_of, listed, inserted, Insertable}
use Rattle.linearization.proofs.Entries.{entry, insert_split, earlier_le}

pub length_flat : (es : List Entry) → length (flat es) ≡ 2 * length es
length_flat [] = refl
length_flat (e ∷ es) = omega (arith, length_flat es)

pub entries_of_flat : (es : List Entry) → entries_of (flat es) ≡ es
entries_of_flat [] = refl
entries_of_flat (e ∷ es) = ap {B = List Entry} (λ r. e ∷ r) (entries_of_flat es)

pub flat_entries_of : (n : ℕ) (numbers : List ℕ) → length numbers ≡ 2 * n → flat (entries_of numbers) ≡ numbers
flat_entries_of n [] even = refl
flat_entries_of n (p ∷ []) even = absurd (omega arith)
flat_entries_of zero (p ∷ q ∷ numbers) even = absurd (omega arith)
flat_entries_of (suc n) (p ∷ q ∷ numbers) even = ap {B = List ℕ} (λ r. p ∷ q ∷ r) (flat_entries_of n numbers (omega arith))

pub length_entries_of : (n : ℕ) (numbers : List ℕ) → length numbers ≡ 2 * n → length (entries_of numbers) ≡ n
length_entries_of n [] even = omega arith
length_entries_of n (p ∷ []) even = absurd (omega arith)
length_entries_of zero (p ∷ q ∷ numbers) even = absurd (omega arith)
length_entries_of (suc n) (p ∷ q ∷ numbers) even = ap suc (length_entries_of n numbers (omega arith))

flat_take : (k : ℕ) (es : List Entry) → flat (take k es) ≡ take (2 * k) (flat es)
flat_take zero es = refl
flat_take (suc k) [] = sym (take-nil (2 * suc k))
flat_take (suc k) (e ∷ es) = simp unary_clauses (ap {B = List ℕ} (λ r. e.point ∷ e.request ∷ r) (flat_take k es))

flat_drop : (k : ℕ) (es : List Entry) → flat (drop k es) ≡ drop (2 * k) (flat es)
flat_drop zero es = refl
flat_drop (suc k) [] = sym (drop-nil (2 * suc k))
flat_drop (suc k) (e ∷ es) = simp unary_clauses (flat_drop k es)

flat_append : (es fs : List Entry) → flat (es ++ fs) ≡ flat es ++ flat fs
flat_append [] fs = refl
flat_append (e ∷ es) fs = ap {B = List ℕ} (λ r. e.point ∷ e.request ∷ r) (flat_append es fs)

-- ---- a buffer that shows entries

module _ (es : List Entry) (rest : List ℕ) where
  listed_shown : listed (flat es ++ rest) (length es) ≡ es
  listed_shown = rw (take_at (flat es) rest (2 * length es) (length_flat es)) (entries_of_flat es)

  pub insertable_shown : 2 ≤ length rest → Rising 0 es → Insertable (flat es ++ rest) (length es)
  insertable_shown room rising =
      record {
        room = omega (arith, length-append (flat es) rest, length_flat es);
        rising = subst (Rising 0) (sym listed_shown) rising;
      }

  pub inserted_shown :
      (point request : ℕ) → inserted (flat es ++ rest) (length es) point request ≡ flat (insert point request es) ++ drop 2 rest
  unfolding inserted
  inserted_shown point request =
      let past : drop (2 * length es + 2) (flat es ++ rest) ≡ drop 2 rest =
      ap (λ k. drop (k + 2) (flat es ++ rest)) (sym (length_flat es)) ∙ drop-append-add (flat es) rest 2 in
      ap₂ (λ fs tail. flat (insert point request fs) ++ tail) listed_shown past

-- ---- the first entries of a buffer

pub listed_suc :
    (n : ℕ) (numbers : List ℕ) → 2 * n + 2 ≤ length numbers →
    listed numbers (suc n) ≡ listed numbers n ++ (entry (get_or numbers (2 * n) 0) (get_or numbers (2 * n + 1) 0) ∷ [])
listed_suc n [] room = absurd (omega arith)
listed_suc n (p ∷ []) room = absurd (omega arith)
listed_suc zero (p ∷ q ∷ numbers) room = refl
listed_suc (suc n) (p ∷ q ∷ numbers) room =
    simp unary_clauses (ap {B = List Entry} (λ r. entry p q ∷ r) (simp unary_clauses at (listed_suc n numbers (omega arith))))

module _ (numbers : List ℕ) (n : ℕ) (room : 2 * n ≤ length numbers) where
  pub length_listed : length (listed numbers n) ≡ n
  length_listed = length_entries_of n (take (2 * n) numbers) (length-take-le (2 * n) numbers room)

  flat_listed : flat (listed numbers n) ≡ take (2 * n) numbers
  flat_listed = flat_entries_of n (take (2 * n) numbers) (length-take-le (2 * n) numbers room)

  -- the buffer after an insertion at position k, by its parts
  pub inserted_parts :
      (point request k : ℕ) → k ≡ earlier point (listed numbers n) →
      inserted numbers n point request
      ≡ take (2 * k) numbers ++ point ∷ request ∷ (drop (2 * k) (take (2 * n) numbers) ++ drop (2 * n + 2) numbers)
  unfolding inserted
  inserted_parts point request k is =
      let es = listed numbers n in
      let within : 2 * k ≤ 2 * n = omega (arith, earlier_le point es, length_listed) in
      let front : flat (take k es) ≡ take (2 * k) numbers =
      flat_take k es ∙ ap (take (2 * k)) flat_listed ∙ take-take (2 * k) (2 * n) numbers within in
      let behind : flat (drop k es) ≡ drop (2 * k) (take (2 * n) numbers) = flat_drop k es ∙ ap (drop (2 * k)) flat_listed in
      let cut : insert point request es ≡ take k es ++ entry point request ∷ drop k es = rw is (insert_split point request es) in
      rw (cut, flat_append, front, behind, append_assoc)
