-- What the search for an entry's place keeps, and how the code's pieces make an insertion.
--
--   Scanned numbers n point k   entries from the k-th on are later than the point
use mathlib.Core.Path.{◌≡◌, refl, sym, ap, ◌∙◌, subst}
use mathlib.Core.List.{List, [], ◌∷◌, ◌++◌, append_assoc}
use Prim.Native.Nat.{ℕ, zero, suc, ◌+◌, ◌*◌, ◌-◌, ◌≤◌, ◌<◌}
use native.Mathlib.Omega.{arith}
use lib.ListN.{length, take, drop, get_or, set}
use lib.Seq.{length-take-le, take-add, take-take, drop_at}
use borrow.Rule.Slice.PartMut.{put_mid, mid_len, Post-is}
use Rattle.linearization.specs.Entry.{earlier, Rising, listed, moved_up, inserted}
use Rattle.linearization.proofs.Entries.{entry, rising_front, earlier_le, earlier_later, earlier_last}
use Rattle.linearization.proofs.Numbers.{listed_suc, length_listed, inserted_parts}

pub record Scanned (numbers : List ℕ) (n point k : ℕ) : Type 0 where
  pub within : k ≤ n
  pub rising : Rising 0 (listed numbers k)
  -- the entries passed do not count
  pub same : earlier point (listed numbers k) ≡ earlier point (listed numbers n)

module _ (numbers : List ℕ) (n point : ℕ) (room : 2 * n ≤ length numbers) where
  -- the k-th entry is later: on to the one before
  pub scanned_on : (k : ℕ) → 0 < k → Scanned numbers n point k → point < get_or numbers (2 * (k - 1)) 0 → Scanned numbers n point (k - 1)
  scanned_on zero positive scanned later = absurd (omega arith)
  scanned_on (suc k) positive scanned later =
      let down : suc k - 1 ≡ k = omega arith in
      let place : 2 * (suc k - 1) ≡ 2 * k = omega arith in
      let cut = listed_suc k numbers (omega (arith, scanned.within)) in
      let last = entry (get_or numbers (2 * k) 0) (get_or numbers (2 * k + 1) 0) in
      let apart : point < last.point = subst (λ i. point < get_or numbers i 0) place later in
      rw down
      (record {
        within = omega (arith, scanned.within);
        rising = rising_front (listed numbers k) (last ∷ []) (subst (Rising 0) cut scanned.rising);
        same = sym (ap (earlier point) cut ∙ earlier_later point (listed numbers k) last apart) ∙ scanned.same;
      })

  -- it is not later: the new entry belongs behind it
  pub scanned_here :
      (k : ℕ) → 0 < k → Scanned numbers n point k → get_or numbers (2 * (k - 1)) 0 ≤ point →
      2 * (k - 1) + 2 ≡ 2 * earlier point (listed numbers n)
  scanned_here zero positive scanned not-later = absurd (omega arith)
  scanned_here (suc k) positive scanned not-later =
      let place : 2 * (suc k - 1) ≡ 2 * k = omega arith in
      let cut = listed_suc k numbers (omega (arith, scanned.within)) in
      let last = entry (get_or numbers (2 * k) 0) (get_or numbers (2 * k + 1) 0) in
      let behind : last.point ≤ point = subst (λ i. get_or numbers i 0 ≤ point) place not-later in
      let all : earlier point (listed numbers (suc k)) ≡ suc (length (listed numbers k)) =
      ap (earlier point) cut ∙ earlier_last point (listed numbers k) last (subst (Rising 0) cut scanned.rising) behind in
      omega (arith, all, scanned.same, length_listed numbers k (omega (arith, scanned.within)))

-- ---- the pieces together

-- the new entry belongs within the entries
pub position_within : (numbers : List ℕ) (n point : ℕ) → 2 * n ≤ length numbers → 2 * earlier point (listed numbers n) ≤ 2 * n
position_within numbers n point room = omega (arith, earlier_le point (listed numbers n), length_listed numbers n room)

-- two numbers stored behind a front
store_two :
    (front : List ℕ) (a b : ℕ) (rest : List ℕ) (point request : ℕ) →
    set (set (front ++ a ∷ b ∷ rest) (length front) point) (suc (length front)) request ≡ front ++ point ∷ request ∷ rest
store_two [] a b rest point request = refl
store_two (x ∷ front) a b rest point request = ap {B = List ℕ} (λ r. x ∷ r) (store_two front a b rest point request)

store_part :
    (at : ℕ) (front part rest : List ℕ) (point request : ℕ) → length front ≡ at → 2 ≤ length part →
    set (set (front ++ (take 2 part ++ rest)) at point) (at + 1) request ≡ front ++ point ∷ request ∷ rest
store_part at front [] rest point request seam room = absurd (omega arith)
store_part at front (a ∷ []) rest point request seam room = absurd (omega arith)
store_part at front (a ∷ b ∷ part) rest point request seam room =
    let above : at + 1 ≡ suc (length front) = omega arith in
    rw (above, ← seam) (store_two front a b rest point request)

-- a part of the first numbers is the first numbers of a part
drop_take : (a k : ℕ) (numbers : List ℕ) → a ≤ length numbers → drop a (take (a + k) numbers) ≡ take k (drop a numbers)
drop_take a k numbers within =
    ap (drop a) (take-add a k numbers) ∙ drop_at (take a numbers) (take k (drop a numbers)) a (length-take-le a numbers within)

-- the later entries moved up and the two numbers stored: an insertion
pub insertion_made :
    (numbers part : List ℕ) (n point request at : ℕ) →
    2 * (n + 1) ≤ length numbers →
    at ≡ 2 * earlier point (listed numbers n) →
    part ≡ moved_up (take (2 * n + 2 - at) (drop at numbers)) →
    set (set (put_mid at (2 * n + 2 - at) numbers part) at point) (at + 1) request ≡ inserted numbers n point request
insertion_made numbers part n point request at room is moved =
    let within : at ≤ 2 * n = omega (arith, position_within numbers n point (omega arith)) in
    let lent = take (2 * n + 2 - at) (drop at numbers) in
    let size : length lent ≡ 2 * n + 2 - at = mid_len at (2 * n + 2) numbers (omega arith) in
    let count : length lent - 2 ≡ 2 * n - at = omega arith in
    let whole : at + (2 * n - at) ≡ 2 * n = omega arith in
    let later : take (length lent - 2) lent ≡ drop at (take (2 * n) numbers) =
    rw (count, take-take (2 * n - at) (2 * n + 2 - at) (drop at numbers) (omega arith))
    (sym (drop_take at (2 * n - at) numbers (omega arith)) ∙ ap (λ k. drop at (take k numbers)) whole) in
    let past : drop (2 * n + 2 - at) (drop at numbers) ≡ drop (2 * n + 2) numbers = Post-is at (2 * n + 2) numbers (omega arith) in
    rw (moved, append_assoc, later, past)
    (store_part at (take at numbers) lent (drop at (take (2 * n) numbers) ++ drop (2 * n + 2) numbers) point request
    (length-take-le at numbers (omega arith)) (omega arith)
    ∙ rw is (sym (inserted_parts numbers n (omega arith) point request (earlier point (listed numbers n)) refl)))
