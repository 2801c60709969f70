-- Sections: how the records of one kind follow one another in a file, and what holds of them, written or read.
--
--   Section size m t ts rest   from t on stand records of that size with the mark m, at the places ts, and then rest
--   records_next, records_here, records_end  what `records` gives at a record of the section, and at its end
--   records_section     `records` gives a section
--   section_at          what is read at record i of a section stands size × i bytes behind its start
--   Layout A S          how a record for an A is written and read, and checked with the S that the records before it leave
--   places k t          the rest of the file at each record of the kind k from t on
--   refusal k b ts      the first refusal of the records at ts, where b stands before the first
--   length_records      the bytes of records have the record's size each
--   section_skip        what follows the bytes of records stands behind them
--   section_back        the bytes of records, in front of another record, are read back
--   Passes k t b l      none of the written records l, in front of t, is refused, where b stands before the first
--   section_passes      so their section is not refused
--   section_other       where another mark begins what follows, none of written records in front of it has that mark either
--   written_read, written_count, written_behind, written_passes   a section that stands in a file as it was written: it is
--                       read back, counted, followed by what stands behind it, and not refused
--   section_fits        records that are not refused are whole, so their bytes are in the file
--   section_front       records that are not refused are written back, in front of what follows
use mathlib.Core.Path.{◌≡◌, refl, ◌∙◌, sym, ap}
use mathlib.Core.Bool.{false, cond}
use mathlib.Core.List.{List, [], ◌∷◌, ◌++◌, map, append_assoc}
use Prim.Native.Nat.{ℕ, zero, suc, ◌+◌, ◌*◌, ◌≤◌, ◌<◌}
use native.Mathlib.Omega.{arith}
use native.Mathlib.Nat.{mul-zero, mul-suc, add_comm}
use lib.Dec.{eqb}
use lib.ListN.{length, get_or, drop, length-append, length-drop, length-map}
use lib.Seq.{drop-drop, drop_at, get_or-drop}
use borrow.Author.Tests.{eqb-true, eqb-false, eq-eqb, ne_eqb}
use Rattle.basics.proofs.Conditions.{split}
use Rattle.jobfile.specs.Format.{word, first_refusal}
use Rattle.jobfile.specs.Meaning.{records_within, records}
use Rattle.jobfile.specs.Written.{records_bytes}
use Rattle.jobfile.specs.Admitted.{Bytes}
use Rattle.jobfile.proofs.Refusals.{through}

pub data Section (size m : ℕ) : List ℕ → List (List ℕ) → List ℕ → Type 0 where
  over : {t : List ℕ} → Section size m t [] t
  more : {t : List ℕ} {ts : List (List ℕ)} {rest : List ℕ} → word t ≡ m → Section size m (drop size t) ts rest
      → Section size m t (t ∷ ts) rest

-- The mark is not 0, and a record is not empty: both hold of the numbers of the format by computation.
module _ (size m : ℕ) (moves : 0 < size) (marked : eqb 0 m ≡ false) where
  left_over : (n : ℕ) (t : List ℕ) → length t ≤ suc n → length (drop size t) ≤ n
  left_over n t l = rw length-drop (omega arith)

  enough : (n k : ℕ) (t : List ℕ) → length t ≤ n → length t ≤ k → records_within n size m t ≡ records_within k size m t
  unfolding records_within
  enough zero zero t l r = refl
  enough zero (suc k) [] l r = rw marked
  enough zero (suc k) (x ∷ t) l r = absurd (omega arith)
  enough (suc n) zero [] l r = rw marked
  enough (suc n) zero (x ∷ t) l r = absurd (omega arith)
  enough (suc n) (suc k) t l r =
      ap (λ (ts : List (List ℕ)). cond (eqb (word t) m) (t ∷ ts) []) (enough n k (drop size t) (left_over n t l) (left_over k t r))

  pub records_next : (t : List ℕ) → word t ≡ m → records size m t ≡ t ∷ records size m (drop size t)
  unfolding records records_within
  records_next [] e = absurd (omega (arith, eqb-false 0 m marked e))
  records_next (x ∷ t) e =
      let u : List ℕ = x ∷ t in
      rw (eq-eqb (word u) m e)
      (ap (λ (ts : List (List ℕ)). u ∷ ts)
      (enough (length t) (length (drop size u)) (drop size u) (left_over (length t) u (omega arith)) (omega arith)))

  -- the same at a place of a file
  pub records_here : (s : List ℕ) (at : ℕ) → word (drop at s) ≡ m
      → records size m (drop at s) ≡ drop at s ∷ records size m (drop (at + size) s)
  records_here s at e = records_next (drop at s) e ∙ ap (λ (t : List ℕ). drop at s ∷ records size m t) (drop-drop size at s)

  pub records_end : (t : List ℕ) → (word t ≡ m → ⊥) → records size m t ≡ []
  unfolding records records_within
  records_end [] e = refl
  records_end (x ∷ t) e = let u : List ℕ = x ∷ t in rw (ne_eqb (word u) m e)

  section_within : (n : ℕ) (t : List ℕ) → Section size m t (records_within n size m t) (drop (size * length (records_within n size m t)) t)
  unfolding records_within
  section_within zero t = rw mul-zero over
  section_within (suc n) t =
      split (eqb (word t) m)
      (λ e. rw (e, mul-suc, add_comm, ← drop-drop) (more (eqb-true (word t) m e) (section_within n (drop size t))))
      (λ e. rw (e, mul-zero) over)

  pub records_section : (t : List ℕ) → Section size m t (records size m t) (drop (size * length (records size m t)) t)
  unfolding records
  records_section t = section_within (length t) t

pub section_at {ℓ} : {A : Type ℓ} {size m : ℕ} {t rest : List ℕ} {ts : List (List ℕ)} → Section size m t ts rest
    → (read : List ℕ → A) (i : ℕ) (none : A) → i < length ts → get_or (map read ts) i none ≡ read (drop (size * i) t)
section_at over read i none l = absurd (omega arith)
section_at (more e s) read zero none l = rw mul-zero
section_at (more e s) read (suc i) none l = rw (mul-suc, add_comm, ← drop-drop) (section_at s read i none (omega arith))

pub bytes_drop : (n : ℕ) (s : List ℕ) → Bytes s → Bytes (drop n s)
bytes_drop n s b i = rw get_or-drop (b (n + i))

pub record Layout (A S : Type 0) : Type 0 where
  pub size : ℕ
  pub mark : ℕ
  pub bytes : A → List ℕ
  pub at : List ℕ → A
  pub check : S → List ℕ → ℕ
  pub next : S → List ℕ → S
  -- a record is not empty, and its mark is not 0, as which the file's end is read
  pub some : 0 < size
  pub marked : eqb 0 mark ≡ false
  -- what is written has the size and the mark, and is read back
  pub sized : (a : A) → length (bytes a) ≡ size
  pub first : (a : A) (t : List ℕ) → word (bytes a ++ t) ≡ mark
  pub back : (a : A) (t : List ℕ) → at (bytes a ++ t) ≡ a
  -- what is not refused is whole, and is written back
  pub whole : (before : S) (t : List ℕ) → check before t ≡ 0 → size ≤ length t
  pub front : (before : S) (t : List ℕ) → check before t ≡ 0 → word t ≡ mark → Bytes t → bytes (at t) ++ drop size t ≡ t

module _ {A S : Type 0} (k : Layout A S) where
  abbrev pub places : List ℕ → List (List ℕ)
  places t = records k.size k.mark t

  abbrev pub refusal : S → List (List ℕ) → ℕ
  refusal before ts = first_refusal k.check k.next before ts

  pub length_records : (l : List A) → length (records_bytes k.bytes l) ≡ k.size * length l
  length_records [] = sym (mul-zero k.size)
  length_records (a ∷ l) = rw (length-append, k.sized a, length_records l, mul-suc) (add_comm k.size (k.size * length l))

  section_skip : (l : List A) (t : List ℕ) → drop (k.size * length l) (records_bytes k.bytes l ++ t) ≡ t
  section_skip l t = drop_at (records_bytes k.bytes l) t (k.size * length l) (length_records l)

  -- the section of written records begins with the first of them
  places_next : (a : A) (l : List A) (t : List ℕ) → let rest = records_bytes k.bytes l ++ t in
      places (records_bytes k.bytes (a ∷ l) ++ t) ≡ (k.bytes a ++ rest) ∷ places rest
  places_next a l t =
      let rest = records_bytes k.bytes l ++ t in
      let behind : drop k.size (k.bytes a ++ rest) ≡ rest = drop_at (k.bytes a) rest k.size (k.sized a) in
      ap places (append_assoc (k.bytes a) (records_bytes k.bytes l) t)
      ∙ records_next k.size k.mark k.some k.marked (k.bytes a ++ rest) (k.first a rest)
      ∙ ap (λ (u : List ℕ). (k.bytes a ++ rest) ∷ places u) behind

  abbrev pub Passes : List ℕ → S → List A → Type 0
  Passes t before [] = Unit {0}
  Passes t before (a ∷ l) =
      let here = k.bytes a ++ (records_bytes k.bytes l ++ t) in (k.check before here ≡ 0) × Passes t (k.next before here) l

  module _ (t : List ℕ) (other : word t ≡ k.mark → ⊥) where
    section_back : (l : List A) → map k.at (places (records_bytes k.bytes l ++ t)) ≡ l
    section_back [] = rw (records_end k.size k.mark k.some k.marked t other)
    section_back (a ∷ l) = rw (places_next a l t) (λ i. k.back a (records_bytes k.bytes l ++ t) i ∷ section_back l i)

    section_passes : (before : S) (l : List A) → Passes t before l → refusal before (places (records_bytes k.bytes l ++ t)) ≡ 0
    unfolding first_refusal
    section_passes before [] p = rw (records_end k.size k.mark k.some k.marked t other)
    section_passes before (a ∷ l) p =
        let next = k.next before (k.bytes a ++ (records_bytes k.bytes l ++ t)) in
        rw (places_next a l t, p.0) (section_passes next l p.1)

  pub section_other : (m : ℕ) (l : List A) (t : List ℕ) → (k.mark ≡ m → ⊥) → (word t ≡ m → ⊥)
      → word (records_bytes k.bytes l ++ t) ≡ m → ⊥
  section_other m [] t here behind e = behind e
  section_other m (a ∷ l) t here behind e =
      here (sym (k.first a (records_bytes k.bytes l ++ t)) ∙ ap word (sym (append_assoc (k.bytes a) (records_bytes k.bytes l) t)) ∙ e)

  module _ (s : List ℕ) (start : ℕ) (l : List A) (t : List ℕ) (here : drop start s ≡ records_bytes k.bytes l ++ t)
      (other : word t ≡ k.mark → ⊥) where
    pub written_read : map k.at (places (drop start s)) ≡ l
    written_read = rw here (section_back t other l)

    pub written_count : length (places (drop start s)) ≡ length l
    written_count = sym (length-map (places (drop start s)) k.at) ∙ ap length written_read

    pub written_behind : drop (start + k.size * length (places (drop start s))) s ≡ t
    written_behind = rw (written_count, ← drop-drop, here) (section_skip l t)

    pub written_passes : (before : S) → Passes t before l → refusal before (places (drop start s)) ≡ 0
    written_passes before p = rw here (section_passes t other before l p)

  pub section_fits : {t rest : List ℕ} {ts : List (List ℕ)} (before : S) → Section k.size k.mark t ts rest
      → refusal before ts ≡ 0 → k.size * length ts ≤ length t
  unfolding first_refusal
  section_fits before over e = rw mul-zero (omega arith)
  section_fits {t} before (more m s) e =
      let p = through (k.check before t) _ e in
      rw mul-suc (omega (arith, section_fits (k.next before t) s p.second, length-drop k.size t, k.whole before t p.first))

  pub section_front : {t rest : List ℕ} {ts : List (List ℕ)} (before : S) → Section k.size k.mark t ts rest
      → refusal before ts ≡ 0 → Bytes t → records_bytes k.bytes (map k.at ts) ++ rest ≡ t
  unfolding first_refusal
  section_front before over e b = refl
  section_front {t} before (more m s) e b =
      let p = through (k.check before t) _ e in
      append_assoc (k.bytes (k.at t)) _ _
      ∙ ap (λ (u : List ℕ). k.bytes (k.at t) ++ u) (section_front (k.next before t) s p.second (bytes_drop k.size t b))
      ∙ k.front before t p.first m b
