-- The loops over the sections of a file: each invariant says that what is left gives what the whole gives.
--
--   ReadTo k s start none at before count   the records of the kind k from `start` to `at` are read, `count` of them; `none`
--                                           stands before the first and `before` before the next
--   runs_between start at                   how many runs there are from the first to a place
--   RunsTo s h start at before grants       so many of them are read, and these are their grants
--   X-start, X-next, X-refused, X-end       the invariant holds at first, after a record, and what it gives at each way out
--   records_told, rights_missing, rights_whole   and what it gives where the section ends
--   record_marked                           a whole record has its mark
--   record_short, wait_short, run_short     what has the mark but is no whole record is cut short, and so refused
use mathlib.Core.Path.{◌≡◌, sym, ap, ◌∙◌}
use mathlib.Core.Bool.{true, false, true≢false}
use mathlib.Core.List.{List, [], ◌∷◌, map}
use Prim.Native.Nat.{ℕ, ◌+◌, ◌*◌, ◌-◌, ◌/◌, ◌≤◌, ◌<◌}
use native.Mathlib.Omega.{arith}
use native.Mathlib.Nat.{mul-suc}
use native.Mathlib.Numerals.{add-one}
use lib.Dec.{ltb}
use lib.ListN.{length, get_or, drop, length-drop, length-append, length-replicate}
use borrow.Author.Tests.{eq-eqb, ne_eqb, eqb-true}
use Rattle.basics.proofs.Conditions.{split}
use Rattle.job.specs.declared.Wait.{Wait}
use Rattle.jobfile.specs.declared.Run.{Run}
use Rattle.jobfile.specs.Format.{right_mark, wait_mark, run_mark, job_size, wait_size, run_size, most_grants, word, ◌then◌, first_refusal}
use Rattle.jobfile.specs.Format.{no_pair}
use Rattle.jobfile.specs.Meaning.{records, right_record_refusal, rights_refusal, missing_refusal, right_records}
use Rattle.jobfile.specs.Meaning.{requests_start, wait_at, wait_refusal, run_at, run_refusal, full_run, granted}
use Rattle.jobfile.proofs.Records.{records_here, records_end, Layout, places, refusal}
use Rattle.jobfile.proofs.Layouts.{right_layout, wait_layout, run_layout}
use Rattle.records.specs.Records.{is_record}
use Rattle.reader.specs.Reader.{Records, records_of, right_section_of, run_section_of}

module _ {A S : Type 0} (k : Layout A S) (s : List ℕ) (start : ℕ) (none : S) where
  pub record ReadTo (at : ℕ) (before : S) (count : ℕ) : Type 0 where
    pub within : at ≤ length s
    pub place : at ≡ start + k.size * count
    pub number : refusal k before (places k (drop at s)) ≡ refusal k none (places k (drop start s))
    pub counted : count + length (places k (drop at s)) ≡ length (places k (drop start s))

module _ {A S : Type 0} {k : Layout A S} {s : List ℕ} {start : ℕ} {none : S} {at : ℕ} {before : S} {count : ℕ}
    (h : ReadTo k s start none at before count) where
  module _ (m : word (drop at s) ≡ k.mark) where
    pub record_here : places k (drop at s) ≡ drop at s ∷ places k (drop (at + k.size) s)
    record_here = records_here k.size k.mark k.some k.marked s at m

    -- at a record, the section's refusal is its own, or else that of the records behind it
    refusal_here : (k.check before (drop at s) then refusal k (k.next before (drop at s)) (places k (drop (at + k.size) s)))
        ≡ refusal k none (places k (drop start s))
    unfolding first_refusal
    refusal_here = rw record_here at h.number

    pub read_next : k.check before (drop at s) ≡ 0 → ReadTo k s start none (at + k.size) (k.next before (drop at s)) (count + 1)
    read_next e =
        record {
          within = omega (arith, k.whole before (drop at s) e, length-drop at s, h.within);
          place = rw (add-one, mul-suc) (omega (arith, h.place));
          number = rw e at refusal_here;
          counted = omega (arith, rw record_here at h.counted);
        }

    pub read_refused : (n : ℕ) → n ≡ k.check before (drop at s) → (n ≡ 0 → ⊥) → refusal k none (places k (drop start s)) ≡ n
    read_refused n e z = sym (rw (← e, ne_eqb n 0 z) at refusal_here)

  module _ (m : word (drop at s) ≡ k.mark → ⊥) where
    pub none_left : places k (drop at s) ≡ []
    none_left = records_end k.size k.mark k.some k.marked (drop at s) m

    pub read_passes : refusal k none (places k (drop start s)) ≡ 0
    unfolding first_refusal
    read_passes = sym (rw none_left at h.number)

    pub read_count : length (places k (drop start s)) ≡ count
    read_count = omega (arith, rw none_left at h.counted)

-- What the loop gives at each way out, of the records' count and refusal.
module _ {A S : Type 0} {k : Layout A S} {s : List ℕ} {start : ℕ} {none : S} {at : ℕ} {before : S} {count : ℕ}
    (h : ReadTo k s start none at before count) where
  pub records_refused : (n : ℕ) → word (drop at s) ≡ k.mark → n ≡ k.check before (drop at s) → (n ≡ 0 → ⊥)
      → record { number = n; count = 0 } ≡ records_of (refusal k none (places k (drop start s))) (places k (drop start s))
  unfolding records_of
  records_refused n m e z = rw (read_refused h m n e z, ne_eqb n 0 z)

  pub records_told : (word (drop at s) ≡ k.mark → ⊥)
      → record { number = 0; count = count } ≡ records_of (refusal k none (places k (drop start s))) (places k (drop start s))
  unfolding records_of
  records_told m = rw (read_passes h m, read_count h m)

-- The rights are followed by one more check: none is missing.
module _ (heads : ℕ) {s : List ℕ} {at count : ℕ} (h : ReadTo (right_layout heads) s job_size 0 at count count) where
  abbrev rights_told : Records
  rights_told = right_section_of heads (right_records s) (drop (requests_start s) s)

  pub rights_refused : (n : ℕ) → word (drop at s) ≡ right_mark → n ≡ right_record_refusal heads count (drop at s) → (n ≡ 0 → ⊥)
      → record { number = n; count = 0 } ≡ rights_told
  unfolding records_of
  rights_refused n m e z = simp (read_refused h m n e z, ne_eqb n 0 z)

  module _ (m : word (drop at s) ≡ right_mark → ⊥) (n : ℕ) (e : n ≡ missing_refusal heads count (drop at s)) where
    -- what is left to check stands where the loop ended
    rights_left : (rights_refusal heads 0 (right_records s)
        then missing_refusal heads (length (right_records s)) (drop (requests_start s) s)) ≡ n
    rights_left = rw (read_passes h m, read_count h m, ← h.place) (sym e)

    pub rights_missing : (n ≡ 0 → ⊥) → record { number = n; count = 0 } ≡ rights_told
    unfolding records_of
    rights_missing z = rw (rights_left, ne_eqb n 0 z)

    pub rights_whole : n ≡ 0 → record { number = 0; count = count } ≡ rights_told
    unfolding records_of
    rights_whole z = rw (rights_left, z, read_count h m)

module _ (size m : ℕ) where
  -- a whole record has its mark,
  pub record_marked : (t : List ℕ) → is_record size m t ≡ true → word t ≡ m
  record_marked t is = split (ltb (length t) size) (λ e. absurd (true≢false (sym (rw e at is)))) (λ e. eqb-true (word t) m (rw e at is))

  -- and what has the mark but is no whole record, is cut short
  record_short : (t : List ℕ) → is_record size m t ≡ false → word t ≡ m → ltb (length t) size ≡ true
  record_short t none mark =
      split (ltb (length t) size) (λ e. e) (λ e. absurd (true≢false (sym (eq-eqb (word t) m mark) ∙ rw e at none)))

pub wait_short : (requests : ℕ) (before : Wait) (t : List ℕ) → is_record wait_size wait_mark t ≡ false → word t ≡ wait_mark
    → 2 ≡ wait_refusal requests before t
unfolding wait_refusal
wait_short requests before t none mark = rw (record_short wait_size wait_mark t none mark)

pub run_short : (heads : ℕ) (before : Run) (t : List ℕ) → is_record run_size run_mark t ≡ false → word t ≡ run_mark
    → 2 ≡ run_refusal heads before t
unfolding run_refusal
run_short heads before t none mark = rw (record_short run_size run_mark t none mark)

module _ (requests : ℕ) {s : List ℕ} {start at : ℕ} {before : Wait} {count : ℕ}
    (h : ReadTo (wait_layout requests) s start no_pair at before count) where
  pub waits_next : (next : Wait) → word (drop at s) ≡ wait_mark → wait_refusal requests before (drop at s) ≡ 0
      → next ≡ wait_at (drop at s) → ReadTo (wait_layout requests) s start no_pair (at + wait_size) next (count + 1)
  waits_next next m e r = rw r (read_next h m e)

-- how many runs there are from the first to a place
abbrev pub runs_between : ℕ → ℕ → ℕ
runs_between start at = (at - start) / run_size

module _ (s : List ℕ) (heads start : ℕ) where
  pub record RunsTo (at : ℕ) (before : Run) (grants : ℕ) : Type 0 where
    pub to : ReadTo (run_layout heads) s start full_run at before (runs_between start at)
    pub few : grants ≤ most_grants * runs_between start at
    pub granting : grants + length (granted (map run_at (records run_size run_mark (drop at s))))
        ≡ length (granted (map run_at (records run_size run_mark (drop start s))))

module _ {s : List ℕ} {heads start at : ℕ} {before : Run} {grants : ℕ} (h : RunsTo s heads start at before grants) where
  one_more : runs_between start (at + run_size) ≡ runs_between start at + 1
  one_more = omega (arith, h.to.place)

  pub runs_next : (next : Run) → word (drop at s) ≡ run_mark → run_refusal heads before (drop at s) ≡ 0 → next ≡ run_at (drop at s)
      → next.count < 256 → RunsTo s heads start (at + run_size) next (grants + next.count)
  runs_next next m e r b =
      let n : next.count ≡ get_or (drop at s) 3 0 = ap (λ (r : Run). r.count) r in
      record {
        to = rw (r, one_more) (read_next h.to m e);
        few = omega (arith, h.few, one_more);
        granting = omega (arith, rw (record_here h.to m, length-append, length-replicate) at h.granting);
      }

  pub runs_refused : (n : ℕ) → word (drop at s) ≡ run_mark → n ≡ run_refusal heads before (drop at s) → (n ≡ 0 → ⊥)
      → record { number = n; count = 0; grants = 0 } ≡ run_section_of heads (records run_size run_mark (drop start s))
  unfolding run_section_of
  runs_refused n m e z = rw (read_refused h.to m n e z, ne_eqb n 0 z)

  pub runs_end : (word (drop at s) ≡ run_mark → ⊥)
      → record { number = 0; count = runs_between start at; grants = grants }
      ≡ run_section_of heads (records run_size run_mark (drop start s))
  unfolding run_section_of
  runs_end m =
      let grant : length (granted (map run_at (records run_size run_mark (drop start s)))) ≡ grants =
      omega (arith, rw (none_left h.to m) at h.granting) in
      rw (read_passes h.to m, read_count h.to m, grant)

-- What the ways out of `sections::read_rights` are shown by.
pub ruleset rights_ends = (rights_refused, rights_missing, rights_whole)
