-- Bytes stored one after the other into a buffer, and what the loops over rights, requests, pairs and runs keep.
--
--   sets_after, stored_on   stores that follow on others are one row of stores
--   sets_front          what stores from the front leave
--   request_written     a mark, two bytes and two words are a request's record
--   Storing k out₀ start all left at out   of the records `all` from the byte start on, those before `left` are stored
--   Front out vs at after   the numbers vs, up to the byte at, stand in front of the buffer out, which is then after
--   front_on            records that are stored behind them stand in front too
--   rights_in_rows, requests_in_rows, pairs_in_rows   what is not refused fits its record's fields, row by row
--   RunsStored out₀ start gs i at out      the runs of the grants before the i-th are stored, up to the byte at
use Rattle.std.proofs.Common.{◌≡◌, ℕ, zero, suc, ◌+◌, ◌*◌, ◌<◌, ◌≤◌, List, [], ◌∷◌, ◌++◌, map, length, get_or, drop, set, sym, ap}
use Rattle.std.proofs.Common.{◌∙◌, add-zero, mul-zero, mul-suc, arith, length-append, drop_of_length-le}
use Rattle.std.proofs.lemmas.List.{get_or-map}
use lib.ListN.{length-map}
use lib.Seq.{sets, sets-eq, length-sets}
use Rattle.job.specs.declared.Wait.{Wait}
use Rattle.job.specs.declared.Right.{Right}
use Rattle.jobfile.specs.declared.Fields.{Fields}
use Rattle.jobfile.specs.Format.{request_mark, word_bytes, first_refusal, fields_refusal, asked_refusal, request_of}
use Rattle.jobfile.specs.Format.{no_pair}
use Rattle.job.specs.Job.{most_nodes, most_heads, most_requests, every_right}
use Rattle.jobfile.specs.Written.{records_bytes, request_bytes, longest_runs}
use Rattle.jobfile.specs.Draft.{each_right_refusal, each_refusal, pairs_refusal}
use Rattle.jobfile.specs.Admitted.{Pairs}
use Rattle.jobfile.proofs.KindNumbers.{kind_written}
use Rattle.jobfile.proofs.Refusals.{through, fit}
use Rattle.jobfile.proofs.Pairs.{rising_each, rising_checked}
use Rattle.jobfile.proofs.Records.{Layout, length_records}
use Rattle.jobfile.proofs.Layouts.{run_layout}
use Rattle.writer.proofs.Rights.{right_in, Narrow, rights_narrow}
use Rattle.writer.proofs.Requests.{fields_in}
use Rattle.writer.proofs.Pairs.{pair_in}

pub sets_after : (l vs ws : List ℕ) (i k : ℕ) → k ≡ i + length vs → sets (sets l i vs) k ws ≡ sets l i (vs ++ ws)
sets_after l [] ws i k e = let z : k ≡ i = omega arith in rw z
sets_after l (v ∷ vs) ws i k e = sets_after (set l i v) vs ws (suc i) k (omega arith)

pub stored_on : (l before after vs ws : List ℕ) (i k : ℕ) → k ≡ i + length vs → before ≡ sets l i vs → after ≡ sets before k ws
    → after ≡ sets l i (vs ++ ws)
stored_on l before after vs ws i k seam first second = second ∙ ap (λ (t : List ℕ). sets t k ws) first ∙ sets_after l vs ws i k seam

pub sets_front : (l vs : List ℕ) → length vs ≤ length l → sets l 0 vs ≡ vs ++ drop (length vs) l
sets_front l vs fits = let z : 0 + length vs ≡ length vs = omega arith in rw z at (sets-eq vs l 0 (omega arith))

-- A request's numbers are those of its record, where its kind is admitted.
pub request_written : (q : Fields) → fields_refusal most_nodes most_heads q ≡ 0
    → word_bytes request_mark ++ (q.head ∷ q.kind ∷ []) ++ word_bytes q.x ++ word_bytes q.y ≡ request_bytes (request_of q)
request_written q fits =
    let f = fit most_nodes most_heads q fits in
    rw (kind_written q.kind f.some_kind f.few_kinds)

-- The records `left` of `all` are to be stored from the byte `at` on, those before them are stored.
pub record Storing {A S : Type 0} (k : Layout A S) (out₀ : List ℕ) (start : ℕ) (all left : List A) (at : ℕ) (out : List ℕ) : Type 0 where
  pub size : length out ≡ length out₀
  -- with the records that are left, the position and the buffer are as they have to be
  pub place : at + k.size * length left ≡ start + k.size * length all
  pub same : sets out at (records_bytes k.bytes left) ≡ sets out₀ start (records_bytes k.bytes all)

module _ {A S : Type 0} {k : Layout A S} {out₀ : List ℕ} {start : ℕ} {all left : List A} {at : ℕ} {out : List ℕ}
    (storing : Storing k out₀ start all left at out) where
  module _ (a : A) (rest : List A) (next : left ≡ a ∷ rest) where
    further : at + k.size + k.size * length rest ≡ start + k.size * length all
    further = omega (arith, rw (next, mul-suc) at storing.place)

    pub record_room : start + k.size * length all ≤ length out₀ → at + k.size ≤ length out
    record_room room = omega (arith, further, storing.size)

    pub storing_on : (after : List ℕ) → after ≡ sets out at (k.bytes a) → Storing k out₀ start all rest (at + k.size) after
    storing_on after store =
        record {
          size = ap length store ∙ length-sets out at (k.bytes a) ∙ storing.size;
          place = further;
          same =
              ap (λ (t : List ℕ). sets t (at + k.size) (records_bytes k.bytes rest)) store
              ∙ sets_after out (k.bytes a) (records_bytes k.bytes rest) at (at + k.size) (ap (λ n. at + n) (sym (k.sized a)))
              ∙ sym (ap (λ l. sets out at (records_bytes k.bytes l)) next)
              ∙ storing.same;
        }

  module _ (none : left ≡ []) where
    pub stored : out ≡ sets out₀ start (records_bytes k.bytes all)
    stored = sym (ap (λ l. sets out at (records_bytes k.bytes l)) none) ∙ storing.same

    pub stored_end : at ≡ start + k.size * length all
    stored_end = rw (none, mul-zero, add-zero) at storing.place

-- What stands in front of a buffer, and records behind it.
pub record Front (out vs : List ℕ) (at : ℕ) (after : List ℕ) : Type 0 where
  pub place : at ≡ length vs
  pub same : after ≡ sets out 0 vs

pub front_on : {A S : Type 0} (k : Layout A S) (l : List A) {out vs : List ℕ} {at : ℕ} {before : List ℕ} → Front out vs at before
    → (end : ℕ) (after : List ℕ) → end ≡ at + k.size * length l → after ≡ sets before at (records_bytes k.bytes l)
    → Front out (vs ++ records_bytes k.bytes l) end after
front_on k l {out} {vs} {at} {before} front end after is store =
    let bytes = records_bytes k.bytes l in
    record {
      place = rw length-append (omega (arith, length_records k l, front.place));
      same = stored_on out before after vs bytes 0 at (omega (arith, front.place)) front.same store;
    }

-- Rights, requests and pairs that are not refused fit their fields, row by row.
pub rights_in_rows : (rows : List (List ℕ)) (rs : List Right) → map right_in rows ≡ rs → length rs ≤ most_heads
    → each_right_refusal most_heads 0 rs ≡ 0 → (n : ℕ) (row : List ℕ) → n < length rows → row ≡ get_or rows n row → Narrow (right_in row)
rights_in_rows rows rs is few e n row l at =
    let none = every_right 0 in
    let same : get_or rs n none ≡ right_in row =
    sym (ap (λ (t : List Right). get_or t n none) is) ∙ get_or-map right_in rows n row none l ∙ sym (ap right_in at) in
    let among : n < length rs = omega (arith, ap length is, length-map rows right_in) in
    rw same at (rights_narrow rs few e n none among)

pub requests_in_rows : (rows : List (List ℕ)) → each_refusal most_nodes most_heads [] (map fields_in rows) ≡ 0
    → (n : ℕ) (row : List ℕ) → n < length rows → row ≡ get_or rows n row → fields_refusal most_nodes most_heads (fields_in row) ≡ 0
unfolding first_refusal
requests_in_rows [] e n row l at = absurd (omega arith)
requests_in_rows (first ∷ rows) e zero row l at =
    let asked = through (asked_refusal most_nodes most_heads [] (fields_in first)) _ e in
    ap (λ r. fields_refusal most_nodes most_heads (fields_in r)) at
    ∙ (through (fields_refusal most_nodes most_heads (fields_in first)) _ asked.first).first
requests_in_rows (first ∷ rows) e (suc n) row l at =
    requests_in_rows rows (through (asked_refusal most_nodes most_heads [] (fields_in first)) _ e).second n row (omega arith) at

pub pairs_in_rows : (rows : List (List ℕ)) (ws : List Wait) → map pair_in rows ≡ ws → pairs_refusal most_requests no_pair ws ≡ 0
    → (n : ℕ) (row : List ℕ) → n < length rows → row ≡ get_or rows n row → Pairs most_requests (pair_in row)
pairs_in_rows rows ws is e n row l at =
    let same : get_or ws n no_pair ≡ pair_in row =
    sym (ap (λ (t : List Wait). get_or t n no_pair) is) ∙ get_or-map pair_in rows n row no_pair l ∙ sym (ap pair_in at) in
    let among : n < length ws = omega (arith, ap length is, length-map rows pair_in) in
    rw same at (rising_each most_requests no_pair ws (rising_checked most_requests no_pair ws e) n no_pair among)

pub record RunsStored (out₀ : List ℕ) (start : ℕ) (gs : List ℕ) (i at : ℕ) (out : List ℕ) : Type 0 where
  pub within : i ≤ length gs
  pub storing : Storing (run_layout 0) out₀ start (longest_runs gs) (longest_runs (drop i gs)) at out
