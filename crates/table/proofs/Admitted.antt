-- The tables that are admitted: what the refusals leave, and an admitted table as words and as nodes.
--
--   Passed b m z     the test b failed, and the others, m, came to z
--   Sane words i     the word of node i may stand in the table
--
-- Main laws: table_admitted, a table that is not refused is admitted; words_kept, its words are those of its nodes.
use mathlib.Core.Path.{◌≡◌, refl, sym, ap, ◌∙◌}
use mathlib.Core.Logic.{◌≢◌}
use mathlib.Core.Bool.{Bool, true, false, cond, true≢false}
use mathlib.Core.List.{List, map}
use Prim.Native.Nat.{ℕ, zero, suc, ◌-◌, ◌≤◌, ◌<◌}
use native.Mathlib.Omega.{arith}
use native.Mathlib.Decide.{ℕ_discrete}
use lib.Dec.{eqb, ltb, leb}
use lib.ListN.{length, length-map}
use borrow.Author.Tests.{ltb-false, leb-false}
use Rattle.word.specs.declared.Node.{Node}
use Rattle.word.specs.Word.{rank_of, parent_of, decode, encode, before, key, most_rank}
use Rattle.job.specs.Job.{most_nodes}
use Rattle.word.proofs.Laws.{before_key}
use Rattle.forest.proofs.Forest.{WellFormed}
use Rattle.rules.specs.Table.{at, parent, rank}
use Rattle.table.specs.Admitted.{word_at, is_faulty, any_faulty, table_refusal, Admitted}
use Rattle.table.specs.Touch.{Worded}
use Rattle.table.proofs.Words.{at_decoded, parent_decoded, rank_decoded, encode_words}

-- a chain of tests that came to z, which its first test does not give: that test failed, and the others came to z
pub record Passed {A : Type 0} (b : Bool) (m z : A) : Type 0 where
  pub first : b ≡ false
  pub others : m ≡ z

pub passed : {A : Type 0} {k m z : A} (b : Bool) → k ≢ z → cond b k m ≡ z → Passed b m z
passed true d e = absurd (d e)
passed false d e = record { first = refl; others = e }

-- ---- the words

-- one word fewer to look at
any_faulty_step : (words : List ℕ) (i : ℕ) → 0 < i → any_faulty words i ≡ cond (is_faulty words (i - 1)) true (any_faulty words (i - 1))
any_faulty_step words zero l = absurd (omega arith)
any_faulty_step words (suc k) l =
    let same : suc k - 1 ≡ k = omega arith in
    rw same refl

-- the word looked at is not faulty, and those before it come to what all do
pub passed_over : (words : List ℕ) (i : ℕ) (all : Bool) → any_faulty words i ≡ all → 0 < i → is_faulty words (i - 1) ≡ false
    → any_faulty words (i - 1) ≡ all
passed_over words i all same l e = sym (any_faulty_step words i l ∙ rw e refl) ∙ same

none_faulty : (words : List ℕ) (k : ℕ) → any_faulty words k ≡ false → (i : ℕ) → i < k → is_faulty words i ≡ false
none_faulty words zero e i l = absurd (omega arith)
none_faulty words (suc k) e i l =
    let tested = passed (is_faulty words k) true≢false e in
    go (ℕ_discrete i k) tested.first (none_faulty words k tested.others i)
  where
    go : Dec (i ≡ k) → is_faulty words k ≡ false → (i < k → is_faulty words i ≡ false) → is_faulty words i ≡ false
    go (yes d) here below = rw d here
    go (no d) here below = below (omega arith)

record Sane (words : List ℕ) (i : ℕ) : Type 0 where
  pub inside : parent_of (word_at words i) < length words
  pub rank : rank_of (word_at words i) ≤ most_rank
  pub order :
      before (rank_of (word_at words (parent_of (word_at words i)))) (parent_of (word_at words i)) (rank_of (word_at words i)) i
      ≡ false

sane : (words : List ℕ) (i : ℕ) → is_faulty words i ≡ false → Sane words i
sane words i e =
    let above = passed (leb (length words) (parent_of (word_at words i))) true≢false e in
    let rank = passed (ltb most_rank (rank_of (word_at words i))) true≢false above.others in
    record { inside = leb-false _ _ above.first; rank = ltb-false _ _ rank.first; order = rank.others }

-- ---- a table that is not refused

module _ (words : List ℕ) (none : table_refusal words ≡ 0) where
  abbrev t : List Node
  t = map decode words

  short : Passed {A = ℕ} (ltb most_nodes (length words)) (cond (any_faulty words (length words)) 16 0) 0
  short = passed (ltb most_nodes (length words)) (λ e. omega arith) (passed (eqb (length words) 0) (λ e. omega arith) none).others

  few : length words ≤ most_nodes
  few = ltb-false most_nodes (length words) short.first

  sane_at : (i : ℕ) → i < length words → Sane words i
  sane_at i l =
      sane words i (none_faulty words _ (passed (any_faulty words (length words)) (λ e. omega arith) short.others).first i l)

  -- a parent other than the node comes after it: it does not come before it, and has another number
  rising : (i : ℕ) → i < length words → parent t i ≢ i → key (rank t i) i < key (rank t (parent t i)) (parent t i)
  rising i l d =
      let above = parent_of (word_at words i) in
      let inside = (sane_at i l).inside in
      let keys = before_key (rank_of (word_at words above)) above (rank_of (word_at words i)) i (omega (arith, few)) (omega (arith, few)) in
      let order = sym keys ∙ (sane_at i l).order in
      omega (
        arith,
        d,
        few,
        parent_decoded words i l,
        rank_decoded words i l,
        rank_decoded words above inside,
        ap (rank t) (parent_decoded words i l),
        ltb-false (key (rank_of (word_at words above)) above) (key (rank_of (word_at words i)) i) order,
      )

  pub table_admitted : Admitted (length words) (map decode words)
  table_admitted =
      record {
        nodes = length-map words decode;
        few = few;
        inside = λ i l. omega (arith, parent_decoded words i l, (sane_at i l).inside);
        ranks = λ i l. omega (arith, rank_decoded words i l, (sane_at i l).rank);
        rising = rising;
      }

-- ---- an admitted table

module _ {n : ℕ} {t : List Node} (admitted : Admitted n t) where
  -- what the laws of forests ask
  pub admitted_formed : WellFormed n (parent t) (rank t)
  admitted_formed = record { limit = omega (arith, admitted.few); inside = admitted.inside; rising = admitted.rising }

  pub admitted_worded : Worded t
  admitted_worded =
      record {
        rank = λ i l. omega (arith, admitted.ranks i (omega (arith, admitted.nodes)));
        parent = λ i l. omega (arith, admitted.few, admitted.inside i (omega (arith, admitted.nodes)));
      }

module _ (words : List ℕ) {n : ℕ} (admitted : Admitted n (map decode words)) where
  -- a word that is read of it
  pub admitted_at : (i : ℕ) → i < n → at (map decode words) i ≡ decode (word_at words i)
  admitted_at i l = at_decoded words i (omega (arith, l, admitted.nodes, length-map words decode))

  pub words_kept : words ≡ map encode (map decode words)
  words_kept = sym (encode_words words (admitted_worded admitted))
