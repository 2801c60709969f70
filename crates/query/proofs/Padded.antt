-- The enquiry on its own array: the table's nodes, and past them roots that no step sees or touches.
--
--   extended result others   the result, with further nodes' words past its own
--
-- Main laws: padded_admitted, the array is admitted; steps_padded, the steps are the same on it.
use mathlib.Core.Path.{◌≡◌, refl, sym, ap, ◌∙◌, subst}
use mathlib.Core.Logic.{◌≢◌}
use mathlib.Core.List.{List, ◌++◌, map, map-append}
use Prim.Native.Nat.{ℕ, zero, suc, ◌+◌, ◌-◌, ◌≤◌, ◌<◌}
use native.Mathlib.Omega.{arith}
use native.Mathlib.Decide.{dec_lt}
use lib.ListN.{length, length-append, get_or-append}
use lib.Seq.{get_or-append-add, set-append_left}
use Rattle.basics.proofs.Conditions.{split}
use Rattle.job.specs.declared.Answer.{Answer}
use Rattle.job.specs.declared.Answer.TheVariants.{Unfinished}
use Rattle.word.specs.declared.Node.{Node}
use Rattle.word.specs.Word.{decode, encode, same, key, most_rank}
use Rattle.job.specs.Job.{most_nodes}
use Rattle.process.specs.declared.Access.{Access}
use Rattle.process.specs.declared.Access.TheVariants.{Idle, Load, Cas}
use Rattle.process.specs.declared.Head.{Head}
use Rattle.process.specs.Access.{access_of}
use Rattle.rules.specs.Report.{is_final}
use Rattle.rules.specs.Table.{no_node, at, parent, rank, fresh_from, seen, touched}
use Rattle.rules.proofs.Table.{length_fresh, fresh_at}
use Rattle.table.specs.Admitted.{Admitted}
use Rattle.table.specs.Touch.{Within}
use Rattle.table.proofs.Admitted.{admitted_worded, words_kept}
use Rattle.table.proofs.Words.{decode_words}
use Rattle.query.specs.Query.{Result, answered, granted, steps}
use Rattle.query.proofs.Copies.{padded}
use Rattle.query.proofs.Steps.{Serving, serving_within, serving_goes_on}

-- ---- the array is admitted

module _ {n : ℕ} {t : List Node} (admitted : Admitted n t) (k : ℕ) (room : n + k ≤ most_nodes) where
  abbrev longer : List Node
  longer = t ++ fresh_from n k

  low_at : (i : ℕ) → i < n → at longer i ≡ at t i
  low_at i l = get_or-append t (fresh_from n k) no_node i (omega (arith, l, admitted.nodes))

  high_at : (i : ℕ) → n ≤ i → i < n + k → at longer i ≡ record { rank = 0; parent = i }
  high_at i l m =
      let place : i ≡ length t + (i - n) = omega (arith, l, admitted.nodes) in
      let number : n + (i - n) ≡ i = omega (arith, l) in
      ap (at longer) place
      ∙ get_or-append-add t (fresh_from n k) (i - n) no_node
      ∙ fresh_at n k (i - n) (omega (arith, l, m))
      ∙ ap (λ j. record { rank = 0; parent = j }) number

  -- each node is one of the table's, or its own parent
  data Place (i : ℕ) : Type 0 where
    low : i < n → at longer i ≡ at t i → Place i
    high : at longer i ≡ record { rank = 0; parent = i } → Place i

  place : (i : ℕ) → i < n + k → Place i
  place i l = go (dec_lt i n)
    where
      go : Dec (i < n) → Place i
      go (yes m) = low m (low_at i m)
      go (no m) = high (high_at i (omega (arith, m)) l)

  longer_rising : (i : ℕ) → Place i → parent longer i ≢ i → key (rank longer i) i < key (rank longer (parent longer i)) (parent longer i)
  longer_rising i (high e) d = absurd (d (ap (λ v. v.parent) e))
  longer_rising i (low l e) d =
      let up : parent longer i ≡ parent t i = ap (λ v. v.parent) e in
      omega (
        arith,
        up,
        ap (λ v. v.rank) e,
        ap (rank longer) up,
        ap (λ v. v.rank) (low_at (parent t i) (admitted.inside i l)),
        admitted.rising i l (λ f. d (up ∙ f)),
      )

  longer_inside : (i : ℕ) → i < n + k → Place i → parent longer i < n + k
  longer_inside i l (low m e) = omega (arith, ap (λ v. v.parent) e, admitted.inside i m)
  longer_inside i l (high e) = omega (arith, ap (λ v. v.parent) e, l)

  longer_ranks : (i : ℕ) → Place i → rank longer i ≤ most_rank
  longer_ranks i (low m e) = omega (arith, ap (λ v. v.rank) e, admitted.ranks i m)
  longer_ranks i (high e) = omega (arith, ap (λ v. v.rank) e)

  longer_admitted : Admitted (n + k) longer
  longer_admitted =
      record {
        nodes = length-append t (fresh_from n k) ∙ (rw (admitted.nodes, length_fresh n k) refl);
        few = room;
        inside = λ i l. longer_inside i l (place i l);
        ranks = λ i l. longer_ranks i (place i l);
        rising = λ i l. longer_rising i (place i l);
      }

module _ (words : List ℕ) (admitted : Admitted (length words) (map decode words)) where
  abbrev pub others : List Node
  others = fresh_from (length words) (most_nodes - length words)

  whole : Admitted most_nodes (map decode words ++ others)
  whole =
      let size : length words + (most_nodes - length words) ≡ most_nodes = omega (arith, admitted.few) in
      subst (λ n. Admitted n (map decode words ++ others)) size
      (longer_admitted admitted (most_nodes - length words) (omega (arith, admitted.few)))

  pub padded_nodes : map decode (padded words) ≡ map decode words ++ others
  padded_nodes =
      ap (λ l. map decode (l ++ map encode others)) (words_kept words admitted)
      ∙ ap (map decode) (sym (map-append encode (map decode words) others))
      ∙ decode_words (map decode words ++ others) (admitted_worded whole)

  pub padded_admitted : Admitted most_nodes (map decode (padded words))
  padded_admitted = subst (Admitted most_nodes) (sym padded_nodes) whole

-- ---- the steps are the same

module _ (t others : List Node) where
  seen_padded : (access : Access) → Within (length t) access → seen (t ++ others) access ≡ seen t access
  seen_padded Idle within = refl
  seen_padded (Load i) within = get_or-append t others no_node i within
  seen_padded (Cas i expected new) within = get_or-append t others no_node i within

  touched_padded : (access : Access) → Within (length t) access → touched (t ++ others) access ≡ touched t access ++ others
  touched_padded Idle within = refl
  touched_padded (Load i) within = refl
  touched_padded (Cas i expected new) within =
      rw (get_or-append t others no_node i within)
      (split (same (at t i) expected)
      (λ e. rw e (set-append_left t others i new within))
      (λ e. rw e refl))

abbrev pub extended : Result → List Node → Result
extended result others = record { queried = result.queried; table = result.table ++ map encode others }

answered_padded : (others : List Node) (a : Answer) (used : ℕ) (t : List Node)
    → answered a used (t ++ others) ≡ extended (answered a used t) others
answered_padded others a used t = ap (λ l. record { queried = (answered a used t).queried; table = l }) (map-append encode t others)

module _ {n : ℕ} {B : ℕ → ℕ} {x y : ℕ} (others : List Node) where
  pub steps_padded : (budget used : ℕ) (h : Head) (t : List Node) → Serving n B x y t used h Unfinished
      → steps budget used h (t ++ others) ≡ extended (steps budget used h t) others
  steps_padded zero used h t serving = answered_padded others Unfinished used t
  steps_padded (suc budget) used h t serving =
      let within : Within (length t) (access_of h) = rw serving.admitted.nodes (serving_within serving) in
      rw (seen_padded t others (access_of h) within, touched_padded t others (access_of h) within)
      (split (is_final (granted h t used).event.answer)
      (λ e. rw e (answered_padded others (granted h t used).event.answer (suc used) (touched t (access_of h))))
      (λ e. rw e
      (steps_padded budget (suc used) (granted h t used).head (touched t (access_of h)) (serving_goes_on serving e))))
