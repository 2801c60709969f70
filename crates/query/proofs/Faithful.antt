-- An enquiry keeps the sets and the budget, and its answer is right: by induction over its steps.
--
--   Ended n B x y limit result   what holds of a result, told by labels
--
-- Main law: queried_faithful.
use mathlib.Core.Path.{◌≡◌, refl, sym, ap, ◌∙◌, subst}
use mathlib.Core.Logic.{◌≢◌, ◌↔◌}
use mathlib.Core.Bool.{false, true≢false}
use mathlib.Core.List.{List, map}
use Prim.Native.Nat.{ℕ, zero, suc, ◌+◌, ◌*◌, ◌≤◌, ◌<◌}
use native.Mathlib.Omega.{arith}
use lib.Dec.{eqb}
use lib.ListN.{length, length-map}
use borrow.Author.Tests.{eqb-true, eqb-false}
use Rattle.basics.proofs.Conditions.{split}
use Rattle.job.specs.declared.Answer.{Answer}
use Rattle.job.specs.declared.Answer.TheVariants.{Unfinished, Joined, Together, Yes, No}
use Rattle.job.specs.Job.{answer_number}
use Rattle.word.specs.declared.Node.{Node}
use Rattle.word.specs.Word.{decode, encode}
use Rattle.process.specs.declared.Head.{Head}
use Rattle.process.specs.Process.{begin}
use Rattle.process.specs.Access.{access_of}
use Rattle.forest.specs.Forest as forest
use Rattle.forest.proofs.Forest.{Labelled, together_label, label_together}
use Rattle.rules.specs.Report.{is_final}
use Rattle.rules.specs.Table.{parent, rank, touched}
use Rattle.table.specs.Admitted.{Admitted}
use Rattle.table.proofs.Admitted.{admitted_formed, admitted_worded}
use Rattle.table.proofs.Words.{decode_words}
use Rattle.query.specs.Query.{Result, answered, granted, steps, same_set, refusal, queried}
use Rattle.query.specs.Faithful.{parents_of, Faithful}
use Rattle.query.proofs.Labels.{root_label, root_labelled}
use Rattle.query.proofs.Refusal.{Accepted, accepted}
use Rattle.query.proofs.Steps.{Says, Serving, serving_step, serving_goes_on, serving_start}
use Rattle.query.proofs.Enough.{steps_enough, start_enough}

pub record Ended (n : ℕ) (B : ℕ → ℕ) (x y limit : ℕ) (result : Result) : Type 0 where
  -- the nodes of the table at exit
  pub nodes : List Node
  pub shown : result.table ≡ map encode nodes
  pub admitted : Admitted n nodes
  pub labelled : Labelled n (parent nodes) B
  pub yes : result.queried.answer ≡ 3 → B x ≡ B y
  pub no : result.queried.answer ≡ 4 → B x ≢ B y
  pub within : result.queried.used ≤ limit
  pub spent : result.queried.answer ≡ 0 → result.queried.used ≡ limit

-- ---- by induction over the steps

module _ (B : ℕ → ℕ) (x y : ℕ) where
  says_yes : (answer : Answer) → Says B x y answer → answer_number answer ≡ 3 → B x ≡ B y
  says_yes Unfinished says e = absurd (omega arith)
  says_yes Joined says e = absurd says
  says_yes Together says e = absurd says
  says_yes Yes says e = says
  says_yes No says e = absurd (omega arith)

  says_no : (answer : Answer) → Says B x y answer → answer_number answer ≡ 4 → B x ≢ B y
  says_no Unfinished says e = absurd (omega arith)
  says_no Joined says e = absurd says
  says_no Together says e = absurd says
  says_no Yes says e = absurd (omega arith)
  says_no No says e = says

zero_unfinished : (answer : Answer) → answer_number answer ≡ 0 → is_final answer ≡ false
zero_unfinished Unfinished e = refl
zero_unfinished Joined e = absurd (omega arith)
zero_unfinished Together e = absurd (omega arith)
zero_unfinished Yes e = absurd (omega arith)
zero_unfinished No e = absurd (omega arith)

module _ {n : ℕ} {B : ℕ → ℕ} {x y : ℕ} where
  answered_ended : (answer : Answer) (used limit : ℕ) (h : Head) (t : List Node) → Serving n B x y t used h answer → used ≤ limit
      → (is_final answer ≡ false → used ≡ limit) → Ended n B x y limit (answered answer used t)
  answered_ended answer used limit h t serving within all =
      record {
        nodes = t;
        shown = refl;
        admitted = serving.admitted;
        labelled = serving.labelled;
        yes = says_yes B x y answer serving.says;
        no = says_no B x y answer serving.says;
        within = within;
        spent = λ e. all (zero_unfinished answer e);
      }

  pub steps_ended : (budget used limit : ℕ) (h : Head) (t : List Node) → used + budget ≡ limit → Serving n B x y t used h Unfinished
      → Ended n B x y limit (steps budget used h t)
  steps_ended zero used limit h t sum serving =
      answered_ended Unfinished used limit h t serving (omega (arith, sum)) (λ e. omega (arith, sum))
  steps_ended (suc budget) used limit h t sum serving =
      split (is_final (granted h t used).event.answer)
      (λ e. rw e
      (answered_ended (granted h t used).event.answer (suc used) limit (granted h t used).head (touched t (access_of h))
      (serving_step serving refl) (omega (arith, sum)) (λ f. absurd (true≢false (sym e ∙ f)))))
      (λ e. rw e
      (steps_ended budget (suc used) limit (granted h t used).head (touched t (access_of h)) (omega (arith, sum))
      (serving_goes_on serving e)))

-- ---- from labels to sets

module _ (words : List ℕ) (x y budget : ℕ) (good : Accepted words x y) where
  abbrev pub start : List Node
  start = map decode words

  abbrev pub labels : ℕ → ℕ
  labels = root_label (admitted_formed good.table)

  start_labelled : Labelled (length words) (parent start) labels
  start_labelled = root_labelled (admitted_formed good.table)

  pub start_serving : Serving (length words) labels x y start 0 (begin (same_set x y) 0) Unfinished
  start_serving = serving_start good.table start_labelled (record { x = good.left; y = good.right })

  module _ (result : Result) (end : Ended (length words) labels x y budget result) where
    end_nodes : map decode result.table ≡ end.nodes
    end_nodes = ap (λ l. map decode l) end.shown ∙ decode_words end.nodes (admitted_worded end.admitted)

    same_sets : (i j : ℕ) → i < length words → j < length words
        → forest.Together (parents_of words) i j ↔ forest.Together (parent end.nodes) i j
    same_sets i j inside-i inside-j = (
      λ z. label_together (admitted_formed end.admitted) end.labelled i j inside-i inside-j
          (together_label (admitted_formed good.table) start_labelled i j inside-i inside-j z),
      λ z. label_together (admitted_formed good.table) start_labelled i j inside-i inside-j
          (together_label (admitted_formed end.admitted) end.labelled i j inside-i inside-j z),
    )

    ended_faithful : (4 * length words + 3 ≤ budget → result.queried.answer ≢ 0) → Faithful words x y budget result
    ended_faithful enough =
        record {
          nodes = sym (length-map result.table decode) ∙ ap length end_nodes ∙ end.admitted.nodes;
          sets = λ i j inside-i inside-j.
              subst (λ t. forest.Together (parents_of words) i j ↔ forest.Together (parent t) i j) (sym end_nodes)
              (same_sets i j inside-i inside-j);
          yes = λ e. label_together (admitted_formed good.table) start_labelled x y good.left good.right (end.yes e);
          no = λ e z. end.no e (together_label (admitted_formed good.table) start_labelled x y good.left good.right z);
          within = end.within;
          spent = end.spent;
          enough = enough;
        }

  steps_faithful : Faithful words x y budget (steps budget 0 (begin (same_set x y) 0) start)
  steps_faithful =
      ended_faithful (steps budget 0 (begin (same_set x y) 0) start)
      (steps_ended budget 0 budget (begin (same_set x y) 0) start (omega arith) start_serving)
      (λ l. steps_enough (rank start) budget 0 (begin (same_set x y) 0) start start_serving (λ i. refl)
      (start_enough (length words) (parent start) (rank start) x y budget good.left good.right l))

-- an enquiry that is not refused is faithful
pub queried_faithful : (words : List ℕ) (x y budget : ℕ) → (queried words x y budget).queried.number ≡ 0
    → Faithful words x y budget (queried words x y budget)
unfolding queried
queried_faithful words x y budget =
    split (eqb (refusal words x y) 0)
    (λ e. rw e (λ z. steps_faithful words x y budget (accepted words x y (eqb-true (refusal words x y) 0 e))))
    (λ e. rw e (λ z. absurd (eqb-false (refusal words x y) 0 e z)))

-- and so is what the caller is told of it
pub told_faithful : (words : List ℕ) (x y budget : ℕ) (result : Result) → result ≡ queried words x y budget
    → result.queried.number ≡ 0 → Faithful words x y budget result
told_faithful words x y budget result e none =
    subst (Faithful words x y budget) (sym e) (queried_faithful words x y budget (ap (λ k. k.queried.number) (sym e) ∙ none))
