-- The whole enquiry: refused, or made on the array of its own.
--
-- Main laws: query_refused; end_answer, what stands in an end for an answer is one's number;
-- enquired, the array's front and the number at the end are the enquiry's result.
use mathlib.Core.Path.{◌≡◌, ap, ◌∙◌}
use mathlib.Core.Bool.{false}
use mathlib.Core.List.{List, map}
use Prim.Native.Nat.{ℕ, zero, suc, ◌-◌, ◌/◌, ◌≤◌, ◌<◌}
use native.Mathlib.Omega.{arith}
use lib.Dec.{eqb}
use lib.ListN.{length, take, replicate, length-map, length-append, length-replicate}
use lib.Seq.{sets, take_at}
use borrow.Author.Tests.{eq-eqb, ne_eqb}
use Rattle.basics.proofs.Conditions.{split}
use Rattle.word.specs.declared.Node.{Node}
use Rattle.word.specs.Word.{decode, encode}
use Rattle.job.specs.declared.Answer.{Answer}
use Rattle.job.specs.declared.Answer.TheVariants.{Unfinished, Joined, Together, Yes, No}
use Rattle.job.specs.declared.refusal.Refusal.{Refusal}
use Rattle.job.specs.Job.{answer_number, most_nodes}
use Rattle.job.specs.Refusal.{number_of}
use Rattle.job.proofs.Refusals.{refuses}
use Rattle.process.specs.declared.Head.{Head}
use Rattle.process.specs.Process.{begin}
use Rattle.process.specs.Access.{access_of}
use Rattle.rules.specs.Report.{is_final}
use Rattle.rules.specs.Table.{touched}
use Rattle.rules.proofs.Table.{length_fresh}
use Rattle.query.specs.Query.{Result, refusal, granted, steps, same_set, queried}
use Rattle.query.specs.Numbers.{looking, Ready, ended}
use Rattle.query.proofs.Refusal.{Accepted, accepted}
use Rattle.query.proofs.Faithful.{steps_ended, start_serving}
use Rattle.query.proofs.Copies.{roots, padded, filled}
use Rattle.query.proofs.Padded.{others, padded_nodes, padded_admitted, extended, steps_padded}

-- no refusal has the number 0, so that the definition refuses as well
pub query_refused : (words : List ℕ) (x y budget : ℕ) (refused : Refusal) → number_of refused ≡ refusal words x y
    → record { queried = record { number = number_of refused; answer = 0; used = 0 }; table = words } ≡ queried words x y budget
unfolding queried
query_refused words x y budget refused e = rw (← e, ne_eqb (number_of refused) 0 (refuses refused))

-- ---- an end as one number has the number of an answer

answer_few : (answer : Answer) → answer_number answer < 5
answer_few Unfinished = omega arith
answer_few Joined = omega arith
answer_few Together = omega arith
answer_few Yes = omega arith
answer_few No = omega arith

steps_answer : (budget used : ℕ) (h : Head) (t : List Node) → (steps budget used h t).queried.answer < 5
steps_answer zero used h t = omega arith
steps_answer (suc budget) used h t =
    split (is_final (granted h t used).event.answer)
    (λ e. rw e (answer_few (granted h t used).event.answer))
    (λ e. rw e (steps_answer budget (suc used) (granted h t used).head (touched t (access_of h))))

pub end_answer : (words : List ℕ) (x y budget end : ℕ) (words' : List ℕ) → ended end words' ≡ queried words x y budget → end / 65536 < 5
unfolding queried
end_answer words x y budget end words' e =
    let few : (queried words x y budget).queried.answer < 5 =
    split (eqb (refusal words x y) 0)
    (λ f. rw f (steps_answer budget 0 (begin (same_set x y) 0) (map decode words)))
    (λ f. rw f (omega arith)) in
    omega (arith, few, ap (λ r. r.queried.answer) e)

module _ (words : List ℕ) (x y : ℕ) (none : refusal words x y ≡ 0) where
  good : Accepted words x y
  good = accepted words x y none

  pub enquiry_few : length words ≤ most_nodes
  enquiry_few = good.table.few

  -- a copy and the roots make the array of zeros the padded one
  pub enquiry_array : (copied array : List ℕ) → copied ≡ sets (replicate most_nodes 0) 0 words
      → array ≡ sets copied (length words) (roots (length words)) → array ≡ padded words
  enquiry_array copied array copies pads =
      pads
      ∙ ap (λ l. sets l (length words) (roots (length words))) copies
      ∙ filled (replicate most_nodes 0) words (length-replicate {A = ℕ} most_nodes 0) good.table.few

  pub enquiry_ready : (array : List ℕ) (budget : ℕ) → array ≡ padded words → budget ≤ 65535 → Ready array x y 0 budget
  enquiry_ready array budget e small =
      record {
        admitted = rw e (padded_admitted words good.table);
        inside = omega (arith, good.table.few, good.left);
        within = omega (arith, good.table.few, good.right);
        room = omega (arith, small);
      }

  module _ (budget : ℕ) where
    abbrev own : Result
    own = steps budget 0 (looking x y false) (map decode words)

    abbrev past : List Node
    past = others words good.table

    -- the table has as many words at the end
    own_length : length own.table ≡ length words
    own_length =
        let end = steps_ended budget 0 budget (looking x y false) (map decode words) (omega arith) (start_serving words x y budget good) in
        ap length end.shown ∙ length-map end.nodes encode ∙ end.admitted.nodes

    module _ (array : List ℕ) (is : array ≡ padded words) (number : ℕ) (words' : List ℕ)
        (looked : ended number words' ≡ steps budget 0 (looking x y false) (map decode array)) where
      -- the array's end is the table's, and past it what was past it
      ends : ended number words' ≡ extended own past
      ends =
          looked
          ∙ ap (steps budget 0 (looking x y false)) (ap (map decode) is ∙ padded_nodes words good.table)
          ∙ steps_padded past budget 0 (looking x y false) (map decode words) (start_serving words x y budget good)

      pub enquiry_size : length words' ≡ most_nodes
      enquiry_size =
          ap (λ r. length r.table) ends
          ∙ omega (
            arith,
            length-append own.table (map encode past),
            own_length,
            length-map past encode,
            length_fresh (length words) (most_nodes - length words),
            good.table.few,
          )

      pub enquired : ended number (take (length words) words') ≡ queried words x y budget
      unfolding queried
      enquired =
          rw (eq-eqb (refusal words x y) 0 none)
          (ap (λ r. record { queried = r.queried; table = take (length words) r.table }) ends
          ∙ ap (λ l. record { queried = own.queried; table = l }) (take_at own.table (map encode past) (length words) own_length))
