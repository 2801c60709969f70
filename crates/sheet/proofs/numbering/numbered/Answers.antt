-- `numbering::numbered`: the request at hand is seen or not, and gets the next number if it is.
use Rattle.std.proofs.Common.{ap, sym, ◌∙◌, arith}
use Rattle.rules.specs.State.{no_request}
use Rattle.sheet.proofs.Accepted.{few_requests, few_heads}
use Rattle.sheet.specs.Sight.{sees}
use Rattle.sheet.proofs.Numbered.{numbered_none, numbered_few, numbered_all, numbered_unseen, numbered_seen}
use Rattle.sheet.proofs.numbering.numbered.Goals as goal

pub loop-q-init : goal.loop-q-init
loop-q-init c = numbered_none

-- the request's head is one of the job's
pub is_set-requires : goal.is_set-requires
is_set-requires c = omega (arith, c.from.ensures, few_heads c.args.job.playing c.loop-q.q (omega arith) _ c.request-request.ensures)

pub loop-q-preserved-then-not-is_set : goal.loop-q-preserved-then-not-is_set
loop-q-preserved-then-not-is_set c =
    let own = ap (λ k. sees c.args.sight k.head) (c.request-request.ensures no_request) in
    let tested = c.is_set.ensures ∙ ap (sees c.args.sight) c.from.ensures ∙ own in
    numbered_unseen c.loop-q.invariant (omega arith) (few_requests c.args.job.playing)
    (sym tested ∙ c.if-not-is_set.true)

pub bounds-numbers-q : goal.bounds-numbers-q
bounds-numbers-q c = omega (arith, few_requests c.args.job.playing)

pub overflow_add-seen : goal.overflow_add-seen
overflow_add-seen c = omega (arith, few_requests c.args.job.playing, numbered_few c.loop-q.invariant)

pub loop-q-preserved : goal.loop-q-preserved
loop-q-preserved c =
    let own = ap (λ k. sees c.args.sight k.head) (c.request-request.ensures no_request) in
    let tested = c.is_set.ensures ∙ ap (sees c.args.sight) c.from.ensures ∙ own in
    numbered_seen c.loop-q.invariant (omega arith) (few_requests c.args.job.playing)
    (sym tested ∙ c.if-not-is_set.false)

pub returns : goal.returns
returns c = numbered_all c.loop-q.invariant (omega arith) (few_requests c.args.job.playing)
