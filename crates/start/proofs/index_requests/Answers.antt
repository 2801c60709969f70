-- The index is begun, and has one request more; a request's head is one of the array's.
use Rattle.std.proofs.Common.{◌-◌, sym, ap, ◌∙◌, arith, rules}
use Rattle.reader.proofs.Playing.{playing_count}
use Rattle.rules.specs.State.{no_request}
use Rattle.start.proofs.Index.{indexed_none, indexed_on, few_requests, few_heads}
use Rattle.start.proofs.index_requests.Goals as goal

pub loop-q-init : goal.loop-q-init
loop-q-init c = indexed_none _ _ _ (playing_count c.args.job.playing) (search rules)

pub bounds-firsts-h : goal.bounds-firsts-h
bounds-firsts-h c = few_heads c.args.job.playing _ _ (omega arith) _ c.request.ensures c.from-h.ensures

pub bounds-firsts-h-in-loop-q : goal.bounds-firsts-h-in-loop-q
bounds-firsts-h-in-loop-q c = few_heads c.args.job.playing _ _ (omega arith) _ c.request.ensures c.from-h.ensures

pub loop-q-preserved : goal.loop-q-preserved
loop-q-preserved c =
    indexed_on c.loop-q.invariant (c.loop-q.q - 1) c.from-h.result (omega arith)
    (ap (λ k. k.head) (sym (c.request.ensures no_request)) ∙ sym c.from-h.ensures)
    (few_heads c.args.job.playing (c.loop-q.q - 1) _ (omega arith) _ c.request.ensures c.from-h.ensures)
    (omega (arith, few_requests c.args.job.playing, playing_count c.args.job.playing))
