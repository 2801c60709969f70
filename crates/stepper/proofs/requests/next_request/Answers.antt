-- The next request, read from the file, is the head's own or another's; past the last there is none.
use Rattle.std.proofs.Common.{sym, ap, ◌∙◌, arith}
use Rattle.rules.specs.State.{no_request}
use Rattle.reader.proofs.Playing.{playing_count}
use Rattle.stepper.proofs.Seek.{sought_here, sought_on, sought_none}
use Rattle.stepper.proofs.requests.next_request.Goals as goal

pub returns-then-from-h-clause-sought : goal.returns-then-from-h-clause-sought
returns-then-from-h-clause-sought c =
    sought_here c.loop-q.invariant (omega (arith, playing_count c.args.job.playing))
    (ap (λ r. r.head) (sym (c.request.ensures no_request)) ∙ sym c.from.ensures ∙ c.if-from-h.true)

pub loop-q-preserved : goal.loop-q-preserved
loop-q-preserved c =
    sought_on c.loop-q.invariant (omega (arith, playing_count c.args.job.playing))
    (λ e. c.if-from-h.false (c.from.ensures ∙ ap (λ r. r.head) (c.request.ensures no_request) ∙ e))

pub returns-clause-sought : goal.returns-clause-sought
returns-clause-sought c =
    let p = playing_count c.args.job.playing in
    p ∙ sought_none c.loop-q.invariant (omega arith)
