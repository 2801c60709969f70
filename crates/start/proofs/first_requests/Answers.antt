-- One head more has its first request; those that the job does not have are told the number of requests.
use Rattle.std.proofs.Common.{sym, ◌∙◌, arith}
use Rattle.std.proofs.lemmas.List.{get_or-replicate}
use Rattle.basics.proofs.Taken.{taken_on, taken_end}
use Rattle.job.specs.Job.{most_heads}
use Rattle.stepper.specs.Shown.{requests_in}
use Rattle.start.proofs.Start.{length_first_requests, first_requests_at}
use Rattle.start.proofs.Index.{few_heads_in_all, absent_first}
use Rattle.start.proofs.first_requests.Goals as goal

pub loop-h-preserved : goal.loop-h-preserved
loop-h-preserved c =
    let few = few_heads_in_all c.args.job.playing in
    let first = first_requests_at (requests_in c.args.job.file.now) most_heads c.loop-h.h (omega arith) in
    taken_on c.loop-h.h c.loop-h.firsts _ (omega arith)
    (c.unwrap_or.ensures ∙ c.next_request.ensures.sought ∙ sym first) c.loop-h.invariant

pub returns : goal.returns
returns c =
    let qs = requests_in c.args.job.file.now in
    taken_end c.loop-h.h c.loop-h.firsts (sym (length_first_requests qs 0 most_heads))
    (λ j from until. first_requests_at qs most_heads j until ∙ absent_first c.args.job.playing j (omega arith)
    ∙ sym (get_or-replicate most_heads j c.args.job.counts.requests 0 until)) c.loop-h.invariant
