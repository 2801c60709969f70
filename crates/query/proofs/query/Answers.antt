-- Refused, or made; and what is made is faithful.
use Rattle.std.proofs.Common.{ap, ◌∙◌}
use Rattle.std.proofs.lemmas.Result.{err_from_is_err_and}
use Rattle.query.proofs.Enquired.{query_refused, end_answer}
use Rattle.query.proofs.Faithful.{told_faithful}
use Rattle.query.proofs.query.Goals as goal

pub returns-in_err-check_enquiry-clause-exact : goal.returns-in_err-check_enquiry-clause-exact
returns-in_err-check_enquiry-clause-exact c =
    let p = err_from_is_err_and c.from_residual.result c.from_residual.ensures.1 in
    rw (p.1, p.2) (query_refused _ _ _ _ _ c.in_err-check_enquiry.ensures)

pub read_end-requires : goal.read_end-requires
read_end-requires c = end_answer _ _ _ _ _ _ c.enquire.ensures

pub returns-clause-faithful : goal.returns-clause-faithful
returns-clause-faithful c =
    told_faithful _ _ _ _ _ (ap (λ r. record { queried = r; table = c.enquire.new.table }) c.read_end.ensures ∙ c.enquire.ensures)
