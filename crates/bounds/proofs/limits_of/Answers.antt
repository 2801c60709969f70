-- `bounds::limits_of`: what no job has is refused; else the leading zeros give the logarithm, and no sum is too large.
use Rattle.std.proofs.Common.{◌<◌, arith, sym}
use Rattle.std.proofs.lemmas.Result.{err_from_is_err_and}
use lib.Count.{count_leading_zeros, leading_top}
use Rattle.jobfile.proofs.Refusals.{Sized, sized}
use Rattle.rules.proofs.Bounds.{levels_logarithm}
use Rattle.bounds.specs.Bounds.{limits_of}
use Rattle.bounds.proofs.Refusals.{limits_refused}
use Rattle.bounds.proofs.limits_of.Goals as goal

-- the nodes are not refused
module _ (c : goal.In_ok-check_sizes) where
  admitted : Sized c.args.nodes 1
  admitted = sized c.args.nodes 1 (sym c.in_ok-check_sizes.ensures)

  zeros : count_leading_zeros 32 c.args.nodes < 32
  zeros = omega (arith, (leading_top 32 c.args.nodes admitted.some_nodes (omega (arith, admitted.few_nodes))).1)

pub returns-in_err-check_sizes-clause-exact : goal.returns-in_err-check_sizes-clause-exact
returns-in_err-check_sizes-clause-exact c =
    let p = err_from_is_err_and c.from_residual.result c.from_residual.ensures.1 in
    rw (p.1, p.2) (limits_refused _ _ c.in_err-check_sizes.ensures)

pub overflow_sub-levels : goal.overflow_sub-levels
overflow_sub-levels c = omega (arith, zeros c)

pub overflow_mul-result : goal.overflow_mul-result
overflow_mul-result c = omega (arith, (admitted c).few_nodes)

pub overflow_mul-result-2 : goal.overflow_mul-result-2
overflow_mul-result-2 c = omega (arith, (admitted c).few_nodes)

pub overflow_add-result : goal.overflow_add-result
overflow_add-result c = omega (arith, (admitted c).few_nodes)

pub returns-clause-exact : goal.returns-clause-exact
unfolding limits_of
returns-clause-exact c = rw (← c.in_ok-check_sizes.ensures)

pub returns-clause-logarithm : goal.returns-clause-logarithm
returns-clause-logarithm c = λ z. levels_logarithm c.args.nodes (admitted c).some_nodes (omega (arith, (admitted c).few_nodes))
