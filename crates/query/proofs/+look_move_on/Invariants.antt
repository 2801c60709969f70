-- The grants left fall.
use Rattle.query.proofs.+look_move_on.Given as goal

abbrev pub decreases-look : goal.decreases-look
decreases-look l = l.left

abbrev pub decreases-move_on : goal.decreases-move_on
decreases-move_on l = l.left
