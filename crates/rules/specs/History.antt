-- What a history says of a request: its report row, whether it has linked, and its linearization point.
-- A history is a list of happenings, the newest first; the newest is the grant whose number is the list's length.
--
--   first_where f past, last_where f past   the first and the last grant with f, 0 if there is none
--   last_but_one f past                     the last grant with f but one, 0 if there is none
--   count_where f past                      the number of grants with f
--   is_idle a, has_failed a, has_link a     the grant was idle, a swap that failed, or a link that wrote
--   is_of q a, ends_find_of q a, links_for q a   it was used for q, ended a find from y of q, or linked q
--   answer_of q past                        the number of q's answer
--   row_of q past                           the report row of request q
--   link_of q past                          the grant at which q has linked, 0 if it has not
--   point_of k q past                       the point of request q, of kind k
use Rattle.std.specs.Prelude.{Bool, true, false, cond, List, [], ◌∷◌, ℕ, suc, eqb, length}
use Rattle.job.specs.declared.Kind.{Kind}
use Rattle.job.specs.declared.Kind.TheVariants.{Union, SameSet}
use Rattle.job.specs.Job.{answer_number}
use Rattle.rules.specs.declared.Row.{Row}
use Rattle.rules.specs.Action.{fails, links}
use Rattle.rules.specs.Run.{Happening}
use Rattle.rules.specs.Run.Happening.{idle, serving}

-- The first grant with f.
abbrev pub first_where : (Happening → Bool) → List Happening → ℕ
first_where f [] = 0
first_where f (a ∷ past) = cond (eqb (first_where f past) 0) (cond (f a) (suc (length past)) 0) (first_where f past)

-- The last grant with f.
abbrev pub last_where : (Happening → Bool) → List Happening → ℕ
last_where f [] = 0
last_where f (a ∷ past) = cond (f a) (suc (length past)) (last_where f past)

-- The last one before that.
abbrev pub last_but_one : (Happening → Bool) → List Happening → ℕ
last_but_one f [] = 0
last_but_one f (a ∷ past) = cond (f a) (last_where f past) (last_but_one f past)

-- How many grants had f.
abbrev pub count_where : (Happening → Bool) → List Happening → ℕ
count_where f [] = 0
count_where f (a ∷ past) = cond (f a) (suc (count_where f past)) (count_where f past)

-- The grant was idle.
abbrev pub is_idle : Happening → Bool
is_idle idle = true
is_idle (serving q a) = false

-- It was a swap that failed.
abbrev pub has_failed : Happening → Bool
has_failed idle = false
has_failed (serving q a) = fails a.access a.seen

-- It was a link swap that wrote.
abbrev pub has_link : Happening → Bool
has_link idle = false
has_link (serving q a) = links a.access a.seen

-- The grant was used for request q.
abbrev pub is_of : ℕ → Happening → Bool
is_of q idle = false
is_of q (serving r a) = eqb r q

-- It ended a find from y of request q.
abbrev pub ends_find_of : ℕ → Happening → Bool
ends_find_of q idle = false
ends_find_of q (serving r a) = cond (eqb r q) a.event.found false

-- It was the link swap of request q, and wrote.
abbrev pub links_for : ℕ → Happening → Bool
links_for q idle = false
links_for q (serving r a) = cond (eqb r q) (links a.access a.seen) false

-- The answer of request q is what its last grant gave: unfinished, or the answer that finished it.
abbrev pub answer_of : ℕ → List Happening → ℕ
answer_of q [] = 0
answer_of q (idle ∷ past) = answer_of q past
answer_of q (serving r a ∷ past) = cond (eqb r q) (answer_number a.event.answer) (answer_of q past)

-- A request's first grant is the first that its head uses for it; its last grant is 0 while it is unfinished.
unfoldable pub row_of : ℕ → List Happening → Row
row_of q past =
    record {
      answer = answer_of q past;
      first = first_where (is_of q) past;
      last = cond (eqb (answer_of q past) 0) 0 (last_where (is_of q) past);
      used = count_where (is_of q) past;
    }

-- A union has linked when its swap of x's word from root to parent y has written: the grant of that swap, or 0.
unfoldable pub link_of : ℕ → List Happening → ℕ
link_of q past = last_where (links_for q) past

-- The point is, for a joining union, the grant of its link swap; for "already together", its last grant;
-- for a same-set, the grant that ended its last find from y.
unfoldable pub point_of : Kind → ℕ → List Happening → ℕ
point_of Union q past = cond (eqb (link_of q past) 0) (last_where (is_of q) past) (link_of q past)
point_of SameSet q past = last_where (ends_find_of q) past
