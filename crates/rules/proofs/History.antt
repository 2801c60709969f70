-- What one more happening does to what a history says.
--
--   Other q a        the grant a was not used for request q
--   user_of a        one more than the request that the grant a was used for, 0 for none
--   used_for past p  one more than the request that grant p was used for, 0 for none
--
-- Main laws: row_served and row_other, the row of a request after a grant; point_other, a grant for another request
-- leaves a point alone; used_kept, what grant p was used for stays so.
use mathlib.Core.Path.{◌≡◌, refl, sym, ◌∙◌}
use mathlib.Core.Logic.{◌≢◌}
use mathlib.Core.Bool.{Bool, true, false, cond, true≢false}
use mathlib.Core.List.{List, [], ◌∷◌}
use Prim.Native.Nat.{ℕ, suc, ◌+◌, ◌≤◌}
use native.Mathlib.Omega.{arith}
use native.Mathlib.Decide.{ℕ_discrete}
use lib.Dec.{eqb}
use lib.ListN.{length}
use borrow.Author.Tests.{eq-eqb, ne_eqb}
use Rattle.basics.proofs.Conditions.{split, cond_both}
use Rattle.job.specs.declared.Kind.{Kind}
use Rattle.job.specs.declared.Kind.TheVariants.{Union, SameSet}
use Rattle.job.specs.declared.Answer.{Answer}
use Rattle.job.specs.declared.Answer.TheVariants.{Unfinished, Joined, Together, Yes, No}
use Rattle.job.specs.Job.{answer_number}
use Rattle.rules.specs.Report.{is_final, charge}
use Rattle.rules.specs.Action.{Action, links}
use Rattle.rules.specs.Run.{Happening}
use Rattle.rules.specs.Run.Happening.{idle, serving}
use Rattle.rules.specs.History.{first_where, last_where, last_but_one, count_where, is_of, ends_find_of, links_for}
use Rattle.rules.specs.History.{answer_of, row_of, link_of, point_of}

-- A grant that was not used for q.
abbrev pub Other : ℕ → Happening → Type 0
Other q a = is_of q a ≡ false

pub other_served : (q r : ℕ) (act : Action) → q ≢ r → Other q (serving r act)
other_served q r act d = ne_eqb r q (λ e. d (sym e))

-- it ended no find of q, linked nothing for it and left its answer
other_find : (q : ℕ) (a : Happening) → Other q a → ends_find_of q a ≡ false
other_find q idle o = refl
other_find q (serving r act) o = rw o

other_link : (q : ℕ) (a : Happening) → Other q a → links_for q a ≡ false
other_link q idle o = refl
other_link q (serving r act) o = rw o

other_answer : (q : ℕ) (a : Happening) (past : List Happening) → Other q a → answer_of q (a ∷ past) ≡ answer_of q past
other_answer q idle past o = refl
other_answer q (serving r act) past o = rw o

module _ (f : Happening → Bool) (a : Happening) (past : List Happening) where
  pub last_kept : f a ≡ false → last_where f (a ∷ past) ≡ last_where f past
  last_kept o = rw o

  pub last_new : f a ≡ true → last_where f (a ∷ past) ≡ suc (length past)
  last_new t = rw t

  -- what was last is last but one
  pub but_one_new : f a ≡ true → last_but_one f (a ∷ past) ≡ last_where f past
  but_one_new t = rw t

  pub but_one_kept : f a ≡ false → last_but_one f (a ∷ past) ≡ last_but_one f past
  but_one_kept o = rw o

  count_kept : f a ≡ false → count_where f (a ∷ past) ≡ count_where f past
  count_kept o = rw o

  -- the first grant is settled once there is one
  pub first_settled : first_where f past ≢ 0 → first_where f (a ∷ past) ≡ first_where f past
  first_settled d = rw (ne_eqb (first_where f past) 0 d)

  pub first_new : f a ≡ true → first_where f past ≡ 0 → first_where f (a ∷ past) ≡ suc (length past)
  first_new t e = rw (eq-eqb (first_where f past) 0 e, t)

  first_kept : f a ≡ false → first_where f (a ∷ past) ≡ first_where f past
  first_kept o = go (ℕ_discrete (first_where f past) 0)
    where
      go : Dec (first_where f past ≡ 0) → first_where f (a ∷ past) ≡ first_where f past
      go (yes e) = rw (eq-eqb (first_where f past) 0 e, o) (sym e)
      go (no d) = first_settled d

-- No grant is beyond the present one.
pub first_bound : (f : Happening → Bool) (past : List Happening) → first_where f past ≤ length past
first_bound f [] = omega arith
first_bound f (a ∷ past) =
    cond_both (λ k. k ≤ suc (length past)) (eqb (first_where f past) 0)
    (cond_both (λ k. k ≤ suc (length past)) (f a) (omega arith) (omega arith)) (omega (arith, first_bound f past))

-- A grant that was used for q is its first, or comes after it.
pub first_positive : (f : Happening → Bool) (a : Happening) (past : List Happening) → f a ≡ true → first_where f (a ∷ past) ≢ 0
first_positive f a past t e = go (ℕ_discrete (first_where f past) 0)
  where
    go : Dec (first_where f past ≡ 0) → ⊥
    go (yes z) = omega (arith, first_new f a past t z)
    go (no d) = d (sym (first_settled f a past d) ∙ e)

-- ---- report rows

-- The row of a request that a grant was not used for.
pub row_other : (q : ℕ) (a : Happening) (past : List Happening) → Other q a → row_of q (a ∷ past) ≡ row_of q past
unfolding row_of
row_other q a past o =
    λ i. record {
      answer = other_answer q a past o i;
      first = first_kept (is_of q) a past o i;
      last = cond (eqb (other_answer q a past o i) 0) 0 (last_kept (is_of q) a past o i);
      used = count_kept (is_of q) a past o i;
    }

pub final_number : (a : Answer) → is_final a ≡ true → answer_number a ≢ 0
final_number Unfinished f z = true≢false (sym f)
final_number Joined f z = omega arith
final_number Together f z = omega arith
final_number Yes f z = omega arith
final_number No f z = omega arith

pub not_final_number : (a : Answer) → is_final a ≡ false → answer_number a ≡ 0
not_final_number Unfinished f = refl
not_final_number Joined f = absurd (true≢false f)
not_final_number Together f = absurd (true≢false f)
not_final_number Yes f = absurd (true≢false f)
not_final_number No f = absurd (true≢false f)

-- a last grant is 0 exactly while the answer is
last_answer : (a : Answer) (now : ℕ) → cond (is_final a) now 0 ≡ cond (eqb (answer_number a) 0) 0 now
last_answer Unfinished now = refl
last_answer Joined now = refl
last_answer Together now = refl
last_answer Yes now = refl
last_answer No now = refl

-- The row of the request that a grant was used for: charged with that grant.
pub row_served : (q : ℕ) (act : Action) (past : List Happening)
    → charge (row_of q past) (suc (length past)) act.event.answer ≡ row_of q (serving q act ∷ past)
unfolding row_of charge
row_served q act past =
    let t : eqb q q ≡ true = eq-eqb q q refl in
    let more : count_where (is_of q) past + 1 ≡ suc (count_where (is_of q) past) = omega arith in
    rw (t, last_answer act.event.answer (suc (length past)), more)

-- what the row of a served request says
module _ (q : ℕ) (act : Action) (past : List Happening) where
  pub of_itself : is_of q (serving q act) ≡ true
  of_itself = eq-eqb q q refl

  pub served_answer : (row_of q (serving q act ∷ past)).answer ≡ answer_number act.event.answer
  unfolding row_of
  served_answer = rw of_itself

  pub served_last : (row_of q (serving q act ∷ past)).last ≢ 0 → (row_of q (serving q act ∷ past)).last ≡ suc (length past)
  unfolding row_of
  served_last d = split (eqb (answer_of q (serving q act ∷ past)) 0) (λ t. absurd (d (rw t))) (λ t. rw (t, of_itself))

  pub served_ended : is_final act.event.answer ≡ true → (row_of q (serving q act ∷ past)).last ≡ suc (length past)
  unfolding row_of
  served_ended final =
      rw (of_itself, ne_eqb (answer_number act.event.answer) 0 (final_number act.event.answer final))

  pub served_used : (row_of q (serving q act ∷ past)).used ≡ suc (row_of q past).used
  unfolding row_of
  served_used = rw of_itself

  pub served_first : (row_of q (serving q act ∷ past)).first ≢ 0
  unfolding row_of
  served_first = first_positive (is_of q) (serving q act) past of_itself

  pub served_settled : (row_of q past).first ≢ 0 → (row_of q (serving q act ∷ past)).first ≡ (row_of q past).first
  unfolding row_of
  served_settled = first_settled (is_of q) (serving q act) past

-- no grant of a row is beyond the present one
pub last_bound : (f : Happening → Bool) (past : List Happening) → last_where f past ≤ length past
last_bound f [] = omega arith
last_bound f (a ∷ past) = split (f a) (λ t. rw t (omega arith)) (λ t. rw t (omega (arith, last_bound f past)))

pub row_last_bound : (q : ℕ) (past : List Happening) → (row_of q past).last ≤ length past
unfolding row_of
row_last_bound q past =
    split (eqb (answer_of q past) 0) (λ t. rw t (omega arith)) (λ t. rw t (last_bound (is_of q) past))

-- a request that is finished has a last grant
last_there : (q : ℕ) (past : List Happening) → answer_of q past ≢ 0 → last_where (is_of q) past ≢ 0
last_there q [] d = absurd (d refl)
last_there q (idle ∷ past) d = last_there q past d
last_there q (serving r act ∷ past) d =
    split (eqb r q)
    (λ t z. let last : suc (length past) ≡ 0 = rw t at z in absurd (omega arith))
    (λ f z. last_there q past (λ e. d (rw f e)) (rw f at z))

pub finished_last : (q : ℕ) (past : List Happening) → (row_of q past).answer ≢ 0 → (row_of q past).last ≢ 0
unfolding row_of
finished_last q past d z = last_there q past d (rw (ne_eqb (answer_of q past) 0 d) at z)

pub row_first_bound : (q : ℕ) (past : List Happening) → (row_of q past).first ≤ length past
unfolding row_of
row_first_bound q past = first_bound (is_of q) past

-- a request that has not begun has used no grant
unbegun_count : (f : Happening → Bool) (past : List Happening) → first_where f past ≡ 0 → count_where f past ≡ 0
unbegun_count f [] none = refl
unbegun_count f (a ∷ past) none =
    split (f a)
    (λ t. absurd (first_positive f a past t none))
    (λ o. count_kept f a past o ∙ unbegun_count f past (sym (first_kept f a past o) ∙ none))

pub unbegun_used : (q : ℕ) (past : List Happening) → (row_of q past).first ≡ 0 → (row_of q past).used ≡ 0
unfolding row_of
unbegun_used q past = unbegun_count (is_of q) past

-- ---- links and points

module _ (q : ℕ) (a : Happening) (past : List Happening) (other : Other q a) where
  pub link_other : link_of q (a ∷ past) ≡ link_of q past
  unfolding link_of
  link_other = last_kept (links_for q) a past (other_link q a other)

  pub find_other : last_where (ends_find_of q) (a ∷ past) ≡ last_where (ends_find_of q) past
  find_other = last_kept (ends_find_of q) a past (other_find q a other)

  pub point_other : (k : Kind) → point_of k q (a ∷ past) ≡ point_of k q past
  unfolding point_of
  point_other Union = rw (link_other, last_kept (is_of q) a past other)
  point_other SameSet = find_other

module _ (q : ℕ) (act : Action) (past : List Happening) where
  pub link_served : links act.access act.seen ≡ true → link_of q (serving q act ∷ past) ≡ suc (length past)
  unfolding link_of
  link_served t = rw (of_itself q act past, t)

  pub link_unserved : links act.access act.seen ≡ false → link_of q (serving q act ∷ past) ≡ link_of q past
  unfolding link_of
  link_unserved t = rw (of_itself q act past, t)

  pub find_served : act.event.found ≡ true → last_where (ends_find_of q) (serving q act ∷ past) ≡ suc (length past)
  find_served t = rw (of_itself q act past, t)

  pub find_unserved : act.event.found ≡ false → last_where (ends_find_of q) (serving q act ∷ past) ≡ last_where (ends_find_of q) past
  find_unserved t = rw (of_itself q act past, t)

  -- a union that has not linked has its point at its last grant
  pub point_unlinked : link_of q (serving q act ∷ past) ≡ 0 → point_of Union q (serving q act ∷ past) ≡ suc (length past)
  unfolding point_of
  point_unlinked z = rw (eq-eqb (link_of q (serving q act ∷ past)) 0 z, of_itself q act past)

pub point_same_set : (q : ℕ) (past : List Happening) → point_of SameSet q past ≡ last_where (ends_find_of q) past
unfolding point_of
point_same_set q past = refl

-- and one that has linked, there
pub point_union : (q : ℕ) (past : List Happening) → link_of q past ≢ 0 → point_of Union q past ≡ link_of q past
unfolding point_of
point_union q past d = rw (ne_eqb (link_of q past) 0 d)

-- ---- which request a grant was used for

abbrev user_of : Happening → ℕ
user_of idle = 0
user_of (serving q act) = suc q

unfoldable pub used_for : List Happening → ℕ → ℕ
used_for [] p = 0
used_for (a ∷ past) p = cond (eqb p (suc (length past))) (user_of a) (used_for past p)

pub used_now : (q : ℕ) (act : Action) (past : List Happening) → used_for (serving q act ∷ past) (suc (length past)) ≡ suc q
unfolding used_for
used_now q act past = rw (eq-eqb (suc (length past)) (suc (length past)) refl)

pub used_kept : (a : Happening) (past : List Happening) (p : ℕ) → p ≤ length past → used_for (a ∷ past) p ≡ used_for past p
unfolding used_for
used_kept a past p h = rw (ne_eqb p (suc (length past)) (λ e. omega arith))
