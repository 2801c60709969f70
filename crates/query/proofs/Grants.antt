-- The enquiry's grants on plain numbers, one a law: where looking at a node and moving on from it lead.
--
--   swapping node other from_y w above   the head that swaps the node's word from w to the parent `above`
--   again node other from_y u            the head that reads the word of u again
--   rereading x y point                 the head that reads x's word again
--
-- Main laws: look_moves, look_turns, look_meets and look_differs; reread_root and reread_lower; move_reads, move_swaps and
-- move_ends; spent and told_answer, the end.
use mathlib.Core.Path.{◌≡◌, refl, sym, ap, ◌∙◌}
use mathlib.Core.Logic.{◌≢◌}
use mathlib.Core.Bool.{Bool, true, false}
use mathlib.Core.List.{List, map}
use Prim.Native.Nat.{ℕ, suc, ◌/◌, ◌%◌, ◌≤◌}
use native.Mathlib.Omega.{arith}
use borrow.Author.Tests.{eq-eqb, ne_eqb}
use Rattle.basics.proofs.Conditions.{split}
use Rattle.job.specs.declared.Answer.{Answer}
use Rattle.job.specs.declared.Answer.TheVariants.{Unfinished, Joined, Together, Yes, No}
use Rattle.job.specs.Job.{answer_number}
use Rattle.word.specs.declared.Node.{Node}
use Rattle.word.specs.Word.{same, decode}
use Rattle.process.specs.declared.Access.TheVariants.{Cas}
use Rattle.process.specs.declared.Step.TheVariants.{Halve, ReadAgain}
use Rattle.process.specs.declared.Stage.TheVariants.{Find, RereadX}
use Rattle.process.specs.declared.Head.{Head}
use Rattle.process.specs.Access.{access_of}
use Rattle.process.specs.Advance.{advance_of}
use Rattle.rules.specs.Table.{at, parent, touched}
use Rattle.table.specs.Admitted.{Admitted}
use Rattle.table.proofs.Admitted.{words_kept}
use Rattle.query.specs.Query.{answered, steps}
use Rattle.query.specs.Numbers.{errand_of, head_at, looking, moving, packed, ended}

abbrev pub swapping : ℕ → ℕ → Bool → Node → ℕ → Head
swapping node other from_y w above = head_at node other from_y (Find (errand_of from_y) (Halve w.rank w.parent above))

abbrev pub again : ℕ → ℕ → Bool → ℕ → Head
again node other from_y u = head_at node other from_y (Find (errand_of from_y) (ReadAgain u))

abbrev pub rereading : ℕ → ℕ → ℕ → Head
rereading x y point = head_at x y false (RereadX point)

-- ---- one grant

module _ (t : List Node) (node other left used left' used' : ℕ) (one : left ≡ suc left') (next : used' ≡ suc used) where
  pub look_moves : (from_y : Bool) → parent t node ≢ node
      → steps left used (looking node other from_y) t ≡ steps left' used' (moving node other from_y (at t node)) t
  unfolding access_of advance_of
  look_moves false lower = rw (one, next, ne_eqb (parent t node) node lower) refl
  look_moves true lower = rw (one, next, ne_eqb (parent t node) node lower) refl

  -- the find from x ends, and the find from y begins
  pub look_turns : parent t node ≡ node → steps left used (looking node other false) t ≡ steps left' used' (looking other node true) t
  unfolding access_of advance_of
  look_turns root = rw (one, next, eq-eqb (parent t node) node root) refl

  pub look_meets : parent t node ≡ node → other ≡ node → steps left used (looking node other true) t ≡ answered Yes used' t
  unfolding access_of advance_of
  look_meets root e = rw (one, next, eq-eqb (parent t node) node root, eq-eqb other node e) refl

  pub look_differs : parent t node ≡ node → other ≢ node
      → steps left used (looking node other true) t ≡ steps left' used' (rereading other node used') t
  unfolding access_of advance_of
  look_differs root d = rw (one, next, eq-eqb (parent t node) node root, ne_eqb other node d) refl

  pub reread_root : (point : ℕ) → parent t node ≡ node → steps left used (rereading node other point) t ≡ answered No used' t
  unfolding access_of advance_of
  reread_root point root = rw (one, next, eq-eqb (parent t node) node root) refl

  pub reread_lower : (point : ℕ) → parent t node ≢ node
      → steps left used (rereading node other point) t ≡ steps left' used' (looking node other false) t
  unfolding access_of advance_of
  reread_lower point lower = rw (one, next, ne_eqb (parent t node) node lower) refl

  pub move_reads : (from_y : Bool) (w : Node)
      → steps left used (moving node other from_y w) t ≡ steps left' used' (swapping node other from_y w (parent t w.parent)) t
  unfolding access_of advance_of
  move_reads false w = rw (one, next) refl
  move_reads true w = rw (one, next) refl

  pub move_swaps : (from_y : Bool) (w : Node) (above : ℕ)
      → steps left used (swapping node other from_y w above) t
      ≡ steps left' used' (again node other from_y w.parent) (touched t (Cas node w (record { rank = w.rank; parent = above })))
  unfolding access_of advance_of
  move_swaps false w above = split (same (at t node) w) (λ e. rw (one, next, e) refl) (λ e. rw (one, next, e) refl)
  move_swaps true w above = split (same (at t node) w) (λ e. rw (one, next, e) refl) (λ e. rw (one, next, e) refl)

  pub move_ends : (from_y : Bool) (u : ℕ)
      → steps left used (again node other from_y u) t ≡ steps left' used' (looking (parent t u) other from_y) t
  unfolding access_of advance_of
  move_ends false u = rw (one, next) refl
  move_ends true u = rw (one, next) refl

-- ---- the end, on words

-- answers have the report's numbers
pub answer_small : (answer : Answer) → answer_number answer ≤ 4
answer_small Unfinished = omega arith
answer_small Joined = omega arith
answer_small Together = omega arith
answer_small Yes = omega arith
answer_small No = omega arith

module _ (words : List ℕ) {n : ℕ} (admitted : Admitted n (map decode words)) where
  pub told_answer : (answer : Answer) (used end : ℕ) → used ≤ 65535 → end ≡ packed answer used
      → ended end words ≡ answered answer used (map decode words)
  told_answer answer used end small e =
      let first : end / 65536 ≡ answer_number answer = omega (arith, e) in
      let rest : end % 65536 ≡ used = omega (arith, e) in
      λ i. record { queried = record { number = 0; answer = first i; used = rest i }; table = words_kept words admitted i }

  pub spent : (left used : ℕ) (h : Head) (end : ℕ) → left ≡ 0 → used ≤ 65535 → end ≡ packed Unfinished used
      → ended end words ≡ steps left used h (map decode words)
  spent left used h end none small e = told_answer Unfinished used end small e ∙ ap (λ l. steps l used h (map decode words)) (sym none)
