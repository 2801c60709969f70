-- One look at a node, on words: each end that it may have, and each way on. The code hands over the parent that it read.
--
--   looks   the result from here on
--
-- Main laws: never, no grant is left; looked_on, looked_turned, looked_met, looked_spent, looked_no and looked_again, one for each
-- return of the code.
use mathlib.Core.Path.{◌≡◌, sym, ap, ◌∙◌}
use mathlib.Core.Logic.{◌≢◌}
use mathlib.Core.Bool.{Bool, true, false}
use mathlib.Core.List.{List, map}
use Prim.Native.Nat.{ℕ, ◌+◌, ◌-◌}
use native.Mathlib.Omega.{arith}
use Rattle.job.specs.declared.Answer.TheVariants.{Unfinished, Yes, No}
use Rattle.word.specs.declared.Node.{Node}
use Rattle.word.specs.Word.{parent_of, decode}
use Rattle.process.specs.declared.Head.{Head}
use Rattle.rules.specs.Table.{parent}
use Rattle.table.specs.Admitted.{word_at}
use Rattle.table.proofs.Admitted.{admitted_at}
use Rattle.query.specs.Query.{Result, steps}
use Rattle.query.specs.Numbers.{looking, moving, Ready, packed, ended}
use Rattle.query.proofs.Grants.{rereading, look_moves, look_turns, look_meets, look_differs, reread_root, reread_lower}
use Rattle.query.proofs.Grants.{told_answer, spent}

-- no grant is left, for looking or for moving on
pub never : {words : List ℕ} {node other used left end : ℕ} (h : Head) → Ready words node other used left → left ≡ 0
    → end ≡ packed Unfinished used → ended end words ≡ steps left used h (map decode words)
never {words} {used = used} {left = left} {end = end} h ready none told =
    spent words ready.admitted left used h end none (omega (arith, ready.room)) told

module _ {words : List ℕ} {node other used left : ℕ} (ready : Ready words node other used left) (from_y : Bool) (some : left ≢ 0) where
  abbrev t : List Node
  t = map decode words

  abbrev looks : Result
  looks = steps left used (looking node other from_y) t

  pub looked_on : {up : ℕ} → up ≡ parent_of (word_at words node) → up ≢ node
      → looks ≡ steps (left - 1) (used + 1) (moving node other from_y (decode (word_at words node))) t
  looked_on its lower =
      let read = admitted_at words ready.admitted node ready.inside in
      look_moves t node other left used (left - 1) (used + 1) (omega (arith, some)) (omega arith) from_y
      (λ e. lower (its ∙ sym (ap (λ v. v.parent) read) ∙ e))
      ∙ ap (λ w. steps (left - 1) (used + 1) (moving node other from_y w) t) read

  module _ {up : ℕ} (its : up ≡ parent_of (word_at words node)) (found : up ≡ node) where
    root : parent t node ≡ node
    root = ap (λ v. v.parent) (admitted_at words ready.admitted node ready.inside) ∙ sym its ∙ found

    pub looked_turned : from_y ≡ false → looks ≡ steps (left - 1) (used + 1) (looking other node true) t
    looked_turned first =
        rw first
        (look_turns t node other left used (left - 1) (used + 1) (omega (arith, some)) (omega arith) root)

    module _ (second : from_y ≡ true) where
      pub looked_met : {end : ℕ} → other ≡ node → end ≡ packed Yes (used + 1) → ended end words ≡ looks
      looked_met {end} e told =
          rw second
          (told_answer words ready.admitted Yes (used + 1) end (omega (arith, some, ready.room)) told
          ∙ sym (look_meets t node other left used (left - 1) (used + 1) (omega (arith, some)) (omega arith) root e))

      module _ (apart : other ≢ node) where
        differs : looks ≡ steps (left - 1) (used + 1) (rereading other node (used + 1)) t
        differs =
            rw second
            (look_differs t node other left used (left - 1) (used + 1) (omega (arith, some)) (omega arith) root apart)

        pub looked_spent : {end : ℕ} → left ≡ 1 → end ≡ packed Unfinished (used + 1) → ended end words ≡ looks
        looked_spent {end} one told =
            spent words ready.admitted (left - 1) (used + 1) (rereading other node (used + 1)) end (omega (arith, one))
            (omega (arith, one, ready.room)) told
            ∙ sym differs

        module _ (two : left ≢ 1) where
          reread : {up' : ℕ} → up' ≡ parent_of (word_at words other) → parent t other ≡ up'
          reread its' = ap (λ v. v.parent) (admitted_at words ready.admitted other ready.within) ∙ sym its'

          pub looked_no : {up' end : ℕ} → up' ≡ parent_of (word_at words other) → up' ≡ other → end ≡ packed No (used + 2)
              → ended end words ≡ looks
          looked_no {end = end} its' still told =
              told_answer words ready.admitted No (used + 2) end (omega (arith, some, two, ready.room)) told
              ∙ sym (reread_root t other node (left - 1) (used + 1) (left - 2) (used + 2) (omega (arith, some, two)) (omega arith)
              (used + 1) (reread its' ∙ still))
              ∙ sym differs

          pub looked_again : {up' : ℕ} → up' ≡ parent_of (word_at words other) → up' ≢ other
              → looks ≡ steps (left - 2) (used + 2) (looking other node false) t
          looked_again its' moved =
              differs
              ∙ reread_lower t other node (left - 1) (used + 1) (left - 2) (used + 2) (omega (arith, some, two)) (omega arith)
              (used + 1) (λ e. moved (sym (reread its') ∙ e))
