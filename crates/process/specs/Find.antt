-- Document 01, "One grant, one word": a find from x by halving, as a machine of its own. It knows neither the request nor
-- the side that it is made for.
--
--   find_access x s  the access that a find on node x makes at step s
--   Walked           where a word may lead a find
--   walked x w s     where the word w, seen by that access, leads the find
use Rattle.std.specs.Prelude.{cond, ℕ, eqb}
use Rattle.word.specs.declared.Node.{Node}
use Rattle.word.specs.Word.{same}
use Rattle.process.specs.declared.Step.{Step}
use Rattle.process.specs.declared.Step.TheVariants.{ReadNode, ReadParent, Halve, ReadAgain}
use Rattle.process.specs.declared.Access.{Access}
use Rattle.process.specs.declared.Access.TheVariants.{Load, Cas}

-- The one word that the find reads or swaps, step by step.
abbrev pub find_access : ℕ → Step → Access
-- read x's word
find_access x ReadNode = Load x
-- with t as its parent, read t's word
find_access x (ReadParent r t) = Load t
-- swap x's word from the word first read to the same rank with parent u
find_access x (Halve r t u) = Cas x (record { rank = r; parent = t }) (record { rank = r; parent = u })
-- read t's word again
find_access x (ReadAgain t) = Load t

-- A word seen leads a find on to its next step, on after a swap that failed, up to another node, or to its end.
pub data Walked : Type 0 where
  On : Step → Walked
  Failed : Step → Walked
  Up : ℕ → Walked
  Ended : Walked

abbrev pub walked : ℕ → Node → Step → Walked
-- if x is a root, the find ends with x; else t is its parent
walked x w ReadNode = cond (eqb w.parent x) Ended (On (ReadParent w.rank w.parent))
-- u is the parent of t
walked x w (ReadParent r t) = On (Halve r t w.parent)
-- the swap writes only if the word equals the expected one; written or not, t's word is read again
walked x w (Halve r t u) = cond (same w (record { rank = r; parent = t })) (On (ReadAgain t)) (Failed (ReadAgain t))
-- x becomes the parent of t as read again; start over
walked x w (ReadAgain t) = Up w.parent
