-- Document 01, "One grant, one word" and "Whole runs and the plain book": what a grant did that was used for a request,
-- told by its access and by the word that it saw.
--
--   Action        the access of a grant, the word that it saw, and what the steps say of it
--   writes a w    the access a is a swap that wrote, having seen the word w
--   fails a w     it is a swap that failed
--   links a w     it is a swap that linked its place
--   Agrees        what the steps say of an action is what its access and the word seen tell
use Rattle.std.specs.Prelude.{◌≡◌, Bool, false, not, cond, eqb}
use Rattle.word.specs.declared.Node.{Node}
use Rattle.word.specs.Word.{same}
use Rattle.process.specs.declared.Access.{Access}
use Rattle.process.specs.declared.Access.TheVariants.{Idle, Load, Cas}
use Rattle.process.specs.declared.Event.{Event}

-- What a grant did at the table, and what its step recorded.
pub record Action : Type 0 where
  pub access : Access
  pub seen : Node
  pub event : Event

-- "A swap writes only if the word equals the expected one."
abbrev pub writes : Access → Node → Bool
writes Idle w = false
writes (Load i) w = false
writes (Cas i expected new) w = same w expected

-- One that does not write has failed.
abbrev pub fails : Access → Node → Bool
fails Idle w = false
fails (Load i) w = false
fails (Cas i expected new) w = not (same w expected)

-- "A union has linked when its swap of x's word from root to parent y has written; a find's swaps link nothing.": a swap
-- that wrote, from the word of a root to another parent.
abbrev pub links : Access → Node → Bool
links Idle w = false
links (Load i) w = false
links (Cas i expected new) w =
    cond (writes (Cas i expected new) w) (cond (eqb w.parent i) (not (eqb new.parent i)) false) false

-- The two flags of an event that could be told without the steps.
pub record Agrees (a : Action) : Type 0 where
  pub failed : a.event.failed ≡ fails a.access a.seen
  pub linked : a.event.linked ≡ links a.access a.seen
