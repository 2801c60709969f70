-- Runs: the longest runs of a schedule grant that schedule, and runs that follow the rules are the longest of theirs.
--
--   run h n             a run of n grants for the head h
--   Extended r g        a grant for head g joins the run r: the head is the same, and the run is under 255
--   Following h b r     the run r has a head below h and 1 to 255 grants, and could not have joined the run b
--   Follows h b rs      so has each of the runs rs, with the one before it; b stands before the first
--   Below h gs          every grant of gs is for a head below h
--   granted_longest     the longest runs grant the schedule
--   longest_follow      the longest runs follow the rules
--   granted_few         runs grant at most 255 each
--   granted_below       every head that is granted is below h
--   longest_granted     runs that follow the rules are the longest of what they grant
use mathlib.Core.Path.{◌≡◌, refl, ◌∙◌, ap}
use mathlib.Core.Bool.{true, false}
use mathlib.Core.List.{List, [], ◌∷◌, ◌++◌}
use Prim.Native.Nat.{ℕ, zero, suc, ◌+◌, ◌*◌, ◌≤◌, ◌<◌}
use native.Mathlib.Omega.{arith}
use native.Mathlib.Nat.{add-zero}
use lib.Dec.{eqb, ltb}
use lib.ListN.{length, get_or, replicate, length-append, length-replicate, get_or-replicate}
use borrow.Author.Tests.{eqb-true, eq-eqb, lt-ltb, ltb-true}
use Rattle.basics.proofs.Conditions.{split}
use Rattle.jobfile.specs.declared.Run.{Run}
use Rattle.jobfile.specs.Format.{most_grants, extends}
use Rattle.jobfile.specs.Meaning.{granted}
use Rattle.jobfile.specs.Written.{runs_from, longest_runs}
use Rattle.jobfile.proofs.Chains.{Chained, latest}

-- A run of n grants for the head h.
abbrev run : ℕ → ℕ → Run
run h n = record { head = h; count = n }

-- A run is extended only by its own head, while it is under 255.
pub record Extended (r : Run) (g : ℕ) : Type 0 where
  pub same : r.head ≡ g
  pub under : r.count < most_grants

pub extended : (r : Run) (g : ℕ) → extends r g ≡ true → Extended r g
extended r g e =
    split (eqb r.head g)
    (λ s. let u : ltb r.count most_grants ≡ true = rw s at e in record {
      same = eqb-true r.head g s;
      under = ltb-true r.count most_grants u;
    })
    (λ f. let z : false ≡ true = rw f at e in let y : ◌≡◌ {A = ℕ} 0 1 = cc in absurd (omega arith))

-- One more grant of a head after n of them.
replicate_more : (n h : ℕ) (gs : List ℕ) → replicate (n + 1) h ++ gs ≡ replicate n h ++ (h ∷ gs)
replicate_more zero h gs = refl
replicate_more (suc n) h gs =
    let z : suc n + 1 ≡ suc (n + 1) = omega arith in
    rw z (ap (λ (l : List ℕ). h ∷ l) (replicate_more n h gs))

granted_from : (r : Run) (gs : List ℕ) → granted (runs_from r gs) ≡ replicate r.count r.head ++ gs
granted_from r [] = refl
granted_from r (g ∷ gs) =
    split (extends r g)
    (λ e. rw e (granted_from (run r.head (r.count + 1)) gs ∙ replicate_more r.count r.head gs
    ∙ ap (λ (h : ℕ). replicate r.count r.head ++ (h ∷ gs)) (extended r g e).same))
    (λ e. rw e (ap (λ (l : List ℕ). replicate r.count r.head ++ l) (granted_from (run g 1) gs)))

pub granted_longest : (gs : List ℕ) → granted (longest_runs gs) ≡ gs
granted_longest [] = refl
granted_longest (g ∷ gs) = granted_from (run g 1) gs

pub record Following (heads : ℕ) (before r : Run) : Type 0 where
  pub head : r.head < heads
  pub some : 0 < r.count
  pub few : r.count ≤ most_grants
  pub apart : extends before r.head ≡ false

abbrev pub Follows : ℕ → Run → List Run → Type 0
Follows heads = Chained (Following heads) latest

abbrev pub Below : ℕ → List ℕ → Type 0
Below heads gs = (g none : ℕ) → g < length gs → get_or gs g none < heads

pub below_tail : (heads g : ℕ) (gs : List ℕ) → Below heads (g ∷ gs) → Below heads gs
below_tail heads g gs b i none l = b (suc i) none (omega arith)

from_follow : (heads : ℕ) (before r : Run) (gs : List ℕ) → Following heads before r → Below heads gs → Follows heads before (runs_from r gs)
from_follow heads before r [] f b = (f, tt)
from_follow heads before r (g ∷ gs) f b =
    split (extends r g)
    (λ e. rw e (from_follow heads before (run r.head (r.count + 1))
    gs (record { head = f.head; some = omega arith; few = omega (arith, (extended r g e).under); apart = f.apart })
    (below_tail heads g gs b)))
    (λ e. rw e (
      f,
      from_follow heads r (run g 1)
          gs (record { head = b 0 0 (omega arith); some = omega arith; few = omega arith; apart = e }) (below_tail heads g gs b),
    ))

-- A full run before the first: nothing extends it.
nothing_extends_full : (h g : ℕ) → extends (run h most_grants) g ≡ false
nothing_extends_full h g = split (eqb h g) (λ e. rw e) (λ e. rw e)

pub longest_follow : (heads h : ℕ) (gs : List ℕ) → Below heads gs → Follows heads (run h most_grants) (longest_runs gs)
longest_follow heads h [] b = tt
longest_follow heads h (g ∷ gs) b =
    from_follow heads (run h most_grants) (run g 1)
    gs (record { head = b 0 0 (omega arith); some = omega arith; few = omega arith; apart = nothing_extends_full h g })
    (below_tail heads g gs b)

-- A run under way takes in the grants of its head.
fill : (h n k : ℕ) (gs : List ℕ) → n + k ≤ most_grants → runs_from (run h n) (replicate k h ++ gs) ≡ runs_from (run h (n + k)) gs
fill h n zero gs l = rw add-zero
fill h n (suc k) gs l =
    let z : n + suc k ≡ n + 1 + k = omega arith in
    rw (eq-eqb h h refl, lt-ltb n most_grants (omega arith), z) (fill h (n + 1) k gs (omega arith))

-- The first grant of a run begins it, the others fill it.
begun : (h n : ℕ) (gs : List ℕ) → 0 < n → n ≤ most_grants → longest_runs (replicate n h ++ gs) ≡ runs_from (run h n) gs
begun h zero gs s f = absurd (omega arith)
begun h (suc n) gs s f = let z : 1 + n ≡ suc n = omega arith in rw (← z) (fill h 1 n gs (omega arith))

-- A run under way ends at the first grant that does not extend it.
ends : (r : Run) (h n : ℕ) (gs : List ℕ) → extends r h ≡ false → 0 < n → runs_from r (replicate n h ++ gs) ≡ r
    ∷ longest_runs (replicate n h ++ gs)
ends r h zero gs e s = absurd (omega arith)
ends r h (suc n) gs e s = rw e

from_granted : (heads : ℕ) (r : Run) (rs : List Run) → Follows heads r rs → runs_from r (granted rs) ≡ r ∷ rs
from_granted heads r [] f = refl
from_granted heads r (s ∷ rs) f =
    ends r s.head s.count (granted rs) f.0.apart f.0.some
    ∙ ap (λ (l : List Run). r ∷ l) (begun s.head s.count (granted rs) f.0.some f.0.few ∙ from_granted heads s rs f.1)

pub longest_granted : (heads : ℕ) (before : Run) (rs : List Run) → Follows heads before rs → longest_runs (granted rs) ≡ rs
longest_granted heads before [] f = refl
longest_granted heads before (r ∷ rs) f = begun r.head r.count (granted rs) f.0.some f.0.few ∙ from_granted heads r rs f.1

below_append : (heads : ℕ) (gs hs : List ℕ) → Below heads gs → Below heads hs → Below heads (gs ++ hs)
below_append heads [] hs b c i none l = c i none l
below_append heads (g ∷ gs) hs b c zero none l = b 0 none (omega arith)
below_append heads (g ∷ gs) hs b c (suc i) none l = below_append heads gs hs (below_tail heads g gs b) c i none (omega arith)

below_replicate : (heads h n : ℕ) → h < heads → Below heads (replicate n h)
below_replicate heads h n l i none m = rw (get_or-replicate n i h none (rw length-replicate at m)) l

-- No run grants more than 255.
pub granted_few : (heads : ℕ) (before : Run) (rs : List Run) → Follows heads before rs → length (granted rs) ≤ most_grants * length rs
granted_few heads before [] f = omega arith
granted_few heads before (r ∷ rs) f =
    let l = f.0.few in
    rw (length-append, length-replicate) (omega (arith, granted_few heads r rs f.1))

pub granted_below : (heads : ℕ) (before : Run) (rs : List Run) → Follows heads before rs → Below heads (granted rs)
granted_below heads before [] f = λ i none l. absurd (omega arith)
granted_below heads before (r ∷ rs) f =
    below_append heads (replicate r.count r.head) (granted rs) (below_replicate heads r.head r.count f.0.head)
    (granted_below heads r rs f.1)
