-- Laws of `Wrote`: nothing, one byte, one text after the other, a loop's texts, and what a whole text leaves.
--
--   Through done n i at before after next   a loop has done i of its n turns: `done i` is written
use mathlib.Core.Path.{◌≡◌, refl, sym, ap, ◌∙◌, subst}
use mathlib.Core.List.{List, [], ◌∷◌, ◌++◌}
use Prim.Native.Nat.{ℕ, suc, ◌+◌, ◌≤◌, ◌<◌, min}
use native.Mathlib.Omega.{arith, min_cases}
use lib.ListN.{length, drop, length-append}
use lib.Seq.{sets, length-sets, sets-eq, set_out}
use Rattle.text.specs.Writing.{last_position, Wrote}

sets_out : (ys l : List ℕ) (i : ℕ) → length l ≤ i → sets l i ys ≡ l
sets_out [] l i h = refl
sets_out (y ∷ ys) l i h = ap (λ (m : List ℕ). sets m (suc i) ys) (set_out l i y h) ∙ sets_out ys l (suc i) (omega arith)

pub sets_append : (xs ys l : List ℕ) (i j : ℕ) → j ≡ i + length xs → sets (sets l i xs) j ys ≡ sets l i (xs ++ ys)
sets_append [] ys l i j e = ap (λ (k : ℕ). sets l k ys) (omega arith)
sets_append (x ∷ xs) ys l i j e = sets_append xs ys _ (suc i) j (omega arith)

-- where counting ends nothing is stored
sets_counted : (ys l : List ℕ) (i : ℕ) → length l ≤ last_position → sets l (min i last_position) ys ≡ sets l i ys
sets_counted ys l i h =
    min_cases i last_position _ (λ small e. ap (λ (k : ℕ). sets l k ys) e)
    (λ large e. sets_out ys l _ (omega arith) ∙ sym (sets_out ys l i (omega arith)))

pub wrote_nothing : (at : ℕ) (out : List ℕ) → at ≤ last_position → length out ≤ last_position → Wrote [] at out out at
wrote_nothing at out h k = record { counted = omega arith; stored = refl; ended = k }

-- one text and then another is the two in a row
pub wrote_append : {xs ys before between after : List ℕ} {at middle next : ℕ}
    → Wrote xs at before between middle
    → Wrote ys middle between after next
    → Wrote (xs ++ ys) at before after next
wrote_append {xs} {ys} {before} {at = at} {middle} u v =
    let written : List ℕ = sets before at xs in
    record {
      counted = omega (arith, length-append xs ys, u.counted, v.counted);
      stored =
          v.stored
          ∙ ap (λ (l : List ℕ). sets l middle ys) u.stored
          ∙ ap (λ (k : ℕ). sets written k ys) u.counted
          ∙ sets_counted ys written (at + length xs) (omega (arith, length-sets before at xs, u.ended))
          ∙ sets_append xs ys before at (at + length xs) refl;
      ended = u.ended;
    }

-- a text at the start of a buffer that it fits into: the text, then what was there
pub wrote_whole : {bytes before after : List ℕ} {next : ℕ}
    → Wrote bytes 0 before after next
    → length bytes ≤ length before
    → after ≡ bytes ++ drop (length bytes) before
wrote_whole {bytes} {before} w h =
    let z : 0 + length bytes ≡ length bytes = omega arith in
    w.stored ∙ sets-eq bytes before 0 (omega arith) ∙ ap (λ (k : ℕ). bytes ++ drop k before) z

-- a text that is written from the start measures itself, unless it is longer than 64 bits can count
pub wrote_measured : {bytes before after : List ℕ} {next : ℕ}
    → Wrote bytes 0 before after next
    → length bytes ≤ last_position
    → next ≡ length bytes
wrote_measured w h = omega (arith, w.counted)

pub record Through (done : ℕ → List ℕ) (n i at : ℕ) (before after : List ℕ) (next : ℕ) : Type 0 where
  pub within : i ≤ n
  pub wrote : Wrote (done i) at before after next

module _ {done : ℕ → List ℕ} {n i at : ℕ} {before after : List ℕ} {next : ℕ} (t : Through done n i at before after next) where
  -- a turn writes one piece more
  pub through_next : {piece later : List ℕ} {past : ℕ}
      → i < n
      → done (i + 1) ≡ done i ++ piece
      → Wrote piece next after later past
      → Through done n (i + 1) at before later past
  through_next {later = later} {past} l e w =
      record {
        within = omega arith;
        wrote = subst (λ (bytes : List ℕ). Wrote bytes at before later past) (sym e) (wrote_append t.wrote w);
      }
