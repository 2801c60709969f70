-- Chains: lists in which each keeps a rule with what those before it leave, and sections whose records are checked so.
--
--   Chained R next b l  each of l keeps the rule R with what those before it leave; b stands before the first
--   latest, counted     what they leave: the one before it, of pairs and runs; how many there are, of requests
--   chained_each        what the rule says of one alone holds of each
--   chained_next        the rule holds of each and the next
--   chained             from the rule of the first, and of each and the next
--   counted_each        the rule holds of each with its number
--   counted_all         from the rule of each with its number
--   counted_few         where the rule bounds the number, there are few
--   chained_map         a rule that follows from it holds of the same lists
--   checked_chain, chain_checked   a list in which none is refused keeps the rule, and the other way round
--   chain_passes        written records that keep the rule are not refused
--   section_chain       records that are not refused keep it
use mathlib.Core.Path.{◌≡◌, refl}
use mathlib.Core.List.{List, [], ◌∷◌, ◌++◌, map}
use Prim.Native.Nat.{ℕ, zero, suc, ◌+◌, ◌≤◌, ◌<◌}
use native.Mathlib.Omega.{arith}
use native.Mathlib.Nat.{add-zero}
use lib.ListN.{length, get_or}
use Rattle.jobfile.specs.Format.{first_refusal}
use Rattle.jobfile.specs.Written.{records_bytes}
use Rattle.jobfile.specs.Admitted.{Bytes}
use Rattle.jobfile.proofs.Refusals.{through}
use Rattle.jobfile.proofs.Records.{Section, Layout, Passes, refusal, bytes_drop}
use Rattle.jobfile.proofs.Records.Section.{over, more}

abbrev pub Chained : {S A : Type 0} → (S → A → Type 0) → (S → A → S) → S → List A → Type 0
Chained R next before [] = Unit {0}
Chained R next before (a ∷ l) = R before a × Chained R next (next before a) l

abbrev pub latest : {A : Type 0} → A → A → A
latest before a = a

abbrev pub counted : {A : Type 0} → ℕ → A → ℕ
counted number a = number + 1

module _ {S A : Type 0} (R : S → A → Type 0) (next : S → A → S) where
  pub chained_each : (P : A → Type 0) → ((before : S) (a : A) → R before a → P a) → (before : S) (l : List A) → Chained R next before l
      → (i : ℕ) (none : A) → i < length l → P (get_or l i none)
  chained_each P alone before [] c i none l = absurd (omega arith)
  chained_each P alone before (a ∷ rest) c zero none l = alone before a c.0
  chained_each P alone before (a ∷ rest) c (suc i) none l = chained_each P alone (next before a) rest c.1 i none (omega arith)

module _ {A : Type 0} (R : A → A → Type 0) where
  pub chained_next : (before : A) (l : List A) → Chained R latest before l
      → (i : ℕ) (none : A) → suc i < length l → R (get_or l i none) (get_or l (suc i) none)
  chained_next before [] c i none l = absurd (omega arith)
  chained_next before (a ∷ []) c i none l = absurd (omega arith)
  chained_next before (a ∷ b ∷ rest) c zero none l = c.1.0
  chained_next before (a ∷ b ∷ rest) c (suc i) none l = chained_next a (b ∷ rest) c.1 i none (omega arith)

  pub chained : (before : A) (l : List A) → ((none : A) → 0 < length l → R before (get_or l 0 none))
      → ((i : ℕ) (none : A) → suc i < length l → R (get_or l i none) (get_or l (suc i) none)) → Chained R latest before l
  chained before [] first next = tt
  chained before (a ∷ l) first next =
      (first a (omega arith), chained a l (λ none h. next 0 none (omega arith)) (λ i none h. next (suc i) none (omega arith)))

module _ {A : Type 0} (R : ℕ → A → Type 0) where
  -- one number more
  shift : (number i : ℕ) → number + 1 + i ≡ number + suc i
  shift number i = omega arith

  pub counted_each : (number : ℕ) (l : List A) → Chained R counted number l
      → (i : ℕ) (none : A) → i < length l → R (number + i) (get_or l i none)
  counted_each number [] c i none l = absurd (omega arith)
  counted_each number (a ∷ rest) c zero none l = rw add-zero c.0
  counted_each number (a ∷ rest) c (suc i) none l = rw (← shift number i) (counted_each (number + 1) rest c.1 i none (omega arith))

  pub counted_all : (number : ℕ) (l : List A) → ((i : ℕ) (none : A) → i < length l → R (number + i) (get_or l i none))
      → Chained R counted number l
  counted_all number [] each = tt
  counted_all number (a ∷ l) each = (
    rw add-zero at (each 0 a (omega arith)),
    counted_all (number + 1) l (λ i none h. rw (shift number i) (each (suc i) none (omega arith))),
  )

  pub counted_few : (most : ℕ) → ((number : ℕ) (a : A) → R number a → number < most) → (number : ℕ) (l : List A) → number ≤ most
      → Chained R counted number l → number + length l ≤ most
  counted_few most bounds number [] few c = omega arith
  counted_few most bounds number (a ∷ l) few c =
      omega (arith, counted_few most bounds (number + 1) l (omega (arith, bounds number a c.0)) c.1)

module _ {S A : Type 0} {R Q : S → A → Type 0} (next : S → A → S) (follows : (before : S) (a : A) → R before a → Q before a) where
  pub chained_map : (before : S) (l : List A) → Chained R next before l → Chained Q next before l
  chained_map before [] c = tt
  chained_map before (a ∷ l) c = (follows before a c.0, chained_map (next before a) l c.1)

module _ {S A : Type 0} (check : S → A → ℕ) (R : S → A → Type 0) (next : S → A → S) where
  pub checked_chain : ((before : S) (a : A) → check before a ≡ 0 → R before a)
      → (before : S) (l : List A) → first_refusal check next before l ≡ 0 → Chained R next before l
  unfolding first_refusal
  checked_chain rule before [] e = tt
  checked_chain rule before (a ∷ l) e =
      let p = through (check before a) _ e in
      (rule before a p.first, checked_chain rule (next before a) l p.second)

  pub chain_checked : ((before : S) (a : A) → R before a → check before a ≡ 0)
      → (before : S) (l : List A) → Chained R next before l → first_refusal check next before l ≡ 0
  unfolding first_refusal
  chain_checked passes before [] c = refl
  chain_checked passes before (a ∷ l) c = rw (passes before a c.0) (chain_checked passes (next before a) l c.1)

-- What the records before one leave is told by what they are read as.
module _ {S A : Type 0} (k : Layout A S) (R : S → A → Type 0) (next : S → A → S)
    (kept : (before : S) (t : List ℕ) → k.next before t ≡ next before (k.at t)) where
  pub chain_passes : ((before : S) (a : A) (t : List ℕ) → R before a → k.check before (k.bytes a ++ t) ≡ 0)
      → (before : S) (l : List A) (t : List ℕ) → Chained R next before l → Passes k t before l
  chain_passes passes before [] t c = tt
  chain_passes passes before (a ∷ l) t c =
      let rest = records_bytes k.bytes l ++ t in
      (passes before a rest c.0, rw (kept, k.back) (chain_passes passes (next before a) l t c.1))

  pub section_chain : ((before : S) (t : List ℕ) → Bytes t → k.check before t ≡ 0 → R before (k.at t))
      → {t rest : List ℕ} {ts : List (List ℕ)} (before : S) → Section k.size k.mark t ts rest → Bytes t
      → refusal k before ts ≡ 0 → Chained R next before (map k.at ts)
  unfolding first_refusal
  section_chain rule before over b e = tt
  section_chain rule {t} before (more m s) b e =
      let p = through (k.check before t) _ e in
      (rule before t b p.first, rw (← kept before t) (section_chain rule (k.next before t) s (bytes_drop k.size t b) p.second))
