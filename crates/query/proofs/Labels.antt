-- Labels of a well formed table: each node has the root that it leads to.
--
--   root_label i   the root of node i
--
-- Main law: root_labelled, these labels are labels of the table.
use mathlib.Core.Path.{◌≡◌, sym, ap, ◌∙◌}
use Prim.Native.Nat.{ℕ, ◌<◌}
use native.Mathlib.Decide.{ℕ_discrete, dec_lt}
use Rattle.forest.specs.Forest.{Leads, root, up}
use Rattle.forest.proofs.Forest.{WellFormed, Labelled, leads_exists, leads_unique}

module _ {n : ℕ} {p r : ℕ → ℕ} (formed : WellFormed n p r) where
  abbrev label_by : (i : ℕ) → Dec (i < n) → ℕ
  label_by i (yes l) = (leads_exists formed i l).end
  label_by i (no l) = i

  abbrev pub root_label : ℕ → ℕ
  root_label i = label_by i (dec_lt i n)

  by_leads : (i : ℕ) (d : Dec (i < n)) → i < n → Leads p i (label_by i d)
  by_leads i (yes l) k = (leads_exists formed i l).path
  by_leads i (no l) k = absurd (l k)

  label_leads : (i : ℕ) → i < n → Leads p i (root_label i)
  label_leads i = by_leads i (dec_lt i n)

  label_root : (i : ℕ) → i < n → p i ≡ i → i ≡ root_label i
  label_root i l e = leads_unique (root i e) (label_leads i l)

  pub root_labelled : Labelled n p root_label
  root_labelled =
      record {
        along = λ i l. along i l (ℕ_discrete (p i) i);
        apart = λ i j inside-i inside-j root-i root-j e. label_root i inside-i root-i ∙ e ∙ sym (label_root j inside-j root-j);
      }
    where
      along : (i : ℕ) → i < n → Dec (p i ≡ i) → root_label (p i) ≡ root_label i
      along i l (yes e) = ap root_label e
      along i l (no d) = leads_unique (up i (root_label (p i)) d (label_leads (p i) (formed.inside i l))) (label_leads i l)
