-- The rows of an admitted table are those of its groups.
use mathlib.Core.Path.{◌≡◌, refl, sym, ap, ◌∙◌}
use mathlib.Core.Bool.{true}
use mathlib.Core.List.{List, map-map}
use Prim.Native.Nat.{ℕ, ◌<◌}
use native.Mathlib.Omega.{arith}
use native.Mathlib.Decide.{dec_lt}
use lib.ListN.{length, get_or}
use Rattle.basics.specs.Sum.{sum}
use Rattle.word.specs.declared.Node.{Node}
use Rattle.forest.specs.Forest.{Leads}
use Rattle.forest.specs.Groups.{is_lowest, lowest_places}
use Rattle.forest.proofs.Forest.{leads_root, leads_unique}
use Rattle.forest.proofs.Groups as groups
use Rattle.rules.specs.Table.{parent}
use Rattle.table.specs.Admitted.{Admitted}
use Rattle.table.specs.Groups.{root_in}
use Rattle.table.proofs.Groups.{admitted_leading}
use Rattle.page.specs.Rows.{no_row, group_row, group_rows}
use Rattle.page.specs.Page.{page_of}
use Rattle.page.specs.Grouped.{RowOf, Grouped}
use Rattle.page.proofs.Rows.{rows_length, rows_at}
use Rattle.page.proofs.Planning.{rows_fitting}
use Rattle.page.proofs.Ruling.{ruled_lines}

module _ (t : List Node) (admitted : Admitted (length t) t) where
  leading : groups.Leading (length t) (parent t) (root_in t)
  leading = admitted_leading admitted

  -- the lowest place of row k
  abbrev place : ℕ → ℕ
  place k = get_or (lowest_places (root_in t) (length t)) k 0

  module _ (k : ℕ) (l : k < length (group_rows t)) where
    row : get_or (group_rows t) k no_row ≡ group_row t (place k)
    row = rows_at t k l

    within : k < length (lowest_places (root_in t) (length t))
    within = omega (arith, rows_length t)

    place_inside : place k < length t
    place_inside = (groups.lowest_at (root_in t) (length t) k within).0

    place_lowest : is_lowest (root_in t) (place k) ≡ true
    place_lowest = (groups.lowest_at (root_in t) (length t) k within).1

    place_leads : Leads (parent t) (place k) (root_in t (place k))
    place_leads = leading.leads (place k) place_inside

  rising : (j k : ℕ) → j < k → k < length (group_rows t) → (get_or (group_rows t) j no_row).lowest < (get_or (group_rows t) k no_row).lowest
  rising j k h l = rw (row j (omega arith), row k l) (groups.lowest_rising (root_in t) (length t) j k h (within k l))

  lowest : (k i : ℕ) → k < length (group_rows t) → i < (get_or (group_rows t) k no_row).lowest
      → Leads (parent t) i (get_or (group_rows t) k no_row).root → ⊥
  lowest k i l =
      rw (row k l)
      (λ h way.
      groups.lowest_first (root_in t) i (place k) (place_lowest k l) h
      (leads_unique (leading.leads i (omega (arith, place_inside k l))) way))

  -- two rows with one root are one, as their lowest places are
  rows_one : (j k : ℕ) → j < length (group_rows t) → k < length (group_rows t) → root_in t (place j) ≡ root_in t (place k) → j ≡ k
  rows_one j k lj lk e = go (dec_lt j k) (dec_lt k j)
    where
      same : place j ≡ place k
      same = groups.lowest_one (root_in t) (place j) (place k) (place_lowest j lj) (place_lowest k lk) e

      go : Dec (j < k) → Dec (k < j) → j ≡ k
      go (yes h) b = absurd (omega (arith, same, groups.lowest_rising (root_in t) (length t) j k h (within k lk)))
      go (no a) (yes h) = absurd (omega (arith, same, groups.lowest_rising (root_in t) (length t) k j h (within j lj)))
      go (no a) (no b) = omega arith

  one_row : (i : ℕ) → i < length t → RowOf (parent t) (group_rows t) i
  one_row i l =
      let found = groups.lowest_row (root_in t) (length t) i l in
      let inside : found.row < length (group_rows t) = omega (arith, found.inside, rows_length t) in
      record {
        row = found.row;
        inside = inside;
        leads = rw (row found.row inside, found.same) (leading.leads i l);
        only =
            λ k h.
            rw (row k h)
            (λ way. rows_one k found.row h inside (leads_unique way (leading.leads i l) ∙ sym found.same));
      }

  pub grouped : Grouped t (group_rows t) (page_of (group_rows t))
  unfolding group_rows page_of
  grouped =
      record {
        rising = rising;
        root = λ k l. rw (row k l) (leads_root (place_leads k l));
        leads = λ k l. rw (row k l) (place_leads k l);
        lowest = lowest;
        size = λ k l. rw (row k l) refl;
        rank = λ k l. rw (row k l) refl;
        counted = leading.leads;
        row = one_row;
        count = rows_length t ∙ groups.lowest_count leading;
        sizes =
            ap sum (map-map (λ r. r.size) (group_row t) (lowest_places (root_in t) (length t)))
            ∙ groups.lowest_sizes (root_in t) (length t) leading.inside;
        page = ruled_lines (group_rows t) (length (group_rows t)) (rows_fitting admitted);
      }
