-- The rows of a table, from its groups.
use mathlib.Core.Path.{◌≡◌, refl, sym, ap, ◌∙◌}
use mathlib.Core.List.{List, map}
use Prim.Native.Nat.{ℕ, ◌<◌}
use native.Mathlib.Omega.{arith}
use lib.ListN.{length, get_or, length-map}
use lib.Seq.{get_or-take}
use Rattle.basics.proofs.Lists.{get_or_mapped}
use Rattle.word.specs.declared.Node.{Node}
use Rattle.word.specs.Word.{decode, rank_of}
use Rattle.forest.specs.Groups.{size, lowest_places}
use Rattle.forest.proofs.Groups.{lowest_at}
use Rattle.rules.specs.Table.{rank}
use Rattle.table.specs.Admitted.{word_at, Admitted}
use Rattle.table.specs.Groups.{root_in}
use Rattle.table.proofs.Groups.{admitted_leading}
use Rattle.table.proofs.Words.{rank_decoded}
use Rattle.page.specs.declared.groups.Group.{Group}
use Rattle.page.specs.declared.groups.Groups.{Groups}
use Rattle.page.specs.Rows.{no_row, group_row, group_rows}
use Rattle.page.specs.Gathered.{no_group, group_of, Gathered}

-- ---- the rows of the groups

pub rows_length : (t : List Node) → length (group_rows t) ≡ length (lowest_places (root_in t) (length t))
unfolding group_rows
rows_length t = length-map (lowest_places (root_in t) (length t)) (group_row t)

pub rows_at : (t : List Node) (k : ℕ) → k < length (group_rows t)
    → get_or (group_rows t) k no_row ≡ group_row t (get_or (lowest_places (root_in t) (length t)) k 0)
unfolding group_rows
rows_at t k l =
    get_or_mapped (group_row t) (lowest_places (root_in t) (length t)) k 0 no_row (omega (arith, rows_length t))

module _ {n : ℕ} {t : List Node} (admitted : Admitted n t) {found : Groups} (g : Gathered t n found) where
  pub groups_count : found.count ≡ length (group_rows t)
  groups_count = g.count ∙ ap (λ m. length (lowest_places (root_in t) m)) (sym admitted.nodes) ∙ sym (rows_length t)

  module _ (k : ℕ) (l : k < found.count) where
    place : ℕ
    place = get_or (lowest_places (root_in t) n) k 0

    abbrev group : Group
    group = get_or found.groups k no_group

    group_at : group ≡ group_of t place
    unfolding place
    group_at =
        sym (get_or-take found.count found.groups k no_group l)
        ∙ ap (λ (p : List Group). get_or p k no_group) g.groups
        ∙ get_or_mapped (group_of t) (lowest_places (root_in t) n) k 0 no_group (omega (arith, g.count))

    group_root : group.root ≡ root_in t place
    group_root = ap (λ v. v.root) group_at

    pub root_inside : group.root < n
    unfolding place
    root_inside =
        omega (
          arith,
          group_root,
          (admitted_leading admitted).inside place (lowest_at (root_in t) n k (omega (arith, g.count))).0,
        )

    -- row k is made of what is found of group k
    pub row_gathered : (rank' : ℕ) → rank' ≡ rank t group.root
        → record { lowest = group.lowest; size = get_or found.size group.root 0; root = group.root; rank = rank' }
        ≡ get_or (group_rows t) k no_row
    unfolding place
    row_gathered rank' ranked =
        let row =
        rows_at t k (omega (arith, groups_count)) ∙ ap (λ m. group_row t (get_or (lowest_places (root_in t) m) k 0)) admitted.nodes in
        let counted : get_or found.size group.root 0 ≡ size (length t) (root_in t) (root_in t place) =
        g.size _ (omega (arith, root_inside, admitted.few))
        ∙ ap (size n (root_in t)) group_root
        ∙ ap (λ m. size m (root_in t) (root_in t place)) (sym admitted.nodes) in
        let ranks : rank' ≡ rank t (root_in t place) = ranked ∙ ap (rank t) group_root in
        (λ i. record { lowest = (group_at i).lowest; size = counted i; root = group_root i; rank = ranks i }) ∙ sym row

    -- and so it is of what the code reads
    pub row_made : {place' low size' root' rank' : ℕ} → place' ≡ group.root → low ≡ group.lowest → size' ≡ get_or found.size place' 0
        → root' ≡ group.root → rank' ≡ rank t place'
        → record { lowest = low; size = size'; root = root'; rank = rank' } ≡ get_or (group_rows t) k no_row
    row_made at lows sizes roots ranks =
        (λ i. record {
          lowest = lows i;
          size = (sizes ∙ ap (λ p. get_or found.size p 0) at) i;
          root = roots i;
          rank = (ranks ∙ ap (rank t) at) i;
        })
        ∙ row_gathered (rank t group.root) refl

-- a word that is read of the root
module _ (words : List ℕ) {n : ℕ} (admitted : Admitted n (map decode words)) (r w : ℕ) (inside : r < n)
    (read : w ≡ rank_of (word_at words r)) where
  pub rank_read : w ≡ rank (map decode words) r
  rank_read = read ∙ sym (rank_decoded words r (omega (arith, admitted.nodes, length-map words decode)))
