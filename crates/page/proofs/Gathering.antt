-- Gathering the groups of a table place by place: each place adds to its root's size, and a lowest one begins a group.
--
--   Gathering t i found   the places below i are gathered
use mathlib.Core.Path.{◌≡◌, refl, sym, ap, ◌∙◌}
use mathlib.Core.Logic.{◌≢◌}
use mathlib.Core.List.{List, [], ◌∷◌, ◌++◌, map-append}
use Prim.Native.Nat.{ℕ, ◌+◌, ◌≤◌, ◌<◌}
use native.Mathlib.Numerals.{add-one}
use native.Mathlib.Omega.{arith}
use native.Mathlib.Decide.{ℕ_discrete}
use lib.ListN.{length, get_or, set, replicate, length-append, length-set, length-replicate, get_or-replicate}
use lib.Seq.{take-suc-set, get_or-set_same, get_or-set_other}
use borrow.Author.Tests.{eq-eqb, ne_eqb}
use Rattle.word.specs.declared.Node.{Node}
use Rattle.job.specs.Job.{most_nodes}
use Rattle.forest.specs.Forest.{Leads}
use Rattle.forest.specs.Groups.{size, lowest_places}
use Rattle.forest.proofs.Size.{size_le}
use Rattle.forest.proofs.Groups.{size_in, size_out, lowest_in, lowest_out, lowest_few}
use Rattle.rules.specs.Table.{parent}
use Rattle.table.specs.Admitted.{Admitted}
use Rattle.table.specs.Groups.{root_in}
use Rattle.table.proofs.Groups.{admitted_leading, root_told}
use Rattle.page.specs.declared.groups.Group.{Group}
use Rattle.page.specs.declared.groups.Groups.{Groups}
use Rattle.page.specs.Gathered.{no_group, group_of, Gathered}

pub record Gathering (t : List Node) (i : ℕ) (found : Groups) : Type 0 where
  pub gathered : Gathered t i found
  pub listed : length found.groups ≡ most_nodes
  pub sizes : length found.size ≡ most_nodes

-- the arrays before the first place
abbrev pub no_groups : Groups
no_groups = record { count = 0; groups = replicate most_nodes no_group; size = replicate most_nodes 0 }

pub gathering_start : (t : List Node) → Gathering t 0 no_groups
unfolding size
gathering_start t =
    record {
      gathered = record { groups = refl; count = refl; size = λ r l. get_or-replicate most_nodes r 0 0 l };
      listed = length-replicate {A = Group} most_nodes no_group;
      sizes = length-replicate {A = ℕ} most_nodes 0;
    }

module _ {t : List Node} {i : ℕ} {found : Groups} (g : Gathering t i found) where
  -- there are no more groups than places
  pub gathering_room : found.count ≤ i
  gathering_room = omega (arith, g.gathered.count, lowest_few (root_in t) i)

  -- the root that the walk from place i found
  module _ {n : ℕ} (admitted : Admitted n t) (more : i < n) (root : ℕ) (way : Leads (parent t) i root) where
    told : root ≡ root_in t i
    told = root_told admitted more way

    pub gathering_inside : root < most_nodes
    gathering_inside = omega (arith, told, (admitted_leading admitted).inside i more, admitted.few)

    counted : get_or found.size root 0 ≡ size i (root_in t) root
    counted = g.gathered.size root gathering_inside

    -- its size has room for one place more
    pub gathering_few : get_or found.size root 0 ≤ i
    gathering_few = omega (arith, counted, size_le i (root_in t) root)

    -- the place counts for its root, and for no other
    size_next : (r : ℕ) → r < most_nodes → Dec (r ≡ root)
        → get_or (set found.size root (get_or found.size root 0 + 1)) r 0 ≡ size (i + 1) (root_in t) r
    size_next r l (yes e) =
        let here = get_or-set_same found.size root (get_or found.size root 0 + 1) 0 (omega (arith, g.sizes, gathering_inside)) in
        let grown = size_in (root_in t) i root (sym told) in
        rw (add-one i, e) (omega (arith, here, grown, counted))
    size_next r l (no d) =
        rw (add-one i)
        (get_or-set_other found.size root r (get_or found.size root 0 + 1) 0 d
        ∙ g.gathered.size r l
        ∙ sym (size_out (root_in t) i r (λ e. d (sym e ∙ sym told))))

    own : size i (root_in t) (root_in t i) ≡ get_or found.size root 0
    own = ap (size i (root_in t)) (sym told) ∙ sym counted

    -- a place whose root was met before
    pub gathering_other : get_or found.size root 0 ≢ 0
        → Gathering t (i + 1)
        record { count = found.count; groups = found.groups; size = set found.size root (get_or found.size root 0 + 1) }
    gathering_other met =
        let same = lowest_out (root_in t) i (ne_eqb _ 0 (λ e. met (sym own ∙ e))) in
        record {
          gathered =
              record {
                groups = rw (add-one, same) g.gathered.groups;
                count = rw (add-one, same) g.gathered.count;
                size = λ r l. size_next r l (ℕ_discrete r root);
              };
          listed = g.listed;
          sizes = simp length-set g.sizes;
        }

    -- the first place of its group
    pub gathering_lowest : get_or found.size root 0 ≡ 0
        → Gathering t (i + 1)
        record {
          count = found.count + 1;
          groups = set found.groups found.count (record { lowest = i; root = root });
          size = set found.size root (get_or found.size root 0 + 1);
        }
    gathering_lowest none =
        let next = lowest_in (root_in t) i (eq-eqb _ 0 (own ∙ none)) in
        let k = found.count in
        let here : Group = record { lowest = i; root = root } in
        let room : k < most_nodes = omega (arith, gathering_room, admitted.few) in
        let listed = take-suc-set found.groups k here (omega (arith, g.listed)) in
        record {
          gathered =
              record {
                groups =
                    rw (add-one i, add-one k, next, map-append (group_of t) (lowest_places (root_in t) i) (i ∷ []), ← told)
                    (listed ∙ ap (λ (l : List Group). l ++ (here ∷ [])) g.gathered.groups);
                count = rw (add-one i, next) (omega (arith, g.gathered.count, length-append (lowest_places (root_in t) i) (i ∷ [])));
                size = λ r l. size_next r l (ℕ_discrete r root);
              };
          listed = simp length-set g.listed;
          sizes = simp length-set g.sizes;
        }
