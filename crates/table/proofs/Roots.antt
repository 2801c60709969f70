-- The walk to a root, on words: each step goes on from the parent, and keys rise to a bound.
--
--   height words i                how far the key of node i is below the bound
--   Walking words node at above   the walk from node is at a node whose word, just read, names the parent above
--
-- Main laws: of a walk where its loop goes on and ends.
use mathlib.Core.Path.{◌≡◌, sym, ap, ◌∙◌, subst}
use mathlib.Core.Logic.{◌≢◌}
use mathlib.Core.List.{List, map}
use Prim.Native.Nat.{ℕ, suc, ◌*◌, ◌-◌, ◌<◌}
use native.Mathlib.Omega.{arith}
use lib.ListN.{length}
use Rattle.word.specs.Word.{parent_of, decode, key, node_limit, most_rank}
use Rattle.forest.specs.Forest.{Leads, root, up}
use Rattle.rules.specs.Table.{parent, rank}
use Rattle.table.specs.Admitted.{word_at, Admitted}
use Rattle.table.proofs.Words.{parent_decoded}

abbrev pub height : List ℕ → ℕ → ℕ
height words i = suc most_rank * node_limit - key (rank (map decode words) i) i

pub record Walking (words : List ℕ) (node at above : ℕ) : Type 0 where
  pub inside : at < length words
  pub read : above ≡ parent_of (word_at words at)
  -- where the way leads from here, it leads from the start
  pub way : (end : ℕ) → Leads (parent (map decode words)) at end → Leads (parent (map decode words)) node end

module _ {words : List ℕ} {node at above : ℕ} (admitted : Admitted (length words) (map decode words))
    (walking : Walking words node at above) where
  parent_read : parent (map decode words) at ≡ above
  parent_read = parent_decoded words at walking.inside ∙ sym walking.read

  pub walk_inside : above < length words
  walk_inside = omega (arith, parent_read, admitted.inside at walking.inside)

  pub walk_ends : above ≡ at → Leads (parent (map decode words)) node at
  walk_ends e = walking.way at (root at (parent_read ∙ e))

  no_root : above ≢ at → parent (map decode words) at ≢ at
  no_root d e = d (sym parent_read ∙ e)

  pub walk_falls : above ≢ at → height words above < height words at
  walk_falls d =
      omega (
        arith,
        walk_inside,
        parent_read,
        ap (rank (map decode words)) parent_read,
        admitted.rising at walking.inside (no_root d),
        admitted.ranks above walk_inside,
        admitted.few,
      )

  pub walk_goes_on : above ≢ at → (next : ℕ) → next ≡ parent_of (word_at words above) → Walking words node above next
  walk_goes_on d next read =
      record {
        inside = walk_inside;
        read = read;
        way = λ end way. walking.way end
            (up at end (no_root d) (subst (λ v. Leads (parent (map decode words)) v end) (sym parent_read) way));
      }
