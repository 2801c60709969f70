-- Document 02, A1: what holds of the rows of an admitted table and of the page made from them.
--
--   Plain text         a text without a line feed
--   Ruled page         a page of whole lines: 32 characters and a line feed each
--   RowOf p rows i     the one row whose root place i leads to
--   Grouped t rows text   the rows are those of the groups of the table t, and the page's text is ruled
--   GroupedHere           the same of the exit buffers, cut to what was written
use Rattle.std.specs.Prelude.{◌≡◌, ◌≢◌, List, [], ◌∷◌, ◌++◌, map, ℕ, ◌<◌, length, get_or, take}
use Rattle.basics.specs.Sum.{sum}
use Rattle.word.specs.declared.Node.{Node}
use Rattle.word.specs.Word.{decode}
use Rattle.forest.specs.Forest.{root_count, Leads}
use Rattle.forest.specs.Groups.{size}
use Rattle.rules.specs.Table.{parent, rank}
use Rattle.table.specs.Groups.{root_in}
use Rattle.page.specs.declared.Row.{Row}
use Rattle.page.specs.declared.Paged.{Paged}
use Rattle.page.specs.Rows.{no_row}

-- ASCII 10 is a line feed.
abbrev pub Plain : List ℕ → Type 0
Plain [] = Unit {0}
Plain (byte ∷ text) = (byte ≢ 10) × Plain text

-- The page has lines of exactly 32 characters and a line feed.
pub data Ruled : List ℕ → Type 0 where
  blank : Ruled []
  ruled : (text rest : List ℕ) → length text ≡ 32 → Plain text → Ruled rest → Ruled (text ++ (10 ∷ rest))

pub record RowOf (p : ℕ → ℕ) (rows : List Row) (i : ℕ) : Type 0 where
  pub row : ℕ
  pub inside : row < length rows
  -- the place leads to its root
  pub leads : Leads p i (get_or rows row no_row).root
  -- and to that of no other row
  pub only : (k : ℕ) → k < length rows → Leads p i (get_or rows k no_row).root → k ≡ row

pub record Grouped (t : List Node) (rows : List Row) (text : List ℕ) : Type 0 where
  -- rows rise by lowest place
  pub rising : (j k : ℕ) → j < k → k < length rows → (get_or rows j no_row).lowest < (get_or rows k no_row).lowest
  -- a row's root is a root
  pub root : (k : ℕ) → k < length rows → parent t (get_or rows k no_row).root ≡ (get_or rows k no_row).root
  -- its lowest place leads there, and no lower one does
  pub leads : (k : ℕ) → k < length rows → Leads (parent t) (get_or rows k no_row).lowest (get_or rows k no_row).root
  pub lowest : (k i : ℕ) → k < length rows → i < (get_or rows k no_row).lowest → Leads (parent t) i (get_or rows k no_row).root → ⊥
  -- its size is the number of places whose root it is, and its rank is the root's
  pub size : (k : ℕ) → k < length rows → (get_or rows k no_row).size ≡ size (length t) (root_in t) (get_or rows k no_row).root
  pub rank : (k : ℕ) → k < length rows → (get_or rows k no_row).rank ≡ rank t (get_or rows k no_row).root
  -- the root that is counted by is the one that the place leads to
  pub counted : (i : ℕ) → i < length t → Leads (parent t) i (root_in t i)
  -- every place's root is the root of exactly one row
  pub row : (i : ℕ) → i < length t → RowOf (parent t) rows i
  -- there are as many rows as roots
  pub count : length rows ≡ root_count (parent t) (length t)
  -- the sizes add up to the place count
  pub sizes : sum (map (λ r. r.size) rows) ≡ length t
  -- and the page is ruled
  pub page : Ruled text

abbrev pub GroupedHere : List ℕ → Paged → List Row → List ℕ → Type 0
GroupedHere words paged rows page = Grouped (map decode words) (take paged.rows rows) (take paged.bytes page)
