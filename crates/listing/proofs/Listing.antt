-- Laws of the listing: what its lines take of their buffers, and that any text can be counted in 64 bits.
--
--   Fitting p t r l   the numbers of the play p and of its three buffers have 32 bits
use mathlib.Core.Path.{◌≡◌, refl}
use mathlib.Core.Bool.{Bool, true, false, cond}
use mathlib.Core.List.{List, [], ◌∷◌}
use Prim.Native.Nat.{ℕ, ◌+◌, ◌*◌, ◌^◌, ◌≤◌, ◌<◌}
use native.Mathlib.Omega.{arith}
use lib.Dec.{eqb}
use lib.ListN.{length, get_or}
use borrow.Author.Tests.{lt-ltb, le-ltb}
use Rattle.basics.proofs.Lists.{length_three}
use Rattle.job.specs.declared.Played.{Played}
use Rattle.word.specs.Word.{rank_of, parent_of}
use Rattle.text.specs.Text.{each}
use Rattle.text.specs.Writing.{last_position, Wrote}
use Rattle.text.proofs.Text.{Narrow, line_short, each_short}
use Rattle.text.proofs.Writing.{wrote_whole}
use Rattle.listing.specs.Listing.{Section, Words, Requests, Entries}
use Rattle.listing.specs.declared.Listed.{Listed}
use Rattle.listing.specs.Listing.{word_name, request_name, line_name, job_name, tally_name, refused_name}
use Rattle.listing.specs.Listing.{entry_line, report_line, row}
use Rattle.listing.specs.Listing.{job_line, rows, tally_line, refused_line, accepted, listing, listed, printed, Enough}

module _ (played : Played) (table report linearization : List ℕ) where
  sections_length : length (rows played table report linearization)
      ≡ length (each (row Words table) played.nodes)
      + length (each (row Requests report) played.requests)
      + length (each (row Entries linearization) played.entries)
  sections_length =
      length_three (each (row Words table) played.nodes) (each (row Requests report) played.requests)
      (each (row Entries linearization) played.entries)

  accepted_length : length (accepted played table report linearization)
      ≡ length (job_line played) + length (rows played table report linearization) + length (tally_line played.tally)
  accepted_length = length_three (job_line played) (rows played table report linearization) (tally_line played.tally)

-- A line has at most 64 bytes: the longest is a request's, with five numbers of ten digits.
pub entry_short : (point request : ℕ) → point < 2 ^ 32 → request < 2 ^ 32 → length (entry_line point request) ≤ 64
entry_short point request h k = omega (arith, line_short line_name (point ∷ request ∷ []) (h, (k, tt)))

module _ (buffer : List ℕ) (narrow : (k : ℕ) → get_or buffer k 0 < 2 ^ 32) where
  pub request_short : (number i : ℕ) → number < 2 ^ 32 → length (report_line number buffer i) ≤ 64
  request_short number i h =
      let at : ℕ = 4 * i in
      let numbers : List ℕ =
      number ∷ get_or buffer at 0 ∷ get_or buffer (at + 1) 0 ∷ get_or buffer (at + 2) 0 ∷ get_or buffer (at + 3) 0 ∷ [] in
      omega (arith, line_short request_name numbers (h, (narrow at, (narrow (at + 1), (narrow (at + 2), (narrow (at + 3), tt))))))

  row_short : (s : Section) (i : ℕ) → i < 2 ^ 32 → length (row s buffer i) ≤ 64
  unfolding rank_of parent_of
  row_short Words i h =
      let numbers : List ℕ = i ∷ parent_of (get_or buffer i 0) ∷ rank_of (get_or buffer i 0) ∷ [] in
      omega (arith, line_short word_name numbers (h, (omega arith, (omega (arith, narrow i), tt))))
  row_short Requests i h = request_short i i h
  row_short Entries i h = entry_short (get_or buffer (2 * i) 0) (get_or buffer (2 * i + 1) 0) (narrow (2 * i)) (narrow (2 * i + 1))

pub record Fitting (played : Played) (table report linearization : List ℕ) : Type 0 where
  pub number : played.number < 2 ^ 32
  pub job : Narrow (played.nodes ∷ played.heads ∷ played.requests ∷ played.grants ∷ [])
  pub entries : played.entries < 2 ^ 32
  pub tally : Narrow (played.tally.idle ∷ played.tally.failed ∷ played.tally.links ∷ played.tally.working ∷ [])
  pub words : (k : ℕ) → get_or table k 0 < 2 ^ 32
  pub rows : (k : ℕ) → get_or report k 0 < 2 ^ 32
  pub points : (k : ℕ) → get_or linearization k 0 < 2 ^ 32

section_short : (s : Section) (buffer : List ℕ) → ((k : ℕ) → get_or buffer k 0 < 2 ^ 32) → (count : ℕ) → count < 2 ^ 32
    → length (each (row s buffer) count) ≤ 64 * count
section_short s buffer narrow count h = each_short (row s buffer) 64 count (λ i l. row_short buffer narrow s i (omega arith))

-- A text has a line for each node, request and entry, the job's and the tally's.
accepted_lines : (played : Played) (table report linearization : List ℕ)
    → Fitting played table report linearization
    → length (accepted played table report linearization) ≤ 64 * (played.nodes + played.requests + played.entries + 2)
accepted_lines played table report linearization f =
    omega (
      arith,
      accepted_length played table report linearization,
      sections_length played table report linearization,
      line_short job_name (played.nodes ∷ played.heads ∷ played.requests ∷ played.grants ∷ []) f.job,
      line_short tally_name (played.tally.idle ∷ played.tally.failed ∷ played.tally.links ∷ played.tally.working ∷ []) f.tally,
      section_short Words table f.words played.nodes f.job.0,
      section_short Requests report f.rows played.requests f.job.1.1.0,
      section_short Entries linearization f.points played.entries f.entries,
    )

-- A refusal's text is one line.
pub listing_short : (played : Played) (table report linearization : List ℕ)
    → Fitting played table report linearization
    → length (listing played table report linearization) ≤ 64 * (played.nodes + played.requests + played.entries + 2)
unfolding listing
listing_short played table report linearization f = go (eqb played.number 0)
  where
    go : (is-accepted : Bool)
        → length (cond is-accepted (accepted played table report linearization) (refused_line played.number))
        ≤ 64 * (played.nodes + played.requests + played.entries + 2)
    go true = accepted_lines played table report linearization f
    go false = omega (arith, line_short refused_name (played.number ∷ []) (f.number, tt))

pub listing_counted : (played : Played) (table report linearization : List ℕ)
    → Fitting played table report linearization
    → length (listing played table report linearization) ≤ last_position
listing_counted played table report linearization f =
    omega (arith, listing_short played table report linearization f, f.job.0, f.job.1.1.0, f.entries)

-- A text that has no room is refused.
pub listed_short : {played : Played} {table report linearization : List ℕ} (out : List ℕ)
    → Enough played table report linearization
    → length out < length (listing played table report linearization)
    → ◌≡◌ {A = Listed} (record { number = 14; bytes = 0 }) (listed played table report linearization out)
unfolding listed
listed_short out e short = rw (le-ltb _ _ e.words, le-ltb _ _ e.requests, le-ltb _ _ e.entries, lt-ltb _ _ short) refl

-- A text that has room is written whole, and what was behind it stays.
pub printed_whole : {played : Played} {table report linearization out after : List ℕ} {next : ℕ}
    → Enough played table report linearization
    → length (listing played table report linearization) ≤ length out
    → Wrote (listing played table report linearization) 0 out after next
    → after ≡ printed played table report linearization out
unfolding printed
printed_whole e room w = rw (le-ltb _ _ e.words, le-ltb _ _ e.requests, le-ltb _ _ e.entries, le-ltb _ _ room) (wrote_whole w room)
