-- A play in its parts: what stands before the first grant, one grant on the lent buffers, and the answer.
--
--   progress_of file       what the play of an accepted file carries before its first grant
--   laid_of                the start, on buffers that are long enough
--   part_of c b            the parts of the buffers b that a job of these counts needs
--   TurnableOn, TurnedOn   what a turn on the lent buffers asks and what it leaves
--   TurnsOn                what it leaves of buffers whose parts show the grants so far
--   closed_of c p t        the answer of an accepted play
use Rattle.std.specs.Prelude.{◌≡◌, List, ◌++◌, map, ℕ, ◌*◌, ◌≤◌, length, take, drop, replicate}
use Rattle.job.specs.declared.Tally.{Tally}
use Rattle.job.specs.declared.Played.{Played}
use Rattle.word.specs.Word.{encode}
use Rattle.job.specs.Job.{most_heads}
use Rattle.jobfile.specs.Meaning.{meaning}
use Rattle.mask.specs.Mask.{mask_of}
use Rattle.reader.specs.declared.Checked.{Checked}
use Rattle.rules.specs.Report.{no_row}
use Rattle.rules.specs.State.{heads_from}
use Rattle.rules.specs.Start.{Start}
use Rattle.stepper.specs.Shown.{Buffers, buffers, noted, requests_in, waits_in}
use Rattle.start.specs.Start.{work_flag}
use Rattle.turns.specs.declared.Progress.{Progress}
use Rattle.turns.specs.Turns.{StandingAt, Turnable, Turned, first_progress}
use Rattle.player.specs.Player.{origin_in}

-- ---- before the first grant

-- Every head rests before its first request, and (02, A3) its record has what that request waits for.
abbrev pub progress_of : List ℕ → Progress
progress_of file =
    first_progress
    (map (noted (waits_in file) (replicate (length (requests_in file)) no_row)) (heads_from (requests_in file) 0 most_heads))
    (mask_of (map (work_flag (length (requests_in file))) (heads_from (requests_in file) 0 most_heads)))

pub record Laid : Type 0 where
  pub table : List ℕ
  pub report : List ℕ
  pub progress : Progress

-- The table of the start, and the requests' report numbers zero; what is past them stays as lent.
abbrev pub laid_of : List ℕ → List ℕ → List ℕ → Laid
laid_of file table report =
    record {
      table = map encode (origin_in file).table ++ drop (meaning file).job.nodes table;
      report = replicate (4 * length (requests_in file)) 0 ++ drop (4 * length (requests_in file)) report;
      progress = progress_of file;
    }

-- ---- one grant, on the parts of the lent buffers that the job needs

abbrev pub part_of : Checked → Buffers → Buffers
part_of counts b =
    buffers b.heads (take counts.nodes b.table) (take (4 * counts.requests) b.report) b.linearization b.entries b.mask

pub record TurnableOn (file : List ℕ) (counts : Checked) (p : Progress) (table report linearization : List ℕ) : Type 0 where
  pub nodes : counts.nodes ≤ length table
  pub rows : 4 * counts.requests ≤ length report
  pub turnable : Turnable file counts p (take counts.nodes table) (take (4 * counts.requests) report) linearization

-- The turn is made on the parts, and what is past them stays.
pub record TurnedOn (file : List ℕ) (counts : Checked) (p p' : Progress) (b b' : Buffers) (origin : Start) (lent : List ℕ) : Type 0 where
  pub turned : Turned file p p' (part_of counts b') origin lent
  pub table_rest : drop counts.nodes b'.table ≡ drop counts.nodes b.table
  pub report_rest : drop (4 * counts.requests) b'.report ≡ drop (4 * counts.requests) b.report

abbrev pub TurnsOn : List ℕ → Checked → Progress → Progress → Buffers → Buffers → Type 0
TurnsOn file counts p p' b b' =
    (origin : Start) (lent : List ℕ) → StandingAt origin file p (part_of counts b) lent → TurnedOn file counts p p' b b' origin lent

-- ---- the end

abbrev pub closed_of : Checked → Progress → Tally → Played
closed_of counts p tally =
    record {
      number = 0;
      nodes = counts.nodes;
      heads = counts.heads;
      requests = counts.requests;
      grants = counts.grants;
      entries = p.entries;
      tally = tally;
    }
