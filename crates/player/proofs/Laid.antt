-- The start on lent buffers: from the parts of `lay_out` to what it leaves.
--
-- Main law: laid.
use mathlib.Core.Path.{◌≡◌, sym, ap, ◌∙◌}
use mathlib.Core.List.{List, ◌++◌, map}
use Prim.Native.Nat.{ℕ, ◌*◌, ◌≤◌}
use lib.ListN.{length, take, drop, replicate, length-replicate}
use lib.Seq.{length-take-le, take_at}
use Rattle.word.specs.Word.{encode}
use Rattle.process.specs.declared.Task.{Task}
use Rattle.process.specs.declared.Head.{Head}
use Rattle.job.specs.Job.{most_heads}
use Rattle.jobfile.specs.Meaning.{meaning}
use Rattle.mask.specs.Mask.{mask_of}
use Rattle.reader.specs.declared.Checked.{Checked}
use Rattle.reader.specs.Reader.{Playing}
use Rattle.rules.specs.Table.{fresh}
use Rattle.stepper.specs.Buffers.{rows_of}
use Rattle.stepper.specs.Shown.{requests_in, waits_in}
use Rattle.start.specs.Start.{first_requests, first_task, at_rest, is_request}
use Rattle.start.proofs.Start.{first_heads, first_flags}
use Rattle.turns.specs.declared.Progress.{Progress}
use Rattle.turns.specs.Turns.{first_progress}
use Rattle.player.specs.Parts.{Laid, progress_of, laid_of}

module _ {file : List ℕ} {counts : Checked} (playing : Playing file counts) where
  pub nodes_are : counts.nodes ≡ (meaning file).job.nodes
  nodes_are = ap (λ k. k.nodes) playing.checked

  pub rows_are : 4 * counts.requests ≡ 4 * length (requests_in file)
  rows_are = ap (λ k. 4 * k.requests) playing.checked

  -- ---- the start

  module _ (table report : List ℕ) (nodes : counts.nodes ≤ length table) (rows : 4 * counts.requests ≤ length report) where
    pub laid_nodes : length (take counts.nodes table) ≡ (meaning file).job.nodes
    laid_nodes = length-take-le counts.nodes table nodes ∙ nodes_are

    laid_rows : length (take (4 * counts.requests) report) ≡ 4 * length (requests_in file)
    laid_rows = length-take-le (4 * counts.requests) report rows ∙ rows_are

    pub laid : (firsts : List ℕ) (tasks : List Task) (heads : List Head) (mask : ℕ) (words zeros : List ℕ) (progress : Progress)
        → words ≡ map encode (fresh (length (take counts.nodes table)))
        → zeros ≡ replicate (length (take (4 * counts.requests) report)) 0
        → firsts ≡ first_requests (requests_in file) 0 most_heads
        → tasks
        ≡ map (first_task (waits_in file) (rows_of (take (4 * counts.requests) (zeros ++ drop (4 * counts.requests) report)))) firsts
        → heads ≡ map at_rest tasks
        → mask ≡ mask_of (map (is_request counts.requests) firsts) → progress ≡ first_progress heads mask
        → ◌≡◌ {A = Laid} (record {
          table = words ++ drop counts.nodes table;
          report = zeros ++ drop (4 * counts.requests) report;
          progress = progress;
        })
        (laid_of file table report)
    laid firsts tasks heads mask words zeros progress is-words is-zeros are-first are-tasks resting-are flags-are is-progress =
        let clear : zeros ≡ replicate (4 * length (requests_in file)) 0 = is-zeros ∙ ap (λ k. replicate k 0) laid_rows in
        let part : take (4 * counts.requests) (zeros ++ drop (4 * counts.requests) report) ≡ zeros =
        take_at zeros (drop (4 * counts.requests) report) (4 * counts.requests) (ap length clear ∙ length-replicate _ 0 ∙ sym rows_are) in
        let heads-are =
        first_heads (requests_in file) firsts (waits_in file) _ tasks heads are-first (part ∙ clear) are-tasks resting-are in
        let mask_is = first_flags (requests_in file) firsts mask are-first (ap (λ k. k.requests) playing.checked) flags-are in
        let progress_is : progress ≡ progress_of file = is-progress ∙ (λ i. first_progress (heads-are i) (mask_is i)) in
        λ i. record {
          table = (is-words ∙ ap (λ k. map encode (fresh k)) laid_nodes) i ++ drop (nodes_are i) table;
          report = (is-zeros ∙ ap (λ k. replicate k 0) laid_rows) i ++ drop (rows_are i) report;
          progress = progress_is i;
        }
