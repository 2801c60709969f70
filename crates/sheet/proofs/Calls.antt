-- What is promised of the call holds.
--
-- Main laws: jobs_agreement; rights_unread; calls_agreement; every_head; full_call.
use mathlib.Core.Path.{◌≡◌, refl, sym, ap, ◌∙◌}
use mathlib.Core.Bool.{true, false}
use mathlib.Core.List.{List}
use Prim.Native.Nat.{ℕ, zero, suc, ◌*◌, ◌-◌, ◌^◌, ◌<◌}
use native.Mathlib.Nat.{pow-succ'}
use native.Mathlib.Omega.{arith}
use lib.Pow.{pow_pos}
use lib.Dec.{ltb}
use lib.ListN.{length, drop, replicate, length-replicate, get_or-replicate}
use Rattle.basics.proofs.Conditions.{split}
use Rattle.job.specs.Job.{Job, most_heads, right_of}
use Rattle.mask.specs.Mask.{mask_of}
use Rattle.mask.proofs.Laws.{mask_none, mask_more, mask_flag}
use Rattle.jobfile.specs.Meaning.{meaning}
use Rattle.jobfile.specs.Admitted.{Admitted, Bytes}
use Rattle.jobfile.proofs.RoundTrip.{admitted_meaning}
use Rattle.rules.specs.State.{no_request}
use Rattle.turns.specs.Turns.{run_of}
use Rattle.player.specs.Player.{origin_in, cut_of}
use Rattle.player.proofs.Demand.{run_ended, origin_initial}
use Rattle.sheet.specs.Sight.{sees, visible}
use Rattle.sheet.specs.Call.{run_in, text_of, written_of, sheet_of}
use Rattle.sheet.specs.Agree.{RunsAgree, JobsAgreement, RightsUnread, HasHead, CallsAgreement, SeesAll, EveryHead, listing_lines}
use Rattle.sheet.specs.Agree.{FullCall}
use Rattle.sheet.proofs.Sheets.{agreement, full_sight}
use Rattle.sheet.proofs.Played.{run_line_up, played_accepted, cut_holding}
use Rattle.sheet.proofs.Call.{sheet_written}

-- ---- two runs that agree

pub jobs_agreement : JobsAgreement
jobs_agreement origin origin' j j' h h' initial initial' admitted admitted' agree =
    agreement (visible j h) (visible j' h') (run_of origin j).report (run_of origin' j').report
    (run_of origin j).entries (run_of origin' j').entries
    (run_line_up j initial admitted) (run_line_up j' initial' admitted') agree

pub rights_unread : RightsUnread
rights_unread origin j rights = refl

-- an accepted file's sheet is its text, or 14
head_written : (file : List ℕ) (h : ℕ) → HasHead file h → (out : List ℕ) → sheet_of file h out ≡ written_of (text_of file h) out
head_written file h has out = sym (sheet_written file h out has.accepted has.below)

answer_of_length : (text out out' : List ℕ) → length out ≡ length out' → (written_of text out).answer ≡ (written_of text out').answer
unfolding written_of
answer_of_length text out out' e = split (ltb (length out') (length text)) (λ short. rw (e, short)) (λ roomy. rw (e, roomy))

texts_agree : (file file' : List ℕ) (h h' : ℕ) → HasHead file h → HasHead file' h'
    → RunsAgree (origin_in file) (meaning file).job h (origin_in file') (meaning file').job h' → text_of file h ≡ text_of file' h'
texts_agree file file' h h' has has' agree =
    jobs_agreement (origin_in file) (origin_in file') (meaning file).job (meaning file').job h h' (origin_initial file)
    (origin_initial file') (admitted_meaning file has.bytes has.accepted)
    (admitted_meaning file' has'.bytes has'.accepted) agree

pub calls_agreement : CallsAgreement
calls_agreement file file' h h' has has' agree =
    let sheets : (out : List ℕ) → sheet_of file h out ≡ written_of (text_of file' h') out =
    λ out. head_written file h has out ∙ ap (λ text. written_of text out) (texts_agree file file' h h' has has' agree) in
    record {
      answers = λ out out' e.
          ap (λ s. s.answer) (sheets out) ∙ answer_of_length (text_of file' h') out out' e
          ∙ sym (ap (λ s. s.answer) (head_written file' h' has' out'));
      bytes = λ out. ap (λ s. s.out) (sheets out ∙ sym (head_written file' h' has' out));
    }

-- ---- sight of every head

full_mask : (n : ℕ) → mask_of (replicate n true) ≡ 2 ^ n - 1
full_mask zero = mask_none
full_mask (suc n) = mask_more true (replicate n true) ∙ omega (arith, full_mask n, pow-succ' 2 n, pow_pos n)

-- the mask of all heads has the bit of each
every_bit : (heads k : ℕ) → k < heads → sees (2 ^ heads - 1) k ≡ true
every_bit heads k l =
    ap (λ sight. sees sight k) (sym (full_mask heads))
    ∙ mask_flag (replicate heads true) k (omega (arith, length-replicate heads true)) ∙ get_or-replicate heads k true false l

pub every_head : EveryHead
every_head =
    record {
      none = λ j h admitted none k l.
          ap (λ rights. sees (right_of rights h).sight k) none ∙ every_bit most_heads k (omega (arith, admitted.few_heads));
      mask = λ j h all k l. ap (λ sight. sees sight k) all ∙ every_bit j.heads k l;
    }

module _ (file : List ℕ) (bytes : Bytes file) (accepted : (meaning file).number ≡ 0) where
  abbrev j : Job
  j = (meaning file).job

  admitted : Admitted j
  admitted = admitted_meaning file bytes accepted

  rows_all : length (run_in file).report ≡ length j.requests
  rows_all = (run_ended j (origin_initial file) admitted).reports

  -- every request is of one of the heads
  all_seen : (h : ℕ) → SeesAll j h → (q : ℕ) → q < length (run_in file).report → visible j h q ≡ true
  all_seen h all q l = all _ (admitted.each_request q no_request (omega (arith, rows_all))).head

  cut_lines : (h : ℕ) → SeesAll j h → (table report linearization : List ℕ)
      → text_of file h ≡ listing_lines (cut_of (origin_in file) j table report linearization)
  cut_lines h all table report linearization =
      let holding = cut_holding file table report linearization accepted bytes _ refl in
      full_sight (visible j h) (run_in file).report (run_in file).entries _ (drop (2 * length (run_in file).entries) linearization)
      holding.line_up holding.report_rows (all_seen h all)
      ∙ rw rows_all

pub full_call : FullCall
full_call file h bytes accepted all table report linearization enough =
    cut_lines file bytes accepted h all table report linearization
    ∙ ap listing_lines (sym (played_accepted file table report linearization accepted enough))
