-- No sheet is longer than its room: grants have at most seven digits, and a request has one entry at most.
--
--   grant_limit  what every grant number is below
--   Short row    the answer has one digit, and the grants are below the limit
--
-- Main law: room_for_all.
use mathlib.Core.Path.{refl, sym, ap, ◌∙◌, subst}
use mathlib.Core.Bool.{Bool, cond}
use mathlib.Core.List.{List, [], ◌∷◌, Memᴰ}
use Prim.Native.Nat.{ℕ, ◌*◌, ◌≤◌, ◌<◌}
use native.Mathlib.Omega.{arith}
use lib.Dec.{eqb}
use lib.ListN.{length, length-append}
use Rattle.basics.proofs.Conditions.{cond_both}
use Rattle.basics.proofs.Counts.{count_le}
use Rattle.job.specs.declared.Kind.{Kind}
use Rattle.job.specs.declared.Kind.TheVariants.{Union, SameSet}
use Rattle.job.specs.declared.Answer.{Answer}
use Rattle.job.specs.declared.Answer.TheVariants.{Unfinished, Joined, Together, Yes, No}
use Rattle.job.specs.Job.{Job, most_requests, answer_number}
use Rattle.text.proofs.Text.{digits_most, fields_none, fields_length, line_length, each_short}
use Rattle.listing.specs.Listing.{request_name, line_name, entry_line}
use Rattle.linearization.specs.Entry.{Entry}
use Rattle.rules.specs.declared.Row.{Row}
use Rattle.jobfile.specs.Meaning.{meaning}
use Rattle.jobfile.specs.Admitted.{Admitted}
use Rattle.jobfile.proofs.RoundTrip.{admitted_meaning}
use Rattle.jobfile.proofs.Places.{few_grants}
use Rattle.rules.specs.Report.{row_at}
use Rattle.rules.specs.State.{request_at}
use Rattle.rules.specs.Run.{Happening}
use Rattle.rules.specs.Run.Happening.{idle, serving}
use Rattle.rules.specs.History.{answer_of, row_of, link_of, point_of, is_of, ends_find_of, links_for}
use Rattle.rules.proofs.History.{last_bound, row_last_bound, row_first_bound}
use Rattle.rules.proofs.Invariant.{Invariant}
use Rattle.rules.proofs.Theorem.{invariant_linearized}
use Rattle.stepper.proofs.Reached.{admitted_granted, after_now}
use Rattle.stepper.proofs.Needs.{invariant_few, count_bound}
use Rattle.player.specs.Player.{origin_in}
use Rattle.player.specs.Demand.{history_of}
use Rattle.player.proofs.Demand.{run_ended, origin_initial}
use Rattle.sheet.specs.Sheet.{number_of, row_line, seen_line, request_lines, entry_lines, sheet_text}
use Rattle.sheet.specs.Sight.{visible}
use Rattle.sheet.specs.Call.{run_in, text_of}
use Rattle.sheet.specs.Agree.{HasHead}
use Rattle.sheet.specs.Room.{request_room, entry_room, most_sheet, RoomForAll}
use Rattle.sheet.proofs.Played.{run_line_up}
use Rattle.sheet.proofs.Call.{written_accepted, sheet_written}

-- ---- the length of a line

-- a number below it has at most seven digits
abbrev grant_limit : ℕ
grant_limit = 10000000

record Short (row : Row) : Type 0 where
  answer : row.answer < 10
  first : row.first < grant_limit
  last : row.last < grant_limit
  used : row.used < grant_limit

row_line_short : (n : ℕ) (row : Row) → n < 1000 → Short row → length (row_line n row) ≤ request_room
row_line_short n row l short =
    omega (
      arith,
      line_length request_name (n ∷ row.answer ∷ row.first ∷ row.last ∷ row.used ∷ []),
      fields_length n (row.answer ∷ row.first ∷ row.last ∷ row.used ∷ []),
      fields_length row.answer (row.first ∷ row.last ∷ row.used ∷ []),
      fields_length row.first (row.last ∷ row.used ∷ []),
      fields_length row.last (row.used ∷ []),
      fields_length row.used [],
      fields_none,
      digits_most 2 n l,
      digits_most 0 row.answer short.answer,
      digits_most 6 row.first short.first,
      digits_most 6 row.last short.last,
      digits_most 6 row.used short.used,
    )

entry_line_short : (point n : ℕ) → point < grant_limit → n < 1000 → length (entry_line point n) ≤ entry_room
entry_line_short point n l h =
    omega (
      arith,
      line_length line_name (point ∷ n ∷ []),
      fields_length point (n ∷ []),
      fields_length n [],
      fields_none,
      digits_most 6 point l,
      digits_most 2 n h,
    )

-- ---- the length of the lines

module _ (seen : ℕ → Bool) where
  requests_short : (rows : List Row) → length rows ≤ most_requests → ((q : ℕ) → q < length rows → Short (row_at rows q))
      → length (request_lines seen rows) ≤ request_room * length rows
  requests_short rows few short =
      each_short (seen_line seen rows) request_room (length rows)
      (λ q l.
      cond_both {A = List ℕ} (λ t. length t ≤ request_room) (seen q)
      (row_line_short (number_of seen q) (row_at rows q) (omega (arith, count_le seen q)) (short q l)) (omega arith))

  entries_short : (es : List Entry) → ((e : Entry) → Memᴰ e es → e.point < grant_limit)
      → ((e : Entry) → Memᴰ e es → e.request < most_requests) → length (entry_lines seen es) ≤ entry_room * length es
  entries_short [] early inside = omega arith
  entries_short (e ∷ es) early inside =
      let first : List ℕ = cond (seen e.request) (entry_line e.point (number_of seen e.request)) [] in
      let here = Memᴰ.head refl in
      let line_here : length first ≤ entry_room =
      cond_both {A = List ℕ} (λ t. length t ≤ entry_room) (seen e.request)
      (entry_line_short e.point (number_of seen e.request) (early e here)
      (omega (arith, count_le seen e.request, inside e here)))
      (omega arith) in
      let rest = entries_short es (λ f m. early f (Memᴰ.tail m)) (λ f m. inside f (Memᴰ.tail m)) in
      omega (arith, length-append first (entry_lines seen es), line_here, rest)

-- ---- no number of a history is beyond its length

answer_small : (a : Answer) → answer_number a < 10
answer_small Unfinished = omega arith
answer_small Joined = omega arith
answer_small Together = omega arith
answer_small Yes = omega arith
answer_small No = omega arith

answer_bound : (q : ℕ) (past : List Happening) → answer_of q past < 10
answer_bound q [] = omega arith
answer_bound q (idle ∷ past) = answer_bound q past
answer_bound q (serving r a ∷ past) = cond_both (λ k. k < 10) (eqb r q) (answer_small a.event.answer) (answer_bound q past)

point_bound : (k : Kind) (q : ℕ) (past : List Happening) → point_of k q past ≤ length past
unfolding link_of point_of
point_bound Union q past =
    cond_both (λ k. k ≤ length past) (eqb (link_of q past) 0) (last_bound (is_of q) past) (last_bound (links_for q) past)
point_bound SameSet q past = last_bound (ends_find_of q) past

row_short : (q : ℕ) (past : List Happening) → length past < grant_limit → Short (row_of q past)
unfolding row_of
row_short q past l =
    record {
      answer = answer_bound q past;
      first = omega (arith, row_first_bound q past);
      last = omega (arith, row_last_bound q past);
      used = omega (arith, count_bound (is_of q) past);
    }

-- ---- the sheet of a file

module _ (file : List ℕ) (h : ℕ) (has : HasHead file h) where
  abbrev j : Job
  j = (meaning file).job

  admitted : Admitted j
  admitted = admitted_meaning file has.bytes has.accepted

  abbrev past : List Happening
  past = history_of (origin_in file) j

  ended : Invariant j.requests j.nodes (origin_in file).labels (origin_in file).groups (run_in file) past
  ended = run_ended j (origin_initial file) admitted

  grants_short : length past < grant_limit
  grants_short =
      omega (
        arith,
        ended.clock,
        after_now j (origin_initial file) admitted j.schedule (admitted_granted j admitted),
        few_grants j admitted,
      )

  rows_short : (q : ℕ) → q < length (run_in file).report → Short (row_at (run_in file).report q)
  rows_short q l = subst Short (sym (ended.rows q (omega (arith, ended.reports)))) (row_short q past grants_short)

  points_short : (e : Entry) → Memᴰ e (run_in file).entries → e.point < grant_limit
  points_short e m =
      let kind = (request_at j.requests e.request).kind in
      omega (arith, (invariant_linearized ended).points e m, point_bound kind e.request past, grants_short)

  text_short : length (text_of file h) ≤ most_sheet
  unfolding sheet_text
  text_short =
      let seen = visible j h in
      let S = run_in file in
      let few : length S.report ≤ most_requests = omega (arith, ended.reports, admitted.few_requests) in
      let line_up = run_line_up j (origin_initial file) admitted in
      omega (
        arith,
        length-append (request_lines seen S.report) (entry_lines seen S.entries),
        requests_short seen S.report few rows_short,
        entries_short seen S.entries points_short (λ e m. omega (arith, few, line_up.requests e m)),
        invariant_few ended,
        ended.reports,
        few,
      )

pub room_for_all : RoomForAll
room_for_all file h has =
    record {
      short = text_short file h has;
      accepted = λ out room.
          ap (λ s. s.answer.number) (sym (sheet_written file h out has.accepted has.below))
          ∙ written_accepted (text_of file h) out (omega (arith, room, text_short file h has));
    }
