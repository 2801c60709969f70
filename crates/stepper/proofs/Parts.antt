-- What a grant that serves a head asks of its parts, and what the parts made, each as one record.
--
-- Main laws: what each part asks of a grant (ready_raisable, ready_touchable, ready_room, ready_insertable ..); parts_renewable,
-- the records that are not looked at again; parts_grants, with the heads as the report wants them the rules' step.
use mathlib.Core.Path.{◌≡◌, sym, ◌∙◌}
use mathlib.Core.Logic.{◌≢◌}
use mathlib.Core.Bool.{true, false, cond}
use mathlib.Core.List.{List, map}
use Prim.Native.Nat.{ℕ, ◌+◌, ◌*◌, ◌-◌, ◌/◌, ◌%◌, ◌^◌, ◌≤◌, ◌<◌}
use native.Mathlib.Omega.{arith}
use lib.Dec.{eqb, ltb}
use lib.ListN.{length, get_or, set, length-set}
use Rattle.reader.specs.declared.Checked.{Checked}
use Rattle.word.specs.Word.{decode, encode}
use Rattle.process.specs.declared.Head.{Head}
use Rattle.process.specs.declared.Advanced.{Advanced}
use Rattle.process.specs.Process.{Raisable, is_waiting}
use Rattle.process.specs.Access.{access_of}
use Rattle.process.specs.Advance.{advance_of}
use Rattle.linearization.specs.Entry.{inserted, Insertable}
use Rattle.job.specs.Job.{most_heads}
use Rattle.rules.specs.Table.{seen, touched}
use Rattle.rules.specs.declared.Row.{Row}
use Rattle.rules.specs.Report.{charge, is_final}
use Rattle.rules.specs.State.{request_at, resting}
use Rattle.rules.specs.Step.{ready, settled}
use Rattle.stepper.specs.declared.Granted.{Granted}
use Rattle.table.specs.Touch.{Touchable}
use Rattle.stepper.specs.Buffers.{row_in, stored, rows_of}
use Rattle.stepper.specs.Shown.{Buffers, buffers, noted, used_done}
use Rattle.stepper.specs.Shown.{requests_in, waits_in, Grantable, Grants}
use Rattle.stepper.specs.Waits.{frees, Renewable}
use Rattle.stepper.proofs.Reached.{playing_admitted}
use Rattle.stepper.proofs.Needs.{next_within, records_all, rows_room, entries_small, raisable, touchable_here}
use Rattle.stepper.proofs.Needs.{request_within, charge_room, charge_used, insertable, moved_within, own_request}
use Rattle.stepper.proofs.Needs.{serve_renewable, serve_stepped}

-- A grant that serves a head: what it asks, that the head has work left and does not wait, and the head before its access.
pub record Service (file : List ℕ) (counts : Checked) (h number : ℕ) (b : Buffers) (head : Head) : Type 0 where
  pub asked : Grantable file counts h number b
  pub bit : eqb (b.mask / 2 ^ h % 2) 1 ≡ true
  pub free : is_waiting (get_or b.heads h (resting 0)) ≡ false
  pub is : head ≡ ready (requests_in file) (get_or b.heads h (resting 0))

module _ {file : List ℕ} {counts : Checked} {h number : ℕ} {b : Buffers} (r : Grantable file counts h number b) where
  pub ready_next : eqb (b.mask / 2 ^ h % 2) 1 ≡ true → is_waiting (get_or b.heads h (resting 0)) ≡ false
      → (get_or b.heads h (resting 0)).task.request < counts.requests
  ready_next = next_within r.playing r.head r.standing

  pub ready_records : (next : Head) → length (set b.heads h next) ≡ most_heads
  ready_records next = length-set b.heads h next ∙ records_all r.playing r.head r.standing

  -- a report with a row written has its length
  pub ready_rows : (report' : List ℕ) (at : ℕ) (row : Row) → report' ≡ stored b.report at row → 4 * counts.requests ≤ length report'
  ready_rows report' at row is = rw is (simp length-set (rows_room r.playing r.head r.standing))

module _ {file : List ℕ} {counts : Checked} {h number : ℕ} {b : Buffers} {head : Head} (s : Service file counts h number b head) where
  open s use {asked, bit, free, is}

  pub ready_small : b.entries < 4294967295
  ready_small = entries_small asked.playing asked.head asked.standing bit free

  pub ready_raisable : Raisable head.stage
  ready_raisable = raisable asked.playing asked.head asked.standing bit free head is

  pub ready_touchable : Touchable (map decode b.table) (access_of head)
  ready_touchable = touchable_here asked.playing asked.head asked.standing bit free head is

  -- a request is told one higher
  pub ready_number : head.task.request < 65535
  ready_number =
      omega (
        arith,
        request_within asked.playing asked.head asked.standing bit free head is,
        (playing_admitted asked.playing).few_requests,
      )

  pub ready_room : 4 * head.task.request + 4 ≤ length b.report
  ready_room = charge_room asked.playing asked.head asked.standing bit free head is

  pub ready_used : number < 4294967296 → (row_in b.report (4 * head.task.request)).used < 4294967295
  ready_used = charge_used asked.playing asked.head asked.standing bit free head is

  module _ (moved : Advanced) (is-moved : moved ≡ advance_of head (seen (map decode b.table) (access_of head)) number) where
    pub ready_insertable : moved.event.point ≢ 0 → Insertable b.linearization b.entries
    ready_insertable = insertable asked.playing asked.head asked.standing bit free head is moved is-moved

    pub ready_moved : moved.head.task.request < counts.requests
    ready_moved = moved_within asked.playing asked.head asked.standing bit free head is moved is-moved

    pub ready_own : (request_at (requests_in file) moved.head.task.request).head ≡ h
    ready_own = own_request asked.playing asked.head asked.standing bit free head is moved is-moved

pub service_of : {file : List ℕ} {counts : Checked} {h number : ℕ} {b : Buffers} {head : Head} → Grantable file counts h number b
    → eqb (b.mask / 2 ^ h % 2) 1 ≡ true
    → false ≡ is_waiting (get_or b.heads h (resting 0))
    → head ≡ ready (requests_in file) (get_or b.heads h (resting 0))
    → Service file counts h number b head
service_of asked bit waits is = record { asked = asked; bit = bit; free = sym waits; is = is }

-- What the parts of a grant made: its access, and by it the table, the report, the linearization, the entries, the mask and the
-- head before its next access.
pub record Parts (file : List ℕ) (counts : Checked) (h number : ℕ) (b : Buffers) (head : Head) (moved : Advanced)
    (table report linearization : List ℕ) (entries mask : ℕ) (next : Head) : Type 0 where
  pub service : Service file counts h number b head
  pub moves : moved ≡ advance_of head (seen (map decode b.table) (access_of head)) number
  pub touches : table ≡ map encode (touched (map decode b.table) (access_of head))
  pub charges : report
      ≡ stored b.report (4 * head.task.request) (charge (row_in b.report (4 * head.task.request)) number moved.event.answer)
  pub enters : linearization ≡ cond (eqb moved.event.point 0) b.linearization
      (inserted b.linearization b.entries moved.event.point head.task.request)
  pub counted : entries ≡ cond (eqb moved.event.point 0) b.entries (b.entries + 1)
  pub settles : next ≡ settled (requests_in file) h moved
  pub masks : mask ≡ cond (ltb next.task.request counts.requests) b.mask (b.mask - 2 ^ h)

module _ {file : List ℕ} {counts : Checked} {h number : ℕ} {b : Buffers} {head : Head} {moved : Advanced}
    {table report linearization : List ℕ} {entries mask : ℕ} {next : Head}
    (p : Parts file counts h number b head moved table report linearization entries mask next) where
  open p use {service, moves, touches, charges, enters, counted, settles, masks}

  pub parts_renewable : is_final moved.event.answer ≡ true
      → Renewable (waits_in file) (rows_of report) (set b.heads h next) h head.task.request
  parts_renewable =
      serve_renewable service.asked.playing service.asked.head service.asked.standing service.bit service.free head service.is
      moved moves table report linearization entries mask next touches charges enters counted settles masks

  -- with the heads as the report wants them the parts together make the rules' step
  pub parts_grants : (heads : List Head)
      → heads ≡ cond (frees counts.waits moved.event.answer) (map (noted (waits_in file) (rows_of report)) (set b.heads h next))
      (set b.heads h next)
      → (r : Granted) → r ≡ record { heads = heads; entries = entries; mask = mask; done = used_done moved.event }
      → Grants file h number b (buffers r.heads table report linearization r.entries r.mask) r.done
  parts_grants heads renewed r is =
      λ origin gs lent standing.
      serve_stepped service.asked.playing service.asked.head standing service.bit service.free head service.is
      moved moves table report linearization entries mask next touches charges enters counted settles masks heads renewed r is
