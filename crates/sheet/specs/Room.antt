-- Document 02, A5: how long a sheet gets, so that a buffer can be lent that has room for each.
--
--   request_room, entry_room   the most bytes of a request's line and of an entry's
--   most_sheet                 the most bytes of a sheet
--   EveryRoom file h           the sheet is no longer, and a buffer with so many bytes is not refused
use Rattle.std.specs.Prelude.{◌≡◌, List, ℕ, ◌+◌, ◌*◌, ◌≤◌, length}
use Rattle.job.specs.Job.{most_requests}
use Rattle.sheet.specs.Call.{text_of, sheet_of}
use Rattle.sheet.specs.Agree.{HasHead}

-- "request", five spaces and a line feed, with a number below 512, an answer of one digit and three grants of seven digits at most.
abbrev pub request_room : ℕ
request_room = 7 + 5 + 1 + 3 + 1 + 7 + 7 + 7

-- "line", two spaces and a line feed, with a grant and a number.
abbrev pub entry_room : ℕ
entry_room = 4 + 2 + 1 + 7 + 3

-- A request has at most one line and one entry.
abbrev pub most_sheet : ℕ
most_sheet = most_requests * (request_room + entry_room)

pub record EveryRoom (file : List ℕ) (h : ℕ) : Type 0 where
  pub short : length (text_of file h) ≤ most_sheet
  pub accepted : (out : List ℕ) → most_sheet ≤ length out → (sheet_of file h out).answer.number ≡ 0

-- Every sheet of every accepted file.
abbrev pub RoomForAll : Type 0
RoomForAll = (file : List ℕ) (h : ℕ) → HasHead file h → EveryRoom file h
