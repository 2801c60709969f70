-- The numbers of a record, by the bytes and words that they are read from.
--
--   right_read, fields_read, wait_read, run_read   a record of numbers is the one at that place, if each was read from its bytes
--   no_rights              a file whose rights are counted to none has none
--   right_stood            the right of a head whose record is in a file whose rights are counted
--   narrow, request_read   numbers read from bytes fit a request's fields, and give the request at that place
--   asked_numbers          the refusal of a request that is whole and counted, by its numbers
use mathlib.Core.Path.{◌≡◌, ◌∙◌, sym, ap}
use mathlib.Core.List.{List}
use Prim.Native.Nat.{ℕ, ◌+◌, ◌*◌, ◌≤◌, ◌<◌}
use native.Mathlib.Omega.{arith}
use lib.ListN.{length, get_or, drop, length-map}
use lib.Seq.{get_or-drop, drop-drop}
use borrow.Author.Tests.{le-ltb, lt-leb}
use Rattle.job.specs.declared.Kind.{Kind}
use Rattle.job.specs.declared.Right.{Right}
use Rattle.job.specs.Job.{most_requests, kind_of, every_right, right_of}
use Rattle.jobfile.specs.declared.Fields.{Fields}
use Rattle.jobfile.specs.Format.{job_size, right_size, request_size, right_place, word}
use Rattle.jobfile.specs.Format.{asked_refusal}
use Rattle.jobfile.specs.Meaning.{right_at, right_records, rights_in, fields_at, request_at, request_refusal, wait_at, run_at}
use Rattle.jobfile.specs.Admitted.{Bytes}
use Rattle.jobfile.proofs.Records.{bytes_drop, section_at}
use Rattle.jobfile.proofs.Backward.{right_section}
use Rattle.records.specs.Records.{Righted}

module _ (s : List ℕ) (at : ℕ) where
  pub right_read : (head rights low high : ℕ) → head ≡ get_or s (at + 2) 0 → rights ≡ get_or s (at + 3) 0
      → low ≡ word (drop (at + 4) s) → high ≡ word (drop (at + 6) s)
      → record { head = head; rights = rights; sight = low + 65536 * high } ≡ right_at (drop at s)
  right_read head rights low high h r el eh =
      let behind : drop (at + 6) s ≡ drop 2 (drop 4 (drop at s)) = sym (drop-drop 2 4 (drop at s) ∙ drop-drop 6 at s) in
      λ i. record {
        head = (h ∙ sym (get_or-drop at s 2 0)) i;
        rights = (r ∙ sym (get_or-drop at s 3 0)) i;
        sight = (el ∙ ap word (sym (drop-drop 4 at s))) i + 65536 * (eh ∙ ap word behind) i;
      }

  pub fields_read : (head kind x y : ℕ) → head ≡ get_or s (at + 2) 0 → kind ≡ get_or s (at + 3) 0
      → x ≡ word (drop (at + 4) s) → y ≡ word (drop (at + 6) s) → record { head = head; kind = kind; x = x; y = y } ≡ fields_at (drop at s)
  fields_read head kind x y h k ex ey =
      λ i. record {
        head = (h ∙ sym (get_or-drop at s 2 0)) i;
        kind = (k ∙ sym (get_or-drop at s 3 0)) i;
        x = (ex ∙ ap word (sym (drop-drop 4 at s))) i;
        y = (ey ∙ ap word (sym (drop-drop 6 at s))) i;
      }

  pub wait_read : (later earlier : ℕ) → later ≡ word (drop (at + 2) s) → earlier ≡ word (drop (at + 4) s)
      → record { later = later; earlier = earlier } ≡ wait_at (drop at s)
  wait_read later earlier l e =
      λ i. record { later = (l ∙ ap word (sym (drop-drop 2 at s))) i; earlier = (e ∙ ap word (sym (drop-drop 4 at s))) i }

  pub run_read : (head count : ℕ) → head ≡ get_or s (at + 2) 0 → count ≡ get_or s (at + 3) 0
      → record { head = head; count = count } ≡ run_at (drop at s)
  run_read head count h n = λ i. record { head = (h ∙ sym (get_or-drop at s 2 0)) i; count = (n ∙ sym (get_or-drop at s 3 0)) i }

-- Numbers that are read from bytes fit the fields of a request.
pub record Narrow (q : Fields) : Type 0 where
  pub head : q.head < 256
  pub x : q.x < 65536
  pub y : q.y < 65536

module _ (s : List ℕ) (at : ℕ) (q : Fields) (is : q ≡ fields_at (drop at s)) where
  pub narrow : Bytes s → Narrow q
  narrow bytes =
      let b = bytes_drop at s bytes in
      let x = bytes_drop 4 (drop at s) b in
      let y = bytes_drop 6 (drop at s) b in
      rw is (record { head = b 2; x = omega (arith, x 0, x 1); y = omega (arith, y 0, y 1) })

  pub request_read : (kind : Kind) → kind ≡ kind_of q.kind
      → record { head = q.head; kind = kind; x = q.x; y = q.y } ≡ request_at (drop at s)
  request_read kind k = rw (k, is)

-- What a head may ask and see stands in its record, or there is none.
module _ {s : List ℕ} {rights : ℕ} (righted : Righted s rights) (head : ℕ) where
  pub right_stood : (r : Right) → head < rights → r ≡ right_at (drop (right_place head) s) → r ≡ right_of (rights_in s) head
  right_stood r l e =
      e ∙ ap right_at (sym (drop-drop (right_size * head) job_size s))
      ∙ sym (section_at (right_section s) right_at head (every_right head) (omega (arith, righted.counted)))

-- A file with none has none.
pub no_rights : {s : List ℕ} {rights : ℕ} → Righted s rights → rights ≡ 0 → length (rights_in s) ≡ 0
no_rights {s} righted none = length-map (right_records s) right_at ∙ sym righted.counted ∙ none

-- The refusal of a request that is whole and counted, by its numbers,
pub asked_numbers : (nodes heads : ℕ) (rights : List Right) (number : ℕ) (q : Fields) (t : List ℕ) → q ≡ fields_at t
    → request_size ≤ length t → number < most_requests → request_refusal nodes heads rights number t ≡ asked_refusal nodes heads rights q
unfolding request_refusal
asked_numbers nodes heads rights number q t e l few =
    rw (le-ltb (length t) request_size l, lt-leb most_requests number few, e)
