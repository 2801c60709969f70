-- The index of the requests' successors, made from the last request on.
--
--   index_room                      the length of the index
--   IndexedFrom qs firsts index q   firsts has each head's first request from q on, index the successors of the requests from q on
--
-- Main laws: indexed_none, before the last request; indexed_on, one request more.
use mathlib.Core.Path.{◌≡◌, refl, sym, ap, ◌∙◌}
use mathlib.Core.List.{List}
use Prim.Native.Nat.{ℕ, suc, ◌≤◌, ◌<◌}
use native.Mathlib.Omega.{arith}
use native.Mathlib.Decide.{ℕ_discrete}
use lib.ListN.{length, get_or, set, replicate, length-set, get_or-replicate}
use lib.Seq.{get_or-set_same, get_or-set_other}
use Rattle.reader.specs.declared.Checked.{Checked}
use Rattle.reader.specs.Reader.{Playing}
use Rattle.job.specs.Job.{most_heads, most_requests}
use Rattle.job.specs.declared.Request.{Request}
use Rattle.rules.specs.State.{no_request, request_at, seek}
use Rattle.rules.proofs.Requests.{seek_absent}
use Rattle.stepper.specs.Shown.{requests_in}
use Rattle.reader.proofs.Playing.{playing_count}
use Rattle.stepper.proofs.Seek.{seek_here, seek_on, seek_none}
use Rattle.stepper.proofs.Reached.{playing_admitted}

abbrev pub index_room : ℕ
index_room = 514

pub record IndexedFrom (qs : List Request) (firsts index : List ℕ) (q : ℕ) : Type 0 where
  pub within : q ≤ length qs
  pub heads : length firsts ≡ most_heads
  pub size : length index ≡ index_room
  pub first : (h : ℕ) → h < most_heads → get_or firsts h 0 ≡ seek qs h q
  pub successor : (p : ℕ) → q ≤ p → p < length qs → get_or index p 0 ≡ seek qs (request_at qs p).head (suc p)

pub indexed_none : (qs : List Request) (index : List ℕ) (count : ℕ) → count ≡ length qs → length index ≡ index_room
    → IndexedFrom qs (replicate most_heads count) index count
indexed_none qs index count all room =
    record {
      within = omega (arith, all);
      heads = refl;
      size = room;
      first = λ h l. get_or-replicate {A = ℕ} most_heads h count 0 l ∙ sym (seek_none qs h count (omega (arith, all)));
      successor = λ p l inside. absurd (omega (arith, all));
    }

module _ {qs : List Request} {firsts index : List ℕ} {q : ℕ} (i : IndexedFrom qs firsts index q) (p head : ℕ) (is : suc p ≡ q)
    (own : (request_at qs p).head ≡ head) (few : head < most_heads) (room : p < index_room) where
  here : p < length qs
  here = omega (arith, is, i.within)

  first_on : (h : ℕ) → h < most_heads → Dec (h ≡ head) → get_or (set firsts head p) h 0 ≡ seek qs h p
  first_on h l (yes e) = rw e (get_or-set_same firsts head p 0 (omega (arith, i.heads)) ∙ sym (seek_here qs head p here own))
  first_on h l (no d) =
      get_or-set_other firsts head h p 0 d ∙ i.first h l ∙ ap (seek qs h) (sym is)
      ∙ sym (seek_on qs h p here (λ z. d (sym z ∙ own)))

  successor_on : (r : ℕ) → p ≤ r → r < length qs → Dec (r ≡ p)
      → get_or (set index p (get_or firsts head 0)) r 0 ≡ seek qs (request_at qs r).head (suc r)
  successor_on r l inside (yes e) =
      rw e
      (get_or-set_same index p (get_or firsts head 0) 0 (omega (arith, i.size)) ∙ i.first head few ∙ ap (seek qs head) (sym is)
      ∙ ap (λ k. seek qs k (suc p)) (sym own))
  successor_on r l inside (no d) = get_or-set_other index p r (get_or firsts head 0) 0 d ∙ i.successor r (omega (arith, is, d)) inside

  pub indexed_on : IndexedFrom qs (set firsts head p) (set index p (get_or firsts head 0)) p
  indexed_on =
      record {
        within = omega (arith, here);
        heads = length-set firsts head p ∙ i.heads;
        size = length-set index p (get_or firsts head 0) ∙ i.size;
        first = λ h l. first_on h l (ℕ_discrete h head);
        successor = λ r l inside. successor_on r l inside (ℕ_discrete r p);
      }

-- ---- what an accepted file says

module _ {file : List ℕ} {counts : Checked} (playing : Playing file counts) where
  pub few_requests : counts.requests ≤ most_requests
  few_requests = omega (arith, playing_count playing, (playing_admitted playing).few_requests)

  pub few_heads : (q h : ℕ) → q < counts.requests → (r : Request)
      → ((none : Request) → r ≡ get_or (requests_in file) q none) → h ≡ r.head → h < most_heads
  few_heads q h l r is own =
      omega (
        arith,
        own,
        ap (λ k. k.head) (is no_request),
        ((playing_admitted playing).each_request q no_request (omega (arith, playing_count playing))).head,
        (playing_admitted playing).few_heads,
      )

  pub few_heads_in_all : counts.heads ≤ most_heads
  few_heads_in_all = omega (arith, ap (λ c. c.heads) playing.checked, (playing_admitted playing).few_heads)

  -- a head that the job does not have has no request
  pub absent_first : (h : ℕ) → counts.heads ≤ h → seek (requests_in file) h 0 ≡ counts.requests
  absent_first h beyond =
      let served = (playing_admitted playing).each_request in
      let heads = ap (λ c. c.heads) playing.checked in
      seek_absent (requests_in file) h 0 (omega arith) (λ q l e. omega (arith, (served q no_request l).head, e, heads))
      ∙ sym (playing_count playing)
