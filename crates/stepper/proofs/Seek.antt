-- The search for a head's next request, one request at a time.
--
--   Sought qs h from q   the search for head h, begun at request `from`, has come to request q and found none yet
--
-- Main laws: sought_here, sought_on and sought_none, what the next request makes of it.
use mathlib.Core.Path.{◌≡◌, refl, sym, ap, ◌∙◌}
use mathlib.Core.Logic.{◌≢◌}
use mathlib.Core.List.{List}
use Prim.Native.Nat.{ℕ, suc, ◌+◌, ◌≤◌, ◌<◌}
use native.Mathlib.Omega.{arith}
use lib.ListN.{length, drop_of_length-le}
use lib.Seq.{drop-cons}
use borrow.Author.Tests.{eq-eqb, ne_eqb}
use Rattle.job.specs.declared.Request.{Request}
use Rattle.rules.specs.State.{no_request, request_at, seek_in, seek}

module _ (qs : List Request) (h q : ℕ) where
  pub seek_here : q < length qs → (request_at qs q).head ≡ h → seek qs h q ≡ q
  unfolding seek
  seek_here l own = ap (seek_in h q) (drop-cons qs q no_request l) ∙ rw (eq-eqb (request_at qs q).head h own) refl

  pub seek_on : q < length qs → (request_at qs q).head ≢ h → seek qs h q ≡ seek qs h (suc q)
  unfolding seek
  seek_on l other = ap (seek_in h q) (drop-cons qs q no_request l) ∙ rw (ne_eqb (request_at qs q).head h other) refl

  pub seek_none : length qs ≤ q → seek qs h q ≡ q
  unfolding seek
  seek_none l = ap (seek_in h q) (drop_of_length-le qs {i = q} l)

pub record Sought (qs : List Request) (h from q : ℕ) : Type 0 where
  pub within : q ≤ length qs
  pub same : seek qs h q ≡ seek qs h from

module _ {qs : List Request} {h from q : ℕ} (sought : Sought qs h from q) where
  pub sought_here : q < length qs → (request_at qs q).head ≡ h → q ≡ seek qs h from
  sought_here l own = sym (seek_here qs h q l own) ∙ sought.same

  pub sought_on : q < length qs → (request_at qs q).head ≢ h → Sought qs h from (q + 1)
  sought_on l other =
      let next : suc q ≡ q + 1 = omega arith in
      record { within = omega arith; same = ap (seek qs h) (sym next) ∙ sym (seek_on qs h q l other) ∙ sought.same }

  pub sought_none : length qs ≤ q → length qs ≡ seek qs h from
  sought_none l =
      let all : length qs ≡ q = omega (arith, sought.within) in
      all ∙ sym (seek_none qs h q l) ∙ sought.same
