-- The table of listings holds of the definitions, all by computation.
--
-- Main law: listing_cases, what the definitions leave of each case of the table is what is expected.
use mathlib.Core.Path.{◌≡◌, refl}
use mathlib.Core.List.{map}
use Rattle.word.specs.Word.{rank_of, parent_of}
use Rattle.text.specs.Text.{digits_within, decimal, fields, line, each}
use Rattle.listing.specs.Listing.{listing, listed, printed}
use Rattle.listing.specs.Cases.{cases, outcome, wanted}

pub listing_cases : map outcome cases ≡ map wanted cases
unfolding rank_of parent_of digits_within decimal fields line each listing listed printed
listing_cases = refl
