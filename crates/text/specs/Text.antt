-- Document 01, "Played cases": fields are decimal, one space apart, and every line ends with a line feed.
--
--   digits_by small n digits  the digits of n, by those of its tenth where n is not small
--   digits_within fuel n      the digits of n, for any fuel above n
--   decimal n                 n in ASCII decimal: no leading zeros, and "0" for 0
--   last_two n                the last two digits of n
--   fields ns                 the numbers ns, a space before each
--   line name ns              one line: its name, the numbers, a line feed
--   each f n                  f 0, f 1 and so on, n of them, one after the other
use Rattle.std.specs.Prelude.{Bool, true, false, List, [], ◌∷◌, ◌++◌, ℕ, zero, suc, ◌+◌, ◌/◌, ◌%◌, ltb}

-- A number below ten is one digit (ASCII 48 is "0"); any other is the digits of its tenth, then its last digit.
abbrev pub digits_by : Bool → ℕ → (ℕ → List ℕ) → List ℕ
digits_by true n digits = (48 + n) ∷ []
digits_by false n digits = digits (n / 10) ++ ((48 + n % 10) ∷ [])

unfoldable pub digits_within : ℕ → ℕ → List ℕ
digits_within zero n = []
digits_within (suc fuel) n = digits_by (ltb n 10) n (digits_within fuel)

unfoldable pub decimal : ℕ → List ℕ
decimal n = digits_within (suc n) n

abbrev pub last_two : ℕ → List ℕ
last_two n = (48 + n / 10 % 10) ∷ (48 + n % 10) ∷ []

-- ASCII 32 is a space.
unfoldable pub fields : List ℕ → List ℕ
fields [] = []
fields (n ∷ ns) = (32 ∷ decimal n) ++ fields ns

-- ASCII 10 is a line feed.
unfoldable pub line : List ℕ → List ℕ → List ℕ
line name ns = name ++ (fields ns ++ (10 ∷ []))

unfoldable pub each : (ℕ → List ℕ) → ℕ → List ℕ
each f zero = []
each f (suc n) = each f n ++ f n
