-- Days of the Gregorian calendar, back to year 1, times of a day, and the numbers that digits show (02, "Real calendar days").
-- Assumes nothing.
use Rattle.std.specs.Prelude.{ℕ, ◌+◌, ◌*◌, ◌-◌, ◌%◌, List, [], ◌∷◌, Bool, not, ◌&&◌, ◌||◌, get_or, leb, eqb}
use Rattle.layout.specs.declared.Date.{Date}
use Rattle.layout.specs.declared.Time.{Time}
use Rattle.layout.specs.Bytes.{if, between, one_of}

-- every fourth year is a leap year, but of the full hundreds only every fourth
abbrev pub leap : ℕ → Bool
leap y = eqb (y % 4) 0 && (not (eqb (y % 100) 0) || eqb (y % 400) 0)

-- the last day of a month, of a leap year or of another
unfoldable pub last_day : Bool → ℕ → ℕ
last_day l m =
    if (eqb m 2) (λ _. if l (λ _. 29) (λ _. 28))
    (λ _. if (one_of (4 ∷ 6 ∷ 9 ∷ 11 ∷ []) m) (λ _. 30)
    (λ _. 31))

-- a day of the years 1 to 9999
unfoldable pub is_day : Date → Bool
is_day d = between 1 9999 d.year && between 1 12 d.month && between 1 (last_day (leap d.year) d.month) d.day

-- a time of a day, to the second
unfoldable pub is_time : Time → Bool
is_time t = leb t.hour 23 && leb t.minute 59 && leb t.second 59

-- the number that two digits of a value show, from place i on, and four
abbrev pub two_digits : ℕ → List ℕ → ℕ
two_digits i v = (get_or v i 0 - 0x30) * 10 + (get_or v (i + 1) 0 - 0x30)

abbrev pub four_digits : ℕ → List ℕ → ℕ
four_digits i v = two_digits i v * 100 + two_digits (i + 2) v

abbrev pub date : ℕ → ℕ → ℕ → Date
date y m d = record { year = y; month = m; day = d }

abbrev pub time : ℕ → ℕ → ℕ → Time
time h m s = record { hour = h; minute = m; second = s }
