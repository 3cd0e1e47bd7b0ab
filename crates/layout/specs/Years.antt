-- The calendar as it is printed, year by year, and what the definition of a day has to do with it. Which years have a leap day is laid out here, and not found by division.
-- Assumes nothing.
use Rattle.std.specs.Prelude.{ℕ, zero, suc, ◌+◌, ◌*◌, ◌-◌, ◌%◌, ◌≤◌, ◌≡◌, List, [], ◌∷◌, Bool, true, false, get_or}
use Rattle.layout.specs.Calendar.{is_day, date}

-- ---- four hundred years, as the last days of their months

-- January to December of a year of 365 days
abbrev pub common : List ℕ
common = 31 ∷ 28 ∷ 31 ∷ 30 ∷ 31 ∷ 30 ∷ 31 ∷ 31 ∷ 30 ∷ 31 ∷ 30 ∷ 31 ∷ []

-- and of one of 366
abbrev pub longer : List ℕ
longer = 31 ∷ 29 ∷ 31 ∷ 30 ∷ 31 ∷ 30 ∷ 31 ∷ 31 ∷ 30 ∷ 31 ∷ 30 ∷ 31 ∷ []

-- n times the same years, and then others
abbrev pub again : ℕ → (List (List ℕ) → List (List ℕ)) → List (List ℕ) → List (List ℕ)
again zero years then = then
again (suc n) years then = years (again n years then)

-- four years, as 1 to 4
abbrev pub four : List (List ℕ) → List (List ℕ)
four then = common ∷ common ∷ common ∷ longer ∷ then

-- a hundred years, as 1 to 100: the last one has no leap day
abbrev pub hundred : List (List ℕ) → List (List ℕ)
hundred then = again 24 four (common ∷ common ∷ common ∷ common ∷ then)

-- the years 1 to 400: three such hundreds, and one whose last year has its leap day
unfoldable pub cycle : List (List ℕ)
cycle = again 3 hundred (again 25 four [])

-- the last day of month m of year y; after four hundred years the same come again
abbrev pub last_printed : ℕ → ℕ → ℕ
last_printed y m = get_or (get_or cycle ((y - 1) % 400) []) (m - 1) 0

-- a day of a printed calendar of the years 1 to 9999
abbrev pub Printed : ℕ → ℕ → ℕ → Type 0
Printed y m d = (1 ≤ y) × (y ≤ 9999) × (1 ≤ m) × (m ≤ 12) × (1 ≤ d) × (d ≤ last_printed y m)

-- ---- days, counted

-- the sum of f over the numbers below n
abbrev pub sum_below : ℕ → (ℕ → ℕ) → ℕ
sum_below zero f = 0
sum_below (suc n) f = f n + sum_below n f

-- 1 for a day, 0 for none
abbrev pub one : Bool → ℕ
one true = 1
one false = 0

-- the days of a year: of the months 0 to 13, and of each the days 0 to 32
unfoldable pub days_of : ℕ → ℕ
days_of y = sum_below 14 (λ m. sum_below 33 (λ d. one (is_day (date y m d))))

-- the days of the years 1 to n
unfoldable pub days_to : ℕ → ℕ
days_to n = sum_below n (λ y. days_of (y + 1))

-- ---- the statement

pub record AsPrinted : Type 0 where
  -- what is taken for a day is one of a printed calendar, and every day of a printed calendar is known
  pub taken : (y m d : ℕ) → is_day (date y m d) ≡ true → Printed y m d
  pub known : (y m d : ℕ) → Printed y m d → is_day (date y m d) ≡ true
  -- a year has 365 days, and every fourth 366, but of the hundredths only every fourth
  pub between : (k r : ℕ) → 1 ≤ r → r ≤ 3 → k * 4 + r ≤ 9999 → days_of (k * 4 + r) ≡ 365
  pub fourth : (k : ℕ) → k * 4 ≤ 9999 → (k % 25 ≡ 0 → ⊥) → days_of (k * 4) ≡ 366
  pub hundredth : (k : ℕ) → k * 100 ≤ 9999 → (k % 4 ≡ 0 → ⊥) → days_of (k * 100) ≡ 365
  pub four_hundredth : (k : ℕ) → 1 ≤ k → k * 400 ≤ 9999 → days_of (k * 400) ≡ 366
  -- the years 1 to 400 have 146,097
  pub cycle : days_to 400 ≡ 146097
