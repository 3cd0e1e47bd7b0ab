-- The definition of a day gives the printed calendar: computed for the 4,800 months of the years 1 to 400, which come again.
-- Assumes nothing.
use Prim.Native.Nat.{ℕ, zero, suc, ◌+◌, ◌*◌, ◌-◌, ◌%◌, ◌≤◌, ◌<◌}
use mathlib.Core.Path.{◌≡◌, refl}
use mathlib.Core.Logic.{⊎_elim}
use mathlib.Core.Bool.{Bool, true, false, ◌&&◌}
use native.Mathlib.Nat.{eq-or-lt_of_le}
use native.Mathlib.Omega.{arith}
use lib.Dec.{leb, eqb}
use borrow.Author.Tests.{leb-true, le-leb, eqb-true, ne_eqb}
use Rattle.layout.specs.Bytes.{between, one_of}
use Rattle.layout.specs.Calendar.{leap, last_day, is_day, date}
use Rattle.layout.specs.Years.{cycle, last_printed, Printed, days_of, days_to, AsPrinted}
use Rattle.layout.proofs.Choices.{both}

-- ---- tests

-- a test of every number below n
abbrev every : ℕ → (ℕ → Bool) → Bool
every zero t = true
every (suc n) t = t n && every n t

every_one : (n : ℕ) (t : ℕ → Bool) → every n t ≡ true → (k : ℕ) → k < n → t k ≡ true
every_one zero t q k lt = absurd (omega arith)
every_one (suc n) t q k lt =
    let w = both (t n) (every n t) q in
    ⊎_elim (λ (is : k ≡ n). rw is w.0) (λ (less : k < n). every_one n t w.1 k less) (eq-or-lt_of_le (omega arith))

-- ---- the last days of months

-- month m + 1 of year y + 1
abbrev same : ℕ → ℕ → Bool
same y m = eqb (last_day (leap (y + 1)) (m + 1)) (last_printed (y + 1) (m + 1))

computed : every 400 (λ y. every 12 (same y)) ≡ true
unfolding last_day one_of cycle
computed = refl

-- years come again after four hundred
again-by-four : (z : ℕ) → (z + 1) % 4 ≡ (z % 400 + 1) % 4
again-by-four z = omega arith

again-by-hundred : (z : ℕ) → (z + 1) % 100 ≡ (z % 400 + 1) % 100
again-by-hundred z = omega arith

again-by-cycle : (z : ℕ) → (z + 1) % 400 ≡ (z % 400 + 1) % 400
again-by-cycle z = omega arith

leap-again : (z : ℕ) → leap (z + 1) ≡ leap (z % 400 + 1)
leap-again z = rw (again-by-four z, again-by-hundred z, again-by-cycle z)

month-printed : (y m : ℕ) → 1 ≤ y → 1 ≤ m → m ≤ 12 → last_day (leap y) m ≡ last_printed y m
month-printed y m y1 m1 m12 =
    let k = (y - 1) % 400 in
    let year = every_one 400 (λ y. every 12 (same y)) computed k (omega arith) in
    let month = every_one 12 (same k) year (m - 1) (omega arith) in
    let this-year : y - 1 + 1 ≡ y = omega arith in
    let this-month : m - 1 + 1 ≡ m = omega arith in
    let same-year : leap (k + 1) ≡ leap y = rw (← leap-again (y - 1), this-year) in
    let same_place : (k + 1 - 1) % 400 ≡ (y - 1) % 400 = omega arith in
    rw (this-month, same-year, same_place) at (eqb-true (last_day (leap (k + 1)) (m - 1 + 1)) (last_printed (k + 1) (m - 1 + 1)) month)

taken : (y m d : ℕ) → is_day (date y m d) ≡ true → Printed y m d
unfolding is_day
taken y m d q =
    let w = both (between 1 9999 y && between 1 12 m) (between 1 (last_day (leap y) m) d) q in
    let x = both (between 1 9999 y) (between 1 12 m) w.0 in
    let years = both (leb 1 y) (leb y 9999) x.0 in
    let months = both (leb 1 m) (leb m 12) x.1 in
    let days = both (leb 1 d) (leb d (last_day (leap y) m)) w.1 in
    let y1 = leb-true 1 y years.0 in
    let m1 = leb-true 1 m months.0 in
    let m12 = leb-true m 12 months.1 in
    (y1, leb-true y 9999 years.1, m1, m12, leb-true 1 d days.0, rw (month-printed y m y1 m1 m12) at (leb-true d _ days.1))

known : (y m d : ℕ) → Printed y m d → is_day (date y m d) ≡ true
unfolding is_day
known y m d (y1, y9999, m1, m12, d1, dn) =
    let is = month-printed y m y1 m1 m12 in
    rw (le-leb 1 y y1, le-leb y 9999 y9999, le-leb 1 m m1, le-leb m 12 m12, le-leb 1 d d1, is, le-leb d (last_printed y m) dn)

-- ---- the days of years

common-year : (y : ℕ) → 1 ≤ y → y ≤ 9999 → leap y ≡ false → days_of y ≡ 365
unfolding days_of is_day last_day one_of
common-year y y1 y9999 q = rw (le-leb 1 y y1, le-leb y 9999 y9999, q)

leap-year : (y : ℕ) → 1 ≤ y → y ≤ 9999 → leap y ≡ true → days_of y ≡ 366
unfolding days_of is_day last_day one_of
leap-year y y1 y9999 q = rw (le-leb 1 y y1, le-leb y 9999 y9999, q)

between-years : (k r : ℕ) → 1 ≤ r → r ≤ 3 → k * 4 + r ≤ 9999 → days_of (k * 4 + r) ≡ 365
between-years k r r1 r3 y9999 = common-year (k * 4 + r) (omega arith) y9999 (rw (ne_eqb ((k * 4 + r) % 4) 0 (λ q. omega (arith, q))))

fourth-in-hundred : (k : ℕ) → k * 4 % 100 ≡ k % 25 * 4
fourth-in-hundred k = omega arith

hundredth-in-cycle : (k : ℕ) → k * 100 % 400 ≡ k % 4 * 100
hundredth-in-cycle k = omega arith

fourth-year : (k : ℕ) → k * 4 ≤ 9999 → (k % 25 ≡ 0 → ⊥) → days_of (k * 4) ≡ 366
fourth-year k y9999 none =
    let by-four : k * 4 % 4 ≡ 0 = omega arith in
    let by-hundred : k * 4 % 100 ≡ 0 → ⊥ = λ q. none (omega (arith, q, fourth-in-hundred k)) in
    let k1 : k ≡ 0 → ⊥ = λ q. none (rw q) in
    leap-year (k * 4) (omega (arith, k1)) y9999 (rw (by-four, ne_eqb (k * 4 % 100) 0 by-hundred))

hundredth-year : (k : ℕ) → k * 100 ≤ 9999 → (k % 4 ≡ 0 → ⊥) → days_of (k * 100) ≡ 365
hundredth-year k y9999 none =
    let by-hundred : k * 100 % 100 ≡ 0 = omega arith in
    let by-cycle : k * 100 % 400 ≡ 0 → ⊥ = λ q. none (omega (arith, q, hundredth-in-cycle k)) in
    let by-four : k * 100 % 4 ≡ 0 = omega arith in
    let k1 : k ≡ 0 → ⊥ = λ q. none (rw q) in
    common-year (k * 100) (omega (arith, k1)) y9999 (rw (by-four, by-hundred, ne_eqb (k * 100 % 400) 0 by-cycle))

four-hundredth-year : (k : ℕ) → 1 ≤ k → k * 400 ≤ 9999 → days_of (k * 400) ≡ 366
four-hundredth-year k k1 y9999 =
    let by-four : k * 400 % 4 ≡ 0 = omega arith in
    let by-hundred : k * 400 % 100 ≡ 0 = omega arith in
    let by-cycle : k * 400 % 400 ≡ 0 = omega arith in
    leap-year (k * 400) (omega arith) y9999 (rw (by-four, by-hundred, by-cycle))

four-hundred-years : days_to 400 ≡ 146097
unfolding days_to days_of is_day last_day one_of
four-hundred-years = refl

pub as-printed : AsPrinted
as-printed =
    record {
      taken = taken;
      known = known;
      between = between-years;
      fourth = fourth-year;
      hundredth = hundredth-year;
      four_hundredth = four-hundredth-year;
      cycle = four-hundred-years;
    }
