-- Worked cases of days and of times, and of images and edits with none, as one statement over a list (02, "Real calendar days").
-- Assumes nothing.
use Prim.Native.Nat.{ℕ, ◌+◌}
use mathlib.Core.Path.{◌≡◌, refl}
use mathlib.Core.List.{List, [], ◌∷◌, ◌++◌, map}
use lib.ListN.{replicate}
use Rattle.std.specs.Prelude.{Ok}
use Rattle.layout.specs.Bytes.{one_of, refusal}
use Rattle.layout.specs.Calendar.{last_day, is_day, is_time, date, time}
use Rattle.layout.specs.Years.{one}
use Rattle.layout.proofs.Cases.{text, hex, run, fourths, board_with, onie_of, old, older, refuses, misses, nowhere}
use Rattle.layout.proofs.Cases.{Case, checks, alike, sweeps, numbers, fills, finds, values, steps, edits, unedits, given, wanted}

-- 1 for a day, 0 for none
abbrev pub day : ℕ → ℕ → ℕ → ℕ
day y m d = one (is_day (date y m d))

-- 1 for a time of a day, 0 for none
abbrev pub clock : ℕ → ℕ → ℕ → ℕ
clock h m s = one (is_time (time h m s))

-- a board dated 20230231, and an ONIE image with 30 February
abbrev pub no_day : List ℕ
no_day = board_with 13 (text "20230231") 0x437E

abbrev pub no_stamp : List ℕ
no_stamp = onie_of (hex "25 13" ++ text "02/30/2024 00:00:00") (hex "F6 F9 64 3A")

-- an ONIE image with a date
abbrev pub stamped : List ℕ
stamped = onie_of (hex "25 13" ++ text "02/29/2024 23:59:59") (hex "08 5D 0F 2C")

abbrev pub cases : List Case
cases =
    -- ---- the months of 2023, which has no leap day
    sweeps 300 (λ d. day 2023 1 d) 1 (run 1 31)
    ∷ sweeps 300 (λ d. day 2023 2 d) 1 (run 1 28)
    ∷ sweeps 300 (λ d. day 2023 3 d) 1 (run 1 31)
    ∷ sweeps 300 (λ d. day 2023 4 d) 1 (run 1 30)
    ∷ sweeps 300 (λ d. day 2023 5 d) 1 (run 1 31)
    ∷ sweeps 300 (λ d. day 2023 6 d) 1 (run 1 30)
    ∷ sweeps 300 (λ d. day 2023 7 d) 1 (run 1 31)
    ∷ sweeps 300 (λ d. day 2023 8 d) 1 (run 1 31)
    ∷ sweeps 300 (λ d. day 2023 9 d) 1 (run 1 30)
    ∷ sweeps 300 (λ d. day 2023 10 d) 1 (run 1 31)
    ∷ sweeps 300 (λ d. day 2023 11 d) 1 (run 1 30)
    ∷ sweeps 300 (λ d. day 2023 12 d) 1 (run 1 31)
    ∷ sweeps 300 (λ d. day 2024 2 d) 1 (run 1 29)
    -- of any other number there is no month
    ∷ sweeps 300 (λ m. day 2024 m 1) 1 (run 1 12)
    -- ---- the leap days of the years 1 to 99, of the full hundreds, and about 1900 and 2000
    ∷ sweeps 100 (λ y. day y 2 29) 1 (fourths 24 4)
    ∷ numbers (day 100 2 29) 0
    ∷ numbers (day 200 2 29) 0
    ∷ numbers (day 300 2 29) 0
    ∷ numbers (day 400 2 29) 1
    ∷ numbers (day 1600 2 29) 1
    ∷ numbers (day 1700 2 29) 0
    ∷ numbers (day 1800 2 29) 0
    ∷ sweeps 20 (λ k. day (1890 + k) 2 29) 1 (2 ∷ 6 ∷ 14 ∷ 18 ∷ [])
    ∷ sweeps 20 (λ k. day (1990 + k) 2 29) 1 (2 ∷ 6 ∷ 10 ∷ 14 ∷ 18 ∷ [])
    ∷ sweeps 20 (λ k. day (9990 + k) 2 29) 1 (2 ∷ 6 ∷ [])
    -- ---- the years 1 to 9999; none is left out where countries changed to this calendar
    ∷ sweeps 20 (λ y. day y 1 1) 1 (run 1 19)
    ∷ sweeps 20 (λ k. day (9990 + k) 12 31) 1 (run 0 9)
    ∷ sweeps 40 (λ d. day 1582 10 d) 1 (run 1 31)
    ∷ sweeps 40 (λ d. day 1752 9 d) 1 (run 1 30)
    -- ---- times
    ∷ sweeps 300 (λ h. clock h 59 59) 1 (run 0 23)
    ∷ sweeps 300 (λ m. clock 23 m 59) 1 (run 0 59)
    ∷ sweeps 300 (λ s. clock 23 59 s) 1 (run 0 59)
    ∷ numbers (clock 0 0 0) 1
    -- ---- a stored image with an impossible day: 7 in every call, also where the date itself is edited to a day
    ∷ alike 1 no_day (refuses 7 19)
    ∷ fills 1 1 no_day (old ∷ older ∷ []) (refuses 7 19) (old ∷ older ∷ [])
    ∷ finds 1 1 no_day 0 (misses 7 19)
    ∷ values 1 2 no_day 5 (nowhere 7 19) []
    ∷ steps 1 3 5 no_day (misses 7 19) 5
    ∷ unedits 1 1 no_day 0 (text "B") 40 (refusal 7 19)
    ∷ unedits 1 3 no_day 5 (text "20240229") 40 (refusal 7 19)
    ∷ checks 4 3 no_stamp (refuses 7 11)
    ∷ fills 4 3 no_stamp (old ∷ []) (refuses 7 11) (old ∷ [])
    ∷ finds 4 3 no_stamp 0 (misses 7 11)
    ∷ values 4 3 no_stamp 0 (nowhere 7 11) []
    ∷ steps 4 3 0 no_stamp (misses 7 11) 0
    ∷ unedits 4 3 no_stamp 0 (text "02/29/2024 23:59:59") 40 (refusal 7 11)
    -- an edit of a date, to a day and to none
    ∷ edits 1 1 (board_with 13 (text "20240229") 0x9693) 5 (text "20240301") (replicate 34 7) (Ok 33) (board_with 13 (text "20240301") 0x46C9 ++ hex "FF")
    ∷ unedits 1 2 (board_with 13 (text "20240229") 0x9693) 5 (text "20230229") 40 (refusal 7 19)
    ∷ unedits 1 3 (board_with 13 (text "20240229") 0x9693) 5 (text "00000229") 40 (refusal 7 19)
    ∷ unedits 4 3 stamped 0 (text "02/29/2024 24:00:00") 40 (refusal 7 11)
    ∷ unedits 4 3 stamped 0 (text "29/02/2024 23:59:59") 40 (refusal 7 11)
    ∷ []

pub every-case : map given cases ≡ map wanted cases
unfolding given is_day is_time last_day one_of
every-case = refl
