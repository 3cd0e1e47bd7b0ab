-- The find: which row has a board (02, "Running total and quick fetch"). The sequence of its looks, and apart from it what a full pass over the boards gives.
-- Assumes nothing.
use Rattle.std.specs.Prelude.{ℕ, zero, suc, ◌+◌, ◌*◌, ◌-◌, ◌/◌, List, [], ◌∷◌, drop, ltb, eqb, Ok, Err}
use Rattle.layout.specs.Bytes.{if, refusal}
use Rattle.layout.specs.Calls.{Told, told, told_refusal}
use Rattle.rooms.specs.Answers.{Counted}
use Rattle.rooms.specs.File.{Board, rows_at, count_in, row_in, rows_inside}
use Rattle.rooms.specs.Calls.{asked}

-- ---- looks

-- how a search goes
pub data Search : Type 0 where
  -- no row is left
  over : Search
  -- it looks at this row, which has the board
  finds : ℕ → Search
  -- it looks at this row, which has another, and goes on
  passes : ℕ → Search → Search

-- the row to look at of so many that are left from `first` on: the middle one, of two the later
abbrev pub middle : ℕ → ℕ → ℕ
middle first left = first + left / 2

-- the search for board n, where row k has the board numbers k, in the rows that are left from `first` on: the row looked at goes, with those on the wrong side.
-- `most` is a number of looks that is enough: as many as rows are left always are, since each look takes one away
unfoldable pub search : ℕ → (ℕ → ℕ) → ℕ → ℕ → ℕ → Search
search zero numbers n first left = over
search (suc most) numbers n first left =
    if (eqb left 0)
    (λ _. over)
    (λ _. if (eqb n (numbers (middle first left)))
    (λ _. finds (middle first left))
    (λ _. passes (middle first left)
    (if (ltb n (numbers (middle first left)))
    (λ _. search most numbers n first (left / 2))
    (λ _. search most numbers n (middle first left + 1) (left - left / 2 - 1)))))

-- the rows that a search looks at, in turn
unfoldable pub looks : Search → List ℕ
looks over = []
looks (finds k) = k ∷ []
looks (passes k s) = k ∷ looks s

-- the row that a search comes to, or 22
unfoldable pub row_found : Search → Counted
row_found over = Err (refusal 22 0)
row_found (finds k) = Ok (k, 0)
row_found (passes k s) = row_found s

-- ---- the call

-- the board number of row k of a file of this form
abbrev pub number_at : ℕ → List ℕ → ℕ → ℕ
number_at form file k = (row_in (drop (rows_at form + 8 * k) file)).number

-- the search in all rows of a file
abbrev pub search_file : ℕ → List ℕ → ℕ → Search
search_file form file n = search (count_in file) (number_at form file) n 0 (count_in file)

-- 1, 2, 21, 22. 21 is for the head, the told form, a total that is cut and rows past the end, and for nothing else
unfoldable pub find_board : ℕ → ℕ → List ℕ → ℕ → Counted
find_board form e file n =
    asked e file 0 Err (λ _. if (rows_inside form file) (λ _. row_found (search_file form file n)) (λ _. Err (refusal 21 0)))

-- ---- a full pass

-- the first board of number n, where the first of these is board k
unfoldable pub pass_from : ℕ → ℕ → List Board → Counted
pass_from k n [] = Err (refusal 22 0)
pass_from k n (b ∷ bs) = if (eqb n b.number) (λ _. Ok (k, 0)) (λ _. pass_from (k + 1) n bs)

abbrev pub full_pass : ℕ → List Board → Counted
full_pass n bs = pass_from 0 n bs

-- ---- what is told

-- the count, and the total in the place of a part's first byte
abbrev pub told_counted : Counted → Told
told_counted (Ok (n, total)) = told n (record { place = record { 0 = total }; len = 0 }) []
told_counted (Err r) = told_refusal r
