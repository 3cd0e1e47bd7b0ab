-- The machine-room file (02, "Machine-room file"): the file of a list of boards, and what the boards of a file are.
-- Nothing here knows a format: a body is bytes.
-- Assumes nothing.
use Rattle.std.specs.Prelude.{ℕ, zero, suc, ◌+◌, ◌*◌, ◌/◌, ◌%◌, List, [], ◌∷◌, ◌++◌, Bool, true, ◌&&◌, length, get_or, take, drop, leb, eqb}
use Rattle.layout.specs.Bytes.{if, same_bytes, part, high_first}

pub record Board : Type 0 where
  pub number : ℕ
  pub format : ℕ
  pub body : List ℕ

abbrev pub board : ℕ → ℕ → List ℕ → Board
board n f body = record { number = n; format = f; body = body }

-- ---- the file of a list of boards

-- a number in one, two and four bytes, high byte first
abbrev pub one : ℕ → List ℕ
one n = n % 256 ∷ []

abbrev pub two : ℕ → List ℕ
two n = n / 256 % 256 ∷ n % 256 ∷ []

abbrev pub four : ℕ → List ℕ
four n = n / 16777216 % 256 ∷ n / 65536 % 256 ∷ n / 256 % 256 ∷ n % 256 ∷ []

-- the head of a file of this form with so many boards: 52h 4Dh, the form number, a zero, the board count, two zeros
unfoldable pub head : ℕ → ℕ → List ℕ
head form n = (0x52 ∷ 0x4D ∷ one form) ++ ((0 ∷ two n) ++ (0 ∷ 0 ∷ []))

-- the row of a board: board number, format, a zero, body length
unfoldable pub row_of : Board → List ℕ
row_of b = four b.number ++ (one b.format ++ (0 ∷ two (length b.body)))

unfoldable pub rows_of : List Board → List ℕ
rows_of [] = []
rows_of (b ∷ bs) = row_of b ++ rows_of bs

unfoldable pub bodies_of : List Board → List ℕ
bodies_of [] = []
bodies_of (b ∷ bs) = b.body ++ bodies_of bs

-- head, a row for each board, and the bodies in that order without gaps
unfoldable pub file_of : ℕ → List Board → List ℕ
file_of form bs = head form (length bs) ++ (rows_of bs ++ bodies_of bs)

-- ---- the boards of a file

-- the forms that are known
abbrev pub known_form : ℕ → Bool
known_form form = eqb form 1

-- where the rows of a file of this form begin
abbrev pub rows_at : ℕ → ℕ
rows_at form = 8

-- where the bodies of a file of this form with so many boards begin
abbrev pub bodies_at : ℕ → ℕ → ℕ
bodies_at form n = rows_at form + 8 * n

-- the board count that a file's head says
abbrev pub count_in : List ℕ → ℕ
count_in file = high_first 0 (part 4 2 file)

-- the file begins with a head of this form, which is a known one
unfoldable pub headed : ℕ → List ℕ → Bool
headed form file = known_form form && same_bytes (take 8 file) (head form (count_in file))

-- a row as it is stored
pub record Row : Type 0 where
  pub number : ℕ
  pub format : ℕ
  pub zero : ℕ
  pub size : ℕ

-- the row at the front of these bytes
unfoldable pub row_in : List ℕ → Row
row_in s = record { number = high_first 0 (take 4 s); format = get_or s 4 0; zero = get_or s 5 0; size = high_first 0 (part 6 2 s) }

-- n rows, one after another
unfoldable pub rows_in : ℕ → List ℕ → List Row
rows_in zero s = []
rows_in (suc n) s = row_in s ∷ rows_in n (drop 8 s)

-- every row has its zero and a body of at least one byte, and the board numbers rise strictly, from `low` on
unfoldable pub right_from : ℕ → List Row → Bool
right_from low [] = true
right_from low (r ∷ rs) = leb low r.number && eqb r.zero 0 && leb 1 r.size && right_from (r.number + 1) rs

-- the bytes of all bodies together
unfoldable pub sizes : List Row → ℕ
sizes [] = 0
sizes (r ∷ rs) = r.size + sizes rs

-- the boards of rows whose bodies stand at the front of these bytes
unfoldable pub boards_of : List Row → List ℕ → List Board
boards_of [] s = []
boards_of (r ∷ rs) s = board r.number r.format (take r.size s) ∷ boards_of rs (drop r.size s)

-- what a file is read as
pub data Room : Type 0 where
  -- head and contents are right, and these are its boards
  holds : List Board → Room
  wrong : Room

-- the rows are right, and the bytes after them are the bodies and no more
abbrev pub read_rows : List Row → List ℕ → Room
read_rows rs s = if (right_from 0 rs && eqb (sizes rs) (length s)) (λ _. holds (boards_of rs s)) (λ _. wrong)

-- the head is right, and the rows do not pass the end
unfoldable pub read_room : ℕ → List ℕ → Room
read_room form file =
    if (headed form file && leb (bodies_at form (count_in file)) (length file))
    (λ _. read_rows (rows_in (count_in file) (drop (rows_at form) file)) (drop (bodies_at form (count_in file)) file))
    (λ _. wrong)

-- what the find looks at before it searches: the head is right, and the rows do not pass the end
abbrev pub rows_inside : ℕ → List ℕ → Bool
rows_inside form file = headed form file && leb (bodies_at form (count_in file)) (length file)
