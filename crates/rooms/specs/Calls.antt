-- The calls on a machine-room file: add, replace, remove and fetch a board (02, "Machine-room file").
-- A body is judged by the check call alone (layout/specs/Calls.antt, `check_image`).
-- Assumes nothing.
use Rattle.std.specs.Prelude.{ℕ, ◌+◌, List, [], ◌∷◌, ◌++◌, ◌||◌, length, ltb, eqb, Ok, Err}
use Rattle.layout.specs.declared.Refusal.{Refusal}
use Rattle.layout.specs.Answers.{Checked, Located}
use Rattle.layout.specs.Bytes.{if, part_at, refusal}
use Rattle.layout.specs.Editions.{known_edition}
use Rattle.layout.specs.Read.{limit}
use Rattle.layout.specs.Calls.{check_image}
use Rattle.layout.specs.Write.{Outcome, refuse, put_bytes}
use Rattle.layout.specs.Change.{Allowed, allowed, denied}
use Rattle.rooms.specs.File.{Board, board, file_of, bodies_at, Room, holds, wrong, read_room}

-- ---- what is asked

-- one after another: what comes later is asked where nothing before it is wrong
abbrev pub and_then : Allowed → (Unit {0} → Allowed) → Allowed
and_then allowed more = more tt
and_then (denied r) more = denied r

-- 22: no such board
unfoldable pub present : ℕ → List Board → Allowed
present n [] = denied (refusal 22 0)
present n (b ∷ bs) = if (eqb n b.number) (λ _. allowed) (λ _. present n bs)

-- 23: the board is already there
unfoldable pub absent : ℕ → List Board → Allowed
absent n [] = allowed
absent n (b ∷ bs) = if (eqb n b.number) (λ _. denied (refusal 23 0)) (λ _. absent n bs)

-- what the check of a body says, where places count from so many bytes before it
abbrev pub body_allowed : Checked → ℕ → Allowed
body_allowed (Ok n) p = allowed
body_allowed (Err r) p = denied (refusal r.number (p + r.place.0))

-- every body's own refusals by an edition, in order, where the first body stands at p
unfoldable pub judge_bodies : ℕ → ℕ → List Board → Allowed
judge_bodies e p [] = allowed
judge_bodies e p (b ∷ bs) = and_then (body_allowed (check_image b.format e b.body) p) (λ _. judge_bodies e (p + length b.body) bs)

-- the stored bodies, which a file of this form has after its rows: their places count in the file
abbrev pub judge_stored : ℕ → ℕ → List Board → Allowed
judge_stored form e bs = judge_bodies e (bodies_at form (length bs)) bs

-- ---- what every call asks first

-- 1, then 2 for the file or for an output of so many bytes; then what a call goes on with
abbrev pub asked : {A : Type 0} → ℕ → List ℕ → ℕ → (Refusal → A) → (Unit {0} → A) → A
asked e file lent refused more =
    if (known_edition e)
    (λ _. if (ltb limit (length file) || ltb limit lent) (λ _. refused (refusal 2 0)) more)
    (λ _. refused (refusal 1 0))

-- the boards of a file, or what refuses it
pub data Opened : Type 0 where
  has : List Board → Opened
  has_not : Refusal → Opened

abbrev pub opened_by : Room → Opened
opened_by (holds bs) = has bs
opened_by wrong = has_not (refusal 21 0)

-- 1, 2 (file, or an output of so many bytes), 21
unfoldable pub open_room : ℕ → ℕ → List ℕ → ℕ → Opened
open_room form e file lent =
    if (known_edition e)
    (λ _. if (ltb limit (length file) || ltb limit lent) (λ _. has_not (refusal 2 0)) (λ _. opened_by (read_room form file)))
    (λ _. has_not (refusal 1 0))

-- ---- add, replace, remove

-- the boards with a number below n, which come first
unfoldable pub below : ℕ → List Board → List Board
below n [] = []
below n (b ∷ bs) = if (ltb b.number n) (λ _. b ∷ below n bs) (λ _. [])

-- the boards with a number above n, which come last
unfoldable pub above : ℕ → List Board → List Board
above n [] = []
above n (b ∷ bs) = if (ltb n b.number) (λ _. b ∷ bs) (λ _. above n bs)

-- the boards with these in the place of number n: one that is added or replaces the one that was there, or none
abbrev pub changed : ℕ → List Board → List Board → List Board
changed n new bs = below n bs ++ (new ++ above n bs)

-- what the call asks of the board's number; the stored bodies' own, in the file; the new body's own, in it
abbrev pub change_asks : (ℕ → List Board → Allowed) → ℕ → ℕ → ℕ → List Board → List Board → Allowed
change_asks asks form e n new bs = and_then (asks n bs) (λ _. and_then (judge_stored form e bs) (λ _. judge_bodies e 0 new))

-- then 12
abbrev pub change_allowed : Allowed → ℕ → List Board → List ℕ → Outcome
change_allowed allowed form bs out = put_bytes (file_of form bs) out
change_allowed (denied r) form bs out = refuse r out

abbrev pub change_opened : Opened → (ℕ → List Board → Allowed) → ℕ → ℕ → ℕ → List Board → List ℕ → Outcome
change_opened (has bs) asks form e n new out = change_allowed (change_asks asks form e n new bs) form (changed n new bs) out
change_opened (has_not r) asks form e n new out = refuse r out

unfoldable pub change_room : (ℕ → List Board → Allowed) → ℕ → ℕ → List ℕ → ℕ → List Board → List ℕ → Outcome
change_room asks form e file n new out = change_opened (open_room form e file (length out)) asks form e n new out

-- 1, 2, 21, 23, the stored bodies' own, the new body's own, 12
abbrev pub add_board : ℕ → ℕ → List ℕ → ℕ → ℕ → List ℕ → List ℕ → Outcome
add_board form e file n f body out = change_room absent form e file n (board n f body ∷ []) out

-- 1, 2, 21, 22, the stored bodies' own, that of the body which goes among them, the new body's own, 12
abbrev pub replace_board : ℕ → ℕ → List ℕ → ℕ → ℕ → List ℕ → List ℕ → Outcome
replace_board form e file n f body out = change_room present form e file n (board n f body ∷ []) out

-- 1, 2, 21, 22, the stored bodies' own, 12
abbrev pub remove_board : ℕ → ℕ → List ℕ → ℕ → List ℕ → Outcome
remove_board form e file n out = change_room present form e file n [] out

-- ---- fetch

-- the body of number n as a part of the file, where the first body stands at p
unfoldable pub body_at : ℕ → ℕ → List Board → Located
body_at n p [] = Err (refusal 22 0)
body_at n p (b ∷ bs) = if (eqb n b.number) (λ _. Ok (part_at p (length b.body))) (λ _. body_at n (p + length b.body) bs)

abbrev pub fetch_allowed : Allowed → Located → Located
fetch_allowed allowed x = x
fetch_allowed (denied r) x = Err r

abbrev pub fetch_opened : Opened → ℕ → ℕ → ℕ → Located
fetch_opened (has bs) form e n = fetch_allowed (and_then (present n bs) (λ _. judge_stored form e bs)) (body_at n (bodies_at form (length bs)) bs)
fetch_opened (has_not r) form e n = Err r

-- 1, 2, 21, 22, the stored bodies' own
unfoldable pub fetch_board : ℕ → ℕ → List ℕ → ℕ → Located
fetch_board form e file n = fetch_opened (open_room form e file 0) form e n
