-- Worked cases of the machine-room file, as one statement over a list (02, "Machine-room file").
-- Assumes nothing.
use Prim.Native.Nat.{ℕ, zero, suc, ◌+◌, ◌-◌, ◌/◌, ◌%◌}
use mathlib.Core.Path.{◌≡◌, refl}
use mathlib.Core.List.{List, [], ◌∷◌, ◌++◌, map}
use lib.ListN.{length, take, replicate}
use Rattle.std.specs.Prelude.{Ok, Err}
use Rattle.crc.specs.Crc.{check16_of, check8_of, check32_of, mirror, check_of, byte_in, single_bit}
use Rattle.layout.specs.declared.Refusal.{Refusal}
use Rattle.layout.specs.Answers.{Made, Located}
use Rattle.layout.specs.Bytes.{all, one_of, same_bytes, part, high_first, part_at, refusal}
use Rattle.layout.specs.Calendar.{last_day, is_day, is_time}
use Rattle.layout.specs.Shape.{next, coded_head}
use Rattle.layout.specs.Fboss.{fboss, fboss_opened, date_rule, fboss_rule}
use Rattle.layout.specs.Vpd.{vpd, groups, vpd_head, vpd_reader_key, vpd_rule, vpd_twice}
use Rattle.layout.specs.Tiny.{tiny, tiny_opened, tiny_head, tiny_length, tiny_rule}
use Rattle.layout.specs.Onie.{onie, onie_opened, onie_filled, onie_check, formed, onie_date_rule, onie_rule}
use Rattle.layout.specs.Editions.{chosen, since_in, names}
use Rattle.layout.specs.Walk.{content, walks, walk}
use Rattle.layout.specs.Read.{sealed, seen_before, reader_rule, fault, judge, complete, read_as, read_image}
use Rattle.layout.specs.Calls.{check_image}
use Rattle.layout.specs.Write.{Outcome, refuse}
use Rattle.layout.proofs.Cases.{hex, fboss_of, five}
use Rattle.rooms.specs.File.{Board, board, head, row_of, rows_of, bodies_of, file_of, headed, row_in, rows_in, right_from, sizes, boards_of, read_room}
use Rattle.rooms.specs.Calls.{present, absent, judge_bodies, open_room, below, above, change_room, add_board, replace_board, remove_board, body_at, fetch_board}

-- ---- bodies and files

-- a VPD image without entries, and one with an entry; a Tiny and an ONIE image without entries; an FBOSS image of the five required entries
abbrev vpd_body : List ℕ
vpd_body = hex "00"

abbrev vpd_entry : List ℕ
vpd_entry = hex "01 01 41 01 42 00"

abbrev tiny_body : List ℕ
tiny_body = hex "56 02 04 6F"

abbrev onie_body : List ℕ
onie_body = hex "54 6C 76 49 6E 66 6F 00 01 00 06 FE 04 D4 43 1C 18"

abbrev fboss_body : List ℕ
fboss_body = fboss_of five 0x4826

abbrev no_boards : List ℕ
no_boards = hex "52 4D 01 00 00 00 00 00"

-- board 5
abbrev one_board : List ℕ
one_board = hex "52 4D 01 00 00 01 00 00 00 00 00 05 02 00 00 01 00"

-- boards 5 and 9
abbrev two_boards : List ℕ
two_boards = hex "52 4D 01 00 00 02 00 00 00 00 00 05 02 00 00 01 00 00 00 09 03 00 00 04 00 56 02 04 6F"

-- boards 5, 9 and 12
abbrev three_boards : List ℕ
three_boards = hex "52 4D 01 00 00 03 00 00 00 00 00 05 02 00 00 06 00 00 00 09 03 00 00 04 00 00 00 0C 02 00 00 01 01 01 41 01 42 00 56 02 04 6F 00"

-- the rows of boards from k on, n of them, each with a body of one byte
unfoldable pub many_rows : ℕ → ℕ → List ℕ
many_rows zero k = []
many_rows (suc n) k = 0 ∷ 0 ∷ k / 256 ∷ k % 256 ∷ 2 ∷ 0 ∷ 0 ∷ 1 ∷ many_rows n (k + 1)

-- boards 0 to n - 1
abbrev many : ℕ → List ℕ
many n = (0x52 ∷ 0x4D ∷ 1 ∷ 0 ∷ n / 256 ∷ n % 256 ∷ 0 ∷ 0 ∷ many_rows n 0) ++ replicate n 0

-- ---- cases

-- a question, with the answer that it must have
pub data Case : Type 0 where
  -- a change into an output of so many bytes 07h: the length of the new file, which stands in front of what is left of them
  adds : (form edition : ℕ) (file : List ℕ) (number format : ℕ) (body : List ℕ) (room length : ℕ) (answer : List ℕ) → Case
  replaces : (form edition : ℕ) (file : List ℕ) (number format : ℕ) (body : List ℕ) (room length : ℕ) (answer : List ℕ) → Case
  removes : (form edition : ℕ) (file : List ℕ) (number room length : ℕ) (answer : List ℕ) → Case
  -- one that is refused: they stay
  unadds : (form edition : ℕ) (file : List ℕ) (number format : ℕ) (body : List ℕ) (room : ℕ) (answer : Refusal) → Case
  unreplaces : (form edition : ℕ) (file : List ℕ) (number format : ℕ) (body : List ℕ) (room : ℕ) (answer : Refusal) → Case
  unremoves : (form edition : ℕ) (file : List ℕ) (number room : ℕ) (answer : Refusal) → Case
  fetches : (form edition : ℕ) (file : List ℕ) (number : ℕ) (answer : Located) → Case
  -- the answer alone, and the first eight bytes of what is put out
  answers : (made : Made) (answer : Made) → Case
  heads : (memory answer : List ℕ) → Case
  -- the row of a board
  rows : (b : Board) (answer : List ℕ) → Case

-- an answer of any of these
pub data Answer : Type 0 where
  outcome : Outcome → Answer
  located : Located → Answer
  answered : Made → Answer
  bytes : List ℕ → Answer

-- what the definitions answer
unfoldable pub given : Case → Answer
unfolding check16_of check8_of check32_of mirror check_of byte_in single_bit all one_of same_bytes part high_first next
    coded_head last_day is_day is_time fboss fboss_opened date_rule fboss_rule
    vpd groups vpd_head vpd_reader_key vpd_rule vpd_twice
    tiny tiny_opened tiny_head tiny_length tiny_rule
    onie onie_opened onie_filled onie_check formed onie_date_rule onie_rule
    chosen since_in names content walks walk sealed seen_before reader_rule fault judge complete read_as read_image check_image
    head row_of rows_of bodies_of file_of headed row_in rows_in right_from sizes boards_of read_room
    present absent judge_bodies open_room below above change_room body_at fetch_board many_rows
given (adds form e file n f body room length answer) = outcome (add_board form e file n f body (replicate room 7))
given (replaces form e file n f body room length answer) = outcome (replace_board form e file n f body (replicate room 7))
given (removes form e file n room length answer) = outcome (remove_board form e file n (replicate room 7))
given (unadds form e file n f body room answer) = outcome (add_board form e file n f body (replicate room 7))
given (unreplaces form e file n f body room answer) = outcome (replace_board form e file n f body (replicate room 7))
given (unremoves form e file n room answer) = outcome (remove_board form e file n (replicate room 7))
given (fetches form e file n answer) = located (fetch_board form e file n)
given (answers made answer) = answered made
given (heads memory answer) = bytes (take 8 memory)
given (rows b answer) = bytes (row_of b)

-- what they must answer
abbrev put_out : ℕ → ℕ → List ℕ → Answer
put_out room length answer = outcome (record { answer = Ok length; memory = answer ++ replicate (room - length) 7 })

abbrev pub wanted : Case → Answer
wanted (adds form e file n f body room length answer) = put_out room length answer
wanted (replaces form e file n f body room length answer) = put_out room length answer
wanted (removes form e file n room length answer) = put_out room length answer
wanted (unadds form e file n f body room answer) = outcome (refuse answer (replicate room 7))
wanted (unreplaces form e file n f body room answer) = outcome (refuse answer (replicate room 7))
wanted (unremoves form e file n room answer) = outcome (refuse answer (replicate room 7))
wanted (fetches form e file n answer) = located answer
wanted (answers made answer) = answered answer
wanted (heads memory answer) = bytes answer
wanted (rows b answer) = bytes answer

-- an addition to a file without boards, of board 5 in VPD with this body, into so many bytes
abbrev adding : List ℕ → ℕ → Made
adding body room = (add_board 1 4 no_boards 5 2 body (replicate room 7)).answer

abbrev pub cases : List Case
cases =
    -- ---- add: into no boards, before, between, after; numbers of 32 bits as unsigned ones
    adds 1 4 no_boards 5 2 vpd_body 17 17 one_board
    ∷ adds 1 4 no_boards 5 2 vpd_body 20 17 one_board
    ∷ adds 1 4 no_boards 16909060 3 tiny_body 20 20 (hex "52 4D 01 00 00 01 00 00 01 02 03 04 03 00 00 04 56 02 04 6F")
    ∷ adds 1 4 no_boards 4294967295 2 vpd_body 17 17 (hex "52 4D 01 00 00 01 00 00 FF FF FF FF 02 00 00 01 00")
    ∷ adds 1 4 no_boards 0 2 vpd_body 17 17 (hex "52 4D 01 00 00 01 00 00 00 00 00 00 02 00 00 01 00")
    ∷ adds 1 4 two_boards 1 2 vpd_entry 64 43 (hex "52 4D 01 00 00 03 00 00 00 00 00 01 02 00 00 06 00 00 00 05 02 00 00 01 00 00 00 09 03 00 00 04 01 01 41 01 42 00 00 56 02 04 6F")
    ∷ adds 1 4 two_boards 6 2 vpd_entry 64 43 (hex "52 4D 01 00 00 03 00 00 00 00 00 05 02 00 00 01 00 00 00 06 02 00 00 06 00 00 00 09 03 00 00 04 00 01 01 41 01 42 00 56 02 04 6F")
    ∷ adds 1 4 two_boards 10 2 vpd_entry 64 43 (hex "52 4D 01 00 00 03 00 00 00 00 00 05 02 00 00 01 00 00 00 09 03 00 00 04 00 00 00 0A 02 00 00 06 00 56 02 04 6F 01 01 41 01 42 00")
    ∷ adds 1 4 two_boards 8 4 onie_body 64 54 (hex "52 4D 01 00 00 03 00 00 00 00 00 05 02 00 00 01 00 00 00 08 04 00 00 11 00 00 00 09 03 00 00 04 00 54 6C 76 49 6E 66 6F 00 01 00 06 FE 04 D4 43 1C 18 56 02 04 6F")
    ∷ adds 1 4 two_boards 4 1 fboss_body 64 60 (hex "52 4D 01 00 00 03 00 00 00 00 00 04 01 00 00 17 00 00 00 05 02 00 00 01 00 00 00 09 03 00 00 04 FB FB 05 FF 01 01 41 08 01 05 09 01 00 0A 01 01 0B 01 42 FA 02 48 26 00 56 02 04 6F")
    ∷ adds 1 4 (hex "52 4D 01 00 00 01 00 00 7F FF FF FF 02 00 00 01 00") 2147483648 3 tiny_body 40 29 (hex "52 4D 01 00 00 02 00 00 7F FF FF FF 02 00 00 01 80 00 00 00 03 00 00 04 00 56 02 04 6F")
    ∷ adds 1 4 (hex "52 4D 01 00 00 01 00 00 7F FF FF FF 02 00 00 01 00") 2147483646 3 tiny_body 40 29 (hex "52 4D 01 00 00 02 00 00 7F FF FF FE 03 00 00 04 7F FF FF FF 02 00 00 01 56 02 04 6F 00")
    ∷ adds 1 4 (hex "52 4D 01 00 00 03 00 00 00 00 00 00 02 00 00 01 80 00 00 00 02 00 00 01 FF FF FF FF 03 00 00 04 00 00 56 02 04 6F") 1 2 vpd_entry 64 52 (hex "52 4D 01 00 00 04 00 00 00 00 00 00 02 00 00 01 00 00 00 01 02 00 00 06 80 00 00 00 02 00 00 01 FF FF FF FF 03 00 00 04 00 01 01 41 01 42 00 00 56 02 04 6F")
    ∷ adds 1 4 (hex "52 4D 01 00 00 03 00 00 00 00 00 00 02 00 00 01 80 00 00 00 02 00 00 01 FF FF FF FF 03 00 00 04 00 00 56 02 04 6F") 2147483649 2 vpd_entry 64 52 (hex "52 4D 01 00 00 04 00 00 00 00 00 00 02 00 00 01 80 00 00 00 02 00 00 01 80 00 00 01 02 00 00 06 FF FF FF FF 03 00 00 04 00 00 01 01 41 01 42 00 56 02 04 6F")
    ∷ adds 1 4 (hex "52 4D 01 00 00 01 00 00 00 00 01 00 02 00 00 01 00") 255 2 vpd_body 40 26 (hex "52 4D 01 00 00 02 00 00 00 00 00 FF 02 00 00 01 00 00 01 00 02 00 00 01 00 00")
    ∷ adds 1 4 (hex "52 4D 01 00 00 01 00 00 00 00 00 FF 02 00 00 01 00") 256 2 vpd_body 40 26 (hex "52 4D 01 00 00 02 00 00 00 00 00 FF 02 00 00 01 00 00 01 00 02 00 00 01 00 00")
    ∷ adds 1 4 no_boards 5 2 (hex "01 01 41 01 42 FF 09 09") 40 24 (hex "52 4D 01 00 00 01 00 00 00 00 00 05 02 00 00 08 01 01 41 01 42 FF 09 09")
    ∷ adds 1 1 no_boards 5 1 fboss_body 40 39 (hex "52 4D 01 00 00 01 00 00 00 00 00 05 01 00 00 17 FB FB 05 FF 01 01 41 08 01 05 09 01 00 0A 01 01 0B 01 42 FA 02 48 26")
    ∷ adds 1 4 no_boards 5 2 (hex "00 00 00 00 00 00 00 00 00 00 00 00 00 00 00 00 00 00 00 00 00 00 00 00 00 00 00 00 00 00 00 00 00 00 00 00 00 00 00 00 00 00 00 00 00 00 00 00 00 00 00 00 00 00 00 00 00 00 00 00 00 00 00 00 00 00 00 00 00 00 00 00 00 00 00 00 00 00 00 00 00 00 00 00 00 00 00 00 00 00 00 00 00 00 00 00 00 00 00 00 00 00 00 00 00 00 00 00 00 00 00 00 00 00 00 00 00 00 00 00 00 00 00 00 00 00 00 00 00 00 00 00 00 00 00 00 00 00 00 00 00 00 00 00 00 00 00 00 00 00 00 00 00 00 00 00 00 00 00 00 00 00 00 00 00 00 00 00 00 00 00 00 00 00 00 00 00 00 00 00 00 00 00 00 00 00 00 00 00 00 00 00 00 00 00 00 00 00 00 00 00 00 00 00 00 00 00 00 00 00 00 00 00 00 00 00 00 00 00 00 00 00 00 00 00 00 00 00 00 00 00 00 00 00 00 00 00 00 00 00 00 00 00 00 00 00 00 00 00 00 00 00 00 00 00 00 00 00") 280 274 (hex "52 4D 01 00 00 01 00 00 00 00 00 05 02 00 01 02 00 00 00 00 00 00 00 00 00 00 00 00 00 00 00 00 00 00 00 00 00 00 00 00 00 00 00 00 00 00 00 00 00 00 00 00 00 00 00 00 00 00 00 00 00 00 00 00 00 00 00 00 00 00 00 00 00 00 00 00 00 00 00 00 00 00 00 00 00 00 00 00 00 00 00 00 00 00 00 00 00 00 00 00 00 00 00 00 00 00 00 00 00 00 00 00 00 00 00 00 00 00 00 00 00 00 00 00 00 00 00 00 00 00 00 00 00 00 00 00 00 00 00 00 00 00 00 00 00 00 00 00 00 00 00 00 00 00 00 00 00 00 00 00 00 00 00 00 00 00 00 00 00 00 00 00 00 00 00 00 00 00 00 00 00 00 00 00 00 00 00 00 00 00 00 00 00 00 00 00 00 00 00 00 00 00 00 00 00 00 00 00 00 00 00 00 00 00 00 00 00 00 00 00 00 00 00 00 00 00 00 00 00 00 00 00 00 00 00 00 00 00 00 00 00 00 00 00 00 00 00 00 00 00 00 00 00 00 00 00 00 00 00 00 00 00 00 00 00 00 00 00 00 00 00 00 00 00")
    ∷ fetches 1 4 (hex "52 4D 01 00 00 02 00 00 00 00 00 05 02 00 01 02 00 00 00 06 03 00 00 04 00 00 00 00 00 00 00 00 00 00 00 00 00 00 00 00 00 00 00 00 00 00 00 00 00 00 00 00 00 00 00 00 00 00 00 00 00 00 00 00 00 00 00 00 00 00 00 00 00 00 00 00 00 00 00 00 00 00 00 00 00 00 00 00 00 00 00 00 00 00 00 00 00 00 00 00 00 00 00 00 00 00 00 00 00 00 00 00 00 00 00 00 00 00 00 00 00 00 00 00 00 00 00 00 00 00 00 00 00 00 00 00 00 00 00 00 00 00 00 00 00 00 00 00 00 00 00 00 00 00 00 00 00 00 00 00 00 00 00 00 00 00 00 00 00 00 00 00 00 00 00 00 00 00 00 00 00 00 00 00 00 00 00 00 00 00 00 00 00 00 00 00 00 00 00 00 00 00 00 00 00 00 00 00 00 00 00 00 00 00 00 00 00 00 00 00 00 00 00 00 00 00 00 00 00 00 00 00 00 00 00 00 00 00 00 00 00 00 00 00 00 00 00 00 00 00 00 00 00 00 00 00 00 00 00 00 00 00 00 00 00 00 00 00 00 00 00 00 00 00 00 00 00 00 00 00 00 00 56 02 04 6F") 6 (Ok (part_at 282 4))
    -- ---- replace: the format, too; first, middle, last, only
    ∷ replaces 1 4 one_board 5 3 tiny_body 24 20 (hex "52 4D 01 00 00 01 00 00 00 00 00 05 03 00 00 04 56 02 04 6F")
    ∷ replaces 1 4 three_boards 5 4 onie_body 80 54 (hex "52 4D 01 00 00 03 00 00 00 00 00 05 04 00 00 11 00 00 00 09 03 00 00 04 00 00 00 0C 02 00 00 01 54 6C 76 49 6E 66 6F 00 01 00 06 FE 04 D4 43 1C 18 56 02 04 6F 00")
    ∷ replaces 1 4 three_boards 9 2 vpd_entry 80 45 (hex "52 4D 01 00 00 03 00 00 00 00 00 05 02 00 00 06 00 00 00 09 02 00 00 06 00 00 00 0C 02 00 00 01 01 01 41 01 42 00 01 01 41 01 42 00 00")
    ∷ replaces 1 4 three_boards 12 3 tiny_body 80 46 (hex "52 4D 01 00 00 03 00 00 00 00 00 05 02 00 00 06 00 00 00 09 03 00 00 04 00 00 00 0C 03 00 00 04 01 01 41 01 42 00 56 02 04 6F 56 02 04 6F")
    ∷ replaces 1 4 three_boards 9 3 tiny_body 80 43 three_boards
    -- ---- remove: first, middle, last, only
    ∷ removes 1 4 three_boards 5 60 29 (hex "52 4D 01 00 00 02 00 00 00 00 00 09 03 00 00 04 00 00 00 0C 02 00 00 01 56 02 04 6F 00")
    ∷ removes 1 4 three_boards 9 60 31 (hex "52 4D 01 00 00 02 00 00 00 00 00 05 02 00 00 06 00 00 00 0C 02 00 00 01 01 01 41 01 42 00 00")
    ∷ removes 1 4 three_boards 12 60 34 (hex "52 4D 01 00 00 02 00 00 00 00 00 05 02 00 00 06 00 00 00 09 03 00 00 04 01 01 41 01 42 00 56 02 04 6F")
    ∷ removes 1 4 one_board 5 8 8 no_boards
    ∷ removes 1 4 one_board 5 17 8 no_boards
    -- ---- fetch: first, middle, last, only
    ∷ fetches 1 4 three_boards 5 (Ok (part_at 32 6))
    ∷ fetches 1 4 three_boards 9 (Ok (part_at 38 4))
    ∷ fetches 1 4 three_boards 12 (Ok (part_at 42 1))
    ∷ fetches 1 4 one_board 5 (Ok (part_at 16 1))
    ∷ fetches 1 4 (hex "52 4D 01 00 00 03 00 00 00 00 00 00 02 00 00 01 80 00 00 00 02 00 00 01 FF FF FF FF 03 00 00 04 00 00 56 02 04 6F") 0 (Ok (part_at 32 1))
    ∷ fetches 1 4 (hex "52 4D 01 00 00 03 00 00 00 00 00 00 02 00 00 01 80 00 00 00 02 00 00 01 FF FF FF FF 03 00 00 04 00 00 56 02 04 6F") 2147483648 (Ok (part_at 33 1))
    ∷ fetches 1 4 (hex "52 4D 01 00 00 03 00 00 00 00 00 00 02 00 00 01 80 00 00 00 02 00 00 01 FF FF FF FF 03 00 00 04 00 00 56 02 04 6F") 4294967295 (Ok (part_at 34 4))
    ∷ fetches 1 4 (hex "52 4D 01 00 00 02 00 00 00 00 00 05 02 00 00 08 00 00 00 06 02 00 00 01 01 01 41 01 42 FF 09 09 00") 6 (Ok (part_at 32 1))
    ∷ fetches 1 1 (hex "52 4D 01 00 00 02 00 00 00 00 00 05 01 00 00 17 00 00 00 07 02 00 00 01 FB FB 05 FF 01 01 41 08 01 05 09 01 00 0A 01 01 0B 01 42 FA 02 48 26 00") 7 (Ok (part_at 47 1))
    -- ---- 12 exactly where the new file does not fit: just enough, one short, none
    ∷ unadds 1 4 no_boards 5 2 vpd_body 16 (refusal 12 0)
    ∷ unadds 1 4 no_boards 5 2 vpd_body 0 (refusal 12 0)
    ∷ adds 1 4 one_board 6 2 vpd_body 26 26 (hex "52 4D 01 00 00 02 00 00 00 00 00 05 02 00 00 01 00 00 00 06 02 00 00 01 00 00")
    ∷ unadds 1 4 one_board 6 2 vpd_body 25 (refusal 12 0)
    ∷ replaces 1 4 one_board 5 3 tiny_body 20 20 (hex "52 4D 01 00 00 01 00 00 00 00 00 05 03 00 00 04 56 02 04 6F")
    ∷ unreplaces 1 4 one_board 5 3 tiny_body 19 (refusal 12 0)
    ∷ unremoves 1 4 one_board 5 7 (refusal 12 0)
    ∷ removes 1 4 two_boards 9 17 17 one_board
    ∷ unremoves 1 4 two_boards 9 16 (refusal 12 0)
    ∷ removes 1 4 two_boards 5 20 20 (hex "52 4D 01 00 00 01 00 00 00 00 00 09 03 00 00 04 56 02 04 6F")
    ∷ unremoves 1 4 two_boards 5 19 (refusal 12 0)
    -- ---- 21: the head
    ∷ fetches 1 4 (hex "51 4D 01 00 00 01 00 00 00 00 00 05 02 00 00 01 00") 5 (Err (refusal 21 0))
    ∷ fetches 1 4 (hex "52 4E 01 00 00 01 00 00 00 00 00 05 02 00 00 01 00") 5 (Err (refusal 21 0))
    ∷ fetches 1 4 (hex "52 4D 00 00 00 01 00 00 00 00 00 05 02 00 00 01 00") 5 (Err (refusal 21 0))
    ∷ fetches 1 4 (hex "52 4D 02 00 00 01 00 00 00 00 00 05 02 00 00 01 00") 5 (Err (refusal 21 0))
    ∷ fetches 1 4 (hex "52 4D 03 00 00 01 00 00 00 00 00 05 02 00 00 01 00") 5 (Err (refusal 21 0))
    ∷ fetches 1 4 (hex "52 4D 01 01 00 01 00 00 00 00 00 05 02 00 00 01 00") 5 (Err (refusal 21 0))
    ∷ fetches 1 4 (hex "52 4D 01 00 00 01 01 00 00 00 00 05 02 00 00 01 00") 5 (Err (refusal 21 0))
    ∷ fetches 1 4 (hex "52 4D 01 00 00 01 00 01 00 00 00 05 02 00 00 01 00") 5 (Err (refusal 21 0))
    ∷ fetches 1 4 (hex "52 4D 01 00 00 01 00 FF 00 00 00 05 02 00 00 01 00") 5 (Err (refusal 21 0))
    ∷ fetches 1 4 [] 5 (Err (refusal 21 0))
    ∷ fetches 1 4 (hex "52") 5 (Err (refusal 21 0))
    ∷ fetches 1 4 (hex "52 4D") 5 (Err (refusal 21 0))
    ∷ fetches 1 4 (hex "52 4D 01") 5 (Err (refusal 21 0))
    ∷ fetches 1 4 (hex "52 4D 01 00") 5 (Err (refusal 21 0))
    ∷ fetches 1 4 (hex "52 4D 01 00 00") 5 (Err (refusal 21 0))
    ∷ fetches 1 4 (hex "52 4D 01 00 00 01") 5 (Err (refusal 21 0))
    ∷ fetches 1 4 (hex "52 4D 01 00 00 01 00") 5 (Err (refusal 21 0))
    ∷ fetches 1 4 (hex "52 4D 01 00 00 01 00 00") 5 (Err (refusal 21 0))
    ∷ fetches 1 4 (hex "52 4D 01 00 00 01 00 00 00") 5 (Err (refusal 21 0))
    ∷ fetches 1 4 (hex "52 4D 01 00 00 01 00 00 00 00") 5 (Err (refusal 21 0))
    ∷ fetches 1 4 (hex "52 4D 01 00 00 01 00 00 00 00 00") 5 (Err (refusal 21 0))
    ∷ fetches 1 4 (hex "52 4D 01 00 00 01 00 00 00 00 00 05") 5 (Err (refusal 21 0))
    ∷ fetches 1 4 (hex "52 4D 01 00 00 01 00 00 00 00 00 05 02") 5 (Err (refusal 21 0))
    ∷ fetches 1 4 (hex "52 4D 01 00 00 01 00 00 00 00 00 05 02 00") 5 (Err (refusal 21 0))
    ∷ fetches 1 4 (hex "52 4D 01 00 00 01 00 00 00 00 00 05 02 00 00") 5 (Err (refusal 21 0))
    ∷ fetches 1 4 (hex "52 4D 01 00 00 01 00 00 00 00 00 05 02 00 00 01") 5 (Err (refusal 21 0))
    ∷ fetches 1 4 one_board 5 (Ok (part_at 16 1))
    ∷ unadds 1 4 (hex "52 4D 01 00 00 00 00") 5 2 vpd_body 20 (refusal 21 0)
    ∷ unadds 1 4 (hex "52 4D 01 00 00 00 00 00 00") 5 2 vpd_body 20 (refusal 21 0)
    ∷ unremoves 1 4 [] 5 20 (refusal 21 0)
    -- ---- 21: the told form, and the file's
    ∷ fetches 0 4 one_board 5 (Err (refusal 21 0))
    ∷ fetches 2 4 one_board 5 (Err (refusal 21 0))
    ∷ fetches 3 4 one_board 5 (Err (refusal 21 0))
    ∷ fetches 257 4 one_board 5 (Err (refusal 21 0))
    ∷ fetches 4294967295 4 one_board 5 (Err (refusal 21 0))
    ∷ fetches 2 4 (hex "52 4D 02 00 00 01 00 00 00 00 00 05 02 00 00 01 00") 5 (Err (refusal 21 0))
    ∷ fetches 0 4 (hex "52 4D 00 00 00 01 00 00 00 00 00 05 02 00 00 01 00") 5 (Err (refusal 21 0))
    ∷ unadds 2 4 no_boards 5 2 vpd_body 20 (refusal 21 0)
    ∷ unreplaces 2 4 one_board 5 2 vpd_body 20 (refusal 21 0)
    ∷ unremoves 2 4 one_board 5 20 (refusal 21 0)
    ∷ unadds 2 4 (hex "52 4D 02 00 00 00 00 00") 5 2 vpd_body 20 (refusal 21 0)
    -- ---- 21: the board count: one more and one less than the rows
    ∷ fetches 1 4 (hex "52 4D 01 00 00 02 00 00 00 00 00 05 02 00 00 01 00") 5 (Err (refusal 21 0))
    ∷ fetches 1 4 (hex "52 4D 01 00 00 00 00 00 00 00 00 05 02 00 00 01 00") 5 (Err (refusal 21 0))
    ∷ fetches 1 4 (hex "52 4D 01 00 01 01 00 00 00 00 00 05 02 00 00 01 00") 5 (Err (refusal 21 0))
    ∷ fetches 1 4 (hex "52 4D 01 00 00 01 00 00 00 00 00 05 02 00 00 01 00 00 00 09 03 00 00 04 00 56 02 04 6F") 5 (Err (refusal 21 0))
    ∷ fetches 1 4 (hex "52 4D 01 00 00 03 00 00 00 00 00 05 02 00 00 01 00 00 00 09 03 00 00 04 00 56 02 04 6F") 5 (Err (refusal 21 0))
    -- ---- 21: a row: its zero, its length, its number
    ∷ fetches 1 4 (hex "52 4D 01 00 00 01 00 00 00 00 00 05 02 01 00 01 00") 5 (Err (refusal 21 0))
    ∷ fetches 1 4 (hex "52 4D 01 00 00 02 00 00 00 00 00 05 02 00 00 01 00 00 00 09 03 FF 00 04 00 56 02 04 6F") 5 (Err (refusal 21 0))
    ∷ fetches 1 4 (hex "52 4D 01 00 00 01 00 00 00 00 00 05 02 00 00 00 00") 5 (Err (refusal 21 0))
    ∷ fetches 1 4 (hex "52 4D 01 00 00 01 00 00 00 00 00 05 02 00 00 02 00") 5 (Err (refusal 21 0))
    ∷ fetches 1 4 (hex "52 4D 01 00 00 01 00 00 00 00 00 05 02 00 01 01 00") 5 (Err (refusal 21 0))
    ∷ fetches 1 4 (hex "52 4D 01 00 00 02 00 00 00 00 00 05 02 00 00 00 00 00 00 06 02 00 00 01 00") 6 (Err (refusal 21 0))
    ∷ fetches 1 4 (hex "52 4D 01 00 00 02 00 00 00 00 00 05 02 00 00 00 00 00 00 06 02 00 00 01 00") 5 (Err (refusal 21 0))
    ∷ fetches 1 4 (hex "52 4D 01 00 00 02 00 00 00 00 00 05 02 00 00 01 00 00 00 05 03 00 00 04 00 56 02 04 6F") 5 (Err (refusal 21 0))
    ∷ fetches 1 4 (hex "52 4D 01 00 00 02 00 00 00 00 00 06 02 00 00 01 00 00 00 05 03 00 00 04 00 56 02 04 6F") 5 (Err (refusal 21 0))
    ∷ fetches 1 4 (hex "52 4D 01 00 00 02 00 00 00 00 00 05 02 00 00 01 00 00 00 06 03 00 00 04 00 56 02 04 6F") 6 (Ok (part_at 25 4))
    ∷ fetches 1 4 (hex "52 4D 01 00 00 02 00 00 80 00 00 00 02 00 00 01 7F FF FF FF 03 00 00 04 00 56 02 04 6F") 2147483647 (Err (refusal 21 0))
    ∷ fetches 1 4 (hex "52 4D 01 00 00 02 00 00 7F FF FF FF 02 00 00 01 80 00 00 00 03 00 00 04 00 56 02 04 6F") 2147483648 (Ok (part_at 25 4))
    ∷ fetches 1 4 (hex "52 4D 01 00 00 02 00 00 00 00 01 00 02 00 00 01 00 00 00 01 03 00 00 04 00 56 02 04 6F") 1 (Err (refusal 21 0))
    ∷ fetches 1 4 (hex "52 4D 01 00 00 02 00 00 00 00 00 01 02 00 00 01 00 00 01 00 03 00 00 04 00 56 02 04 6F") 256 (Ok (part_at 25 4))
    ∷ fetches 1 4 (hex "52 4D 01 00 00 02 00 00 FF FF FF FF 02 00 00 01 00 00 00 00 03 00 00 04 00 56 02 04 6F") 0 (Err (refusal 21 0))
    ∷ fetches 1 4 (hex "52 4D 01 00 00 02 00 00 00 00 00 00 02 00 00 01 00 00 00 00 03 00 00 04 00 56 02 04 6F") 0 (Err (refusal 21 0))
    ∷ fetches 1 4 (hex "52 4D 01 00 00 02 00 00 01 00 00 00 02 00 00 01 00 FF FF FF 03 00 00 04 00 56 02 04 6F") 16777215 (Err (refusal 21 0))
    ∷ fetches 1 4 (hex "52 4D 01 00 00 03 00 00 00 00 00 01 02 00 00 01 00 00 00 03 02 00 00 01 00 00 00 02 02 00 00 01 00 00 00") 2 (Err (refusal 21 0))
    ∷ fetches 1 4 (hex "52 4D 01 00 00 03 00 00 00 00 00 01 02 00 00 01 00 00 00 03 02 00 00 01 00 00 00 03 02 00 00 01 00 00 00") 3 (Err (refusal 21 0))
    -- ---- the order: 1, 2, 21, 22 and 23, the stored bodies' own, the new body's own, 12
    ∷ fetches 1 0 (hex "00 4D 01 00 00 01 00 00 00 00 00 05 02 00 00 01 00") 6 (Err (refusal 1 0))
    ∷ fetches 1 5 one_board 5 (Err (refusal 1 0))
    ∷ fetches 2 0 one_board 5 (Err (refusal 1 0))
    ∷ unadds 1 0 (hex "00 4D 01 00 00 00 00 00") 5 9 vpd_body 0 (refusal 1 0)
    ∷ unreplaces 1 5 one_board 6 2 vpd_body 20 (refusal 1 0)
    ∷ unremoves 1 4294967295 one_board 6 20 (refusal 1 0)
    ∷ fetches 1 4 (hex "52 4D 01 00 00 03 00 00 00 00 00 05 02 00 00 01 00 00 00 07 03 00 00 04 00 00 00 09 02 00 00 0A 00 56 02 04 70 01 01 41 01 42 01 01 41 00 00") 6 (Err (refusal 22 0))
    ∷ fetches 1 4 (hex "52 4D 01 00 00 03 00 00 00 00 00 05 02 00 00 01 00 00 00 07 03 00 00 04 00 00 00 09 02 00 00 0A 00 56 02 04 70 01 01 41 01 42 01 01 41 00 00") 5 (Err (refusal 10 36))
    ∷ fetches 1 4 (hex "52 4D 01 00 00 03 00 00 00 00 00 05 02 00 00 01 00 00 00 07 03 00 00 04 00 00 00 09 02 00 00 0A 00 56 02 04 70 01 01 41 01 42 01 01 41 00 00") 7 (Err (refusal 10 36))
    ∷ fetches 1 4 (hex "52 4D 01 00 00 03 00 00 00 00 00 05 02 00 00 01 00 00 00 07 03 00 00 04 00 00 00 09 02 00 00 0A 00 56 02 04 70 01 01 41 01 42 01 01 41 00 00") 9 (Err (refusal 10 36))
    ∷ fetches 1 4 (hex "52 4D 01 00 00 02 00 00 00 00 00 05 02 00 00 01 00 00 00 09 03 00 00 04 01 56 02 04 6F") 9 (Err (refusal 5 24))
    ∷ fetches 1 4 (hex "52 4D 01 00 00 02 00 00 00 00 00 05 02 00 00 01 00 00 00 09 02 00 00 0A 00 01 01 41 01 42 01 01 41 00 00") 5 (Err (refusal 8 30))
    ∷ fetches 1 4 (hex "52 4D 01 00 00 03 00 00 00 00 00 05 02 01 00 01 00 00 00 07 03 00 00 04 00 00 00 09 02 00 00 0A 00 56 02 04 70 01 01 41 01 42 01 01 41 00 00") 6 (Err (refusal 21 0))
    ∷ unadds 1 4 (hex "52 4D 01 00 00 03 00 00 00 00 00 05 02 00 00 01 00 00 00 07 03 00 00 04 00 00 00 09 02 00 00 0A 00 56 02 04 70 01 01 41 01 42 01 01 41 00 00") 7 2 vpd_body 99 (refusal 23 0)
    ∷ unadds 1 4 (hex "52 4D 01 00 00 03 00 00 00 00 00 05 02 00 00 01 00 00 00 07 03 00 00 04 00 00 00 09 02 00 00 0A 00 56 02 04 70 01 01 41 01 42 01 01 41 00 00") 8 2 vpd_body 99 (refusal 10 36)
    ∷ unadds 1 4 (hex "52 4D 01 00 00 02 00 00 00 00 00 05 02 00 00 01 00 00 00 09 02 00 00 0A 00 01 01 41 01 42 01 01 41 00 00") 8 2 vpd_body 99 (refusal 8 30)
    ∷ unadds 1 4 (hex "52 4D 01 00 00 02 00 00 00 00 00 05 02 00 00 01 00 00 00 09 02 00 00 0A 00 01 01 41 01 42 01 01 41 00 00") 8 2 (hex "01") 0 (refusal 8 30)
    ∷ unreplaces 1 4 (hex "52 4D 01 00 00 03 00 00 00 00 00 05 02 00 00 01 00 00 00 07 03 00 00 04 00 00 00 09 02 00 00 0A 00 56 02 04 70 01 01 41 01 42 01 01 41 00 00") 7 3 tiny_body 99 (refusal 10 36)
    ∷ unremoves 1 4 (hex "52 4D 01 00 00 03 00 00 00 00 00 05 02 00 00 01 00 00 00 07 03 00 00 04 00 00 00 09 02 00 00 0A 00 56 02 04 70 01 01 41 01 42 01 01 41 00 00") 7 99 (refusal 10 36)
    ∷ unremoves 1 4 (hex "52 4D 01 00 00 03 00 00 00 00 00 05 02 00 00 01 00 00 00 07 03 00 00 04 00 00 00 09 02 00 00 0A 00 56 02 04 70 01 01 41 01 42 01 01 41 00 00") 8 99 (refusal 22 0)
    ∷ unreplaces 1 4 (hex "52 4D 01 00 00 03 00 00 00 00 00 05 02 00 00 01 00 00 00 07 03 00 00 04 00 00 00 09 02 00 00 0A 00 56 02 04 70 01 01 41 01 42 01 01 41 00 00") 8 2 (hex "01") 0 (refusal 22 0)
    ∷ unremoves 1 4 (hex "52 4D 01 00 00 02 00 00 00 00 00 05 02 00 00 01 00 00 00 09 02 00 00 0A 00 01 01 41 01 42 01 01 41 00 00") 9 99 (refusal 8 30)
    ∷ unreplaces 1 4 (hex "52 4D 01 00 00 02 00 00 00 00 00 05 02 00 00 01 00 00 00 09 02 00 00 0A 00 01 01 41 01 42 01 01 41 00 00") 9 2 vpd_body 99 (refusal 8 30)
    ∷ unadds 1 4 two_boards 5 2 (hex "01") 0 (refusal 23 0)
    ∷ unadds 1 4 two_boards 6 2 (hex "01 01 41 01 42 01 01 41 00 00") 0 (refusal 8 5)
    ∷ unadds 1 4 two_boards 6 2 (hex "01 01 41 01 42 01 01 41 00 00") 99 (refusal 8 5)
    ∷ unadds 1 4 two_boards 6 3 (hex "56 02 04 70") 99 (refusal 10 3)
    ∷ unreplaces 1 4 two_boards 5 3 (hex "56 02 04 70") 99 (refusal 10 3)
    ∷ unreplaces 1 4 two_boards 6 3 (hex "56 02 04 70") 99 (refusal 22 0)
    ∷ unadds 1 4 two_boards 6 3 tiny_body 0 (refusal 12 0)
    ∷ unadds 1 4 (hex "00 4D 01 00 00 02 00 00 00 00 00 05 02 00 00 01 00 00 00 09 03 00 00 04 00 56 02 04 6F") 5 2 (hex "01") 0 (refusal 21 0)
    -- ---- a body's format: stored in a byte, new at full width
    ∷ fetches 1 4 (hex "52 4D 01 00 00 01 00 00 00 00 00 05 00 00 00 01 00") 5 (Err (refusal 16 16))
    ∷ fetches 1 4 (hex "52 4D 01 00 00 01 00 00 00 00 00 05 05 00 00 01 00") 5 (Err (refusal 16 16))
    ∷ fetches 1 4 (hex "52 4D 01 00 00 01 00 00 00 00 00 05 09 00 00 01 00") 5 (Err (refusal 16 16))
    ∷ fetches 1 4 (hex "52 4D 01 00 00 01 00 00 00 00 00 05 FF 00 00 01 00") 5 (Err (refusal 16 16))
    ∷ fetches 1 4 (hex "52 4D 01 00 00 02 00 00 00 00 00 04 02 00 00 01 00 00 00 05 09 00 00 01 00 00") 4 (Err (refusal 16 25))
    ∷ fetches 1 2 (hex "52 4D 01 00 00 01 00 00 00 00 00 05 04 00 00 11 54 6C 76 49 6E 66 6F 00 01 00 06 FE 04 D4 43 1C 18") 5 (Err (refusal 16 16))
    ∷ fetches 1 3 (hex "52 4D 01 00 00 01 00 00 00 00 00 05 04 00 00 11 54 6C 76 49 6E 66 6F 00 01 00 06 FE 04 D4 43 1C 18") 5 (Ok (part_at 16 17))
    ∷ fetches 1 1 (hex "52 4D 01 00 00 02 00 00 00 00 00 04 02 00 00 01 00 00 00 05 04 00 00 11 00 54 6C 76 49 6E 66 6F 00 01 00 06 FE 04 D4 43 1C 18") 4 (Err (refusal 16 25))
    ∷ unadds 1 4 one_board 6 0 vpd_body 99 (refusal 16 0)
    ∷ unadds 1 4 one_board 6 5 vpd_body 99 (refusal 16 0)
    ∷ unadds 1 4 one_board 6 9 vpd_body 99 (refusal 16 0)
    ∷ unadds 1 4 one_board 6 257 vpd_body 99 (refusal 16 0)
    ∷ unadds 1 4 one_board 6 258 vpd_body 99 (refusal 16 0)
    ∷ unadds 1 4 one_board 6 4294967295 vpd_body 99 (refusal 16 0)
    ∷ unadds 1 2 one_board 6 4 onie_body 99 (refusal 16 0)
    ∷ adds 1 3 one_board 6 4 onie_body 99 42 (hex "52 4D 01 00 00 02 00 00 00 00 00 05 02 00 00 01 00 00 00 06 04 00 00 11 00 54 6C 76 49 6E 66 6F 00 01 00 06 FE 04 D4 43 1C 18")
    ∷ unadds 1 4 one_board 6 2 [] 99 (refusal 5 0)
    ∷ unadds 1 4 one_board 6 3 [] 99 (refusal 3 0)
    ∷ unadds 1 4 one_board 6 9 [] 99 (refusal 16 0)
    ∷ unreplaces 1 4 one_board 5 1 [] 99 (refusal 3 0)
    -- ---- many boards: counts and numbers of two bytes
    ∷ fetches 1 4 (many 255) 254 (Ok (part_at 2302 1))
    ∷ fetches 1 4 (many 256) 255 (Ok (part_at 2311 1))
    ∷ fetches 1 4 (many 257) 256 (Ok (part_at 2320 1))
    ∷ fetches 1 4 (many 257) 0 (Ok (part_at 2064 1))
    ∷ fetches 1 4 (many 256) 256 (Err (refusal 22 0))
    ∷ heads (add_board 1 4 (many 255) 300 2 vpd_body (replicate 3000 7)).memory (hex "52 4D 01 00 01 00 00 00")
    ∷ heads (add_board 1 4 (many 257) 300 2 vpd_body (replicate 3000 7)).memory (hex "52 4D 01 00 01 02 00 00")
    ∷ heads (remove_board 1 4 (many 257) 3 (replicate 3000 7)).memory (hex "52 4D 01 00 01 00 00 00")
    ∷ answers (add_board 1 4 (many 255) 300 2 vpd_body (replicate 2312 7)).answer (Ok 2312)
    ∷ answers (add_board 1 4 (many 255) 300 2 vpd_body (replicate 2311 7)).answer (Err (refusal 12 0))
    -- ---- 2: the file and the output; a file of 65,536 bytes
    ∷ fetches 1 4 (replicate 65536 0) 5 (Err (refusal 21 0))
    ∷ fetches 1 4 (replicate 65537 0) 5 (Err (refusal 2 0))
    ∷ fetches 1 5 (replicate 65537 0) 5 (Err (refusal 1 0))
    ∷ answers (adding vpd_body 65536) (Ok 17)
    ∷ answers (adding vpd_body 65537) (Err (refusal 2 0))
    ∷ answers (remove_board 1 4 (replicate 65537 0) 5 (replicate 8 7)).answer (Err (refusal 2 0))
    ∷ answers (adding (replicate 65520 0) 65536) (Ok 65536)
    ∷ answers (adding (replicate 65521 0) 65536) (Err (refusal 12 0))
    ∷ answers (adding (replicate 65535 0) 65536) (Err (refusal 12 0))
    ∷ answers (adding (replicate 65536 0) 65536) (Err (refusal 12 0))
    ∷ answers (adding (replicate 65537 0) 65536) (Err (refusal 2 0))
    ∷ answers (add_board 1 4 no_boards 5 9 (replicate 65537 0) (replicate 20 7)).answer (Err (refusal 16 0))
    -- ---- rows: high byte first
    ∷ rows (board 0xFFFEFDFC 3 (replicate 259 0)) (hex "FF FE FD FC 03 00 01 03")
    ∷ rows (board 0x01020304 255 (replicate 65535 0)) (hex "01 02 03 04 FF 00 FF FF")
    ∷ []

pub every-case : map given cases ≡ map wanted cases
unfolding given
every-case = refl
