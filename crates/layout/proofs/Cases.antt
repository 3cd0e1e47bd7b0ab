-- Worked cases: what a case is, what the definitions answer, and the cases that 01 marks P in "Both sides of each line", as one statement over a list.
-- The files Cases with a subject in their name have further lists, and one statement each.
-- Assumes nothing.
use Prim.Native.Nat.{ℕ, zero, suc, ◌+◌, ◌*◌, ◌-◌, ◌/◌, ◌%◌}
use Prim.Native.Char.{code}
use Prim.Native.String.{String}
use Prim.Native.String as S
use mathlib.Core.Path.{◌≡◌, refl}
use mathlib.Core.List.{List, [], ◌∷◌, ◌++◌, map}
use lib.ListN.{length, replicate}
use lib.Dec.{leb, eqb}
use Rattle.std.specs.Prelude.{Ok, Err}
use Rattle.crc.specs.Crc.{check16_of, check8_of, check32_of, mirror, check_of, byte_in, single_bit}
use Rattle.layout.specs.Answers.{Length, Checked, Lookup, Located, Made}
use Rattle.layout.specs.declared.Identity.{Identity}
use Rattle.layout.specs.declared.Reading.{Reading}
use Rattle.layout.specs.declared.Reading.TheVariants.{Plain, Number}
use Rattle.layout.specs.declared.Entry.{Entry}
use Rattle.layout.specs.declared.Field.{Field}
use Rattle.layout.specs.declared.Refusal.{Refusal}
use Rattle.layout.specs.Bytes.{if, all, one_of, same_bytes, part, high_first, place, string_number, part_at, refusal}
use Rattle.layout.specs.Calendar.{last_day, is_day, is_time}
use Rattle.layout.specs.Shape.{next, coded_head}
use Rattle.layout.specs.Fboss.{fboss, fboss_opened, date_rule, fboss_rule, fboss_reading}
use Rattle.layout.specs.Vpd.{vpd, groups, vpd_head, shortest, vpd_reader_key, vpd_writer_key, vpd_rule, vpd_twice}
use Rattle.layout.specs.Tiny.{tiny, tiny_opened, tiny_head, tiny_length, tiny_rule, tiny_reading}
use Rattle.layout.specs.Onie.{onie, onie_opened, onie_filled, onie_check, formed, onie_date_rule, onie_rule, onie_reading}
use Rattle.layout.specs.Editions.{chosen, since_in, names, kind}
use Rattle.layout.specs.Walk.{Content, content, walks, walk}
use Rattle.layout.specs.Read.{sealed, seen_before, reader_rule, fault, judge, complete, Read, accepted, refused, read_as, read_image}
use Rattle.layout.specs.Calls.{Listed, Step, entry_of, entries_of, entries_in, check_image, list_entries, nth, entry_at, bytes_at, verdict, value_at}
use Rattle.layout.specs.Calls.{step_from, string_in, pool_string, string_at, told_reading, Told}
use Rattle.layout.specs.Write.{items, fields_in, writer_rule, field_fault, judge_fields, entry_bytes, entries_bytes, image_of, put, write_as, write_image, Outcome}
use Rattle.layout.specs.Change.{laid, may_change, in_place, change_image}
use Rattle.layout.specs.Edit.{revalued, edit_rule, edit, edit_entry}
use Rattle.layout.specs.Add.{may_add, added_entries, addition, add_field}
use Rattle.layout.specs.Remove.{removal, remove_entry}

-- ---- bytes, in short

-- the bytes of a text
abbrev pub text : String → List ℕ
text S.[] = []
text (S.◌∷◌ c cs) = code c ∷ text cs

-- the number of a hexadecimal digit
abbrev pub hex_digit : ℕ → ℕ
hex_digit c = if (leb c 0x39) (λ _. c - 0x30) (λ _. c - 0x37)

-- the bytes that digits say, after the digit d; a d of 16 stands for none
abbrev pub hex_after : ℕ → String → List ℕ
hex_after d S.[] = []
hex_after d (S.◌∷◌ c cs) =
    if (eqb (code c) 0x20) (λ _. hex_after d cs)
    (λ _. if (eqb d 16) (λ _. hex_after (hex_digit (code c)) cs) (λ _. (d * 16 + hex_digit (code c)) ∷ hex_after 16 cs))

-- bytes as the papers show them, two digits each
abbrev pub hex : String → List ℕ
hex s = hex_after 16 s

-- n numbers from a on
abbrev pub count_from : ℕ → ℕ → List ℕ
count_from zero a = []
count_from (suc n) a = a ∷ count_from n (a + 1)

-- the numbers a to b
abbrev pub run : ℕ → ℕ → List ℕ
run a b = count_from (b + 1 - a) a

-- n numbers, four apart, from a on
abbrev pub fourths : ℕ → ℕ → List ℕ
fourths zero a = []
fourths (suc n) a = a ∷ fourths n (a + 4)

-- a number below 100 as two digits
abbrev pub digits : ℕ → List ℕ
digits n = (n / 10 + 0x30) ∷ (n % 10 + 0x30) ∷ []

-- a number as two bytes, high byte first
abbrev pub two : ℕ → List ℕ
two n = (n / 256) ∷ (n % 256) ∷ []

-- ---- images, in short

-- an FBOSS image of these bytes of entries, with this check stored
abbrev pub fboss_of : List ℕ → ℕ → List ℕ
fboss_of entries check = hex "FB FB 05 FF" ++ entries ++ hex "FA 02" ++ two check

-- the five required FBOSS entries: "A", 5, 0, 1 and "B". They have 15 bytes, so that the next entry stands at 19
abbrev pub five : List ℕ
five = hex "01 01 41 08 01 05 09 01 00 0A 01 01 0B 01 42"

-- an FBOSS image of the five required entries and one more, of this code and value, with this check stored
abbrev pub board_with : ℕ → List ℕ → ℕ → List ℕ
board_with c v check = fboss_of (five ++ (c ∷ length v ∷ v)) check

-- the five required entries and an address block, which edition 1 does not name
abbrev pub with_block : List ℕ
with_block = board_with 17 (hex "02 00 00 00 00 01 00 08") 0x2E97

-- a VPD image of one 01h with this key and no value
abbrev pub key_only : List ℕ → List ℕ
key_only key = 0x01 ∷ length key ∷ (key ++ hex "00 00")

-- 01's SKU image
abbrev pub sku : List ℕ
sku = hex "01 03 53 4B 55 02 41 37 00"

-- an entry named "lab.rack", with the value "R2"
abbrev pub lab_rack : List ℕ
lab_rack = hex "01 08 6C 61 62 2E 72 61 63 6B 02 52 32"

-- that entry, and one whose key is no text and has its length in two bytes; an end by FFh
abbrev pub two_names : List ℕ
two_names = lab_rack ++ hex "01 80 02 00 22 80 01 41 FF"

-- 01's image of one FEh with three bytes
abbrev pub three_bytes : List ℕ
three_bytes = hex "FE 01 41 03 01 02 03 00"

-- 01's Tiny image without entries
abbrev pub no_tags : List ℕ
no_tags = hex "56 02 04 6F"

-- ONIE's header, TlvInfo and a zero, 01h, and the declared length d, before these bytes
abbrev pub headed : ℕ → List ℕ → List ℕ
headed d s = hex "54 6C 76 49 6E 66 6F 00 01" ++ two d ++ s

-- an ONIE image that declares the length d, of these bytes of entries, with this check stored
abbrev pub onie_as : ℕ → List ℕ → List ℕ → List ℕ
onie_as d s check = headed d (s ++ hex "FE 04" ++ check)

-- an ONIE image of these bytes of entries, which declares the length that it has
abbrev pub onie_of : List ℕ → List ℕ → List ℕ
onie_of s check = onie_as (length s + 6) s check

-- the ONIE image without entries
abbrev pub no_entries : List ℕ
no_entries = hex "54 6C 76 49 6E 66 6F 00 01 00 06 FE 04 D4 43 1C 18"

-- ---- records, fields and answers, in short

-- an identity: serial, part, major, minor and two free bytes
abbrev pub named : ℕ → ℕ → ℕ → ℕ → ℕ → ℕ → Identity
named s p major minor a b = record { serial = string_number s; part = string_number p; major = major; minor = minor; free0 = a; free1 = b }

-- the record of an entry in a format without keys: code, kind, place and length of the whole frame, the value's place and length, and the reading
abbrev pub bare : ℕ → ℕ → ℕ → ℕ → ℕ → ℕ → Reading → Entry
bare c k p size v n reading = record { code = c; kind = k; place = place p; size = size; key = part_at v 0; value = part_at v n; reading = reading }

-- the record of a VPD entry: code, kind, place and length of the whole frame, the key's place and length, the value's
abbrev pub keyed : ℕ → ℕ → ℕ → ℕ → ℕ → ℕ → ℕ → ℕ → Entry
keyed c k p size a m v n = record { code = c; kind = k; place = place p; size = size; key = part_at a m; value = part_at v n; reading = Plain }

-- two records that no image has
abbrev pub old : Entry
old = bare 9 8 7 10 6 5 (Number 4)

abbrev pub older : Entry
older = keyed 1 2 3 11 4 5 6 7

-- what an entry without a key says
abbrev pub saying_bare : ℕ → List ℕ → Content
saying_bare c v = record { code = c; key = []; value = v }

-- any record, to be written over
abbrev pub blank : Entry
blank = bare 0 0 0 0 0 0 Plain

-- a field without a key: code, and the value's place and length
abbrev pub field : ℕ → ℕ → ℕ → Field
field c v n = record { code = c; key = part_at 0 0; value = part_at v n }

-- a field with a key: code, the key's place and length, the value's
abbrev pub keyed_field : ℕ → ℕ → ℕ → ℕ → ℕ → Field
keyed_field c a m v n = record { code = c; key = part_at a m; value = part_at v n }

abbrev pub refuses : ℕ → ℕ → Checked
refuses n p = Err (refusal n p)

abbrev pub misses : ℕ → ℕ → Lookup
misses n p = Err (refusal n p)

abbrev pub nowhere : ℕ → ℕ → Located
nowhere n p = Err (refusal n p)

abbrev pub unwritten : ℕ → ℕ → Made
unwritten n p = Err (refusal n p)

-- ---- the number of a call alone, 0 where nothing is refused, for cases over many numbers

abbrev pub checked_number : Checked → ℕ
checked_number (Ok n) = 0
checked_number (Err r) = r.number

abbrev pub made_number : Made → ℕ
made_number (Ok n) = 0
made_number (Err r) = r.number

-- of the check of an image
abbrev pub checking : ℕ → ℕ → List ℕ → ℕ
checking f e image = checked_number (check_image f e image)

-- of a write of one field with this code and value, and an empty key, into no bytes. Where nothing is wrong with the field it is 11 in FBOSS, where four are missing, and else 12
abbrev pub writing : ℕ → ℕ → ℕ → List ℕ → ℕ
writing f e c v = made_number (write_image f e (field c 0 (length v) ∷ []) v []).answer

-- of a write of one VPD field of type 01h with this key, and no value, into no bytes: 12 where nothing is wrong with it
abbrev pub writing_key : ℕ → List ℕ → ℕ
writing_key e key = made_number (write_image 2 e (keyed_field 0x01 0 (length key) 0 0 ∷ []) key []).answer

-- of a write of one VPD field of type 01h, with the key "A" and a value of n bytes, into so many bytes
abbrev pub writing_long : ℕ → ℕ → ℕ
writing_long n room = made_number (write_image 2 1 (keyed_field 0x01 0 1 0 n ∷ []) (replicate n 0x41) (replicate room 0)).answer

-- of a write of one field with this code, and a value that is not inside the lent values: 13 where the edition names the code, and 14 where it does not
abbrev pub naming : ℕ → ℕ → ℕ → ℕ
naming f e c = made_number (write_image f e (field c 1 0 ∷ []) [] []).answer

-- of an edit of entry n to this value, into no bytes: 12 where nothing is wrong with it
abbrev pub editing : ℕ → ℕ → List ℕ → ℕ → List ℕ → ℕ
editing f e image n v = made_number (edit_entry f e image n v []).answer

-- of k numbers from i on, those for which the question has this answer
abbrev pub those : ℕ → ℕ → (ℕ → ℕ) → ℕ → List ℕ
those zero i question answer = []
those (suc k) i question answer =
    if (eqb (question i) answer) (λ _. i ∷ those k (i + 1) question answer) (λ _. those k (i + 1) question answer)

-- what an image says
abbrev pub contents_read : Read → List Content
contents_read (accepted f start rs) = map content rs
contents_read (refused r) = []

-- ---- cases

-- a question, with the answer that it must have
pub data Case : Type 0 where
  -- the check of 16, 8 or 32 bits over bytes
  check16 check8 check32 : (s : List ℕ) (answer : ℕ) → Case
  -- a VPD length and the place after it
  lengths : (s : List ℕ) (answer : Length) → Case
  -- the shortest bytes that say a VPD length
  shortests : (n : ℕ) (answer : List ℕ) → Case
  -- the check of an image
  checks : (format edition : ℕ) (image : List ℕ) (answer : Checked) → Case
  -- the check of an image, alike in editions 1 to 4
  alike : (format : ℕ) (image : List ℕ) (answer : Checked) → Case
  -- the number that a call gives, 0 where nothing is refused
  numbers : (n : ℕ) (answer : ℕ) → Case
  -- the numbers below a bound for which a call gives this number
  sweeps : (bound : ℕ) (question : ℕ → ℕ) (number : ℕ) (answer : List ℕ) → Case
  -- the list, with room for just these records
  lists : (format edition : ℕ) (image : List ℕ) (records : List Entry) → Case
  -- the list into these records: the answer, and the records after it
  fills : (format edition : ℕ) (image : List ℕ) (lent : List Entry) (answer : Checked) (records : List Entry) → Case
  -- 01's term "list"
  entries : (format edition : ℕ) (image : List ℕ) (records : List Entry) → Case
  -- entry n
  finds : (format edition : ℕ) (image : List ℕ) (n : ℕ) (answer : Lookup) → Case
  -- the place of the value of entry n, and its bytes
  values : (format edition : ℕ) (image : List ℕ) (n : ℕ) (answer : Located) (bytes : List ℕ) → Case
  -- a string of the pool, and its bytes
  strings : (format edition : ℕ) (image : List ℕ) (number : ℕ) (answer : Located) (bytes : List ℕ) → Case
  -- a walk's step, and the entry number of the walk that it hands back
  steps : (format edition n : ℕ) (image : List ℕ) (answer : Lookup) (back : ℕ) → Case
  -- the fields that lie in lent bytes
  lies : (s : List ℕ) (answer : List Field) → Case
  -- a write, an edit, an addition and a removal: the answer, and the output
  writes : (format edition : ℕ) (fields : List Field) (values out : List ℕ) (answer : Made) (memory : List ℕ) → Case
  edits : (format edition : ℕ) (image : List ℕ) (n : ℕ) (value out : List ℕ) (answer : Made) (memory : List ℕ) → Case
  adds : (format edition : ℕ) (image : List ℕ) (fields : List Field) (values out : List ℕ) (answer : Made) (memory : List ℕ) → Case
  removes : (format edition : ℕ) (image : List ℕ) (n : ℕ) (out : List ℕ) (answer : Made) (memory : List ℕ) → Case
  -- the same into an output of so many zeros, that is refused: the output stays
  unwrites : (format edition : ℕ) (fields : List Field) (values : List ℕ) (room : ℕ) (answer : Refusal) → Case
  unedits : (format edition : ℕ) (image : List ℕ) (n : ℕ) (value : List ℕ) (room : ℕ) (answer : Refusal) → Case
  unadds : (format edition : ℕ) (image : List ℕ) (fields : List Field) (values : List ℕ) (room : ℕ) (answer : Refusal) → Case
  unremoves : (format edition : ℕ) (image : List ℕ) (n : ℕ) (room : ℕ) (answer : Refusal) → Case
  -- a write into so many bytes, and what the same edition reads there
  rounds : (format edition : ℕ) (fields : List Field) (values : List ℕ) (room : ℕ) (answer : List Content) → Case
  -- what a reading says, as numbers
  says : (reading : Reading) (answer : List ℕ) → Case
  -- what an answer says
  tells : (said answer : Told) → Case
  -- number and place of a call that gives a part, and the part's bytes in an image
  settles : (located : Located) (answer : Refusal) → Case
  shows : (image : List ℕ) (located : Located) (answer : List ℕ) → Case

-- an answer of any call
pub data Answer : Type 0 where
  number : ℕ → Answer
  length-read : Length → Answer
  bytes : List ℕ → Answer
  checked : Checked → Answer
  alike-checked : Checked → Checked → Checked → Checked → Answer
  listed : Listed → Answer
  records : List Entry → Answer
  looked-up : Lookup → Answer
  located : Located → List ℕ → Answer
  stepped : Step → Answer
  fields : List Field → Answer
  outcome : Outcome → Answer
  contents : List Content → Answer
  said : Told → Answer
  settled : Refusal → Answer

-- what the definitions answer
unfoldable pub given : Case → Answer
unfolding check16_of check8_of check32_of mirror check_of byte_in single_bit all one_of same_bytes part high_first next
    coded_head last_day is_day is_time fboss fboss_opened date_rule fboss_rule fboss_reading
    vpd groups vpd_head shortest vpd_reader_key vpd_writer_key vpd_rule vpd_twice
    tiny tiny_opened tiny_head tiny_length tiny_rule tiny_reading
    onie onie_opened onie_filled onie_check formed onie_date_rule onie_rule onie_reading
    chosen since_in names kind content walks walk sealed seen_before reader_rule fault judge complete read_as read_image
    entry_of entries_of entries_in check_image list_entries nth entry_at value_at step_from string_in pool_string string_at told_reading
    items fields_in writer_rule field_fault judge_fields entry_bytes entries_bytes image_of put write_as write_image
    laid may_change in_place change_image revalued edit_rule edit may_add added_entries addition removal
given (check16 s answer) = number (check16_of s)
given (check8 s answer) = number (check8_of 0 s)
given (check32 s answer) = number (check32_of s)
given (lengths s answer) = length-read (groups 4 0 0 s)
given (shortests n answer) = bytes (shortest n)
given (checks f e image answer) = checked (check_image f e image)
given (alike f image answer) = alike-checked (check_image f 1 image) (check_image f 2 image) (check_image f 3 image) (check_image f 4 image)
given (numbers n answer) = number n
given (sweeps bound question n answer) = bytes (those bound 0 question n)
given (lists f e image rs) = listed (list_entries f e image (replicate (length rs) blank))
given (fills f e image lent answer rs) = listed (list_entries f e image lent)
given (entries f e image rs) = records (entries_in f e image)
given (finds f e image n answer) = looked-up (entry_at f e image n)
given (values f e image n answer s) = located (value_at f e image n) (bytes_at image (value_at f e image n))
given (strings f e image n answer s) = located (string_at f e image n) (bytes_at image (string_at f e image n))
given (steps f e n image answer back) = stepped (step_from f e n image)
given (lies s answer) = fields (fields_in s)
given (writes f e xs lent out answer memory) = outcome (write_image f e xs lent out)
given (edits f e image n v out answer memory) = outcome (edit_entry f e image n v out)
given (adds f e image xs lent out answer memory) = outcome (add_field f e image xs lent out)
given (removes f e image n out answer memory) = outcome (remove_entry f e image n out)
given (unwrites f e xs lent room answer) = outcome (write_image f e xs lent (replicate room 0))
given (unedits f e image n v room answer) = outcome (edit_entry f e image n v (replicate room 0))
given (unadds f e image xs lent room answer) = outcome (add_field f e image xs lent (replicate room 0))
given (unremoves f e image n room answer) = outcome (remove_entry f e image n (replicate room 0))
given (rounds f e xs lent room answer) = contents (contents_read (read_image f e (write_image f e xs lent (replicate room 0)).memory))
given (says x answer) = bytes (told_reading x)
given (tells t answer) = said t
given (settles x answer) = settled (verdict x)
given (shows image x answer) = bytes (bytes_at image x)

-- what they must answer
abbrev pub wanted : Case → Answer
wanted (check16 s answer) = number answer
wanted (check8 s answer) = number answer
wanted (check32 s answer) = number answer
wanted (lengths s answer) = length-read answer
wanted (shortests n answer) = bytes answer
wanted (checks f e image answer) = checked answer
wanted (alike f image answer) = alike-checked answer answer answer answer
wanted (numbers n answer) = number answer
wanted (sweeps bound question n answer) = bytes answer
wanted (lists f e image rs) = listed (record { answer = Ok (length rs); records = rs })
wanted (fills f e image lent answer rs) = listed (record { answer = answer; records = rs })
wanted (entries f e image rs) = records rs
wanted (finds f e image n answer) = looked-up answer
wanted (values f e image n answer s) = located answer s
wanted (strings f e image n answer s) = located answer s
wanted (steps f e n image answer back) = stepped (record { answer = answer; next = back })
wanted (lies s answer) = fields answer
wanted (writes f e xs lent out answer memory) = outcome (record { answer = answer; memory = memory })
wanted (edits f e image n v out answer memory) = outcome (record { answer = answer; memory = memory })
wanted (adds f e image xs lent out answer memory) = outcome (record { answer = answer; memory = memory })
wanted (removes f e image n out answer memory) = outcome (record { answer = answer; memory = memory })
wanted (unwrites f e xs lent room answer) = outcome (record { answer = Err answer; memory = replicate room 0 })
wanted (unedits f e image n v room answer) = outcome (record { answer = Err answer; memory = replicate room 0 })
wanted (unadds f e image xs lent room answer) = outcome (record { answer = Err answer; memory = replicate room 0 })
wanted (unremoves f e image n room answer) = outcome (record { answer = Err answer; memory = replicate room 0 })
wanted (rounds f e xs lent room answer) = contents answer
wanted (says x answer) = bytes answer
wanted (tells t answer) = said answer
wanted (settles x answer) = settled answer
wanted (shows image x answer) = bytes answer

-- ---- the cases that 01 marks P, each in every edition where there is one

abbrev pub cases : List Case
cases =
    -- P: check of no bytes is 1D0Fh; of "A", 9479h; of "123456789", E5CCh
    check16 [] 0x1D0F
    ∷ check16 (text "A") 0x9479
    ∷ check16 (text "123456789") 0xE5CC
    -- P: lengths 84 82 01 read 65,793
    ∷ lengths (hex "84 82 01") (Ok (65793, 3))
    -- P: FBOSS FB FB 05 FF alone: 5 at 4. With 04 as version: 4
    ∷ alike 1 (hex "FB FB 05 FF") (refuses 5 4)
    ∷ alike 1 (hex "FB FB 04 FF") (refuses 4 0)
    -- P: 01 03 53 4B 55 02 41 37 00: one entry, kind 513
    ∷ alike 2 (hex "01 03 53 4B 55 02 41 37 00") (Ok 1)
    ∷ lists 2 1 sku (keyed 0x01 513 0 8 2 3 6 2 ∷ [])
    ∷ lists 2 2 sku (keyed 0x01 513 0 8 2 3 6 2 ∷ [])
    ∷ lists 2 3 sku (keyed 0x01 513 0 8 2 3 6 2 ∷ [])
    -- P: 01 00 00 00: 7 at 0. 01 80 80 80 80: 6 at 0. 01 80 01 41 00 00: accepted, value at 5, length 0
    ∷ alike 2 (hex "01 00 00 00") (refuses 7 0)
    ∷ alike 2 (hex "01 80 80 80 80") (refuses 6 0)
    ∷ alike 2 (hex "01 80 01 41 00 00") (Ok 1)
    ∷ finds 2 1 (hex "01 80 01 41 00 00") 0 (Ok (keyed 0x01 513 0 5 3 1 5 0))
    ∷ finds 2 2 (hex "01 80 01 41 00 00") 0 (Ok (keyed 0x01 513 0 5 3 1 5 0))
    ∷ finds 2 3 (hex "01 80 01 41 00 00") 0 (Ok (keyed 0x01 513 0 5 3 1 5 0))
    -- P: 01 01 41 00 01 01 41 00 00: 8 at 4
    ∷ alike 2 (hex "01 01 41 00 01 01 41 00 00") (refuses 8 4)
    -- P: FE 01 41 03 01 02 03 00: edition 1 accepts, kind 0; edition 2 gives 7 at 0, and so does edition 3
    ∷ checks 2 1 (hex "FE 01 41 03 01 02 03 00") (Ok 1)
    ∷ finds 2 1 (hex "FE 01 41 03 01 02 03 00") 0 (Ok (keyed 0xFE 0 0 7 2 1 4 3))
    ∷ checks 2 2 (hex "FE 01 41 03 01 02 03 00") (refuses 7 0)
    ∷ checks 2 3 (hex "FE 01 41 03 01 02 03 00") (refuses 7 0)
    ∷ finds 2 2 (hex "FE 01 41 03 01 02 03 00") 0 (misses 7 0)
    ∷ finds 2 3 (hex "FE 01 41 03 01 02 03 00") 0 (misses 7 0)
    -- P: Tiny 56 02 04 6F: no entries. Last byte 6E: 10 at 3. 56 02 03: 5 at 2
    ∷ alike 3 (hex "56 02 04 6F") (Ok 0)
    ∷ lists 3 1 (hex "56 02 04 6F") []
    ∷ lists 3 2 (hex "56 02 04 6F") []
    ∷ lists 3 3 (hex "56 02 04 6F") []
    ∷ alike 3 (hex "56 02 04 6E") (refuses 10 3)
    ∷ alike 3 (hex "56 02 03") (refuses 5 2)
    ∷ []

pub every-case : map given cases ≡ map wanted cases
unfolding given
every-case = refl
