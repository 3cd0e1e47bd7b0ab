-- What the calls from C answer, and what the memory then is that they were lent (docs/C-INTERFACE.md).
-- Assumes nothing.
use Rattle.std.specs.Prelude.{ℕ, ◌+◌, ◌*◌, ◌/◌, ◌%◌, List, [], ◌∷◌, ◌++◌, length, take, drop, leb, Ok, Err}
use Rattle.layout.specs.declared.Entry.{Entry}
use Rattle.layout.specs.Answers.{Lookup}
use Rattle.layout.specs.declared.Refusal.{Refusal}
use Rattle.layout.specs.Bytes.{if, part_at, refusal}
use Rattle.layout.specs.Editions.{shape}
use Rattle.layout.specs.Read.{Read, accepted, refused, read_image}
use Rattle.layout.specs.Calls.{Step, told, told_refusal, told_checked, told_located, told_lookup, check_image, entries_of, entry_at, value_at, string_at, step_from}
use Rattle.layout.specs.Write.{word, fields_in, Outcome, write_image, told_made}
use Rattle.layout.specs.Edit.{edit_entry}
use Rattle.layout.specs.Add.{add_field}
use Rattle.layout.specs.Remove.{remove_entry}
use Rattle.blocks.specs.declared.Offsets.{Offsets}
use Rattle.blocks.specs.Answers.{Vended}
use Rattle.blocks.specs.Offset.{offsets_in}
use Rattle.blocks.specs.Vendor.{read_vendor, told_vended, pieces_in, write_vendor}
use Rattle.rooms.specs.Calls.{add_board, replace_board, remove_board, fetch_board}
use Rattle.records.specs.Packed.{packed}
use Rattle.records.specs.Words.{words_bytes, record_bytes, records_bytes, block_bytes}

-- an answer, and what the lent memory then is
pub record Given : Type 0 where
  pub answer : ℕ
  pub memory : List ℕ

abbrev pub kept : Refusal → List ℕ → Given
kept r m = record { answer = packed (told_refusal r); memory = m }

-- ---- calls that write nothing

abbrev pub check_call : ℕ → ℕ → List ℕ → ℕ
check_call f e img = packed (told_checked (check_image f e img))

abbrev pub value_call : ℕ → ℕ → List ℕ → ℕ → ℕ
value_call f e img n = packed (told_located (value_at f e img n))

abbrev pub string_call : ℕ → ℕ → List ℕ → ℕ → ℕ
string_call f e img number = packed (told_located (string_at f e img number))

-- ---- one record

-- the entry's record for an edition takes the place of the first 64 bytes; 12 where they are not there
abbrev pub recorded : ℕ → Lookup → List ℕ → Given
recorded e (Ok x) m =
    if (leb 64 (length m))
    (λ _. record { answer = packed (told_lookup (Ok x)); memory = record_bytes e x ++ drop 64 m })
    (λ _. kept (refusal 12 0) m)
recorded e (Err r) m = kept r m

unfoldable pub entry_call : ℕ → ℕ → List ℕ → ℕ → List ℕ → Given
entry_call f e img n m = recorded e (entry_at f e img n) m

-- ---- the walk's step

-- a walk in lent bytes: format, edition, and the entry number in two words. One that is cut short is read as format 0
abbrev pub walk_format : List ℕ → ℕ
walk_format w = if (leb 16 (length w)) (λ _. word 0 w) (λ _. 0)

abbrev pub walk_edition : List ℕ → ℕ
walk_edition w = if (leb 16 (length w)) (λ _. word 4 w) (λ _. 0)

abbrev pub walk_entry : List ℕ → ℕ
walk_entry w = if (leb 16 (length w)) (λ _. word 8 w + word 12 w * 4294967296) (λ _. 0)

-- the walk with another entry number
abbrev pub walk_at : List ℕ → ℕ → List ℕ
walk_at w n = take 8 w ++ (words_bytes (n ∷ n / 4294967296 ∷ []) ++ drop 16 w)

-- an answer, the walk and the record
pub record Moved : Type 0 where
  pub answer : ℕ
  pub walk : List ℕ
  pub memory : List ℕ

abbrev pub unmoved : Refusal → List ℕ → List ℕ → Moved
unmoved r w m = record { answer = packed (told_refusal r); walk = w; memory = m }

-- the walk has the entry number n where the step is not refused; the record is one for the walk's edition
abbrev pub stepped_to : Lookup → ℕ → List ℕ → List ℕ → Moved
stepped_to (Ok x) n w m =
    if (leb 64 (length m))
    (λ _. record { answer = packed (told_lookup (Ok x)); walk = walk_at w n; memory = record_bytes (walk_edition w) x ++ drop 64 m })
    (λ _. unmoved (refusal 12 0) w m)
stepped_to (Err r) n w m = unmoved r w m

abbrev pub stepped : Step → List ℕ → List ℕ → Moved
stepped s w m = stepped_to s.answer s.next w m

unfoldable pub step_call : List ℕ → List ℕ → List ℕ → Moved
step_call w img m = stepped (step_from (walk_format w) (walk_edition w) (walk_entry w) img) w m

-- ---- all records

-- the records take the place of the first bytes, 64 for each; 12 where there are too few
abbrev pub recorded_all : ℕ → List Entry → List ℕ → Given
recorded_all e es m =
    if (leb (length es) (length m / 64))
    (λ _. record { answer = packed (told (length es) (part_at 0 0) es); memory = records_bytes e es ++ drop (length es * 64) m })
    (λ _. kept (refusal 12 0) m)

abbrev pub recorded_by : Read → ℕ → List ℕ → Given
recorded_by (accepted f start rs) e m = recorded_all e (entries_of (shape f) e start rs) m
recorded_by (refused r) e m = kept r m

unfoldable pub list_call : ℕ → ℕ → List ℕ → List ℕ → Given
list_call f e img m = recorded_by (read_image f e img) e m

-- ---- write, edit, add and remove

abbrev pub made : Outcome → Given
made o = record { answer = packed (told_made o.answer); memory = o.memory }

abbrev pub write_call : ℕ → ℕ → List ℕ → List ℕ → List ℕ → Given
write_call f e fields values out = made (write_image f e (fields_in fields) values out)

abbrev pub edit_call : ℕ → ℕ → List ℕ → ℕ → List ℕ → List ℕ → Given
edit_call f e img n value out = made (edit_entry f e img n value out)

-- the field is the first one of the bytes that are lent for it
abbrev pub add_call : ℕ → ℕ → List ℕ → List ℕ → List ℕ → List ℕ → Given
add_call f e img field values out = made (add_field f e img (fields_in field) values out)

abbrev pub remove_call : ℕ → ℕ → List ℕ → ℕ → List ℕ → Given
remove_call f e img n out = made (remove_entry f e img n out)

-- ---- vendor blocks

-- an answer, the payload's buffer and the block
pub record VendorGiven : Type 0 where
  pub answer : ℕ
  pub payload : List ℕ
  pub block : List ℕ

abbrev pub ungiven : Refusal → List ℕ → List ℕ → VendorGiven
ungiven r payload m = record { answer = packed (told_refusal r); payload = payload; block = m }

-- what refuses a read where less than a block is lent: 12 at 0, after every other refusal
abbrev pub unlent : Vended → Refusal
unlent (Ok (n, b)) = refusal 12 0
unlent (Err r) = r

-- the block takes the place of the first 48 bytes
abbrev pub vendor_given : Vended → List ℕ → List ℕ → VendorGiven
vendor_given (Ok (n, b)) payload m = record { answer = packed (told_vended (Ok (n, b))); payload = payload; block = block_bytes b ++ drop 48 m }
vendor_given (Err r) payload m = ungiven r payload m

unfoldable pub vendor_read_call : ℕ → ℕ → List ℕ → List ℕ → List ℕ → VendorGiven
vendor_read_call f e img buffer m =
    if (leb 48 (length m))
    (λ _. vendor_given (read_vendor f e img buffer).answer (read_vendor f e img buffer).memory m)
    (λ _. ungiven (unlent (read_vendor f e img buffer).answer) buffer m)

-- offset k of a number of 64 bits is the signed byte in its bits 8k to 8k + 7
abbrev pub offsets_of : ℕ → Offsets
offsets_of n =
    offsets_in
    (n % 256
    ∷ n / 256 % 256
    ∷ n / 65536 % 256
    ∷ n / 16777216 % 256
    ∷ n / 4294967296 % 256
    ∷ n / 1099511627776 % 256
    ∷ n / 281474976710656 % 256
    ∷ n / 72057594037927936 % 256
    ∷ [])

abbrev pub vendor_write_call : ℕ → ℕ → List ℕ → ℕ → List ℕ → List ℕ → Given
vendor_write_call f e serial offsets pieces out = made (write_vendor f e serial (offsets_of offsets) (pieces_in pieces) out)

-- ---- machine-room files

abbrev pub room_add_call : ℕ → ℕ → List ℕ → ℕ → ℕ → List ℕ → List ℕ → Given
room_add_call form e file n f body out = made (add_board form e file n f body out)

abbrev pub room_replace_call : ℕ → ℕ → List ℕ → ℕ → ℕ → List ℕ → List ℕ → Given
room_replace_call form e file n f body out = made (replace_board form e file n f body out)

abbrev pub room_remove_call : ℕ → ℕ → List ℕ → ℕ → List ℕ → Given
room_remove_call form e file n out = made (remove_board form e file n out)

abbrev pub room_fetch_call : ℕ → ℕ → List ℕ → ℕ → ℕ
room_fetch_call form e file n = packed (told_located (fetch_board form e file n))
