-- How a machine-room file lies in its bytes, place by place (02, "Machine-room file"): all numbers high byte first. Said apart from the words that write and read it.
-- Assumes nothing.
use Rattle.std.specs.Prelude.{ℕ, zero, suc, ◌+◌, ◌*◌, ◌≡◌, List, [], ◌∷◌, length, get_or}
use Rattle.layout.specs.Bytes.{part}
use Rattle.rooms.specs.File.{Board}
use Rattle.rooms.specs.Grammar.{IsFile}
use Rattle.promises.specs.Words.{Item}

-- the byte at a place, and the number in two and in four bytes from it on
abbrev pub byte : List ℕ → ℕ → ℕ
byte file p = get_or file p 0

abbrev pub number2 : List ℕ → ℕ → ℕ
number2 file p = byte file p * 256 + byte file (p + 1)

abbrev pub number4 : List ℕ → ℕ → ℕ
number4 file p = byte file p * 16777216 + byte file (p + 1) * 65536 + byte file (p + 2) * 256 + byte file (p + 3)

-- the bytes of the bodies of the first k boards
abbrev pub bytes_before : List Board → ℕ → ℕ
bytes_before [] k = 0
bytes_before (b ∷ bs) zero = 0
bytes_before (b ∷ bs) (suc k) = length b.body + bytes_before bs k

pub record HeadLies (form : ℕ) (file : List ℕ) (bs : List Board) : Type 0 where
  pub magic : (byte file 0 ≡ 0x52) × (byte file 1 ≡ 0x4D)
  pub form_byte : byte file 2 ≡ form
  pub zeros : (byte file 3 ≡ 0) × (byte file 6 ≡ 0) × (byte file 7 ≡ 0)
  pub count : number2 file 4 ≡ length bs
  -- and no more
  pub ends : length file ≡ 8 + 8 * length bs + bytes_before bs (length bs)

-- row k, and the body that it tells of
pub record RowLies (file : List ℕ) (bs : List Board) (k : ℕ) (b : Board) : Type 0 where
  pub number : number4 file (8 + 8 * k) ≡ b.number
  pub format : byte file (8 + 8 * k + 4) ≡ b.format
  pub zero_byte : byte file (8 + 8 * k + 5) ≡ 0
  pub size : number2 file (8 + 8 * k + 6) ≡ length b.body
  pub body : part (8 + 8 * length bs + bytes_before bs k) (length b.body) file ≡ b.body

pub record RoomLies : Type 0 where
  pub front : (form : ℕ) (file : List ℕ) (bs : List Board) → IsFile form file bs → HeadLies form file bs
  pub row : (form : ℕ) (file : List ℕ) (bs : List Board) → IsFile form file bs → (k : ℕ) (b : Board) → Item bs k b → RowLies file bs k b
