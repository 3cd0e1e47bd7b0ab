-- Promise 2, the list: one record for each entry, in image order; the records tile the image from the header to the end of the entries, where the closing stands. First byte
-- plus length of the whole frame of a record is the first byte of the next, and of the last one where the end begins.
-- Assumes nothing.
use Rattle.std.specs.Prelude.{ℕ, ◌+◌, ◌-◌, ◌≤◌, ◌<◌, ◌≡◌, List, ◌++◌, ◌⊎◌, length, get_or, take, drop}
use Rattle.crc.specs.Crc.{check8_of}
use Rattle.layout.specs.declared.Format.{Format}
use Rattle.layout.specs.declared.Entry.{Entry}
use Rattle.layout.specs.declared.Field.{Field}
use Rattle.layout.specs.declared.Format.TheVariants.{Fboss, Vpd, Tiny, Onie}
use Rattle.layout.specs.Bytes.{part, part_at}
use Rattle.layout.specs.Editions.{shape}
use Rattle.laws.specs.Contents.{said, Tiles}
use Rattle.layout.specs.Each.{Each}
use Rattle.laws.specs.Grammar.{grammar, EntryOf}
use Rattle.promises.specs.Words.{Serves, Counts, Lists, tells_check, Changes, tells_change, edits, adds, removes}

-- a record's bytes, from its place on and as many as its frame has, are an entry of the grammar that says what the record says; without keys the key has length 0 and stands at the value's place
pub record Tile (format : Format) (image : List ℕ) (x : Entry) : Type 0 where
  pub entry : EntryOf (grammar format) (part x.place.0 x.size image) (said image x)
  pub keyless : (format ≡ Vpd → ⊥) → x.key ≡ part_at x.value.place.0 0

-- the byte with which the end begins, in an image that has these bytes before it: FBOSS's code 250, VPD's end byte, Tiny's check byte, ONIE's FEh
abbrev pub EndByte : Format → List ℕ → ℕ → Type 0
EndByte Fboss before b = b ≡ 250
EndByte Vpd before b = (b ≡ 0x00) ⊎ (b ≡ 0xFF)
EndByte Tiny before b = b ≡ check8_of 0 before
EndByte Onie before b = b ≡ 0xFE

-- the end of an image stands at q: its first byte is as above, and from q on stand what closes the entries, where anything does, and the right check
pub record EndsAt (format : Format) (image : List ℕ) (q : ℕ) : Type 0 where
  pub inside : q < length image
  pub byte : EndByte format (take q image) (get_or image q 0)
  pub closing : List ℕ
  pub rest : List ℕ
  pub closes : (grammar format).Closing closing
  pub ends : drop q image ≡ closing ++ ((shape format).check (take q image) ++ rest)

-- the list of an accepted image with n entries, whose header ends at `start` and whose entries end at `end`
pub record ListOf (f e : ℕ) (image : List ℕ) (n : ℕ) : Type 0 where
  pub format : Format
  pub serves : Serves f e format
  pub entries : List Entry
  pub counted : length entries ≡ n
  pub listed : Lists f e image entries
  pub start : ℕ
  pub end : ℕ
  pub headed : take start image ≡ (shape format).header (end - start)
  pub tiled : Tiles start entries end
  pub each : Each (Tile format image) entries
  pub closed : EndsAt format image end

-- of every image that an edition accepts
abbrev pub Listing : Type 0
Listing = (f e : ℕ) (image : List ℕ) (n : ℕ) → Counts (tells_check f e image) n → ListOf f e image n

-- and after every change, by the same edition or an older one: of the whole output, and of its part up to the length given, with so many entries where the image had `count`
abbrev pub ListedAfter : Changes → (ℕ → ℕ) → Type 0
ListedAfter call after =
    (f o n : ℕ) (image : List ℕ) (count : ℕ) (out : List ℕ) (m : ℕ) → o ≤ n → Counts (tells_check f n image) count → Counts (tells_change call f o image out) m →
    let output = (call f o image out).memory in ListOf f n output (after count) × ListOf f n (take m output) (after count)

-- an edit leaves as many entries, an addition one more, a removal one less
pub record ListingAfterChanges : Type 0 where
  pub edited : (i : ℕ) (v : List ℕ) → ListedAfter (edits i v) (λ n. n)
  pub added : (fields : List Field) (values : List ℕ) → ListedAfter (adds fields values) (λ n. n + 1)
  pub removed : (i : ℕ) → ListedAfter (removes i) (λ n. n - 1)
