-- What the definitions write is what is written: the bytes of an image and of its entries, and how many they are.
-- Assumes nothing.
use Prim.Native.Nat.{ℕ, ◌+◌, ◌*◌, ◌/◌, ◌%◌, ◌≤◌}
use mathlib.Core.Path.{◌≡◌, refl}
use mathlib.Core.List.{List, [], ◌∷◌, ◌++◌}
use mathlib.Core.Bool.{Bool, true, false}
use native.Mathlib.Omega.{arith}
use lib.ListN.{length, length-append}
use lib.Dec.{ltb}
use Rattle.crc.specs.Crc.{check16_of, check32_of}
use Rattle.layout.specs.declared.Format.{Format}
use Rattle.layout.specs.declared.Format.TheVariants.{Fboss, Vpd, Tiny, Onie}
use Rattle.layout.specs.Bytes.{if}
use Rattle.layout.specs.Fboss.{fboss}
use Rattle.layout.specs.Vpd.{vpd, shortest}
use Rattle.layout.specs.Tiny.{tiny}
use Rattle.layout.specs.Onie.{onie, onie_check}
use Rattle.layout.specs.Editions.{shape, names}
use Rattle.layout.specs.Walk.{Content}
use Rattle.layout.specs.Read.{limit}
use Rattle.layout.specs.Write.{writer_rule, entry_bytes, entries_bytes, image_of}
use Rattle.laws.proofs.Writing.{Writable, writer-parts, fresh-fits}
use Rattle.laws.proofs.Formats.{laws}
use Rattle.promises.specs.Written.{Written, fboss as fbossWritten, vpd as vpdWritten, tiny as tinyWritten, onie as onieWritten, ShortLength, ShortEntry, ShortEntries, none, also, vpd_bytes, length_size, key_size, entries_size, header_size, end_size, Fits}

-- ---- how long it is

shortest-size : (n : ℕ) → length (shortest n) ≡ vpd_bytes n
unfolding shortest
shortest-size n = go (ltb n 128) (ltb n 16384) (ltb n 2097152)
  where
    go : (a b c : Bool) →
        length
        (if a (λ _. n ∷ [])
        (λ _. if b (λ _. (128 + n / 128) ∷ (n % 128) ∷ [])
        (λ _. if c (λ _. (128 + n / 16384) ∷ (128 + n / 128 % 128) ∷ (n % 128) ∷ [])
        (λ _. (128 + n / 2097152) ∷ (128 + n / 16384 % 128) ∷ (128 + n / 128 % 128) ∷ (n % 128) ∷ []))))
        ≡ if {A = ℕ} a (λ _. 1) (λ _. if b (λ _. 2) (λ _. if c (λ _. 3) (λ _. 4)))
    go true b c = refl
    go false true c = refl
    go false false true = refl
    go false false false = refl

pub lens-size : (g : Format) (c n : ℕ) → length ((shape g).lens c n) ≡ length_size g c n
unfolding fboss vpd tiny onie
lens-size Fboss c n = refl
lens-size Vpd c n = shortest-size n
lens-size Tiny c n = go (ltb c 16)
  where
    go : (b : Bool) → length (if b (λ _. n ∷ []) (λ _. [])) ≡ if {A = ℕ} b (λ _. 1) (λ _. 0)
    go true = refl
    go false = refl
lens-size Onie c n = refl

opening-size : (g : Format) (c : ℕ) (key : List ℕ) → length ((shape g).opening c key) ≡ 1 + key_size g key
unfolding fboss vpd tiny onie
opening-size Fboss c key = refl
opening-size Vpd c key = omega (arith, length-append (shortest (length key)) key, shortest-size (length key))
opening-size Tiny c key = refl
opening-size Onie c key = refl

pub entry-size : (g : Format) (c : Content) →
    length (entry_bytes (shape g) c) ≡ 1 + key_size g c.key + length_size g c.code (length c.value) + length c.value
unfolding entry_bytes
entry-size g c =
    let o : List ℕ = (shape g).opening c.code c.key in
    let l : List ℕ = (shape g).lens c.code (length c.value) in
    omega (arith, length-append o (l ++ c.value), length-append l c.value, opening-size g c.code c.key, lens-size g c.code (length c.value))

pub entries-size : (g : Format) (cs : List Content) → length (entries_bytes (shape g) cs) ≡ entries_size g cs
unfolding entries_bytes
entries-size g [] = refl
entries-size g (c ∷ cs) =
    omega (arith, length-append (entry_bytes (shape g) c) (entries_bytes (shape g) cs), entry-size g c, entries-size g cs)

pub image-size : (g : Format) (entries : List ℕ) → length (image_of (shape g) entries) ≡ header_size g + length entries + end_size g
unfolding image_of fboss vpd tiny onie onie_check
image-size Fboss entries = simp length-append (omega arith)
image-size Vpd entries = simp length-append (omega arith)
image-size Tiny entries = simp length-append (omega arith)
image-size Onie entries = simp length-append (omega arith)

-- ---- what fits an output

-- it is no longer than its format allows
pub fits-allowed : (g : Format) (size : ℕ) (out : List ℕ) → length out ≤ limit → Fits g size out → size ≤ (shape g).most
unfolding fboss vpd tiny onie
fits-allowed Fboss size out short f = omega (arith, f.room)
fits-allowed Vpd size out short f = omega (arith, f.room)
fits-allowed Tiny size out short f = f.total refl
fits-allowed Onie size out short f = f.declared refl

-- and what is no longer than the format allows and the output fits
pub allowed-fits : (g : Format) (size : ℕ) (out : List ℕ) → size ≤ (shape g).most → size ≤ length out → Fits g size out
unfolding tiny onie
allowed-fits g size out allowed room = record { room = room; total = λ is. rw is at allowed; declared = λ is. rw is at allowed }

-- ---- what it is

pub image-written : (g : Format) (entries : List ℕ) → Written g entries (image_of (shape g) entries)
unfolding image_of fboss vpd tiny onie onie_check
image-written Fboss entries =
    let c = check16_of (0xFB ∷ 0xFB ∷ 0x05 ∷ 0xFF ∷ entries) in
    fbossWritten entries (c / 256) (c % 256) (omega arith) (omega arith)
image-written Vpd entries = vpdWritten entries
image-written Tiny entries = tinyWritten entries
image-written Onie entries =
    let n = length entries + 6 in
    let c =
    check32_of (0x54 ∷ 0x6C ∷ 0x76 ∷ 0x49 ∷ 0x6E ∷ 0x66 ∷ 0x6F ∷ 0x00 ∷ 0x01 ∷ (n / 256) ∷ (n % 256) ∷ (entries ++ (0xFE ∷ 0x04 ∷ []))) in
    onieWritten entries (n / 256) (n % 256) (c / 16777216) (c / 65536 % 256) (c / 256 % 256) (c % 256) (omega arith) (omega arith) (omega arith) (omega arith) (omega arith)
    (four c)
  where
    four : (c : ℕ) → c / 16777216 * 16777216 + c / 65536 % 256 * 65536 + c / 256 % 256 * 256 + c % 256 ≡ c
    four c =
        let h₁ : c / 65536 ≡ c / 256 / 256 = omega arith in
        let h₂ : c / 16777216 ≡ c / 65536 / 256 = omega arith in
        omega arith

-- the length bytes that are written are the shortest
pub length-short : (g : Format) (c n : ℕ) → (shape g).length_rule c n ≡ true → n ≤ limit → ShortLength g c ((shape g).lens c n) n
length-short g c n rule fits = record { says = (laws g).lens_made c n rule fits; shortest = λ l bytes says. (laws g).lens_shortest c n l bytes says }

-- a new entry is one, and nothing in it could be shorter
pub entry-short : (g : Format) (e : ℕ) (c : Content) → names (shape g) e c.code ≡ true → writer_rule (shape g) c ≡ true → ((shape g).keyed ≡ false → c.key ≡ []) →
    length (entry_bytes (shape g) c) ≤ limit → ShortEntry g (entry_bytes (shape g) c) c
unfolding entry_bytes
entry-short g e c n w k short =
    let fits = fresh-fits (laws g) c k short in
    record {
      front = (shape g).opening c.code c.key;
      lens = (shape g).lens c.code (length c.value);
      is = refl;
      opens = (laws g).opening_made e c.code c.key n fits.0 k;
      shortest = λ l bytes opens. (laws g).opening_shortest c.code c.key l bytes opens;
      said = length-short g c.code (length c.value) (writer-parts (shape g) c w).1 fits.1;
    }

pub entries-short : (g : Format) (e : ℕ) (b : Bool) (cs : List Content) → Writable (shape g) e b cs → length (entries_bytes (shape g) cs) ≤ limit →
    ShortEntries g (entries_bytes (shape g) cs) cs
unfolding entries_bytes
entries-short g e b [] w short = none
entries-short g e b (c ∷ cs) w short =
    let joined = length-append (entry_bytes (shape g) c) (entries_bytes (shape g) cs) in
    also (entry-short g e c w.1 w.2 w.3 (omega arith)) (entries-short g e ((shape g).last c.code) cs w.4 (omega arith))
