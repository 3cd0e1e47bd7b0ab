-- Vendor blocks as C sees them: what the packed answers and the lent bytes say.
-- Assumes nothing.
use Prim.Native.Nat.{ℕ, ◌+◌, ◌*◌, ◌-◌, ◌/◌, ◌%◌, ◌≤◌, ◌<◌}
use mathlib.Core.Path.{◌≡◌, refl, ap, ◌∙◌}
use mathlib.Core.List.{List, [], ◌∷◌, ◌++◌}
use mathlib.Core.Bool.{Bool, true, false}
use native.Mathlib.Omega.{arith}
use lib.ListN.{length, get_or, drop}
use lib.Seq.{drop_at}
use lib.IntN.{ℤ, pos, negsuc}
use lib.Dec.{leb}
use borrow.Author.Tests.{lt-ltb, le-ltb, lt-leb, le-leb}
use Rattle.std.specs.Prelude.{Ok, Err}
use Rattle.layout.specs.Bytes.{if, all, one_of, part_at, refusal}
use Rattle.layout.specs.Calls.{told_refusal}
use Rattle.layout.specs.Write.{word}
use Rattle.layout.specs.Each.{Each, none}
use Rattle.blocks.specs.declared.Offsets.{Offsets}
use Rattle.blocks.specs.declared.Block.{Block}
use Rattle.blocks.specs.Answers.{Vended}
use Rattle.blocks.specs.Offset.{signed, signed_byte}
use Rattle.blocks.specs.Vendor.{read_vendor, told_vended, pieces_in, write_vendor}
use Rattle.records.specs.Packed.{packed}
use Rattle.records.specs.Words.{word_bytes, words_bytes, signed_word, block_words, block_bytes}
use Rattle.records.specs.Exports.{VendorGiven, ungiven, unlent, vendor_given, vendor_read_call, offsets_of}
use Rattle.records.proofs.Words.{length-block}
use Rattle.promises.specs.Words.{IsRefused}
use Rattle.promises.specs.Payload.{SignedByte, SignedBytes}
use Rattle.promises.specs.Vendor.{tells_vendor, tells_vendor_write}
use Rattle.promises.proofs.FormatNumbers.{tabled}
use Rattle.promises.proofs.Refusals.{farthest}
use Rattle.promises.proofs.VendorSigns.{signs}
use Rattle.promises.proofs.VendorRefused.{read_numbers, write_numbers, BlockIn, VendedLow, read_low, write_low, vendor-refused}
use Rattle.answers.specs.Whole.{Whole}
use Rattle.answers.specs.Lent.{RefusedAnswer}
use Rattle.answers.specs.FromC.{OneOf}
use Rattle.answers.specs.Vendor.{signed_of, SaysBlock, VendorLent, offsets_word, VendorFromC}
use Rattle.answers.proofs.Packing.{whole-refusal, whole-told}
use Rattle.answers.proofs.Whole.{made-whole}
use Rattle.answers.proofs.Readings.{Words, then}
use Rattle.answers.proofs.Records.{word_back, words-before}
use Rattle.answers.proofs.Lent.{packed-taken, is-refused}
use Rattle.answers.proofs.FromC.{gives_one, items-in-back}

-- ---- the answer

vended-whole : (x : Vended) → VendedLow x → Whole (told_vended x)
unfolding all
vended-whole (Ok (n, b)) l = whole-told n (part_at 0 0) [] (omega (arith, l.0)) (omega arith)
vended-whole (Err r) l = whole-refusal read_numbers farthest r refl (omega arith) l

-- ---- a block

-- the word of a signed number that a byte can say is below 2^32, and says it
word_small : (z : ℤ) → SignedByte z → signed_word z < 4294967296
word_small (pos n) h = omega arith
word_small (negsuc n) h = omega arith

word-signed : (z : ℤ) → SignedByte z → signed_of (signed_word z) ≡ z
word-signed (pos n) h = rw (lt-ltb n 2147483648 (omega arith))
word-signed (negsuc n) h = rw (le-ltb (4294967295 - n) 2147483648 (omega arith)) (ap negsuc (omega arith))

module _ (n : ℕ) (b : Block) (le : n ≤ 65536) (i : BlockIn n b) where
  abbrev eight : Offsets
  eight = b.offsets

  abbrev small : SignedBytes eight
  small = i.offsets

  block-fits : Words (block_words b)
  block-fits =
      then b.serial.place.0 (omega (arith, i.serial))
      (then b.serial.len (omega (arith, i.serial))
      (then b.block.place.0 (omega (arith, i.block))
      (then b.block.len (omega (arith, i.block))
      (offset eight.c_west_in small.0
      (offset eight.c_west_out small.1
      (offset eight.c_east_in small.2
      (offset eight.c_east_out small.3
      (offset eight.l_west_in small.4
      (offset eight.l_west_out small.5
      (offset eight.l_east_in small.6
      (offset eight.l_east_out small.7 none)))))))))))
    where
      offset : (z : ℤ) {ws : List ℕ} → SignedByte z → Words ws → Words (signed_word z ∷ ws)
      offset z h ws = then (signed_word z) (word_small z h) ws

  block_back : (t : List ℕ) (k : ℕ) → k < 12 → word (k * 4) (block_bytes b ++ t) ≡ get_or (block_words b) k 0
  unfolding block_bytes
  block_back t k lt = words-before (block_words b) t k block-fits (omega arith)

  says-block : (t : List ℕ) → SaysBlock (block_bytes b ++ t) b
  says-block t =
      record {
        place_of_serial = block_back t 0 (omega arith);
        length_of_serial = block_back t 1 (omega arith);
        place_of_block = block_back t 2 (omega arith);
        length_of_block = block_back t 3 (omega arith);
        c_west_in = offset 4 eight.c_west_in (omega arith) small.0 refl;
        c_west_out = offset 5 eight.c_west_out (omega arith) small.1 refl;
        c_east_in = offset 6 eight.c_east_in (omega arith) small.2 refl;
        c_east_out = offset 7 eight.c_east_out (omega arith) small.3 refl;
        l_west_in = offset 8 eight.l_west_in (omega arith) small.4 refl;
        l_west_out = offset 9 eight.l_west_out (omega arith) small.5 refl;
        l_east_in = offset 10 eight.l_east_in (omega arith) small.6 refl;
        l_east_out = offset 11 eight.l_east_out (omega arith) small.7 refl;
      }
    where
      offset : (k : ℕ) (z : ℤ) → k < 12 → SignedByte z → get_or (block_words b) k 0 ≡ signed_word z → signed_of (word (k * 4) (block_bytes b ++ t)) ≡ z
      offset k z lt h is = ap signed_of (block_back t k lt ∙ is) ∙ word-signed z h

-- ---- a read

-- what it leaves, by whether a block is lent
abbrev lends : Bool → Vended → List ℕ → List ℕ → List ℕ → VendorGiven
lends b x payload buffer m = if b (λ _. vendor_given x payload m) (λ _. ungiven (unlent x) buffer m)

given-answer : (x : Vended) (payload m : List ℕ) → (vendor_given x payload m).answer ≡ packed (told_vended x)
given-answer (Ok (n, b)) payload m = refl
given-answer (Err r) payload m = refl

lends_one : (t : Bool) (x : Vended) (payload buffer m : List ℕ) → OneOf read_numbers (packed (told_vended x)) → OneOf read_numbers (lends t x payload buffer m).answer
unfolding one_of packed
lends_one true x payload buffer m h = rw (given-answer x payload m) h
lends_one false (Ok (n, b)) payload buffer m h = refl
lends_one false (Err r) payload buffer m h = h

lends-kept : (t : Bool) (x : Vended) (payload buffer m : List ℕ) → (IsRefused (told_vended x) → payload ≡ buffer) →
    let g = lends t x payload buffer m in RefusedAnswer g.answer → (g.payload ≡ buffer) × (g.block ≡ m)
lends-kept true (Ok (n, b)) payload buffer m same r = absurd (r (packed-taken (told_vended (Ok (n, b))) refl))
lends-kept true (Err q) payload buffer m same r = (same (is-refused (told_refusal q) r), refl)
lends-kept false x payload buffer m same r = (refl, refl)

lends-refused : (t : Bool) (x : Vended) (payload buffer m : List ℕ) → IsRefused (told_vended x) → (lends t x payload buffer m).answer ≡ packed (told_vended x)
lends-refused true x payload buffer m h = given-answer x payload m
lends-refused false (Ok (n, b)) payload buffer m h = absurd (h refl)
lends-refused false (Err r) payload buffer m h = refl

lends-short : (x : Vended) (payload buffer m : List ℕ) → VendedLow x → (told_vended x).number ≡ 0 → (lends false x payload buffer m).answer ≡ packed (told_refusal (refusal 12 0))
unfolding all
lends-short (Ok (n, b)) payload buffer m l z = refl
lends-short (Err r) payload buffer m l z = absurd (omega (arith, z, tabled read_numbers r.number refl l.number))

vendor-lent : (f e : ℕ) (img buffer m : List ℕ) → VendorLent f e img buffer m
unfolding vendor_read_call
vendor-lent f e img buffer m =
    let x = (read_vendor f e img buffer).answer in
    let payload = (read_vendor f e img buffer).memory in
    record {
      whole = λ le. rw (le-leb 48 (length m) le) (given-answer x payload m);
      refused = lends-refused (leb 48 (length m)) x payload buffer m;
      short = λ lt z. rw (lt-leb 48 (length m) lt) (lends-short x payload buffer m (read_low f e img buffer) z);
      gives = λ n b le q.
          let l : VendedLow (Ok (n, b)) = rw q at (read_low f e img buffer) in
          rw (le-leb 48 (length m) le, q) (refl, says-block n b l.0 l.1 (drop 48 m), drop_at (block_bytes b) (drop 48 m) 48 (length-block b));
    }

-- ---- offsets and piece lengths

-- the last byte of a number says an offset, where the number is its signed byte and 256 times another
last_says : (z : ℤ) (n r : ℕ) → SignedByte z → n ≡ signed_byte z + r * 256 → signed (n % 256) ≡ z
last_says z n r h is =
    let byte = signs.byte z h in
    let next : n / 256 ≡ r = omega arith in
    let last : n % 256 ≡ signed_byte z = omega arith in
    ap signed last ∙ signs.forth z h

offsets-back : (o : Offsets) → SignedBytes o → offsets_of (offsets_word o) ≡ o
offsets-back o s =
    let b₀ = signs.byte o.c_west_in s.0 in
    let b₁ = signs.byte o.c_west_out s.1 in
    let b₂ = signs.byte o.c_east_in s.2 in
    let b₃ = signs.byte o.c_east_out s.3 in
    let b₄ = signs.byte o.l_west_in s.4 in
    let b₅ = signs.byte o.l_west_out s.5 in
    let b₆ = signs.byte o.l_east_in s.6 in
    let b₇ = signs.byte o.l_east_out s.7 in
    let r₇ : ℕ = signed_byte o.l_east_out in
    let r₆ : ℕ = signed_byte o.l_east_in + r₇ * 256 in
    let r₅ : ℕ = signed_byte o.l_west_out + r₆ * 256 in
    let r₄ : ℕ = signed_byte o.l_west_in + r₅ * 256 in
    let r₃ : ℕ = signed_byte o.c_east_out + r₄ * 256 in
    let r₂ : ℕ = signed_byte o.c_east_in + r₃ * 256 in
    let r₁ : ℕ = signed_byte o.c_west_out + r₂ * 256 in
    let w : ℕ = offsets_word o in
    rw (
      last_says o.c_west_in w r₁ s.0 (omega arith),
      last_says o.c_west_out (w / 256) r₂ s.1 (omega arith),
      last_says o.c_east_in (w / 65536) r₃ s.2 (omega arith),
      last_says o.c_east_out (w / 16777216) r₄ s.3 (omega arith),
      last_says o.l_west_in (w / 4294967296) r₅ s.4 (omega arith),
      last_says o.l_west_out (w / 1099511627776) r₆ s.5 (omega arith),
      last_says o.l_east_in (w / 281474976710656) r₇ s.6 (omega arith),
      last_says o.l_east_out (w / 72057594037927936) 0 s.7 (omega arith),
    )

pieces-back : (lengths cut : List ℕ) → Each (λ n. n < 4294967296) lengths → length cut < 4 → pieces_in (words_bytes lengths ++ cut) ≡ lengths
unfolding pieces_in words_bytes
pieces-back = items-in-back (λ n. n < 4294967296) 4 (word 0) word_bytes words_bytes refl (λ w ws. refl) (omega arith) (λ w. refl) word_back

pub vendor-from-c : VendorFromC
unfolding all vendor_read_call
vendor-from-c =
    record {
      whole_read = λ f e img buffer. vended-whole (read_vendor f e img buffer).answer (read_low f e img buffer);
      whole_write = λ f e serial o pieces out. made-whole write_numbers farthest (write_vendor f e serial o pieces out).answer refl (omega arith) (write_low f e serial o pieces out);
      read_numbers = λ f e img buffer m.
          lends_one (leb 48 (length m)) (read_vendor f e img buffer).answer (read_vendor f e img buffer).memory buffer m
          (gives_one read_numbers (tells_vendor f e img buffer) refl (vendor-refused.read f e img buffer));
      write_numbers = λ f e serial offsets pieces out. gives_one write_numbers _ refl (vendor-refused.written f e serial (offsets_of offsets) (pieces_in pieces) out);
      unread = λ f e img buffer m.
          lends-kept (leb 48 (length m)) (read_vendor f e img buffer).answer (read_vendor f e img buffer).memory buffer m (vendor-refused.buffer f e img buffer);
      unwritten = λ f e serial offsets pieces out r.
          vendor-refused.output f e serial (offsets_of offsets) (pieces_in pieces) out (is-refused (tells_vendor_write f e serial (offsets_of offsets) (pieces_in pieces) out) r);
      read = vendor-lent;
      write = λ f e serial o lengths cut out signed small short. rw (offsets-back o signed, pieces-back lengths cut small short) (refl, refl);
    }
