-- A vendor call is refused by its numbers alone, and then changes nothing.
-- Assumes nothing.
use Prim.Native.Nat.{ℕ, ◌+◌, ◌≤◌}
use mathlib.Core.Path.{◌≡◌, refl}
use mathlib.Core.List.{List, [], ◌∷◌, map}
use mathlib.Core.Bool.{true}
use native.Mathlib.Omega.{arith}
use lib.ListN.{length, get_or, drop}
use lib.Dec.{ltb, leb, eqb}
use borrow.Author.Tests.{leb-true, eqb-true}
use Rattle.std.specs.Prelude.{Ok, Err}
use Rattle.layout.specs.Answers.{Chosen}
use Rattle.layout.specs.Bytes.{one_of, refusal}
use Rattle.layout.specs.Editions.{chosen}
use Rattle.layout.specs.Walk.{Content, content}
use Rattle.layout.specs.Read.{limit, Read, accepted, refused, read_image}
use Rattle.layout.specs.Write.{Outcome, refuse, put_bytes, told_made}
use Rattle.layout.proofs.Choices.{either}
use Rattle.blocks.specs.declared.Offsets.{Offsets}
use Rattle.blocks.specs.declared.Block.{Block}
use Rattle.blocks.specs.Answers.{Said, Vended}
use Rattle.blocks.specs.Offset.{signed}
use Rattle.blocks.specs.Payload.{matching, joined, serial_length, block_length, block_place, block_of, measured, checked, amplifier, payload_says, payload_of, cut_into, writable}
use Rattle.blocks.specs.Vendor.{ask_chosen, asked, Taking, untaken, taking, take_matching, take_read, take_asked, read_vendor, told_vended, put_asked, write_vendor}
use Rattle.blocks.proofs.Asking.{asked-short}
use Rattle.promises.specs.Words.{IsRefused}
use Rattle.promises.specs.Numbers.{Gives, taken, refused as refusedBy, image_numbers}
use Rattle.promises.specs.Payload.{SignedByte, SignedBytes}
use Rattle.promises.specs.Vendor.{VendorRefused}
use Rattle.promises.proofs.FormatNumbers.{Low, ChosenNumber, chosen-number}
use Rattle.promises.proofs.Refusals.{farthest, refused-low, wider}
use Rattle.promises.proofs.WriteCalls.{MadeLow}
use Rattle.promises.proofs.Numbers.{made-gives}
use Rattle.promises.proofs.VendorSigns.{small}

abbrev pub read_numbers : List ℕ
read_numbers = 17 ∷ 18 ∷ 19 ∷ 20 ∷ 12 ∷ image_numbers

abbrev pub write_numbers : List ℕ
write_numbers = 16 ∷ 1 ∷ 2 ∷ 18 ∷ 12 ∷ []

-- what both calls ask is refused by a number of a list that has 16, 1 and 2
pub asked-number : (numbers : List ℕ) → one_of numbers 16 ≡ true → one_of numbers 1 ≡ true → one_of numbers 2 ≡ true → (f e lent : ℕ) → ChosenNumber numbers (asked f e lent)
unfolding asked
asked-number numbers sixteen one two f e lent = either (ChosenNumber numbers) (eqb f 4) (λ _. go (chosen f e) (chosen-number numbers sixteen one f e)) (λ _. sixteen)
  where
    go : (x : Chosen) → ChosenNumber numbers x → ChosenNumber numbers (ask_chosen x lent)
    go (Ok g) l = either (ChosenNumber numbers) (ltb limit lent) (λ _. two) (λ _. tt)
    go (Err n) l = l

-- ---- read

-- a block lies inside a payload of n bytes, and its offsets are signed bytes
pub record BlockIn (n : ℕ) (b : Block) : Type 0 where
  pub serial : b.serial.place.0 + b.serial.len ≤ n
  pub block : b.block.place.0 + b.block.len ≤ n
  pub offsets : SignedBytes b.offsets

block_in : (s : List ℕ) → measured s ≡ true → BlockIn (length s) (block_of s)
unfolding measured
block_in s q =
    let long = eqb-true (length s) (1 + serial_length s + 2 + block_length s + 4) q in
    let t : List ℕ = drop (block_place s + 1) s in
    let sign : (k : ℕ) → SignedByte (signed (get_or t k 0)) = (λ k. small (get_or t k 0)) in
    record { serial = omega arith; block = omega arith; offsets = (sign 0, sign 1, sign 2, sign 3, sign 4, sign 5, sign 6, sign 7) }

-- a payload of n bytes is refused by a number of a read, or says a block inside it
abbrev pub SaidLow : ℕ → Said → Type 0
SaidLow n (Ok b) = BlockIn n b
SaidLow n (Err number) = one_of read_numbers number ≡ true

pub said-low : (s : List ℕ) → SaidLow (length s) (payload_says s)
unfolding payload_says one_of
said-low s =
    either (SaidLow (length s)) (measured s)
    (λ m. either (SaidLow (length s)) (checked s) (λ _. either (SaidLow (length s)) (amplifier s) (λ _. block_in s m) (λ _. refl)) (λ _. refl))
    (λ _. refl)

-- a read is refused by one of its numbers at a place that is not beyond an image's farthest, or tells of a block in a payload that is no longer than an image may be
abbrev pub VendedLow : Vended → Type 0
VendedLow (Ok (n, b)) = (n ≤ limit) × BlockIn n b
VendedLow (Err r) = Low read_numbers farthest r.number r.place.0

vended-gives : (x : Vended) → VendedLow x → Gives read_numbers (told_vended x)
vended-gives (Ok (n, b)) l = taken
vended-gives (Err r) l = refusedBy l.number

-- where it is refused the buffer is as it was
record ReadLeaves (buffer : List ℕ) (t : Taking) : Type 0 where
  low : VendedLow t.answer
  same : IsRefused (told_vended t.answer) → t.memory ≡ buffer

read-leaves : (f e : ℕ) (image buffer : List ℕ) → ReadLeaves buffer (read_vendor f e image buffer)
unfolding read_vendor one_of
read-leaves f e image buffer = choose (asked f e (length buffer)) refl (asked-number read_numbers refl refl refl f e (length buffer))
  where
    unread : (n : ℕ) → one_of read_numbers n ≡ true → ReadLeaves buffer (untaken (refusal n 0) buffer)
    unread n h = record { low = record { number = h; place = omega arith }; same = λ _. refl }

    takes : (x : Said) (payload : List ℕ) → length buffer ≤ limit → SaidLow (length payload) x → ReadLeaves buffer (taking x payload buffer)
    takes (Ok b) payload le l =
        either (ReadLeaves buffer) (leb (length payload) (length buffer))
        (λ t. let fits = leb-true (length payload) (length buffer) t in record { low = (omega arith, l); same = λ h. absurd (h refl) })
        (λ _. unread 12 refl)
    takes (Err n) payload le l = unread n l

    matched : (cs : List Content) → length buffer ≤ limit → ReadLeaves buffer (take_matching cs buffer)
    matched [] le = unread 17 refl
    matched (c ∷ cs) le = takes (payload_says (joined (c ∷ cs))) (joined (c ∷ cs)) le (said-low (joined (c ∷ cs)))

    reads : (x : Read) → read_image f e image ≡ x → length buffer ≤ limit → ReadLeaves buffer (take_read x buffer)
    reads (accepted g start rs) q le = matched (matching (map content rs)) le
    reads (refused r) q le = record { low = wider (wider (wider (wider (wider (refused-low f e image r q))))); same = λ _. refl }

    choose : (x : Chosen) → asked f e (length buffer) ≡ x → ChosenNumber read_numbers x → ReadLeaves buffer (take_asked x f e image buffer)
    choose (Ok g) q l = reads (read_image f e image) refl (asked-short f e (length buffer) g q)
    choose (Err n) q l = unread n l

pub read_low : (f e : ℕ) (image buffer : List ℕ) → VendedLow (read_vendor f e image buffer).answer
read_low f e image buffer = (read-leaves f e image buffer).low

-- ---- write

-- where it is refused the output is as it was
record WriteLeaves (out : List ℕ) (o : Outcome) : Type 0 where
  low : MadeLow write_numbers farthest o.answer
  same : IsRefused (told_made o.answer) → o.memory ≡ out

write-leaves : (f e : ℕ) (serial : List ℕ) (o : Offsets) (pieces out : List ℕ) → WriteLeaves out (write_vendor f e serial o pieces out)
unfolding write_vendor one_of
write-leaves f e serial o pieces out = choose (asked f e (length out)) refl (asked-number write_numbers refl refl refl f e (length out))
  where
    unwritten : (n : ℕ) → one_of write_numbers n ≡ true → WriteLeaves out (refuse (refusal n 0) out)
    unwritten n h = record { low = record { number = h; place = omega arith }; same = λ _. refl }

    puts : (values : List ℕ) → length out ≤ limit → WriteLeaves out (put_bytes values out)
    puts values le =
        either (WriteLeaves out) (leb (length values) (length out))
        (λ t. let fits = leb-true (length values) (length out) t in record { low = omega arith; same = λ h. absurd (h refl) })
        (λ _. unwritten 12 refl)

    choose : (x : Chosen) → asked f e (length out) ≡ x → ChosenNumber write_numbers x → WriteLeaves out (put_asked x serial o pieces out)
    choose (Ok g) q l =
        either (WriteLeaves out) (writable serial pieces) (λ _. puts (cut_into pieces (payload_of serial o)) (asked-short f e (length out) g q)) (λ _. unwritten 18 refl)
    choose (Err n) q l = unwritten n l

pub write_low : (f e : ℕ) (serial : List ℕ) (o : Offsets) (pieces out : List ℕ) → MadeLow write_numbers farthest (write_vendor f e serial o pieces out).answer
write_low f e serial o pieces out = (write-leaves f e serial o pieces out).low

pub vendor-refused : VendorRefused
vendor-refused =
    record {
      read = λ f e image buffer. vended-gives (read_vendor f e image buffer).answer (read_low f e image buffer);
      written = λ f e serial o pieces out. made-gives write_numbers farthest (write_vendor f e serial o pieces out).answer (write_low f e serial o pieces out);
      buffer = λ f e image buffer. (read-leaves f e image buffer).same;
      output = λ f e serial o pieces out. (write-leaves f e serial o pieces out).same;
    }
