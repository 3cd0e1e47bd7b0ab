-- What a vendor write puts out and what it is refused by.
-- Assumes nothing.
use Prim.Native.Nat.{ℕ, ◌+◌, ◌*◌, ◌≤◌, ◌<◌}
use mathlib.Core.Path.{◌≡◌, refl, ap, sym, ◌∙◌, subst}
use mathlib.Core.List.{List, [], ◌∷◌, ◌++◌}
use mathlib.Core.Bool.{Bool, true, false, ◌&&◌}
use native.Mathlib.Omega.{arith}
use lib.ListN.{length, take, drop, length-drop, take-append-drop}
use lib.Seq.{length-take-le}
use lib.Dec.{leb, eqb}
use borrow.Author.Tests.{leb-true, le-leb, lt-leb, eqb-true, eq-eqb}
use Rattle.std.specs.Prelude.{Ok, Err}
use Rattle.crc.specs.Crc.{check32_of}
use Rattle.layout.specs.declared.Format.{Format}
use Rattle.layout.specs.declared.Format.TheVariants.{Onie}
use Rattle.layout.specs.Answers.{Chosen}
use Rattle.layout.specs.Bytes.{if, all, one_of, refusal}
use Rattle.layout.specs.Onie.{four_bytes}
use Rattle.layout.specs.Read.{limit}
use Rattle.layout.specs.Calls.{Told}
use Rattle.layout.specs.Write.{Outcome, refuse, put_bytes, told_made}
use Rattle.layout.specs.Each.{Each, none, also}
use Rattle.layout.proofs.Choices.{refuted, both}
use Rattle.blocks.specs.declared.Offsets.{Offsets}
use Rattle.blocks.specs.Offset.{signed_byte, offset_bytes}
use Rattle.blocks.specs.Payload.{front, payload_of, cut_into, sum, writable}
use Rattle.blocks.specs.Vendor.{asked, put_asked, write_vendor}
use Rattle.blocks.proofs.Asking.{asked-four, write-asked}
use Rattle.blocks.proofs.Lengths.{length-payload, length-values}
use Rattle.promises.specs.Words.{Serves, Counts, Refuses}
use Rattle.promises.specs.Payload.{whole, AddUp, add_none, add_one, Parts, Amplifier, SaysOffsets, SignedBytes}
use Rattle.promises.specs.Vendor.{tells_vendor_write, Values, no_value, value, VendorWritten, VendorWrites}
use Rattle.promises.proofs.FormatNumbers.{every, ChosenNumber}
use Rattle.promises.proofs.Telling.{serves-chosen}
use Rattle.promises.proofs.VendorSigns.{byte-says}
use Rattle.promises.proofs.VendorRefused.{write_numbers, asked-number}
use Rattle.promises.proofs.VendorAsked.{short-asked}

-- ---- what can be written

all-each : (xs : List ℕ) → all (λ n. leb n 250) xs ≡ true → Each (λ n. n ≤ 250) xs
unfolding all
all-each [] q = none
all-each (x ∷ xs) q = let b = both (leb x 250) (all (λ n. leb n 250) xs) q in also (leb-true x 250 b.0) (all-each xs b.1)

each_all : (xs : List ℕ) → Each (λ n. n ≤ 250) xs → all (λ n. leb n 250) xs ≡ true
unfolding all
each_all [] none = refl
each_all (x ∷ xs) (also le les) = rw (le-leb x 250 le, each_all xs les)

adds : {xs : List ℕ} {n : ℕ} → AddUp xs n → sum xs ≡ n
adds add_none = refl
adds (add_one {n} a) = ap (λ (k : ℕ). n + k) (adds a)

add-up : (xs : List ℕ) → AddUp xs (sum xs)
add-up [] = add_none
add-up (x ∷ xs) = add_one (add-up xs)

-- the lengths are those of a payload with this serial
record Fitting (serial lengths : List ℕ) : Type 0 where
  serial_fits : length serial ≤ 255
  pieces_fit : Each (λ n. n ≤ 250) lengths
  total : sum lengths ≡ 16 + length serial

writable-fitting : (serial lengths : List ℕ) → writable serial lengths ≡ true → Fitting serial lengths
unfolding writable
writable-fitting serial lengths q =
    let a = both (leb (length serial) 255 && all (λ n. leb n 250) lengths) (eqb (sum lengths) (16 + length serial)) q in
    let b = both (leb (length serial) 255) (all (λ n. leb n 250) lengths) a.0 in
    record {
      serial_fits = leb-true (length serial) 255 b.0;
      pieces_fit = all-each lengths b.1;
      total = eqb-true (sum lengths) (16 + length serial) a.1;
    }

fitting-writable : (serial lengths : List ℕ) → Fitting serial lengths → writable serial lengths ≡ true
unfolding writable
fitting-writable serial lengths x =
    rw (le-leb (length serial) 255 x.serial_fits, each_all lengths x.pieces_fit, eq-eqb (sum lengths) (16 + length serial) x.total)

-- ---- a write that is asked for

module _ (e : ℕ) (serial : List ℕ) (o : Offsets) (lengths out : List ℕ) (s : Serves 4 e Onie) (le : length out ≤ limit) where
  asks : write_vendor 4 e serial o lengths out ≡ put_asked (Ok Onie) serial o lengths out
  asks = write-asked 4 e serial o lengths out Onie (short-asked e (length out) Onie (serves-chosen s) le)

  unfitting : (Fitting serial lengths → ⊥) → Refuses (tells_vendor_write 4 e serial o lengths out) 18 0
  unfitting wrong = rw (asks, refuted (writable serial lengths) (λ q. wrong (writable-fitting serial lengths q)))

  fitting : Fitting serial lengths → write_vendor 4 e serial o lengths out ≡ put_bytes (cut_into lengths (payload_of serial o)) out
  fitting x = asks ∙ rw (fitting-writable serial lengths x)

  unfit : Fitting serial lengths → length out < 5 * length lengths + (16 + length serial) → Refuses (tells_vendor_write 4 e serial o lengths out) 12 0
  unfit x lt = rw (fitting x, length-values serial o lengths x.total, lt-leb (5 * length lengths + (16 + length serial)) (length out) lt)

  fit : Fitting serial lengths → 5 * length lengths + (16 + length serial) ≤ length out →
      Counts (tells_vendor_write 4 e serial o lengths out) (5 * length lengths + (16 + length serial))
  fit x room = rw (fitting x, length-values serial o lengths x.total, le-leb (5 * length lengths + (16 + length serial)) (length out) room)

-- ---- a write that is taken

pub record Done (f e : ℕ) (serial : List ℕ) (o : Offsets) (lengths out : List ℕ) (n : ℕ) : Type 0 where
  pub four : f ≡ 4
  pub total : sum lengths ≡ 16 + length serial
  pub count : n ≡ length (cut_into lengths (payload_of serial o))
  pub filled : (write_vendor f e serial o lengths out).memory ≡ cut_into lengths (payload_of serial o) ++ drop (length (cut_into lengths (payload_of serial o))) out

pub write_done : (f e : ℕ) (serial : List ℕ) (o : Offsets) (lengths out : List ℕ) (n : ℕ) → Counts (tells_vendor_write f e serial o lengths out) n → Done f e serial o lengths out n
unfolding write_vendor one_of all
write_done f e serial o lengths out n q = choose (asked f e (length out)) refl (asked-number write_numbers refl refl refl f e (length out)) q
  where
    values : List ℕ
    values = cut_into lengths (payload_of serial o)

    -- nothing that is refused counts
    never : {A : Type 0} (m : ℕ) → 1 ≤ m → Counts (told_made (refuse (refusal m 0) out).answer) n → A
    never m some q = let z : m ≡ 0 = ap (λ (t : Told). t.number) q in absurd (omega arith)

    puts : (g : Format) (b : Bool) → asked f e (length out) ≡ Ok g → writable serial lengths ≡ true → leb (length values) (length out) ≡ b →
        Counts (told_made (put_bytes values out).answer) n → Done f e serial o lengths out n
    puts g true k w l q =
        record {
          four = asked-four f e (length out) g k;
          total = (writable-fitting serial lengths w).total;
          count = (let c = rw l at q in sym (ap (λ (t : Told). t.count) c));
          filled = rw (k, w, l);
        }
    puts g false k w l q = never 12 (omega arith) (rw l at q)

    writes : (g : Format) (b : Bool) → asked f e (length out) ≡ Ok g → writable serial lengths ≡ b →
        Counts (told_made (if {A = Outcome} b (λ _. put_bytes values out) (λ _. refuse (refusal 18 0) out)).answer) n → Done f e serial o lengths out n
    writes g true k w q = puts g (leb (length values) (length out)) k w refl q
    writes g false k w q = never 18 (omega arith) q

    choose : (x : Chosen) → asked f e (length out) ≡ x → ChosenNumber write_numbers x → Counts (told_made (put_asked x serial o lengths out).answer) n → Done f e serial o lengths out n
    choose (Ok g) k l q = writes g (writable serial lengths) k refl q
    choose (Err m) k l q = never m (leb-true 1 m (every (leb 1) write_numbers m refl l)) q

-- ---- what it puts out

-- the pieces of a payload that is cut into these lengths
abbrev cut : List ℕ → List ℕ → List (List ℕ)
cut [] s = []
cut (n ∷ ns) s = take n s ∷ cut ns (drop n s)

cut-values : (ns s : List ℕ) → sum ns ≤ length s → Values ns (cut ns s) (cut_into ns s)
unfolding cut_into
cut-values [] s le = no_value
cut-values (n ∷ ns) s le =
    let rest = cut-values ns (drop n s) (omega (arith, length-drop n s)) in
    rw (length-take-le n s (omega arith)) at (value {piece = take n s} rest)

cut-whole : (ns s : List ℕ) → sum ns ≡ length s → whole (cut ns s) ≡ s
cut-whole [] [] q = refl
cut-whole [] (b ∷ s) q = absurd (omega arith)
cut-whole (n ∷ ns) s q = ap (λ (l : List ℕ). take n s ++ l) (cut-whole ns (drop n s) (omega (arith, length-drop n s))) ∙ take-append-drop n s

-- the parts of a payload that is made
abbrev made : (serial : List ℕ) (o : Offsets) {s : List ℕ} → s ≡ front serial o ++ four_bytes (check32_of (front serial o)) → Parts s
made serial o q =
    record {
      serial = serial;
      high = 0x00;
      low = 0x09;
      block = 0x00 ∷ offset_bytes o;
      check = four_bytes (check32_of (front serial o));
      is = q;
      sized = refl;
      four = refl;
    }

abbrev made-block : (o : Offsets) → Amplifier (0x00 ∷ offset_bytes o)
made-block o =
    record {
      b0 = signed_byte o.c_west_in;
      b1 = signed_byte o.c_west_out;
      b2 = signed_byte o.c_east_in;
      b3 = signed_byte o.c_east_out;
      b4 = signed_byte o.l_west_in;
      b5 = signed_byte o.l_west_out;
      b6 = signed_byte o.l_east_in;
      b7 = signed_byte o.l_east_out;
      is = refl;
    }

made-says : (o : Offsets) → SignedBytes o → SaysOffsets (made-block o) o
made-says o z =
    record {
      c_west_in = byte-says o.c_west_in z.0;
      c_west_out = byte-says o.c_west_out z.1;
      c_east_in = byte-says o.c_east_in z.2;
      c_east_out = byte-says o.c_east_out z.3;
      l_west_in = byte-says o.l_west_in z.4;
      l_west_out = byte-says o.l_west_out z.5;
      l_east_in = byte-says o.l_east_in z.6;
      l_east_out = byte-says o.l_east_out z.7;
    }

puts : (f e : ℕ) (serial : List ℕ) (o : Offsets) (lengths out : List ℕ) (n : ℕ) → SignedBytes o → Counts (tells_vendor_write f e serial o lengths out) n →
    VendorWritten f e serial o lengths out n
unfolding payload_of
puts f e serial o lengths out n z q =
    let d = write_done f e serial o lengths out n q in
    let payload : List ℕ = payload_of serial o in
    let all : sum lengths ≡ length payload = d.total ∙ sym (length-payload serial o) in
    record {
      size = d.count ∙ length-values serial o lengths d.total;
      pieces = cut lengths payload;
      values = cut_into lengths payload;
      cut = cut-values lengths payload (omega arith);
      parts = made serial o (cut-whole lengths payload all);
      right = refl;
      serial_is = refl;
      block = made-block o;
      offsets = made-says o z;
      filled = d.filled ∙ ap (λ (k : ℕ). cut_into lengths payload ++ drop k out) (sym d.count);
      long = d.count;
    }

pub vendor-writes : VendorWrites
vendor-writes =
    record {
      serial = λ e serial o lengths out s le lt. unfitting e serial o lengths out s le (λ x. omega (arith, x.serial_fits));
      piece = λ e serial o lengths out s le large. unfitting e serial o lengths out s le (λ x. large x.pieces_fit);
      total = λ e serial o lengths out s le other. unfitting e serial o lengths out s le (λ x. other (subst (AddUp lengths) x.total (add-up lengths)));
      room = λ e serial o lengths out s le a b c lt. unfit e serial o lengths out s le (record { serial_fits = a; pieces_fit = b; total = adds c }) lt;
      taken = λ e serial o lengths out s le a b c room. fit e serial o lengths out s le (record { serial_fits = a; pieces_fit = b; total = adds c }) room;
      puts = puts;
    }
