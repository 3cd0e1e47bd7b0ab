-- What a payload comes to, by its parts.
-- Assumes nothing.
use Prim.Native.Nat.{ℕ, suc, ◌+◌, ◌*◌, ◌-◌, ◌≤◌}
use mathlib.Core.Path.{◌≡◌, refl, ap, sym, ◌∙◌}
use mathlib.Core.List.{List, [], ◌∷◌, ◌++◌, append_assoc}
use mathlib.Core.Bool.{true}
use native.Mathlib.Omega.{arith}
use native.Mathlib.Nat.{add-zero}
use lib.ListN.{length, get_or, take, drop, length-append, length-drop, take-append-drop, drop_of_length-le, get_or-append}
use lib.Seq.{length-take-le, take_all, take_at, drop_at, drop-drop, drop-cons, get_or_at, get_or-drop}
use lib.Dec.{eqb}
use borrow.Author.Tests.{eqb-true, eq-eqb, ne_eqb, le-leb, lt-leb}
use Rattle.std.specs.Prelude.{Ok, Err}
use Rattle.crc.specs.Crc.{check32_of}
use Rattle.layout.specs.Bytes.{same_bytes, part, part_at}
use Rattle.layout.specs.Onie.{four_bytes}
use Rattle.layout.proofs.Choices.{refuted, both}
use Rattle.laws.proofs.Frames.{part-between}
use Rattle.layout.proofs.Lists.{same_refl, same_true}
use Rattle.blocks.specs.declared.Offsets.{Offsets}
use Rattle.blocks.specs.declared.Block.{Block}
use Rattle.blocks.specs.Answers.{Said}
use Rattle.blocks.specs.Payload.{serial_length, block_length, block_place, measured, checked, amplifier, block_of, payload_says}
use Rattle.blocks.specs.Vendor.{Taking, taking, told_vended}
use Rattle.promises.specs.Payload.{Parts, RightCheck, Amplifier, SaysOffsets}
use Rattle.promises.specs.Vendor.{PayloadRule}
use Rattle.promises.proofs.VendorSigns.{says-one}

-- ---- a block

-- nine bytes that begin with 00 are a block of an amplifier
nine-bytes : (l : List ℕ) → length l ≡ 9 → get_or l 0 0 ≡ 0x00 → Amplifier l
nine-bytes l nine zero =
    record {
      b0 = get_or l 1 0;
      b1 = get_or l 2 0;
      b2 = get_or l 3 0;
      b3 = get_or l 4 0;
      b4 = get_or l 5 0;
      b5 = get_or l 6 0;
      b6 = get_or l 7 0;
      b7 = get_or l 8 0;
      is =
          cc (
            zero,
            drop-cons l 0 0 (omega arith),
            drop-cons l 1 0 (omega arith),
            drop-cons l 2 0 (omega arith),
            drop-cons l 3 0 (omega arith),
            drop-cons l 4 0 (omega arith),
            drop-cons l 5 0 (omega arith),
            drop-cons l 6 0 (omega arith),
            drop-cons l 7 0 (omega arith),
            drop-cons l 8 0 (omega arith),
            drop_of_length-le l {i = 9} (omega arith),
          );
    }

-- ---- a payload of parts

module _ {s : List ℕ} (x : Parts s) where
  abbrev serial : List ℕ
  serial = x.serial

  abbrev block : List ℕ
  block = x.block

  -- all before the check
  abbrev before : List ℕ
  before = length serial ∷ (serial ++ (x.high ∷ x.low ∷ block))

  -- the serial with its length, and what follows
  split : s ≡ (length serial ∷ serial) ++ (x.high ∷ x.low ∷ (block ++ x.check))
  split = x.is ∙ ap (λ (l : List ℕ). length serial ∷ l) (append_assoc serial (x.high ∷ x.low ∷ block) x.check)

  -- the same with the length of the block before the seam
  split_after : s ≡ ((length serial ∷ serial) ++ (x.high ∷ x.low ∷ [])) ++ (block ++ x.check)
  split_after = split ∙ sym (append_assoc (length serial ∷ serial) (x.high ∷ x.low ∷ []) (block ++ x.check))

  serial-long : serial_length s ≡ length serial
  serial-long = ap (λ (l : List ℕ). get_or l 0 0) x.is

  high_is : get_or s (1 + length serial) 0 ≡ x.high
  high_is = ap (λ (l : List ℕ). get_or l (1 + length serial) 0) split ∙ get_or_at (length serial ∷ serial) x.high _ 0 (1 + length serial) (omega arith)

  low-is : get_or s (1 + length serial + 1) 0 ≡ x.low
  low-is =
      ap (λ (l : List ℕ). get_or l (1 + length serial + 1) 0) (split ∙ sym (append_assoc (length serial ∷ serial) (x.high ∷ []) (x.low ∷ (block ++ x.check))))
      ∙ get_or_at ((length serial ∷ serial) ++ (x.high ∷ [])) x.low _ 0 (1 + length serial + 1) (omega (arith, length-append (length serial ∷ serial) (x.high ∷ [])))

  block-long : block_length s ≡ length block
  block-long = rw (serial-long, high_is, low-is) (sym x.sized)

  rest : drop (1 + length serial + 2) s ≡ block ++ x.check
  rest =
      ap (drop (1 + length serial + 2)) split_after
      ∙ drop_at ((length serial ∷ serial) ++ (x.high ∷ x.low ∷ [])) (block ++ x.check) (1 + length serial + 2) (omega (arith, length-append (length serial ∷ serial) (x.high ∷ x.low ∷ [])))

  before-long : length before ≡ 1 + length serial + 2 + length block
  before-long = omega (arith, length-append serial (x.high ∷ x.low ∷ block))

  long : length s ≡ length before + 4
  long = ap length x.is ∙ length-append before x.check ∙ omega (arith, x.four)

  pub parts-long : length s ≡ 1 + length serial + 2 + length block + 4
  parts-long = omega (arith, long, before-long)

  -- the serial stands at place 1, whatever follows the payload
  pub serial-there : (t : List ℕ) → part 1 (length serial) (s ++ t) ≡ serial
  serial-there t =
      let rest : List ℕ = x.high ∷ x.low ∷ (block ++ x.check) in
      ap (λ (l : List ℕ). part 1 (length serial) (l ++ t)) split
      ∙ ap (λ (l : List ℕ). part 1 (length serial) (length serial ∷ l)) (append_assoc serial rest t)
      ∙ part-between (length serial ∷ []) serial (rest ++ t) 1 refl

  parts-measured : measured s ≡ true
  unfolding measured
  parts-measured = rw (block-long, serial-long) (eq-eqb (length s) (1 + length serial + 2 + length block + 4) parts-long)

  parts-checked : checked s ≡ same_bytes x.check (four_bytes (check32_of before))
  unfolding checked part
  parts-checked =
      let at : length before ≡ length s - 4 = omega (arith, long) in
      let front : take (length s - 4) s ≡ before = ap (take (length s - 4)) x.is ∙ take_at before x.check (length s - 4) at in
      let back : drop (length s - 4) s ≡ x.check = ap (drop (length s - 4)) x.is ∙ drop_at before x.check (length s - 4) at in
      rw (front, back, take_all 4 x.check (omega (arith, x.four)))

  right-checked : RightCheck x → checked s ≡ true
  right-checked r = parts-checked ∙ ap (λ (l : List ℕ). same_bytes l (four_bytes (check32_of before))) r ∙ same_refl (four_bytes (check32_of before))

  checked-right : checked s ≡ true → RightCheck x
  checked-right q = same_true x.check (four_bytes (check32_of before)) (sym parts-checked ∙ q)

  -- the first byte of the block, where it has one
  first-is : get_or s (block_place s) 0 ≡ get_or (block ++ x.check) 0 0
  first-is =
      ap (λ (n : ℕ). get_or s (1 + n + 2) 0) serial-long
      ∙ sym (get_or-drop (1 + length serial + 2) s 0 0 ∙ ap (λ (n : ℕ). get_or s n 0) (add-zero (1 + length serial + 2)))
      ∙ ap (λ (l : List ℕ). get_or l 0 0) rest

  amplifier-is : Amplifier block → amplifier s ≡ true
  unfolding amplifier
  amplifier-is a = rw (eq-eqb (block_length s) 9 (block-long ∙ ap length a.is), eq-eqb (get_or s (block_place s) 0) 0x00 (first-is ∙ ap (λ (l : List ℕ). get_or (l ++ x.check) 0 0) a.is))

  is-amplifier : amplifier s ≡ true → Amplifier block
  unfolding amplifier
  is-amplifier q =
      let b = both (eqb (block_length s) 9) (eqb (get_or s (block_place s) 0) 0x00) q in
      let nine : length block ≡ 9 = sym block-long ∙ eqb-true (block_length s) 9 b.0 in
      nine-bytes block nine (sym (get_or-append block x.check 0 0 (omega arith)) ∙ sym first-is ∙ eqb-true (get_or s (block_place s) 0) 0x00 b.1)

  -- what the parts say
  abbrev says : Offsets → Block
  says o = record { serial = part_at 1 (length serial); block = part_at (1 + length serial + 2) (length block); offsets = o }

  block-says : (a : Amplifier block) (o : Offsets) → SaysOffsets a o → block_of s ≡ says o
  block-says a o z =
      let last : drop (block_place s + 1) s ≡ a.b0 ∷ a.b1 ∷ a.b2 ∷ a.b3 ∷ a.b4 ∷ a.b5 ∷ a.b6 ∷ a.b7 ∷ x.check =
      ap (λ (n : ℕ). drop (1 + n + 2 + 1) s) serial-long ∙ sym (drop-drop 1 (1 + length serial + 2) s) ∙ ap (drop 1) (rest ∙ ap (λ (l : List ℕ). l ++ x.check) a.is) in
      rw (
        last,
        block-long,
        serial-long,
        says-one a.b0 o.c_west_in z.c_west_in,
        says-one a.b1 o.c_west_out z.c_west_out,
        says-one a.b2 o.c_east_in z.c_east_in,
        says-one a.b3 o.c_east_out z.c_east_out,
        says-one a.b4 o.l_west_in z.l_west_in,
        says-one a.b5 o.l_west_out z.l_west_out,
        says-one a.b6 o.l_east_in z.l_east_in,
        says-one a.b7 o.l_east_out z.l_east_out,
      )

  -- ---- what it comes to

  parts-unchecked : (RightCheck x → ⊥) → payload_says s ≡ Err 19
  unfolding payload_says
  parts-unchecked wrong = rw (parts-measured, refuted (checked s) (λ q. wrong (checked-right q)))

  parts-other : RightCheck x → (Amplifier block → ⊥) → payload_says s ≡ Err 20
  unfolding payload_says
  parts-other right other = rw (parts-measured, right-checked right, refuted (amplifier s) (λ q. other (is-amplifier q)))

  parts-block : RightCheck x → Amplifier block → payload_says s ≡ Ok (block_of s)
  unfolding payload_says
  parts-block right a = rw (parts-measured, right-checked right, amplifier-is a)

  parts-say : RightCheck x → (a : Amplifier block) (o : Offsets) → SaysOffsets a o → payload_says s ≡ Ok (says o)
  parts-say right a o z = parts-block right a ∙ ap Ok (block-says a o z)

-- ---- a payload that is measured

-- it has parts
measured-parts : (s : List ℕ) → length s ≡ 1 + serial_length s + 2 + block_length s + 4 → Parts s
measured-parts [] q = absurd (omega arith)
measured-parts (n ∷ l) q =
    let high : ℕ = get_or l n 0 in
    let low : ℕ = get_or l (suc n) 0 in
    let tail : List ℕ = drop (suc (suc n)) l in
    let one : 1 + n ≡ suc n = omega arith in
    let two : suc n + 1 ≡ suc (suc n) = omega arith in
    let size : length l ≡ n + 2 + (high * 256 + low) + 4 = (let h = rw (one, two) at q in omega arith) in
    let after : length tail ≡ high * 256 + low + 4 = omega (arith, length-drop (suc (suc n)) l) in
    let serial : length (take n l) ≡ n = length-take-le n l (omega arith) in
    let cut : l ≡ take n l ++ (high ∷ low ∷ (take (high * 256 + low) tail ++ drop (high * 256 + low) tail))
    = cc (take-append-drop n l, drop-cons l n 0 (omega arith), drop-cons l (suc n) 0 (omega arith), take-append-drop (high * 256 + low) tail) in
    record {
      serial = take n l;
      high = high;
      low = low;
      block = take (high * 256 + low) tail;
      check = drop (high * 256 + low) tail;
      is = rw serial (ap (λ (y : List ℕ). n ∷ y) (cut ∙ sym (append_assoc (take n l) (high ∷ low ∷ take (high * 256 + low) tail) (drop (high * 256 + low) tail))));
      sized = length-take-le (high * 256 + low) tail (omega arith);
      four = omega (arith, length-drop (high * 256 + low) tail);
    }

unmeasured-wrong : (s : List ℕ) → (Parts s → ⊥) → payload_says s ≡ Err 18
unfolding payload_says measured
unmeasured-wrong s none = rw (ne_eqb (length s) (1 + serial_length s + 2 + block_length s + 4) (λ q. none (measured-parts s q)))

-- ---- what is taken

taken-fits : (b : Block) (s buffer : List ℕ) → length s ≤ length buffer →
    taking (Ok b) s buffer ≡ record { answer = Ok ((length s), b); memory = s ++ drop (length s) buffer }
taken-fits b s buffer le = rw (le-leb (length s) (length buffer) le)

pub payload-rule : (s buffer : List ℕ) (t : Taking) → t ≡ taking (payload_says s) s buffer →
    PayloadRule (told_vended t.answer) (λ b. t.answer ≡ Ok ((length s), b)) t.memory s buffer
payload-rule s buffer t q =
    record {
      unmeasured = λ none. rw (q, unmeasured-wrong s none);
      unchecked = λ x wrong. rw (q, parts-unchecked x wrong);
      no_amplifier = λ x right other. rw (q, parts-other x right other);
      too_short = λ x right a lt. rw (q, parts-block x right a, lt-leb (length s) (length buffer) lt);
      given = λ x right a o z le.
          let is : t ≡ record { answer = Ok ((length s), (says x o)); memory = s ++ drop (length s) buffer }
          = q ∙ ap (λ (y : Said). taking y s buffer) (parts-say x right a o z) ∙ taken-fits (says x o) s buffer le in
          (ap (λ (y : Taking). y.answer) is, ap (λ (y : Taking). y.memory) is);
    }
