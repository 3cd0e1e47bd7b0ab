-- Every number that a format gives is one of a bad frame: for an entry's head, for its length, for the image's header.
-- Assumes nothing.
use Prim.Native.Nat.{ℕ, zero, suc, ◌+◌, ◌*◌, ◌-◌, ◌≤◌}
use mathlib.Core.Path.{◌≡◌, refl}
use mathlib.Core.List.{List, [], ◌∷◌}
use mathlib.Core.Bool.{Bool, true, false, ◌&&◌}
use native.Mathlib.Omega.{arith}
use lib.ListN.{length, get_or}
use lib.Dec.{ltb, leb, eqb}
use borrow.Author.Tests.{eqb-true, leb-true}
use Rattle.std.specs.Prelude.{Ok, Err, Some, None}
use Rattle.layout.specs.declared.Format.{Format}
use Rattle.layout.specs.declared.Format.TheVariants.{Fboss, Vpd, Tiny, Onie}
use Rattle.layout.specs.Answers.{Chosen, Headed, Length, Next, Opened}
use Rattle.layout.specs.declared.Head.{Head}
use Rattle.layout.specs.Bytes.{if, between, all, one_of, same_bytes, part}
use Rattle.layout.specs.Shape.{byte_length, on_length, on_head, next, coded_head}
use Rattle.layout.specs.Fboss.{fboss, fboss_opened}
use Rattle.layout.specs.Vpd.{vpd, groups, keyed_head, vpd_head}
use Rattle.layout.specs.Tiny.{tiny, tiny_opened, tiny_head, tiny_length}
use Rattle.layout.specs.Onie.{onie, tlv_info, declared, most_declared, onie_opened}
use Rattle.layout.specs.Editions.{shape, known_edition, with_edition, chosen}
use Rattle.layout.proofs.Choices.{false-true, either, both}
use Rattle.promises.specs.FramesAlike.{frame_numbers}

-- one of these numbers, and a place that is not beyond `most`
pub record Low (numbers : List ℕ) (most n p : ℕ) : Type 0 where
  pub number : one_of numbers n ≡ true
  pub place : p ≤ most

-- what passes for each number of a list passes for a number that is one of them
pub every : (t : ℕ → Bool) (numbers : List ℕ) (n : ℕ) → all t numbers ≡ true → one_of numbers n ≡ true → t n ≡ true
unfolding all one_of
every t [] n a h = false-true h
every t (x ∷ xs) n a h = let b = both (t x) (all t xs) a in go (eqb n x) refl h b.0 (every t xs n b.1)
  where
    go : (u : Bool) → eqb n x ≡ u → if u (λ _. true) (λ _. one_of xs n) ≡ true → t x ≡ true → (one_of xs n ≡ true → t n ≡ true) → t n ≡ true
    go true e h i rest = rw (eqb-true n x e) i
    go false e h i rest = rest h

-- a number of a list that has none but 1 to 23 is one of those: never the 0 of an answer that is not refused
pub tabled : (numbers : List ℕ) (n : ℕ) → all (between 1 23) numbers ≡ true → one_of numbers n ≡ true → (1 ≤ n) × (n ≤ 23)
tabled numbers n a h = let c = both (leb 1 n) (leb n 23) (every (between 1 23) numbers n a h) in (leb-true 1 n c.0, leb-true n 23 c.1)

abbrev HeadNumber : Headed → Type 0
HeadNumber (Ok (Some h)) = Unit {0}
HeadNumber (Ok None) = Unit {0}
HeadNumber (Err n) = one_of frame_numbers n ≡ true

abbrev LengthNumber : Length → Type 0
LengthNumber (Ok (v, j)) = Unit {0}
LengthNumber (Err n) = one_of frame_numbers n ≡ true

abbrev pub NextNumber : Next → Type 0
NextNumber (Ok (Some f)) = Unit {0}
NextNumber (Ok None) = Unit {0}
NextNumber (Err n) = one_of frame_numbers n ≡ true

-- the place of a header that is refused is one of its own
abbrev pub OpenedLow : Opened → Type 0
OpenedLow (Ok (start, end)) = Unit {0}
OpenedLow (Err r) = Low frame_numbers 9 r.number r.place.0

abbrev pub ChosenNumber : List ℕ → Chosen → Type 0
ChosenNumber numbers (Ok f) = Unit {0}
ChosenNumber numbers (Err n) = one_of numbers n ≡ true

-- ---- lengths

byte-number : (h : Head) (s : List ℕ) → LengthNumber (byte_length h s)
unfolding one_of
byte-number h s = either LengthNumber (ltb h.at (length s)) (λ _. tt) (λ _. refl)

groups-number : (k n j : ℕ) (s : List ℕ) → LengthNumber (groups k n j s)
unfolding groups one_of
groups-number zero n j s = refl
groups-number (suc k) n j s =
    either LengthNumber (ltb j (length s))
    (λ _. either LengthNumber (ltb (get_or s j 0) 128) (λ _. tt) (λ _. groups-number k (n * 128 + (get_or s j 0 - 128)) (j + 1) s))
    (λ _. refl)

length-number : (f : Format) (h : Head) (s : List ℕ) → LengthNumber ((shape f).vlen h s)
unfolding fboss vpd tiny onie tiny_length
length-number Fboss h s = byte-number h s
length-number Vpd h s = groups-number 4 0 h.at s
length-number Tiny h s = either LengthNumber (ltb h.code 16) (λ _. byte-number h s) (λ _. tt)
length-number Onie h s = byte-number h s

-- ---- heads

keyed-number : (x : Length) (s : List ℕ) → LengthNumber x → HeadNumber (keyed_head x s)
unfolding one_of
keyed-number (Ok (n, j)) s l = either HeadNumber (leb (j + n) (length s)) (λ _. tt) (λ _. refl)
keyed-number (Err n) s l = l

coded-number : (end size : ℕ) (s : List ℕ) → HeadNumber (coded_head end size s)
unfolding coded_head one_of
coded-number end size s =
    either HeadNumber (ltb 0 (length s))
    (λ _. either HeadNumber (eqb (get_or s 0 0) 0) (λ _. refl)
    (λ _. either HeadNumber (eqb (get_or s 0 0) 255) (λ _. refl)
    (λ _. either HeadNumber (eqb (get_or s 0 0) end)
    (λ _. either HeadNumber (ltb 1 (length s))
    (λ _. either HeadNumber (eqb (get_or s 1 0) size) (λ _. either HeadNumber (leb (2 + size) (length s)) (λ _. tt) (λ _. refl)) (λ _. refl))
    (λ _. refl))
    (λ _. tt))))
    (λ _. refl)

head-number : (f : Format) (b : Bool) (s : List ℕ) → HeadNumber ((shape f).head b s)
unfolding fboss vpd tiny onie vpd_head tiny_head one_of
head-number Fboss b s = coded-number 250 2 s
head-number Vpd b s =
    either HeadNumber (ltb 0 (length s))
    (λ _. either HeadNumber (eqb (get_or s 0 0) 0x00) (λ _. tt)
    (λ _. either HeadNumber (eqb (get_or s 0 0) 0xFF) (λ _. tt)
    (λ _. either HeadNumber (eqb (get_or s 0 0) 0x01) (λ _. keyed-number (groups 4 0 1 s) s (groups-number 4 0 1 s))
    (λ _. either HeadNumber (eqb (get_or s 0 0) 0xFE) (λ _. keyed-number (groups 4 0 1 s) s (groups-number 4 0 1 s)) (λ _. refl)))))
    (λ _. refl)
head-number Tiny b s =
    either HeadNumber (ltb 0 (length s))
    (λ _. either HeadNumber b (λ _. refl) (λ _. either HeadNumber (eqb (get_or s 0 0) 0x00) (λ _. refl) (λ _. tt)))
    (λ _. tt)
head-number Onie b s = coded-number 0xFE 4 s

pub next-number : (f : Format) (b : Bool) (s : List ℕ) → NextNumber (next (shape f) b s)
unfolding next one_of
next-number f b s = heads ((shape f).head b s) (head-number f b s)
  where
    lengths : (h : Head) (x : Length) → LengthNumber x → NextNumber (on_length x h s)
    lengths h (Ok (v, j)) l = either NextNumber (leb (j + v) (length s)) (λ _. tt) (λ _. refl)
    lengths h (Err n) l = l

    heads : (x : Headed) → HeadNumber x → NextNumber (on_head x (shape f) s)
    heads (Ok (Some h)) l = lengths h ((shape f).vlen h s) (length-number f h s)
    heads (Ok None) l = tt
    heads (Err n) l = l

-- ---- headers

pub opened-low : (f : Format) (s : List ℕ) → OpenedLow ((shape f).opened s)
unfolding fboss vpd tiny onie fboss_opened tiny_opened onie_opened one_of
opened-low Fboss s =
    either OpenedLow (ltb (length s) 4) (λ _. record { number = refl; place = omega arith })
    (λ _. either OpenedLow (eqb (get_or s 0 0) 0xFB && eqb (get_or s 1 0) 0xFB)
    (λ _. either OpenedLow (eqb (get_or s 2 0) 0x05)
    (λ _. either OpenedLow (eqb (get_or s 3 0) 0xFF) (λ _. tt) (λ _. record { number = refl; place = omega arith }))
    (λ _. record { number = refl; place = omega arith }))
    (λ _. record { number = refl; place = omega arith }))
opened-low Vpd s = tt
opened-low Tiny s =
    either OpenedLow (ltb (length s) 3) (λ _. record { number = refl; place = omega arith })
    (λ _. either OpenedLow (eqb (get_or s 0 0) 0x56)
    (λ _. either OpenedLow (eqb (get_or s 1 0) 0x02)
    (λ _. either OpenedLow (leb 4 (get_or s 2 0) && leb (get_or s 2 0) (length s)) (λ _. tt) (λ _. record { number = refl; place = omega arith }))
    (λ _. record { number = refl; place = omega arith }))
    (λ _. record { number = refl; place = omega arith }))
opened-low Onie s =
    either OpenedLow (ltb (length s) 11) (λ _. record { number = refl; place = omega arith })
    (λ _. either OpenedLow (same_bytes (part 0 8 s) tlv_info)
    (λ _. either OpenedLow (eqb (get_or s 8 0) 0x01)
    (λ _. either OpenedLow (leb (declared s) most_declared && leb (11 + declared s) (length s) && ltb (get_or s 10 0) 256)
    (λ _. tt)
    (λ _. record { number = refl; place = omega arith }))
    (λ _. record { number = refl; place = omega arith }))
    (λ _. record { number = refl; place = omega arith }))

-- ---- formats and editions

-- a list that has 16 and 1 has every number of a format or an edition
module _ (numbers : List ℕ) (sixteen : one_of numbers 16 ≡ true) (one : one_of numbers 1 ≡ true) where
  with_number : (e : ℕ) (f : Format) → ChosenNumber numbers (with_edition e f)
  with_number e f = either (ChosenNumber numbers) (known_edition e) (λ _. either (ChosenNumber numbers) (leb (shape f).edition e) (λ _. tt) (λ _. sixteen)) (λ _. one)

  pub chosen-number : (f e : ℕ) → ChosenNumber numbers (chosen f e)
  unfolding chosen
  chosen-number f e =
      either (ChosenNumber numbers) (eqb f 1) (λ _. with_number e Fboss)
      (λ _. either (ChosenNumber numbers) (eqb f 2) (λ _. with_number e Vpd)
      (λ _. either (ChosenNumber numbers) (eqb f 3) (λ _. with_number e Tiny)
      (λ _. either (ChosenNumber numbers) (eqb f 4) (λ _. with_number e Onie) (λ _. sixteen))))
