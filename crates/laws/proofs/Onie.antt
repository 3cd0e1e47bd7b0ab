-- ONIE meets the laws.
-- Assumes nothing.
use Prim.Native.Nat.{ℕ, ◌+◌, ◌*◌, ◌-◌, ◌/◌, ◌%◌, ◌≤◌, ◌<◌}
use mathlib.Core.Path.{◌≡◌, refl, ap, sym, ◌∙◌}
use mathlib.Core.List.{List, [], ◌∷◌, ◌++◌, append_assoc}
use mathlib.Core.Bool.{Bool, true, false, ◌&&◌}
use native.Mathlib.Omega.{arith}
use lib.ListN.{length, get_or, take, drop, length-append, take-append-drop}
use lib.Seq.{drop-cons, take_at}
use lib.Dec.{ltb, leb, eqb}
use borrow.Author.Tests.{ltb-true, ltb-false, lt-ltb, le-ltb, leb-true, le-leb, eqb-true, eq-eqb}
use Rattle.layout.specs.Bytes.{if, same_bytes, part}
use Rattle.layout.specs.Shape.{fine, faulty, coded}
use Rattle.layout.specs.Onie.{onie, onie_coded, tlv_info, declared, most_declared, onie_opened, onie_filled, onie_check}
use Rattle.layout.specs.Editions.{names, since_in}
use Rattle.layout.specs.Write.{image_of}
use Rattle.laws.specs.Grammar.{onie_grammar}
use Rattle.laws.proofs.Format.{Laws, Holds}
use Rattle.layout.proofs.Choices.{either, both}
use Rattle.laws.proofs.Outcomes.{OnOpened}
use Rattle.layout.proofs.Lists.{byte_at, same_true}
use Rattle.laws.proofs.Coded.{Rooms, closing-ends, coded-laws}

-- what a room tells of the image: it begins with the header, and the room ends where the declared length says
pub record OnieRoom (s : List ℕ) (start end : ℕ) : Type 0 where
  pub starts : start ≡ 11
  pub ends : end ≡ 11 + declared s
  pub most : declared s ≤ 2048
  pub inside : 11 + declared s ≤ length s
  pub low : get_or s 10 0 < 256
  pub is : s ≡ tlv_info ++ (0x01 ∷ get_or s 9 0 ∷ get_or s 10 0 ∷ drop 11 s)

-- What `onie_opened` answers is so.
pub onie-room : (s : List ℕ) → OnOpened (OnieRoom s) (onie_opened s)
unfolding onie_opened part
onie-room s =
    either (OnOpened (OnieRoom s)) (ltb (length s) 11) (λ _. tt)
    (λ long. either (OnOpened (OnieRoom s)) (same_bytes (take 8 s) tlv_info)
    (λ magic. either (OnOpened (OnieRoom s)) (eqb (get_or s 8 0) 0x01)
    (λ is1. either (OnOpened (OnieRoom s)) (leb (declared s) most_declared && leb (11 + declared s) (length s) && ltb (get_or s 10 0) 256)
    (λ fits.
    let l : 11 ≤ length s = ltb-false (length s) 11 long in
    let a = both (leb (declared s) most_declared && leb (11 + declared s) (length s)) (ltb (get_or s 10 0) 256) fits in
    let b = both (leb (declared s) most_declared) (leb (11 + declared s) (length s)) a.0 in
    let front : take 8 s ≡ tlv_info = same_true (take 8 s) tlv_info magic in
    record {
      starts = refl;
      ends = refl;
      most = leb-true (declared s) most_declared b.0;
      inside = leb-true (11 + declared s) (length s) b.1;
      low = ltb-true (get_or s 10 0) 256 a.1;
      is = cc (take-append-drop 8 s, front, byte_at s 8 0x01 (omega arith) is1, drop-cons s 9 0 (omega arith), drop-cons s 10 0 (omega arith));
    })
    (λ _. tt))
    (λ _. tt))
    (λ _. tt))

-- where nothing is wrong, the room ends six bytes after the entries
filled-six : (p end : ℕ) → onie_filled p end ≡ fine → p + 6 ≡ end
unfolding onie_filled
filled-six p end f = go (eqb (p + 6) end) refl f
  where
    go : (b : Bool) → eqb (p + 6) end ≡ b → if b (λ _. fine) (λ _. faulty 5 9) ≡ fine → p + 6 ≡ end
    go true q f = eqb-true (p + 6) end q
    go false q f = let z : ◌≡◌ {A = ℕ} 0 1 = cc in absurd (omega arith)

-- An image with these entries, a closing and a check opens to a room that holds them.
holds : (entries : List ℕ) (w x y z : ℕ) (t : List ℕ) → length entries + 6 ≤ 2048 →
    Holds (coded onie_coded) (onie_coded.header (length entries) ++ (entries ++ (0xFE ∷ 0x04 ∷ w ∷ x ∷ y ∷ z ∷ t))) entries
unfolding onie_opened onie_filled part same_bytes
holds entries w x y z t fits =
    let n = length entries + 6 in
    let rest : List ℕ = 0xFE ∷ 0x04 ∷ w ∷ x ∷ y ∷ z ∷ [] in
    let image : List ℕ = onie_coded.header (length entries) ++ (entries ++ (0xFE ∷ 0x04 ∷ w ∷ x ∷ y ∷ z ∷ t)) in
    let long : length image ≡ 11 + (length entries + (6 + length t)) = omega (arith, length-append entries (0xFE ∷ 0x04 ∷ w ∷ x ∷ y ∷ z ∷ t)) in
    let says : n / 256 * 256 + n % 256 ≡ n = omega arith in
    record {
      end = 11 + n;
      rest = rest;
      opened = rw (le-ltb (length image) 11 (omega arith), says, le-leb n 2048 fits, le-leb (11 + n) (length image) (omega arith), lt-ltb (n % 256) 256 (omega arith));
      room = ap (take (11 + n - 11)) (sym (append_assoc entries rest t)) ∙ take_at (entries ++ rest) t (11 + n - 11) (omega (arith, length-append entries rest));
      ends = λ b. closing-ends 0xFE 4 (w ∷ x ∷ y ∷ z ∷ []) (λ q. omega arith) (λ q. omega arith) (omega arith);
      filled = rw (eq-eqb (11 + length entries + 6) (11 + n) (omega arith));
    }

rooms : Rooms onie_coded (λ n. n + 6 ≤ 2048)
unfolding names since_in part onie_check image_of
rooms =
    record {
      not0 = λ e. refl;
      not255 = λ e. refl;
      not_end = λ e. refl;
      takes_made = λ entries le. omega (arith, length-append entries (0xFE ∷ 0x04 ∷ onie_check (onie_coded.header (length entries) ++ entries)));
      made = λ entries t fits. holds entries _ _ _ _ t fits;
      sound = λ image entries rest start end o room closes long filled.
          let r = rw o at (onie-room image) in
          let D = 11 + declared image - 11 in
          let beyond = drop D (drop 11 image) in
          let six : length entries + 6 ≡ declared image = omega (arith, filled-six (start + length entries) end filled, r.starts, r.ends) in
          let high : (length entries + 6) / 256 ≡ get_or image 9 0 = omega (arith, r.low) in
          let low : (length entries + 6) % 256 ≡ get_or image 10 0 = omega (arith, r.low) in
          let front : take D (drop 11 image) ≡ entries ++ rest = rw (r.starts, r.ends) at room in
          let after : drop 11 image ≡ entries ++ (rest ++ beyond)
          = sym (take-append-drop D (drop 11 image)) ∙ ap (λ (l : List ℕ). l ++ beyond) front ∙ append_assoc entries rest beyond in
          let closed : rest ++ beyond ≡ 0xFE ∷ 0x04 ∷ (drop 2 rest ++ beyond) = ap (λ (l : List ℕ). l ++ beyond) closes in
          (r.starts, record { closing = 0xFE ∷ 0x04 ∷ []; rest = drop 2 rest ++ beyond; closes = refl; takes = omega (arith, r.most); is = cc (r.is, after, closed, high, low) });
    }

pub onie-laws : Laws onie onie_grammar
unfolding onie
onie-laws = coded-laws onie_coded (λ n. n + 6 ≤ 2048) rooms
