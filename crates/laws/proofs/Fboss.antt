-- FBOSS v5 meets the laws.
-- Assumes nothing.
use Prim.Native.Nat.{ℕ, ◌-◌, ◌≤◌}
use mathlib.Core.Path.{◌≡◌, refl}
use mathlib.Core.List.{List, [], ◌∷◌, ◌++◌}
use mathlib.Core.Bool.{◌&&◌}
use native.Mathlib.Omega.{arith}
use lib.ListN.{length, get_or, drop, length-drop}
use lib.Seq.{take_all}
use lib.Dec.{ltb, eqb}
use borrow.Author.Tests.{ltb-false, le-ltb}
use Rattle.layout.specs.Bytes.{part}
use Rattle.layout.specs.Shape.{coded}
use Rattle.layout.specs.Fboss.{fboss, fboss_coded, fboss_opened}
use Rattle.layout.specs.Editions.{names, since_in}
use Rattle.laws.specs.Grammar.{fboss_grammar}
use Rattle.laws.proofs.Format.{Laws, Holds}
use Rattle.layout.proofs.Choices.{either, both}
use Rattle.laws.proofs.Outcomes.{OnOpened}
use Rattle.layout.proofs.Lists.{byte_at}
use Rattle.laws.proofs.Coded.{Rooms, closing-ends, coded-laws}

-- what a room tells of the image: it begins with the header, and the room is all that follows
abbrev pub FbossRoom : List ℕ → ℕ → ℕ → Type 0
FbossRoom s start end = (start ≡ 4) × (end ≡ length s) × (s ≡ 0xFB ∷ 0xFB ∷ 0x05 ∷ 0xFF ∷ drop 4 s)

-- What `fboss_opened` answers is so.
pub fboss-room : (s : List ℕ) → OnOpened (FbossRoom s) (fboss_opened s)
unfolding fboss_opened
fboss-room s =
    either (OnOpened (FbossRoom s)) (ltb (length s) 4) (λ _. tt)
    (λ long. either (OnOpened (FbossRoom s)) (eqb (get_or s 0 0) 0xFB && eqb (get_or s 1 0) 0xFB)
    (λ magic. either (OnOpened (FbossRoom s)) (eqb (get_or s 2 0) 0x05)
    (λ is5. either (OnOpened (FbossRoom s)) (eqb (get_or s 3 0) 0xFF)
    (λ isFF.
    let l : 4 ≤ length s = ltb-false (length s) 4 long in
    let m = both (eqb (get_or s 0 0) 0xFB) (eqb (get_or s 1 0) 0xFB) magic in (
      refl,
      refl,
      cc (byte_at s 0 0xFB (omega arith) m.0, byte_at s 1 0xFB (omega arith) m.1, byte_at s 2 0x05 (omega arith) is5, byte_at s 3 0xFF l isFF),
    ))
    (λ _. tt))
    (λ _. tt))
    (λ _. tt))

-- An image with these entries, a closing and a check opens to a room that holds them.
holds : (entries : List ℕ) (x y : ℕ) (t : List ℕ) → Holds (coded fboss_coded) (0xFB ∷ 0xFB ∷ 0x05 ∷ 0xFF ∷ (entries ++ (250 ∷ 2 ∷ x ∷ y ∷ t))) entries
unfolding fboss_opened part
holds entries x y t =
    let rest : List ℕ = 250 ∷ 2 ∷ x ∷ y ∷ t in
    let image : List ℕ = 0xFB ∷ 0xFB ∷ 0x05 ∷ 0xFF ∷ (entries ++ rest) in
    record {
      end = length image;
      rest = rest;
      opened = rw (le-ltb (length image) 4 (omega arith));
      room = take_all (length image - 4) (entries ++ rest) (omega arith);
      ends = λ b. closing-ends 250 2 (x ∷ y ∷ t) (λ q. omega arith) (λ q. omega arith) (omega arith);
      filled = refl;
    }

rooms : Rooms fboss_coded (λ n. Unit {0})
unfolding names since_in part
rooms =
    record {
      not0 = λ e. refl;
      not255 = λ e. refl;
      not_end = λ e. refl;
      takes_made = λ entries le. tt;
      made = λ entries t fits. holds entries _ _ t;
      sound = λ image entries rest start end o room closes long filled.
          let r = rw o at (fboss-room image) in
          let after = rw (r.0, r.1, take_all (length image - 4) (drop 4 image) (omega (arith, length-drop 4 image))) at room in
          (r.0, record { closing = 250 ∷ 2 ∷ []; rest = drop 2 rest; closes = refl; takes = tt; is = cc });
    }

pub fboss-laws : Laws fboss fboss_grammar
unfolding fboss
fboss-laws = coded-laws fboss_coded (λ n. Unit {0}) rooms
