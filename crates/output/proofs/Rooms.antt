-- What opens an entry and a value, where there is room for them.
-- Assumes nothing.
use Prim.Native.Nat.{ℕ, ◌+◌, ◌≤◌, ◌<◌}
use mathlib.Core.Path.{◌≡◌, refl, ap, sym, ◌∙◌}
use mathlib.Core.List.{List, ◌++◌}
use mathlib.Core.Bool.{Bool, true, false, ◌&&◌, and_assoc, and-false}
use native.Mathlib.Omega.{arith}
use borrow.Author.Tests.{lt-ltb, le-ltb, le-leb, leb-true}
use lib.ListN.{length, length-append}
use lib.Dec.{ltb, leb}
use Rattle.layout.specs.Shape.{Shape}
use Rattle.layout.specs.Read.{limit}
use Rattle.layout.proofs.Choices.{both}
use Rattle.output.specs.Lengths.{capped, has_room}
use Rattle.output.specs.Placing.{copied, placed, opening_placed, value_placed}
use Rattle.output.proofs.Lengths.{capped-min, fits-alike}
use Rattle.output.proofs.Overlay.{length-copied, copied-then}

module _ (room a n : ℕ) where
  pub room-known : has_room room a n ≡ true → (room ≤ limit) × (a + n ≤ room)
  unfolding has_room
  room-known e = let p = both (leb room limit) (leb (a + n) room) e in (leb-true room limit p.0, leb-true (a + n) room p.1)

  -- The answer of a test of a length that was cut off.
  pub room-is : {m : ℕ} {t u : Bool} → m ≡ capped n → t ≡ has_room room a m → t ≡ u → has_room room a n ≡ u
  unfolding has_room
  room-is {m} cut test is = go (leb room limit) refl ∙ sym test ∙ is
    where
      go : (w : Bool) → leb room limit ≡ w → (w && leb (a + n) room) ≡ (w && leb (a + m) room)
      go true e = fits-alike (a + n) (a + m) room (leb-true room limit e) (omega (arith, capped-min n))
      go false e = refl

module _ (d : List ℕ) (a : ℕ) (s : List ℕ) (ok : Bool) where
  placed-nowhere : has_room (length d) a (length s) ≡ false → d ≡ placed (ok && leb (length d) limit) d a s
  unfolding has_room
  placed-nowhere e = rw (and_assoc, e, and-false)

module _ (S : Shape) (d : List ℕ) (a c : ℕ) (s : List ℕ) where
  -- what opens an entry with the key s

  pub opening-copied : c < 256 → length d ≤ limit → opening_placed S d a c s ≡ copied d a (S.opening c s)
  unfolding opening_placed copied
  opening-copied lt le = rw (lt-ltb c 256 lt, le-leb (length d) limit le)

  pub opening-nowhere : has_room (length d) a (length (S.opening c s)) ≡ false → d ≡ opening_placed S d a c s
  unfolding opening_placed
  opening-nowhere e = placed-nowhere d a (S.opening c s) (ltb c 256) e

  pub opening-not : 256 ≤ c → d ≡ opening_placed S d a c s
  unfolding opening_placed
  opening-not le = rw (le-ltb c 256 le)

  -- the value s

  pub value-copied : S.length_rule c (length s) ≡ true → length d ≤ limit → value_placed S d a c s ≡ copied d a (S.lens c (length s) ++ s)
  unfolding value_placed copied
  value-copied r le = rw (r, le-leb (length d) limit le)

  pub value-nowhere : has_room (length d) a (length (S.lens c (length s)) + length s) ≡ false → d ≡ value_placed S d a c s
  unfolding value_placed
  value-nowhere e = placed-nowhere d a (S.lens c (length s) ++ s) (S.length_rule c (length s)) (rw length-append e)

  pub value_not : S.length_rule c (length s) ≡ false → d ≡ value_placed S d a c s
  unfolding value_placed
  value_not r = rw r

-- what opens an entry, and its value side by side with it, are the entry; the length of the first is cut off
pub entry-copied : (S : Shape) (c : ℕ) (key v d : List ℕ) (a : ℕ) {d₁ d₂ : List ℕ} {k next : ℕ} → length d ≤ limit → (c < 256) × (S.length_rule c (length v) ≡ true) →
    a + length (S.opening c key ++ (S.lens c (length v) ++ v)) ≤ length d → k ≡ capped (length (S.opening c key)) → d₁ ≡ opening_placed S d a c key → next ≡ a + k → d₂ ≡ value_placed S d₁ next c v →
    d₂ ≡ copied d a (S.opening c key ++ (S.lens c (length v) ++ v))
entry-copied S c key v d a {d₁ = d₁} {next = next} short ok fits cut p n r =
    let o = S.opening c key in
    let w = S.lens c (length v) ++ v in
    let opened = p ∙ opening-copied S d a c key ok.0 short in
    let same : length d₁ ≡ length d = ap length opened ∙ length-copied d a o in
    copied-then d a o w opened (r ∙ value-copied S d₁ next c v ok.1 (omega arith)) fits (omega (arith, length-append o w, capped-min (length o)))
