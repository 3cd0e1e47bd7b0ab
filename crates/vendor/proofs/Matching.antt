-- The piece of an entry, where it matches, and what std compares.
-- Assumes nothing.
use Prim.Native.Nat.{ℕ, ◌+◌, ◌-◌}
use mathlib.Core.Path.{◌≡◌, refl, sym, ◌∙◌}
use mathlib.Core.List.{List, [], ◌∷◌}
use mathlib.Core.Bool.{Bool, true, false, ◌&&◌}
use native.Mathlib.Omega.{arith}
use lib.ListN.{length, take, drop, length-drop, drop_of_length-le}
use lib.Dec.{eqb}
use lib.Pointwise.{pointwise}
use borrow.Author.Tests.{ne_eqb}
use Rattle.std.proofs.Common.{Bor}
use Rattle.std.specs.Prelude.{Some, None, MatchOption}
use Rattle.std.specs.declared.option.Option.{Option}
use Rattle.std.specs.Option.{option_copied, unwrap_or}
use Rattle.std.specs.Slice.{IsGetRangeResult}
use Rattle.std.proofs.Common.{inl, inr}
use lib.Seq.{take_all}
use Rattle.layout.specs.Bytes.{if, same_bytes, part}
use Rattle.layout.specs.Walk.{Content}
use Rattle.blocks.specs.Payload.{prefix, matches}
use Rattle.vendor.specs.Pieces.{piece_in}

-- A comparison of two slices answers as the definition does.
pub same_listed : (x y : List ℕ) → pointwise eqb x y ≡ same_bytes x y
unfolding same_bytes
same_listed [] [] = refl
same_listed [] (b ∷ y) = refl
same_listed (a ∷ x) [] = refl
same_listed (a ∷ x) (b ∷ y) = go (eqb a b) (same_listed x y)
  where
    go : (t : Bool) {p q : Bool} → p ≡ q → (t && p) ≡ if t (λ _. q) (λ _. false)
    go true e = e
    go false e = refl

-- An entry of another code has no piece.
pub other-code : (c : Content) → (c.code ≡ 0xFD → ⊥) → None ≡ piece_in c
unfolding matches
other-code c other = rw (ne_eqb c.code 0xFD other)

-- What is left of a value behind the prefix is its piece.
pub stripped : (key value : List ℕ) (r : Option (Bor (List ℕ))) →
    MatchOption r (pointwise eqb (take 5 value) prefix ≡ false) (λ x. (pointwise eqb (take 5 value) prefix ≡ true) × (x.now ≡ drop 5 value) × (length x.now + 5 ≡ length value)) →
    option_copied r ≡ piece_in (record { code = 0xFD; key = key; value = value })
unfolding matches part
stripped key value None e = rw (← same_listed (take 5 value) prefix, e)
stripped key value (Some x) (e, is, l) = rw (← same_listed (take 5 value) prefix, e, is)

-- What `get` has from a place on, and no bytes past the end, are the bytes from there on.
pub got-from : (s : List ℕ) (at : ℕ) (r : Option (Bor (List ℕ))) (none : Bor (List ℕ)) → IsGetRangeResult s at (length s) r → none.now ≡ [] → (unwrap_or r none).now ≡ drop at s
got-from s at None none (inl lt, some) e = e ∙ sym (drop_of_length-le s {i = at} (omega arith))
got-from s at None none (inr lt, some) e = absurd (omega arith)
got-from s at (Some x) none ((le, end, is, long), some) e = is ∙ take_all (length s - at) (drop at s) (omega (arith, length-drop at s))
