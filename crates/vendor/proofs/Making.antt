-- A payload that is made, its values, and a write by what is asked and counted.
-- Assumes nothing.
use Prim.Native.Nat.{ℕ, ◌+◌, ◌*◌, ◌≤◌, ◌<◌}
use mathlib.Core.Path.{◌≡◌, refl, sym, ◌∙◌}
use mathlib.Core.List.{List}
use mathlib.Core.Bool.{Bool, true, false, ◌&&◌}
use native.Mathlib.Omega.{arith}
use lib.ListN.{length, take}
use lib.Dec.{leb, eqb}
use borrow.Author.Tests.{le-leb, lt-leb, eqb-true}
use Rattle.std.specs.Prelude.{Ok, Some, None}
use Rattle.layout.specs.declared.Format.{Format}
use Rattle.layout.specs.Bytes.{if, all, refusal}
use Rattle.layout.specs.Read.{limit}
use Rattle.layout.specs.Write.{refuse, put_bytes}
use Rattle.layout.proofs.Choices.{both}
use Rattle.output.specs.Placing.{copied}
use Rattle.output.proofs.Overlay.{copied-front}
use Rattle.blocks.specs.declared.Offsets.{Offsets}
use Rattle.blocks.specs.Payload.{front, payload_of, cut_into, sum, writable}
use Rattle.blocks.specs.Vendor.{asked, write_vendor}
use Rattle.blocks.proofs.Asking.{asked-short, write-asked}
use Rattle.blocks.proofs.Lengths.{length_front, length-values}
use Rattle.vendor.specs.Pieces.{counted_by}
use Rattle.vendor.proofs.Taking.{joined-there}

-- what comes before the check is read where it was put
pub front-there : (d serial : List ℕ) (o : Offsets) → 12 + length serial ≤ length d → take (12 + length serial) (copied d 0 (front serial o)) ≡ front serial o
front-there d serial o le = joined-there d (front serial o) (12 + length serial) (sym (length_front serial o)) le

-- ---- the values

module _ (serial : List ℕ) (o : Offsets) (pieces : List ℕ) (whole : sum pieces ≡ 16 + length serial) where
  abbrev values : List ℕ
  values = cut_into pieces (payload_of serial o)

  long : length values ≡ 5 * length pieces + (16 + length serial)
  long = length-values serial o pieces whole

  pub values-short : (out : List ℕ) → length out < 5 * length pieces + (16 + length serial) → put_bytes values out ≡ refuse (refusal 12 0) out
  values-short out lt = rw (lt-leb (length values) (length out) (omega (arith, long)))

  pub values-fit : (out : List ℕ) → 5 * length pieces + (16 + length serial) ≤ length out →
      put_bytes values out ≡ record { answer = Ok (5 * length pieces + (16 + length serial)); memory = copied out 0 values }
  values-fit out le =
      let fits : length values ≤ length out = omega (arith, long) in
      rw (le-leb (length values) (length out) fits, copied-front out values fits, long)

-- ---- the call

module _ (f e : ℕ) (serial : List ℕ) (o : Offsets) (pieces out : List ℕ) where
  module _ (g : Format) (q : asked f e (length out) ≡ Ok g) where
    pub write-short : length out ≤ limit
    write-short = asked-short f e (length out) g q

    pub write-serial : 255 < length serial → write_vendor f e serial o pieces out ≡ refuse (refusal 18 0) out
    unfolding writable
    write-serial lt = write-asked f e serial o pieces out g q ∙ rw (lt-leb (length serial) 255 lt)

    module _ (le : length serial ≤ 255) where
      by-pieces : (b : Bool) → (all (λ n. leb n 250) pieces && eqb (sum pieces) (16 + length serial)) ≡ b →
          write_vendor f e serial o pieces out ≡ if b (λ _. put_bytes (cut_into pieces (payload_of serial o)) out) (λ _. refuse (refusal 18 0) out)
      unfolding writable
      by-pieces b is = write-asked f e serial o pieces out g q ∙ rw (le-leb (length serial) 255 le, is)

      pub write-wrong : counted_by pieces (16 + length serial) ≡ None → write_vendor f e serial o pieces out ≡ refuse (refusal 18 0) out
      write-wrong w = go (all (λ n. leb n 250) pieces && eqb (sum pieces) (16 + length serial)) refl w
        where
          go : (b : Bool) → (all (λ n. leb n 250) pieces && eqb (sum pieces) (16 + length serial)) ≡ b → if b (λ _. Some (length pieces)) (λ _. None) ≡ None →
              write_vendor f e serial o pieces out ≡ refuse (refusal 18 0) out
          go true is w = let z : ◌≡◌ {A = ℕ} 0 1 = cc in absurd (omega arith)
          go false is w = by-pieces false is

      -- the pieces are those of the payload
      pub record Fitting (n : ℕ) : Type 0 where
        pub count : n ≡ length pieces
        pub total : sum pieces ≡ 16 + length serial
        pub is : write_vendor f e serial o pieces out ≡ put_bytes (cut_into pieces (payload_of serial o)) out

      pub write-right : (n : ℕ) → counted_by pieces (16 + length serial) ≡ Some n → Fitting n
      write-right n w = go (all (λ n. leb n 250) pieces && eqb (sum pieces) (16 + length serial)) refl w
        where
          go : (b : Bool) → (all (λ n. leb n 250) pieces && eqb (sum pieces) (16 + length serial)) ≡ b → if b (λ _. Some (length pieces)) (λ _. None) ≡ Some n → Fitting n
          go true is w = record { count = cc; total = eqb-true (sum pieces) (16 + length serial) (both (all (λ n. leb n 250) pieces) (eqb (sum pieces) (16 + length serial)) is).1; is = by-pieces true is }
          go false is w = let z : ◌≡◌ {A = ℕ} 0 1 = cc in absurd (omega arith)
