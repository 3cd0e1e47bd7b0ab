-- What a vendor write put out reads back.
-- Assumes nothing.
use Prim.Native.Nat.{ℕ, ◌+◌, ◌≤◌, ◌<◌}
use mathlib.Core.Path.{◌≡◌, refl, ap, ap₂, sym, ◌∙◌}
use mathlib.Core.List.{List, [], ◌∷◌}
use native.Mathlib.Omega.{arith}
use lib.ListN.{length, take, drop}
use lib.Seq.{take_at, take-append_seam, drop-append_seam}
use Rattle.std.specs.Prelude.{Ok}
use Rattle.layout.specs.Bytes.{part, part_at}
use Rattle.layout.specs.Walk.{Content}
use Rattle.layout.specs.Read.{limit}
use Rattle.blocks.specs.declared.Offsets.{Offsets}
use Rattle.blocks.specs.Vendor.{read_vendor, write_vendor}
use Rattle.promises.specs.Words.{Reads}
use Rattle.promises.specs.Payload.{PiecesOf, whole, Some, Parts, RightCheck, Amplifier, SaysOffsets}
use Rattle.promises.specs.Vendor.{Values, no_value, value, VendorRoundTrip}
use Rattle.promises.proofs.VendorPayload.{parts-long, serial-there}
use Rattle.promises.proofs.VendorReads.{vendor-reads}
use Rattle.promises.proofs.VendorWrites.{write_done, vendor-writes}

-- ---- the pieces of values

-- what stands after the prefix of each
abbrev cut_after : List ℕ → List ℕ → List (List ℕ)
cut_after [] v = []
cut_after (n ∷ ns) v = take n (drop 5 v) ∷ cut_after ns (drop n (drop 5 v))

values-cut : {ns : List ℕ} {pieces : List (List ℕ)} {v : List ℕ} → Values ns pieces v → pieces ≡ cut_after ns v
values-cut no_value = refl
values-cut (value {lengths} {piece} {pieces} {rest} vs) =
    ap₂ (λ (x : List ℕ) (xs : List (List ℕ)). x ∷ xs) (sym (take-append_seam piece rest)) (values-cut vs ∙ ap (cut_after lengths) (sym (drop-append_seam piece rest)))

-- pieces that have a byte are some
some-whole : (pieces : List (List ℕ)) → 0 < length (whole pieces) → Some pieces
some-whole [] lt = absurd (omega arith)
some-whole (piece ∷ pieces) lt = tt

-- a payload of these parts reads back, in every accepted image whose pieces are together that payload
reads-back : (e : ℕ) (image buffer : List ℕ) (cs : List Content) (pieces : List (List ℕ)) (o : Offsets) → Reads 4 e image cs → PiecesOf cs pieces →
    (x : Parts (whole pieces)) → RightCheck x → (a : Amplifier x.block) → SaysOffsets a o → 16 + length x.serial ≤ length buffer → length buffer ≤ limit →
    ((read_vendor 4 e image buffer).answer
    ≡ Ok ((16 + length x.serial), (record { serial = part_at 1 (length x.serial); block = part_at (1 + length x.serial + 2) 9; offsets = o })))
    × (part 1 (length x.serial) (read_vendor 4 e image buffer).memory ≡ x.serial)
reads-back e image buffer cs pieces o r ps x right a z fits le =
    let nine : length x.block ≡ 9 = ap length a.is in
    let size : length (whole pieces) ≡ 16 + length x.serial = omega (arith, parts-long x) in
    let some = some-whole pieces (omega arith) in
    let g = ((vendor-reads.accepted e image buffer cs le r).some pieces some ps).given x right a o z (omega arith) in
    (rw (size, nine) at g.0, ap (part 1 (length x.serial)) g.1 ∙ serial-there x (drop (length (whole pieces)) buffer))

pub vendor-round-trip : VendorRoundTrip
vendor-round-trip f e serial o lengths out n z q e' image buffer cs pieces r ps vs fits le =
    let w = vendor-writes.puts f e serial o lengths out n z q in
    let four : f ≡ 4 = (write_done f e serial o lengths out n q).four in
    let values : take n (write_vendor f e serial o lengths out).memory ≡ w.values = ap (take n) w.filled ∙ take_at w.values (drop n out) n (sym w.long) in
    let same : pieces ≡ w.pieces = values-cut vs ∙ ap (cut_after lengths) values ∙ sym (values-cut w.cut) in
    rw (four, ← w.serial_is)
    (reads-back e' image buffer cs w.pieces o (rw four at r) (rw same at ps) w.parts w.right w.block w.offsets (rw (← w.serial_is) at fits) le)
