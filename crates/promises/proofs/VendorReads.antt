-- What a vendor read gives and what it is refused by, and that one payload reads the same however it is cut.
-- Assumes nothing.
use Prim.Native.Nat.{ℕ, ◌≤◌}
use mathlib.Core.Path.{◌≡◌, refl, sym, ◌∙◌}
use mathlib.Core.List.{List, []}
use mathlib.Core.Bool.{Bool, true, false}
use native.Mathlib.Omega.{arith}
use lib.ListN.{length, take, drop}
use lib.Seq.{take-append_seam}
use lib.Dec.{leb, eqb}
use borrow.Author.Tests.{leb-true, le-leb, eqb-true, eqb-false}
use Rattle.std.specs.Prelude.{Ok, Err}
use Rattle.layout.specs.Bytes.{all, refusal}
use Rattle.layout.specs.Walk.{Content}
use Rattle.layout.specs.Read.{limit}
use Rattle.layout.specs.Calls.{check_image}
use Rattle.blocks.specs.Answers.{Said}
use Rattle.blocks.specs.Payload.{payload_says}
use Rattle.blocks.specs.Vendor.{Taking, untaken, taking, read_vendor, told_vended}
use Rattle.promises.specs.Words.{Reads}
use Rattle.promises.specs.Payload.{PiecesOf, whole, Some}
use Rattle.promises.specs.Vendor.{VendorRule, VendorReads, SamePayload}
use Rattle.promises.proofs.FormatNumbers.{every}
use Rattle.promises.proofs.Telling.{check-refused}
use Rattle.promises.proofs.VendorRefused.{read_numbers, SaidLow, said-low}
use Rattle.promises.proofs.VendorAsked.{read-other, read_by}
use Rattle.promises.proofs.VendorPieces.{matching-pieces, pieces_of, take-some, read-pieces}
use Rattle.promises.proofs.VendorPayload.{payload-rule}

-- ---- one image

-- it is read by what its pieces come to together, where there are any
read_whole : (e : ℕ) (image buffer : List ℕ) (cs : List Content) (pieces : List (List ℕ)) → length buffer ≤ limit → Reads 4 e image cs → PiecesOf cs pieces → Some pieces →
    read_vendor 4 e image buffer ≡ taking (payload_says (whole pieces)) (whole pieces) buffer
read_whole e image buffer cs pieces le r ps some = read-pieces e image buffer cs pieces le r ps ∙ take-some pieces buffer some

vendor-rule : (e : ℕ) (image buffer : List ℕ) (cs : List Content) → length buffer ≤ limit → Reads 4 e image cs → VendorRule e image buffer cs
vendor-rule e image buffer cs le r =
    record {
      none = λ ps. rw (read-pieces e image buffer cs [] le r ps);
      some = λ pieces some ps. payload-rule (whole pieces) buffer (read_vendor 4 e image buffer) (read_whole e image buffer cs pieces le r ps some);
    }

pub vendor-reads : VendorReads
unfolding check_image
vendor-reads =
    record {
      refused = λ e image buffer le h. let x = check-refused 4 e image h in rw (read_by e image buffer le, x.1);
      pieces = pieces_of;
      same = λ cs pieces others p q. sym (matching-pieces p) ∙ matching-pieces q;
      accepted = vendor-rule;
    }

-- ---- two images

-- what a payload comes to where the format is 4, and 16 where it is not
abbrev whole_taken : Bool → List ℕ → List ℕ → Taking
whole_taken true s buffer = taking (payload_says s) s buffer
whole_taken false s buffer = untaken (refusal 16 0) buffer

read-any : (f e : ℕ) (image buffer : List ℕ) (cs : List Content) (pieces : List (List ℕ)) → length buffer ≤ limit → Reads f e image cs → PiecesOf cs pieces → Some pieces →
    read_vendor f e image buffer ≡ whole_taken (eqb f 4) (whole pieces) buffer
read-any f e image buffer cs pieces le r ps some = go (eqb f 4) refl
  where
    go : (b : Bool) → eqb f 4 ≡ b → read_vendor f e image buffer ≡ whole_taken b (whole pieces) buffer
    go true q = let four = eqb-true f 4 q in rw four (read_whole e image buffer cs pieces le (rw four at r) ps some)
    go false q = read-other f e image buffer (eqb-false f 4 q)

-- with room enough, no more of a buffer shows than the payload
room-alike : (b : Bool) (s buffer₁ buffer₂ : List ℕ) → length s ≤ length buffer₁ → length s ≤ length buffer₂ →
    ((whole_taken b s buffer₁).answer ≡ (whole_taken b s buffer₂).answer)
    × ((told_vended (whole_taken b s buffer₁).answer).number ≡ 0 → take (length s) (whole_taken b s buffer₁).memory ≡ take (length s) (whole_taken b s buffer₂).memory)
unfolding all
room-alike true s buffer₁ buffer₂ le₁ le₂ = go (payload_says s) (said-low s)
  where
    go : (x : Said) → SaidLow (length s) x → ((taking x s buffer₁).answer ≡ (taking x s buffer₂).answer)
        × ((told_vended (taking x s buffer₁).answer).number ≡ 0 → take (length s) (taking x s buffer₁).memory ≡ take (length s) (taking x s buffer₂).memory)
    go (Ok b) l =
        rw (le-leb (length s) (length buffer₁) le₁, le-leb (length s) (length buffer₂) le₂)
        (refl, λ _. take-append_seam s (drop (length s) buffer₁) ∙ sym (take-append_seam s (drop (length s) buffer₂)))
    go (Err n) l = (refl, λ z. absurd (let some = leb-true 1 n (every (leb 1) read_numbers n refl l) in omega arith))
room-alike false s buffer₁ buffer₂ le₁ le₂ = (refl, λ z. absurd (omega arith))

pub same-payload : SamePayload
same-payload f e₁ e₂ image₁ image₂ buffer₁ buffer₂ cs₁ cs₂ pieces₁ pieces₂ r₁ ps₁ some₁ r₂ ps₂ some₂ same fits₁ le₁ fits₂ le₂ =
    rw (read-any f e₁ image₁ buffer₁ cs₁ pieces₁ le₁ r₁ ps₁ some₁, read-any f e₂ image₂ buffer₂ cs₂ pieces₂ le₂ r₂ ps₂ some₂, ← same)
    (room-alike (eqb f 4) (whole pieces₁) buffer₁ buffer₂ fits₁ (rw (← same) at fits₂))
