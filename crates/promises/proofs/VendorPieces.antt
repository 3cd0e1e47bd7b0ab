-- The pieces that entries hold are those that a read joins, and an accepted image is read by the pieces of its list.
-- Assumes nothing.
use Prim.Native.Nat.{ℕ, ◌≤◌}
use mathlib.Core.Path.{◌≡◌, refl, ap, ap₂, sym, ◌∙◌}
use mathlib.Core.List.{List, [], ◌∷◌, ◌++◌, map}
use mathlib.Core.Bool.{Bool, true, false}
use lib.ListN.{length, drop, take-append-drop}
use lib.Dec.{eqb}
use borrow.Author.Tests.{eqb-true}
use Rattle.layout.specs.Bytes.{same_bytes, part, refusal}
use Rattle.layout.specs.Walk.{Content}
use Rattle.layout.specs.Read.{limit, Read}
use Rattle.layout.proofs.Choices.{false-true, refuted, both}
use Rattle.layout.proofs.Lists.{same_true}
use Rattle.blocks.specs.Payload.{prefix, matches, matching, joined, payload_says}
use Rattle.blocks.specs.Vendor.{Taking, untaken, taking, take_matching, take_read, read_vendor}
use Rattle.promises.specs.Words.{Reads}
use Rattle.promises.specs.Payload.{Holds, PiecesOf, no_entry, holds, passes, whole, Some}
use Rattle.promises.proofs.Accepting.{reads_as}
use Rattle.promises.proofs.VendorAsked.{read_by}

-- ---- an entry

holds-matches : (c : Content) (piece : List ℕ) → Holds c piece → matches c ≡ true
unfolding matches part same_bytes
holds-matches c piece h = rw (h.0, h.1)

matches-holds : (c : Content) → matches c ≡ true → Holds c (drop 5 c.value)
unfolding matches part
matches-holds c q =
    let b = both (eqb c.code 0xFD) (same_bytes (part 0 5 c.value) prefix) q in
    (eqb-true c.code 0xFD b.0, sym (take-append-drop 5 c.value) ∙ ap (λ (l : List ℕ). l ++ drop 5 c.value) (same_true (part 0 5 c.value) prefix b.1))

passes-matches : (c : Content) → ((piece : List ℕ) → Holds c piece → ⊥) → matches c ≡ false
passes-matches c none = refuted (matches c) (λ q. none (drop 5 c.value) (matches-holds c q))

-- ---- a list of entries

pub pieces_of : (cs : List Content) → (pieces : List (List ℕ)) × PiecesOf cs pieces
pieces_of [] = ([], no_entry)
pieces_of (c ∷ cs) = go (matches c) refl (pieces_of cs)
  where
    go : (b : Bool) → matches c ≡ b → (pieces : List (List ℕ)) × PiecesOf cs pieces → (pieces : List (List ℕ)) × PiecesOf (c ∷ cs) pieces
    go true q x = (drop 5 c.value ∷ x.0, holds (matches-holds c q) x.1)
    go false q x = (x.0, passes (λ piece h. false-true (sym q ∙ holds-matches c piece h)) x.1)

-- what an entry holds after the prefix
abbrev after : Content → List ℕ
after c = drop 5 c.value

pub matching-pieces : {cs : List Content} {pieces : List (List ℕ)} → PiecesOf cs pieces → map after (matching cs) ≡ pieces
unfolding matching
matching-pieces no_entry = refl
matching-pieces (holds {c} {cs} {piece} {pieces} h ps) =
    rw (holds-matches c piece h) (ap₂ (λ (x : List ℕ) (xs : List (List ℕ)). x ∷ xs) (ap (drop 5) h.1) (matching-pieces ps))
matching-pieces (passes {c} none ps) = rw (passes-matches c none) (matching-pieces ps)

joined-whole : (cs : List Content) → joined cs ≡ whole (map after cs)
unfolding joined
joined-whole [] = refl
joined-whole (c ∷ cs) = ap (λ (l : List ℕ). after c ++ l) (joined-whole cs)

-- ---- what is taken

-- 17 where there are no pieces; then what they come to together
abbrev pub take_pieces : List (List ℕ) → List ℕ → Taking
take_pieces [] buffer = untaken (refusal 17 0) buffer
take_pieces (piece ∷ pieces) buffer = taking (payload_says (whole (piece ∷ pieces))) (whole (piece ∷ pieces)) buffer

take_after : (cs : List Content) (buffer : List ℕ) → take_matching cs buffer ≡ take_pieces (map after cs) buffer
take_after [] buffer = refl
take_after (c ∷ cs) buffer = ap (λ (s : List ℕ). taking (payload_says s) s buffer) (joined-whole (c ∷ cs))

pub take-some : (pieces : List (List ℕ)) (buffer : List ℕ) → Some pieces → take_pieces pieces buffer ≡ taking (payload_says (whole pieces)) (whole pieces) buffer
take-some [] buffer none = absurd none
take-some (piece ∷ pieces) buffer some = refl

-- an image whose list says cs is read by the pieces of cs
pub read-pieces : (e : ℕ) (image buffer : List ℕ) (cs : List Content) (pieces : List (List ℕ)) → length buffer ≤ limit → Reads 4 e image cs → PiecesOf cs pieces →
    read_vendor 4 e image buffer ≡ take_pieces pieces buffer
read-pieces e image buffer cs pieces le r ps =
    let k = reads_as 4 e image cs r in
    read_by e image buffer le
    ∙ ap (λ (x : Read). take_read x buffer) k.reading.read
    ∙ ap (λ (y : List Content). take_matching (matching y) buffer) k.says
    ∙ take_after (matching cs) buffer
    ∙ ap (λ (y : List (List ℕ)). take_pieces y buffer) (matching-pieces ps)
