-- A vendor read where less than a block is lent, and where one is.
-- Assumes nothing.
use Prim.Native.Nat.{ℕ, ◌≤◌, ◌<◌}
use mathlib.Core.Path.{◌≡◌, refl, ap, sym, ◌∙◌}
use mathlib.Core.List.{List, [], ◌∷◌, ◌++◌, map}
use mathlib.Core.Bool.{Bool, true, false}
use native.Mathlib.Omega.{arith}
use lib.ListN.{length, drop}
use lib.Dec.{ltb, leb, eqb}
use borrow.Author.Tests.{le-leb, lt-leb}
use Rattle.std.specs.Prelude.{Ok, Err}
use Rattle.layout.specs.declared.Format.{Format}
use Rattle.layout.specs.Answers.{Chosen}
use Rattle.layout.specs.Bytes.{if, refusal}
use Rattle.layout.specs.Editions.{chosen}
use Rattle.layout.specs.Walk.{Content, content}
use Rattle.layout.specs.Read.{limit, Read, accepted, refused, read_image}
use Rattle.output.specs.Placing.{copied}
use Rattle.blocks.specs.declared.Block.{Block}
use Rattle.blocks.specs.Answers.{Said}
use Rattle.blocks.specs.Payload.{matching, joined, payload_says}
use Rattle.blocks.specs.Vendor.{ask_chosen, asked, untaken, taking, take_matching, take_read, read_vendor}
use Rattle.blocks.proofs.Asking.{read-unasked, read_asked}
use Rattle.output.proofs.Overlay.{copied-front}
use Rattle.records.specs.Words.{block_bytes}
use Rattle.records.specs.Exports.{VendorGiven, ungiven, unlent, vendor_given, vendor_read_call}
use Rattle.records.proofs.Words.{length-block}

-- ---- less than a block is lent

-- what refuses it does not go by the buffer
module _ (a b : List ℕ) where
  by-room : (s t : Bool) (n : ℕ) (x : Block) (p : List ℕ) →
      unlent (if s (λ _. record { answer = Ok (n, x); memory = p ++ drop n a }) (λ _. untaken (refusal 12 0) a)).answer
      ≡ unlent (if t (λ _. record { answer = Ok (n, x); memory = p ++ drop n b }) (λ _. untaken (refusal 12 0) b)).answer
  by-room true true n x p = refl
  by-room true false n x p = refl
  by-room false true n x p = refl
  by-room false false n x p = refl

  by_said : (s : Said) (p : List ℕ) → unlent (taking s p a).answer ≡ unlent (taking s p b).answer
  by_said (Ok x) p = by-room (leb (length p) (length a)) (leb (length p) (length b)) (length p) x p
  by_said (Err n) p = refl

  by-matching : (cs : List Content) → unlent (take_matching cs a).answer ≡ unlent (take_matching cs b).answer
  by-matching [] = refl
  by-matching (c ∷ cs) = by_said (payload_says (joined (c ∷ cs))) (joined (c ∷ cs))

  by_read : (x : Read) → unlent (take_read x a).answer ≡ unlent (take_read x b).answer
  by_read (accepted f start rs) = by-matching (matching (map content rs))
  by_read (refused r) = refl

-- what is asked of a buffer is asked of one of no bytes
asked-none : (f e lent : ℕ) (g : Format) → asked f e lent ≡ Ok g → asked f e 0 ≡ Ok g
unfolding asked
asked-none f e lent g q = go (eqb f 4) (chosen f e) q
  where
    by-test : (t : Bool) (h : Format) → if {A = Chosen} t (λ _. Err 2) (λ _. Ok h) ≡ Ok g → ◌≡◌ {A = Chosen} (Ok h) (Ok g)
    by-test true h q = let z : ◌≡◌ {A = ℕ} 0 1 = cc in absurd (omega arith)
    by-test false h q = q

    go : (b : Bool) (x : Chosen) → if {A = Chosen} b (λ _. ask_chosen x lent) (λ _. Err 16) ≡ Ok g → if {A = Chosen} b (λ _. ask_chosen x 0) (λ _. Err 16) ≡ Ok g
    go true (Ok h) q = by-test (ltb limit lent) h q
    go true (Err n) q = q
    go false x q = q

module _ (f e : ℕ) (image : List ℕ) (lent : ℕ) (buffer : List ℕ) (long : length buffer ≡ lent) where
  pub unlent-unasked : (n : ℕ) → asked f e lent ≡ Err n → refusal n 0 ≡ unlent (read_vendor f e image buffer).answer
  unlent-unasked n q = sym (ap (λ t. unlent t.answer) (read-unasked f e image buffer n (ap (asked f e) long ∙ q)))

  pub unlent-alike : (g : Format) → asked f e lent ≡ Ok g → unlent (read_vendor f e image []).answer ≡ unlent (read_vendor f e image buffer).answer
  unlent-alike g q =
      ap (λ t. unlent t.answer) (read_asked f e image [] g (asked-none f e lent g q))
      ∙ by_read [] buffer (read_image f e image)
      ∙ sym (ap (λ t. unlent t.answer) (read_asked f e image buffer g (ap (asked f e) long ∙ q)))

-- ---- a block is lent

module _ (f e : ℕ) (image buffer m : List ℕ) where
  pub call-short : length m < 48 → vendor_read_call f e image buffer m ≡ ungiven (unlent (read_vendor f e image buffer).answer) buffer m
  unfolding vendor_read_call
  call-short lt = rw (lt-leb 48 (length m) lt)

  pub call_long : 48 ≤ length m → vendor_read_call f e image buffer m ≡ vendor_given (read_vendor f e image buffer).answer (read_vendor f e image buffer).memory m
  unfolding vendor_read_call
  call_long le = rw (le-leb 48 (length m) le)

pub block-front : (b : Block) (m : List ℕ) → 48 ≤ length m → copied m 0 (block_bytes b) ≡ block_bytes b ++ drop 48 m
block-front b m le = copied-front m (block_bytes b) (omega (arith, length-block b)) ∙ ap (λ (n : ℕ). block_bytes b ++ drop n m) (length-block b)

-- an answer and both memories are those of a call
pub gives : {a : ℕ} {p m : List ℕ} {g : VendorGiven} → g ≡ record { answer = a; payload = p; block = m } → (a ≡ g.answer) × (p ≡ g.payload) × (m ≡ g.block)
gives q = (sym (ap (λ (g : VendorGiven). g.answer) q), sym (ap (λ (g : VendorGiven). g.payload) q), sym (ap (λ (g : VendorGiven). g.block) q))
