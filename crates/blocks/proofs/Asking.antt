-- The two calls by what both ask first.
-- Assumes nothing.
use Prim.Native.Nat.{ℕ, ◌≤◌}
use mathlib.Core.Path.{◌≡◌, refl, ap}
use mathlib.Core.List.{List}
use mathlib.Core.Bool.{Bool, true, false}
use native.Mathlib.Omega.{arith}
use lib.ListN.{length}
use lib.Dec.{ltb, eqb}
use borrow.Author.Tests.{ltb-false, eqb-true}
use Rattle.std.specs.Prelude.{Ok, Err}
use Rattle.layout.specs.declared.Format.{Format}
use Rattle.layout.specs.Answers.{Chosen}
use Rattle.layout.specs.Bytes.{if, refusal}
use Rattle.layout.specs.Editions.{chosen}
use Rattle.layout.specs.Read.{limit, read_image}
use Rattle.layout.specs.Write.{refuse}
use Rattle.blocks.specs.declared.Offsets.{Offsets}
use Rattle.blocks.specs.Vendor.{ask_chosen, asked, untaken, take_read, take_asked, read_vendor, put_asked, write_vendor}

-- it is refused but where the format is 4
pub asked-four : (f e lent : ℕ) (g : Format) → asked f e lent ≡ Ok g → f ≡ 4
unfolding asked
asked-four f e lent g q = go (eqb f 4) refl q
  where
    go : (b : Bool) → eqb f 4 ≡ b → if b (λ _. ask_chosen (chosen f e) lent) (λ _. Err 16) ≡ Ok g → f ≡ 4
    go true z q = eqb-true f 4 z
    go false z q = let z : ◌≡◌ {A = ℕ} 0 1 = cc in absurd (omega arith)

-- and but where no more bytes are lent than an image may have
pub asked-short : (f e lent : ℕ) (g : Format) → asked f e lent ≡ Ok g → lent ≤ limit
unfolding asked
asked-short f e lent g q = go (eqb f 4) (chosen f e) q
  where
    by-test : (t : Bool) (h : Format) → ltb limit lent ≡ t → if {A = Chosen} t (λ _. Err 2) (λ _. Ok h) ≡ Ok g → lent ≤ limit
    by-test true h is q = let z : ◌≡◌ {A = ℕ} 0 1 = cc in absurd (omega arith)
    by-test false h is q = ltb-false limit lent is

    go : (b : Bool) (x : Chosen) → if b (λ _. ask_chosen x lent) (λ _. Err 16) ≡ Ok g → lent ≤ limit
    go true (Ok h) q = by-test (ltb limit lent) h refl q
    go true (Err n) q = let z : ◌≡◌ {A = ℕ} 0 1 = cc in absurd (omega arith)
    go false x q = let z : ◌≡◌ {A = ℕ} 0 1 = cc in absurd (omega arith)

module _ (f e : ℕ) (image buffer : List ℕ) where
  pub read-unasked : (n : ℕ) → asked f e (length buffer) ≡ Err n → read_vendor f e image buffer ≡ untaken (refusal n 0) buffer
  unfolding read_vendor
  read-unasked n q = ap (λ (x : Chosen). take_asked x f e image buffer) q

  pub read_asked : (g : Format) → asked f e (length buffer) ≡ Ok g → read_vendor f e image buffer ≡ take_read (read_image f e image) buffer
  unfolding read_vendor
  read_asked g q = ap (λ (x : Chosen). take_asked x f e image buffer) q

module _ (f e : ℕ) (serial : List ℕ) (o : Offsets) (pieces out : List ℕ) where
  pub write-unasked : (n : ℕ) → asked f e (length out) ≡ Err n → write_vendor f e serial o pieces out ≡ refuse (refusal n 0) out
  unfolding write_vendor
  write-unasked n q = ap (λ (x : Chosen). put_asked x serial o pieces out) q

  pub write-asked : (g : Format) → asked f e (length out) ≡ Ok g → write_vendor f e serial o pieces out ≡ put_asked (Ok g) serial o pieces out
  unfolding write_vendor
  write-asked g q = ap (λ (x : Chosen). put_asked x serial o pieces out) q
