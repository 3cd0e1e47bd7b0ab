-- The calls by what reading an image gives: an accepted image as the laws have it, and one that is made so.
-- Assumes nothing.
use Prim.Native.Nat.{ℕ, ◌≤◌}
use mathlib.Core.Path.{◌≡◌, refl, ap, sym, ◌∙◌}
use mathlib.Core.List.{List, [], map}
use mathlib.Core.Bool.{Bool, true, false, ◌||◌}
use native.Mathlib.Omega.{arith}
use lib.ListN.{length}
use lib.Dec.{ltb, leb, eqb}
use borrow.Author.Tests.{ltb-false, le-ltb}
use Rattle.std.specs.Prelude.{Ok, Err}
use Rattle.layout.specs.declared.Format.{Format}
use Rattle.layout.specs.declared.Format.TheVariants.{Fboss, Vpd, Tiny, Onie}
use Rattle.layout.specs.Answers.{Chosen}
use Rattle.layout.specs.Bytes.{if, refusal}
use Rattle.layout.specs.Fboss.{fboss}
use Rattle.layout.specs.Vpd.{vpd}
use Rattle.layout.specs.Tiny.{tiny}
use Rattle.layout.specs.Onie.{onie}
use Rattle.layout.specs.Editions.{shape, known_edition, with_edition, chosen}
use Rattle.layout.specs.Walk.{Raw, content, flat}
use Rattle.layout.specs.Read.{limit, complete, codes_of, Read, accepted, refused, bad, read_as, read_chosen, read_image}
use Rattle.layout.specs.Calls.{checked_by, check_image}
use Rattle.layout.specs.Write.{refuse}
use Rattle.layout.specs.Change.{Change, change_read, change_chosen, change_image}
use Rattle.laws.specs.Grammar.{grammar, Lawful}
use Rattle.laws.proofs.Walking.{Frames}
use Rattle.laws.proofs.Images.{Accepts, image_from, made-accepted, accepted-made}
use Rattle.laws.proofs.Formats.{laws}

-- ---- formats and editions

-- the edition is known, and has the format
pub record Has (g : Format) (e : ℕ) : Type 0 where
  pub known : known_edition e ≡ true
  pub since : leb (shape g).edition e ≡ true

with-known : (e : ℕ) (f g : Format) → with_edition e f ≡ Ok g → (f ≡ g) × Has g e
with-known e f g q = go (known_edition e) (leb (shape f).edition e) refl refl q
  where
    go : (b c : Bool) → known_edition e ≡ b → leb (shape f).edition e ≡ c → if {A = Chosen} b (λ _. if c (λ _. Ok f) (λ _. Err 16)) (λ _. Err 1) ≡ Ok g → (f ≡ g) × Has g e
    go true true k s q = let r : f ≡ g = cc in (r, record { known = k; since = rw r at s })
    go true false k s q = let z : ◌≡◌ {A = ℕ} 0 1 = cc in absurd (omega arith)
    go false c k s q = let z : ◌≡◌ {A = ℕ} 0 1 = cc in absurd (omega arith)

-- the format that a number stands for, whatever the edition
pub data Stands : ℕ → Format → Type 0 where
  one : {f : ℕ} → eqb f 1 ≡ true → Stands f Fboss
  two : {f : ℕ} → eqb f 1 ≡ false → eqb f 2 ≡ true → Stands f Vpd
  three : {f : ℕ} → eqb f 1 ≡ false → eqb f 2 ≡ false → eqb f 3 ≡ true → Stands f Tiny
  four : {f : ℕ} → eqb f 1 ≡ false → eqb f 2 ≡ false → eqb f 3 ≡ false → eqb f 4 ≡ true → Stands f Onie

pub chosen-stands : (f e : ℕ) (g : Format) → chosen f e ≡ Ok g → Stands f g × Has g e
unfolding chosen
chosen-stands f e g q = go (eqb f 1) (eqb f 2) (eqb f 3) (eqb f 4) refl refl refl refl q
  where
    go : (b₁ b₂ b₃ b₄ : Bool) → eqb f 1 ≡ b₁ → eqb f 2 ≡ b₂ → eqb f 3 ≡ b₃ → eqb f 4 ≡ b₄ →
        if b₁ (λ _. with_edition e Fboss)
        (λ _. if b₂ (λ _. with_edition e Vpd) (λ _. if b₃ (λ _. with_edition e Tiny) (λ _. if b₄ (λ _. with_edition e Onie) (λ _. Err 16)))) ≡ Ok g →
        Stands f g × Has g e
    go true b₂ b₃ b₄ e₁ e₂ e₃ e₄ q = let w = with-known e Fboss g q in (rw (← w.0) (one e₁), w.1)
    go false true b₃ b₄ e₁ e₂ e₃ e₄ q = let w = with-known e Vpd g q in (rw (← w.0) (two e₁ e₂), w.1)
    go false false true b₄ e₁ e₂ e₃ e₄ q = let w = with-known e Tiny g q in (rw (← w.0) (three e₁ e₂ e₃), w.1)
    go false false false true e₁ e₂ e₃ e₄ q = let w = with-known e Onie g q in (rw (← w.0) (four e₁ e₂ e₃ e₄), w.1)
    go false false false false e₁ e₂ e₃ e₄ q = let z : ◌≡◌ {A = ℕ} 0 1 = cc in absurd (omega arith)

-- a number that is a format's stands for that format
pub is-format : (h : Format) (f e : ℕ) (g : Format) → f ≡ (shape h).number → chosen f e ≡ Ok g → g ≡ h
unfolding chosen fboss vpd tiny onie
is-format Fboss f e g q k = sym (with-known e Fboss g (ap (λ (x : ℕ). chosen x e) (sym q) ∙ k)).0
is-format Vpd f e g q k = sym (with-known e Vpd g (ap (λ (x : ℕ). chosen x e) (sym q) ∙ k)).0
is-format Tiny f e g q k = sym (with-known e Tiny g (ap (λ (x : ℕ). chosen x e) (sym q) ∙ k)).0
is-format Onie f e g q k = sym (with-known e Onie g (ap (λ (x : ℕ). chosen x e) (sym q) ∙ k)).0

-- ---- accepted images

-- what a call that accepts an image has found
pub record Reading (f e : ℕ) (image : List ℕ) (g : Format) (start : ℕ) (rs : List Raw) : Type 0 where
  pub known : chosen f e ≡ Ok g
  pub short : length image ≤ limit
  pub read : read_image f e image ≡ accepted g start rs
  pub made : Accepts g e image start rs

never-refused : {A : Type 0} {n p : ℕ} {g : Format} {start : ℕ} {rs : List Raw} → bad n p ≡ accepted g start rs → A
never-refused e = let z : ◌≡◌ {A = ℕ} 0 1 = cc in absurd (omega arith)

-- a short image of a known format is read as that format has it
pub image-read : (f e : ℕ) (image : List ℕ) (g : Format) (x : Read) → chosen f e ≡ Ok g → ltb limit (length image) ≡ false → read_as g e image ≡ x → read_image f e image ≡ x
unfolding read_image
image-read f e image g x k l r = rw (k, l) r

-- an image that is read as accepted is what the laws have
pub accepted-reading : (f e : ℕ) (image : List ℕ) (g : Format) (start : ℕ) (rs : List Raw) → read_image f e image ≡ accepted g start rs → Reading f e image g start rs
unfolding read_image
accepted-reading f e image g start rs q = choose (chosen f e) refl q
  where
    bounded : (h : Format) (b : Bool) → chosen f e ≡ Ok h → ltb limit (length image) ≡ b → if b (λ _. bad 2 0) (λ _. read_as h e image) ≡ accepted g start rs → Reading f e image g start rs
    bounded h true k l q = never-refused q
    bounded h false k l q =
        let m = accepted-made h (laws h) e image g start rs q in
        let same : g ≡ h = m.0 in
        rw same
        (record {
          known = k;
          short = ltb-false limit (length image) l;
          read = image-read f e image h (accepted h start rs) k l (rw same at q);
          made = m.1;
        })

    choose : (x : Chosen) → chosen f e ≡ x → read_chosen x e image ≡ accepted g start rs → Reading f e image g start rs
    choose (Ok h) k q = bounded h (ltb limit (length image)) k refl q
    choose (Err n) k q = never-refused q

-- an image that is so made, and short enough, is read as accepted
pub made-reading : (f e : ℕ) (g : Format) (rs : List Raw) (z t : List ℕ) → chosen f e ≡ Ok g → (grammar g).Closing z → (grammar g).Takes (length (flat rs)) →
    Frames (shape g) (grammar g) false rs →
    Lawful (shape g) e [] (map content rs) → complete (shape g).required (codes_of rs) ≡ true → length (image_from (shape g) (flat rs) z t) ≤ limit →
    read_image f e (image_from (shape g) (flat rs) z t) ≡ accepted g (length ((shape g).header (length (flat rs)))) rs
unfolding read_image
made-reading f e g rs z t k cl fits fs lw cm short =
    rw (k, le-ltb limit (length (image_from (shape g) (flat rs) z t)) short) (made-accepted g (laws g) e rs z t cl fits fs lw cm)

-- what a check that accepts has found
pub record Found (f e : ℕ) (image : List ℕ) (n : ℕ) : Type 0 where
  pub format : Format
  pub start : ℕ
  pub raws : List Raw
  pub reading : Reading f e image format start raws
  pub count : n ≡ length raws

pub check-found : (f e : ℕ) (image : List ℕ) (n : ℕ) → check_image f e image ≡ Ok n → Found f e image n
unfolding check_image
check-found f e image n q = go (read_image f e image) refl q
  where
    go : (x : Read) → read_image f e image ≡ x → checked_by x ≡ Ok n → Found f e image n
    go (accepted g start rs) r q =
        record { format = g; start = start; raws = rs; reading = accepted-reading f e image g start rs r; count = (let c : n ≡ length rs = cc in c) }
    go (refused r) x q = let z : ◌≡◌ {A = ℕ} 0 1 = cc in absurd (omega arith)

-- ---- changes

-- a change into an output that is not too long, by what its image is read as
pub change-read : (x : Change) (f e : ℕ) (image out : List ℕ) → length out ≤ limit → change_image x f e image out ≡ change_read (read_image f e image) x e out
unfolding change_image read_image
change-read x f e image out le = go (chosen f e)
  where
    by-test : (g : Format) (t : Bool) → if (t || ltb limit (length out)) (λ _. refuse (refusal 2 0) out) (λ _. change_read (read_as g e image) x e out)
        ≡ change_read (if t (λ _. bad 2 0) (λ _. read_as g e image)) x e out
    by-test g true = refl
    by-test g false = rw (le-ltb limit (length out) le)

    go : (y : Chosen) → change_chosen y x e image out ≡ change_read (read_chosen y e image) x e out
    go (Ok g) = by-test g (ltb limit (length image))
    go (Err n) = refl
