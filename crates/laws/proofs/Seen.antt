-- Whether an entry comes a second time by its code alone: where two entries of its code always come twice, marks of the codes before it tell.
-- Assumes nothing.
use Prim.Native.Nat.{ℕ, ◌<◌}
use mathlib.Core.Path.{◌≡◌, refl, ap, sym, ◌∙◌}
use mathlib.Core.List.{List, [], ◌∷◌}
use mathlib.Core.Bool.{Bool, true, false, ◌&&◌}
use lib.Dec.{eqb}
use borrow.Author.Tests.{ne_eqb}
use Rattle.layout.specs.declared.Format.{Format}
use Rattle.layout.specs.declared.Format.TheVariants.{Fboss, Vpd, Tiny, Onie}
use Rattle.layout.specs.Bytes.{if, one_of}
use Rattle.layout.specs.Shape.{Shape, Label}
use Rattle.layout.specs.Fboss.{fboss}
use Rattle.layout.specs.Vpd.{vpd, vpd_twice}
use Rattle.layout.specs.Tiny.{tiny}
use Rattle.layout.specs.Onie.{onie}
use Rattle.layout.specs.Editions.{shape}
use Rattle.layout.specs.Walk.{Raw, content, labels_of}
use Rattle.layout.specs.Read.{seen_before, codes_of}
use Rattle.laws.specs.Marked.{marked}
use Rattle.laws.proofs.Marks.{Marks}

pub and-true : (b : Bool) → b && true ≡ b
and-true true = refl
and-true false = refl

and-false : (b : Bool) → b && false ≡ false
and-false true = refl
and-false false = refl

abbrev pub label_codes : List Label → List ℕ
label_codes [] = []
label_codes (b ∷ bs) = b.code ∷ label_codes bs

pub label-codes : (rs : List Raw) → codes_of rs ≡ label_codes (labels_of rs)
unfolding content
label-codes [] = refl
label-codes (r ∷ rs) = ap (λ (l : List ℕ). r.frame.code ∷ l) (label-codes rs)

-- where two entries of one code always come twice, an entry is seen exactly where its code is among those before it
pub seen-codes : (S : Shape) (a : Label) (seen : List Label) → ((b : Label) → S.twice a b ≡ true) → seen_before S seen a ≡ one_of (label_codes seen) a.code
unfolding seen_before one_of
seen-codes S a [] t = refl
seen-codes S a (b ∷ bs) t =
    rw (t b, and-true (eqb a.code b.code))
    (ap (λ (x : Bool). if (eqb a.code b.code) (λ _. true) (λ _. x)) (seen-codes S a bs t))

-- two entries of this code always come twice
pub AlwaysTwice : Format → ℕ → Type 0
AlwaysTwice f c = (key : List ℕ) (b : Label) → (shape f).twice (record { code = c; key = key }) b ≡ true

pub fboss-always : (c : ℕ) → AlwaysTwice Fboss c
unfolding AlwaysTwice fboss
fboss-always c key b = refl

pub tiny-always : (c : ℕ) → AlwaysTwice Tiny c
unfolding AlwaysTwice tiny
tiny-always c key b = refl

pub vpd-always : (c : ℕ) → (c ≡ 1 → ⊥) → AlwaysTwice Vpd c
unfolding AlwaysTwice vpd vpd_twice
vpd-always c n key b = rw (ne_eqb c 1 n)

pub onie-always : (c : ℕ) → (c ≡ 0xFD → ⊥) → AlwaysTwice Onie c
unfolding AlwaysTwice onie
onie-always c n key b = rw (ne_eqb c 0xFD n)

-- where two entries of a code never come twice, none is seen
unseen-codes : (S : Shape) (a : Label) (seen : List Label) → ((b : Label) → S.twice a b ≡ false) → seen_before S seen a ≡ false
unfolding seen_before
unseen-codes S a [] t = refl
unseen-codes S a (b ∷ bs) t = rw (t b, and-false (eqb a.code b.code)) (unseen-codes S a bs t)

-- an ONIE FDh never comes twice
pub vendor-unseen : (key : List ℕ) (seen : List Label) → seen_before (shape Onie) seen (record { code = 0xFD; key = key }) ≡ false
unfolding onie
vendor-unseen key seen = unseen-codes (shape Onie) (record { code = 0xFD; key = key }) seen (λ b. refl)

-- a marked code is one that was seen
pub marked-seen : (f : Format) (c : ℕ) (key : List ℕ) (seen : List Label) (marks : List ℕ) → AlwaysTwice f c → c < 256 → Marks (label_codes seen) marks →
    marked marks c ≡ seen_before (shape f) seen (record { code = c; key = key })
unfolding AlwaysTwice
marked-seen f c key seen marks t lt m = m.same c lt ∙ sym (seen-codes (shape f) (record { code = c; key = key }) seen (t key))
