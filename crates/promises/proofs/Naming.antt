-- The definitions' table of names is document 01's ("Editions and kinds") and document 02's third item.
-- Assumes nothing.
use Prim.Native.Nat.{ℕ, zero, suc, ◌+◌, ◌≤◌}
use mathlib.Core.Path.{◌≡◌, refl}
use mathlib.Core.Bool.{Bool, true, false}
use native.Mathlib.Omega.{arith}
use lib.Dec.{leb, eqb}
use borrow.Author.Tests.{leb-true, le-leb, lt-leb, eqb-true, eqb-false}
use Rattle.layout.specs.declared.Format.{Format}
use Rattle.layout.specs.declared.Format.TheVariants.{Fboss, Vpd, Tiny, Onie}
use Rattle.layout.specs.Bytes.{if, between}
use Rattle.layout.specs.Fboss.{fboss}
use Rattle.layout.specs.Vpd.{vpd}
use Rattle.layout.specs.Tiny.{tiny}
use Rattle.layout.specs.Onie.{onie}
use Rattle.layout.specs.Editions.{shape, from, never, since_in, reached, names}
use Rattle.layout.proofs.Choices.{refuted, false-true, both}
use Rattle.promises.specs.Words.{KnownEdition}
use Rattle.promises.specs.Names.{One, Two, Named, since_one, since_two, since_three, vpd01, tiny01, tiny10, tiny11, tiny60, tiny61, tiny62, vpd_fe, tiny80, tiny81, onie21, onie22, onie23, onie24, onie25, onie2_a, onie2_b, onie2_c, onie2_d, onie_fd}

-- ---- what 01 and 02 name, the table names

pub named-names : (g : Format) (e c : ℕ) → Named g e c → names (shape g) e c ≡ true
unfolding names since_in fboss vpd tiny onie
named-names Fboss e c (since_one le (One.fboss a b)) = rw (le-leb 1 c a, le-leb c 16 b) (le-leb 1 e le)
named-names Fboss e c (since_two le (Two.fboss a b)) =
    rw (le-leb 1 c (omega arith), lt-leb c 16 (omega arith), le-leb 17 c a, le-leb c 20 b) (le-leb 2 e le)
named-names Vpd e c (since_one le vpd01) = le-leb 1 e le
named-names Vpd e c (since_two le vpd_fe) = le-leb 2 e le
named-names Tiny e c (since_one le tiny01) = le-leb 1 e le
named-names Tiny e c (since_one le tiny10) = le-leb 1 e le
named-names Tiny e c (since_one le tiny11) = le-leb 1 e le
named-names Tiny e c (since_one le tiny60) = le-leb 1 e le
named-names Tiny e c (since_one le tiny61) = le-leb 1 e le
named-names Tiny e c (since_one le tiny62) = le-leb 1 e le
named-names Tiny e c (since_two le tiny80) = le-leb 2 e le
named-names Tiny e c (since_two le tiny81) = le-leb 2 e le
named-names Onie e c (since_three le onie21) = le-leb 3 e le
named-names Onie e c (since_three le onie22) = le-leb 3 e le
named-names Onie e c (since_three le onie23) = le-leb 3 e le
named-names Onie e c (since_three le onie24) = le-leb 3 e le
named-names Onie e c (since_three le onie25) = le-leb 3 e le
named-names Onie e c (since_three le onie2_a) = le-leb 3 e le
named-names Onie e c (since_three le onie2_b) = le-leb 3 e le
named-names Onie e c (since_three le onie2_c) = le-leb 3 e le
named-names Onie e c (since_three le onie2_d) = le-leb 3 e le
named-names Onie e c (since_three le onie_fd) = le-leb 3 e le
named-names Fboss e c (since_three le x'') = elim x'' [ ]
named-names Vpd e c (since_three le x3) = elim x3 [ ]
named-names Tiny e c (since_three le x4) = elim x4 [ ]
named-names Onie e c (since_one le x5) = elim x5 [ ]
named-names Onie e c (since_two le x6) = elim x6 [ ]

-- ---- what the table names, 01 or 02 names

-- a number of a to b
pub in-range : (a b c : ℕ) → between a b c ≡ true → (a ≤ c) × (c ≤ b)
in-range a b c t = let w = both (leb a c) (leb c b) t in (leb-true a c w.0, leb-true c b w.1)

-- what holds of each number from a to a + n
abbrev pub FromTo : (ℕ → Type 0) → ℕ → ℕ → Type 0
FromTo P zero a = P a
FromTo P (suc n) a = P a × FromTo P n (suc a)

from-to : (P : ℕ → Type 0) (n a c : ℕ) → FromTo P n a → a ≤ c → c ≤ a + n → P c
from-to P zero a c h le ge = let q : c ≡ a = omega arith in rw q h
from-to P (suc n) a c h le ge = go (eqb c a) refl (λ less. from-to P n (suc a) c h.1 less (omega arith))
  where
    go : (b : Bool) → eqb c a ≡ b → (suc a ≤ c → P c) → P c
    go true q rest = rw (eqb-true c a q) h.0
    go false q rest = rest (omega (arith, eqb-false c a q))

pub each-between : (P : ℕ → Type 0) (n a c : ℕ) → FromTo P n a → between a (a + n) c ≡ true → P c
each-between P n a c h t = let w = in-range a (a + n) c t in from-to P n a c h w.0 w.1

pub names-named : (g : Format) (e c : ℕ) → KnownEdition e → names (shape g) e c ≡ true → Named g e c
unfolding names since_in fboss vpd tiny onie
names-named Fboss e c k h = go (between 1 16 c) (between 17 20 c) refl refl h
  where
    go : (b₁ b₂ : Bool) → between 1 16 c ≡ b₁ → between 17 20 c ≡ b₂ →
        reached (if b₁ (λ _. from 1) (λ _. if b₂ (λ _. from 2) (λ _. never))) e ≡ true → Named Fboss e c
    go true b₂ t₁ t₂ h = let w = in-range 1 16 c t₁ in since_one k.0 (One.fboss w.0 w.1)
    go false true t₁ t₂ h = let w = in-range 17 20 c t₂ in since_two (leb-true 2 e h) (Two.fboss w.0 w.1)
    go false false t₁ t₂ h = false-true h
names-named Vpd e c k h = go (between 0x01 0x01 c) (between 0xFE 0xFE c) refl refl h
  where
    go : (b₁ b₂ : Bool) → between 0x01 0x01 c ≡ b₁ → between 0xFE 0xFE c ≡ b₂ →
        reached (if b₁ (λ _. from 1) (λ _. if b₂ (λ _. from 2) (λ _. never))) e ≡ true → Named Vpd e c
    go true b₂ t₁ t₂ h = each-between (Named Vpd e) 0 0x01 c (since_one k.0 vpd01) t₁
    go false true t₁ t₂ h = each-between (Named Vpd e) 0 0xFE c (since_two (leb-true 2 e h) vpd_fe) t₂
    go false false t₁ t₂ h = false-true h
names-named Tiny e c k h = go (between 0x01 0x01 c) (between 0x10 0x11 c) (between 0x60 0x62 c) (between 0x80 0x81 c) refl refl refl refl h
  where
    one : {x : ℕ} → One Tiny x → Named Tiny e x
    one o = since_one k.0 o

    go : (b₁ b₂ b₃ b₄ : Bool) → between 0x01 0x01 c ≡ b₁ → between 0x10 0x11 c ≡ b₂ → between 0x60 0x62 c ≡ b₃ → between 0x80 0x81 c ≡ b₄ →
        reached (if b₁ (λ _. from 1) (λ _. if b₂ (λ _. from 1) (λ _. if b₃ (λ _. from 1) (λ _. if b₄ (λ _. from 2) (λ _. never))))) e ≡ true → Named Tiny e c
    go true b₂ b₃ b₄ t₁ t₂ t₃ t₄ h = each-between (Named Tiny e) 0 0x01 c (one tiny01) t₁
    go false true b₃ b₄ t₁ t₂ t₃ t₄ h = each-between (Named Tiny e) 1 0x10 c (one tiny10, one tiny11) t₂
    go false false true b₄ t₁ t₂ t₃ t₄ h = each-between (Named Tiny e) 2 0x60 c (one tiny60, (one tiny61, one tiny62)) t₃
    go false false false true t₁ t₂ t₃ t₄ h =
        let le = leb-true 2 e h in
        each-between (Named Tiny e) 1 0x80 c (since_two le tiny80, since_two le tiny81) t₄
    go false false false false t₁ t₂ t₃ t₄ h = false-true h
names-named Onie e c k h = go (between 0x21 0x25 c) (between 0x2A 0x2D c) (between 0xFD 0xFD c) refl refl refl h
  where
    go : (b₁ b₂ b₃ : Bool) → between 0x21 0x25 c ≡ b₁ → between 0x2A 0x2D c ≡ b₂ → between 0xFD 0xFD c ≡ b₃ →
        reached (if b₁ (λ _. from 3) (λ _. if b₂ (λ _. from 3) (λ _. if b₃ (λ _. from 3) (λ _. never)))) e ≡ true → Named Onie e c
    go true b₂ b₃ t₁ t₂ t₃ h =
        let le = leb-true 3 e h in
        each-between (Named Onie e) 4 0x21 c (since_three le onie21, (since_three le onie22, (since_three le onie23, (since_three le onie24, since_three le onie25)))) t₁
    go false true b₃ t₁ t₂ t₃ h =
        let le = leb-true 3 e h in
        each-between (Named Onie e) 3 0x2A c (since_three le onie2_a, (since_three le onie2_b, (since_three le onie2_c, since_three le onie2_d))) t₂
    go false false true t₁ t₂ t₃ h = each-between (Named Onie e) 0 0xFD c (since_three (leb-true 3 e h) onie_fd) t₃
    go false false false t₁ t₂ t₃ h = false-true h

pub unnamed-names : (g : Format) (e c : ℕ) → KnownEdition e → (Named g e c → ⊥) → names (shape g) e c ≡ false
unnamed-names g e c k not = refuted (names (shape g) e c) (λ q. not (names-named g e c k q))
