-- A key that was noted is known from then on.
-- Assumes nothing.
use mathlib.Core.Path.{◌≡◌, refl, sym, ap, ap₂, ◌∙◌}
use mathlib.Core.List.{List, [], ◌∷◌}
use mathlib.Core.Bool.{Bool, true, false}
use Prim.Native.Nat.{ℕ, ◌+◌, ◌*◌, ◌/◌, ◌%◌, max}
use native.Mathlib.Omega.{arith}
use lib.Arith.{bin_ind}
use lib.Bits.{bit_or, or_step, or_shr, or_mod, or_comm, or_self}
use lib.Dec.{eqb}
use lib.ListN.{length, get_or, length-set}
use lib.Seq.{get_or-set_same, get_or-set_other}
use borrow.Author.Tests.{eqb-true, eqb-false, eq-eqb, ne_eqb}
use Rattle.crc.proofs.Xor.{Bit, off, on, bit}
use Rattle.keys.proofs.Hashing.{word_in, hash-short}
use Rattle.keys.specs.Filter.{hashed, word_at, mask, has_mask, may_know, noted}

-- ---- bits

bit-assoc : {x y z : ℕ} → Bit x → Bit y → Bit z → max (bit_or x y) z ≡ max x (bit_or y z)
bit-assoc off off off = refl
bit-assoc off off on = refl
bit-assoc off on off = refl
bit-assoc off on on = refl
bit-assoc on off off = refl
bit-assoc on off on = refl
bit-assoc on on off = refl
bit-assoc on on on = refl

or_assoc : (a b c : ℕ) → bit_or (bit_or a b) c ≡ bit_or a (bit_or b c)
or_assoc =
    bin_ind (λ (n : ℕ). (b c : ℕ) → bit_or (bit_or n b) c ≡ bit_or n (bit_or b c)) (λ b c. refl)
    (λ n ih b c.
    or_step (bit_or n b) c
    ∙ ap₂ (λ (x y : ℕ). bit_or x (c / 2) * 2 + max y (c % 2)) (or_shr n b 1) (or_mod n b 1)
    ∙ ap₂ (λ (x y : ℕ). x * 2 + y) (ih (b / 2) (c / 2)) (bit-assoc (bit n) (bit b) (bit c))
    ∙ ap₂ (λ (x y : ℕ). bit_or (n / 2) x * 2 + max (n % 2) y) (sym (or_shr b c 1)) (sym (or_mod b c 1))
    ∙ sym (or_step n (bit_or b c)))

-- a mask that is set is there
mask-set : (w m : ℕ) → has_mask (bit_or w m) m ≡ true
mask-set w m = eq-eqb (bit_or (bit_or w m) m) (bit_or w m) (or_assoc w m m ∙ ap (bit_or w) (or_self m))

-- and stays there when others are set
mask-stays : (w m l : ℕ) → has_mask w m ≡ true → has_mask (bit_or w l) m ≡ true
mask-stays w m l h =
    eq-eqb (bit_or (bit_or w l) m) (bit_or w l)
    (or_assoc w l m ∙ ap (bit_or w) (or_comm l m) ∙ sym (or_assoc w m l) ∙ ap (λ (x : ℕ). bit_or x l) (eqb-true (bit_or w m) w h))

-- ---- keys

-- the place of a key's word
abbrev here : List ℕ → List ℕ → ℕ
here words key = word_at (length words) (hashed key)

module _ (words : List ℕ) where
  pub noted-length : (key : List ℕ) → length (noted words key) ≡ length words
  unfolding noted
  noted-length key = length-set words (here words key) (bit_or (get_or words (here words key) 0) (mask (hashed key)))

  -- what the code finds, and what it leaves
  pub finds-none : length words ≡ 0 → (key : List ℕ) → may_know words key ≡ true
  unfolding may_know
  finds-none e key = rw (eq-eqb (length words) 0 e)

  pub finds : (length words ≡ 0 → ⊥) → (key : List ℕ) → may_know words key ≡ has_mask (get_or words (here words key) 0) (mask (hashed key))
  unfolding may_know
  finds n key = rw (ne_eqb (length words) 0 n)

pub noted-none : (words : List ℕ) → length words ≡ 0 → (key : List ℕ) → noted words key ≡ words
unfolding noted
noted-none [] e key = refl
noted-none (w ∷ ws) e key = absurd (omega arith)

-- a word of the filter once a key is noted
module _ (words : List ℕ) (j : List ℕ) where
  word_same : (key : List ℕ) → get_or (noted words j) (here (noted words j) key) 0 ≡ get_or (noted words j) (here words key) 0
  word_same key = ap (λ (n : ℕ). get_or (noted words j) (word_at n (hashed key)) 0) (noted-length words j)

  word-noted : (i : ℕ) → i ≡ here words j → (length words ≡ 0 → ⊥) → get_or (noted words j) i 0 ≡ bit_or (get_or words i 0) (mask (hashed j))
  unfolding noted
  word-noted i e some = rw (e, get_or-set_same words (here words j) (bit_or (get_or words (here words j) 0) (mask (hashed j))) 0 (word_in (length words) (hashed j) (omega arith) (hash-short j)))

  word-other : (i : ℕ) → (i ≡ here words j → ⊥) → get_or (noted words j) i 0 ≡ get_or words i 0
  unfolding noted
  word-other i n = get_or-set_other words (here words j) i (bit_or (get_or words (here words j) 0) (mask (hashed j))) 0 n

  some-noted : (length words ≡ 0 → ⊥) → length (noted words j) ≡ 0 → ⊥
  some-noted some e = some (sym (noted-length words j) ∙ e)

-- a key that is noted is known
pub noted-known : (words key : List ℕ) → may_know (noted words key) key ≡ true
noted-known words key = go (eqb (length words) 0) refl
  where
    go : (b : Bool) → eqb (length words) 0 ≡ b → may_know (noted words key) key ≡ true
    go true e = finds-none (noted words key) (noted-length words key ∙ eqb-true (length words) 0 e) key
    go false e =
        let some = eqb-false (length words) 0 e in
        finds (noted words key) (some-noted words key some) key
        ∙ rw (word_same words key key, word-noted words key (here words key) refl some) (mask-set (get_or words (here words key) 0) (mask (hashed key)))

-- and stays known when others are noted
pub known-stays : (words j key : List ℕ) → may_know words key ≡ true → may_know (noted words j) key ≡ true
known-stays words j key known = go (eqb (length words) 0) (eqb (here words key) (here words j)) refl refl
  where
    go : (b s : Bool) → eqb (length words) 0 ≡ b → eqb (here words key) (here words j) ≡ s → may_know (noted words j) key ≡ true
    go true s e p = finds-none (noted words j) (noted-length words j ∙ eqb-true (length words) 0 e) key
    go false true e p =
        let some = eqb-false (length words) 0 e in
        finds (noted words j) (some-noted words j some) key
        ∙ rw (word_same words j key, word-noted words j (here words key) (eqb-true (here words key) (here words j) p) some)
        (mask-stays (get_or words (here words key) 0) (mask (hashed key)) (mask (hashed j)) (sym (finds words some key) ∙ known))
    go false false e p =
        let some = eqb-false (length words) 0 e in
        finds (noted words j) (some-noted words j some) key
        ∙ rw (word_same words j key, word-other words j (here words key) (eqb-false (here words key) (here words j) p)) (sym (finds words some key) ∙ known)
