-- Bytes written over others: what two writes side by side come to, a loop that writes byte by byte, and that no write changes a length.
-- Assumes nothing.
use Prim.Native.Nat.{ℕ, ◌+◌, ◌-◌, ◌≤◌, ◌<◌}
use mathlib.Core.Path.{◌≡◌, refl, ap, sym, ◌∙◌}
use mathlib.Core.List.{List, [], ◌∷◌, ◌++◌, append_assoc, append-nil}
use native.Mathlib.Nat.{add-zero, zero-add}
use native.Mathlib.Numerals.{add-one}
use native.Mathlib.Omega.{arith}
use borrow.Author.Tests.{le-leb, lt-leb, leb-true}
use lib.ListN.{length, get_or, set, take, drop, replicate, length-append, length-drop, length-take, length-replicate, take-append-drop, drop_of_length-le}
use lib.Seq.{drop-append-add, drop-drop, take_at, take_all, take-suc, set_split, length-take-le}
use lib.Dec.{leb}
use borrow.Rule.Slice.PartMut.{put_mid}
use Rattle.layout.specs.Bytes.{part}
use Rattle.layout.specs.Write.{padded}
use Rattle.layout.proofs.Choices.{either}
use Rattle.laws.proofs.Frames.{part-between}
use Rattle.output.specs.Placing.{over, copied}

-- ---- over

pub length_over : (d : List ℕ) (a : ℕ) (s : List ℕ) → a + length s ≤ length d → length (over d a s) ≡ length d
unfolding over
length_over d a s le = simp (length-append, length-take, length-drop) (omega arith)

pub over-nil : (d : List ℕ) (a : ℕ) → over d a [] ≡ d
unfolding over
over-nil d a = rw add-zero (take-append-drop a d)

-- A second write where the first ends.
pub over-over : (d : List ℕ) (a : ℕ) (s t : List ℕ) (n : ℕ) → a ≤ length d → n ≡ a + length s → over (over d a s) n t ≡ over d a (s ++ t)
unfolding over
over-over d a s t n le e =
    let x : List ℕ = take a d ++ s in
    let lx : length x ≡ n = length-append (take a d) s ∙ (rw (length-take-le a d le) (sym e)) in
    let w : take a d ++ (s ++ drop (a + length s) d) ≡ x ++ drop (a + length s) d = sym (append_assoc (take a d) s (drop (a + length s) d)) in
    let k : n + length t ≡ length x + length t = omega arith in
    let m : a + length s + length t ≡ a + length (s ++ t) = omega (arith, length-append s t) in
    rw (w, take_at x (drop (a + length s) d) n lx, k, drop-append-add x (drop (a + length s) d) (length t), drop-drop (length t) (a + length s) d, m)
    (simp append_assoc)

-- What was written is read there.
pub part-over : (d : List ℕ) (a : ℕ) (s : List ℕ) → a ≤ length d → part a (length s) (over d a s) ≡ s
unfolding over
part-over d a s le = part-between (take a d) s (drop (a + length s) d) a (length-take-le a d le)

-- ---- copied

pub copied-over : (d : List ℕ) (a : ℕ) (s : List ℕ) → a + length s ≤ length d → copied d a s ≡ over d a s
unfolding copied
copied-over d a s le = rw (le-leb (a + length s) (length d) le)

pub copied-not : (d : List ℕ) (a : ℕ) (s : List ℕ) → length d < a + length s → d ≡ copied d a s
unfolding copied
copied-not d a s lt = rw (lt-leb (a + length s) (length d) lt)

pub length-copied : (d : List ℕ) (a : ℕ) (s : List ℕ) → length (copied d a s) ≡ length d
unfolding copied
length-copied d a s =
    either (λ (x : List ℕ). length x ≡ length d) (leb (a + length s) (length d)) (λ e. length_over d a s (leb-true (a + length s) (length d) e)) (λ e. refl)

pub copied-nil : (d : List ℕ) (a : ℕ) → copied d a [] ≡ d
unfolding copied
copied-nil d a = either (λ (x : List ℕ). x ≡ d) (leb (a + 0) (length d)) (λ e. over-nil d a) (λ e. refl)

-- A second copy where the first ends.
pub copied-then : (d : List ℕ) (a : ℕ) (s t : List ℕ) {d₁ d₂ : List ℕ} {n : ℕ} → d₁ ≡ copied d a s → d₂ ≡ copied d₁ n t →
    a + length (s ++ t) ≤ length d → n ≡ a + length s → d₂ ≡ copied d a (s ++ t)
copied-then d a s t {n = n} p q le e =
    let l : a + (length s + length t) ≤ length d = rw length-append at le in
    let o : n + length t ≤ length (over d a s) = omega (arith, length_over d a s (omega arith)) in
    q ∙ (rw (p, copied-over d a s (omega arith), copied-over (over d a s) n t o, copied-over d a (s ++ t) le) (over-over d a s t n (omega arith) e))

-- A copy to the front, with what follows it.
pub copied-front : (d s : List ℕ) → length s ≤ length d → copied d 0 s ≡ s ++ drop (length s) d
unfolding over
copied-front d s le = copied-over d 0 s (omega arith) ∙ ap (λ (n : ℕ). s ++ drop n d) (zero-add (length s))

-- A copy to the very end.
copied-last : (d : List ℕ) (a : ℕ) (s : List ℕ) → a + length s ≡ length d → copied d a s ≡ take a d ++ s
unfolding over
copied-last d a s e =
    rw (copied-over d a s (omega arith), drop_of_length-le d {i = a + length s} (omega arith), append-nil)

-- A copy, and FFh after it.
pub copied-padded : (d : List ℕ) (a : ℕ) (s : List ℕ) {d₁ d₂ : List ℕ} → d₁ ≡ copied d a s →
    d₂ ≡ copied d₁ (a + length s) (replicate (length d₁ - (a + length s)) 0xFF) → a + length s ≤ length d → d₂ ≡ padded (take a d ++ s) (length d)
copied-padded d a s {d₁ = d₁} p q le =
    let l : length (take a d ++ s) ≡ a + length s = length-append (take a d) s ∙ (rw (length-take-le a d (omega arith))) in
    let k : length d₁ ≡ length d = ap length p ∙ length-copied d a s in
    let r : List ℕ = replicate (length d₁ - (a + length s)) 0xFF in
    let e : a + length (s ++ r) ≡ length d = omega (arith, length-append s r, length-replicate {A = ℕ} (length d₁ - (a + length s)) 0xFF) in
    copied-then d a s r p q (omega arith) refl ∙ (rw (copied-last d a (s ++ r) e, l, ← k) (sym (append_assoc (take a d) s r)))

-- A write over a part of the output, of as many bytes as the part has.
pub put-copied : {k : ℕ} {t : List ℕ} (d : List ℕ) (a : ℕ) (s : List ℕ) → t ≡ s → k ≡ length s → a + length s ≤ length d → put_mid a k d t ≡ copied d a s
unfolding over
put-copied d a s is e le = rw (is, e, drop-drop (length s) a d, copied-over d a s le)

-- ---- a loop

-- The bytes of s are written over d from place a on, one in each turn: the first i are written.
abbrev pub Copying : (d : List ℕ) (a : ℕ) (s out : List ℕ) (i : ℕ) → Type 0
Copying d a s out i = (i ≤ length s) × (out ≡ over d a (take i s))

module _ (d : List ℕ) (a : ℕ) (s out : List ℕ) (i : ℕ) (le : a + length s ≤ length d) (inv : Copying d a s out i) where
  pub copying-length : length out ≡ length d
  copying-length = ap length inv.1 ∙ length_over d a (take i s) (omega (arith, length-take-le i s inv.0))

  pub copies : (b : ℕ) → get_or s i 0 ≡ b → i < length s → Copying d a s (set out (a + i) b) (i + 1)
  unfolding over
  copies b is lt =
      let at : a + i ≡ a + length (take i s) = omega (arith, length-take-le i s inv.0) in (
        omega arith,
        rw (add-one, take-suc s i 0, is, ← over-over d a (take i s) (b ∷ []) (a + i) (omega arith) at, ← inv.1, set_split out (a + i) b (omega (arith, copying-length)))
            (rw add-one),
      )

  pub copied_all : length s ≤ i → out ≡ copied d a s
  copied_all ge = inv.1 ∙ (rw (take_all i s ge, copied-over d a s le))
