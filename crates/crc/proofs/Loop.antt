-- A loop that takes in a slice's bytes, groups of them first and then those that are left: the groups and the rest are the whole slice, one more group or byte of it, and four bytes taken in.
-- Assumes nothing.
use Rattle.std.proofs.Common.{◌≡◌, ℕ, zero, suc, ◌+◌, ◌*◌, ◌<◌, List, [], ◌∷◌, ◌++◌, map, length, get_or, drop, refl, sym, ap, ◌∙◌, add-one, append_assoc, drop-cons, arith}
use Rattle.std.proofs.lemmas.List.{take-append-drop, drop-drop}
use Rattle.std.proofs.Math.Nat.{suc-mul, zero-mul, add_comm}
use Rattle.std.specs.List.{concat}
use Rattle.std.specs.Simd.{first_chunks}
use Rattle.crc.specs.Crc.{check_of, mirror}
use Rattle.crc.proofs.ByTable.{in_parts}
use Rattle.crc.proofs.Mirror.{mirrored-parts}

-- The first k groups of n bytes, and the bytes after them, are all.
groups-and-rest : (n k : ℕ) (bs : List ℕ) → concat (first_chunks n k bs) ++ drop (k * n) bs ≡ bs
groups-and-rest n zero bs = rw zero-mul refl
groups-and-rest n (suc k) bs =
    let e : drop (suc k * n) bs ≡ drop (k * n) (drop n bs) = rw (suc-mul k n, add_comm (k * n) n) (sym (drop-drop (k * n) n bs)) in
    rw (e, append_assoc, groups-and-rest n k (drop n bs)) (take-append-drop n bs)

-- The same before whatever follows, of the groups and the rest that a slice is cut into.
pub all-of : (n k : ℕ) (bs after : List ℕ) (groups : List (List ℕ)) (rest : List ℕ) → groups ≡ first_chunks n k bs → rest ≡ drop (k * n) bs →
    concat groups ++ (rest ++ after) ≡ bs ++ after
all-of n k bs after groups rest front back =
    sym (append_assoc (concat groups) rest after) ∙ ap (λ (l : List ℕ). l ++ after) (rw (front, back) (groups-and-rest n k bs))

-- The groups from i on are the one at i and those after it, before whatever follows.
pub next-group : (groups : List (List ℕ)) (i : ℕ) (after : List ℕ) → i < length groups →
    concat (drop i groups) ++ after ≡ get_or groups i [] ++ (concat (drop (i + 1) groups) ++ after)
next-group groups i after lt = rw (add-one i, drop-cons groups i []) (append_assoc (get_or groups i []) (concat (drop (suc i) groups)) after)

-- The bytes from i on are the one at i and those after it, before whatever follows.
pub next-byte : (bs : List ℕ) (i : ℕ) (after : List ℕ) → i < length bs → drop i bs ++ after ≡ get_or bs i 0 ∷ (drop (i + 1) bs ++ after)
next-byte bs i after lt = rw (add-one i, drop-cons bs i 0) refl

-- A list of four is its four elements.
four-of : (bs : List ℕ) → length bs ≡ 4 → bs ≡ get_or bs 0 0 ∷ get_or bs 1 0 ∷ get_or bs 2 0 ∷ get_or bs 3 0 ∷ []
four-of (b ∷ c ∷ d ∷ e ∷ []) is = refl
four-of [] is = absurd (omega arith)
four-of (b ∷ []) is = absurd (omega arith)
four-of (b ∷ c ∷ []) is = absurd (omega arith)
four-of (b ∷ c ∷ d ∷ []) is = absurd (omega arith)
four-of (b ∷ c ∷ d ∷ e ∷ f ∷ bs) is = absurd (omega arith)

module _ (w p r : ℕ) (bs cs : List ℕ) (is : length bs ≡ 4) where
  -- Four bytes taken in before others.
  pub four-taken : (s : ℕ) → s ≡ check_of w p r (get_or bs 0 0 ∷ get_or bs 1 0 ∷ get_or bs 2 0 ∷ get_or bs 3 0 ∷ []) →
      check_of w p s cs ≡ check_of w p r (bs ++ cs)
  four-taken s e = ap (λ (x : ℕ). check_of w p x cs) (e ∙ ap (check_of w p r) (sym (four-of bs is))) ∙ sym (in_parts w p r bs cs)

  -- The same of mirrored bytes.
  pub four-taken-mirrored : (s : ℕ) → s ≡ check_of w p r (map (mirror 8) (get_or bs 0 0 ∷ get_or bs 1 0 ∷ get_or bs 2 0 ∷ get_or bs 3 0 ∷ [])) →
      check_of w p s (map (mirror 8) cs) ≡ check_of w p r (map (mirror 8) (bs ++ cs))
  four-taken-mirrored s e =
      ap (λ (x : ℕ). check_of w p x (map (mirror 8) cs)) (e ∙ ap (λ (l : List ℕ). check_of w p r (map (mirror 8) l)) (sym (four-of bs is))) ∙ mirrored-parts w p r bs cs
