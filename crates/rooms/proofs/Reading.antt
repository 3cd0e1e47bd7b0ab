-- A file is read as boards exactly where it is the file of those boards.
-- Assumes nothing.
use Prim.Native.Nat.{ℕ, zero, suc, ◌+◌, ◌*◌, ◌/◌, ◌%◌, ◌≤◌, ◌<◌}
use mathlib.Core.Path.{◌≡◌, refl, ap, ap₂, sym, ◌∙◌, subst}
use mathlib.Core.List.{List, [], ◌∷◌, ◌++◌, append_assoc, map}
use mathlib.Core.Bool.{Bool, true, false, ◌&&◌}
use native.Mathlib.Omega.{arith}
use lib.ListN.{length, get_or, take, drop, length-append, length-drop, take-append-drop}
use lib.Seq.{drop-cons, take-add, take_at, drop_at, drop-drop, get_or-drop, length-take-le}
use lib.Dec.{leb, eqb}
use borrow.Author.Tests.{leb-true, eqb-true, le-leb, eq-eqb}
use Rattle.layout.specs.Bytes.{if, same_bytes, part, high_first}
use Rattle.layout.specs.Each.{Each, none, also}
use Rattle.layout.proofs.Choices.{both}
use Rattle.layout.proofs.Lists.{joined-append, same_refl, same_true}
use Rattle.rooms.specs.File.{Board, board, two, four, head, row_of, rows_of, bodies_of, file_of, known_form, rows_at, bodies_at, count_in, headed, Row, row_in, rows_in, right_from, sizes, boards_of, Room, holds, wrong, read_rows, read_room}
use Rattle.rooms.specs.Grammar.{Rising, none as noneRises, next, Storable, Holdable, IsFile}

-- ---- numbers in bytes

-- bytes are numbers below 256
abbrev pub Bytes : List ℕ → Type 0
Bytes s = (i : ℕ) → get_or s i 0 < 256

bytes_rest : (n : ℕ) (s : List ℕ) → Bytes s → Bytes (drop n s)
bytes_rest n s b i = rw (get_or-drop n s i 0) (b (n + i))

two_back : (h l : ℕ) → h < 256 → l < 256 → two (high_first 0 (h ∷ l ∷ [])) ≡ h ∷ l ∷ []
unfolding high_first
two_back h l p q =
    let x : ((0 + h) * 256 + l) / 256 % 256 ≡ h = omega (arith, p, q) in
    let y : ((0 + h) * 256 + l) % 256 ≡ l = omega (arith, p, q) in
    ap₂ (λ (a b : ℕ). a ∷ b ∷ []) x y

two-forth : (n : ℕ) → n < 65536 → high_first 0 (two n) ≡ n
unfolding high_first
two-forth n p = omega (arith, p)

four-back : (a b c d : ℕ) → a < 256 → b < 256 → c < 256 → d < 256 → four (high_first 0 (a ∷ b ∷ c ∷ d ∷ [])) ≡ a ∷ b ∷ c ∷ d ∷ []
unfolding high_first
four-back a b c d p q r t =
    let n = (((0 + a) * 256 + b) * 256 + c) * 256 + d in
    let w : n / 16777216 % 256 ≡ a = omega (arith, p, q, r, t) in
    let x : n / 65536 % 256 ≡ b = omega (arith, p, q, r, t) in
    let y : n / 256 % 256 ≡ c = omega (arith, p, q, r, t) in
    let z : n % 256 ≡ d = omega (arith, p, q, r, t) in
    rw (w, x, y, z)

two-below : (h l : ℕ) → h < 256 → l < 256 → high_first 0 (h ∷ l ∷ []) ≤ 65535
unfolding high_first
two-below h l p q = omega (arith, p, q)

four_below : (a b c d : ℕ) → a < 256 → b < 256 → c < 256 → d < 256 → high_first 0 (a ∷ b ∷ c ∷ d ∷ []) < 4294967296
unfolding high_first
four_below a b c d p q r t = omega (arith, p, q, r, t)

byte_more : (n : ℕ) → n / 256 * 256 + n % 256 ≡ n
byte_more n = omega arith

four-forth : (n : ℕ) → n < 4294967296 → high_first 0 (four n) ≡ n
unfolding high_first
four-forth n p =
    let x : n / 65536 ≡ n / 256 / 256 = omega arith in
    let y : n / 16777216 ≡ n / 256 / 256 / 256 = omega arith in
    let lt : n / 16777216 < 256 = omega (arith, p) in
    let z : 0 * 256 + n / 16777216 % 256 ≡ n / 16777216 = omega (arith, lt) in
    rw (z, y, x, byte_more (n / 256 / 256), byte_more (n / 256), byte_more n)

-- ---- a row

-- a list of eight bytes and more
data Eight : List ℕ → Type 0 where
  eight : (a b c d f z h l : ℕ) (t : List ℕ) → Eight (a ∷ b ∷ c ∷ d ∷ f ∷ z ∷ h ∷ l ∷ t)

has-eight : (t : List ℕ) → 8 ≤ length t → Eight t
has-eight t le =
    let at : (j : ℕ) → j < 8 → drop j t ≡ get_or t j 0 ∷ drop (suc j) t = λ j lt. drop-cons t j 0 (omega (arith, le, lt)) in
    let a = at 0 (omega arith) in
    let b = at 1 (omega arith) in
    let c = at 2 (omega arith) in
    let d = at 3 (omega arith) in
    let f = at 4 (omega arith) in
    let z = at 5 (omega arith) in
    let h = at 6 (omega arith) in
    let l = at 7 (omega arith) in
    let whole : t ≡ get_or t 0 0 ∷ get_or t 1 0 ∷ get_or t 2 0 ∷ get_or t 3 0 ∷ get_or t 4 0 ∷ get_or t 5 0 ∷ get_or t 6 0 ∷ get_or t 7 0 ∷ drop 8 t = cc in
    subst Eight (sym whole) (eight _ _ _ _ _ _ _ _ _)

-- a board whose row these eight bytes are, where its zero is one and the body has its length
record RowIs (t s : List ℕ) (r : Row) : Type 0 where
  row : row_of (board r.number r.format (take r.size s)) ≡ take 8 t
  number : r.number < 4294967296
  format : r.format < 256
  size : r.size ≤ 65535

row_is : {t : List ℕ} (s : List ℕ) → Eight t → Bytes t → (row_in t).zero ≡ 0 → (row_in t).size ≤ length s → RowIs t s (row_in t)
unfolding row_in row_of part
row_is s (eight a b c d f z h l t) by e fits =
    let long : length (take (high_first 0 (h ∷ l ∷ [])) s) ≡ high_first 0 (h ∷ l ∷ []) = length-take-le _ s fits in
    let low : f % 256 ≡ f = omega (arith, by 4) in
    let cons : ℕ → List ℕ → List ℕ = λ x xs. x ∷ xs in
    record {
      row =
          ap₂ (λ (x y : List ℕ). x ++ y) (four-back a b c d (by 0) (by 1) (by 2) (by 3))
          (ap₂ cons low (ap₂ cons (sym e) (ap two long ∙ two_back h l (by 6) (by 7))));
      number = four_below a b c d (by 0) (by 1) (by 2) (by 3);
      format = by 4;
      size = two-below h l (by 6) (by 7);
    }

-- ---- the rows and the bodies

empty : (s : List ℕ) → 0 ≡ length s → [] ≡ s
empty [] e = refl
empty (x ∷ xs) e = absurd (omega (arith, e))

-- as many boards as rows, and their bodies are all of the bytes that the rows sum to
boards-bodies : (rs : List Row) (s : List ℕ) → sizes rs ≡ length s → bodies_of (boards_of rs s) ≡ s
unfolding sizes boards_of bodies_of
boards-bodies [] s sum = empty s sum
boards-bodies (r ∷ rs) s sum =
    rw (boards-bodies rs (drop r.size s) (omega (arith, sum, length-drop r.size s))) (take-append-drop r.size s)

pub boards-count : (n : ℕ) (t s : List ℕ) → length (boards_of (rows_in n t) s) ≡ n
unfolding rows_in boards_of
boards-count zero t s = refl
boards-count (suc n) t s = ap suc (boards-count n (drop 8 t) (drop (row_in t).size s))

-- what the boards of right rows are
record Are (n low : ℕ) (t : List ℕ) (bs : List Board) : Type 0 where
  rows : rows_of bs ≡ take (8 * n) t
  rising : Rising low bs
  storable : Each Storable bs

rows_are : (n low : ℕ) (t s : List ℕ) → Bytes t → 8 * n ≤ length t → right_from low (rows_in n t) ≡ true → sizes (rows_in n t) ≡ length s → Are n low t (boards_of (rows_in n t) s)
unfolding rows_in right_from sizes boards_of rows_of
rows_are zero low t s by le right sum = record { rows = refl; rising = noneRises; storable = none }
rows_are (suc n) low t s by le right sum =
    let r = row_in t in
    let w = both (leb low r.number && eqb r.zero 0 && leb 1 r.size) (right_from (r.number + 1) (rows_in n (drop 8 t))) right in
    let x = both (leb low r.number && eqb r.zero 0) (leb 1 r.size) w.0 in
    let y = both (leb low r.number) (eqb r.zero 0) x.0 in
    let long : 8 ≤ length t = omega (arith, le) in
    let fits : r.size ≤ length s = omega (arith, sum) in
    let is = row_is s (has-eight t long) by (eqb-true r.zero 0 y.1) fits in
    let rest = rows_are n (r.number + 1) (drop 8 t) (drop r.size s) (bytes_rest 8 t by)
    (omega (arith, le, length-drop 8 t)) w.1 (omega (arith, sum, length-drop r.size s)) in
    let long' : length (take r.size s) ≡ r.size = length-take-le r.size s fits in
    let more : 8 * suc n ≡ 8 + 8 * n = omega arith in
    let fine : Storable (board r.number r.format (take r.size s)) =
    record { number = is.number; format = is.format; least = rw long' (leb-true 1 r.size x.1); most = rw long' is.size } in
    record {
      rows = rw (is.row, rest.rows, more) (sym (take-add 8 (8 * n) t));
      rising = next (leb-true low r.number y.0) rest.rising;
      storable = also fine rest.storable;
    }

-- ---- the file

-- what a choice holds, the side that was taken holds
holds-only : (b : Bool) (x : Room) (bs : List Board) → if b (λ _. x) (λ _. wrong) ≡ holds bs → (b ≡ true) × (x ≡ holds bs)
holds-only true x bs q = (refl, q)
holds-only false x bs q = let z : ◌≡◌ {A = ℕ} 0 1 = cc in absurd (omega arith)

record Begins (form : ℕ) (file : List ℕ) : Type 0 where
  form_is : form ≡ 1
  front : take 8 file ≡ head form (count_in file)
  count : count_in file ≤ 65535

headed-begins : (form : ℕ) (file : List ℕ) → Bytes file → 8 ≤ length file → headed form file ≡ true → Begins form file
unfolding headed part
headed-begins form file by le e =
    let x = both (known_form form) (same_bytes (take 8 file) (head form (count_in file))) e in
    record { form_is = eqb-true form 1 x.0; front = same_true (take 8 file) (head form (count_in file)) x.1; count = go (has-eight file le) by }
  where
    go : {t : List ℕ} → Eight t → Bytes t → count_in t ≤ 65535
    go (eight a b c d f z h l t) by = two-below f z (by 4) (by 5)

-- what is known of a file that is read as boards
pub record Reads (form : ℕ) (file : List ℕ) (bs : List Board) : Type 0 where
  pub long : bodies_at form (count_in file) ≤ length file
  pub begins : headed form file ≡ true
  pub right : right_from 0 (rows_in (count_in file) (drop (rows_at form) file)) ≡ true
  pub sum : sizes (rows_in (count_in file) (drop (rows_at form) file)) ≡ length (drop (bodies_at form (count_in file)) file)
  pub is : boards_of (rows_in (count_in file) (drop (rows_at form) file)) (drop (bodies_at form (count_in file)) file) ≡ bs

pub reads : (form : ℕ) (file : List ℕ) (bs : List Board) → read_room form file ≡ holds bs → Reads form file bs
unfolding read_room
reads form file bs q =
    let n = count_in file in
    let rs = rows_in n (drop (rows_at form) file) in
    let s = drop (bodies_at form n) file in
    let x = holds-only (headed form file && leb (bodies_at form n) (length file)) (read_rows rs s) bs q in
    let y = both (headed form file) (leb (bodies_at form n) (length file)) x.0 in
    let w = holds-only (right_from 0 rs && eqb (sizes rs) (length s)) (holds (boards_of rs s)) bs x.1 in
    let v = both (right_from 0 rs) (eqb (sizes rs) (length s)) w.0 in
    record { long = leb-true (bodies_at form n) (length file) y.1; begins = y.0; right = v.0; sum = eqb-true (sizes rs) (length s) v.1; is = cc }

-- a file is as long as its head, its rows and its bodies
pub read_length : (form : ℕ) (file : List ℕ) (bs : List Board) → read_room form file ≡ holds bs → length file ≡ bodies_at form (length bs) + length (bodies_of bs)
read_length form file bs q =
    let n = count_in file in
    let rs = rows_in n (drop (rows_at form) file) in
    let s = drop (bodies_at form n) file in
    let x = reads form file bs q in
    let count : length bs ≡ n = ap length (sym x.is) ∙ boards-count n (drop (rows_at form) file) s in
    let bodies : length (bodies_of bs) ≡ length s = ap (λ (l : List Board). length (bodies_of l)) (sym x.is) ∙ ap length (boards-bodies rs s x.sum) in
    omega (arith, x.long, count, bodies, length-drop (bodies_at form n) file)

pub read_is : (form : ℕ) (file : List ℕ) (bs : List Board) → Bytes file → read_room form file ≡ holds bs → IsFile form file bs
unfolding file_of
read_is form file bs by q =
    let n = count_in file in
    let rs = rows_in n (drop 8 file) in
    let s = drop (8 + 8 * n) file in
    let x = reads form file bs q in
    let begins = headed-begins form file by (omega (arith, x.long)) x.begins in
    let are = subst (Are n 0 (drop 8 file)) x.is (rows_are n 0 (drop 8 file) s (bytes_rest 8 file by) (omega (arith, x.long, length-drop 8 file)) x.right x.sum) in
    let count : length bs ≡ n = ap length (sym x.is) ∙ boards-count n (drop 8 file) s in
    let bodies : bodies_of bs ≡ s = ap bodies_of (sym x.is) ∙ boards-bodies rs s x.sum in
    let rest : drop 8 file ≡ take (8 * n) (drop 8 file) ++ s = rw (← drop-drop (8 * n) 8 file) (sym (take-append-drop (8 * n) (drop 8 file))) in
    record {
      holdable = record { form_is = begins.form_is; count = rw count begins.count; rising = are.rising; storable = are.storable };
      is = rw (count, are.rows, bodies, ← begins.front, ← rest) (sym (take-append-drop 8 file));
    }

-- ---- and back

-- the row of a board, as it is read
abbrev stored : Board → Row
stored b = record { number = b.number; format = b.format; zero = 0; size = length b.body }

pub row-length : (b : Board) → length (row_of b) ≡ 8
unfolding row_of
row-length b = refl

row-stored : (b : Board) (t : List ℕ) → Storable b → row_in (row_of b ++ t) ≡ stored b
unfolding row_in row_of part
row-stored b t h =
    let low : b.format % 256 ≡ b.format = omega (arith, h.format) in
    let few : length b.body < 65536 = omega (arith, h.most) in
    let row : ℕ → ℕ → ℕ → Row = λ n f m. record { number = n; format = f; zero = 0; size = m } in
    ap₂ (λ (n m : ℕ). row n (b.format % 256) m) (four-forth b.number h.number) (two-forth (length b.body) few)
    ∙ ap (λ (f : ℕ). row b.number f (length b.body)) low

rows-stored : (bs : List Board) (t : List ℕ) → Each Storable bs → rows_in (length bs) (rows_of bs ++ t) ≡ map stored bs
unfolding rows_in rows_of
rows-stored [] t none = refl
rows-stored (b ∷ bs) t (also h hs) =
    let on : row_of b ++ rows_of bs ++ t ≡ row_of b ++ (rows_of bs ++ t) = append_assoc (row_of b) (rows_of bs) t in
    let rest : drop 8 (row_of b ++ (rows_of bs ++ t)) ≡ rows_of bs ++ t = drop_at (row_of b) (rows_of bs ++ t) 8 (row-length b) in
    rw (on, rest) (ap₂ (λ (x : Row) (xs : List Row). x ∷ xs) (row-stored b (rows_of bs ++ t) h) (rows-stored bs t hs))

stored-right : (low : ℕ) (bs : List Board) → Rising low bs → Each Storable bs → right_from low (map stored bs) ≡ true
unfolding right_from
stored-right low [] noneRises none = refl
stored-right low (b ∷ bs) (next le rises) (also h hs) =
    rw (le-leb low b.number le, le-leb 1 (length b.body) h.least) (stored-right (b.number + 1) bs rises hs)

stored-sizes : (bs : List Board) → sizes (map stored bs) ≡ length (bodies_of bs)
unfolding sizes bodies_of
stored-sizes [] = refl
stored-sizes (b ∷ bs) = rw (stored-sizes bs) (sym (length-append b.body (bodies_of bs)))

stored-boards : (bs : List Board) → boards_of (map stored bs) (bodies_of bs) ≡ bs
unfolding boards_of bodies_of
stored-boards [] = refl
stored-boards (b ∷ bs) =
    let n = length b.body in
    rw (take_at b.body (bodies_of bs) n refl, drop_at b.body (bodies_of bs) n refl) (ap (λ (x : List Board). b ∷ x) (stored-boards bs))

pub rows-length : (bs : List Board) → length (rows_of bs) ≡ 8 * length bs
unfolding rows_of
rows-length [] = refl
rows-length (b ∷ bs) = omega (arith, length-append (row_of b) (rows_of bs), row-length b, rows-length bs)

pub head-length : (form n : ℕ) → length (head form n) ≡ 8
unfolding head
head-length form n = refl

head-count : (form n : ℕ) (t : List ℕ) → n ≤ 65535 → count_in (head form n ++ t) ≡ n
unfolding head part
head-count form n t le = two-forth n (omega (arith, le))

head-headed : (form n : ℕ) (t : List ℕ) → form ≡ 1 → n ≤ 65535 → headed form (head form n ++ t) ≡ true
unfolding headed
head-headed form n t e le = rw (eq-eqb form 1 e, head-count form n t le, take_at (head form n) t 8 (head-length form n)) (same_refl (head form n))

pub file-rest : (form : ℕ) (bs : List Board) → drop 8 (file_of form bs) ≡ rows_of bs ++ bodies_of bs
unfolding file_of
file-rest form bs = drop_at (head form (length bs)) (rows_of bs ++ bodies_of bs) 8 (head-length form (length bs))

pub file-bodies : (form : ℕ) (bs : List Board) → drop (bodies_at form (length bs)) (file_of form bs) ≡ bodies_of bs
file-bodies form bs =
    let n = length bs in
    sym (drop-drop (8 * n) 8 (file_of form bs)) ∙ ap (drop (8 * n)) (file-rest form bs) ∙ drop_at (rows_of bs) (bodies_of bs) (8 * n) (rows-length bs)

pub file-length : (form : ℕ) (bs : List Board) → length (file_of form bs) ≡ bodies_at form (length bs) + length (bodies_of bs)
unfolding file_of
file-length form bs =
    omega (arith, length-append (head form (length bs)) (rows_of bs ++ bodies_of bs), length-append (rows_of bs) (bodies_of bs), head-length form (length bs), rows-length bs)

pub is_read : (form : ℕ) (bs : List Board) → Holdable form bs → read_room form (file_of form bs) ≡ holds bs
unfolding read_room file_of
is_read form bs h =
    let n = length bs in
    let rest = rows_of bs ++ bodies_of bs in
    let long : leb (8 + 8 * n) (length (file_of form bs)) ≡ true = le-leb (8 + 8 * n) (length (file_of form bs)) (omega (arith, file-length form bs)) in
    let sum : eqb (sizes (map stored bs)) (length (bodies_of bs)) ≡ true = eq-eqb (sizes (map stored bs)) (length (bodies_of bs)) (stored-sizes bs) in
    rw (
      head-count form n rest h.count,
      head-headed form n rest h.form_is h.count,
      long,
      file-rest form bs,
      file-bodies form bs,
      rows-stored bs (bodies_of bs) h.storable,
      stored-right 0 bs h.rising h.storable,
      sum,
    )
    (ap holds (stored-boards bs))

pub bodies-append : (bs cs : List Board) → bodies_of (bs ++ cs) ≡ bodies_of bs ++ bodies_of cs
unfolding bodies_of
bodies-append bs cs = joined-append bodies_of (λ b. b.body) refl (λ b more. refl) bs cs
