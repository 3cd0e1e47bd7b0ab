-- A machine-room file lies in its bytes as is promised.
-- Assumes nothing.
use Prim.Native.Nat.{ℕ, zero, suc, ◌+◌, ◌*◌, ◌/◌, ◌%◌, ◌<◌}
use mathlib.Core.Path.{◌≡◌, refl, ap, sym, ◌∙◌}
use mathlib.Core.List.{List, [], ◌∷◌, ◌++◌, append_assoc}
use native.Mathlib.Omega.{arith}
use lib.ListN.{length, get_or, drop, length-append}
use lib.Seq.{drop_at, drop-drop, get_or-drop, take_at}
use Rattle.layout.specs.Bytes.{part}
use Rattle.layout.specs.Each.{Each, also}
use Rattle.rooms.specs.File.{Board, head, row_of, rows_of, bodies_of, file_of}
use Rattle.rooms.specs.Grammar.{IsFile}
use Rattle.rooms.proofs.Reading.{row-length, file-rest, file-bodies, file-length}
use Rattle.promises.specs.Words.{Item, here, there}
use Rattle.room_promises.specs.Places.{bytes_before, HeadLies, RowLies, RoomLies}

-- ---- numbers

four-bytes : (n : ℕ) → n < 4294967296 → n / 16777216 % 256 * 16777216 + n / 65536 % 256 * 65536 + n / 256 % 256 * 256 + n % 256 ≡ n
four-bytes n lt =
    let x : n / 65536 ≡ n / 256 / 256 = omega arith in
    let y : n / 16777216 ≡ n / 256 / 256 / 256 = omega arith in
    let top : n / 16777216 % 256 ≡ n / 16777216 = omega (arith, lt) in
    let byte : (m : ℕ) → m / 256 * 256 + m % 256 ≡ m = λ m. omega arith in
    rw (top, y, x) (omega (arith, byte (n / 256 / 256), byte (n / 256), byte n))

bodies-before : (bs : List Board) → bytes_before bs (length bs) ≡ length (bodies_of bs)
unfolding bodies_of
bodies-before [] = refl
bodies-before (b ∷ bs) = omega (arith, bodies-before bs, length-append b.body (bodies_of bs))

-- ---- the head

front-lies : (form : ℕ) (file : List ℕ) (bs : List Board) → IsFile form file bs → HeadLies form file bs
unfolding file_of head
front-lies form file bs is =
    let few : length bs < 65536 = omega (arith, is.holdable.count) in
    let two_bytes : length bs / 256 % 256 * 256 + length bs % 256 ≡ length bs = omega (arith, few) in
    let low : form % 256 ≡ form = omega (arith, is.holdable.form_is) in
    record {
      magic = (rw is.is, rw is.is);
      form_byte = rw is.is low;
      zeros = (rw is.is, rw is.is, rw is.is);
      count = rw is.is two_bytes;
      ends = rw is.is (omega (arith, file-length form bs, bodies-before bs));
    }

-- ---- rows and bodies

record From (s front : List ℕ) : Type 0 where
  more : List ℕ
  is : s ≡ front ++ more

row_at : (bs : List Board) (k : ℕ) (b : Board) (t : List ℕ) → Item bs k b → From (drop (8 * k) (rows_of bs ++ t)) (row_of b)
unfolding rows_of
row_at (b ∷ bs) zero b' t here = record { more = rows_of bs ++ t; is = append_assoc (row_of b) (rows_of bs) t }
row_at (c ∷ bs) (suc k) b t (there i) =
    let on : 8 * suc k ≡ 8 + 8 * k = omega arith in
    let x = row_at bs k b t i in
    let rest : drop (8 * suc k) (row_of c ++ rows_of bs ++ t) ≡ drop (8 * k) (rows_of bs ++ t) =
    rw (on, append_assoc (row_of c) (rows_of bs) t, ← drop-drop (8 * k) 8 (row_of c ++ (rows_of bs ++ t)), drop_at (row_of c) (rows_of bs ++ t) 8 (row-length c)) in
    record { more = x.more; is = rest ∙ x.is }
row_at [] k b' t x' = elim x' [ ]

body-at : (bs : List Board) (k : ℕ) (b : Board) → Item bs k b → From (drop (bytes_before bs k) (bodies_of bs)) b.body
unfolding bodies_of
body-at (b ∷ bs) zero b' here = record { more = bodies_of bs; is = refl }
body-at (c ∷ bs) (suc k) b (there i) =
    let x = body-at bs k b i in
    let n = length c.body in
    record { more = x.more; is = sym (drop-drop (bytes_before bs k) n (c.body ++ bodies_of bs)) ∙ ap (drop (bytes_before bs k)) (drop_at c.body (bodies_of bs) n refl) ∙ x.is }
body-at [] k b' x' = elim x' [ ]

item-each : {P : Board → Type 0} {bs : List Board} {k : ℕ} {b : Board} → Each P bs → Item bs k b → P b
item-each (also p ps) here = p
item-each (also p ps) (there i) = item-each ps i
item-each {P = P} {k = k} {b = b} Rattle.layout.specs.Each.none x3 = elim x3 [ ]

row_lies : (form : ℕ) (file : List ℕ) (bs : List Board) → IsFile form file bs → (k : ℕ) (b : Board) → Item bs k b → RowLies file bs k b
unfolding row_of part
row_lies form file bs is k b i =
    let p = 8 + 8 * k in
    let h = item-each is.holdable.storable i in
    let x = row_at bs k b (bodies_of bs) i in
    let y = body-at bs k b i in
    let front : drop 8 file ≡ rows_of bs ++ bodies_of bs = rw is.is (file-rest form bs) in
    let bodies : drop (8 + 8 * length bs) file ≡ bodies_of bs = rw is.is (file-bodies form bs) in
    let on : drop p file ≡ row_of b ++ x.more = sym (drop-drop (8 * k) 8 file) ∙ ap (drop (8 * k)) front ∙ x.is in
    let at : (j : ℕ) → get_or file (p + j) 0 ≡ get_or (row_of b ++ x.more) j 0 = λ j. sym (get_or-drop p file j 0) ∙ ap (λ (l : List ℕ). get_or l j 0) on in
    let first : p + 0 ≡ p = omega arith in
    let seventh : p + 6 + 1 ≡ p + 7 = omega arith in
    let few : length b.body < 65536 = omega (arith, h.most) in
    let two_bytes : length b.body / 256 % 256 * 256 + length b.body % 256 ≡ length b.body = omega (arith, few) in
    let low : b.format % 256 ≡ b.format = omega (arith, h.format) in
    record {
      number = rw (rw first at (at 0), at 1, at 2, at 3) (four-bytes b.number h.number);
      format = at 4 ∙ low;
      zero_byte = at 5;
      size = rw (seventh, at 6, at 7) two_bytes;
      body = rw (← drop-drop (bytes_before bs k) (8 + 8 * length bs) file, bodies, y.is) (take_at b.body y.more (length b.body) refl);
    }

pub room-lies : RoomLies
room-lies = record { front = front-lies; row = row_lies }
