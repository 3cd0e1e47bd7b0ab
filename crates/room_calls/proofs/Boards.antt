-- The boards of a file by a board number: those below it, its own and those above it; and what their rows come to.
-- Assumes nothing.
use Prim.Native.Nat.{ℕ, ◌+◌, ◌≤◌, ◌<◌}
use mathlib.Core.Path.{◌≡◌, refl, ap, sym, ◌∙◌}
use mathlib.Core.List.{List, [], ◌∷◌, ◌++◌, append-nil}
use mathlib.Core.Bool.{Bool, true, false, ◌&&◌}
use native.Mathlib.Nat.{add-zero, add_assoc}
use native.Mathlib.Omega.{arith}
use lib.ListN.{length, take, drop, length-append, length-drop}
use lib.Seq.{length-take-le}
use lib.Dec.{ltb, leb, eqb}
use borrow.Author.Tests.{ltb-true, ltb-false, leb-true, lt-ltb, le-ltb, eq-eqb, ne_eqb}
use Rattle.std.specs.Prelude.{Ok}
use Rattle.layout.specs.Bytes.{part_at, refusal}
use Rattle.layout.specs.Each.{Each, none as nothing, also}
use Rattle.layout.specs.Change.{allowed, denied}
use Rattle.layout.proofs.Choices.{both}
use Rattle.rooms.specs.File.{Board, bodies_of, Row, right_from, sizes, boards_of}
use Rattle.rooms.specs.Grammar.{Rising, none, next, Storable}
use Rattle.rooms.specs.Calls.{present, absent, below, above, body_at}
use Rattle.room_calls.specs.Rows.{right_row, sum, low_row, low_size, own_size}
use Rattle.room_calls.specs.Boards.{own}

-- a number is below another, the same or above it
data Order (a n : ℕ) : Type 0 where
  lower : a < n → Order a n
  same : a ≡ n → Order a n
  higher : n < a → Order a n

order : (a n : ℕ) → Order a n
order a n = go (ltb a n) (ltb n a) refl refl
  where
    go : (x y : Bool) → ltb a n ≡ x → ltb n a ≡ y → Order a n
    go true y p q = lower (ltb-true a n p)
    go false true p q = higher (ltb-true n a q)
    go false false p q = same (omega (arith, ltb-false a n p, ltb-false n a q))

-- ---- rows

-- what is known of the first of rows that are right
record First (low : ℕ) (r : Row) (rs : List Row) : Type 0 where
  pub number : low ≤ r.number
  pub rest : right_from (r.number + 1) rs ≡ true

right-first : (low : ℕ) (r : Row) (rs : List Row) → right_from low (r ∷ rs) ≡ true → First low r rs
unfolding right_from
right-first low r rs ok =
    let x = both (right_row low r) (right_from (r.number + 1) rs) ok in
    let y = both (leb low r.number && eqb r.zero 0) (leb 1 r.size) x.0 in
    let z = both (leb low r.number) (eqb r.zero 0) y.0 in
    record { number = leb-true low r.number z.0; rest = x.1 }

-- rows above a number weigh nothing where none of them does
sum-above : (f : Row → ℕ) (n : ℕ) → ((r : Row) → n < r.number → f r ≡ 0) → (low : ℕ) (rs : List Row) → right_from low rs ≡ true → n < low → sum f rs ≡ 0
unfolding sum
sum-above f n light low [] ok lt = refl
sum-above f n light low (r ∷ rs) ok lt =
    let h = right-first low r rs ok in
    omega (arith, light r (omega (arith, h.number)), sum-above f n light (r.number + 1) rs h.rest (omega (arith, h.number)))

-- what rows come to is what their boards do
pub record Tallies (n : ℕ) (rs : List Row) (bs : List Board) : Type 0 where
  pub rows : sum (low_row n) rs ≡ length (below n bs)
  pub bytes : sum (low_size n) rs ≡ length (bodies_of (below n bs))
  pub its : sum (own_size n) rs ≡ length (bodies_of (own n bs))
  pub total : sizes rs ≡ length (bodies_of bs)

module _ (n : ℕ) (r : Row) (rs : List Row) (s : List ℕ) (ok : right_from (r.number + 1) rs ≡ true) (le : r.size ≤ length s) (t : Tallies n rs (boards_of rs (drop r.size s))) where
  long : (xs : List ℕ) → length (take r.size s ++ xs) ≡ r.size + length xs
  long xs = length-append (take r.size s) xs ∙ ap (λ (k : ℕ). k + length xs) (length-take-le r.size s le)

  all : sizes (r ∷ rs) ≡ length (bodies_of (boards_of (r ∷ rs) s))
  unfolding sizes boards_of bodies_of
  all = omega (arith, t.total, long (bodies_of (boards_of rs (drop r.size s))))

  its-other : (r.number ≡ n → ⊥) → sum (own_size n) (r ∷ rs) ≡ length (bodies_of (own n (boards_of (r ∷ rs) s)))
  unfolding sum boards_of own bodies_of
  its-other ne = rw (ne_eqb r.number n ne) (omega (arith, t.its))

  module _ (past : n ≤ r.number) where
    light : (f : Row → ℕ) → ((x : Row) → n < x.number → f x ≡ 0) → sum f rs ≡ 0
    light f each = sum-above f n each (r.number + 1) rs ok (omega arith)

    rows-past : sum (low_row n) (r ∷ rs) ≡ length (below n (boards_of (r ∷ rs) s))
    unfolding sum boards_of below
    rows-past = rw (le-ltb r.number n past) (omega (arith, light (low_row n) (λ x lt. rw (le-ltb x.number n (omega arith)))))

    bytes_past : sum (low_size n) (r ∷ rs) ≡ length (bodies_of (below n (boards_of (r ∷ rs) s)))
    unfolding sum boards_of below bodies_of
    bytes_past = rw (le-ltb r.number n past) (omega (arith, light (low_size n) (λ x lt. rw (le-ltb x.number n (omega arith)))))

  tally-more : Order r.number n → Tallies n (r ∷ rs) (boards_of (r ∷ rs) s)
  unfolding sum boards_of below own bodies_of
  tally-more (lower lt) =
      record {
        rows = rw (lt-ltb r.number n lt) (omega (arith, t.rows));
        bytes = rw (lt-ltb r.number n lt) (omega (arith, t.bytes, long (bodies_of (below n (boards_of rs (drop r.size s))))));
        its = its-other (λ e. omega arith);
        total = all;
      }
  tally-more (same e) =
      record {
        rows = rows-past (omega arith);
        bytes = bytes_past (omega arith);
        its = rw (eq-eqb r.number n e) (omega (arith, light (omega arith) (own_size n) (λ x lt. rw (ne_eqb x.number n (λ e. omega arith))), long []));
        total = all;
      }
  tally-more (higher lt) = record { rows = rows-past (omega arith); bytes = bytes_past (omega arith); its = its-other (λ e. omega arith); total = all }

pub tally-boards : (n low : ℕ) (rs : List Row) (s : List ℕ) → right_from low rs ≡ true → sizes rs ≤ length s → Tallies n rs (boards_of rs s)
unfolding sum sizes boards_of below own bodies_of
tally-boards n low [] s ok le = record { rows = refl; bytes = refl; its = refl; total = refl }
tally-boards n low (r ∷ rs) s ok le =
    let h = right-first low r rs ok in
    tally-more n r rs s h.rest (omega arith) (tally-boards n (r.number + 1) rs (drop r.size s) h.rest (omega (arith, length-drop r.size s))) (order r.number n)

-- ---- boards

own-above : (n : ℕ) {low : ℕ} {bs : List Board} → Rising low bs → n < low → own n bs ≡ []
unfolding own
own-above n none lt = refl
own-above n (next {b = b} le rs) lt = rw (ne_eqb b.number n (λ e. omega arith)) (own-above n rs (omega arith))

all_above : (n : ℕ) {low : ℕ} {bs : List Board} → Rising low bs → n < low → above n bs ≡ bs
unfolding above
all_above n none lt = refl
all_above n (next {b = b} le rs) lt = rw (lt-ltb n b.number (omega arith))

-- those below come first, and those above last
pub splits : (n : ℕ) {low : ℕ} {bs : List Board} → Rising low bs → bs ≡ below n bs ++ (own n bs ++ above n bs)
unfolding below own above
splits n none = refl
splits n (next {b = b} {bs = bs} le rs) = step (order b.number n) (splits n rs)
  where
    step : Order b.number n → bs ≡ below n bs ++ (own n bs ++ above n bs) → b ∷ bs ≡ below n (b ∷ bs) ++ (own n (b ∷ bs) ++ above n (b ∷ bs))
    step (lower lt) q = rw (lt-ltb b.number n lt, ne_eqb b.number n (λ e. omega arith), le-ltb n b.number (omega arith)) (ap (λ (l : List Board). b ∷ l) q)
    step (same e) q = rw (le-ltb b.number n (omega arith), eq-eqb b.number n e, le-ltb n b.number (omega arith), all_above n rs (omega arith))
    step (higher lt) q = rw (le-ltb b.number n (omega arith), ne_eqb b.number n (λ e. omega arith), lt-ltb n b.number lt, own-above n rs (omega arith))

-- the board of a number is there, or it is not
pub data There (n : ℕ) (bs : List Board) : Type 0 where
  isnt : own n bs ≡ [] → present n bs ≡ denied (refusal 22 0) → absent n bs ≡ allowed → There n bs
  is : (b : Board) → own n bs ≡ b ∷ [] → 1 ≤ length b.body → present n bs ≡ allowed → absent n bs ≡ denied (refusal 23 0) → There n bs

pub there : (n : ℕ) {bs : List Board} → Each Storable bs → There n bs
unfolding own present absent
there n nothing = isnt refl refl refl
there n (also {x = b} {xs = bs} s ss) = go (order b.number n) (there n ss)
  where
    other : (b.number ≡ n → ⊥) → There n bs → There n (b ∷ bs)
    other ne (isnt o p a) = isnt (rw (ne_eqb b.number n ne) o) (rw (ne_eqb n b.number (λ e. ne (sym e))) p) (rw (ne_eqb n b.number (λ e. ne (sym e))) a)
    other ne (is x o l p a) = is x (rw (ne_eqb b.number n ne) o) l (rw (ne_eqb n b.number (λ e. ne (sym e))) p) (rw (ne_eqb n b.number (λ e. ne (sym e))) a)

    go : Order b.number n → There n bs → There n (b ∷ bs)
    go (lower lt) t = other (λ e. omega arith) t
    go (same e) t = is b (rw (eq-eqb b.number n e)) s.least (rw (eq-eqb n b.number (sym e))) (rw (eq-eqb n b.number (sym e)))
    go (higher lt) t = other (λ e. omega arith) t

-- a body stands after those below it
pub body-at : (n p : ℕ) {low : ℕ} {bs : List Board} → Rising low bs → (b : Board) → own n bs ≡ b ∷ [] →
    body_at n p bs ≡ Ok (part_at (p + length (bodies_of (below n bs))) (length (bodies_of (own n bs))))
unfolding below own body_at bodies_of
body-at n p none b q = let z : ◌≡◌ {A = ℕ} 0 1 = cc in absurd (omega arith)
body-at n p (next {b = x} {bs = bs} le rs) b q = step (order x.number n) (λ o. body-at n (p + length x.body) rs b o)
  where
    step : Order x.number n → (own n bs ≡ b ∷ [] → body_at n (p + length x.body) bs ≡ Ok (part_at (p + length x.body + length (bodies_of (below n bs))) (length (bodies_of (own n bs))))) →
        body_at n p (x ∷ bs) ≡ Ok (part_at (p + length (bodies_of (below n (x ∷ bs)))) (length (bodies_of (own n (x ∷ bs)))))
    step (lower lt) rest =
        let ne = ne_eqb x.number n (λ e. omega arith) in
        rw (ne_eqb n x.number (λ e. omega arith), lt-ltb x.number n lt, ne, length-append x.body (bodies_of (below n bs)), ← add_assoc p (length x.body) (length (bodies_of (below n bs)))) (rest (rw ne at q))
    step (same e) rest = rw (eq-eqb n x.number (sym e), le-ltb x.number n (omega arith), eq-eqb x.number n e, append-nil x.body, add-zero p)
    step (higher lt) rest =
        let o : own n bs ≡ b ∷ [] = rw (ne_eqb x.number n (λ e. omega arith)) at q in
        let z : ◌≡◌ {A = ℕ} 0 1 = cc (own-above n rs (omega arith)) in
        absurd (omega arith)
