-- A list of boards with one of them added, replaced or gone: what `changed` makes, that it rises and that each board of it can be stored.
-- Assumes nothing.
use Prim.Native.Nat.{ℕ, ◌+◌, ◌≤◌, ◌<◌}
use mathlib.Core.Path.{◌≡◌, refl, ap, sym, ◌∙◌, subst}
use mathlib.Core.List.{List, [], ◌∷◌, ◌++◌}
use mathlib.Core.Bool.{Bool, true, false}
use native.Mathlib.Omega.{arith}
use lib.Dec.{ltb, eqb}
use borrow.Author.Tests.{ltb-true, ltb-false, eqb-true, eqb-false, lt-ltb, le-ltb}
use Rattle.layout.specs.Bytes.{if, refusal}
use Rattle.layout.specs.Change.{Allowed, allowed, denied}
use Rattle.layout.specs.Each.{Each, none, also}
use Rattle.layout.proofs.Choices.{either}
use Rattle.layout.proofs.Lists.{each_first, each-rest, each_left, each_right, each_append}
use Rattle.rooms.specs.File.{Board}
use Rattle.rooms.specs.Grammar.{Rising, none as noneRises, next}
use Rattle.rooms.specs.Calls.{present, absent, below, above, changed}
use Rattle.room_promises.specs.Words.{Present, stands, Absent, Added, added, Replaced, replaced, Removed, removed, RoomChange, Changes, add, replace, remove}

-- ---- what a call asks of its board's number

-- a question about a list of boards, and the number that refuses where the answer is no
pub data Asked (Good : Type 0) (number : ℕ) : Allowed → Type 0 where
  good : Good → Asked Good number allowed
  bad : (Good → ⊥) → Asked Good number (denied (refusal number 0))

stands-later : {n : ℕ} {bs : List Board} (b : Board) → Present n bs → Present n (b ∷ bs)
stands-later b (stands before c after e) = stands (b ∷ before) c after e

pub absent-present : {n : ℕ} {bs : List Board} → Absent n bs → Present n bs → ⊥
absent-present a (stands before b after e) = each_first (each_right before (b ∷ after) a) e

-- a number is there, or it is not; 22 and 23 are given by it
data Looked (n : ℕ) (bs : List Board) : Allowed → Allowed → Type 0 where
  there : Present n bs → Looked n bs allowed (denied (refusal 23 0))
  not_there : Absent n bs → Looked n bs (denied (refusal 22 0)) allowed

looked : (n : ℕ) (bs : List Board) → Looked n bs (present n bs) (absent n bs)
unfolding present absent
looked n [] = not_there none
looked n (b ∷ bs) = go (eqb n b.number) refl (looked n bs)
  where
    later : {p a : Allowed} → eqb n b.number ≡ false → Looked n bs p a → Looked n (b ∷ bs) p a
    later e (there p) = there (stands-later b p)
    later e (not_there a) = not_there (also (λ same. eqb-false n b.number e (sym same)) a)

    go : (t : Bool) → eqb n b.number ≡ t → Looked n bs (present n bs) (absent n bs) →
        Looked n (b ∷ bs) (if t (λ _. allowed) (λ _. present n bs)) (if t (λ _. denied (refusal 23 0)) (λ _. absent n bs))
    go true e rest = there (stands [] b bs (sym (eqb-true n b.number e)))
    go false e rest = later e rest

pub present-asked : (n : ℕ) (bs : List Board) → Asked (Present n bs) 22 (present n bs)
present-asked n bs = go (looked n bs)
  where
    go : {p a : Allowed} → Looked n bs p a → Asked (Present n bs) 22 p
    go (there p) = good p
    go (not_there a) = bad (absent-present a)

pub absent-asked : (n : ℕ) (bs : List Board) → Asked (Absent n bs) 23 (absent n bs)
absent-asked n bs = go (looked n bs)
  where
    go : {p a : Allowed} → Looked n bs p a → Asked (Absent n bs) 23 a
    go (there p) = bad (λ a. absent-present a p)
    go (not_there a) = good a

-- a board that is there and is not the first is one of those after it
pub present-later : (n : ℕ) (b : Board) (bs : List Board) → (b.number ≡ n → ⊥) → Present n (b ∷ bs) → Present n bs
present-later n b bs other p = go (looked n bs)
  where
    go : {q a : Allowed} → Looked n bs q a → Present n bs
    go (there p) = p
    go (not_there a) = absurd (absent-present (also other a) p)

-- ---- the boards before a number and after it

-- boards that rise from a number above n on
pub rising-absent : (n low : ℕ) (bs : List Board) → n < low → Rising low bs → Absent n bs
rising-absent n low [] lt noneRises = none
rising-absent n low (b ∷ bs) lt (next le rises) =
    let other : b.number ≡ n → ⊥ = λ e. absurd (omega (arith, lt, le, e)) in
    also other (rising-absent n (b.number + 1) bs (omega (arith, lt, le)) rises)

above-all : (n : ℕ) (bs : List Board) → Rising (n + 1) bs → above n bs ≡ bs
unfolding above
above-all n [] noneRises = refl
above-all n (b ∷ bs) (next le rises) = rw (lt-ltb n b.number (omega (arith, le)))

-- without the number, the boards before it and those after it are all
split-absent : (n : ℕ) (bs : List Board) → Absent n bs → below n bs ++ above n bs ≡ bs
unfolding below above
split-absent n [] none = refl
split-absent n (b ∷ bs) (also other a) = go (ltb b.number n) (ltb n b.number) refl refl (split-absent n bs a)
  where
    go : (s t : Bool) → ltb b.number n ≡ s → ltb n b.number ≡ t → below n bs ++ above n bs ≡ bs →
        if s (λ _. b ∷ below n bs) (λ _. []) ++ if t (λ _. b ∷ bs) (λ _. above n bs) ≡ b ∷ bs
    go true true e f rest = absurd (omega (arith, ltb-true b.number n e, ltb-true n b.number f))
    go true false e f rest = ap (λ (x : List Board). b ∷ x) rest
    go false true e f rest = refl
    go false false e f rest = absurd (other (omega (arith, ltb-false b.number n e, ltb-false n b.number f)))

-- with it, all are those before it, one of this number, and those after it
record Split (n : ℕ) (bs : List Board) : Type 0 where
  old : Board
  is : old.number ≡ n
  whole : below n bs ++ (old ∷ above n bs) ≡ bs

split-present : (n low : ℕ) (bs : List Board) → Rising low bs → Present n bs → Split n bs
unfolding below above
split-present n low [] rises p = absurd (absent-present none p)
split-present n low (b ∷ bs) (next le rises) p = go (ltb b.number n) (ltb n b.number) refl refl (split-present n (b.number + 1) bs rises)
  where
    go : (s t : Bool) → ltb b.number n ≡ s → ltb n b.number ≡ t → (Present n bs → Split n bs) → Split n (b ∷ bs)
    go true true e f rest = absurd (omega (arith, ltb-true b.number n e, ltb-true n b.number f))
    go true false e f rest =
        let lt = ltb-true b.number n e in
        let r = rest (present-later n b bs (λ same. absurd (omega (arith, lt, same))) p) in
        record { old = r.old; is = r.is; whole = rw (e, f) (ap (λ (x : List Board). b ∷ x) r.whole) }
    go false true e f rest =
        let lt = ltb-true n b.number f in
        let other : b.number ≡ n → ⊥ = λ same. absurd (omega (arith, lt, same)) in
        absurd (absent-present (also other (rising-absent n (b.number + 1) bs (omega (arith, lt)) rises)) p)
    go false false e f rest =
        let same : b.number ≡ n = omega (arith, ltb-false b.number n e, ltb-false n b.number f) in
        record { old = b; is = same; whole = rw (e, f) (ap (λ (x : List Board). b ∷ x) (above-all n bs (rw same at rises))) }

-- ---- what a change makes

pub makes-added : (n : ℕ) (b : Board) (bs : List Board) → Absent n bs → Added b bs (changed n (b ∷ []) bs)
makes-added n b bs a = subst (λ (x : List Board). Added b x (changed n (b ∷ []) bs)) (split-absent n bs a) (added (below n bs) (above n bs))

pub makes-replaced : (n low : ℕ) (b : Board) (bs : List Board) → b.number ≡ n → Rising low bs → Present n bs → Replaced b bs (changed n (b ∷ []) bs)
makes-replaced n low b bs e rises p =
    let x = split-present n low bs rises p in
    subst (λ (y : List Board). Replaced b y (changed n (b ∷ []) bs)) x.whole (replaced (below n bs) x.old (above n bs) (x.is ∙ sym e))

pub makes-removed : (n low : ℕ) (bs : List Board) → Rising low bs → Present n bs → Removed n bs (changed n [] bs)
makes-removed n low bs rises p =
    let x = split-present n low bs rises p in
    subst (λ (y : List Board). Removed n y (changed n [] bs)) x.whole (removed (below n bs) x.old (above n bs) x.is)

-- ---- it rises

pub rising-from : (low low' : ℕ) (bs : List Board) → low' ≤ low → Rising low bs → Rising low' bs
rising-from low low' [] le noneRises = noneRises
rising-from low low' (b ∷ bs) le (next lt rises) = let from : low' ≤ b.number = omega (arith, le, lt) in next from rises

above-rises : (n low : ℕ) (bs : List Board) → Rising low bs → Rising (n + 1) (above n bs)
unfolding above
above-rises n low [] noneRises = noneRises
above-rises n low (b ∷ bs) (next le rises) = go (ltb n b.number) refl (above-rises n (b.number + 1) bs rises)
  where
    go : (t : Bool) → ltb n b.number ≡ t → Rising (n + 1) (above n bs) → Rising (n + 1) (if t (λ _. b ∷ bs) (λ _. above n bs))
    go true e rest = let from : n + 1 ≤ b.number = omega (arith, ltb-true n b.number e) in next from rises
    go false e rest = rest

-- boards that begin with number n or, where there are none, go on above it
pub changed-rises : (n low : ℕ) (new bs : List Board) → low ≤ n → ((more : List Board) → Rising (n + 1) more → Rising n (new ++ more)) → Rising low bs → Rising low (changed n new bs)
unfolding below above
changed-rises n low new [] le brings noneRises = rising-from n low (new ++ []) le (brings [] noneRises)
changed-rises n low new (b ∷ bs) le brings (next lt rises) = go (ltb b.number n) refl (changed-rises n (b.number + 1) new bs) (above-rises n low (b ∷ bs) (next lt rises))
  where
    go : (t : Bool) → ltb b.number n ≡ t →
        (b.number + 1 ≤ n → ((more : List Board) → Rising (n + 1) more → Rising n (new ++ more)) → Rising (b.number + 1) bs → Rising (b.number + 1) (changed n new bs)) →
        Rising (n + 1) (above n (b ∷ bs)) → Rising low (changed n new (b ∷ bs))
    go true e rest up =
        let under = ltb-true b.number n e in
        rw (e, le-ltb n b.number (omega (arith, under))) (next lt (rest (omega (arith, under)) brings rises))
    go false e rest up = rw e (rising-from n low (new ++ above n (b ∷ bs)) le (brings (above n (b ∷ bs)) up))

-- ---- what holds of each board

module _ {P : Board → Type 0} (n : ℕ) where
  each_below : (bs : List Board) → Each P bs → Each P (below n bs)
  unfolding below
  each_below [] none = none
  each_below (b ∷ bs) (also p ps) = either (Each P) (ltb b.number n) (λ _. also p (each_below bs ps)) (λ _. none)

  each-above : (bs : List Board) → Each P bs → Each P (above n bs)
  unfolding above
  each-above [] none = none
  each-above (b ∷ bs) (also p ps) = either (Each P) (ltb n b.number) (λ _. also p ps) (λ _. each-above bs ps)

  pub each-changed : (new bs : List Board) → Each P new → Each P bs → Each P (changed n new bs)
  each-changed new bs brought ps = each_append (below n bs) (new ++ above n bs) (each_below bs ps) (each_append new (above n bs) brought (each-above bs ps))

-- what holds of each board of a list and of those that are brought holds of each board of the list that a call makes of it
module _ {P : Board → Type 0} where
  each-added : {b : Board} {former latter : List Board} → Added b former latter → Each P (b ∷ []) → Each P former → Each P latter
  each-added {b} (added before after) (also p none) ps = each_append before (b ∷ after) (each_left before after ps) (also p (each_right before after ps))

  each-replaced : {b : Board} {former latter : List Board} → Replaced b former latter → Each P (b ∷ []) → Each P former → Each P latter
  each-replaced {b} (replaced before old after same) (also p none) ps =
      each_append before (b ∷ after) (each_left before (old ∷ after) ps) (also p (each-rest (each_right before (old ∷ after) ps)))

  each-removed : {n : ℕ} {former latter : List Board} → Removed n former latter → Each P former → Each P latter
  each-removed (removed before old after same) ps = each_append before after (each_left before (old ∷ after) ps) (each-rest (each_right before (old ∷ after) ps))

  pub each-made : {n : ℕ} {x : RoomChange} {former latter : List Board} → Changes n x → x.Makes former latter → Each P x.brings → Each P former → Each P latter
  each-made (add n f body) makes brought ps = each-added makes brought ps
  each-made (replace n f body) makes brought ps = each-replaced makes brought ps
  each-made (remove n) makes brought ps = each-removed makes ps
