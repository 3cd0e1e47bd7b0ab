-- The rules pass: entries are judged fine exactly where each named one meets its rule and comes once.
-- Assumes nothing.
use Prim.Native.Nat.{ℕ, zero, suc, ◌+◌, ◌≤◌}
use mathlib.Core.Path.{◌≡◌, refl, sym, ◌∙◌}
use mathlib.Core.List.{List, [], ◌∷◌, ◌++◌, map}
use mathlib.Core.Bool.{Bool, true, false}
use native.Mathlib.Omega.{arith}
use borrow.Author.Tests.{leb-true, le-leb}
use Rattle.layout.specs.Bytes.{if}
use Rattle.layout.specs.Shape.{Shape, Label, Judged, fine}
use Rattle.layout.specs.Editions.{Since, from, never, since, reached, names}
use Rattle.layout.specs.Walk.{Raw, Content, content, label_of}
use Rattle.layout.specs.Read.{same, seen_before, reader_rule, fault, or_else, judge}
use Rattle.laws.specs.Contents.{valued, replaced}
use Rattle.layout.specs.Each.{Each, none, also}
use Rattle.laws.specs.Grammar.{Ruled, New, Lawful, no_more, and_then}
use Rattle.layout.proofs.Lists.{each_map, each-every}
use Rattle.layout.proofs.Choices.{false-true, both}

-- not seen before: no label seen is the same
pub unseen : (S : Shape) (a : Label) (seen : List Label) → seen_before S seen a ≡ false → Each (λ b. same S a b ≡ false) seen
unfolding seen_before
unseen S a [] e = none
unseen S a (b ∷ bs) e = go (same S a b) refl e (unseen S a bs)
  where
    go : (t : Bool) → same S a b ≡ t → if t (λ _. true) (λ _. seen_before S bs a) ≡ false
        → (seen_before S bs a ≡ false → Each (λ b. same S a b ≡ false) bs) → Each (λ b. same S a b ≡ false) (b ∷ bs)
    go true q e rest = false-true (sym e)
    go false q e rest = also q (rest e)

pub each-unseen : (S : Shape) (a : Label) (seen : List Label) → Each (λ b. same S a b ≡ false) seen → seen_before S seen a ≡ false
unfolding seen_before
each-unseen S a [] none = refl
each-unseen S a (b ∷ bs) (also q qs) = rw q (each-unseen S a bs qs)

-- nothing is wrong with an entry exactly where it meets its rule and comes once
fault-none : (S : Shape) (e : ℕ) (seen : List Label) (c : Content) → fault S e seen c ≡ 0 → Ruled S e c × Each (New S e c) seen
unfolding fault
fault-none S e seen c q = go (names S e c.code) (reader_rule S c) (seen_before S seen (label_of c)) refl refl refl q
  where
    go : (t u v : Bool) → names S e c.code ≡ t → reader_rule S c ≡ u → seen_before S seen (label_of c) ≡ v →
        if {A = ℕ} t (λ _. if u (λ _. if v (λ _. 8) (λ _. 0)) (λ _. 7)) (λ _. 0) ≡ 0 → Ruled S e c × Each (New S e c) seen
    go false u v n r s q = (λ m. false-true (sym n ∙ m), each-every seen (λ b m. false-true (sym n ∙ m)))
    go true false v n r s q = absurd (omega arith)
    go true true true n r s q = absurd (omega arith)
    go true true false n r s q = (λ m. r, each_map (λ b x m. x) (unseen S (label_of c) seen s))

none-fault : (S : Shape) (e : ℕ) (seen : List Label) (c : Content) → Ruled S e c → Each (New S e c) seen → fault S e seen c ≡ 0
unfolding fault
none-fault S e seen c r n = go (names S e c.code) refl
  where
    go : (t : Bool) → names S e c.code ≡ t → if {A = ℕ} t (λ _. if (reader_rule S c) (λ _. if (seen_before S seen (label_of c)) (λ _. 8) (λ _. 0)) (λ _. 7)) (λ _. 0) ≡ 0
    go false q = refl
    go true q = rw (r q, each-unseen S (label_of c) seen (each_map (λ b x. x q) n))

pub or-fine : (n p : ℕ) (rest : Unit {0} → Judged) → or_else n p rest ≡ fine → (n ≡ 0) × (rest tt ≡ fine)
or-fine zero p rest h = (refl, h)
or-fine (suc n) p rest h = let z : ◌≡◌ {A = ℕ} 0 1 = cc in absurd (omega arith)

-- entries that are judged fine are lawful
pub judge-lawful : (S : Shape) (e : ℕ) (seen : List Label) (rs : List Raw) (p : ℕ) → judge S e seen rs p ≡ fine → Lawful S e seen (map content rs)
unfolding judge
judge-lawful S e seen [] p h = no_more
judge-lawful S e seen (r ∷ rs) p h =
    let k = or-fine (fault S e seen (content r)) p (λ _. judge S e (seen ++ (label_of (content r) ∷ [])) rs (p + r.frame.size)) h in
    let w = fault-none S e seen (content r) k.0 in
    and_then w.0 w.1 (judge-lawful S e (seen ++ (label_of (content r) ∷ [])) rs (p + r.frame.size) k.1)

-- lawful entries are judged fine, wherever they stand
pub lawful-judge : (S : Shape) (e : ℕ) (seen : List Label) (rs : List Raw) (p : ℕ) → Lawful S e seen (map content rs) → judge S e seen rs p ≡ fine
unfolding judge
lawful-judge S e seen [] p no_more = refl
lawful-judge S e seen (r ∷ rs) p (and_then u n l) =
    rw (none-fault S e seen (content r) u n) (lawful-judge S e (seen ++ (label_of (content r) ∷ [])) rs (p + r.frame.size) l)

-- ---- editions

-- what an edition names, every later one names
pub names-up : (S : Shape) (o n c : ℕ) → o ≤ n → names S o c ≡ true → names S n c ≡ true
unfolding names
names-up S o n c le h = go (since S c) h
  where
    go : (x : Since) → reached x o ≡ true → reached x n ≡ true
    go (from m) h = le-leb m n (let k = leb-true m o h in omega arith)
    go never h = false-true h

-- what is lawful to an edition is lawful to every older one
pub lawful-down : (S : Shape) (o n : ℕ) (seen : List Label) (cs : List Content) → o ≤ n → Lawful S n seen cs → Lawful S o seen cs
lawful-down S o n seen [] le no_more = no_more
lawful-down S o n seen (c ∷ cs) le (and_then r w l) =
    and_then (λ m. r (names-up S o n c.code le m)) (each_map (λ b x m. x (names-up S o n c.code le m)) w)
    (lawful-down S o n (seen ++ (label_of c ∷ [])) cs le l)

-- ---- another value

-- the new value meets the rule of entry i
abbrev pub RuledAt : Shape → List Content → ℕ → List ℕ → Type 0
RuledAt S [] i v = Unit {0}
RuledAt S (c ∷ cs) zero v = S.value_rule c.code v ≡ true
RuledAt S (c ∷ cs) (suc i) v = RuledAt S cs i v

ruled-valued : (S : Shape) (e : ℕ) (c : Content) (v : List ℕ) → S.value_rule c.code v ≡ true → Ruled S e c → Ruled S e (valued c v)
unfolding reader_rule
ruled-valued S e c v ok r m = rw ((both (S.reader_key c.code c.key) (S.value_rule c.code c.value) (r m)).0, ok)

-- a new value that meets its rule keeps entries lawful, to every edition
pub lawful-replaced : (S : Shape) (e : ℕ) (seen : List Label) (cs : List Content) (i : ℕ) (v : List ℕ) → RuledAt S cs i v → Lawful S e seen cs → Lawful S e seen (replaced cs i v)
unfolding replaced
lawful-replaced S e seen [] i v ok no_more = no_more
lawful-replaced S e seen (c ∷ cs) zero v ok (and_then r w l) = and_then (ruled-valued S e c v ok r) w l
lawful-replaced S e seen (c ∷ cs) (suc i) v ok (and_then r w l) = and_then r w (lawful-replaced S e (seen ++ (label_of c ∷ [])) cs i v ok l)
