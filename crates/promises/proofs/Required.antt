-- Codes that must be there are complete exactly where an entry of each is among the entries.
-- Assumes nothing.
use Prim.Native.Nat.{ℕ}
use mathlib.Core.Path.{◌≡◌, refl, ap, sym}
use mathlib.Core.List.{List, [], ◌∷◌, map}
use mathlib.Core.Bool.{Bool, true, false}
use lib.Dec.{eqb}
use borrow.Author.Tests.{eqb-true, eq-eqb}
use Rattle.layout.specs.Bytes.{if, one_of}
use Rattle.layout.specs.Walk.{Raw, Content, content}
use Rattle.layout.specs.Read.{codes_of, complete}
use Rattle.layout.specs.Write.{content_codes}
use Rattle.layout.specs.Each.{Each, none, also}
use Rattle.laws.specs.Grammar.{Among, first, later}
use Rattle.layout.proofs.Choices.{false-true, both}

-- the codes of entries that were read are those of what they say
pub said-codes : (rs : List Raw) → content_codes (map content rs) ≡ codes_of rs
unfolding content
said-codes [] = refl
said-codes (r ∷ rs) = ap (λ (x : List ℕ). r.frame.code ∷ x) (said-codes rs)

-- a code that is found is among the entries, and the other way round
found_among : (code : ℕ) (cs : List Content) → one_of (content_codes cs) code ≡ true → Among code cs
unfolding one_of
found_among code [] h = false-true h
found_among code (c ∷ cs) h = go (eqb code c.code) refl h (found_among code cs)
  where
    go : (b : Bool) → eqb code c.code ≡ b → if b (λ _. true) (λ _. one_of (content_codes cs) code) ≡ true → (one_of (content_codes cs) code ≡ true → Among code cs) →
        Among code (c ∷ cs)
    go true e h rest = first (sym (eqb-true code c.code e))
    go false e h rest = later (rest h)

among-found : (code : ℕ) (cs : List Content) → Among code cs → one_of (content_codes cs) code ≡ true
unfolding one_of
among-found code (c ∷ cs) (first e) = rw (eq-eqb code c.code (sym e))
among-found code [] x' = elim x' [ ]
among-found code (c ∷ cs) (later a) = go (eqb code c.code) (among-found code cs a)
  where
    go : (b : Bool) → one_of (content_codes cs) code ≡ true → if b (λ _. true) (λ _. one_of (content_codes cs) code) ≡ true
    go true h = refl
    go false h = h

pub complete-among : (cs : List Content) (codes : List ℕ) → complete codes (content_codes cs) ≡ true → Each (λ code. Among code cs) codes
unfolding complete
complete-among cs [] h = none
complete-among cs (code ∷ codes) h =
    let b = both (one_of (content_codes cs) code) (complete codes (content_codes cs)) h in
    also (found_among code cs b.0) (complete-among cs codes b.1)

pub among-complete : (cs : List Content) (codes : List ℕ) → Each (λ code. Among code cs) codes → complete codes (content_codes cs) ≡ true
unfolding complete
among-complete cs [] none = refl
among-complete cs (code ∷ codes) (also a more) = rw (among-found code cs a, among-complete cs codes more)
