-- Marks of codes stand for a list of codes: what is marked is what is in the list.
-- Assumes nothing.
use Prim.Native.Nat.{ℕ, ◌<◌}
use mathlib.Core.Path.{◌≡◌, refl, ap₂, ◌∙◌}
use mathlib.Core.List.{List, [], ◌∷◌, ◌++◌}
use mathlib.Core.Bool.{Bool, true, false, ◌&&◌}
use lib.ListN.{length, set, length-set, replicate, get_or-replicate, length-replicate}
use lib.Seq.{get_or-set_same, get_or-set_other}
use lib.Dec.{eqb}
use borrow.Author.Tests.{eqb-true, eqb-false}
use Rattle.layout.specs.Bytes.{if, one_of}
use Rattle.layout.specs.Read.{complete}
use Rattle.layout.specs.Each.{Each, none, also}
use Rattle.laws.specs.Marked.{marked, all_marked}

-- just the codes of the list are marked
pub record Marks (codes marks : List ℕ) : Type 0 where
  pub long : length marks ≡ 256
  pub same : (c : ℕ) → c < 256 → marked marks c ≡ one_of codes c

-- at first nothing is marked
pub none-marked : Marks [] (replicate 256 0)
unfolding one_of
none-marked = record { long = length-replicate {A = ℕ} 256 0; same = λ c lt. rw (get_or-replicate {A = ℕ} 256 c 0 0 lt) }

one_more : (codes : List ℕ) (c d : ℕ) → one_of (codes ++ (c ∷ [])) d ≡ if (eqb d c) (λ _. true) (λ _. one_of codes d)
unfolding one_of
one_more [] c d = refl
one_more (x ∷ xs) c d = go (eqb d x) (eqb d c) (one_more xs c d)
  where
    go : (a b : Bool) → one_of (xs ++ (c ∷ [])) d ≡ if b (λ _. true) (λ _. one_of xs d) →
        if a (λ _. true) (λ _. one_of (xs ++ (c ∷ [])) d) ≡ if b (λ _. true) (λ _. if a (λ _. true) (λ _. one_of xs d))
    go true true h = refl
    go true false h = refl
    go false true h = h
    go false false h = h

-- one more code is marked
pub one-marked : (codes marks : List ℕ) (c : ℕ) → c < 256 → Marks codes marks → Marks (codes ++ (c ∷ [])) (set marks c 1)
one-marked codes marks c lt m =
    record {
      long = length-set marks c 1 ∙ m.long;
      same = λ d ld. go d ld (eqb d c) refl;
    }
  where
    go : (d : ℕ) → d < 256 → (b : Bool) → eqb d c ≡ b → marked (set marks c 1) d ≡ one_of (codes ++ (c ∷ [])) d
    go d ld true e =
        let q : d ≡ c = eqb-true d c e in
        rw (one_more codes c d, e, q, get_or-set_same marks c 1 0 (rw m.long lt))
    go d ld false e = rw (one_more codes c d, e, get_or-set_other marks c d 1 0 (eqb-false d c e)) (m.same d ld)

-- all required codes are marked exactly where the entries are complete
pub marked-complete : (required codes marks : List ℕ) → Each (λ c. c < 256) required → Marks codes marks → all_marked required marks ≡ complete required codes
unfolding all_marked complete
marked-complete [] codes marks none m = refl
marked-complete (c ∷ cs) codes marks (also lt lts) m = ap₂ (λ (a b : Bool). a && b) (m.same c lt) (marked-complete cs codes marks lts m)
