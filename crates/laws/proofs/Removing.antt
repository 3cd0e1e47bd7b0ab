-- A removal of one entry: what is left are entries of the grammar, in order, lawful, and complete where a required one stays.
-- Assumes nothing.
use Prim.Native.Nat.{ℕ, zero, suc, ◌<◌}
use mathlib.Core.Path.{◌≡◌, refl, ap, sym, ◌∙◌}
use mathlib.Core.List.{List, [], ◌∷◌, ◌++◌, map}
use mathlib.Core.Bool.{Bool, true, false}
use lib.ListN.{length}
use lib.Dec.{eqb}
use borrow.Author.Tests.{eq-eqb, ne_eqb}
use Rattle.layout.specs.Bytes.{if, one_of, refusal}
use Rattle.layout.specs.Shape.{Shape, Label}
use Rattle.layout.specs.Walk.{Raw, Content, content, label_of}
use Rattle.layout.specs.Read.{complete, codes_of}
use Rattle.layout.specs.Change.{allowed, denied}
use Rattle.layout.specs.Remove.{remove_asks, removal}
use Rattle.laws.specs.Contents.{without}
use Rattle.layout.specs.Each.{Each}
use Rattle.laws.specs.Grammar.{Grammar, New, Lawful, no_more, and_then}
use Rattle.layout.proofs.Choices.{false-true, both}
use Rattle.layout.proofs.Lists.{length-map, each_left, each_right, each_append}
use Rattle.laws.proofs.Walking.{Frames}
use Rattle.laws.proofs.Changing.{raws_in_place, in-place-bytes, NamedAt, named-index, never-denied, may_at, at-may, Leaves}

-- entries without entry i
abbrev pub removed_raws : List Raw → ℕ → List Raw
removed_raws rs i = raws_in_place (λ r. []) rs i

-- the code is none of the required ones
abbrev pub Spare : Shape → ℕ → Type 0
Spare S c = one_of S.required c ≡ false

-- what a removal that is allowed may rely on: entry i is named, and not required
abbrev pub Removable : Shape → ℕ → List Raw → ℕ → Type 0
Removable S e rs i = NamedAt (Spare S) S e rs i

pub may-removable : (S : Shape) (e p : ℕ) (rs : List Raw) (i : ℕ) → (removal i).asks S e p rs ≡ allowed → Removable S e rs i
unfolding removal
may-removable S e p rs i q = may_at (remove_asks S) (Spare S) S e spare p rs i q
  where
    spare : (c p : ℕ) → remove_asks S c p ≡ allowed → Spare S c
    spare c p q = go (one_of S.required c) refl q
      where
        go : (t : Bool) → one_of S.required c ≡ t → if t (λ _. denied (refusal 11 0)) (λ _. allowed) ≡ allowed → one_of S.required c ≡ false
        go true k q = never-denied q
        go false k q = k

-- and such a removal is allowed
pub removable-may : (S : Shape) (e p : ℕ) (rs : List Raw) (i : ℕ) → Removable S e rs i → (removal i).asks S e p rs ≡ allowed
unfolding removal
removable-may S e p rs i x = at-may (remove_asks S) (Spare S) S e (λ c p s. rw s) p rs i x

-- ---- what is left

removed-contents : (rs : List Raw) (i : ℕ) → map content (removed_raws rs i) ≡ without (map content rs) i
unfolding raws_in_place without
removed-contents [] i = refl
removed-contents (r ∷ rs) zero = refl
removed-contents (r ∷ rs) (suc i) = ap (λ (cs : List Content). content r ∷ cs) (removed-contents rs i)

module _ (S : Shape) (G : Grammar) where
  -- what stood after an entry may stand in its place
  frames-fewer : (b : Bool) (r : Raw) (rs : List Raw) → Frames S G b (r ∷ rs) → Frames S G b rs
  frames-fewer b r [] fs = tt
  frames-fewer b r (s ∷ rs) fs = (fs.0, fs.2.1, fs.2.2)

  removed-frames : (b : Bool) (rs : List Raw) (i : ℕ) → Frames S G b rs → Frames S G b (removed_raws rs i)
  unfolding raws_in_place
  removed-frames b [] i fs = tt
  removed-frames b (r ∷ rs) zero fs = frames-fewer b r rs fs
  removed-frames b (r ∷ rs) (suc i) fs = (fs.0, fs.1, removed-frames (S.last r.frame.code) rs i fs.2)

module _ (S : Shape) (e : ℕ) where
  -- entries are lawful after fewer that were seen
  lawful-fewer : (cs : List Content) (seen fewer : List Label) → ((P : Label → Type 0) → Each P seen → Each P fewer) → Lawful S e seen cs → Lawful S e fewer cs
  lawful-fewer [] seen fewer h no_more = no_more
  lawful-fewer (c ∷ cs) seen fewer h (and_then r n l) =
      let one : List Label = label_of c ∷ [] in
      and_then r (h (New S e c) n)
      (lawful-fewer cs (seen ++ one) (fewer ++ one) (λ P x. each_append fewer one (h P (each_left seen one x)) (each_right seen one x)) l)

  pub lawful-without : (seen : List Label) (cs : List Content) (i : ℕ) → Lawful S e seen cs → Lawful S e seen (without cs i)
  unfolding without
  lawful-without seen [] i no_more = no_more
  lawful-without seen (c ∷ cs) zero (and_then r n l) = lawful-fewer cs (seen ++ (label_of c ∷ [])) seen (λ P x. each_left seen (label_of c ∷ []) x) l
  lawful-without seen (c ∷ cs) (suc i) (and_then r n l) = and_then r n (lawful-without (seen ++ (label_of c ∷ [])) cs i l)

-- ---- what is required

-- a code that another entry has stays
code_stays : (P : ℕ → Type 0) (S : Shape) (e : ℕ) (q : ℕ) → ((c : ℕ) → P c → eqb q c ≡ false) → (rs : List Raw) (i : ℕ) → NamedAt P S e rs i →
    one_of (codes_of rs) q ≡ true → one_of (codes_of (removed_raws rs i)) q ≡ true
unfolding one_of raws_in_place
code_stays P S e q other [] i x h = absurd x
code_stays P S e q other (r ∷ rs) zero x h = rw (other r.frame.code x.1) at h
code_stays P S e q other (r ∷ rs) (suc i) x h = go (eqb q r.frame.code) h (code_stays P S e q other rs i x)
  where
    go : (t : Bool) → if t (λ _. true) (λ _. one_of (codes_of rs) q) ≡ true → (one_of (codes_of rs) q ≡ true → one_of (codes_of (removed_raws rs i)) q ≡ true) →
        if t (λ _. true) (λ _. one_of (codes_of (removed_raws rs i)) q) ≡ true
    go true h rest = refl
    go false h rest = rest h

-- a code that is none of these is not the first of them, and none of the others
one-of-none : (q c : ℕ) (qs : List ℕ) → one_of (q ∷ qs) c ≡ false → (eqb q c ≡ false) × (one_of qs c ≡ false)
unfolding one_of
one-of-none q c qs h = go (eqb c q) refl h
  where
    go : (t : Bool) → eqb c q ≡ t → if t (λ _. true) (λ _. one_of qs c) ≡ false → (eqb q c ≡ false) × (one_of qs c ≡ false)
    go true k h = false-true (sym h)
    go false k h = (ne_eqb q c (λ e. false-true (sym k ∙ eq-eqb c q (sym e))), h)

complete-without : (S : Shape) (e : ℕ) (qs : List ℕ) (rs : List Raw) (i : ℕ) → NamedAt (λ c. one_of qs c ≡ false) S e rs i →
    complete qs (codes_of rs) ≡ true → complete qs (codes_of (removed_raws rs i)) ≡ true
unfolding complete
complete-without S e [] rs i x h = refl
complete-without S e (q ∷ qs) rs i x h =
    let b = both (one_of (codes_of rs) q) (complete qs (codes_of rs)) h in
    rw (code_stays (λ c. one_of (q ∷ qs) c ≡ false) S e q (λ c n. (one-of-none q c qs n).0) rs i x b.0) (complete-without S e qs rs i (fewer rs i x) b.1)
  where
    fewer : (rs : List Raw) (i : ℕ) → NamedAt (λ c. one_of (q ∷ qs) c ≡ false) S e rs i → NamedAt (λ c. one_of qs c ≡ false) S e rs i
    fewer [] i x = x
    fewer (r ∷ rs) zero x = (x.0, (one-of-none q r.frame.code qs x.1).1)
    fewer (r ∷ rs) (suc i) x = fewer rs i x

-- a removal that is allowed leaves the entries without that one
pub remove-leaves : (S : Shape) (G : Grammar) (o p : ℕ) (rs : List Raw) (i : ℕ) → Frames S G false rs → (removal i).asks S o p rs ≡ allowed →
    Leaves S G rs (removed_raws rs i) ((removal i).entries S rs) (λ a b. (i < length a) × (b ≡ without a i))
unfolding removal
remove-leaves S G o p rs i fs q =
    record {
      bytes = in-place-bytes (λ r. []) (λ r. []) (λ r. refl) rs i;
      frames = removed-frames S G false rs i fs;
      lawful = λ n l. rw (removed-contents rs i) (lawful-without S n [] (map content rs) i l);
      required = complete-without S o S.required rs i (may-removable S o p rs i q);
      makes = (rw (length-map content rs) (named-index (Spare S) S o rs i (may-removable S o p rs i q)), removed-contents rs i);
    }
