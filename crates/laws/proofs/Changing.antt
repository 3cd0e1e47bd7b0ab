-- A change of entries, of whatever kind: what is asked of one entry, what is laid out, and what is left of the entries that were.
-- Assumes nothing.
use Prim.Native.Nat.{ℕ, zero, suc, ◌+◌, ◌<◌}
use mathlib.Core.Path.{◌≡◌, refl, ap, ◌∙◌}
use mathlib.Core.List.{List, [], ◌∷◌, ◌++◌, map}
use mathlib.Core.Bool.{Bool, true, false}
use native.Mathlib.Omega.{arith}
use lib.ListN.{length}
use Rattle.layout.specs.Bytes.{if, refusal}
use Rattle.layout.specs.Shape.{Shape}
use Rattle.layout.specs.Editions.{names}
use Rattle.layout.specs.Walk.{Raw, Content, content, flat}
use Rattle.layout.specs.Read.{complete, codes_of}
use Rattle.layout.specs.Change.{bytes_of, laid, Allowed, allowed, denied, may_change, in_place}
use Rattle.laws.specs.Grammar.{Grammar, Lawful}
use Rattle.layout.proofs.Lists.{joined-append}
use Rattle.laws.proofs.Walking.{Frames}

-- ---- what is laid out

-- entries as they stand, laid out, are the entries laid flat
pub laid-flat : (rs : List Raw) → laid (bytes_of rs) ≡ flat rs
unfolding laid
laid-flat [] = refl
laid-flat (r ∷ rs) = ap (λ (x : List ℕ). r.bytes ++ x) (laid-flat rs)

-- entries with others in the place of entry i
unfoldable pub raws_in_place : (Raw → List Raw) → List Raw → ℕ → List Raw
raws_in_place new [] i = []
raws_in_place new (r ∷ rs) zero = new r ++ rs
raws_in_place new (r ∷ rs) (suc i) = r ∷ raws_in_place new rs i

-- they are the bytes that the change puts
pub in-place-bytes : (new : Raw → List Raw) (bytes : Raw → List (List ℕ)) → ((r : Raw) → bytes_of (new r) ≡ bytes r) →
    (rs : List Raw) (i : ℕ) → bytes_of (raws_in_place new rs i) ≡ in_place bytes rs i
unfolding raws_in_place in_place
in-place-bytes new bytes h [] i = refl
in-place-bytes new bytes h (r ∷ rs) zero = joined-append bytes_of (λ r. r.bytes ∷ []) refl (λ r rs. refl) (new r) rs ∙ ap (λ (x : List (List ℕ)). x ++ bytes_of rs) (h r)
in-place-bytes new bytes h (r ∷ rs) (suc i) = ap (λ (x : List (List ℕ)). r.bytes ∷ x) (in-place-bytes new bytes h rs i)

-- ---- what is asked of entry i

-- the entry is there and named, and P holds of its code
abbrev pub NamedAt : (ℕ → Type 0) → Shape → ℕ → List Raw → ℕ → Type 0
NamedAt P S e [] i = ⊥
NamedAt P S e (r ∷ rs) zero = (names S e r.frame.code ≡ true) × P r.frame.code
NamedAt P S e (r ∷ rs) (suc i) = NamedAt P S e rs i

pub named-index : (P : ℕ → Type 0) (S : Shape) (e : ℕ) (rs : List Raw) (i : ℕ) → NamedAt P S e rs i → i < length rs
named-index P S e [] i x = absurd x
named-index P S e (r ∷ rs) zero x = omega arith
named-index P S e (r ∷ rs) (suc i) x = let h = named-index P S e rs i x in omega arith

pub never-denied : {A : Type 0} {n p : ℕ} → denied (refusal n p) ≡ allowed → A
never-denied q = let z : ◌≡◌ {A = ℕ} 0 1 = cc in absurd (omega arith)

module _ (ask : ℕ → ℕ → Allowed) (P : ℕ → Type 0) (S : Shape) (e : ℕ) where
  pub may_at : ((c p : ℕ) → ask c p ≡ allowed → P c) → (p : ℕ) (rs : List Raw) (i : ℕ) → may_change ask S e p rs i ≡ allowed → NamedAt P S e rs i
  unfolding may_change
  may_at h p [] i q = never-denied q
  may_at h p (r ∷ rs) zero q = go (names S e r.frame.code) refl q
    where
      go : (t : Bool) → names S e r.frame.code ≡ t → if t (λ _. ask r.frame.code p) (λ _. denied (refusal 14 p)) ≡ allowed → NamedAt P S e (r ∷ rs) zero
      go true n q = (n, h r.frame.code p q)
      go false n q = never-denied q
  may_at h p (r ∷ rs) (suc i) q = may_at h (p + r.frame.size) rs i q

  pub at-may : ((c p : ℕ) → P c → ask c p ≡ allowed) → (p : ℕ) (rs : List Raw) (i : ℕ) → NamedAt P S e rs i → may_change ask S e p rs i ≡ allowed
  unfolding may_change
  at-may h p [] i x = absurd x
  at-may h p (r ∷ rs) zero x = rw x.0 (h r.frame.code p x.1)
  at-may h p (r ∷ rs) (suc i) x = at-may h (p + r.frame.size) rs i x

-- ---- what a change leaves

-- `raws` are entries of the grammar that have these bytes; lawful to every edition to which `rs` were, and complete where those were; and what they say comes of what those said
pub record Leaves (S : Shape) (G : Grammar) (rs raws : List Raw) (entries : List (List ℕ)) (Makes : List Content → List Content → Type 0) : Type 0 where
  pub bytes : bytes_of raws ≡ entries
  pub frames : Frames S G false raws
  pub lawful : (n : ℕ) → Lawful S n [] (map content rs) → Lawful S n [] (map content raws)
  pub required : complete S.required (codes_of rs) ≡ true → complete S.required (codes_of raws) ≡ true
  pub makes : Makes (map content rs) (map content raws)
