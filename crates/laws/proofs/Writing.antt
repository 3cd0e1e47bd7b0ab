-- What is written: new entries are entries of the grammar, and fields that are judged fine make lawful ones.
-- Assumes nothing.
use Prim.Native.Nat.{ℕ, ◌+◌, ◌≤◌}
use mathlib.Core.Path.{◌≡◌, refl, ap, ap₂, sym}
use mathlib.Core.List.{List, [], ◌∷◌, ◌++◌, append_assoc, map}
use mathlib.Core.Bool.{Bool, true, false, ◌&&◌}
use native.Mathlib.Omega.{arith}
use lib.ListN.{length, length-append}
use Rattle.layout.specs.declared.Field.{Field}
use Rattle.layout.specs.Bytes.{if}
use Rattle.layout.specs.Shape.{Shape, Label, fine}
use Rattle.layout.specs.Editions.{names}
use Rattle.layout.specs.Walk.{Raw, Content, content, label_of, flat}
use Rattle.layout.specs.Read.{limit, same, seen_before, reader_rule}
use Rattle.layout.specs.Write.{field_key, parts_inside, field_content, writer_rule, field_fault, judge_fields, contents_of, entry_bytes, entries_bytes, image_of}
use Rattle.layout.specs.Each.{Each, none, also}
use Rattle.laws.specs.Grammar.{Grammar, Lawful, no_more, and_then}
use Rattle.laws.proofs.Format.{Laws}
use Rattle.laws.proofs.Frames.{IsRaw, frame_from, raw-content}
use Rattle.laws.proofs.Walking.{Frames}
use Rattle.layout.proofs.Lists.{each_first, each-rest, each_map, each_both, each_left, each_right, each_append}
use Rattle.laws.proofs.Judging.{or-fine, unseen, each-unseen}
use Rattle.layout.proofs.Choices.{false-true, both}
use Rattle.laws.proofs.Images.{image_from}

-- a new entry
unfoldable pub fresh : Shape → Content → Raw
fresh S c =
    record {
      bytes = entry_bytes S c;
      frame = frame_from (S.opening c.code c.key) (S.lens c.code (length c.value)) c.code c.key c.value;
    }

-- new entries laid flat are the bytes that the writer puts
pub fresh-flat : (S : Shape) (cs : List Content) → flat (map (fresh S) cs) ≡ entries_bytes S cs
unfolding fresh entries_bytes
fresh-flat S [] = refl
fresh-flat S (c ∷ cs) = ap (λ (x : List ℕ). entry_bytes S c ++ x) (fresh-flat S cs)

-- an image that is written, with what follows it
pub image-made : (S : Shape) (entries t : List ℕ) → image_of S entries ++ t ≡ image_from S entries S.closing t
unfolding image_of
image-made S entries t = simp append_assoc

-- what a field must be, for an edition to write it. `shut`: the field before was one that none may follow
abbrev pub Writable : Shape → ℕ → Bool → List Content → Type 0
Writable S e shut [] = Unit {0}
Writable S e shut (c ∷ cs) =
    (shut ≡ false) × (names S e c.code ≡ true) × (writer_rule S c ≡ true) × (S.keyed ≡ false → c.key ≡ []) × Writable S e (S.last c.code) cs

pub keyless : (t : Bool) (x : Field) (values : List ℕ) → t ≡ false → field_key t x values ≡ []
keyless true x values e = false-true (sym e)
keyless false x values e = refl

-- a field of which nothing is wrong
pub record Good (S : Shape) (e : ℕ) (values : List ℕ) (shut : Bool) (seen : List Label) (x : Field) : Type 0 where
  pub named : names S e x.code ≡ true
  pub inside : parts_inside S.keyed x values ≡ true
  pub unshut : shut ≡ false
  pub ruled : writer_rule S (field_content S values x) ≡ true
  pub new : seen_before S seen (label_of (field_content S values x)) ≡ false

module _ (S : Shape) (e : ℕ) (values : List ℕ) (b : Bool) (seen : List Label) (x : Field) where
  field-good : field_fault S e values b seen x ≡ 0 → Good S e values b seen x
  unfolding field_fault
  field-good q =
      go (names S e x.code) (parts_inside S.keyed x values) b (writer_rule S (field_content S values x)) (seen_before S seen (label_of (field_content S values x))) refl refl refl refl refl q
    where
      go : (t u w y z : Bool) → names S e x.code ≡ t → parts_inside S.keyed x values ≡ u → b ≡ w → writer_rule S (field_content S values x) ≡ y →
          seen_before S seen (label_of (field_content S values x)) ≡ z →
          if {A = ℕ} t (λ _. if u (λ _. if w (λ _. 9) (λ _. if y (λ _. if z (λ _. 8) (λ _. 0)) (λ _. 7))) (λ _. 13)) (λ _. 14) ≡ 0 → Good S e values b seen x
      go false u w y z e₁ e₂ e₃ e₄ e₅ q = absurd (omega arith)
      go true false w y z e₁ e₂ e₃ e₄ e₅ q = absurd (omega arith)
      go true true true y z e₁ e₂ e₃ e₄ e₅ q = absurd (omega arith)
      go true true false false z e₁ e₂ e₃ e₄ e₅ q = absurd (omega arith)
      go true true false true true e₁ e₂ e₃ e₄ e₅ q = absurd (omega arith)
      go true true false true false e₁ e₂ e₃ e₄ e₅ q = record { named = e₁; inside = e₂; unshut = e₃; ruled = e₄; new = e₅ }

  good-field : Good S e values b seen x → field_fault S e values b seen x ≡ 0
  unfolding field_fault
  good-field g = rw (g.named, g.inside, g.unshut, g.ruled, g.new)

-- ---- fields that are judged fine

-- none of these entries comes again
abbrev pub Single : Shape → List Content → Type 0
Single S [] = Unit {0}
Single S (c ∷ cs) = Each (λ d. same S (label_of d) (label_of c) ≡ false) cs × Single S cs

-- none follows one that none may follow. `shut`: the entry before was such a one
abbrev pub Follow : Shape → Bool → List Content → Type 0
Follow S shut [] = Unit {0}
Follow S shut (c ∷ cs) = (shut ≡ false) × Follow S (S.last c.code) cs

-- none of these entries was seen before
abbrev pub Unseen : Shape → List Label → List Content → Type 0
Unseen S seen cs = Each (λ c. Each (λ s. same S (label_of c) s ≡ false) seen) cs

-- each field is named, lies inside, follows what it may, meets its rule and comes once
pub record Fine (S : Shape) (e : ℕ) (values : List ℕ) (shut : Bool) (seen : List Label) (xs : List Field) : Type 0 where
  pub named : Each (λ x. names S e x.code ≡ true) xs
  pub inside : Each (λ x. parts_inside S.keyed x values ≡ true) xs
  pub follow : Follow S shut (contents_of S values xs)
  pub ruled : Each (λ c. writer_rule S c ≡ true) (contents_of S values xs)
  pub single : Single S (contents_of S values xs)
  pub unseen : Unseen S seen (contents_of S values xs)

module _ (S : Shape) (e : ℕ) (values : List ℕ) where
  pub judged-fine : (b : Bool) (seen : List Label) (xs : List Field) (i : ℕ) → judge_fields S e values b seen xs i ≡ fine → Fine S e values b seen xs
  unfolding judge_fields
  judged-fine b seen [] i h = record { named = none; inside = none; follow = tt; ruled = none; single = tt; unseen = none }
  judged-fine b seen (x ∷ xs) i h =
      let c : Content = field_content S values x in
      let k = or-fine (field_fault S e values b seen x) i (λ _. judge_fields S e values (S.last x.code) (seen ++ (label_of c ∷ [])) xs (i + 1)) h in
      let g = field-good S e values b seen x k.0 in
      let r = judged-fine (S.last x.code) (seen ++ (label_of c ∷ [])) xs (i + 1) k.1 in
      record {
        named = also g.named r.named;
        inside = also g.inside r.inside;
        follow = (g.unshut, r.follow);
        ruled = also g.ruled r.ruled;
        single = (each_map (λ d n. each_first (each_right seen (label_of c ∷ []) n)) r.unseen, r.single);
        unseen = also (unseen S (label_of c) seen g.new) (each_map (λ d n. each_left seen (label_of c ∷ []) n) r.unseen);
      }

  pub fine-judged : (b : Bool) (seen : List Label) (xs : List Field) (i : ℕ) → Fine S e values b seen xs → judge_fields S e values b seen xs i ≡ fine
  unfolding judge_fields
  fine-judged b seen [] i f = refl
  fine-judged b seen (x ∷ xs) i f =
      let c : Content = field_content S values x in
      let g : Good S e values b seen x =
      record {
        named = each_first f.named;
        inside = each_first f.inside;
        unshut = f.follow.0;
        ruled = each_first f.ruled;
        new = each-unseen S (label_of c) seen (each_first f.unseen);
      } in
      let r : Fine S e values (S.last x.code) (seen ++ (label_of c ∷ [])) xs =
      record {
        named = each-rest f.named;
        inside = each-rest f.inside;
        follow = f.follow.1;
        ruled = each-rest f.ruled;
        single = f.single.1;
        unseen = each_both (λ d n m. each_append seen (label_of c ∷ []) n (also m none)) (each-rest f.unseen) f.single.0;
      } in
      rw (good-field S e values b seen x g) (fine-judged (S.last x.code) (seen ++ (label_of c ∷ [])) xs (i + 1) r)

-- the parts of the writer's rule
pub writer-parts : (S : Shape) (c : Content) → writer_rule S c ≡ true →
    (S.writer_key c.code c.key ≡ true) × (S.length_rule c.code (length c.value) ≡ true) × (S.value_rule c.code c.value ≡ true)
unfolding writer_rule
writer-parts S c h =
    let a = both (S.writer_key c.code c.key && S.length_rule c.code (length c.value)) (S.value_rule c.code c.value) h in
    let b = both (S.writer_key c.code c.key) (S.length_rule c.code (length c.value)) a.0 in
    (b.0, b.1, a.1)

module _ {S : Shape} {G : Grammar} (L : Laws S G) where
  pub reader-rule : (c : Content) → writer_rule S c ≡ true → reader_rule S c ≡ true
  unfolding reader_rule
  reader-rule c h = let w = writer-parts S c h in rw (L.key_made c.code c.key w.0, w.2)

  -- fields that are judged fine can be written, and are lawful
  pub fields-fine : (e : ℕ) (values : List ℕ) (b : Bool) (seen : List Label) (xs : List Field) (i : ℕ) → judge_fields S e values b seen xs i ≡ fine →
      Writable S e b (contents_of S values xs) × Lawful S e seen (contents_of S values xs)
  unfolding judge_fields
  fields-fine e values b seen [] i h = (tt, no_more)
  fields-fine e values b seen (x ∷ xs) i h =
      let c : Content = field_content S values x in
      let k = or-fine (field_fault S e values b seen x) i (λ _. judge_fields S e values (S.last x.code) (seen ++ (label_of c ∷ [])) xs (i + 1)) h in
      let g : Good S e values b seen x = field-good S e values b seen x k.0 in
      let r = fields-fine e values (S.last x.code) (seen ++ (label_of c ∷ [])) xs (i + 1) k.1 in (
        (g.unshut, g.named, g.ruled, keyless S.keyed x values, r.0),
        and_then (λ m. reader-rule c g.ruled) (each_map (λ d y m. y) (unseen S (label_of c) seen g.new)) r.1,
      )

  -- a new entry that fits an image has no key and no value that does not
  pub fresh-fits : (c : Content) → (S.keyed ≡ false → c.key ≡ []) → length (entry_bytes S c) ≤ limit → (length c.key ≤ limit) × (length c.value ≤ limit)
  unfolding entry_bytes
  fresh-fits c k short =
      let o : List ℕ = S.opening c.code c.key in
      let l : List ℕ = S.lens c.code (length c.value) in
      let long : length (o ++ (l ++ c.value)) ≡ length o + (length l + length c.value) = simp length-append refl in
      (omega (arith, L.opening_long c.code c.key k), omega arith)

  -- a new entry is an entry of the grammar, and says what it was made of
  pub fresh-raw : (e : ℕ) (c : Content) → names S e c.code ≡ true → writer_rule S c ≡ true → (S.keyed ≡ false → c.key ≡ []) → length (entry_bytes S c) ≤ limit →
      IsRaw G (fresh S c) × (content (fresh S c) ≡ c)
  unfolding fresh entry_bytes
  fresh-raw e c n w k short =
      let o : List ℕ = S.opening c.code c.key in
      let l : List ℕ = S.lens c.code (length c.value) in
      let fits = fresh-fits c k short in
      let i : IsRaw G (fresh S c) =
      record {
        front = o;
        lens = l;
        code = c.code;
        key = c.key;
        value = c.value;
        is = refl;
        opens = L.opening_made e c.code c.key n fits.0 k;
        says = L.lens_made c.code (length c.value) (writer-parts S c w).1 fits.1;
        framed = refl;
      } in
      (i, raw-content L (fresh S c) i)

  -- what can be written is entries of the grammar that say just that
  pub fresh-frames : (e : ℕ) (b : Bool) (cs : List Content) → Writable S e b cs → length (entries_bytes S cs) ≤ limit →
      Frames S G b (map (fresh S) cs) × (map content (map (fresh S) cs) ≡ cs)
  unfolding entries_bytes fresh
  fresh-frames e b [] w short = (tt, refl)
  fresh-frames e b (c ∷ cs) w short =
      let joined : length (entry_bytes S c ++ entries_bytes S cs) ≡ length (entry_bytes S c) + length (entries_bytes S cs) = length-append (entry_bytes S c) (entries_bytes S cs) in
      let i = fresh-raw e c w.1 w.2 w.3 (omega arith) in
      let r = fresh-frames e (S.last c.code) cs w.4 (omega arith) in
      ((w.0, i.0, r.0), ap₂ (λ (x : Content) (y : List Content). x ∷ y) i.1 r.1)
