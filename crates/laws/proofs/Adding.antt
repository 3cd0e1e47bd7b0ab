-- An addition of one entry: the new one and all others are entries of the grammar, in order, lawful and complete.
-- Assumes nothing.
use Prim.Native.Nat.{ℕ, suc, ◌≤◌}
use mathlib.Core.Path.{◌≡◌, refl, ap, sym, ◌∙◌}
use mathlib.Core.List.{List, [], ◌∷◌, ◌++◌, map}
use mathlib.Core.Bool.{Bool, true, false}
use native.Mathlib.Omega.{arith}
use lib.ListN.{length, length-append}
use lib.Dec.{eqb}
use borrow.Author.Tests.{eqb-true, eq-eqb, ne_eqb}
use Rattle.layout.specs.declared.Format.{Format}
use Rattle.layout.specs.declared.Format.TheVariants.{Fboss, Vpd, Tiny, Onie}
use Rattle.layout.specs.declared.Field.{Field}
use Rattle.layout.specs.Bytes.{if, one_of, refusal}
use Rattle.layout.specs.Fboss.{fboss}
use Rattle.layout.specs.Vpd.{vpd}
use Rattle.layout.specs.Tiny.{tiny}
use Rattle.layout.specs.Onie.{onie}
use Rattle.layout.specs.Shape.{Shape, Label}
use Rattle.layout.specs.Editions.{shape, names}
use Rattle.layout.specs.Walk.{Raw, Content, content, label_of, labels_of}
use Rattle.layout.specs.Read.{limit, same, seen_before, reader_rule, complete, codes_of}
use Rattle.layout.specs.Write.{parts_inside, field_content, writer_rule, entry_bytes}
use Rattle.layout.specs.Change.{bytes_of, laid, allowed, denied}
use Rattle.layout.specs.Add.{may_add, added_entries, addition}
use Rattle.layout.specs.Each.{Each, none, also}
use Rattle.laws.specs.Grammar.{Grammar, grammar, Lawful, no_more, and_then}
use Rattle.layout.proofs.Choices.{false-true, refuted, either, both}
use Rattle.layout.proofs.Lists.{each_map, each_append, each_first, each-rest}
use Rattle.laws.proofs.Seen.{and-true, label-codes, seen-codes}
use Rattle.laws.proofs.Frames.{IsRaw}
use Rattle.laws.proofs.Walking.{Frames}
use Rattle.laws.proofs.Judging.{unseen}
use Rattle.laws.proofs.Writing.{fresh, fresh-raw, keyless, reader-rule}
use Rattle.laws.proofs.Formats.{laws}
use Rattle.laws.proofs.Changing.{raws_in_place, NamedAt, never-denied, Leaves}
use Rattle.laws.proofs.Removing.{removed_raws, Spare}

-- entries with a new one
unfoldable pub added_raws : Shape → List Raw → Content → List Raw
added_raws S [] c = fresh S c ∷ []
added_raws S (r ∷ rs) c = if (S.last r.frame.code) (λ _. fresh S c ∷ r ∷ rs) (λ _. r ∷ added_raws S rs c)

-- they are the bytes that the addition puts
added-bytes : (S : Shape) (rs : List Raw) (c : Content) → bytes_of (added_raws S rs c) ≡ added_entries S rs c
unfolding added_raws added_entries fresh
added-bytes S [] c = refl
added-bytes S (r ∷ rs) c = go (S.last r.frame.code) (added-bytes S rs c)
  where
    go : (t : Bool) → bytes_of (added_raws S rs c) ≡ added_entries S rs c →
        bytes_of (if t (λ _. fresh S c ∷ r ∷ rs) (λ _. r ∷ added_raws S rs c)) ≡ if t (λ _. entry_bytes S c ∷ r.bytes ∷ bytes_of rs) (λ _. r.bytes ∷ added_entries S rs c)
    go true rest = refl
    go false rest = ap (λ (x : List (List ℕ)). r.bytes ∷ x) rest

-- the new entry is no longer than all of them
pub fresh-shorter : (S : Shape) (rs : List Raw) (c : Content) → length (entry_bytes S c) ≤ length (laid (added_entries S rs c))
unfolding added_entries laid
fresh-shorter S [] c = simp length-append (omega arith)
fresh-shorter S (r ∷ rs) c =
    either (λ (x : List (List ℕ)). length (entry_bytes S c) ≤ length (laid x)) (S.last r.frame.code) (λ _. simp length-append (omega arith))
    (λ _. let h = fresh-shorter S rs c in simp length-append (omega arith))

-- ---- what is asked

-- what an addition of a field that is allowed may rely on
pub record Addable (S : Shape) (e : ℕ) (rs : List Raw) (x : Field) (values : List ℕ) : Type 0 where
  pub inside : parts_inside S.keyed x values ≡ true
  pub named : names S e x.code ≡ true
  pub ruled : writer_rule S (field_content S values x) ≡ true
  pub new : seen_before S (labels_of rs) (label_of (field_content S values x)) ≡ false

pub may-addable : (S : Shape) (e : ℕ) (rs : List Raw) (x : Field) (xs : List Field) (values : List ℕ) → may_add S e rs (x ∷ xs) values ≡ allowed → Addable S e rs x values
unfolding may_add
may-addable S e rs x xs values q =
    go (parts_inside S.keyed x values) (names S e x.code) (writer_rule S (field_content S values x)) (seen_before S (labels_of rs) (label_of (field_content S values x))) refl refl refl refl q
  where
    go : (t u v w : Bool) → parts_inside S.keyed x values ≡ t → names S e x.code ≡ u → writer_rule S (field_content S values x) ≡ v →
        seen_before S (labels_of rs) (label_of (field_content S values x)) ≡ w →
        if t (λ _. if u (λ _. if v (λ _. if w (λ _. denied (refusal 8 0)) (λ _. allowed)) (λ _. denied (refusal 7 0))) (λ _. denied (refusal 14 0))) (λ _. denied (refusal 13 0)) ≡ allowed →
        Addable S e rs x values
    go false u v w e₁ e₂ e₃ e₄ q = never-denied q
    go true false v w e₁ e₂ e₃ e₄ q = never-denied q
    go true true false w e₁ e₂ e₃ e₄ q = never-denied q
    go true true true true e₁ e₂ e₃ e₄ q = never-denied q
    go true true true false e₁ e₂ e₃ e₄ q = record { inside = e₁; named = e₂; ruled = e₃; new = e₄ }

-- ---- where the new entry stands

-- after the last, where none of the others is one that none may follow; else before that one, which is the last
pub data Placed (S : Shape) (c : Content) : List Content → List Content → Type 0 where
  at_end : {cs : List Content} → Each (λ d. S.last d.code ≡ false) cs → Placed S c cs (cs ++ (c ∷ []))
  before : (cs : List Content) (d : Content) → S.last d.code ≡ true → Placed S c (cs ++ (d ∷ [])) (cs ++ (c ∷ d ∷ []))

pub placed-after : (S : Shape) (c d : Content) (cs ds : List Content) → S.last d.code ≡ false → Placed S c cs ds → Placed S c (d ∷ cs) (d ∷ ds)
placed-after S c d cs ds l (at_end e) = at_end (also l e)
placed-after S c d cs ds l (before es x m) = before (d ∷ es) x m

-- nothing stands after an entry that none may follow
pub alone : (S : Shape) (G : Grammar) (rs : List Raw) (b : Bool) → b ≡ true → Frames S G b rs → rs ≡ []
alone S G [] b t fs = refl
alone S G (r ∷ rs) b t fs = false-true (sym fs.0 ∙ t)

-- two entries of a code that none may follow always come twice
last-twice : (f : Format) (a b : Label) → (shape f).last b.code ≡ true → (shape f).twice a b ≡ true
unfolding fboss vpd tiny onie
last-twice Fboss a b l = refl
last-twice Vpd a b l = false-true l
last-twice Tiny a b l = refl
last-twice Onie a b l = false-true l

-- there is one such code
one_last : (f : Format) (a b : ℕ) → (shape f).last a ≡ true → (shape f).last b ≡ true → a ≡ b
unfolding fboss vpd tiny onie
one_last Fboss a b l m = false-true l
one_last Vpd a b l m = false-true l
one_last Tiny a b l m = eqb-true a 0x01 l ∙ sym (eqb-true b 0x01 m)
one_last Onie a b l m = false-true l

-- an entry that none may follow does not come again after a new one that is not it again
new-before : (f : Format) (a b : Label) → (shape f).last b.code ≡ true → same (shape f) a b ≡ false → same (shape f) b a ≡ false
new-before f a b l n =
    let other : eqb a.code b.code ≡ false = sym (and-true (eqb a.code b.code)) ∙ (rw (last-twice f a b l) at n) in
    rw (ne_eqb b.code a.code (λ e. false-true (sym other ∙ eq-eqb a.code b.code (sym e))))

-- and the new one is none that none may follow
pub new-follows : (f : Format) (a b : Label) → (shape f).last b.code ≡ true → same (shape f) a b ≡ false → (shape f).last a.code ≡ false
new-follows f a b l n = refuted ((shape f).last a.code) (λ m. false-true (sym n ∙ rw (eq-eqb a.code b.code (one_last f a.code b.code m l), last-twice f a b l)))

-- ---- what is left

-- a code that was there is there
code_stays : (S : Shape) (rs : List Raw) (c : Content) (q : ℕ) → one_of (codes_of rs) q ≡ true → one_of (codes_of (added_raws S rs c)) q ≡ true
unfolding one_of added_raws
code_stays S [] c q h = false-true h
code_stays S (r ∷ rs) c q h =
    either (λ (x : List Raw). one_of (codes_of x) q ≡ true) (S.last r.frame.code) (λ _. first (eqb q (fresh S c).frame.code))
    (λ _. later (eqb q r.frame.code) h (code_stays S rs c q))
  where
    first : (t : Bool) → if t (λ _. true) (λ _. one_of (codes_of (r ∷ rs)) q) ≡ true
    first true = refl
    first false = h

    later : (t : Bool) → if t (λ _. true) (λ _. one_of (codes_of rs) q) ≡ true → (one_of (codes_of rs) q ≡ true → one_of (codes_of (added_raws S rs c)) q ≡ true) →
        if t (λ _. true) (λ _. one_of (codes_of (added_raws S rs c)) q) ≡ true
    later true h rest = refl
    later false h rest = rest h

complete-added : (S : Shape) (rs : List Raw) (c : Content) (qs : List ℕ) → complete qs (codes_of rs) ≡ true → complete qs (codes_of (added_raws S rs c)) ≡ true
unfolding complete
complete-added S rs c [] h = refl
complete-added S rs c (q ∷ qs) h =
    let b = both (one_of (codes_of rs) q) (complete qs (codes_of rs)) h in
    rw (code_stays S rs c q b.0) (complete-added S rs c qs b.1)

module _ (f : Format) (c : Content) (is_raw : IsRaw (grammar f) (fresh (shape f) c)) (says : content (fresh (shape f) c) ≡ c) where
  abbrev S : Shape
  S = shape f

  abbrev G : Grammar
  G = grammar f

  -- none of these is the new entry again
  abbrev NewTo : List Label → Type 0
  NewTo ls = Each (λ b. same S (label_of c) b ≡ false) ls

  added-frames : (b : Bool) (rs : List Raw) → b ≡ false → Frames S G b rs → NewTo (labels_of rs) → Frames S G b (added_raws S rs c)
  unfolding added_raws fresh content
  added-frames b [] q fs new = (q, is_raw, tt)
  added-frames b (r ∷ rs) q fs new =
      either (λ (x : List Raw). Frames S G b x) (S.last r.frame.code)
      (λ l. (q, is_raw, (new-follows f (label_of c) (label_of (content r)) l (each_first new), fs.1, fs.2)))
      (λ l. (fs.0, fs.1, added-frames (S.last r.frame.code) rs l fs.2 (each-rest new)))

  added-lawful : (e : ℕ) (seen : List Label) (b : Bool) (rs : List Raw) → reader_rule S c ≡ true → Frames S G b rs → NewTo seen → NewTo (labels_of rs) →
      Lawful S e seen (map content rs) → Lawful S e seen (map content (added_raws S rs c))
  unfolding added_raws content
  added-lawful e seen b [] ok fs old new no_more = rw says (and_then (λ m. ok) (each_map (λ l x m. x) old) no_more)
  added-lawful e seen b (r ∷ rs) ok fs old new (and_then u n l) =
      either (λ (x : List Raw). Lawful S e seen (map content x)) (S.last r.frame.code)
      (λ last.
      let none_after : rs ≡ [] = alone S G rs (S.last r.frame.code) last fs.2 in
      let one : List Label = label_of c ∷ [] in
      rw (says, none_after)
      (and_then (λ m. ok) (each_map (λ l x m. x) old)
      (and_then u (each_append seen one n (also (λ m. new-before f (label_of c) (label_of (content r)) last (each_first new)) none)) no_more)))
      (λ _. and_then u n (added-lawful e (seen ++ (label_of (content r) ∷ [])) (S.last r.frame.code) rs ok fs.2 (each_append seen _ old (also (each_first new) none)) (each-rest new) l))

  added-placed : (b : Bool) (rs : List Raw) → Frames S G b rs → Placed S c (map content rs) (map content (added_raws S rs c))
  unfolding added_raws content
  added-placed b [] fs = rw says (at_end none)
  added-placed b (r ∷ rs) fs =
      either (λ (x : List Raw). Placed S c (map content (r ∷ rs)) (map content x)) (S.last r.frame.code)
      (λ last. let none_after : rs ≡ [] = alone S G rs (S.last r.frame.code) last fs.2 in rw (says, none_after) (before [] (content r) last))
      (λ l. placed-after S c (content r) (map content rs) (map content (added_raws S rs c)) l (added-placed (S.last r.frame.code) rs fs.2))

-- ---- taken out again

-- the number of the new entry
unfoldable pub added_at : Shape → List Raw → ℕ
added_at S [] = 0
added_at S (r ∷ rs) = if (S.last r.frame.code) (λ _. 0) (λ _. suc (added_at S rs))

-- without it the entries are those that were
pub removed-added : (S : Shape) (rs : List Raw) (c : Content) → removed_raws (added_raws S rs c) (added_at S rs) ≡ rs
unfolding added_raws added_at raws_in_place
removed-added S [] c = refl
removed-added S (r ∷ rs) c = go (S.last r.frame.code) (removed-added S rs c)
  where
    go : (t : Bool) → removed_raws (added_raws S rs c) (added_at S rs) ≡ rs →
        removed_raws (if t (λ _. fresh S c ∷ r ∷ rs) (λ _. r ∷ added_raws S rs c)) (if t (λ _. 0) (λ _. suc (added_at S rs))) ≡ r ∷ rs
    go true h = refl
    go false h = ap (λ (x : List Raw). r ∷ x) h

pub added-named : (P : ℕ → Type 0) (S : Shape) (e : ℕ) (rs : List Raw) (c : Content) → names S e c.code ≡ true → P c.code → NamedAt P S e (added_raws S rs c) (added_at S rs)
unfolding added_raws added_at fresh
added-named P S e [] c n p = (n, p)
added-named P S e (r ∷ rs) c n p = go (S.last r.frame.code) (added-named P S e rs c n p)
  where
    go : (t : Bool) → NamedAt P S e (added_raws S rs c) (added_at S rs) → NamedAt P S e (if t (λ _. fresh S c ∷ r ∷ rs) (λ _. r ∷ added_raws S rs c)) (if t (λ _. 0) (λ _. suc (added_at S rs)))
    go true h = (n, p)
    go false h = h

-- two entries of a required code always come twice
required-twice : (f : Format) (a b : Label) → one_of (shape f).required a.code ≡ true → (shape f).twice a b ≡ true
unfolding one_of fboss vpd tiny onie
required-twice Fboss a b h = refl
required-twice Vpd a b h = false-true h
required-twice Tiny a b h = refl
required-twice Onie a b h = false-true h

-- a required code is there where all are
complete-one : (qs codes : List ℕ) (q : ℕ) → complete qs codes ≡ true → one_of qs q ≡ true → one_of codes q ≡ true
unfolding complete one_of
complete-one [] codes q h k = false-true k
complete-one (p ∷ qs) codes q h k =
    let b = both (one_of codes p) (complete qs codes) h in go (eqb q p) refl b.0 k (complete-one qs codes q b.1)
  where
    go : (t : Bool) → eqb q p ≡ t → one_of codes p ≡ true → if t (λ _. true) (λ _. one_of qs q) ≡ true → (one_of qs q ≡ true → one_of codes q ≡ true) → one_of codes q ≡ true
    go true e h k rest = rw (eqb-true q p e) h
    go false e h k rest = rest k

-- so a new entry that is none again is not required
pub new-spare : (f : Format) (rs : List Raw) (a : Label) → complete (shape f).required (codes_of rs) ≡ true → seen_before (shape f) (labels_of rs) a ≡ false → Spare (shape f) a.code
new-spare f rs a cm new =
    refuted (one_of (shape f).required a.code)
    (λ h.
    let seen = seen-codes (shape f) a (labels_of rs) (λ b. required-twice f a b h) ∙ ap (λ (x : List ℕ). one_of x a.code) (sym (label-codes rs)) in
    false-true (sym new ∙ seen ∙ complete-one (shape f).required (codes_of rs) a.code cm h))

-- ---- all that is left

-- an addition that is allowed, of entries that fit an image, leaves the entries with the new one in its place
pub add-leaves : (f : Format) (o p : ℕ) (rs : List Raw) (x : Field) (xs : List Field) (values : List ℕ) → Frames (shape f) (grammar f) false rs →
    (addition (x ∷ xs) values).asks (shape f) o p rs ≡ allowed → length (laid ((addition (x ∷ xs) values).entries (shape f) rs)) ≤ limit →
    Leaves (shape f) (grammar f) rs (added_raws (shape f) rs (field_content (shape f) values x)) ((addition (x ∷ xs) values).entries (shape f) rs) (Placed (shape f) (field_content (shape f) values x))
unfolding addition
add-leaves f o p rs x xs values fs q short =
    let S : Shape = shape f in
    let c : Content = field_content S values x in
    let a = may-addable S o rs x xs values q in
    let h = fresh-shorter S rs c in
    let made = fresh-raw (laws f) o c a.named a.ruled (keyless S.keyed x values) (omega arith) in
    let new = unseen S (label_of c) (labels_of rs) a.new in
    record {
      bytes = added-bytes S rs c;
      frames = added-frames f c made.0 made.1 false rs refl fs new;
      lawful = λ n l. added-lawful f c made.0 made.1 n [] false rs (reader-rule (laws f) c a.ruled) fs none new l;
      required = complete-added S rs c S.required;
      makes = added-placed f c made.0 made.1 false rs fs;
    }
