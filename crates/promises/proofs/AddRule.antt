-- What an addition puts out, and what it tells of an accepted image.
-- Assumes nothing.
use Prim.Native.Nat.{ℕ, suc, ◌+◌, ◌≤◌}
use mathlib.Core.Path.{◌≡◌, refl, ap, sym, ◌∙◌}
use mathlib.Core.List.{List, [], ◌∷◌, ◌++◌, append_assoc, map}
use mathlib.Core.Bool.{Bool, true, false}
use mathlib.Core.Logic.{◌⊎◌, inl, inr}
use native.Mathlib.Omega.{arith}
use lib.ListN.{length, length-append}
use Rattle.layout.specs.declared.Format.{Format}
use Rattle.layout.specs.declared.Entry.{Entry}
use Rattle.layout.specs.declared.Field.{Field}
use Rattle.layout.specs.Bytes.{if, refusal}
use Rattle.layout.specs.Shape.{Shape, Label}
use Rattle.layout.specs.Editions.{shape, names}
use Rattle.layout.specs.Walk.{Raw, Content, content, label_of, labels_of, flat}
use Rattle.layout.specs.Calls.{entries_of, told_refusal}
use Rattle.layout.specs.Read.{limit, same, seen_before}
use Rattle.layout.specs.Write.{parts_inside, field_content, writer_rule, entry_bytes, put, told_made}
use Rattle.layout.specs.Change.{bytes_of, laid, laid_out, allowed, denied, change_allowed}
use Rattle.layout.specs.Add.{may_add, added_entries, addition, add_field}
use Rattle.laws.specs.Contents.{said}
use Rattle.layout.specs.Each.{Each, none, also}
use Rattle.laws.specs.Grammar.{Grammar, grammar}
use Rattle.layout.proofs.Choices.{false-true, either}
use Rattle.layout.proofs.Lists.{each_first, each-rest, each_map}
use Rattle.laws.proofs.Walking.{Frames}
use Rattle.laws.proofs.Writing.{keyless}
use Rattle.laws.proofs.Judging.{unseen}
use Rattle.laws.proofs.Changing.{laid-flat}
use Rattle.laws.proofs.Adding.{may-addable, fresh-shorter, Placed, at_end, before, placed-after, alone, new-follows}
use Rattle.laws.proofs.Calls.{Found, check-found, chosen-stands}
use Rattle.promises.specs.Words.{Refuses, Item, here, there, tells_add}
use Rattle.promises.specs.Names.{Named}
use Rattle.promises.specs.RoundTrip.{field_says}
use Rattle.promises.specs.Written.{Fits}
use Rattle.promises.specs.Writing.{Inside, Again}
use Rattle.promises.specs.AddRule.{AddedTo, added_size, AddTold, outside, unnamed, unruled, again, too_long, taken, AddRule}
use Rattle.promises.proofs.Telling.{chosen-serves, counts-accepted}
use Rattle.promises.proofs.Naming.{named-names, names-named}
use Rattle.promises.proofs.Accepting.{records-say}
use Rattle.promises.proofs.RoundTrip.{field-said}
use Rattle.promises.proofs.Listing.{list_of}
use Rattle.promises.proofs.Written.{image-size, entry-size, entry-short}
use Rattle.promises.proofs.Writing.{same-again, again-same, parts-inside, inside-parts}
use Rattle.promises.proofs.Changes.{Done, entries_fit, add_done}
use Rattle.promises.proofs.OlderChanges.{placed-added}
use Rattle.promises.proofs.Accepted.{header-size, change-accepted, put-tells, put-either}
use Rattle.promises.proofs.Relaid.{relaid}

-- ---- what is put out

-- entries, apart into those before a new one and those after it
record Apart (S : Shape) (G : Grammar) (b : Bool) (rs : List Raw) (c : Content) : Type 0 where
  pub past : List Raw
  pub later : List Raw
  pub frames_past : Frames S G b past
  pub frames_later : Frames S G (S.last c.code) later
  pub was : flat rs ≡ flat past ++ flat later
  pub becomes : laid (added_entries S rs c) ≡ flat past ++ (entry_bytes S c ++ flat later)
  pub placed : Placed S c (map content past ++ map content later) (map content past ++ (c ∷ map content later))

apart : (g : Format) (c : Content) (b : Bool) (rs : List Raw) → Frames (shape g) (grammar g) b rs → Each (λ l. same (shape g) (label_of c) l ≡ false) (labels_of rs) →
    Apart (shape g) (grammar g) b rs c
unfolding added_entries laid content
apart g c b [] fs new = record { past = []; later = []; frames_past = tt; frames_later = tt; was = refl; becomes = refl; placed = at_end none }
apart g c b (r ∷ rs) fs new = go (S.last r.frame.code) refl (apart g c (S.last r.frame.code) rs fs.2 (each-rest new))
  where
    S : Shape
    S = shape g

    go : (t : Bool) → S.last r.frame.code ≡ t → Apart S (grammar g) (S.last r.frame.code) rs c → Apart S (grammar g) b (r ∷ rs) c
    go true l a =
        let none_after : rs ≡ [] = alone S (grammar g) rs (S.last r.frame.code) l fs.2 in
        record {
          past = [];
          later = r ∷ rs;
          frames_past = tt;
          frames_later = (new-follows g (label_of c) (label_of (content r)) l (each_first new), fs.1, fs.2);
          was = refl;
          becomes = rw l (ap (λ (y : List ℕ). entry_bytes S c ++ (r.bytes ++ y)) (laid-flat rs));
          placed = rw none_after (before [] (content r) l);
        }
    go false l a =
        record {
          past = r ∷ a.past;
          later = a.later;
          frames_past = (fs.0, fs.1, a.frames_past);
          frames_later = a.frames_later;
          was = ap (λ (y : List ℕ). r.bytes ++ y) a.was ∙ sym (append_assoc r.bytes (flat a.past) (flat a.later));
          becomes = rw l (ap (λ (y : List ℕ). r.bytes ++ y) a.becomes ∙ sym (append_assoc r.bytes (flat a.past) (entry_bytes S c ++ flat a.later)));
          placed = placed-after S c (content r) _ _ l a.placed;
        }

added : (f e : ℕ) (image : List ℕ) (x : Field) (more : List Field) (values out : List ℕ) (m : ℕ) (d : Done (addition (x ∷ more) values) f e image out m) →
    AddedTo f e image (field_content (shape d.format) values x) (add_field f e image (x ∷ more) values out).memory out m
unfolding addition
added f e image x more values out m d =
    let g = d.format in
    let S : Shape = shape g in
    let c : Content = field_content S values x in
    let ok = may-addable S e d.raws x more values d.asked in
    let a : Apart S (grammar g) false d.raws c = apart g c false d.raws d.reading.made.frames (unseen S (label_of c) (labels_of d.raws) ok.new) in
    let shorter = fresh-shorter S d.raws c in
    let fits = entries_fit d in
    record {
      format = g;
      contents = map content a.past;
      later = map content a.later;
      placed = placed-added f e g c (chosen-serves f e g d.reading.known) a.placed;
      bytes = entry_bytes S c;
      short = entry-short g e c ok.named ok.ruled (keyless S.keyed x values) (omega arith);
      relaid = relaid (addition (x ∷ more) values) f e image out m d c.code a.past a.later [] (entry_bytes S c) a.frames_past a.frames_later a.was a.becomes;
    }

-- ---- a second time, by the list

-- the records of entries say what the entries say; one of them is the same exactly where the entry was seen
record Seen (S : Shape) (a : Label) (image : List ℕ) (es : List Entry) : Type 0 where
  pub number : ℕ
  pub entry : Entry
  pub there : Item es number entry
  pub same : same S a (label_of (said image entry)) ≡ true

seen_entry : (S : Shape) (a : Label) (image : List ℕ) (es : List Entry) (rs : List Raw) → map (said image) es ≡ map content rs → seen_before S (labels_of rs) a ≡ true → Seen S a image es
unfolding seen_before
seen_entry S a image [] [] q h = false-true h
seen_entry S a image [] (r ∷ rs) q h = let z : ◌≡◌ {A = ℕ} 0 1 = cc in absurd (omega arith)
seen_entry S a image (y ∷ es) [] q h = false-true h
seen_entry S a image (y ∷ es) (r ∷ rs) q h =
    let first : said image y ≡ content r = cc in
    let rest : map (said image) es ≡ map content rs = cc in
    go (same S a (label_of (content r))) refl first h (seen_entry S a image es rs rest)
  where
    go : (t : Bool) → same S a (label_of (content r)) ≡ t → said image y ≡ content r → if t (λ _. true) (λ _. seen_before S (labels_of rs) a) ≡ true →
        (seen_before S (labels_of rs) a ≡ true → Seen S a image es) → Seen S a image (y ∷ es)
    go true k first h later = record { number = 0; entry = y; there = here; same = rw first k }
    go false k first h later = let s = later h in record { number = suc s.number; entry = s.entry; there = there s.there; same = s.same }

unseen-entries : (S : Shape) (a : Label) (image : List ℕ) (es : List Entry) (rs : List Raw) → map (said image) es ≡ map content rs →
    Each (λ l. same S a l ≡ false) (labels_of rs) → Each (λ y. same S a (label_of (said image y)) ≡ false) es
unseen-entries S a image [] rs q h = none
unseen-entries S a image (y ∷ es) [] q h = let z : ◌≡◌ {A = ℕ} 0 1 = cc in absurd (omega arith)
unseen-entries S a image (y ∷ es) (r ∷ rs) q h =
    let first : said image y ≡ content r = cc in
    let rest : map (said image) es ≡ map content rs = cc in
    also {x = y} (rw first (each_first h)) (unseen-entries S a image es rs rest (each-rest h))

-- ---- how long the image becomes

pub added-length : (S : Shape) (rs : List Raw) (c : Content) → length (laid (added_entries S rs c)) ≡ length (flat rs) + length (entry_bytes S c)
unfolding added_entries laid
added-length S [] c = omega (arith, length-append (entry_bytes S c) [])
added-length S (r ∷ rs) c =
    either (λ (x : List (List ℕ)). length (laid x) ≡ length (flat (r ∷ rs)) + length (entry_bytes S c)) (S.last r.frame.code)
    (λ _. omega (arith, length-append (entry_bytes S c) (r.bytes ++ laid (bytes_of rs)), length-append r.bytes (laid (bytes_of rs)), length-append r.bytes (flat rs), ap length (laid-flat rs)))
    (λ _. omega (arith, length-append r.bytes (laid (added_entries S rs c)), length-append r.bytes (flat rs), added-length S rs c))

-- ---- what it tells

module _ (f e : ℕ) (image : List ℕ) (n : ℕ) (y : Found f e image n) (x : Field) (more : List Field) (values out : List ℕ) (short : length out ≤ limit) where
  abbrev g : Format
  g = y.format

  abbrev S : Shape
  S = shape g

  abbrev rs : List Raw
  rs = y.raws

  abbrev c : Content
  c = field_content S values x

  abbrev es : List Entry
  es = entries_of S e y.start rs

  abbrev image' : List ℕ
  image' = laid_out S (added_entries S rs c)

  says : map (said image) es ≡ map content rs
  says = records-say f e image g y.start rs y.reading

  added-size : length image' ≡ added_size g (y.start + length (flat rs)) c
  added-size = omega (arith, added-length S rs c, y.reading.made.starts, header-size g (length (flat rs)), image-size g (laid (added_entries S rs c)), entry-size g c)

  -- what is told where the tests come to these
  abbrev Tells : Bool → Bool → Bool → Bool → Type 0
  Tells t u v w =
      AddTold f e image n (list_of f e image n y) values out x c
      (told_made
      (change_allowed (if t (λ _. if u (λ _. if v (λ _. if w (λ _. denied (refusal 8 0)) (λ _. allowed)) (λ _. denied (refusal 7 0))) (λ _. denied (refusal 14 0))) (λ _. denied (refusal 13 0))) S
      (added_entries S rs c) out).answer)

  told : (t u v w : Bool) → parts_inside S.keyed x values ≡ t → names S e x.code ≡ u → writer_rule S c ≡ v → seen_before S (labels_of rs) (label_of c) ≡ w → Tells t u v w
  unfolding list_of
  told false u v w e₁ e₂ e₃ e₄ = outside (λ inside. false-true (sym e₁ ∙ inside-parts g values x inside))
  told true u v w e₁ e₂ e₃ e₄ = inside u v w e₂ e₃ e₄
    where
      within : Inside g values x
      within = parts-inside g values x e₁

      new : (seen_before S (labels_of rs) (label_of c) ≡ false) → Each (λ y. Again g c (said image y) → ⊥) es
      new un =
          each_map (λ z n a. false-true (sym n ∙ again-same g c (said image z) a))
          (unseen-entries S (label_of c) image es rs says (unseen S (label_of c) (labels_of rs) un))

      fitted : Named g e x.code → writer_rule S c ≡ true → seen_before S (labels_of rs) (label_of c) ≡ false →
          Fits g (length image') out ⊎ ((Fits g (length image') out → ⊥) × Refuses (told_made (put S image' out).answer) 12 0) →
          AddTold f e image n (list_of f e image n y) values out x c (told_made (put S image' out).answer)
      fitted named ruled un (inl fits) = taken within named ruled (new un) (rw added-size at fits) (rw added-size at (put-tells g image' out short fits))
      fitted named ruled un (inr big) = rw big.1 (too_long within named ruled (new un) (λ fits. big.0 (rw added-size fits)))

      inside : (u v w : Bool) → names S e x.code ≡ u → writer_rule S c ≡ v → seen_before S (labels_of rs) (label_of c) ≡ w → Tells true u v w
      inside false v w e₂ e₃ e₄ = unnamed within (λ named. false-true (sym e₂ ∙ named-names g e x.code named))
      inside true v w e₂ e₃ e₄ = ruled v w (names-named g e x.code (chosen-serves f e g y.reading.known).edition e₂) e₃ e₄
        where
          ruled : (v w : Bool) → Named g e x.code → writer_rule S c ≡ v → seen_before S (labels_of rs) (label_of c) ≡ w → Tells true true v w
          ruled false w named e₃ e₄ = unruled within named (λ h. false-true (sym e₃ ∙ h))
          ruled true true named e₃ e₄ =
              let s = seen_entry S (label_of c) image es rs says e₄ in
              again within named e₃ s.number s.entry s.there (same-again g c (said image s.entry) s.same)
          ruled true false named e₃ e₄ = fitted named e₃ e₄ (put-either g image' out short)

  pub tells : AddTold f e image n (list_of f e image n y) values out x (field_says f values x) (tells_add f e image (x ∷ more) values out)
  unfolding addition may_add
  tells =
      rw (← field-said f g values x (chosen-stands f e g y.reading.known).0, change-accepted (addition (x ∷ more) values) f e image n y out short)
      (told (parts_inside S.keyed x values) (names S e x.code) (writer_rule S c) (seen_before S (labels_of rs) (label_of c)) refl refl refl refl)

no-field : (f e : ℕ) (image : List ℕ) (n : ℕ) (y : Found f e image n) (values out : List ℕ) → length out ≤ limit → tells_add f e image [] values out ≡ told_refusal (refusal 13 0)
unfolding addition may_add
no-field f e image n y values out short = rw (change-accepted (addition [] values) f e image n y out short)

pub add-rule : AddRule
add-rule =
    record {
      puts = λ f e image x more values out m q.
          let d = add_done f e image (x ∷ more) values out m q in
          rw (← field-said f d.format values x (chosen-stands f e d.format d.reading.known).0) (added f e image x more values out m d);
      adds = λ f e image n q.
          let y = check-found f e image n (counts-accepted f e image n q) in
          record { list = list_of f e image n y; no_field = no-field f e image n y; tells = tells f e image n y };
    }
