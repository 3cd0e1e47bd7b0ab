-- What was added and is removed again leaves the former list.
-- Assumes nothing.
use Prim.Native.Nat.{ℕ, suc, ◌+◌, ◌≤◌}
use mathlib.Core.Path.{◌≡◌, refl, ap, sym, ◌∙◌}
use mathlib.Core.List.{List, [], ◌∷◌, ◌++◌, map}
use mathlib.Core.Bool.{Bool, true, false}
use native.Mathlib.Omega.{arith}
use lib.ListN.{length, take}
use lib.Seq.{take_at}
use Rattle.std.specs.Prelude.{Ok}
use Rattle.layout.specs.declared.Format.{Format}
use Rattle.layout.specs.declared.Field.{Field}
use Rattle.layout.specs.Bytes.{if}
use Rattle.layout.specs.Shape.{Shape}
use Rattle.layout.specs.Editions.{shape, names}
use Rattle.layout.specs.Walk.{Raw, Content, content, label_of, flat}
use Rattle.layout.specs.Read.{limit, Read}
use Rattle.layout.specs.Write.{field_content, entry_bytes, image_of, Outcome, put}
use Rattle.layout.specs.Change.{laid, Allowed, allowed, change_allowed, change_read, change_image}
use Rattle.layout.specs.Add.{added_entries, addition, add_field}
use Rattle.layout.specs.Remove.{removal}
use Rattle.laws.proofs.Formats.{laws}
use Rattle.laws.proofs.Writing.{fresh, fresh-raw, keyless}
use Rattle.laws.proofs.Changing.{laid-flat, in-place-bytes}
use Rattle.laws.proofs.Adding.{Addable, may-addable, fresh-shorter, added_raws, added_at, removed-added, added-named, new-spare, add-leaves}
use Rattle.laws.proofs.Removing.{Spare, removed_raws, removable-may}
use Rattle.laws.proofs.Calls.{Reading, change-read, chosen-stands}
use Rattle.promises.specs.Words.{Serves, Item, here, there}
use Rattle.promises.specs.Written.{entries_size}
use Rattle.promises.specs.RemoveRule.{Undone, AddUndone, AddsUndone}
use Rattle.promises.proofs.Telling.{serves-chosen}
use Rattle.promises.proofs.Naming.{named-names}
use Rattle.promises.proofs.Accepting.{reads}
use Rattle.promises.proofs.Older.{older-reading}
use Rattle.promises.proofs.Output.{put-fitting, put-took, took-readings, took-reads}
use Rattle.promises.proofs.RoundTrip.{field-said}
use Rattle.promises.proofs.Written.{image-size, entry-size, image-written}
use Rattle.promises.proofs.Changes.{Done, entries_fit, add_done}
use Rattle.promises.proofs.OlderChanges.{newer-reading}
use Rattle.promises.proofs.AddRule.{added-length}

-- the removal's bytes of the entries with a new one, where it takes that one out, are those that were
undone-bytes : (S : Shape) (rs : List Raw) (c : Content) → laid ((removal (added_at S rs)).entries S (added_raws S rs c)) ≡ flat rs
unfolding removal
undone-bytes S rs c =
    ap laid (sym (in-place-bytes (λ r. []) (λ r. []) (λ r. refl) (added_raws S rs c) (added_at S rs)))
    ∙ laid-flat (removed_raws (added_raws S rs c) (added_at S rs)) ∙ ap flat (removed-added S rs c)

-- the new entry is the one of that number
added-item : (S : Shape) (rs : List Raw) (c : Content) → content (fresh S c) ≡ c → Item (map content (added_raws S rs c)) (added_at S rs) c
unfolding added_raws added_at
added-item S [] c says = rw says here
added-item S (r ∷ rs) c says = go (S.last r.frame.code) (added-item S rs c says)
  where
    go : (t : Bool) → Item (map content (added_raws S rs c)) (added_at S rs) c →
        Item (map content (if t (λ _. fresh S c ∷ r ∷ rs) (λ _. r ∷ added_raws S rs c))) (if t (λ _. 0) (λ _. suc (added_at S rs))) c
    go true h = rw says here
    go false h = there h

module _ (f e n : ℕ) (image : List ℕ) (x : Field) (more : List Field) (values out : List ℕ) (m : ℕ) (d : Done (addition (x ∷ more) values) f e image out m)
    (newer : Reading f n image d.format d.start d.raws) where
  abbrev g : Format
  g = d.format

  abbrev S : Shape
  S = shape g

  abbrev rs : List Raw
  rs = d.raws

  abbrev c : Content
  c = field_content S values x

  abbrev output : List ℕ
  output = (add_field f e image (x ∷ more) values out).memory

  addable : Addable S e rs x values
  unfolding addition
  addable = may-addable S e rs x more values d.asked

  -- an image that an edition reads as the entries with the new one, and from which it removes that
  undone : (r : ℕ) (image' : List ℕ) (start : ℕ) → Reading f r image' g start (added_raws S rs c) → names S r c.code ≡ true → (out' : List ℕ) →
      m ≤ length out' + length (entry_bytes S c) → length out' ≤ limit → Undone f r n g image' (added_at S rs) out' (flat rs) (map content rs)
  unfolding addition
  undone r image' start reading named out' room short =
      let i = added_at S rs in
      let former : List ℕ = image_of S (flat rs) in
      let spare = new-spare g rs (label_of c) d.reading.made.required addable.new in
      let asks : (removal i).asks S r start (added_raws S rs c) ≡ allowed
      = removable-may S r start (added_raws S rs c) i (added-named (Spare S) S r rs c named spare) in
      let puts : change_image (removal i) f r image' out' ≡ put S former out'
      = change-read (removal i) f r image' out' short ∙ ap (λ (y : Read). change_read y (removal i) r out') reading.read
      ∙ ap (λ (a : Allowed). change_allowed a S ((removal i).entries S (added_raws S rs c)) out') asks
      ∙ ap (λ (y : List ℕ). put S (image_of S y) out') (undone-bytes S rs c) in
      let size : length former + length (entry_bytes S c) ≡ m
      = omega (arith, image-size g (flat rs), image-size g (laid (added_entries S rs c)), added-length S rs c, d.took.long) in
      let fits = put-fitting S former out' (omega (arith, d.took.allowed, d.took.long)) (omega arith) in
      let answer : (put S former out').answer ≡ Ok (length former) = ap (λ (o : Outcome). o.answer) fits in
      let took = put-took S former out' (length former) answer in
      let back =
      took-reads f n g rs out' (length former) (put S former out').memory newer.known newer.made.frames newer.made.lawful newer.made.required short took in
      let cut : take (length former) (put S former out').memory ≡ former = ap (take (length former)) took.padding ∙ take_at former _ (length former) refl in
      record { long = length former; taken = rw (puts, answer); written = rw (puts, cut) (image-written g (flat rs)); whole = rw puts back.0; front = rw puts back.1 }

  -- the output as an edition reads it that accepted the image
  output-read : (r : ℕ) → Reading f r image g d.start rs →
      let start = length (S.header (length (flat (added_raws S rs c)))) in
      Reading f r output g start (added_raws S rs c) × Reading f r (take m output) g start (added_raws S rs c)
  unfolding addition
  output-read r reading =
      let l = add-leaves g e d.start rs x more values d.reading.made.frames d.asked (entries_fit d) in
      let flats : laid (added_entries S rs c) ≡ flat (added_raws S rs c) = ap laid (sym l.bytes) ∙ laid-flat (added_raws S rs c) in
      took-readings f r g (added_raws S rs c) out m output reading.known l.frames (l.lawful r reading.made.lawful) (l.required reading.made.required) d.short
      (rw flats at d.took)

  -- an older edition that has the format accepted the image too
  older : (r : ℕ) → Serves f r g → r ≤ n → Reading f r image g d.start rs
  older r serves le = older-reading f r n image g g d.start rs (serves-chosen serves) le newer

  add-undone : AddUndone f n image c output m
  unfolding addition
  add-undone =
      let start = length (S.header (length (flat (added_raws S rs c)))) in
      let made = newer.made in
      let shorter = fresh-shorter S rs c in
      let fit = entries_fit d in
      let says = (fresh-raw (laws g) e c addable.named addable.ruled (keyless S.keyed x values) (within shorter fit)).1 in
      let room : (out' : List ℕ) → m ≤ length out' + entries_size g (c ∷ []) → m ≤ length out' + length (entry_bytes S c) = λ out' h. omega (arith, entry-size g c) in
      record {
        format = g;
        former = map content rs;
        before = reads f n image g d.start rs newer;
        entries = flat rs;
        rest = made.closing ++ (S.check (S.header (length (flat rs)) ++ flat rs) ++ made.rest);
        stood = made.is;
        latter = map content (added_raws S rs c);
        after = reads f n output g start (added_raws S rs c) (output-read n newer).0;
        number = added_at S rs;
        there = added-item S rs c says;
        whole = λ r serves le named out' fits short. undone r output start (output-read r (older r serves le)).0 (named-names g r c.code named) out' (room out' fits) short;
        front = λ r serves le named out' fits short. undone r (take m output) start (output-read r (older r serves le)).1 (named-names g r c.code named) out' (room out' fits) short;
      }
    where
      within : length (entry_bytes S c) ≤ length (laid (added_entries S rs c)) → length (laid ((addition (x ∷ more) values).entries S rs)) ≤ limit → length (entry_bytes S c) ≤ limit
      within a b = omega arith

pub adds-undone : AddsUndone
adds-undone f e n image count x more values out m le q w =
    let d = add_done f e image (x ∷ more) values out m w in
    rw (← field-said f d.format values x (chosen-stands f e d.format d.reading.known).0)
    (add-undone f e n image x more values out m d (newer-reading f e n image count out m le q d))
