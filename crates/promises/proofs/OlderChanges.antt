-- Promise 5 holds.
-- Assumes nothing.
use Prim.Native.Nat.{ℕ, ◌≤◌, ◌<◌}
use mathlib.Core.Path.{◌≡◌, refl, ap, sym, ◌∙◌}
use mathlib.Core.List.{List, ◌∷◌, map}
use mathlib.Core.Bool.{false}
use lib.ListN.{length}
use Rattle.layout.specs.declared.Format.{Format}
use Rattle.layout.specs.declared.Format.TheVariants.{Tiny}
use Rattle.layout.specs.declared.Field.{Field}
use Rattle.layout.specs.Editions.{shape}
use Rattle.layout.specs.Walk.{Raw, Content, content, flat}
use Rattle.layout.specs.Read.{limit, accepted}
use Rattle.layout.specs.Write.{field_content}
use Rattle.layout.specs.Change.{laid, allowed, Change, change_image}
use Rattle.layout.specs.Edit.{edit}
use Rattle.layout.specs.Add.{addition}
use Rattle.layout.specs.Remove.{removal}
use Rattle.laws.specs.Contents.{replaced, without}
use Rattle.laws.specs.Grammar.{grammar}
use Rattle.layout.proofs.Choices.{false-true}
use Rattle.layout.proofs.Lists.{each_map}
use Rattle.laws.proofs.Walking.{Frames}
use Rattle.laws.proofs.Formats.{laws}
use Rattle.laws.proofs.Changing.{laid-flat, Leaves}
use Rattle.laws.proofs.Editing.{edited_raws, edit-leaves}
use Rattle.laws.proofs.Adding.{added_raws, Placed, at_end, before, add-leaves}
use Rattle.laws.proofs.Removing.{removed_raws, remove-leaves}
use Rattle.laws.proofs.Calls.{Reading, Found, check-found, chosen-stands}
use Rattle.promises.specs.Words.{FormatNumber, tiny, Serves, Counts, tells_check}
use Rattle.promises.specs.OlderChanges.{Kept, Added, last, before_pool, OlderEdits, OlderAdds, OlderRemoves}
use Rattle.promises.proofs.Accepting.{reads}
use Rattle.promises.proofs.Telling.{one_format, chosen-serves, counts-accepted}
use Rattle.promises.proofs.Older.{older-reading}
use Rattle.promises.proofs.Output.{took-reads}
use Rattle.promises.proofs.RoundTrip.{field-said}
use Rattle.promises.proofs.Writing.{last-pool, pool-last}
use Rattle.promises.proofs.Changes.{Done, entries_fit, edit-done, add_done, remove-done}

-- two readings of an image by one edition are the same
same-reading : (f e n : ℕ) (image : List ℕ) (g h : Format) (s t : ℕ) (rs ws : List Raw) → Reading f e image g s rs → Reading f e image h t ws → Reading f n image h t ws →
    Reading f n image g s rs
same-reading f e n image g h s t rs ws a b c =
    let q : accepted g s rs ≡ accepted h t ws = sym a.read ∙ b.read in
    let q₁ : g ≡ h = cc in
    let q₂ : s ≡ t = cc in
    let q₃ : rs ≡ ws = cc in
    rw (q₁, q₂, q₃) c

-- a newer edition that accepts an image reads it as the older one did that has changed it
pub newer-reading : {x : Change} (f o n : ℕ) (image : List ℕ) (count : ℕ) (out : List ℕ) (m : ℕ) → o ≤ n → Counts (tells_check f n image) count → (d : Done x f o image out m) →
    Reading f n image d.format d.start d.raws
newer-reading f o n image count out m le q d =
    let y : Found f n image count = check-found f n image count (counts-accepted f n image count q) in
    let r = older-reading f o n image y.format d.format y.start y.raws d.reading.known le y.reading in
    same-reading f o n image d.format y.format d.start y.start d.raws y.raws d.reading r y.reading

-- what a change that is allowed leaves of entries that fit an image, in every format
abbrev pub Sound : Change → (Format → List Content → List Content → Type 0) → Type 0
Sound x Makes =
    (g : Format) (o p : ℕ) (rs : List Raw) → Frames (shape g) (grammar g) false rs → x.asks (shape g) o p rs ≡ allowed → length (laid (x.entries (shape g) rs)) ≤ limit →
    (raws : List Raw) × Leaves (shape g) (grammar g) rs raws (x.entries (shape g) rs) (Makes g)

-- what a change has left that was done
pub done-leaves : {x : Change} {Makes : Format → List Content → List Content → Type 0} {f e : ℕ} {image out : List ℕ} {m : ℕ} → Sound x Makes → (d : Done x f e image out m) →
    (raws : List Raw) × Leaves (shape d.format) (grammar d.format) d.raws raws (x.entries (shape d.format) d.raws) (Makes d.format)
done-leaves {e = e} sound d = sound d.format e d.start d.raws d.reading.made.frames d.asked (entries_fit d)

-- the one proof for every change: a newer edition that accepted the image reads what is left, whole and up to the length given
module _ (x : Change) (Makes : Format → List Content → List Content → Type 0) (sound : Sound x Makes) where
  kept : (f o n : ℕ) (image out : List ℕ) (m : ℕ) (d : Done x f o image out m) → Reading f n image d.format d.start d.raws →
      Kept f n image (Makes d.format) (change_image x f o image out).memory m
  kept f o n image out m d r =
      let g = d.format in
      let rs = d.raws in
      let a = r.made in
      let s = done-leaves sound d in
      let l = s.1 in
      let flats : laid (x.entries (shape g) rs) ≡ flat s.0 = ap laid (sym l.bytes) ∙ laid-flat s.0 in
      let both =
      took-reads f n g s.0 out m (change_image x f o image out).memory r.known l.frames (l.lawful n a.lawful) (l.required a.required) d.short (rw flats at d.took) in
      record {
        former = map content rs;
        latter = map content s.0;
        makes = l.makes;
        before = reads f n image g d.start rs r;
        whole = both.0;
        front = both.1;
      }

  pub older-changes : (f o n : ℕ) (image : List ℕ) (count : ℕ) (out : List ℕ) (m : ℕ) → o ≤ n → Counts (tells_check f n image) count → (d : Done x f o image out m) →
      Kept f n image (Makes d.format) (change_image x f o image out).memory m
  older-changes f o n image count out m le q d = kept f o n image out m d (newer-reading f o n image count out m le q d)

-- ---- the three

pub edit-sound : (i : ℕ) (v : List ℕ) → Sound (edit i v) (λ g former latter. latter ≡ replaced former i v)
edit-sound i v g o p rs fs q short = (edited_raws (shape g) rs i v, edit-leaves (laws g) o p rs i v fs q short)

pub older-edits : OlderEdits
older-edits i v f o n image count out m le q w =
    older-changes (edit i v) (λ g former latter. latter ≡ replaced former i v) (edit-sound i v) f o n image count out m le q (edit-done f o image i v out m w)

pub remove-sound : (i : ℕ) → Sound (removal i) (λ g former latter. (i < length former) × (latter ≡ without former i))
remove-sound i g o p rs fs q short = (removed_raws rs i, remove-leaves (shape g) (grammar g) o p rs i fs q)

pub older-removes : OlderRemoves
older-removes i f o n image count out m le q w =
    older-changes (removal i) (λ g former latter. (i < length former) × (latter ≡ without former i)) (remove-sound i) f o n image count out m le q (remove-done f o image i out m w)

pub add-sound : (x : Field) (xs : List Field) (values : List ℕ) → Sound (addition (x ∷ xs) values) (λ g. Placed (shape g) (field_content (shape g) values x))
add-sound x xs values g o p rs fs q short = (added_raws (shape g) rs (field_content (shape g) values x), add-leaves g o p rs x xs values fs q short)

tiny-number : {f : ℕ} → FormatNumber f Tiny → f ≡ 3
tiny-number tiny = refl

-- where the new entry stands, in the promise's words
pub placed-added : (f e : ℕ) (g : Format) (c : Content) {former latter : List Content} → Serves f e g → Placed (shape g) c former latter → Added f c former latter
placed-added f e g c s (at_end each) = last (λ is. each_map (λ d l one. false-true (sym l ∙ pool-last g d.code (one_format s.number (rw is tiny)) one)) each)
placed-added f e g c s (before cs d l) =
    let p = last-pool g d.code l in
    before_pool cs d (tiny-number (rw p.0 at s.number)) p.1

pub older-adds : OlderAdds
older-adds x more values f o n image count out m le q w =
    let d = add_done f o image (x ∷ more) values out m w in
    let k =
    older-changes (addition (x ∷ more) values) (λ g. Placed (shape g) (field_content (shape g) values x)) (add-sound x more values) f o n image count out m le q d in
    let known = d.reading.known in
    record {
      former = k.former;
      latter = k.latter;
      makes = rw (← field-said f d.format values x (chosen-stands f o d.format known).0) (placed-added f o d.format _ (chosen-serves f o d.format known) k.makes);
      before = k.before;
      whole = k.whole;
      front = k.front;
    }
