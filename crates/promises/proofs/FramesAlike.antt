-- A bad frame is reported alike by every edition that has the format, and a number of the rules is given exactly where the frames and the check are right: only the rules look at
-- the edition, and they come after every frame.
-- Assumes nothing.
use Prim.Native.Nat.{ℕ, ◌≤◌}
use mathlib.Core.Path.{◌≡◌, refl, ap, sym, ◌∙◌}
use mathlib.Core.List.{List, [], map}
use mathlib.Core.Bool.{Bool, true, false}
use lib.ListN.{length}
use lib.Dec.{ltb}
use borrow.Author.Tests.{ltb-false, le-ltb}
use Rattle.std.specs.Prelude.{Ok}
use Rattle.layout.specs.declared.Format.{Format}
use Rattle.layout.specs.Bytes.{if, all, one_of}
use Rattle.layout.specs.Editions.{shape}
use Rattle.layout.specs.Walk.{Raw, content, flat}
use Rattle.layout.specs.Read.{limit, judge, Read, accepted, refused, bad, read_complete, read_as, read_chosen, read_image}
use Rattle.layout.specs.Calls.{Told, told_checked, checked_by, check_image}
use Rattle.laws.specs.Grammar.{grammar}
use Rattle.layout.proofs.Choices.{false-true, either}
use Rattle.laws.proofs.Formats.{laws}
use Rattle.laws.proofs.Images.{image_from, IsFramed, Way, unframed, framed, way, made-read}
use Rattle.promises.specs.Words.{Serves, tells_check}
use Rattle.promises.specs.FramesAlike.{Framed, frame_numbers, rule_numbers, FramesAlike}
use Rattle.promises.proofs.FormatNumbers.{every}
use Rattle.promises.proofs.Refusals.{ReadLow, rule_refusals, ruled-low, unframed-low}
use Rattle.promises.proofs.Telling.{serves-chosen}
use Rattle.promises.proofs.PublishedRules.{entries-frames, frames-entries}

abbrev tells : Read → Told
tells x = told_checked (checked_by x)

abbrev OfFrame : Read → Type 0
OfFrame x = one_of frame_numbers (tells x).number ≡ true

abbrev OfRule : Read → Type 0
OfRule x = one_of rule_numbers (tells x).number ≡ true

-- ---- the two lists

low-rule : (x : Read) → ReadLow rule_refusals x → OfRule x
unfolding all one_of
low-rule (accepted g start rs) l = refl
low-rule (refused r) l = every (one_of rule_numbers) rule_refusals r.number refl l.number

-- no number is in both
apart : {A : Type 0} (x : Read) → OfRule x → OfFrame x → A
unfolding all one_of
apart x r h =
    let none : if (one_of frame_numbers (tells x).number) (λ _. false) (λ _. true) ≡ true
    = every (λ n. if (one_of frame_numbers n) (λ _. false) (λ _. true)) rule_numbers (tells x).number refl r in
    false-true (rw h at none)

-- ---- framed images

-- what is read up to the rules is framed
framed_is : (g : Format) (image : List ℕ) (start : ℕ) (rs : List Raw) → length image ≤ limit → IsFramed g image start rs → Framed g image
framed_is g image start rs short x =
    record {
      contents = map content rs;
      entries = flat rs;
      closing = x.closing;
      rest = x.rest;
      is = x.is;
      closes = x.closes;
      takes = x.takes;
      made = frames-entries (laws g) false rs x.frames;
      short = short;
    }

-- what is framed is read up to the rules, by every edition
framed-rule : (g : Format) (e : ℕ) (image : List ℕ) → Framed g image → OfRule (read_as g e image)
framed-rule g e image x =
    let w = entries-frames (laws g) x.made in
    let start = length ((shape g).header (length (flat w.raws))) in
    let whole : image ≡ image_from (shape g) (flat w.raws) x.closing x.rest = rw w.flatly x.is in
    let takes : (grammar g).Takes (length (flat w.raws)) = rw w.flatly x.takes in
    let read : read_as g e image ≡ read_complete (judge (shape g) e [] w.raws start) g start w.raws
    = rw whole (made-read g (laws g) e w.raws x.closing x.rest x.closes takes w.frames) in
    let found : IsFramed g image start w.raws =
    record { closing = x.closing; rest = x.rest; closes = x.closes; takes = takes; is = whole; starts = refl; frames = w.frames } in
    rw read (low-rule (read_complete (judge (shape g) e [] w.raws start) g start w.raws) (ruled-low g e image start w.raws x.short found))

-- ---- by how an image is read

module _ (g : Format) (image : List ℕ) (short : length image ≤ limit) where
  as-alike : (d e : ℕ) → OfFrame (read_as g d image) → tells (read_as g e image) ≡ tells (read_as g d image)
  as-alike d e h = go (way g (laws g) image)
    where
      go : Way g image → tells (read_as g e image) ≡ tells (read_as g d image)
      go (unframed r u k) = ap tells (k e ∙ sym (k d))
      go (framed start rs x k) =
          let y = read_complete (judge (shape g) d [] rs start) g start rs in
          apart y (low-rule y (ruled-low g d image start rs short x)) (rw (k d) at h)

  as-unframed : (e : ℕ) → (Framed g image → ⊥) → OfFrame (read_as g e image)
  as-unframed e no-frame = go (way g (laws g) image)
    where
      go : Way g image → OfFrame (read_as g e image)
      go (unframed r u k) = rw (k e) (unframed-low g image r short u).number
      go (framed start rs x k) = absurd (no-frame (framed_is g image start rs short x))

-- ---- any format number and edition

read_alike : (d e : ℕ) (g : Format) (image : List ℕ) → OfFrame (read_chosen (Ok g) d image) → tells (read_chosen (Ok g) e image) ≡ tells (read_chosen (Ok g) d image)
read_alike d e g image h = bounded (ltb limit (length image)) refl h
  where
    bounded : (t : Bool) → ltb limit (length image) ≡ t → OfFrame (if t (λ _. bad 2 0) (λ _. read_as g d image)) →
        tells (if t (λ _. bad 2 0) (λ _. read_as g e image)) ≡ tells (if t (λ _. bad 2 0) (λ _. read_as g d image))
    bounded true q h = refl
    bounded false q h = as-alike g image (ltb-false limit (length image) q) d e h

tells_alike : (f d e : ℕ) (g : Format) (image : List ℕ) → Serves f d g → Serves f e g → one_of frame_numbers (tells_check f d image).number ≡ true →
    tells_check f e image ≡ tells_check f d image
unfolding check_image read_image
tells_alike f d e g image sd se h = rw (serves-chosen sd, serves-chosen se) (read_alike d e g image (rw (serves-chosen sd) at h))

tells-rule : (f e : ℕ) (g : Format) (image : List ℕ) → Serves f e g → Framed g image → one_of rule_numbers (tells_check f e image).number ≡ true
unfolding check_image read_image
tells-rule f e g image s x = rw (serves-chosen s, le-ltb limit (length image) x.short) (framed-rule g e image x)

tells-frame : (f e : ℕ) (g : Format) (image : List ℕ) → Serves f e g → (Framed g image → ⊥) → one_of frame_numbers (tells_check f e image).number ≡ true
unfolding check_image read_image one_of
tells-frame f e g image s no-frame =
    rw (serves-chosen s)
    (either OfFrame (ltb limit (length image)) (λ _. refl) (λ t. as-unframed g image (ltb-false limit (length image) t) e no-frame))

pub frames-alike : FramesAlike
frames-alike = record { alike = tells_alike; framed = tells-rule; unframed = tells-frame }
