-- Promise 1 holds.
-- Assumes nothing.
use Prim.Native.Nat.{ℕ}
use mathlib.Core.Path.{◌≡◌, refl, ap, ap₂}
use mathlib.Core.List.{List, [], ◌∷◌, ◌++◌, map}
use mathlib.Core.Bool.{Bool, false}
use lib.ListN.{length}
use Rattle.std.specs.Prelude.{Ok}
use Rattle.layout.specs.declared.Format.{Format}
use Rattle.layout.specs.Shape.{Shape}
use Rattle.layout.specs.Editions.{shape, chosen}
use Rattle.layout.specs.Walk.{Raw, Content, content, flat}
use Rattle.laws.specs.Grammar.{Grammar, grammar, EntryOf, Entries, no_entry, entry, Published}
use Rattle.laws.proofs.Format.{Laws}
use Rattle.laws.proofs.Frames.{IsRaw, frame_from, raw-content}
use Rattle.laws.proofs.Walking.{Frames}
use Rattle.laws.proofs.Formats.{laws}
use Rattle.laws.proofs.Images.{image_from}
use Rattle.laws.proofs.Calls.{Found, check-found, accepted-reading, made-reading}
use Rattle.promises.specs.Words.{Reads}
use Rattle.promises.specs.PublishedRules.{OfGrammar, PublishedRules}
use Rattle.promises.proofs.Required.{said-codes, complete-among, among-complete}
use Rattle.promises.proofs.Accepting.{reads}
use Rattle.promises.proofs.Telling.{serves-chosen, chosen-serves, counts-accepted}

-- ---- entries

module _ {S : Shape} {G : Grammar} (L : Laws S G) where
  -- an entry that was read is an entry of the grammar
  pub raw-entry : (r : Raw) → IsRaw G r → EntryOf G r.bytes (content r)
  raw-entry r i = rw (raw-content L r i) (record { front = i.front; lens = i.lens; is = i.is; opens = i.opens; says = i.says })

  -- entries that were walked are entries of the grammar
  pub frames-entries : (b : Bool) (rs : List Raw) → Frames S G b rs → Entries G S b (flat rs) (map content rs)
  frames-entries b [] fs = no_entry
  frames-entries b (r ∷ rs) fs = rw fs.0 (entry (raw-entry r fs.1) (rest (frames-entries (S.last r.frame.code) rs fs.2)))
    where
      rest : Entries G S (S.last r.frame.code) (flat rs) (map content rs) → Entries G S (S.last (content r).code) (flat rs) (map content rs)
      rest x = unfold content in x

-- entries of the grammar, as a walk finds them
pub record Walks (S : Shape) (G : Grammar) (b : Bool) (bytes : List ℕ) (cs : List Content) : Type 0 where
  pub raws : List Raw
  pub frames : Frames S G b raws
  pub flatly : flat raws ≡ bytes
  pub says : map content raws ≡ cs

module _ {S : Shape} {G : Grammar} (L : Laws S G) where
  entry_raw : {bytes : List ℕ} {c : Content} → EntryOf G bytes c → Raw
  entry_raw {bytes} {c} x = record { bytes = bytes; frame = frame_from x.front x.lens c.code c.key c.value }

  entry-raw : {bytes : List ℕ} {c : Content} (x : EntryOf G bytes c) → IsRaw G (entry_raw x)
  unfolding entry_raw
  entry-raw {bytes} {c} x =
      record { front = x.front; lens = x.lens; code = c.code; key = c.key; value = c.value; is = x.is; opens = x.opens; says = x.says; framed = refl }

  pub entries-frames : {b : Bool} {bytes : List ℕ} {cs : List Content} → Entries G S b bytes cs → Walks S G b bytes cs
  unfolding entry_raw entry-raw
  entries-frames no_entry = record { raws = []; frames = tt; flatly = refl; says = refl }
  entries-frames (entry {c} {cs} {bytes} {more} x rest) =
      let w = entries-frames rest in
      record {
        raws = entry_raw x ∷ w.raws;
        frames = (refl, entry-raw x, w.frames);
        flatly = ap (λ (y : List ℕ). bytes ++ y) w.flatly;
        says = ap₂ (λ (y : Content) (ys : List Content). y ∷ ys) (raw-content L (entry_raw x) (entry-raw x)) w.says;
      }

of-grammar : (f e : ℕ) (image : List ℕ) (n : ℕ) → Found f e image n → OfGrammar f e image
of-grammar f e image n x =
    let r = x.reading in
    let m = r.made in
    let rs = x.raws in
    let g = x.format in
    record {
      format = g;
      serves = chosen-serves f e g r.known;
      contents = map content rs;
      published =
          record {
            entries = flat rs;
            closing = m.closing;
            rest = m.rest;
            header = (shape g).header (length (flat rs));
            headed = refl;
            is = m.is;
            closes = m.closes;
            takes = m.takes;
            made = frames-entries (laws g) false rs m.frames;
            lawful = m.lawful;
            required = complete-among (map content rs) (shape g).required (rw (said-codes rs) m.required);
            short = r.short;
          };
      reads = reads f e image g x.start rs r;
    }

is_read : (f e : ℕ) (g : Format) (image : List ℕ) (cs : List Content) → chosen f e ≡ Ok g → (p : Published g e image cs) →
    Walks (shape g) (grammar g) false p.entries cs → Reads f e image cs
is_read f e g image cs k p w =
    let S : Shape = shape g in
    let h : ℕ = length (S.header (length (flat w.raws))) in
    let whole : image ≡ image_from S (flat w.raws) p.closing p.rest = rw (w.flatly, ← p.headed) p.is in
    let r = made-reading f e g w.raws p.closing p.rest k p.closes (rw w.flatly p.takes) w.frames (rw w.says p.lawful) (rw (← said-codes w.raws, w.says) (among-complete cs S.required p.required)) (rw whole at p.short) in
    rw (whole, ← w.says) (reads f e (image_from S (flat w.raws) p.closing p.rest) g h w.raws (accepted-reading f e (image_from S (flat w.raws) p.closing p.rest) g h w.raws r))

pub published-rules : PublishedRules
published-rules =
    record {
      accepted_is = λ f e image n q. of-grammar f e image n (check-found f e image n (counts-accepted f e image n q));
      is_accepted = λ f e g image cs s p. is_read f e g image cs (serves-chosen s) p (entries-frames (laws g) p.made);
    }
