-- What a change that was done has put out: the entries that stood before it and after it are kept, and the end is the writer's.
-- Assumes nothing.
use Prim.Native.Nat.{ℕ, zero, suc}
use mathlib.Core.Path.{◌≡◌, refl, ap, sym, ◌∙◌}
use mathlib.Core.List.{List, [], ◌∷◌, ◌++◌, append_assoc, map}
use mathlib.Core.Bool.{Bool, true, false}
use lib.ListN.{length}
use Rattle.layout.specs.Shape.{Shape}
use Rattle.layout.specs.Editions.{shape, names}
use Rattle.layout.specs.Walk.{Raw, content, flat}
use Rattle.layout.specs.Change.{bytes_of, laid, laid_out, in_place, Change, change_image}
use Rattle.laws.specs.Grammar.{Grammar, grammar}
use Rattle.layout.proofs.Lists.{joined-append}
use Rattle.laws.proofs.Frames.{IsRaw}
use Rattle.laws.proofs.Walking.{Frames}
use Rattle.laws.proofs.Formats.{laws}
use Rattle.laws.proofs.Changing.{laid-flat, NamedAt}
use Rattle.promises.specs.Relaid.{Relaid}
use Rattle.promises.proofs.Telling.{chosen-serves}
use Rattle.promises.proofs.PublishedRules.{frames-entries}
use Rattle.promises.proofs.Written.{image-written}
use Rattle.promises.proofs.Changes.{Done}

-- by the entries before, `past`, and those after, `later`
pub relaid : (x : Change) (f e : ℕ) (image out : List ℕ) (m : ℕ) (d : Done x f e image out m) (code : ℕ) (past later : List Raw) (old new : List ℕ) →
    Frames (shape d.format) (grammar d.format) false past → Frames (shape d.format) (grammar d.format) ((shape d.format).last code) later →
    flat d.raws ≡ flat past ++ (old ++ flat later) → laid (x.entries (shape d.format) d.raws) ≡ flat past ++ (new ++ flat later) →
    Relaid f e image d.format (map content past) (map content later) code old new (change_image x f e image out).memory out m
relaid x f e image out m d code past later old new frames_past frames_later was becomes =
    let g = d.format in
    let S : Shape = shape g in
    let made = d.reading.made in
    let entries' : List ℕ = laid (x.entries S d.raws) in
    record {
      serves = chosen-serves f e g d.reading.known;
      before = flat past;
      made = frames-entries (laws g) false past frames_past;
      after = flat later;
      made_after = frames-entries (laws g) (S.last code) later frames_later;
      entries = flat d.raws;
      entries' = entries';
      was = was;
      becomes = becomes;
      closing = made.closing;
      rest = made.rest;
      closed = made.closes;
      was_image = made.is;
      image' = laid_out S (x.entries S d.raws);
      written = image-written g entries';
      long = d.took.long;
      filled = d.took.padding;
    }

-- ---- a change in the place of entry i

-- entries, apart into those before entry i, that entry, and those after it; and what is laid out with others in its place
pub record Apart (P : ℕ → Type 0) (S : Shape) (G : Grammar) (e : ℕ) (b : Bool) (rs : List Raw) (i : ℕ) (new : Raw → List (List ℕ)) : Type 0 where
  pub past : List Raw
  pub raw : Raw
  pub later : List Raw
  pub counted : length past ≡ i
  pub named : names S e raw.frame.code ≡ true
  pub holds : P raw.frame.code
  pub frames_past : Frames S G b past
  pub is_raw : IsRaw G raw
  pub frames_later : Frames S G (S.last raw.frame.code) later
  pub was : flat rs ≡ flat past ++ (raw.bytes ++ flat later)
  pub becomes : laid (in_place new rs i) ≡ flat past ++ (laid (new raw) ++ flat later)

pub apart : (P : ℕ → Type 0) (S : Shape) (G : Grammar) (e : ℕ) (new : Raw → List (List ℕ)) (b : Bool) (rs : List Raw) (i : ℕ) → Frames S G b rs → NamedAt P S e rs i →
    Apart P S G e b rs i new
unfolding in_place laid
apart P S G e new b [] i fs x = absurd x
apart P S G e new b (r ∷ rs) zero fs x =
    record {
      past = [];
      raw = r;
      later = rs;
      counted = refl;
      named = x.0;
      holds = x.1;
      frames_past = tt;
      is_raw = fs.1;
      frames_later = fs.2;
      was = refl;
      becomes = joined-append laid (λ s. s) refl (λ s ss. refl) (new r) (bytes_of rs) ∙ ap (λ (y : List ℕ). laid (new r) ++ y) (laid-flat rs);
    }
apart P S G e new b (r ∷ rs) (suc i) fs x =
    let a = apart P S G e new (S.last r.frame.code) rs i fs.2 x in
    record {
      past = r ∷ a.past;
      raw = a.raw;
      later = a.later;
      counted = ap suc a.counted;
      named = a.named;
      holds = a.holds;
      frames_past = (fs.0, fs.1, a.frames_past);
      is_raw = a.is_raw;
      frames_later = a.frames_later;
      was = ap (λ (y : List ℕ). r.bytes ++ y) a.was ∙ sym (append_assoc r.bytes (flat a.past) (a.raw.bytes ++ flat a.later));
      becomes = ap (λ (y : List ℕ). r.bytes ++ y) a.becomes ∙ sym (append_assoc r.bytes (flat a.past) (laid (new a.raw) ++ flat a.later));
    }
