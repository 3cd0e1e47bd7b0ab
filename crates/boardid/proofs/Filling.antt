-- The records of all entries over lent bytes, one after another along a pass over an image.
-- Assumes nothing.
use Prim.Native.Nat.{ℕ, ◌+◌, ◌*◌, ◌-◌, ◌≤◌, ◌<◌}
use mathlib.Core.Path.{◌≡◌, refl, ap, sym, ◌∙◌}
use mathlib.Core.List.{List, [], ◌∷◌, ◌++◌, append_assoc, append-nil}
use mathlib.Core.Bool.{Bool, false}
use native.Mathlib.Omega.{arith}
use lib.ListN.{length, length-append}
use Rattle.std.specs.Prelude.{Ok, Err, Some, None}
use Rattle.layout.specs.declared.Format.{Format}
use Rattle.layout.specs.declared.Frame.{Frame}
use Rattle.layout.specs.declared.Entry.{Entry}
use Rattle.layout.specs.Answers.{Next}
use Rattle.layout.specs.Bytes.{part}
use Rattle.layout.specs.Shape.{Shape, next}
use Rattle.layout.specs.Editions.{shape}
use Rattle.layout.specs.Walk.{Raw}
use Rattle.layout.specs.Calls.{entry_of, entries_of}
use Rattle.laws.specs.Grammar.{grammar}
use Rattle.laws.specs.Passes.{walked, IsDone, raws_in}
use Rattle.laws.proofs.Formats.{laws}
use Rattle.laws.proofs.Frames.{raw_of}
use Rattle.layout.proofs.Lists.{joined-append}
use Rattle.laws.proofs.Records.{entries_none, entries-more, entries-count}
use Rattle.laws.proofs.Passes.{Passing, pass-first, pass_on, pass-ends, pass-unbroken}
use Rattle.output.specs.Placing.{over, copied}
use Rattle.output.proofs.Overlay.{length_over, over-nil, over-over, copied-over}
use Rattle.reader.specs.declared.Standing.{Standing}
use Rattle.reader.specs.Here.{here_by, here_at}
use Rattle.reader.proofs.Lying.{framed-lies}
use Rattle.records.specs.Words.{record_bytes, records_bytes}
use Rattle.records.proofs.Words.{length-record, length-records}

-- ---- records

records-snoc : (e : ℕ) (xs : List Entry) (x : Entry) → records_bytes e (xs ++ (x ∷ [])) ≡ records_bytes e xs ++ record_bytes e x
unfolding records_bytes
records-snoc e xs x = joined-append (records_bytes e) (record_bytes e) refl (λ y ys. refl) xs (x ∷ []) ∙ ap (λ (l : List ℕ). records_bytes e xs ++ l) (append-nil (record_bytes e x))

records-none : (e : ℕ) → records_bytes e [] ≡ []
unfolding records_bytes
records-none e = refl

-- ---- what stands at a place

-- the frame of the entry that stands there
record StandingFrame (S : Shape) (e : ℕ) (image : List ℕ) (shut : Bool) (p end : ℕ) (s : Standing) : Type 0 where
  pub frame : Frame
  pub reads : next S shut (part p (end - p) image) ≡ Ok (Some frame)
  pub entry : s.entry ≡ entry_of S e p (raw_of frame (part p (end - p) image))
  pub next_place : s.next ≡ p + frame.size
  pub next_shut : s.shut ≡ S.last frame.code

here-framed : (S : Shape) (e : ℕ) (image : List ℕ) (shut : Bool) (p end : ℕ) (s : Standing) → here_at S e image shut p end ≡ Some s → StandingFrame S e image shut p end s
unfolding here_at
here-framed S e image shut p end s q = go (next S shut (part p (end - p) image)) refl q
  where
    go : (x : Next) → next S shut (part p (end - p) image) ≡ x → here_by x S e p (part p (end - p) image) ≡ Some s → StandingFrame S e image shut p end s
    go (Ok (Some f)) n q = record { frame = f; reads = n; entry = cc; next_place = cc; next_shut = cc }
    go (Ok None) n q = let z : ◌≡◌ {A = ℕ} 0 1 = cc in absurd (omega arith)
    go (Err k) n q = let z : ◌≡◌ {A = ℕ} 0 1 = cc in absurd (omega arith)

-- ---- the pass

module _ (g : Format) (e : ℕ) (image : List ℕ) (start end : ℕ) where
  abbrev all : List Raw
  all = raws_in (walked g image start end)

  abbrev entries : List Entry
  entries = entries_of (shape g) e start all

  -- the records of the entries before p are written over d
  pub record Filling (d out : List ℕ) (p at : ℕ) (shut : Bool) : Type 0 where
    pub pass : Passing (shape g) (grammar g) image end p shut
    pub made : List Entry
    pub joined : entries ≡ made ++ entries_of (shape g) e p pass.todo
    pub place : at ≡ length made * 64
    pub is : out ≡ over d 0 (records_bytes e made)

  pub filling-starts : (d : List ℕ) → IsDone (walked g image start end) → Filling d d start 0 false
  filling-starts d w =
      let f = pass-first g image start end w in
      record {
        pass = f.pass;
        made = [];
        joined = ap (entries_of (shape g) e start) (sym f.todo);
        place = refl;
        is = sym (ap (over d 0) (records-none e) ∙ over-nil d 0);
      }

  module _ {d out : List ℕ} {p at : ℕ} {shut : Bool} (fits : length all * 64 ≤ length d) (w : Filling d out p at shut) where
    few : length w.made + length (entries_of (shape g) e p w.pass.todo) ≡ length all
    few = sym (length-append w.made (entries_of (shape g) e p w.pass.todo)) ∙ sym (ap length w.joined) ∙ entries-count (shape g) e start all

    pub filling-length : length out ≡ length d
    filling-length = ap length w.is ∙ length_over d 0 (records_bytes e w.made) (omega (arith, few, length-records e w.made))

    -- what is known where an entry stands
    pub record Goes (s : Standing) (out' : List ℕ) : Type 0 where
      pub on : Filling d out' s.next (at + 64) s.shut
      pub further : p < s.next
      pub bound : s.next ≤ end
      pub low : at + 64 ≤ length d

    pub filling-goes : (s : Standing) (out' : List ℕ) → here_at (shape g) e image shut p end ≡ Some s → out' ≡ copied out at (record_bytes e s.entry) → Goes s out'
    filling-goes s out' q is =
        let h = here-framed (shape g) e image shut p end s q in
        let f = h.frame in
        let x = pass_on (laws g) image end p shut f w.pass h.reads in
        let l = framed-lies g shut image p end f h.reads in
        let r = record_bytes e s.entry in
        let rest = entries_of (shape g) e (p + f.size) x.todo in
        let heads : entries_of (shape g) e p w.pass.todo ≡ s.entry ∷ rest =
        ap (entries_of (shape g) e p) x.heads
        ∙ entries-more (shape g) e p x.raw x.todo f x.frame
        ∙ ap (λ (y : Raw). entry_of (shape g) e p y ∷ rest) x.is_raw_of
        ∙ ap (λ (y : Entry). y ∷ rest) (sym h.entry) in
        let low : at + 64 ≤ length d = omega (arith, few, w.place, ap length heads, fits) in
        let made = w.made ++ (s.entry ∷ []) in
        let joined : entries ≡ made ++ entries_of (shape g) e (p + f.size) x.on.todo =
        w.joined
        ∙ ap (λ (l : List Entry). w.made ++ l) heads
        ∙ sym (append_assoc w.made (s.entry ∷ []) rest)
        ∙ ap (λ (rs : List Raw). made ++ entries_of (shape g) e (p + f.size) rs) (sym x.todo_on) in
        let fill : Filling d out' (p + f.size) (at + 64) ((shape g).last f.code) =
        record {
          pass = x.on;
          made = made;
          joined = joined;
          place = omega (arith, w.place, length-append w.made (s.entry ∷ []));
          is =
              is
              ∙ copied-over out at r (omega (arith, filling-length, length-record e s.entry, low))
              ∙ ap (λ (y : List ℕ). over y at r) w.is
              ∙ over-over d 0 (records_bytes e w.made) r at (omega arith) (omega (arith, w.place, length-records e w.made))
              ∙ ap (over d 0) (sym (records-snoc e w.made s.entry));
        } in
        let moved : (n : ℕ) (b : Bool) → n ≡ p + f.size → b ≡ (shape g).last f.code → Filling d out' n (at + 64) b = λ n b i j. rw (i, j) fill in
        record {
          on = moved s.next s.shut h.next_place h.next_shut;
          further = omega (arith, h.next_place, l.some);
          bound = omega (arith, h.next_place, l.bound);
          low = low;
        }

    pub filling-over : here_at (shape g) e image shut p end ≡ None → out ≡ copied d 0 (records_bytes e entries)
    unfolding here_at
    filling-over q =
        let none : w.pass.todo ≡ [] = go (next (shape g) shut (part p (end - p) image)) refl q in
        let same : entries ≡ w.made = w.joined ∙ ap (λ (rs : List Raw). w.made ++ entries_of (shape g) e p rs) none ∙ ap (λ (l : List Entry). w.made ++ l) (entries_none (shape g) e p) ∙ append-nil w.made in
        w.is
        ∙ ap (λ (xs : List Entry). over d 0 (records_bytes e xs)) (sym same)
        ∙ sym (copied-over d 0 (records_bytes e entries) (omega (arith, length-records e entries, entries-count (shape g) e start all, fits)))
      where
        go : (x : Next) → next (shape g) shut (part p (end - p) image) ≡ x → here_by x (shape g) e p (part p (end - p) image) ≡ None → w.pass.todo ≡ []
        go (Ok (Some f)) n q = let z : ◌≡◌ {A = ℕ} 0 1 = cc in absurd (omega arith)
        go (Ok None) n q = pass-ends (laws g) image end p shut w.pass n
        go (Err k) n q = absurd (pass-unbroken (laws g) image end p shut k w.pass n)
