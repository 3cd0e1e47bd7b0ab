-- Every refusal of an image has a number of its own, and a place in the image or at its end.
-- Assumes nothing.
use Prim.Native.Nat.{ℕ, zero, suc, ◌+◌, ◌-◌, ◌≤◌}
use mathlib.Core.Path.{◌≡◌, refl}
use mathlib.Core.List.{List, [], ◌∷◌, ◌++◌}
use mathlib.Core.Bool.{Bool, true, false}
use native.Mathlib.Omega.{arith}
use lib.ListN.{length, drop, length-append, length-drop}
use lib.Dec.{ltb, eqb}
use borrow.Author.Tests.{ltb-false, ne_eqb}
use Rattle.std.specs.Prelude.{Ok, Err, Some, None}
use Rattle.layout.specs.declared.Format.{Format}
use Rattle.layout.specs.declared.Frame.{Frame}
use Rattle.layout.specs.Answers.{Chosen, Next}
use Rattle.layout.specs.declared.Refusal.{Refusal}
use Rattle.layout.specs.Bytes.{if, all, one_of, part}
use Rattle.layout.specs.Shape.{Label, next, Judged, fine, faulty}
use Rattle.layout.specs.Editions.{shape, chosen, names}
use Rattle.layout.specs.Walk.{Raw, Content, content, label_of, flat, Walked, done, stop, more, turn, walks, walk}
use Rattle.layout.specs.Read.{limit, seen_before, reader_rule, fault, or_else, judge, complete, codes_of, Read, accepted, refused, read_complete, read_as, read_chosen, read_image}
use Rattle.laws.specs.Grammar.{grammar}
use Rattle.layout.proofs.Choices.{either}
use Rattle.laws.proofs.Formats.{laws}
use Rattle.laws.proofs.Frames.{raw-size, framed-in}
use Rattle.laws.proofs.Passes.{part-most}
use Rattle.laws.proofs.Walking.{Frames}
use Rattle.laws.proofs.Images.{IsFramed, entries-in, Unframed, bad_header, bad_frame, bad_room, bad_check, Way, unframed, framed, way}
use Rattle.laws.proofs.Rooms.{closing-short, room-inside, filled-five}
use Rattle.promises.specs.Numbers.{image_numbers}
use Rattle.promises.specs.FramesAlike.{frame_numbers}
use Rattle.promises.proofs.FormatNumbers.{Low, every, NextNumber, OpenedLow, ChosenNumber, next-number, opened-low, chosen-number}

-- the farthest place of an image: a stored check begins at most two bytes after the entries
abbrev pub farthest : ℕ
farthest = 65538

-- ---- the walk

abbrev WalkedLow : ℕ → Walked → Type 0
WalkedLow most (done rs p) = p ≤ most
WalkedLow most (stop n p) = Low frame_numbers most n p

more-low : (most : ℕ) (r : Raw) (w : Walked) → WalkedLow most w → WalkedLow most (more r w)
more-low most r (done rs p) l = l
more-low most r (stop n p) l = l

walks-low : (f : Format) (d : ℕ) (b : Bool) (p : ℕ) (s : List ℕ) (most : ℕ) → p + length s ≤ most → WalkedLow most (walks d (shape f) b p s)
unfolding walks one_of
walks-low f zero b p s most le = record { number = refl; place = omega arith }
walks-low f (suc d) b p s most le =
    go (next (shape f) b s) refl (next-number f b s) (λ g h. walks-low f d ((shape f).last g.code) (p + g.size) (drop g.size s) most h)
  where
    go : (x : Next) → next (shape f) b s ≡ x → NextNumber x →
        ((g : Frame) → p + g.size + length (drop g.size s) ≤ most → WalkedLow most (walks d (shape f) ((shape f).last g.code) (p + g.size) (drop g.size s))) →
        WalkedLow most (turn x p s (λ g. walks d (shape f) ((shape f).last g.code) (p + g.size) (drop g.size s)))
    go (Ok (Some g)) q l rest =
        let i = framed-in (laws f) b s g q in
        more-low most _ (walks d (shape f) ((shape f).last g.code) (p + g.size) (drop g.size s)) (rest g (omega (arith, length-drop g.size s)))
    go (Ok None) q l rest = omega arith
    go (Err n) q l rest = record { number = l; place = omega arith }

-- ---- the rules

abbrev pub JudgedLow : List ℕ → ℕ → Judged → Type 0
JudgedLow numbers most fine = Unit {0}
JudgedLow numbers most (faulty n p) = Low numbers most n p

-- nothing, or one of these numbers
abbrev pub Fault : List ℕ → ℕ → Type 0
Fault numbers n = one_of (0 ∷ numbers) n ≡ true

pub or-low : (numbers : List ℕ) (most n p : ℕ) (rest : Unit {0} → Judged) → Fault numbers n → p ≤ most → JudgedLow numbers most (rest tt) →
    JudgedLow numbers most (or_else n p rest)
unfolding one_of
or-low numbers most zero p rest l le r = r
or-low numbers most (suc n) p rest l le r = record { number = rw (ne_eqb (suc n) 0 (λ z. omega arith)) at l; place = le }

-- the numbers of an entry that breaks a rule; with 11, those of an image that the rules refuse
abbrev fault_numbers : List ℕ
fault_numbers = 7 ∷ 8 ∷ []

abbrev pub rule_refusals : List ℕ
rule_refusals = 7 ∷ 8 ∷ 11 ∷ []

fault-number : (f : Format) (e : ℕ) (seen : List Label) (c : Content) → Fault fault_numbers (fault (shape f) e seen c)
unfolding fault one_of
fault-number f e seen c =
    either (Fault fault_numbers) (names (shape f) e c.code)
    (λ _. either (Fault fault_numbers) (reader_rule (shape f) c)
    (λ _. either (Fault fault_numbers) (seen_before (shape f) seen (label_of c)) (λ _. refl) (λ _. refl))
    (λ _. refl))
    (λ _. refl)

judge-low : (f : Format) (e : ℕ) (seen : List Label) (b : Bool) (rs : List Raw) (p most : ℕ) → Frames (shape f) (grammar f) b rs → p + length (flat rs) ≤ most →
    JudgedLow fault_numbers most (judge (shape f) e seen rs p)
unfolding judge
judge-low f e seen b [] p most fs le = tt
judge-low f e seen b (r ∷ rs) p most fs le =
    or-low fault_numbers most (fault (shape f) e seen (content r)) p (λ _. judge (shape f) e (seen ++ (label_of (content r) ∷ [])) rs (p + r.frame.size))
    (fault-number f e seen (content r)) (omega arith)
    (judge-low f e (seen ++ (label_of (content r) ∷ [])) ((shape f).last r.frame.code) rs (p + r.frame.size) most fs.2 (omega (arith, length-append r.bytes (flat rs), raw-size fs.1)))

-- ---- the image

abbrev pub ReadLow : List ℕ → Read → Type 0
ReadLow numbers (accepted f start rs) = Unit {0}
ReadLow numbers (refused r) = Low numbers farthest r.number r.place.0

complete-low : (f : Format) (start : ℕ) (rs : List Raw) (j : Judged) → JudgedLow fault_numbers limit j → ReadLow rule_refusals (read_complete j f start rs)
unfolding all one_of
complete-low f start rs fine l = either (ReadLow rule_refusals) (complete (shape f).required (codes_of rs)) (λ _. tt) (λ _. record { number = refl; place = omega arith })
complete-low f start rs (faulty n p) l = record { number = every (one_of rule_refusals) fault_numbers n refl l.number; place = omega (arith, l.place) }

-- what the rules refuse is refused with a number of theirs
pub ruled-low : (f : Format) (e : ℕ) (img : List ℕ) (start : ℕ) (rs : List Raw) → length img ≤ limit → IsFramed f img start rs →
    ReadLow rule_refusals (read_complete (judge (shape f) e [] rs start) f start rs)
ruled-low f e img start rs short x =
    let inside = entries-in (shape f) img (flat rs) x.closing x.rest start x.is x.starts in
    complete-low f start rs (judge (shape f) e [] rs start) (judge-low f e [] false rs start limit x.frames (omega arith))

walk-low : (f : Format) (img : List ℕ) (start end : ℕ) → length img ≤ limit → (shape f).opened img ≡ Ok (start, end) →
    WalkedLow limit (walk (shape f) false start (part start (end - start) img))
unfolding walk
walk-low f img start end short q =
    let i = room-inside f img start end q in
    let s = part start (end - start) img in
    walks-low f (suc (length s)) false start s limit (omega (arith, part-most img start (end - start)))

-- what is refused before the rules is refused with a number of a bad frame
pub unframed-low : (f : Format) (img : List ℕ) (r : Refusal) → length img ≤ limit → Unframed f img r → Low frame_numbers farthest r.number r.place.0
unfolding one_of
unframed-low f img r short (bad_header o) = let l : OpenedLow (Err r) = rw o at (opened-low f img) in record { number = l.number; place = omega (arith, l.place) }
unframed-low f img _ short (bad_frame {start} {end} {n} {p} o w) =
    let l : WalkedLow limit (stop n p) = rw w at (walk-low f img start end short o) in record { number = l.number; place = omega (arith, l.place) }
unframed-low f img _ short (bad_room {end = end} {p = p} {n = n} {q = q} o w t) = let five = filled-five f p end n q t in record { number = rw five.0; place = omega (arith, five.1) }
unframed-low f img _ short (bad_check {start} {end} {p} {rs} o w t) =
    let l : WalkedLow limit (done rs p) = rw w at (walk-low f img start end short o) in record { number = refl; place = omega (arith, closing-short f) }

pub read_low : (f : Format) (e : ℕ) (img : List ℕ) → length img ≤ limit → ReadLow image_numbers (read_as f e img)
unfolding all one_of
read_low f e img short = go (way f (laws f) img)
  where
    wide : (x : Read) → ReadLow rule_refusals x → ReadLow image_numbers x
    wide (accepted g start rs) l = tt
    wide (refused r) l = record { number = every (one_of image_numbers) rule_refusals r.number refl l.number; place = l.place }

    go : Way f img → ReadLow image_numbers (read_as f e img)
    go (unframed r u k) =
        let l = unframed-low f img r short u in
        rw (k e) (record { number = every (one_of image_numbers) frame_numbers r.number refl l.number; place = l.place })
    go (framed start rs x k) = rw (k e) (wide (read_complete (judge (shape f) e [] rs start) f start rs) (ruled-low f e img start rs short x))

image-low : (f e : ℕ) (img : List ℕ) → ReadLow image_numbers (read_image f e img)
unfolding read_image one_of
image-low f e img = choose (chosen f e) (chosen-number image_numbers refl refl f e)
  where
    choose : (x : Chosen) → ChosenNumber image_numbers x → ReadLow image_numbers (read_chosen x e img)
    choose (Ok g) l =
        either (ReadLow image_numbers) (ltb limit (length img)) (λ _. record { number = refl; place = omega arith }) (λ t. read_low g e img (ltb-false limit (length img) t))
    choose (Err n) l = record { number = l; place = omega arith }

pub refused-low : (f e : ℕ) (img : List ℕ) (r : Refusal) → read_image f e img ≡ refused r → Low image_numbers farthest r.number r.place.0
refused-low f e img r q = rw q at (image-low f e img)

-- ---- more numbers

-- a number of a list is one of any longer list
pub wider : {x : ℕ} {numbers : List ℕ} {most n p : ℕ} → Low numbers most n p → Low (x ∷ numbers) most n p
unfolding one_of
wider {x} {numbers} {most} {n} {p} l = record { number = go (eqb n x) l.number; place = l.place }
  where
    go : (b : Bool) → one_of numbers n ≡ true → if b (λ _. true) (λ _. one_of numbers n) ≡ true
    go true h = refl
    go false h = h
