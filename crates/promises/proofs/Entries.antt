-- The entries of an accepted image lie in it, and so do the parts that calls give.
-- Assumes nothing.
use Prim.Native.Nat.{ℕ, zero, suc, ◌+◌, ◌≤◌}
use mathlib.Core.Path.{◌≡◌, refl}
use mathlib.Core.List.{List, [], ◌∷◌}
use mathlib.Core.Bool.{Bool, false}
use native.Mathlib.Omega.{arith}
use lib.ListN.{length, length-append}
use lib.Dec.{ltb, eqb}
use Rattle.std.specs.Prelude.{Ok, Err}
use Rattle.layout.specs.declared.Format.{Format}
use Rattle.layout.specs.declared.Entry.{Entry}
use Rattle.layout.specs.Answers.{Checked, Lookup, Located}
use Rattle.layout.specs.Bytes.{one_of}
use Rattle.layout.specs.Editions.{shape}
use Rattle.layout.specs.Walk.{Raw, content, flat}
use Rattle.layout.specs.Read.{limit, accepted, read_image}
use Rattle.layout.specs.Calls.{entries_of, nth, string_in, pool_string}
use Rattle.laws.specs.Contents.{Tiles}
use Rattle.layout.specs.Each.{Each, none, also}
use Rattle.laws.specs.Grammar.{grammar}
use Rattle.layout.proofs.Choices.{either}
use Rattle.laws.proofs.Formats.{laws}
use Rattle.laws.proofs.Frames.{raw-size}
use Rattle.laws.proofs.Passes.{part-most}
use Rattle.laws.proofs.Walking.{Frames}
use Rattle.laws.proofs.Images.{entries-in, Accepts}
use Rattle.laws.proofs.Calls.{accepted-reading}
use Rattle.laws.proofs.Records.{raw-placed, records-tile}
use Rattle.promises.specs.Numbers.{image_numbers}
use Rattle.promises.proofs.FormatNumbers.{Low}
use Rattle.promises.proofs.Refusals.{farthest}

-- ---- records

-- the places of a record are not beyond q
pub record Inside (q : ℕ) (x : Entry) : Type 0 where
  pub whole : x.place.0 + x.size ≤ q
  pub key : x.key.place.0 + x.key.len ≤ q
  pub value : x.value.place.0 + x.value.len ≤ q

-- each record has at least one byte of its own
tiles-long : (p : ℕ) (xs : List Entry) (q : ℕ) → Tiles p xs q → p + length xs ≤ q
tiles-long p [] q t = omega arith
tiles-long p (x ∷ xs) q t = let rest = tiles-long (p + x.size) xs q t.4 in omega arith

tiles-inside : (p : ℕ) (xs : List Entry) (q most : ℕ) → q ≤ most → Tiles p xs q → Each (Inside most) xs
tiles-inside p [] q most le t = none
tiles-inside p (x ∷ xs) q most le t =
    let rest = tiles-long (p + x.size) xs q t.4 in
    also {x = x} (record { whole = omega arith; key = omega arith; value = omega arith }) (tiles-inside (p + x.size) xs q most le t.4)

-- ---- an accepted image

-- the entries end in the image
pub ends-in : {g : Format} {e : ℕ} {img : List ℕ} {start : ℕ} {rs : List Raw} → Accepts g e img start rs → start + length (flat rs) ≤ length img
ends-in {g} {e} {img} {start} {rs} m = entries-in (shape g) img (flat rs) m.closing m.rest start m.is m.starts

-- what is known of the entries of an accepted image and of their records
pub record Held (g : Format) (e start : ℕ) (rs : List Raw) : Type 0 where
  pub frames : Frames (shape g) (grammar g) false rs
  pub short : start + length (flat rs) ≤ limit
  pub few : length (entries_of (shape g) e start rs) ≤ limit
  pub inside : Each (Inside limit) (entries_of (shape g) e start rs)

pub held : (f e : ℕ) (img : List ℕ) (g : Format) (start : ℕ) (rs : List Raw) → read_image f e img ≡ accepted g start rs → Held g e start rs
held f e img g start rs q =
    let m = accepted-reading f e img g start rs q in
    let xs = entries_of (shape g) e start rs in
    let end = start + length (flat rs) in
    let short : end ≤ limit = omega (arith, ends-in m.made, m.short) in
    let tiled : Tiles start xs end = records-tile (laws g) e false rs start m.made.frames in
    record { frames = m.made.frames; short = short; few = omega (arith, tiles-long start xs end tiled); inside = tiles-inside start xs end limit short tiled }

-- ---- what calls give

-- an image has at most as many entries as bytes
abbrev pub CheckedIn : Checked → Type 0
CheckedIn (Ok n) = n ≤ limit
CheckedIn (Err r) = Low image_numbers farthest r.number r.place.0

abbrev pub LookupIn : Lookup → Type 0
LookupIn (Ok x) = Inside limit x
LookupIn (Err r) = Low (13 ∷ image_numbers) farthest r.number r.place.0

pub nth_in : (xs : List Entry) (n : ℕ) → Each (Inside limit) xs → LookupIn (nth xs n)
unfolding nth one_of
nth_in [] n none = record { number = refl; place = omega arith }
nth_in (x ∷ xs) zero (also i is) = i
nth_in (x ∷ xs) (suc n) (also i is) = nth_in xs n is

-- a part of the image; this number may be given beside the image's own
abbrev pub LocatedIn : ℕ → Located → Type 0
LocatedIn number (Ok x) = x.place.0 + x.len ≤ limit
LocatedIn number (Err r) = Low (number ∷ image_numbers) farthest r.number r.place.0

-- ---- strings

bytes-in : (bs : List ℕ) (p n number : ℕ) → p + n + length bs ≤ limit → LocatedIn 15 (string_in bs p n number)
unfolding string_in one_of
bytes-in [] p n number le = record { number = refl; place = omega arith }
bytes-in (b ∷ bs) p n zero le = either (LocatedIn 15) (ltb b 128) (λ _. bytes-in bs p (n + 1) zero (omega arith)) (λ _. omega arith)
bytes-in (b ∷ bs) p n (suc number) le =
    either (LocatedIn 15) (ltb b 128) (λ _. bytes-in bs p (n + 1) (suc number) (omega arith)) (λ _. bytes-in bs (p + n + 1) 0 number (omega arith))

pub pool-in : (f : Format) (b : Bool) (rs : List Raw) (p number : ℕ) → Frames (shape f) (grammar f) b rs → p + length (flat rs) ≤ limit → LocatedIn 15 (pool_string p rs number)
unfolding pool_string content one_of
pool-in f b [] p number fs le = record { number = refl; place = omega arith }
pool-in f b (r ∷ rs) p number fs le =
    let long = length-append r.bytes (flat rs) in
    let size = raw-size fs.1 in
    let w = raw-placed (laws f) r fs.1 in
    either (LocatedIn 15) (eqb r.frame.code 0x01)
    (λ _. bytes-in (content r).value (p + r.frame.val) 0 number (omega (arith, part-most r.bytes r.frame.val r.frame.vlen)))
    (λ _. pool-in f ((shape f).last r.frame.code) rs (p + r.frame.size) number fs.2 (omega arith))
