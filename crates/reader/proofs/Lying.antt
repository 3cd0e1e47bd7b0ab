-- A frame that is read lies in the image, and the bytes of its value are those at its record's place.
-- Assumes nothing.
use Prim.Native.Nat.{ℕ, ◌+◌, ◌-◌, ◌≤◌, ◌<◌}
use mathlib.Core.Path.{◌≡◌, sym}
use mathlib.Core.List.{List}
use mathlib.Core.Bool.{Bool}
use native.Mathlib.Omega.{arith}
use lib.ListN.{length, take, drop}
use lib.Seq.{take-take}
use Rattle.std.specs.Prelude.{Ok, Some}
use Rattle.layout.specs.declared.Format.{Format}
use Rattle.layout.specs.declared.Frame.{Frame}
use Rattle.layout.specs.Bytes.{part}
use Rattle.layout.specs.Shape.{next}
use Rattle.layout.specs.Editions.{shape}
use Rattle.layout.specs.Walk.{Raw, content}
use Rattle.laws.proofs.Frames.{raw_of, framed-raw}
use Rattle.laws.proofs.Records.{raw-placed}
use Rattle.laws.proofs.Formats.{laws}
use Rattle.laws.proofs.Passes.{part-on}
use Rattle.frames.proofs.Spots.{framed-inside}

-- the frame f at p ends inside the image, and its value ends it
pub record Lies (image : List ℕ) (p : ℕ) (f : Frame) : Type 0 where
  pub inside : p + f.size ≤ length image
  pub key_in : f.key + f.klen ≤ f.val
  pub value_last : f.val + f.vlen ≡ f.size

-- the entry of the frame f at p
abbrev pub raw_at : List ℕ → ℕ → Frame → Raw
raw_at image p f = record { bytes = part p f.size image; frame = f }

-- the value's bytes stand where its record says
pub value-at : (image : List ℕ) (p : ℕ) (f : Frame) → Lies image p f → part (p + f.val) f.vlen image ≡ (content (raw_at image p f)).value
unfolding part content
value-at image p f l =
    let a : p + f.size - p ≡ f.size = omega arith in
    let b : p + f.size - (p + f.val) ≡ f.vlen = omega (arith, l.value_last) in
    let d : drop f.val (take f.size (drop p image)) ≡ take f.vlen (drop (p + f.val) image) = rw (a, b) at (part-on image p f.val (p + f.size)) in
    rw d (sym (take-take f.vlen f.vlen (drop (p + f.val) image) (omega arith)))

-- what is known of a frame that was read at p, in a room that ends before `end`
pub record Framing (image : List ℕ) (p end : ℕ) (f : Frame) : Type 0 where
  pub lies : Lies image p f
  pub some : 0 < f.size
  pub bound : p + f.size ≤ end
  pub is : take f.size (part p (end - p) image) ≡ part p f.size image

pub framed-lies : (g : Format) (shut : Bool) (image : List ℕ) (p end : ℕ) (f : Frame) → next (shape g) shut (part p (end - p) image) ≡ Ok (Some f) → Framing image p end f
unfolding part
framed-lies g shut image p end f q =
    let s = take (end - p) (drop p image) in
    let i = framed-inside g shut image p end f q in
    let w = raw-placed (laws g) (raw_of f s) (framed-raw (laws g) shut s f q) in
    record {
      lies = record { inside = i.1; key_in = w.key_in; value_last = w.value_last };
      some = i.0;
      bound = i.2;
      is = take-take f.size (end - p) (drop p image) (omega (arith, i.2));
    }
