-- The search for entry n: how it goes on, and what it finds among entries that a walk came to the end of.
-- Assumes nothing.
use Prim.Native.Nat.{ℕ, zero, suc, ◌+◌, ◌-◌, ◌≤◌, ◌<◌}
use mathlib.Core.Path.{◌≡◌, refl, ap, sym, ◌∙◌}
use mathlib.Core.List.{List, [], ◌∷◌, ◌++◌, append_assoc}
use mathlib.Core.Bool.{Bool, false}
use native.Mathlib.Omega.{arith}
use native.Mathlib.Nat.{add-zero}
use lib.ListN.{length, take, drop, length-append, length-take, length-drop}
use lib.Seq.{take_at, drop_at}
use Rattle.std.specs.Prelude.{Ok, Err, Some, None}
use Rattle.std.specs.declared.option.Option.{Option}
use Rattle.layout.specs.declared.Format.{Format}
use Rattle.layout.specs.declared.Frame.{Frame}
use Rattle.layout.specs.Answers.{Next}
use Rattle.layout.specs.Bytes.{part}
use Rattle.layout.specs.Shape.{Shape, next}
use Rattle.layout.specs.Editions.{shape}
use Rattle.layout.specs.Walk.{Raw, flat, Walked, done, stop}
use Rattle.laws.specs.Grammar.{Grammar, grammar}
use Rattle.laws.specs.Passes.{walked, IsDone, raws_in}
use Rattle.laws.proofs.Format.{Laws}
use Rattle.laws.proofs.Formats.{laws}
use Rattle.laws.proofs.Frames.{raw_of, IsRaw, raw-size, raw-reads, framed-in, next-ends}
use Rattle.laws.proofs.Passes.{part-on}
use Rattle.laws.proofs.Walking.{Frames, EndsAt, walk-decode, decoded-ends}
use Rattle.frames.specs.Answers.{Spot}
use Rattle.frames.specs.Spots.{spot_at}

-- ---- one step

-- what stands at a place is what a call found there: a frame, or that there is none
pub found-there : {x y : Next} {r s : Option Frame} → x ≡ y → x ≡ Ok r → r ≡ s → y ≡ Ok s
found-there is ok inner = sym is ∙ ok ∙ ap Ok inner

-- a frame that is read at p ends inside the image and inside the room
pub framed-inside : (g : Format) (shut : Bool) (image : List ℕ) (p end : ℕ) (f : Frame) → next (shape g) shut (part p (end - p) image) ≡ Ok (Some f) →
    (0 < f.size) × (p + f.size ≤ length image) × (p + f.size ≤ end)
unfolding part
framed-inside g shut image p end f q =
    let i = framed-in (laws g) shut (take (end - p) (drop p image)) f q in
    let l = length-take (end - p) (drop p image) in
    let d = length-drop p image in
    (i.0, omega arith, omega arith)

module _ (S : Shape) (image : List ℕ) (shut : Bool) (p end n : ℕ) where
  -- it stands at the entry that is sought
  pub spot-found : (f : Frame) → next S shut (part p (end - p) image) ≡ Ok (Some f) → n ≡ 0 → spot_at S image shut p end n ≡ Some (f, p)
  unfolding spot_at
  spot-found f q z = rw (z, q)

  -- it passes an entry
  pub spot_on : (f : Frame) (left : ℕ) → next S shut (part p (end - p) image) ≡ Ok (Some f) → n ≡ suc left →
      spot_at S image shut p end n ≡ spot_at S image (S.last f.code) (p + f.size) end left
  unfolding spot_at
  spot_on f left q z = rw (z, q)

-- no entry is left
pub spot-ended : (S : Shape) (image : List ℕ) (shut : Bool) (p end n : ℕ) → next S shut (part p (end - p) image) ≡ Ok None → spot_at S image shut p end n ≡ None
unfolding spot_at
spot-ended S image shut p end zero q = rw q
spot-ended S image shut p end (suc n) q = rw q

pub spot-broken : (S : Shape) (image : List ℕ) (shut : Bool) (p end n k : ℕ) → next S shut (part p (end - p) image) ≡ Err k → spot_at S image shut p end n ≡ None
unfolding spot_at
spot-broken S image shut p end zero k q = rw q
spot-broken S image shut p end (suc n) k q = rw q

-- ---- among entries

-- every frame is as long as its bytes
abbrev pub Sized : List Raw → Type 0
Sized [] = Unit {0}
Sized (r ∷ rs) = (length r.bytes ≡ r.frame.size) × Sized rs

-- f is the frame of entry n of these entries, and stands at q, where the first stands at p
pub record Spotted (S : Shape) (G : Grammar) (image : List ℕ) (end : ℕ) (entries : List Raw) (p n : ℕ) (f : Frame) (q : ℕ) : Type 0 where
  pub past : List Raw
  pub raw : Raw
  pub after : List Raw
  pub joined : entries ≡ past ++ (raw ∷ after)
  pub counted : n ≡ length past
  pub place : q ≡ p + length (flat past)
  pub sized : Sized past
  pub is_raw : IsRaw G raw
  -- how it was read
  pub shut : Bool
  pub read : next S shut (part q (end - q) image) ≡ Ok (Some f)
  pub is : raw ≡ raw_of f (part q (end - q) image)

-- what is said of an entry that is found, and what where there is none
abbrev pub OnSpot : (Frame → ℕ → Type 0) → Type 0 → Spot → Type 0
OnSpot P Q (Some (f, q)) = P f q
OnSpot P Q None = Q

on-spot : {P P' : Frame → ℕ → Type 0} {Q Q' : Type 0} (x : Spot) → ((f : Frame) (q : ℕ) → P f q → P' f q) → (Q → Q') → OnSpot P Q x → OnSpot P' Q' x
on-spot (Some (f, q)) i j h = i f q h
on-spot None i j h = j h

-- where entries and their end fill the room, the search gives entry n of them, or nothing where there are no more than n
module _ {S : Shape} {G : Grammar} (L : Laws S G) (image : List ℕ) (end : ℕ) (rest : List ℕ) (ends : EndsAt S rest) where
  reads : (shut : Bool) (r : Raw) (rs : List Raw) (p : ℕ) → shut ≡ false → IsRaw G r → part p (end - p) image ≡ r.bytes ++ (flat rs ++ rest) → next S shut (part p (end - p) image) ≡ Ok (Some r.frame)
  reads shut r rs p o i room = rw (room, o) (raw-reads L r (flat rs ++ rest) i)

  spot-here : (shut : Bool) (r : Raw) (rs : List Raw) (p : ℕ) → shut ≡ false → IsRaw G r → part p (end - p) image ≡ r.bytes ++ (flat rs ++ rest) → Spotted S G image end (r ∷ rs) p 0 r.frame p
  spot-here shut r rs p o i room =
      record {
        past = [];
        raw = r;
        after = rs;
        joined = refl;
        counted = refl;
        place = sym (add-zero p);
        sized = tt;
        is_raw = i;
        shut = shut;
        read = reads shut r rs p o i room;
        is = ap (λ (bs : List ℕ). record { bytes = bs; frame = r.frame }) (sym (ap (take r.frame.size) room ∙ take_at r.bytes (flat rs ++ rest) r.frame.size (raw-size i)));
      }

  spot_past : (r : Raw) (rs : List Raw) (p n : ℕ) → IsRaw G r → (f : Frame) (q : ℕ) → Spotted S G image end rs (p + r.frame.size) n f q → Spotted S G image end (r ∷ rs) p (suc n) f q
  spot_past r rs p n i f q w =
      record {
        past = r ∷ w.past;
        raw = w.raw;
        after = w.after;
        joined = ap (λ (l : List Raw). r ∷ l) w.joined;
        counted = ap suc w.counted;
        place = omega (arith, w.place, raw-size i, length-append r.bytes (flat w.past));
        sized = (raw-size i, w.sized);
        is_raw = w.is_raw;
        shut = w.shut;
        read = w.read;
        is = w.is;
      }

  spot-flat : (shut : Bool) (entries : List Raw) (p n : ℕ) → Frames S G shut entries → part p (end - p) image ≡ flat entries ++ rest →
      OnSpot (Spotted S G image end entries p n) (length entries ≤ n) (spot_at S image shut p end n)
  spot-flat shut [] p n fs room = rw (spot-ended S image shut p end n (rw room (next-ends S shut rest (ends shut)))) (omega arith)
  spot-flat shut (r ∷ rs) p zero fs room =
      let split : part p (end - p) image ≡ r.bytes ++ (flat rs ++ rest) = room ∙ append_assoc r.bytes (flat rs) rest in
      rw (spot-found S image shut p end zero r.frame (reads shut r rs p fs.0 fs.1 split) refl) (spot-here shut r rs p fs.0 fs.1 split)
  spot-flat shut (r ∷ rs) p (suc n) fs room =
      let q = p + r.frame.size in
      let split : part p (end - p) image ≡ r.bytes ++ (flat rs ++ rest) = room ∙ append_assoc r.bytes (flat rs) rest in
      let on : part q (end - q) image ≡ flat rs ++ rest
      = sym (part-on image p r.frame.size end) ∙ ap (drop r.frame.size) split ∙ drop_at r.bytes (flat rs ++ rest) r.frame.size (raw-size fs.1) in
      rw (spot_on S image shut p end (suc n) r.frame n (reads shut r rs p fs.0 fs.1 split) refl)
      (on-spot (spot_at S image (S.last r.frame.code) q end n) (spot_past r rs p n fs.1) (λ le. omega arith) (spot-flat (S.last r.frame.code) rs q n fs.2 on))

-- the search in a room whose walk came to its end
pub spot-walked : (g : Format) (image : List ℕ) (start end n : ℕ) → IsDone (walked g image start end) →
    OnSpot (Spotted (shape g) (grammar g) image end (raws_in (walked g image start end)) start n) (length (raws_in (walked g image start end)) ≤ n) (spot_at (shape g) image false start end n)
spot-walked g image start end n d = go (walked g image start end) refl d
  where
    go : (w : Walked) → walked g image start end ≡ w → IsDone w → OnSpot (Spotted (shape g) (grammar g) image end (raws_in w) start n) (length (raws_in w) ≤ n) (spot_at (shape g) image false start end n)
    go (done rs q) e d =
        let x = walk-decode (laws g) start (part start (end - start) image) rs q e in
        spot-flat (laws g) image end x.rest (decoded-ends (laws g) x) false rs start n x.frames x.joined
    go (stop k q) e d = absurd d
