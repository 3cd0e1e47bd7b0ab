-- A pass over the entries of a walk that came to its end: where it stands, and how it goes on. The search for a string and the lists go by this.
-- Assumes nothing.
use Prim.Native.Nat.{ℕ, zero, suc, ◌+◌, ◌-◌, ◌≤◌, ◌<◌}
use mathlib.Core.Path.{◌≡◌, refl, ap, ap₂, sym, ◌∙◌}
use mathlib.Core.List.{List, [], ◌∷◌, ◌++◌, append_assoc}
use mathlib.Core.Bool.{Bool, false}
use native.Mathlib.Omega.{arith}
use lib.ListN.{length, get_or, take, drop, length-take}
use lib.Seq.{take-take, take_at, drop_at, drop-drop, take-nil, get_or-take, get_or-drop}
use Rattle.std.specs.Prelude.{Ok, Err, Some, None}
use Rattle.layout.specs.declared.Frame.{Frame}
use Rattle.layout.specs.Bytes.{part}
use Rattle.layout.specs.Shape.{Shape, on_head, next}
use Rattle.layout.specs.declared.Format.{Format}
use Rattle.layout.specs.Editions.{shape}
use Rattle.layout.specs.Walk.{Raw, flat, Walked, done, stop}
use Rattle.laws.specs.Grammar.{Grammar, grammar}
use Rattle.laws.specs.Passes.{walked, IsDone, raws_in}
use Rattle.laws.proofs.Format.{Laws}
use Rattle.laws.proofs.Frames.{raw_of, IsRaw, raw-size, raw-reads}
use Rattle.laws.proofs.Walking.{Frames, EndsAt, walk-decode, decoded-ends}
use Rattle.laws.proofs.Formats.{laws}

drop-take : (n m : ℕ) (l : List ℕ) → drop n (take m l) ≡ take (m - n) (drop n l)
drop-take zero m l = ap (λ (k : ℕ). take k l) (let q : m ≡ m - 0 = omega arith in q)
drop-take (suc n) zero [] = sym (take-nil (0 - suc n))
drop-take (suc n) (suc m) [] = sym (take-nil (suc m - suc n))
drop-take (suc n) zero (x ∷ l) = ap (λ (k : ℕ). take k (drop n l)) (let q : 0 ≡ 0 - suc n = omega arith in q)
drop-take (suc n) (suc m) (x ∷ l) = drop-take n m l ∙ ap (λ (k : ℕ). take k (drop n l)) (let q : m - n ≡ suc m - suc n = omega arith in q)

-- the room that is left when n of its bytes are passed
pub part-on : (image : List ℕ) (p n end : ℕ) → drop n (part p (end - p) image) ≡ part (p + n) (end - (p + n)) image
unfolding part
part-on image p n end =
    drop-take n (end - p) (drop p image)
    ∙ rw (drop-drop n p image) (ap (λ (k : ℕ). take k (drop (p + n) image)) (let q : end - p - n ≡ end - (p + n) = omega arith in q))

-- a part is no longer than was asked
pub part-most : (image : List ℕ) (p n : ℕ) → length (part p n image) ≤ n
unfolding part
part-most image p n = omega (arith, length-take n (drop p image))

-- a pass over entries stands at p, and `todo` are the entries from there on
pub record Passing (S : Shape) (G : Grammar) (image : List ℕ) (end p : ℕ) (shut : Bool) : Type 0 where
  pub todo : List Raw
  pub rest : List ℕ
  pub room : part p (end - p) image ≡ flat todo ++ rest
  pub ends : EndsAt S rest
  pub frames : Frames S G shut todo

-- an entry's first byte is its code
pub raw-code : {S : Shape} {G : Grammar} (L : Laws S G) (r : Raw) (t : List ℕ) → IsRaw G r → get_or (r.bytes ++ t) 0 0 ≡ r.frame.code
raw-code L r t i =
    let o = L.opening_first i.front i.key i.code i.opens in
    let code : r.frame.code ≡ i.code = ap (λ (f : Frame). f.code) i.framed in
    rw (i.is, code) (ap (λ (x : List ℕ). get_or ((x ++ (i.lens ++ i.value)) ++ t) 0 0) o.1)

-- a byte of a part is a byte of the image
pub part-byte : (image : List ℕ) (p n i : ℕ) → i < n → get_or (part p n image) i 0 ≡ get_or image (p + i) 0
unfolding part
part-byte image p n i lt = get_or-take n (drop p image) i 0 lt ∙ get_or-drop p image i 0

-- a part of an entry that stands at p is a part of the image
pub part-within : (image : List ℕ) (p m a n size : ℕ) → a + n ≤ size → size ≤ length (part p m image) → part a n (take size (part p m image)) ≡ part (p + a) n image
unfolding part
part-within image p m a n size le fits =
    let long : size ≤ m = omega (arith, length-take m (drop p image)) in
    ap (take n) (drop-take a size (take m (drop p image)) ∙ ap (take (size - a)) (drop-take a m (drop p image)))
    ∙ take-take n (size - a) (take (m - a) (drop a (drop p image))) (omega arith)
    ∙ take-take n (m - a) (drop a (drop p image)) (omega arith)
    ∙ ap (take n) (drop-drop a p image)

module _ {S : Shape} {G : Grammar} (L : Laws S G) (image : List ℕ) (end : ℕ) where
  -- how a pass goes on after a frame: the next entry to do is that frame's
  pub record Onward (p : ℕ) (shut : Bool) (f : Frame) (was : Passing S G image end p shut) : Type 0 where
    pub raw : Raw
    pub todo : List Raw
    pub heads : was.todo ≡ raw ∷ todo
    pub frame : raw.frame ≡ f
    pub is_raw_of : raw ≡ raw_of f (part p (end - p) image)
    pub on : Passing S G image end (p + f.size) (S.last f.code)
    pub todo_on : on.todo ≡ todo

  ended-todo : (p : ℕ) (shut : Bool) (w : Passing S G image end p shut) (f : Frame) → w.todo ≡ [] → next S shut (part p (end - p) image) ≡ Ok (Some f) → ⊥
  unfolding next
  ended-todo p shut w f e n =
      let z : part p (end - p) image ≡ w.rest = w.room ∙ ap (λ (l : List Raw). flat l ++ w.rest) e in
      let q : on_head (S.head shut w.rest) S w.rest ≡ Ok (Some f) = rw z at n in
      let q' : (Ok None) ≡ Ok (Some f) = rw (w.ends shut) at q in
      let c : ◌≡◌ {A = ℕ} 0 1 = cc in
      omega arith

  onward : (p : ℕ) (shut : Bool) (f : Frame) (w : Passing S G image end p shut) (todo : List Raw) → w.todo ≡ todo → Frames S G shut todo →
      next S shut (part p (end - p) image) ≡ Ok (Some f) → Onward p shut f w
  onward p shut f w [] e fs n = absurd (ended-todo p shut w f e n)
  onward p shut f w (r ∷ rs) e fs n =
      let room : part p (end - p) image ≡ r.bytes ++ (flat rs ++ w.rest) = w.room ∙ ap (λ (l : List Raw). flat l ++ w.rest) e ∙ append_assoc r.bytes (flat rs) w.rest in
      let read : next S shut (part p (end - p) image) ≡ Ok (Some r.frame) = rw (room, fs.0) (raw-reads L r (flat rs ++ w.rest) fs.1) in
      let same : r.frame ≡ f = cc in
      let size : length r.bytes ≡ f.size = raw-size fs.1 ∙ ap (λ (g : Frame). g.size) same in
      let bytes : r.bytes ≡ take f.size (part p (end - p) image) = sym (ap (take f.size) room ∙ take_at r.bytes (flat rs ++ w.rest) f.size size) in
      record {
        raw = r;
        todo = rs;
        heads = e;
        frame = same;
        is_raw_of = ap₂ (λ (x : List ℕ) (y : Frame). record { bytes = x; frame = y }) bytes same;
        on =
            record {
              todo = rs;
              rest = w.rest;
              room = sym (part-on image p f.size end) ∙ ap (drop f.size) room ∙ drop_at r.bytes (flat rs ++ w.rest) f.size size;
              ends = w.ends;
              frames = rw (← same) fs.2;
            };
        todo_on = refl;
      }

  -- a frame that is read is the next entry's
  pub pass_on : (p : ℕ) (shut : Bool) (f : Frame) (w : Passing S G image end p shut) → next S shut (part p (end - p) image) ≡ Ok (Some f) → Onward p shut f w
  pass_on p shut f w n = onward p shut f w w.todo refl w.frames n

  -- where no frame is read, nothing is left to do, and the entries end there
  last-todo : (p : ℕ) (shut : Bool) (w : Passing S G image end p shut) (todo : List Raw) → w.todo ≡ todo → Frames S G shut todo →
      ((f : Frame) → next S shut (part p (end - p) image) ≡ Ok (Some f) → ⊥) → todo ≡ []
  last-todo p shut w [] e fs n = refl
  last-todo p shut w (r ∷ rs) e fs n =
      let room : part p (end - p) image ≡ r.bytes ++ (flat rs ++ w.rest) = w.room ∙ ap (λ (l : List Raw). flat l ++ w.rest) e ∙ append_assoc r.bytes (flat rs) w.rest in
      absurd (n r.frame (rw (room, fs.0) (raw-reads L r (flat rs ++ w.rest) fs.1)))

  pub pass-ends : (p : ℕ) (shut : Bool) (w : Passing S G image end p shut) → next S shut (part p (end - p) image) ≡ Ok None → w.todo ≡ []
  pass-ends p shut w n = last-todo p shut w w.todo refl w.frames (λ f q. let z : ◌≡◌ {A = ℕ} 0 1 = cc in omega arith)

  -- nothing is broken on the way
  pub pass-unbroken : (p : ℕ) (shut : Bool) (k : ℕ) (w : Passing S G image end p shut) → next S shut (part p (end - p) image) ≡ Err k → ⊥
  unfolding next
  pass-unbroken p shut k w n =
      let e : w.todo ≡ [] = last-todo p shut w w.todo refl w.frames (λ f q. let z : ◌≡◌ {A = ℕ} 0 1 = cc in omega arith) in
      let z : part p (end - p) image ≡ w.rest = w.room ∙ ap (λ (l : List Raw). flat l ++ w.rest) e in
      let q : on_head (S.head shut w.rest) S w.rest ≡ Err k = rw z at n in
      let q' : (Ok None) ≡ Err k = rw (w.ends shut) at q in
      let c : ◌≡◌ {A = ℕ} 0 1 = cc in
      omega arith

-- a pass over all entries, before the first of them
pub record First (f : Format) (image : List ℕ) (start end : ℕ) (all : List Raw) : Type 0 where
  pub pass : Passing (shape f) (grammar f) image end start false
  pub todo : pass.todo ≡ all

-- a walk that came to its end, as a pass begins it
pub pass-first : (f : Format) (image : List ℕ) (start end : ℕ) → IsDone (walked f image start end) → First f image start end (raws_in (walked f image start end))
pass-first f image start end d = go (walked f image start end) refl d
  where
    go : (w : Walked) → walked f image start end ≡ w → IsDone w → First f image start end (raws_in w)
    go (done rs q) e d =
        let x = walk-decode (laws f) start (part start (end - start) image) rs q e in
        record { pass = record { todo = rs; rest = x.rest; room = x.joined; ends = decoded-ends (laws f) x; frames = x.frames }; todo = refl }
    go (stop k q) e d = absurd d
