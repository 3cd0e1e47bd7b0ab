-- What a frame that a loop reads is, and how the pass over the frames goes on after it.
-- Assumes nothing.
use Prim.Native.Nat.{ℕ, suc, ◌+◌, ◌-◌, ◌≤◌, ◌<◌}
use mathlib.Core.Path.{◌≡◌, refl, ap, sym, ◌∙◌}
use mathlib.Core.List.{List}
use mathlib.Core.Bool.{Bool}
use native.Mathlib.Omega.{arith}
use lib.ListN.{length, get_or, drop, take-append-drop}
use Rattle.std.specs.Prelude.{Ok, Some}
use Rattle.layout.specs.declared.Format.{Format}
use Rattle.layout.specs.declared.Frame.{Frame}
use Rattle.layout.specs.Bytes.{part}
use Rattle.layout.specs.Shape.{next}
use Rattle.layout.specs.Editions.{shape}
use Rattle.layout.specs.Walk.{Raw, content, Walked, done, stop, more, walk}
use Rattle.laws.proofs.Frames.{raw_of, framed-raw, framed-in}
use Rattle.laws.proofs.Records.{raw-placed}
use Rattle.laws.proofs.Walking.{walk-frame}
use Rattle.laws.proofs.Passes.{raw-code, part-on, part-most, part-byte, part-within}
use Rattle.laws.proofs.Formats.{laws}
use Rattle.accept.specs.Answers.{Judgement, Ending}
use Rattle.accept.specs.Passes.{walk_ending}

ending-more : (n : ℕ) (j : Judgement) (r : Raw) (w : Walked) → walk_ending n j (more r w) ≡ walk_ending (n + 1) j w
ending-more n j r (done rs p) = ap {B = Ending} (λ (k : ℕ). Ok (record { count = k; over = p; judgement = j })) (let q : n + suc (length rs) ≡ n + 1 + length rs = omega arith in q)
ending-more n j r (stop k p) = refl

module _ (f : Format) (image : List ℕ) (end : ℕ) (shut : Bool) (p : ℕ) (x : Frame) (e : next (shape f) shut (part p (end - p) image) ≡ Ok (Some x)) where
  -- a frame's key and its value lie inside it
  pub frame-parts : (x.key + x.klen ≤ x.size) × (x.val + x.vlen ≤ x.size)
  frame-parts =
      let pl = raw-placed (laws f) (raw_of x (part p (end - p) image)) (framed-raw (laws f) shut (part p (end - p) image) x e) in
      (omega (arith, pl.key_in, pl.value_last), omega (arith, pl.value_last))

  -- its code is a byte of the image
  pub frame-code : ((k : ℕ) → get_or image k 0 < 256) → x.code < 256
  frame-code bytes =
      let s : List ℕ = part p (end - p) image in
      let i = framed-in (laws f) shut s x e in
      let some : 0 < end - p = omega (arith, part-most image p (end - p)) in
      let code : get_or image (p + 0) 0 ≡ x.code
      = sym (part-byte image p (end - p) 0 some) ∙ ap (λ (l : List ℕ). get_or l 0 0) (sym (take-append-drop x.size s)) ∙ raw-code (laws f) (raw_of x s) (drop x.size s) (framed-raw (laws f) shut s x e) in
      rw code at (bytes (p + 0))

  -- what it says are parts of the image
  pub frame-says : content (raw_of x (part p (end - p) image)) ≡ record { code = x.code; key = part (p + x.key) x.klen image; value = part (p + x.val) x.vlen image }
  unfolding content
  frame-says =
      let i = framed-in (laws f) shut (part p (end - p) image) x e in
      rw (part-within image p (end - p) x.key x.klen x.size frame-parts.0 i.1, part-within image p (end - p) x.val x.vlen x.size frame-parts.1 i.1)

  -- the walk takes it, and goes on after it
  pub walk-takes : walk (shape f) shut p (part p (end - p) image) ≡ more (raw_of x (part p (end - p) image)) (walk (shape f) ((shape f).last x.code) (p + x.size) (part (p + x.size) (end - (p + x.size)) image))
  walk-takes =
      let s : List ℕ = part p (end - p) image in
      walk-frame (laws f) shut p s x e
      ∙ ap (λ (t : List ℕ). more (raw_of x s) (walk (shape f) ((shape f).last x.code) (p + x.size) t)) (part-on image p x.size end)

  -- one turn of a loop over the frames alone
  pub ending-on : (n : ℕ) (j : Judgement) → walk_ending n j (walk (shape f) shut p (part p (end - p) image)) ≡ walk_ending (n + 1) j (walk (shape f) ((shape f).last x.code) (p + x.size) (part (p + x.size) (end - (p + x.size)) image))
  ending-on n j = ap (walk_ending n j) walk-takes ∙ ending-more n j (raw_of x (part p (end - p) image)) (walk (shape f) ((shape f).last x.code) (p + x.size) (part (p + x.size) (end - (p + x.size)) image))
