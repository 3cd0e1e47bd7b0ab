-- An image is taken or refused, by its walk, what its format asks of its room, its check and its judgement.
-- Assumes nothing.
use Prim.Native.Nat.{ℕ, ◌+◌, ◌-◌, ◌≤◌, ◌<◌}
use mathlib.Core.Path.{◌≡◌, refl, ap, sym, ◌∙◌}
use mathlib.Core.List.{List, []}
use mathlib.Core.Bool.{Bool, true, false}
use native.Mathlib.Omega.{arith}
use lib.ListN.{length, length-append}
use borrow.Author.Tests.{lt-ltb, le-ltb}
use Rattle.std.specs.Prelude.{Ok, Err}
use Rattle.layout.specs.declared.Format.{Format}
use Rattle.layout.specs.declared.Refusal.{Refusal}
use Rattle.layout.specs.Bytes.{part, refusal}
use Rattle.layout.specs.Shape.{Judged, fine, faulty}
use Rattle.layout.specs.Editions.{shape, chosen}
use Rattle.layout.specs.Walk.{Raw, flat, Walked, done, stop}
use Rattle.layout.specs.Read.{sealed, check_place, judge, complete, codes_of, Read, accepted, refused, read_complete, read_walked, read_as, read_image, limit}
use Rattle.laws.specs.Passes.{walked}
use Rattle.laws.proofs.Passes.{part-most}
use Rattle.laws.proofs.Walking.{walk-decode}
use Rattle.laws.proofs.Images.{accepted-made}
use Rattle.laws.proofs.Formats.{laws}
use Rattle.accept.specs.declared.Pass.{Pass}
use Rattle.accept.specs.Passes.{walk_ending, judgement, judged, ending_of}
use Rattle.accept.specs.Taken.{room_taken, taken_by, taken}

-- a pass that ended
pub record Done (f : Format) (e : ℕ) (image : List ℕ) (start end : ℕ) (x : Pass) : Type 0 where
  pub raws : List Raw
  pub is_walk : walked f image start end ≡ done raws x.over
  pub count : x.count ≡ length raws
  pub over : x.over ≡ start + length (flat raws)
  pub bound : start ≤ end → x.over ≤ end
  pub judges : judged f e raws start ≡ x.judgement

pub ends-done : (f : Format) (e : ℕ) (image : List ℕ) (start end : ℕ) (x : Pass) → ending_of f e (walked f image start end) start ≡ Ok x → Done f e image start end x
ends-done f e image start end x q = go (walked f image start end) refl q
  where
    go : (w : Walked) → walked f image start end ≡ w → ending_of f e w start ≡ Ok x → Done f e image start end x
    go (done rs p) y q =
        let is : record { count = length rs; over = p; judgement = judged f e rs start } ≡ x = cc in
        let walk : walked f image start end ≡ done rs x.over = y ∙ ap (λ (z : Pass). done rs z.over) is in
        let d = walk-decode (laws f) start (part start (end - start) image) rs x.over walk in
        record {
          raws = rs;
          is_walk = walk;
          count = sym (ap (λ (z : Pass). z.count) is);
          over = d.place;
          bound = λ le. omega (arith, d.place, ap length d.joined, length-append (flat rs) d.rest, part-most image start (end - start));
          judges = ap (λ (z : Pass). z.judgement) is;
        }
    go (stop k p) y q = let z : ◌≡◌ {A = ℕ} 0 1 = cc in absurd (omega arith)

-- a walk over the frames alone that stopped, as the pass over frames and rules does
pub stops-alike : (f : Format) (e start : ℕ) (r : Refusal) (w : Walked) → walk_ending 0 (Ok tt) w ≡ Err r → Err r ≡ ending_of f e w start
stops-alike f e start r (done rs p) q = let z : ◌≡◌ {A = ℕ} 0 1 = cc in absurd (omega arith)
stops-alike f e start r (stop k p) q = sym q

module _ (f : Format) (e : ℕ) (image : List ℕ) (start end : ℕ) where
  -- a broken frame
  pub room-stops : (r : Refusal) → ending_of f e (walked f image start end) start ≡ Err r → room_taken (read_walked (walked f image start end) f e image start end) end ≡ Err r
  room-stops r q = go (walked f image start end) q
    where
      go : (w : Walked) → ending_of f e w start ≡ Err r → room_taken (read_walked w f e image start end) end ≡ Err r
      go (done rs p) q = let z : ◌≡◌ {A = ℕ} 0 1 = cc in absurd (omega arith)
      go (stop k p) q = let is : refusal k p ≡ r = cc in ap Err is

  -- a room that is not as the format asks
  pub room-unfilled : (x : Pass) → Done f e image start end x → (shape f).filled x.over end ≡ faulty 5 9 →
      room_taken (read_walked (walked f image start end) f e image start end) end ≡ Err (refusal 5 9)
  room-unfilled x d l = rw (d.is_walk, l)

  -- a wrong check
  pub room-unsealed : (x : Pass) → Done f e image start end x → (shape f).filled x.over end ≡ fine → sealed (shape f) image x.over ≡ false →
      room_taken (read_walked (walked f image start end) f e image start end) end ≡ Err (refusal 10 (check_place (shape f) x.over))
  room-unsealed x d l s = rw (d.is_walk, l, s)

  -- a rule broken, or a required field missing
  pub room-faulty : (x : Pass) (r : Refusal) → Done f e image start end x → x.judgement ≡ Err r → (shape f).filled x.over end ≡ fine → sealed (shape f) image x.over ≡ true →
      room_taken (read_walked (walked f image start end) f e image start end) end ≡ Err r
  room-faulty x r d j l s =
      rw (d.is_walk, l, s) (go (judge (shape f) e [] d.raws start) (complete (shape f).required (codes_of d.raws)) refl (d.judges ∙ j))
    where
      go : (y : Judged) (b : Bool) → complete (shape f).required (codes_of d.raws) ≡ b → judgement y b ≡ Err r →
          room_taken (read_complete y f start d.raws) end ≡ Err r
      go fine true c h = let z : ◌≡◌ {A = ℕ} 0 1 = cc in absurd (omega arith)
      go fine false c h = let is : refusal 11 0 ≡ r = cc in rw c (ap Err is)
      go (faulty k p) b c h = let is : refusal k p ≡ r = cc in ap Err is

  -- nothing is wrong
  pub room-fine : (x : Pass) → Done f e image start end x → x.judgement ≡ Ok tt → (shape f).filled x.over end ≡ fine → sealed (shape f) image x.over ≡ true →
      room_taken (read_walked (walked f image start end) f e image start end) end ≡ Ok (record { format = f; start = start; end = end; over = x.over; count = x.count })
  room-fine x d j l s =
      rw (d.is_walk, l, s, d.over, d.count) (go (judge (shape f) e [] d.raws start) (complete (shape f).required (codes_of d.raws)) refl (d.judges ∙ j))
    where
      go : (y : Judged) (b : Bool) → complete (shape f).required (codes_of d.raws) ≡ b → judgement y b ≡ Ok tt →
          room_taken (read_complete y f start d.raws) end ≡ Ok (record { format = f; start = start; end = end; over = start + length (flat d.raws); count = length d.raws })
      go fine true c h = rw c
      go fine false c h = let z : ◌≡◌ {A = ℕ} 0 1 = cc in absurd (omega arith)
      go (faulty m r) b c h = let z : ◌≡◌ {A = ℕ} 0 1 = cc in absurd (omega arith)

-- ---- the whole image

module _ (f e : ℕ) (image : List ℕ) where
  pub taken-unknown : (n : ℕ) → chosen f e ≡ Err n → taken f e image ≡ Err (refusal n 0)
  unfolding taken read_image
  taken-unknown n k = rw k

  pub taken-long : (g : Format) → chosen f e ≡ Ok g → limit < length image → taken f e image ≡ Err (refusal 2 0)
  unfolding taken read_image
  taken-long g k lt = rw (k, lt-ltb limit (length image) lt)

  pub taken-closed : (g : Format) (r : Refusal) → chosen f e ≡ Ok g → length image ≤ limit → (shape g).opened image ≡ Err r → taken f e image ≡ Err r
  unfolding taken read_image read_as
  taken-closed g r k le o = rw (k, le-ltb limit (length image) le, o)

  pub taken-room : (g : Format) (start end : ℕ) → chosen f e ≡ Ok g → length image ≤ limit → (shape g).opened image ≡ Ok (start, end) →
      taken f e image ≡ room_taken (read_walked (walked g image start end) g e image start end) end
  unfolding taken read_image read_as
  taken-room g start end k le o = rw (k, le-ltb limit (length image) le, o) (go (read_walked (walked g image start end) g e image start end) refl)
    where
      go : (x : Read) → read_walked (walked g image start end) g e image start end ≡ x → taken_by x image ≡ room_taken x end
      go (accepted h s rs) q =
          let same : h ≡ g = (accepted-made g (laws g) e image h s rs (unfold read_as in (rw o q))).0 in
          rw (same, o)
      go (refused r) q = refl
