-- Whether an entry comes a second time: by its code, which is marked, or by its key, which a loop looks for among the entries before it.
-- Assumes nothing.
use Prim.Native.Nat.{ℕ, ◌+◌, ◌-◌, ◌≤◌, ◌<◌}
use mathlib.Core.Path.{◌≡◌, refl, ap, ap₂, sym, ◌∙◌}
use mathlib.Core.List.{List, [], ◌∷◌}
use mathlib.Core.Bool.{Bool, true, false, ◌&&◌}
use native.Mathlib.Omega.{arith}
use lib.ListN.{take}
use lib.Dec.{eqb}
use Rattle.std.specs.Prelude.{Ok, Some}
use Rattle.layout.specs.declared.Format.{Format}
use Rattle.layout.specs.declared.Format.TheVariants.{Vpd}
use Rattle.layout.specs.declared.Frame.{Frame}
use Rattle.layout.specs.Answers.{Next}
use Rattle.layout.specs.Bytes.{if, same_bytes, part}
use Rattle.layout.specs.Shape.{next}
use Rattle.layout.specs.Vpd.{vpd}
use Rattle.layout.specs.Editions.{shape}
use Rattle.layout.specs.Walk.{Raw, Content, content, label_of, labels_of}
use Rattle.layout.specs.Read.{seen_before, codes_of}
use Rattle.laws.specs.Marked.{marked}
use Rattle.laws.proofs.Frames.{raw_of, framed-in}
use Rattle.laws.proofs.Marks.{Marks}
use Rattle.laws.proofs.Seen as seen
use Rattle.laws.proofs.Seen.{AlwaysTwice, label-codes}
use Rattle.laws.proofs.Formats.{laws}
use Rattle.keys.proofs.Seen.{key_seen, key-cons}
use Rattle.accept.specs.Passes.{Passed}
use Rattle.accept.proofs.Endings.{frame-says}

-- ---- by code

-- a marked code is one that was seen
pub marked-seen : (f : Format) (c : ℕ) (key : List ℕ) (rs : List Raw) (marks : List ℕ) → AlwaysTwice f c → c < 256 → Marks (codes_of rs) marks →
    marked marks c ≡ seen_before (shape f) (labels_of rs) (record { code = c; key = key })
marked-seen f c key rs marks t lt m = seen.marked-seen f c key (labels_of rs) marks t lt (rw (label-codes rs) at m)

-- ---- by key

-- no pass goes back
passed_on : (f : Format) (image : List ℕ) (end : ℕ) (b c : Bool) (q p : ℕ) (rs : List Raw) → Passed f image end b q rs c p → q ≤ p
passed_on f image end b c q p [] h = omega (arith, h.1)
passed_on f image end b c q p (r ∷ rs) h = omega (arith, passed_on f image end ((shape f).last r.frame.code) c (q + r.frame.size) p rs h.2)

module _ (image : List ℕ) (start end p : ℕ) (key : List ℕ) where
  -- the loop stands at q: what is looked for among the entries passed is looked for among those of them from q on
  pub record Left (past : List Raw) (shut : Bool) (q : ℕ) : Type 0 where
    pub todo : List Raw
    pub passed : Passed Vpd image end false q todo shut p
    pub same : key_seen (labels_of past) key ≡ key_seen (labels_of todo) key

  abbrev pub Looking : ℕ → Type 0
  Looking q = (past : List Raw) (shut : Bool) → Passed Vpd image end false start past shut p → Left past shut q

  pub look-first : Looking start
  look-first past shut h = record { todo = past; passed = h; same = refl }

  module _ (q : ℕ) (w : Looking q) (past : List Raw) (shut : Bool) (h : Passed Vpd image end false start past shut p) where
    -- the place is reached
    pub look-over : p ≤ q → false ≡ key_seen (labels_of past) key
    unfolding seen_before
    look-over le = go (w past shut h).todo (w past shut h).passed (w past shut h).same
      where
        go : (todo : List Raw) → Passed Vpd image end false q todo shut p → key_seen (labels_of past) key ≡ key_seen (labels_of todo) key →
            false ≡ key_seen (labels_of past) key
        go [] g s = sym s
        go (r ∷ rs) g s =
            let i = framed-in (laws Vpd) false (part q (end - q) image) r.frame g.0 in
            absurd (omega (arith, passed_on Vpd image end ((shape Vpd).last r.frame.code) shut (q + r.frame.size) p rs g.2))

    -- a frame stands at each place before it
    pub look-framed : q < p → (x : Next) → next (shape Vpd) false (part q (end - q) image) ≡ x → ((f : Frame) → x ≡ Ok (Some f) → ⊥) → ⊥
    look-framed lt x n no-frame = go (w past shut h).todo (w past shut h).passed
      where
        go : (todo : List Raw) → Passed Vpd image end false q todo shut p → ⊥
        go [] g = omega (arith, g.1)
        go (r ∷ rs) g = no-frame r.frame (sym n ∙ g.0)

    module _ (f : Frame) (e : next (shape Vpd) false (part q (end - q) image) ≡ Ok (Some f)) (lt : q < p) where
      -- the first entry that is left is that frame's
      record Heads (todo : List Raw) : Type 0 where
        rest : List Raw
        is : todo ≡ raw_of f (part q (end - q) image) ∷ rest
        on : Passed Vpd image end false (q + f.size) rest shut p

      heads : (todo : List Raw) → Passed Vpd image end false q todo shut p → Heads todo
      unfolding vpd
      heads [] g = absurd (omega (arith, g.1))
      heads (r ∷ rs) g =
          let frame : r.frame ≡ f = cc in
          let bytes : r.bytes ≡ take f.size (part q (end - q) image) = g.1 ∙ ap (λ (x : Frame). take x.size (part q (end - q) image)) frame in
          record {
            rest = rs;
            is = ap₂ (λ (x : List ℕ) (y : Frame). record { bytes = x; frame = y } ∷ rs) bytes frame;
            on = rw (← frame) g.2;
          }

      -- it is looked at
      looked : (b : Bool) → eqb 1 f.code && same_bytes key (part (q + f.key) f.klen image) ≡ b → (o : Heads (w past shut h).todo) →
          key_seen (labels_of past) key ≡ if b (λ _. true) (λ _. key_seen (labels_of o.rest) key)
      looked b t o =
          let s : List ℕ = part q (end - q) image in
          let test : eqb 1 (content (raw_of f s)).code && same_bytes key (content (raw_of f s)).key ≡ b = ap (λ (c : Content). eqb 1 c.code && same_bytes key c.key) (frame-says Vpd image end false q f e) ∙ t in
          (w past shut h).same ∙ ap (λ (l : List Raw). key_seen (labels_of l) key) o.is ∙ key-cons (label_of (content (raw_of f s))) (labels_of o.rest) key ∙ rw test

      -- the key is there
      pub look_hit : eqb 1 f.code && same_bytes key (part (q + f.key) f.klen image) ≡ true → true ≡ key_seen (labels_of past) key
      look_hit t = sym (looked true t (heads (w past shut h).todo (w past shut h).passed))

      -- it is not, and the loop goes on
      pub look-on : eqb 1 f.code && same_bytes key (part (q + f.key) f.klen image) ≡ false → Left past shut (q + f.size)
      look-on t =
          let o = heads (w past shut h).todo (w past shut h).passed in
          record { todo = o.rest; passed = o.on; same = looked false t o }
