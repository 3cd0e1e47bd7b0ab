-- Whole images of any format that meets the laws: an image is read up to the rules exactly where it is a header, entries, a closing, the right check and a rest,
-- and accepted exactly where its entries then are lawful and complete.
-- Assumes nothing.
use Prim.Native.Nat.{ℕ, ◌+◌, ◌-◌, ◌≤◌}
use mathlib.Core.Path.{◌≡◌, refl, ap, sym, ◌∙◌}
use mathlib.Core.List.{List, [], ◌++◌, append_assoc, map}
use mathlib.Core.Bool.{Bool, true, false}
use native.Mathlib.Omega.{arith}
use lib.ListN.{length, take, drop, length-append, take-append-drop}
use lib.Seq.{take_at, drop_at}
use Rattle.std.specs.Prelude.{Ok, Err}
use Rattle.layout.specs.declared.Format.{Format}
use Rattle.layout.specs.declared.Refusal.{Refusal}
use Rattle.layout.specs.Answers.{Opened}
use Rattle.layout.specs.Bytes.{if, part, refusal}
use Rattle.layout.specs.Shape.{Shape, Judged, fine, faulty}
use Rattle.layout.specs.Editions.{shape}
use Rattle.layout.specs.Walk.{Raw, content, flat, Walked, done, stop, walk}
use Rattle.layout.specs.Read.{sealed, check_place, judge, complete, codes_of, accepted, refused, bad, read_complete, read_as}
use Rattle.layout.proofs.Lists.{same_refl, same_true}
use Rattle.laws.specs.Grammar.{grammar, Lawful}
use Rattle.laws.proofs.Format.{Laws, Holds}
use Rattle.laws.proofs.Frames.{part-between}
use Rattle.laws.proofs.Walking.{Frames, walk-flat, walk-decode}
use Rattle.laws.proofs.Judging.{judge-lawful, lawful-judge}

-- ---- the check

-- an image of these entries, with this closing and this rest
abbrev pub image_from : Shape → List ℕ → List ℕ → List ℕ → List ℕ
image_from S entries z t = S.header (length entries) ++ (entries ++ (z ++ (S.check (S.header (length entries) ++ entries) ++ t)))

-- the stored check is right where it is the check's bytes
sealed-is : (S : Shape) (B z t : List ℕ) (p : ℕ) → length B ≡ p → length z ≡ length S.closing → sealed S (B ++ (z ++ (S.check B ++ t))) p ≡ true
unfolding sealed
sealed-is S B z t p e ez =
    let C : List ℕ = S.check B in
    let whole : B ++ (z ++ (C ++ t)) ≡ (B ++ z) ++ (C ++ t) = sym (append_assoc B z (C ++ t)) in
    let at : length (B ++ z) ≡ p + length S.closing = omega (arith, length-append B z) in
    rw (take_at B (z ++ (C ++ t)) p e, whole, part-between (B ++ z) C t (p + length S.closing) at) (same_refl C)

-- and is those bytes where it is right
is-sealed : (S : Shape) (B z t : List ℕ) (p : ℕ) → length B ≡ p → length z ≡ length S.closing → sealed S (B ++ (z ++ t)) p ≡ true → t ≡ S.check B ++ drop (length (S.check B)) t
unfolding sealed part
is-sealed S B z t p e ez h =
    let C : List ℕ = S.check B in
    let whole : B ++ (z ++ t) ≡ (B ++ z) ++ t = sym (append_assoc B z t) in
    let at : length (B ++ z) ≡ p + length S.closing = omega (arith, length-append B z) in
    let back : take p (B ++ (z ++ t)) ≡ B = take_at B (z ++ t) p e in
    let gone : drop (p + length S.closing) (B ++ (z ++ t)) ≡ t = rw whole (drop_at (B ++ z) t (p + length S.closing) at) in
    let same : take (length C) t ≡ C = same_true (take (length C) t) C (rw (back, gone) at h) in
    sym (take-append-drop (length C) t) ∙ ap (λ (x : List ℕ). x ++ drop (length C) t) same

-- ---- framed images

-- what an image is that is read up to the rules
pub record IsFramed (f : Format) (image : List ℕ) (start : ℕ) (rs : List Raw) : Type 0 where
  pub closing : List ℕ
  pub rest : List ℕ
  pub closes : (grammar f).Closing closing
  pub takes : (grammar f).Takes (length (flat rs))
  pub is : image ≡ image_from (shape f) (flat rs) closing rest
  pub starts : start ≡ length ((shape f).header (length (flat rs)))
  pub frames : Frames (shape f) (grammar f) false rs

-- the entries of such an image end in it
pub entries-in : (S : Shape) (image entries z t : List ℕ) (start : ℕ) → image ≡ image_from S entries z t → start ≡ length (S.header (length entries)) →
    start + length entries ≤ length image
entries-in S image entries z t start is starts = rw (is, starts) (simp length-append (omega arith))

-- why an image is refused before the rules: its header, the frame of an entry, what its format asks of its room, or its check
pub data Unframed (f : Format) (image : List ℕ) : Refusal → Type 0 where
  bad_header : {r : Refusal} → (shape f).opened image ≡ Err r → Unframed f image r
  bad_frame : {start end n p : ℕ} → (shape f).opened image ≡ Ok (start, end) → walk (shape f) false start (part start (end - start) image) ≡ stop n p →
      Unframed f image (refusal n p)
  bad_room : {start end p n q : ℕ} {rs : List Raw} → (shape f).opened image ≡ Ok (start, end) → walk (shape f) false start (part start (end - start) image) ≡ done rs p →
      (shape f).filled p end ≡ faulty n q → Unframed f image (refusal n q)
  bad_check : {start end p : ℕ} {rs : List Raw} → (shape f).opened image ≡ Ok (start, end) → walk (shape f) false start (part start (end - start) image) ≡ done rs p →
      sealed (shape f) image p ≡ false → Unframed f image (refusal 10 (check_place (shape f) p))

-- how an image is read: every edition refuses it alike, or it is framed and every edition's rules are asked of the same entries
pub data Way (f : Format) (image : List ℕ) : Type 0 where
  unframed : (r : Refusal) → Unframed f image r → ((e : ℕ) → read_as f e image ≡ refused r) → Way f image
  framed : (start : ℕ) (rs : List Raw) → IsFramed f image start rs →
      ((e : ℕ) → read_as f e image ≡ read_complete (judge (shape f) e [] rs start) f start rs) → Way f image

module _ (f : Format) (L : Laws (shape f) (grammar f)) where
  -- an image that is so made is read up to the rules
  pub made-read : (e : ℕ) (rs : List Raw) (z t : List ℕ) → (grammar f).Closing z → (grammar f).Takes (length (flat rs)) → Frames (shape f) (grammar f) false rs →
      let start = length ((shape f).header (length (flat rs))) in
      read_as f e (image_from (shape f) (flat rs) z t) ≡ read_complete (judge (shape f) e [] rs start) f start rs
  unfolding read_as
  made-read e rs z t cl fits fs =
      let S : Shape = shape f in
      let H : List ℕ = S.header (length (flat rs)) in
      let h : Holds S (image_from S (flat rs) z t) (flat rs) = L.room_made (flat rs) z t cl fits in
      let whole : image_from S (flat rs) z t ≡ (H ++ flat rs) ++ (z ++ (S.check (H ++ flat rs) ++ t)) = sym (append_assoc H (flat rs) (z ++ (S.check (H ++ flat rs) ++ t))) in
      let seal : sealed S (image_from S (flat rs) z t) (length H + length (flat rs)) ≡ true
      = rw whole (sealed-is S (H ++ flat rs) z t (length H + length (flat rs)) (length-append H (flat rs)) (L.closing_length z cl)) in
      rw (h.opened, h.room, walk-flat L false (length H) rs h.rest fs h.ends, h.filled, seal)

  -- an image that is walked to its end, whose room is as its format asks, and whose check is right, is so made
  walked-framed : (image : List ℕ) (start end p : ℕ) (rs : List Raw) → (shape f).opened image ≡ Ok (start, end) →
      walk (shape f) false start (part start (end - start) image) ≡ done rs p → (shape f).filled p end ≡ fine → sealed (shape f) image p ≡ true → IsFramed f image start rs
  walked-framed image start end p rs op w fl sl =
      let S : Shape = shape f in
      let d = walk-decode L start (part start (end - start) image) rs p w in
      let m = L.room_sound d.flag image (flat rs) d.rest start end op d.joined d.ended (rw d.place at fl) in
      let H : List ℕ = S.header (length (flat rs)) in
      let x = m.1 in
      let whole : image ≡ (H ++ flat rs) ++ (x.closing ++ x.rest) = x.is ∙ sym (append_assoc H (flat rs) (x.closing ++ x.rest)) in
      let at : length (H ++ flat rs) ≡ p = omega (arith, length-append H (flat rs), d.place, m.0) in
      let stored : x.rest ≡ S.check (H ++ flat rs) ++ drop (length (S.check (H ++ flat rs))) x.rest
      = is-sealed S (H ++ flat rs) x.closing x.rest p at (L.closing_length x.closing x.closes) (rw whole at sl) in
      record {
        closing = x.closing;
        rest = drop (length (S.check (H ++ flat rs))) x.rest;
        closes = x.closes;
        takes = x.takes;
        is = x.is ∙ ap (λ (y : List ℕ). H ++ (flat rs ++ (x.closing ++ y))) stored;
        starts = m.0;
        frames = d.frames;
      }

  pub way : (image : List ℕ) → Way f image
  unfolding read_as
  way image = opened ((shape f).opened image) refl
    where
      seals : (start end p : ℕ) (rs : List Raw) (t : Bool) → (shape f).opened image ≡ Ok (start, end) →
          walk (shape f) false start (part start (end - start) image) ≡ done rs p → (shape f).filled p end ≡ fine → sealed (shape f) image p ≡ t → Way f image
      seals start end p rs true op w fl sl = framed start rs (walked-framed image start end p rs op w fl sl) (λ e. rw (op, w, fl, sl))
      seals start end p rs false op w fl sl = unframed (refusal 10 (check_place (shape f) p)) (bad_check op w sl) (λ e. rw (op, w, fl, sl))

      fills : (start end p : ℕ) (rs : List Raw) (j : Judged) → (shape f).opened image ≡ Ok (start, end) →
          walk (shape f) false start (part start (end - start) image) ≡ done rs p → (shape f).filled p end ≡ j → Way f image
      fills start end p rs fine op w fl = seals start end p rs (sealed (shape f) image p) op w fl refl
      fills start end p rs (faulty n q) op w fl = unframed (refusal n q) (bad_room op w fl) (λ e. rw (op, w, fl))

      walked : (start end : ℕ) (x : Walked) → (shape f).opened image ≡ Ok (start, end) → walk (shape f) false start (part start (end - start) image) ≡ x → Way f image
      walked start end (done rs p) op w = fills start end p rs ((shape f).filled p end) op w refl
      walked start end (stop n p) op w = unframed (refusal n p) (bad_frame op w) (λ e. rw (op, w))

      opened : (x : Opened) → (shape f).opened image ≡ x → Way f image
      opened (Ok (start, end)) op = walked start end (walk (shape f) false start (part start (end - start) image)) op refl
      opened (Err r) op = unframed r (bad_header op) (λ e. rw op)

-- ---- accepted images

-- what an accepted image is
pub record Accepts (f : Format) (e : ℕ) (image : List ℕ) (start : ℕ) (rs : List Raw) : Type 0 where
  pub closing : List ℕ
  pub rest : List ℕ
  pub closes : (grammar f).Closing closing
  pub takes : (grammar f).Takes (length (flat rs))
  pub is : image ≡ image_from (shape f) (flat rs) closing rest
  pub starts : start ≡ length ((shape f).header (length (flat rs)))
  pub frames : Frames (shape f) (grammar f) false rs
  pub lawful : Lawful (shape f) e [] (map content rs)
  pub required : complete (shape f).required (codes_of rs) ≡ true

never-bad : {A : Type 0} {r : Refusal} {f : Format} {start : ℕ} {rs : List Raw} → refused r ≡ accepted f start rs → A
never-bad e = let z : ◌≡◌ {A = ℕ} 0 1 = cc in absurd (omega arith)

module _ (f : Format) (L : Laws (shape f) (grammar f)) where
  -- an image that is so made, of lawful and complete entries, is accepted with these entries
  pub made-accepted : (e : ℕ) (rs : List Raw) (z t : List ℕ) → (grammar f).Closing z → (grammar f).Takes (length (flat rs)) → Frames (shape f) (grammar f) false rs →
      Lawful (shape f) e [] (map content rs) → complete (shape f).required (codes_of rs) ≡ true →
      read_as f e (image_from (shape f) (flat rs) z t) ≡ accepted f (length ((shape f).header (length (flat rs)))) rs
  made-accepted e rs z t cl fits fs lw cm =
      rw (made-read f L e rs z t cl fits fs, lawful-judge (shape f) e [] rs (length ((shape f).header (length (flat rs)))) lw, cm)

  -- an image that is accepted is so made
  pub accepted-made : (e : ℕ) (image : List ℕ) (f' : Format) (start : ℕ) (rs : List Raw) → read_as f e image ≡ accepted f' start rs → (f' ≡ f) × Accepts f e image start rs
  accepted-made e image f' start rs q = go (way f L image)
    where
      completed : (s : ℕ) (ws : List Raw) (t : Bool) → complete (shape f).required (codes_of ws) ≡ t → Lawful (shape f) e [] (map content ws) → IsFramed f image s ws →
          if t (λ _. accepted f s ws) (λ _. bad 11 0) ≡ accepted f' start rs → (f' ≡ f) × Accepts f e image start rs
      completed s ws false c lw x q = never-bad q
      completed s ws true c lw x q =
          let q₁ : f' ≡ f = cc in
          let q₂ : s ≡ start = cc in
          let q₃ : ws ≡ rs = cc in (
            q₁,
            rw (← q₂, ← q₃)
                (record {
                  closing = x.closing;
                  rest = x.rest;
                  closes = x.closes;
                  takes = x.takes;
                  is = x.is;
                  starts = x.starts;
                  frames = x.frames;
                  lawful = lw;
                  required = c;
                }),
          )

      judged : (s : ℕ) (ws : List Raw) (j : Judged) → judge (shape f) e [] ws s ≡ j → IsFramed f image s ws → read_complete j f s ws ≡ accepted f' start rs →
          (f' ≡ f) × Accepts f e image start rs
      judged s ws fine j x q = completed s ws (complete (shape f).required (codes_of ws)) refl (judge-lawful (shape f) e [] ws s j) x q
      judged s ws (faulty n i) j x q = never-bad q

      go : Way f image → (f' ≡ f) × Accepts f e image start rs
      go (unframed r u k) = never-bad (sym (k e) ∙ q)
      go (framed s ws x k) = judged s ws (judge (shape f) e [] ws s) refl x (sym (k e) ∙ q)
