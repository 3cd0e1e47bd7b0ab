-- A change by what taking the image and finding the entry give.
-- Assumes nothing.
use Prim.Native.Nat.{ℕ, zero, suc, ◌+◌, ◌≤◌}
use mathlib.Core.Path.{◌≡◌, refl, ap, ap₂, sym, ◌∙◌}
use mathlib.Core.List.{List, [], ◌∷◌, ◌++◌, append_assoc, append-nil}
use mathlib.Core.Bool.{Bool, true, false, ◌||◌}
use native.Mathlib.Omega.{arith}
use native.Mathlib.Nat.{add-zero}
use lib.ListN.{length, take, drop, length-append, length-drop, take-append-drop}
use lib.Seq.{length-take-le}
use lib.Dec.{ltb}
use borrow.Author.Tests.{ltb-false}
use Rattle.std.specs.Prelude.{Ok, Err, Some, None}
use Rattle.layout.specs.declared.Frame.{Frame}
use Rattle.layout.specs.Answers.{Chosen}
use Rattle.layout.specs.declared.Refusal.{Refusal}
use Rattle.layout.specs.Bytes.{if, one_of, refusal}
use Rattle.layout.specs.Shape.{Shape}
use Rattle.layout.specs.Editions.{shape, chosen, names}
use Rattle.layout.specs.Walk.{Raw, flat}
use Rattle.layout.specs.Read.{limit, Read}
use Rattle.layout.specs.Write.{refuse, put, image_of}
use Rattle.layout.specs.Change.{bytes_of, laid, Allowed, allowed, denied, Change, may_change, in_place, change_allowed, change_read, change_chosen, change_image}
use Rattle.layout.specs.Edit.{revalued, edit_rule, edit_asks, edit, edit_entry}
use Rattle.layout.specs.Remove.{remove_asks, removal, remove_entry}
use Rattle.laws.specs.Grammar.{grammar}
use Rattle.laws.proofs.Frames.{raw-size, raw-at}
use Rattle.laws.proofs.Calls.{change-read}
use Rattle.laws.proofs.Changing.{laid-flat}
use Rattle.layout.proofs.Lists.{joined-append}
use Rattle.frames.specs.Spots.{spot_at}
use Rattle.frames.proofs.Spots.{Sized, Spotted, OnSpot, spot-walked}
use Rattle.accept.specs.declared.Room.{Room}
use Rattle.accept.specs.Taken.{taken}
use Rattle.accept.proofs.Rooms.{Took, took, not-took}
use Rattle.editor.specs.Here.{value_bytes, spliced, spliced_at, Within, asked_at, put_allowed, edit_at, remove_at, too_long_by, taken_for}
use Rattle.editor.proofs.Cutting.{cut-spliced}

-- ---- the image is refused, or the output is too long

-- an image that is taken for an output
pub taken_is : (n f e : ℕ) (image : List ℕ) {room : Room} → taken_for n f e image ≡ Ok room → (n ≤ limit) × (taken f e image ≡ Ok room)
unfolding taken_for
taken_is n f e image {room} q = go (ltb limit n) refl q
  where
    never : (x : Chosen) → too_long_by x ≡ Ok room → ⊥
    never (Ok g) q = let z : ◌≡◌ {A = ℕ} 0 1 = cc in omega arith
    never (Err k) q = let z : ◌≡◌ {A = ℕ} 0 1 = cc in omega arith

    go : (t : Bool) → ltb limit n ≡ t → if t (λ _. too_long_by (chosen f e)) (λ _. taken f e image) ≡ Ok room → (n ≤ limit) × (taken f e image ≡ Ok room)
    go true l q = absurd (never (chosen f e) q)
    go false l q = (ltb-false limit n l, q)

module _ (x : Change) (f e : ℕ) (image out : List ℕ) where
  pub change-refused : (r : Refusal) → taken_for (length out) f e image ≡ Err r → change_image x f e image out ≡ refuse r out
  unfolding taken_for change_image
  change-refused r q = go (ltb limit (length out)) refl q
    where
      test : (t u : Bool) → u ≡ true → (t || u) ≡ true
      test true u e = refl
      test false u e = e

      long : (y : Chosen) → ltb limit (length out) ≡ true → too_long_by y ≡ Err r → change_chosen y x e image out ≡ refuse r out
      long (Ok g) l q = let z : refusal 2 0 ≡ r = cc in rw (test (ltb limit (length image)) (ltb limit (length out)) l) (ap (λ (s : Refusal). refuse s out) z)
      long (Err n) l q = let z : refusal n 0 ≡ r = cc in ap (λ (s : Refusal). refuse s out) z

      go : (t : Bool) → ltb limit (length out) ≡ t → if t (λ _. too_long_by (chosen f e)) (λ _. taken f e image) ≡ Err r → change_chosen (chosen f e) x e image out ≡ refuse r out
      go true l q = long (chosen f e) l q
      go false l q = (unfold change_image in (change-read x f e image out (ltb-false limit (length out) l))) ∙ ap (λ (y : Read). change_read y x e out) (not-took f e image r q)

-- what is allowed is put
allowed-put : (a : Allowed) (S : Shape) (entries : List (List ℕ)) {bytes : List ℕ} (out : List ℕ) → laid entries ≡ bytes → change_allowed a S entries out ≡ put_allowed a S bytes out
allowed-put allowed S entries out q = ap (λ (x : List ℕ). put S (image_of S x) out) q
allowed-put (denied r) S entries out q = refl

-- ---- the entry among the others

module _ (ask : ℕ → ℕ → Allowed) (S : Shape) (e : ℕ) where
  may-not : (p : ℕ) (rs : List Raw) (i : ℕ) → length rs ≤ i → may_change ask S e p rs i ≡ denied (refusal 13 0)
  unfolding may_change
  may-not p [] i le = refl
  may-not p (r ∷ rs) zero le = absurd (omega arith)
  may-not p (r ∷ rs) (suc i) le = may-not (p + r.frame.size) rs i (omega arith)

  may_past : (raw : Raw) (after : List Raw) (p : ℕ) (past : List Raw) → Sized past → may_change ask S e p (past ++ (raw ∷ after)) (length past) ≡ asked_at ask S e (p + length (flat past)) raw.frame
  unfolding may_change
  may_past raw after p [] z = rw add-zero
  may_past raw after p (r ∷ past) z =
      let at : p + r.frame.size + length (flat past) ≡ p + length (r.bytes ++ flat past) = omega (arith, length-append r.bytes (flat past), z.0) in
      may_past raw after (p + r.frame.size) past z.1 ∙ ap (λ (q : ℕ). asked_at ask S e q raw.frame) at

-- the bytes of entries with others in the place of one
laid-past : (new : Raw → List (List ℕ)) (raw : Raw) (after past : List Raw) → laid (in_place new (past ++ (raw ∷ after)) (length past)) ≡ flat past ++ (laid (new raw) ++ flat after)
unfolding in_place laid
laid-past new raw after [] = joined-append laid (λ b. b) refl (λ b bs. refl) (new raw) (bytes_of after) ∙ ap (λ (x : List ℕ). laid (new raw) ++ x) (laid-flat after)
laid-past new raw after (r ∷ past) = ap (λ (x : List ℕ). r.bytes ++ x) (laid-past new raw after past) ∙ sym (append_assoc r.bytes (flat past) (laid (new raw) ++ flat after))

-- ---- an image that is taken

module _ (f e : ℕ) (image out : List ℕ) (room : Room) (q : taken_for (length out) f e image ≡ Ok room) where
  abbrev S : Shape
  S = shape room.format

  abbrev way : Took f e image room
  way = took f e image room (taken_is (length out) f e image q).1

  pub change-taken : (x : Change) → change_image x f e image out ≡ change_allowed (x.asks S e room.start way.entries) S (x.entries S way.entries) out
  change-taken x = change-read x f e image out (taken_is (length out) f e image q).0 ∙ ap (λ (y : Read). change_read y x e out) way.read

  spots : (i : ℕ) → OnSpot (Spotted S (grammar room.format) image room.end way.entries room.start i) (length way.entries ≤ i) (spot_at S image false room.start room.end i)
  spots i = rw way.walks at (spot-walked room.format image room.start room.end i (rw way.walks tt))

  -- the entries end inside the image
  pub over-inside : room.over ≤ length image
  over-inside =
      let m = way.made in
      let H : List ℕ = S.header (length (flat way.entries)) in
      let rest : List ℕ = m.closing ++ (S.check (H ++ flat way.entries) ++ m.rest) in
      omega (arith, m.starts, way.over, ap length m.is ∙ length-append H (flat way.entries ++ rest), length-append (flat way.entries) rest)

  -- others in the place of entry i, where something is asked of it
  module _ (ask : Shape → ℕ → ℕ → Allowed) (new : Shape → Raw → List (List ℕ)) (i : ℕ) where
    abbrev change : Change
    change = record { asks = λ S e p rs. may_change (ask S) S e p rs i; entries = λ S rs. in_place (new S) rs i }

    pub change-nowhere : spot_at S image false room.start room.end i ≡ None → change_image change f e image out ≡ refuse (refusal 13 0) out
    change-nowhere s =
        change-taken change
        ∙ ap (λ (a : Allowed). change_allowed a S (in_place (new S) way.entries i) out) (may-not (ask S) S e room.start way.entries i (rw s at (spots i)))

  module _ (i : ℕ) (h : Frame) (p : ℕ) (s : spot_at S image false room.start room.end i ≡ Some (h, p)) where
    abbrev w : Spotted S (grammar room.format) image room.end way.entries room.start i h p
    w = rw s at (spots i)

    abbrev past : List ℕ
    past = flat w.past

    abbrev bytes : List ℕ
    bytes = w.raw.bytes

    abbrev after : List ℕ
    after = flat w.after

    framed : w.raw.frame ≡ h
    framed = ap (λ (r : Raw). r.frame) w.is

    sized : length bytes ≡ h.size
    sized = raw-size w.is_raw ∙ ap (λ (g : Frame). g.size) framed

    flats : flat way.entries ≡ past ++ (bytes ++ after)
    flats = ap flat w.joined ∙ joined-append flat (λ r. r.bytes) refl (λ r rs. refl) w.past (w.raw ∷ w.after)

    long : length (flat way.entries) ≡ length past + (length bytes + length after)
    long = ap length flats ∙ length-append past (bytes ++ after) ∙ ap (λ (n : ℕ). length past + n) (length-append bytes after)

    -- the entry lies among the others
    pub here-within : Within image room.start room.over p h
    here-within =
        record {
          begins = omega (arith, w.place);
          opens = rw framed at (raw-at w.is_raw);
          ends = omega (arith, w.place, sized, long, way.over);
          inside = over-inside;
        }

    module _ (ask : Shape → ℕ → ℕ → Allowed) (new : Shape → Raw → List (List ℕ)) where
      -- the bytes of the entry up to `at` stay, and x stands in the place of the others
      pub change-here : (at cut : ℕ) (fresh : List ℕ) → at ≤ h.size → cut ≡ p + at → ((r : Raw) → r.frame ≡ h → laid (new S r) ≡ take at r.bytes ++ fresh) →
          change_image (change ask new i) f e image out ≡ put_allowed (asked_at (ask S) S e p h) S (spliced_at fresh image room.start cut (p + h.size) room.over) out
      unfolding spliced
      change-here at cut fresh le ec made =
          let m = way.made in
          let H : List ℕ = S.header (length (flat way.entries)) in
          let rest : List ℕ = m.closing ++ (S.check (H ++ flat way.entries) ++ m.rest) in
          let front : List ℕ = past ++ take at bytes in
          let whole : image ≡ H ++ ((front ++ (drop at bytes ++ after)) ++ rest) =
          m.is
          ∙ ap (λ (y : List ℕ). H ++ (y ++ rest)) (flats ∙ ap (λ (b : List ℕ). past ++ (b ++ after)) (sym (take-append-drop at bytes)))
          ∙ simp append_assoc in
          let taken-long = length-take-le at bytes (omega (arith, sized)) in
          let front_long = length-append past (take at bytes) in
          let gone_long = length-drop at bytes in
          let cuts : cut ≡ room.start + length front = omega (arith, w.place) in
          let goes : p + h.size ≡ cut + length (drop at bytes) = omega (arith, sized) in
          let ends : room.over ≡ p + h.size + length after = omega (arith, w.place, sized, long, way.over) in
          let laid-is : laid (in_place (new S) way.entries i) ≡ spliced_at fresh image room.start cut (p + h.size) room.over =
          ap₂ (λ (rs : List Raw) (n : ℕ). laid (in_place (new S) rs n)) w.joined w.counted
          ∙ laid-past (new S) w.raw w.after w.past
          ∙ ap (λ (b : List ℕ). past ++ (b ++ after)) (made w.raw framed)
          ∙ (simp append_assoc)
          ∙ sym (cut-spliced H front (drop at bytes) after rest whole m.starts cuts goes ends fresh) in
          let may : may_change (ask S) S e room.start way.entries i ≡ asked_at (ask S) S e p h =
          ap₂ (λ (rs : List Raw) (n : ℕ). may_change (ask S) S e room.start rs n) w.joined w.counted
          ∙ may_past (ask S) S e w.raw w.after room.start w.past w.sized
          ∙ ap₂ (λ (n : ℕ) (g : Frame). asked_at (ask S) S e n g) (sym w.place) framed in
          change-taken (change ask new i)
          ∙ ap (λ (a : Allowed). change_allowed a S (in_place (new S) way.entries i) out) may
          ∙ allowed-put (asked_at (ask S) S e p h) S (in_place (new S) way.entries i) out laid-is

  -- ---- an edit and a removal

  module _ (i : ℕ) (v : List ℕ) where
    pub edit-nowhere : spot_at S image false room.start room.end i ≡ None → edit_entry f e image i v out ≡ refuse (refusal 13 0) out
    unfolding edit
    edit-nowhere s = change-nowhere (λ S. edit_asks S v) (λ S r. revalued S r v ∷ []) i s

    module _ {h : Frame} {p : ℕ} (s : spot_at S image false room.start room.end i ≡ Some (h, p)) where
      edit-here : edit_entry f e image i v out ≡ edit_at S e image room.start room.over p h v out
      unfolding edit edit_at
      edit-here = change-here i h p s (λ S. edit_asks S v) (λ S r. revalued S r v ∷ []) h.at (p + h.at) (value_bytes S h.code v) (here-within i h p s).opens refl valued
        where
          valued : (r : Raw) → r.frame ≡ h → laid (revalued S r v ∷ []) ≡ take h.at r.bytes ++ value_bytes S h.code v
          valued r g =
              let one : laid (revalued S r v ∷ []) ≡ revalued S r v = unfold laid in (append-nil (revalued S r v)) in
              one ∙ (unfold revalued in (rw g))

      pub edit-unnamed : names S e h.code ≡ false → edit_entry f e image i v out ≡ refuse (refusal 14 p) out
      unfolding edit_at
      edit-unnamed n = edit-here ∙ rw n

      pub edit-length : names S e h.code ≡ true → S.length_rule h.code (length v) ≡ false → edit_entry f e image i v out ≡ refuse (refusal 7 p) out
      unfolding edit_at edit_rule
      edit-length n l = edit-here ∙ rw (n, l)

      pub edit-value : names S e h.code ≡ true → S.length_rule h.code (length v) ≡ true → S.value_rule h.code v ≡ false → edit_entry f e image i v out ≡ refuse (refusal 7 p) out
      unfolding edit_at edit_rule
      edit-value n l r = edit-here ∙ rw (n, l, r)

      pub edit-put : names S e h.code ≡ true → S.length_rule h.code (length v) ≡ true → S.value_rule h.code v ≡ true →
          edit_entry f e image i v out ≡ put S (image_of S (spliced_at (value_bytes S h.code v) image room.start (p + h.at) (p + h.size) room.over)) out
      unfolding edit_at edit_rule
      edit-put n l r = edit-here ∙ rw (n, l, r)

  module _ (i : ℕ) where
    pub remove-nowhere : spot_at S image false room.start room.end i ≡ None → remove_entry f e image i out ≡ refuse (refusal 13 0) out
    unfolding removal
    remove-nowhere s = change-nowhere remove_asks (λ S r. []) i s

    module _ {h : Frame} {p : ℕ} (s : spot_at S image false room.start room.end i ≡ Some (h, p)) where
      remove-here : remove_entry f e image i out ≡ remove_at S e image room.start room.over p h out
      unfolding removal remove_at
      remove-here = change-here i h p s remove_asks (λ S r. []) 0 p [] (omega arith) (sym (add-zero p)) (λ r g. unfold laid in refl)

      pub remove-unnamed : names S e h.code ≡ false → remove_entry f e image i out ≡ refuse (refusal 14 p) out
      unfolding remove_at
      remove-unnamed n = remove-here ∙ rw n

      pub remove-required : names S e h.code ≡ true → one_of S.required h.code ≡ true → remove_entry f e image i out ≡ refuse (refusal 11 0) out
      unfolding remove_at
      remove-required n l = remove-here ∙ rw (n, l)

      pub remove-put : names S e h.code ≡ true → one_of S.required h.code ≡ false →
          remove_entry f e image i out ≡ put S (image_of S (spliced_at [] image room.start p (p + h.size) room.over)) out
      unfolding remove_at
      remove-put n l = remove-here ∙ rw (n, l)
