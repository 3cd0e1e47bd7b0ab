-- An addition: the pass that finds where the new entry goes, and what it finds.
-- Assumes nothing.
use Prim.Native.Nat.{ℕ, ◌+◌, ◌-◌, ◌≤◌}
use mathlib.Core.Path.{◌≡◌, refl, ap, sym, ◌∙◌}
use mathlib.Core.List.{List, [], ◌∷◌, ◌++◌, append_assoc}
use mathlib.Core.Bool.{Bool, true, false}
use native.Mathlib.Omega.{arith}
use native.Mathlib.Nat.{add-zero}
use lib.ListN.{length, get_or, length-append}
use Rattle.std.specs.Prelude.{Ok, Err, Some, None}
use Rattle.layout.specs.declared.Field.{Field}
use Rattle.layout.specs.declared.Format.{Format}
use Rattle.layout.specs.declared.Frame.{Frame}
use Rattle.layout.specs.Bytes.{if, part, refusal}
use Rattle.layout.specs.Shape.{Shape, Label, next}
use Rattle.layout.specs.Editions.{shape, names}
use Rattle.layout.specs.Walk.{Raw, Content, content, label_of, labels_of, flat}
use Rattle.layout.specs.Read.{limit, same, seen_before}
use Rattle.layout.specs.Write.{refuse, put, image_of, parts_inside, field_content, writer_rule, entry_bytes}
use Rattle.layout.specs.Change.{laid, allowed, denied, change_allowed}
use Rattle.layout.specs.Add.{may_add, added_entries, addition, add_field}
use Rattle.laws.specs.Grammar.{Grammar, grammar}
use Rattle.laws.specs.Passes.{walked, IsDone, raws_in}
use Rattle.laws.proofs.Changing.{laid-flat}
use Rattle.layout.proofs.Choices.{false-true}
use Rattle.laws.proofs.Formats.{laws}
use Rattle.laws.proofs.Frames.{raw-size}
use Rattle.laws.proofs.Passes.{Passing, pass-first, pass_on, pass-ends, pass-unbroken}
use Rattle.laws.proofs.Walking.{Frames}
use Rattle.accept.specs.declared.Room.{Room}
use Rattle.accept.proofs.Endings.{frame-says}
use Rattle.accept.proofs.Rooms.{Took, took}
use Rattle.editor.specs.Answers.{New}
use Rattle.editor.specs.Here.{spliced, spliced_at, new_at, add_new, add_at, taken_for}
use Rattle.editor.proofs.Changes.{taken_is, change-taken}
use Rattle.editor.proofs.Cutting.{cut-spliced}

-- ---- the pass

module _ (g : Format) (image : List ℕ) (start end : ℕ) (a : Label) where
  -- it stands at p: where the new entry goes among all entries is where it goes among those from p on
  pub record Seeking (p : ℕ) : Type 0 where
    pub pass : Passing (shape g) (grammar g) image end p false
    pub goes : new_at (shape g) a (raws_in (walked g image start end)) start ≡ new_at (shape g) a pass.todo p

  pub seek-first : IsDone (walked g image start end) → Seeking start
  seek-first d = let f = pass-first g image start end d in record { pass = f.pass; goes = ap (λ (rs : List Raw). new_at (shape g) a rs start) (sym f.todo) }

  module _ (p : ℕ) (w : Seeking p) where
    -- no entry is left
    pub seek-ended : next (shape g) false (part p (end - p) image) ≡ Ok None → Some p ≡ new_at (shape g) a (raws_in (walked g image start end)) start
    unfolding new_at
    seek-ended q = sym (w.goes ∙ ap (λ (rs : List Raw). new_at (shape g) a rs p) (pass-ends (laws g) image end p false w.pass q))

    pub seek-unbroken : (k : ℕ) → next (shape g) false (part p (end - p) image) ≡ Err k → ⊥
    seek-unbroken k q = pass-unbroken (laws g) image end p false k w.pass q

    -- an entry stands there
    module _ (f : Frame) (q : next (shape g) false (part p (end - p) image) ≡ Ok (Some f)) where
      abbrev label : Label
      label = record { code = f.code; key = part (p + f.key) f.klen image }

      looked : (s l : Bool) → same (shape g) a label ≡ s → (shape g).last f.code ≡ l →
          new_at (shape g) a (raws_in (walked g image start end)) start ≡ if s (λ _. None) (λ _. if l (λ _. Some p) (λ _. new_at (shape g) a (pass_on (laws g) image end p false f w.pass q).todo (p + f.size)))
      unfolding new_at
      looked s l es el =
          let x = pass_on (laws g) image end p false f w.pass q in
          w.goes
          ∙ ap (λ (rs : List Raw). new_at (shape g) a rs p) x.heads
          ∙ ap (λ (r : Raw). new_at (shape g) a (r ∷ x.todo) p) x.is_raw_of
          ∙ ap (λ (c : Content). if (same (shape g) a (label_of c)) (λ _. None) (λ _. if ((shape g).last f.code) (λ _. Some p) (λ _. new_at (shape g) a x.todo (p + f.size)))) (frame-says g image end false p f q)
          ∙ (rw (es, el))

      -- it is the same
      pub seek-seen : same (shape g) a label ≡ true → None ≡ new_at (shape g) a (raws_in (walked g image start end)) start
      seek-seen es = sym (looked true ((shape g).last f.code) es refl)

      -- none may follow it
      pub seek-last : same (shape g) a label ≡ false → (shape g).last f.code ≡ true → Some p ≡ new_at (shape g) a (raws_in (walked g image start end)) start
      seek-last es el = sym (looked false true es el)

      -- the pass goes on
      pub seek-on : same (shape g) a label ≡ false → (shape g).last f.code ≡ false → Seeking (p + f.size)
      seek-on es el = let x = pass_on (laws g) image end p false f w.pass q in go ((shape g).last f.code) el x.on x.todo_on
        where
          go : (b : Bool) → b ≡ false → (y : Passing (shape g) (grammar g) image end (p + f.size) b) → y.todo ≡ (pass_on (laws g) image end p false f w.pass q).todo → Seeking (p + f.size)
          go true e y t = false-true (sym e)
          go false e y t = record { pass = y; goes = looked false false es el ∙ ap (λ (rs : List Raw). new_at (shape g) a rs (p + f.size)) (sym t) }

-- ---- what it finds

-- a new entry that says c goes to `at` among entries of which the first stands at p
pub record Fits (S : Shape) (rs : List Raw) (c : Content) (p at : ℕ) : Type 0 where
  pub front : List ℕ
  pub after : List ℕ
  pub joined : flat rs ≡ front ++ after
  pub place : at ≡ p + length front
  pub made : laid (added_entries S rs c) ≡ front ++ (entry_bytes S c ++ after)
  pub unseen : seen_before S (labels_of rs) (label_of c) ≡ false

module _ {S : Shape} (G : Grammar) where
  pub goes-fits : (b : Bool) (rs : List Raw) (c : Content) (p at : ℕ) → Frames S G b rs → new_at S (label_of c) rs p ≡ Some at → Fits S rs c p at
  unfolding new_at added_entries laid seen_before
  goes-fits b [] c p at fs q =
      let here : p ≡ at = cc in
      record { front = []; after = []; joined = refl; place = sym here ∙ sym (add-zero p); made = refl; unseen = refl }
  goes-fits b (r ∷ rs) c p at fs q =
      go (same S (label_of c) (label_of (content r))) (S.last r.frame.code) refl refl (goes-fits (S.last r.frame.code) rs c (p + r.frame.size) at fs.2) q
    where
      none_after : (rs : List Raw) → Frames S G true rs → seen_before S (labels_of rs) (label_of c) ≡ false
      none_after [] fs = unfold seen_before in refl
      none_after (r ∷ rs) fs = false-true (sym fs.0)

      go : (s l : Bool) → same S (label_of c) (label_of (content r)) ≡ s → S.last r.frame.code ≡ l →
          (new_at S (label_of c) rs (p + r.frame.size) ≡ Some at → Fits S rs c (p + r.frame.size) at) →
          if s (λ _. None) (λ _. if l (λ _. Some p) (λ _. new_at S (label_of c) rs (p + r.frame.size))) ≡ Some at → Fits S (r ∷ rs) c p at
      go true l es el on q = let z : ◌≡◌ {A = ℕ} 0 1 = cc in absurd (omega arith)
      go false true es el on q =
          let here : p ≡ at = cc in
          record {
            front = [];
            after = r.bytes ++ flat rs;
            joined = refl;
            place = sym here ∙ sym (add-zero p);
            made = unfold added_entries laid in (rw el (ap (λ (x : List ℕ). entry_bytes S c ++ (r.bytes ++ x)) (laid-flat rs)));
            unseen = unfold seen_before in (rw es (none_after rs (rw el at fs.2)));
          }
      go false false es el on q =
          let i = on q in
          record {
            front = r.bytes ++ i.front;
            after = i.after;
            joined = ap (λ (x : List ℕ). r.bytes ++ x) i.joined ∙ sym (append_assoc r.bytes i.front i.after);
            place = omega (arith, i.place, raw-size fs.1, length-append r.bytes i.front);
            made = unfold added_entries laid in (rw el (ap (λ (x : List ℕ). r.bytes ++ x) i.made ∙ sym (append_assoc r.bytes i.front (entry_bytes S c ++ i.after))));
            unseen = unfold seen_before in (rw es i.unseen);
          }

pub seen-there : (S : Shape) (rs : List Raw) (a : Label) (p : ℕ) → new_at S a rs p ≡ None → seen_before S (labels_of rs) a ≡ true
unfolding new_at seen_before
seen-there S [] a p q = let z : ◌≡◌ {A = ℕ} 0 1 = cc in absurd (omega arith)
seen-there S (r ∷ rs) a p q = go (same S a (label_of (content r))) (S.last r.frame.code) refl (seen-there S rs a (p + r.frame.size)) q
  where
    go : (s l : Bool) → same S a (label_of (content r)) ≡ s → (new_at S a rs (p + r.frame.size) ≡ None → seen_before S (labels_of rs) a ≡ true) →
        if s (λ _. None) (λ _. if l (λ _. Some p) (λ _. new_at S a rs (p + r.frame.size))) ≡ None →
        if (same S a (label_of (content r))) (λ _. true) (λ _. seen_before S (labels_of rs) a) ≡ true
    go true l es on q = rw es
    go false true es on q = let z : ◌≡◌ {A = ℕ} 0 1 = cc in absurd (omega arith)
    go false false es on q = rw es (on q)

-- the place is one of the entries' room
pub goes-within : (g : Format) (image : List ℕ) (start end over at : ℕ) (c : Content) → IsDone (walked g image start end) → over ≡ start + length (flat (raws_in (walked g image start end))) →
    new_at (shape g) (label_of c) (raws_in (walked g image start end)) start ≡ Some at → (start ≤ at) × (at ≤ over)
goes-within g image start end over at c d o q =
    let f = pass-first g image start end d in
    let w = goes-fits (grammar g) false f.pass.todo c start at f.pass.frames (ap (λ (rs : List Raw). new_at (shape g) (label_of c) rs start) f.todo ∙ q) in
    (omega (arith, w.place), omega (arith, w.place, ap (λ (rs : List Raw). length (flat rs)) (sym f.todo), ap length w.joined, length-append w.front w.after))

-- ---- an image that is taken

module _ (f e : ℕ) (image out : List ℕ) (room : Room) (q : taken_for (length out) f e image ≡ Ok room) (values : List ℕ) where
  abbrev S : Shape
  S = shape room.format

  abbrev way : Took f e image room
  way = took f e image room (taken_is (length out) f e image q).1

  abbrev all : List Raw
  all = raws_in (walked room.format image room.start room.end)

  entries-all : way.entries ≡ all
  entries-all = sym (ap raws_in way.walks)

  pub add-ready : ((length out ≤ limit) × IsDone (walked room.format image room.start room.end)) × (room.over ≡ room.start + length (flat all))
  add-ready = (((taken_is (length out) f e image q).0, rw way.walks tt), way.over ∙ ap (λ (rs : List Raw). room.start + length (flat rs)) entries-all)

  pub add-none : (xs : List Field) → length xs ≡ 0 → add_field f e image xs values out ≡ refuse (refusal 13 0) out
  unfolding addition may_add
  add-none [] n = change-taken f e image out room q (addition [] values)
  add-none (x ∷ xs) n = absurd (omega arith)

  -- the entry that is made, in its place
  fits-put : (x : Field) (at : ℕ) → Fits S way.entries (field_content S values x) room.start at →
      laid (added_entries S way.entries (field_content S values x))
      ≡ spliced_at (entry_bytes S (field_content S values x)) image room.start at at room.over
  unfolding spliced
  fits-put x at w =
      let m = way.made in
      let new : List ℕ = entry_bytes S (field_content S values x) in
      let H : List ℕ = S.header (length (flat way.entries)) in
      let rest : List ℕ = m.closing ++ (S.check (H ++ flat way.entries) ++ m.rest) in
      let whole : image ≡ H ++ ((w.front ++ ([] ++ w.after)) ++ rest) = m.is ∙ ap (λ (y : List ℕ). H ++ (y ++ rest)) w.joined in
      let ends : room.over ≡ at + length w.after = omega (arith, way.over, w.place, ap length w.joined, length-append w.front w.after) in
      w.made
      ∙ sym (append_assoc w.front new w.after)
      ∙ sym (cut-spliced H w.front [] w.after rest whole m.starts w.place (sym (add-zero at)) ends new)

  add-first : (xs : List Field) (d : Field) → (length xs ≡ 0 → ⊥) → add_field f e image xs values out ≡ add_at S e image room.start room.over all (get_or xs 0 d) values out
  unfolding addition may_add add_at
  add-first [] d n = absurd (n refl)
  add-first (x ∷ xs) d n =
      change-taken f e image out room q (addition (x ∷ xs) values)
      ∙ tests (parts_inside S.keyed x values) (names S e x.code) (writer_rule S (field_content S values x))
      ∙ ap (λ (rs : List Raw). add_at S e image room.start room.over rs x values out) entries-all
    where
      new : (y : New) → new_at S (label_of (field_content S values x)) way.entries room.start ≡ y →
          change_allowed (if (seen_before S (labels_of way.entries) (label_of (field_content S values x))) (λ _. denied (refusal 8 0)) (λ _. allowed)) S (added_entries S way.entries (field_content S values x)) out
          ≡ add_new y S image room.start room.over x values out
      new None is = rw (seen-there S way.entries (label_of (field_content S values x)) room.start is)
      new (Some at) is =
          let w = goes-fits (grammar room.format) false way.entries (field_content S values x) room.start at way.made.frames is in
          rw w.unseen (ap (λ (b : List ℕ). put S (image_of S b) out) (fits-put x at w))

      tests : (i n w : Bool) →
          change_allowed
          (if i
          (λ _. if n
          (λ _. if w
          (λ _. if (seen_before S (labels_of way.entries) (label_of (field_content S values x))) (λ _. denied (refusal 8 0)) (λ _. allowed))
          (λ _. denied (refusal 7 0)))
          (λ _. denied (refusal 14 0)))
          (λ _. denied (refusal 13 0)))
          S (added_entries S way.entries (field_content S values x)) out
          ≡ if i
          (λ _. if n
          (λ _. if w
          (λ _. add_new (new_at S (label_of (field_content S values x)) way.entries room.start) S image room.start room.over x values out)
          (λ _. refuse (refusal 7 0) out))
          (λ _. refuse (refusal 14 0) out))
          (λ _. refuse (refusal 13 0) out)
      tests true true true = new (new_at S (label_of (field_content S values x)) way.entries room.start) refl
      tests true true false = refl
      tests true false w = refl
      tests false n w = refl

  -- the tests of an addition, where x is the first field
  module _ (xs : List Field) (d : Field) {x : Field} (is : x ≡ get_or xs 0 d) (some : length xs ≡ 0 → ⊥) where
    first : add_field f e image xs values out ≡ add_at S e image room.start room.over all x values out
    first = add-first xs d some ∙ ap (λ (y : Field). add_at S e image room.start room.over all y values out) (sym is)

    pub add-outside : parts_inside S.keyed x values ≡ false → add_field f e image xs values out ≡ refuse (refusal 13 0) out
    unfolding add_at
    add-outside i = first ∙ rw i

    pub add-unnamed : parts_inside S.keyed x values ≡ true → names S e x.code ≡ false → add_field f e image xs values out ≡ refuse (refusal 14 0) out
    unfolding add_at
    add-unnamed i n = first ∙ rw (i, n)

    pub add-unruled : parts_inside S.keyed x values ≡ true → names S e x.code ≡ true → writer_rule S (field_content S values x) ≡ false →
        add_field f e image xs values out ≡ refuse (refusal 7 0) out
    unfolding add_at
    add-unruled i n w = first ∙ rw (i, n, w)

    pub add-new : parts_inside S.keyed x values ≡ true → names S e x.code ≡ true → writer_rule S (field_content S values x) ≡ true →
        {y : New} → new_at S (label_of (field_content S values x)) all room.start ≡ y → add_field f e image xs values out ≡ add_new y S image room.start room.over x values out
    unfolding add_at
    add-new i n w g = first ∙ rw (i, n, w, g)
