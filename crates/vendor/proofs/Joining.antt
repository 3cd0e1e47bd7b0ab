-- The pieces of a payload, one after another along a pass over an image.
-- Assumes nothing.
use Prim.Native.Nat.{ℕ, ◌+◌, ◌-◌, ◌≤◌}
use mathlib.Core.Path.{◌≡◌, refl, ap, ap₂, sym, ◌∙◌}
use mathlib.Core.List.{List, [], ◌∷◌, ◌++◌, map, append_assoc, append-nil}
use mathlib.Core.Bool.{Bool, true, false}
use native.Mathlib.Omega.{arith}
use lib.ListN.{length, drop, length-append, length-drop}
use Rattle.std.specs.Prelude.{Ok, Err, Some, None}
use Rattle.std.specs.declared.option.Option.{Option}
use Rattle.std.specs.Option.{unwrap_or}
use Rattle.layout.specs.declared.Format.TheVariants.{Onie}
use Rattle.layout.specs.declared.Frame.{Frame}
use Rattle.layout.specs.Bytes.{if, part}
use Rattle.layout.specs.Shape.{next}
use Rattle.layout.specs.Onie.{onie}
use Rattle.layout.specs.Editions.{shape}
use Rattle.layout.specs.Walk.{Raw, Content, content}
use Rattle.laws.specs.Grammar.{grammar}
use Rattle.laws.specs.Passes.{walked, IsDone}
use Rattle.laws.proofs.Formats.{laws}
use Rattle.layout.proofs.Lists.{joined-append}
use Rattle.laws.proofs.Passes.{Passing, pass-first, pass_on, pass-ends, pass-unbroken, part-most}
use Rattle.output.specs.Placing.{over, copied}
use Rattle.output.proofs.Overlay.{length_over, over-nil, over-over, copied-over}
use Rattle.reader.proofs.Lying.{raw_at, value-at, framed-lies}
use Rattle.reader.proofs.Finding.{onward-raw}
use Rattle.blocks.specs.Payload.{matches, matching, joined}
use Rattle.vendor.specs.Pieces.{piece_in, matching_in, joined_length}

-- ---- matching entries

-- an entry where it matches, and none where it does not
abbrev taken : Bool → Content → List Content
taken b c = if b (λ _. c ∷ []) (λ _. [])

matching-on : (c : Content) (cs : List Content) → matching (c ∷ cs) ≡ taken (matches c) c ++ matching cs
unfolding matching
matching-on c cs = go (matches c)
  where
    go : (b : Bool) → if b (λ _. c ∷ matching cs) (λ _. matching cs) ≡ taken b c ++ matching cs
    go true = refl
    go false = refl

matching-none : matching [] ≡ []
unfolding matching
matching-none = refl

joined-none : joined [] ≡ []
unfolding joined
joined-none = refl

joined-then : (xs ys : List Content) → joined (xs ++ ys) ≡ joined xs ++ joined ys
unfolding joined
joined-then xs ys = joined-append joined (λ c. drop 5 c.value) refl (λ c cs. refl) xs ys

joined-taken : (b : Bool) (c : Content) → joined (taken b c) ≡ if b (λ _. drop 5 c.value) (λ _. [])
unfolding joined
joined-taken true c = append-nil (drop 5 c.value)
joined-taken false c = refl

-- how many bytes the pieces have, and 0 where no entry matches
pub or-none : (cs : List Content) → unwrap_or (joined_length cs) 0 ≡ length (joined cs)
or-none [] = sym (ap length joined-none)
or-none (c ∷ cs) = refl

-- one more entry matches
length-more : (cs : List Content) (c : Content) → joined_length (cs ++ (c ∷ [])) ≡ Some (length (joined cs) + length (drop 5 c.value))
length-more [] c = ap Some (ap length (joined-then [] (c ∷ []) ∙ ap (λ (y : List ℕ). joined [] ++ y) (joined-taken true c)) ∙ length-append (joined []) (drop 5 c.value))
length-more (x ∷ xs) c = ap Some (ap length (joined-then (x ∷ xs) (c ∷ []) ∙ ap (λ (y : List ℕ). joined (x ∷ xs) ++ y) (joined-taken true c)) ∙ length-append (joined (x ∷ xs)) (drop 5 c.value))

-- where an entry has a piece, it matches, and the piece is its value behind the prefix
has : (c : Content) {piece : List ℕ} → piece_in c ≡ Some piece → (matches c ≡ true) × (piece ≡ drop 5 c.value)
has c {piece} e = go (matches c) refl e
  where
    go : (b : Bool) → matches c ≡ b → if b (λ _. Some (drop 5 c.value)) (λ _. None) ≡ Some piece → (matches c ≡ true) × (piece ≡ drop 5 c.value)
    go true is e = (is, cc)
    go false is e = let z : ◌≡◌ {A = ℕ} 0 1 = cc in absurd (omega arith)

-- where it has none, it does not match
has-none : (c : Content) → piece_in c ≡ None → matches c ≡ false
has-none c e = go (matches c) refl e
  where
    go : (b : Bool) → matches c ≡ b → if b (λ _. Some (drop 5 c.value)) (λ _. None) ≡ None → matches c ≡ false
    go true is e = let z : ◌≡◌ {A = ℕ} 0 1 = cc in absurd (omega arith)
    go false is e = is

-- ---- the pass

module _ (image : List ℕ) (start end : ℕ) where
  abbrev all : List Content
  all = matching_in image start end

  -- the pieces of the entries before p are written over d
  pub record Joining (d out : List ℕ) (p : ℕ) (len : Option ℕ) : Type 0 where
    pub pass : Passing (shape Onie) (grammar Onie) image end p false
    pub made : List Content
    pub both : all ≡ made ++ matching (map content pass.todo)
    pub count : len ≡ joined_length made
    pub short : start + length (joined made) ≤ p
    pub bound : p ≤ end
    pub is : out ≡ over d 0 (joined made)

  pub joining-starts : (d : List ℕ) → IsDone (walked Onie image start end) → start ≤ end → Joining d d start None
  joining-starts d w le =
      let f = pass-first Onie image start end w in
      record {
        pass = f.pass;
        made = [];
        both = ap (λ (rs : List Raw). matching (map content rs)) (sym f.todo);
        count = refl;
        short = omega (arith, ap length joined-none);
        bound = le;
        is = sym (ap (over d 0) joined-none ∙ over-nil d 0);
      }

  module _ {d out : List ℕ} {p : ℕ} {len : Option ℕ} (w : Joining d out p len) where
    pub joining-place : unwrap_or len 0 ≡ length (joined w.made)
    joining-place = ap (λ (o : Option ℕ). unwrap_or o 0) w.count ∙ or-none w.made

    pub joining-length : end ≤ start + length d → length out ≡ length d
    joining-length fits = ap length w.is ∙ length_over d 0 (joined w.made) (omega (arith, w.short, w.bound))

    module _ (f : Frame) (reads : next (shape Onie) false (part p (end - p) image) ≡ Ok (Some f)) {v : List ℕ} (is-v : v ≡ part (p + f.val) f.vlen image) where
      -- the entry that stands there, and what matches from there on
      record Standing : Type 0 where
        key : List ℕ
        next-pass : Passing (shape Onie) (grammar Onie) image end (p + f.size) false
        heads : (b : Bool) → matches (record { code = f.code; key = key; value = v }) ≡ b →
            all ≡ (w.made ++ taken b (record { code = f.code; key = key; value = v })) ++ matching (map content next-pass.todo)

      standing : Standing
      unfolding content onie
      standing =
          let l = framed-lies Onie false image p end f reads in
          let x = pass_on (laws Onie) image end p false f w.pass reads in
          let raw : x.raw ≡ raw_at image p f = onward-raw Onie image end p false f w.pass reads in
          let c = content (raw_at image p f) in
          let value : v ≡ c.value = is-v ∙ value-at image p f l.lies in
          let here : Content = record { code = f.code; key = c.key; value = v } in
          let same : c ≡ here = ap (λ (y : List ℕ). record { code = f.code; key = c.key; value = y }) (sym value) in
          record {
            key = c.key;
            next-pass = x.on;
            heads =
                λ (b : Bool) (is : matches here ≡ b).
                w.both
                ∙ ap
                (λ (y : List Content). w.made ++ y)
                (
                ap (λ (rs : List Raw). matching (map content rs)) x.heads
                ∙ ap (λ (r : Raw). matching (content r ∷ map content x.todo)) raw
                ∙ ap (λ (y : Content). matching (y ∷ map content x.todo)) same
                ∙ matching-on here (map content x.todo)
                ∙ ap (λ (y : Bool). taken y here ++ matching (map content x.todo)) is
                ∙ ap (λ (rs : List Raw). taken b here ++ matching (map content rs)) (sym x.todo_on)
                )
                ∙ sym (append_assoc w.made (taken b here) (matching (map content x.on.todo)));
          }

      -- an entry that does not match is passed by
      pub joining-passes : ((key : List ℕ) → piece_in (record { code = f.code; key = key; value = v }) ≡ None) → Joining d out (p + f.size) len
      joining-passes none =
          let l = framed-lies Onie false image p end f reads in
          let s = standing in
          let here : Content = record { code = f.code; key = s.key; value = v } in
          record {
            pass = s.next-pass;
            made = w.made;
            both = s.heads false (has-none here (none s.key)) ∙ ap (λ (y : List Content). y ++ matching (map content s.next-pass.todo)) (append-nil w.made);
            count = w.count;
            short = omega (arith, w.short, l.lies.value_last);
            bound = l.bound;
            is = w.is;
          }

      module _ {piece : List ℕ} (has-piece : (key : List ℕ) → piece_in (record { code = f.code; key = key; value = v }) ≡ Some piece) where
        few : length piece ≤ f.vlen
        few =
            let s = standing in
            let is = (has (record { code = f.code; key = s.key; value = v }) (has-piece s.key)).1 in
            omega (arith, ap length is, length-drop 5 v, ap length is-v, part-most image (p + f.val) f.vlen)

        -- the piece of one that matches is added
        pub joining-adds : {out' : List ℕ} → end ≤ start + length d → out' ≡ copied out (unwrap_or len 0) piece →
            Joining d out' (p + f.size) (Some (unwrap_or len 0 + length piece))
        joining-adds fits is-out =
            let l = framed-lies Onie false image p end f reads in
            let s = standing in
            let c : Content = record { code = f.code; key = s.key; value = v } in
            let h = has c (has-piece s.key) in
            let at : ℕ = unwrap_or len 0 in
            let place : at ≡ length (joined w.made) = joining-place in
            let low : at + length piece ≤ length d = omega (arith, place, few, l.bound, l.lies.value_last, w.short, fits) in
            let long : length out ≡ length d = joining-length fits in
            let all-made : joined (w.made ++ (c ∷ [])) ≡ joined w.made ++ piece =
            joined-then w.made (c ∷ []) ∙ ap (λ (y : List ℕ). joined w.made ++ y) (joined-taken true c ∙ sym h.1) in
            record {
              pass = s.next-pass;
              made = w.made ++ (c ∷ []);
              both = s.heads true h.0;
              count = ap₂ (λ (m n : ℕ). Some (m + n)) place (ap length h.1) ∙ sym (length-more w.made c);
              short = omega (arith, w.short, few, l.lies.value_last, ap length all-made, length-append (joined w.made) piece);
              bound = l.bound;
              is =
                  is-out
                  ∙ copied-over out at piece (omega (arith, long, low))
                  ∙ ap (λ (y : List ℕ). over y at piece) w.is
                  ∙ over-over d 0 (joined w.made) piece at (omega arith) (omega (arith, place))
                  ∙ ap (over d 0) (sym all-made);
            }

    joining-done : w.pass.todo ≡ [] → end ≤ start + length d → (len ≡ joined_length all) × (out ≡ copied d 0 (joined all)) × (length (joined all) ≤ length d)
    joining-done none fits =
        let same : all ≡ w.made = w.both ∙ ap (λ (rs : List Raw). w.made ++ matching (map content rs)) none ∙ ap (λ (y : List Content). w.made ++ y) matching-none ∙ append-nil w.made in
        let few : length (joined all) ≤ length d = omega (arith, ap (λ (y : List Content). length (joined y)) same, w.short, w.bound, fits) in (
          rw (same, w.count),
          w.is ∙ ap (λ (y : List Content). over d 0 (joined y)) (sym same) ∙ sym (copied-over d 0 (joined all) (omega (arith, few))),
          few,
        )

    pub joining-over : next (shape Onie) false (part p (end - p) image) ≡ Ok None → end ≤ start + length d →
        (len ≡ joined_length all) × (out ≡ copied d 0 (joined all)) × (length (joined all) ≤ length d)
    joining-over q fits = joining-done (pass-ends (laws Onie) image end p false w.pass q) fits

    pub joining-unbroken : {A : Type 0} (k : ℕ) → next (shape Onie) false (part p (end - p) image) ≡ Err k → A
    joining-unbroken k q = absurd (pass-unbroken (laws Onie) image end p false k w.pass q)
