-- Which edits of an accepted image are taken: those of a named entry, with a value that meets its rule, where the edited image fits.
-- Assumes nothing.
use Prim.Native.Nat.{ℕ, zero, suc, ◌+◌, ◌-◌, ◌≤◌}
use mathlib.Core.Path.{◌≡◌, refl, ap}
use mathlib.Core.List.{List, [], ◌∷◌}
use mathlib.Core.Bool.{Bool, true, false}
use native.Mathlib.Omega.{arith}
use lib.ListN.{length, take, length-append}
use lib.Seq.{length-take-le}
use Rattle.std.specs.Prelude.{Ok}
use Rattle.layout.specs.declared.Format.{Format}
use Rattle.layout.specs.declared.Format.TheVariants.{Fboss, Vpd, Tiny, Onie}
use Rattle.layout.specs.declared.Entry.{Entry}
use Rattle.layout.specs.Shape.{Shape}
use Rattle.layout.specs.Editions.{shape, names}
use Rattle.layout.specs.Vpd.{vpd}
use Rattle.layout.specs.Walk.{Raw, flat}
use Rattle.layout.specs.Calls.{entry_of, entries_of}
use Rattle.layout.specs.Read.{limit}
use Rattle.layout.specs.Change.{laid, laid_out, Allowed, allowed, denied, in_place, change_allowed}
use Rattle.layout.specs.Edit.{revalued, edit_rule, edit}
use Rattle.laws.specs.Grammar.{grammar}
use Rattle.laws.proofs.Format.{KeyLast}
use Rattle.laws.proofs.Frames.{IsRaw, raw-size, raw-at}
use Rattle.laws.proofs.Walking.{Frames}
use Rattle.laws.proofs.Records.{raw-placed}
use Rattle.laws.proofs.Changing.{laid-flat}
use Rattle.laws.proofs.Editing.{Editable, may-editable, editable-may}
use Rattle.layout.proofs.Choices.{both}
use Rattle.laws.proofs.Formats.{laws}
use Rattle.laws.proofs.Calls.{Found}
use Rattle.promises.specs.Words.{Counts, Item, here, there, tells_edit}
use Rattle.promises.specs.Written.{Fits}
use Rattle.promises.specs.EditRule.{length_place, edited_size, Editable as EditableIn, Edits}
use Rattle.promises.proofs.Telling.{chosen-serves, changed-some}
use Rattle.promises.proofs.Naming.{named-names, names-named}
use Rattle.promises.proofs.Listing.{list_of}
use Rattle.promises.proofs.Written.{lens-size, image-size, allowed-fits}
use Rattle.promises.proofs.Output.{never-unwritten, put-fits}
use Rattle.promises.proofs.WriteCalls.{edited-low}
use Rattle.promises.proofs.Changes.{change-done}
use Rattle.promises.proofs.Accepted.{header-size, change-accepted, put-tells}

-- ---- the entry in the list

-- a named entry of the list whose rule the new value meets may be edited
item-editable : (S : Shape) (e p : ℕ) (rs : List Raw) (i : ℕ) (v : List ℕ) (x : Entry) → Item (entries_of S e p rs) i x →
    names S e x.code ≡ true → edit_rule S x.code v ≡ true → Editable S e rs i v
unfolding entries_of entry_of edit_rule
item-editable S e p (r ∷ rs) zero v x here n q = let b = both (S.length_rule r.frame.code (length v)) (S.value_rule r.frame.code v) q in (n, b)
item-editable S e p (r ∷ rs) (suc i) v x (there t) n q = item-editable S e (p + r.frame.size) rs i v x t n q
item-editable S e p [] i v x x5 n q = elim x5 [ ]

-- an entry of the list that may be edited
record Ruled (S : Shape) (e p : ℕ) (rs : List Raw) (i : ℕ) (v : List ℕ) : Type 0 where
  pub entry : Entry
  pub there : Item (entries_of S e p rs) i entry
  pub named : names S e entry.code ≡ true
  pub ruled : edit_rule S entry.code v ≡ true

editable-item : (S : Shape) (e p : ℕ) (rs : List Raw) (i : ℕ) (v : List ℕ) → Editable S e rs i v → Ruled S e p rs i v
unfolding entries_of entry_of edit_rule
editable-item S e p [] i v x = absurd x
editable-item S e p (r ∷ rs) zero v x = record { entry = entry_of S e p r; there = here; named = x.0; ruled = rw (x.1.0, x.1.1) }
editable-item S e p (r ∷ rs) (suc i) v x =
    let n = editable-item S e (p + r.frame.size) rs i v x in
    record { entry = n.entry; there = there n.there; named = n.named; ruled = n.ruled }

-- ---- sizes

-- the length of an entry's value begins where what opens it ends
length-place : (g : Format) (e p : ℕ) (r : Raw) → IsRaw (grammar g) r → length_place g (entry_of (shape g) e p r) ≡ p + r.frame.at
unfolding entry_of vpd
length-place Fboss e p r i = rw i.framed (omega (arith, ap length i.opens.is))
length-place Vpd e p r i =
    let k : KeyLast i.front i.key = (laws Vpd).opening_key i.front i.key i.code i.opens in
    rw i.framed (omega (arith, ap length k.joined, length-append k.before i.key))
length-place Tiny e p r i = rw i.framed (omega (arith, ap length i.opens.is))
length-place Onie e p r i = rw i.framed (omega (arith, ap length i.opens.is))

-- the bytes of entries with and without another value: what is common to both, and the length and value of the one entry
record Sizes (g : Format) (rs : List Raw) (i : ℕ) (x : Entry) (v : List ℕ) : Type 0 where
  pub common : ℕ
  pub was : length (flat rs) ≡ common + (x.value.place.0 + x.value.len - length_place g x)
  pub becomes : length (laid ((edit i v).entries (shape g) rs)) ≡ common + (length ((shape g).lens x.code (length v)) + length v)

item-sizes : (g : Format) (e p : ℕ) (b : Bool) (rs : List Raw) (i : ℕ) (v : List ℕ) (x : Entry) → Frames (shape g) (grammar g) b rs → Item (entries_of (shape g) e p rs) i x →
    Sizes g rs i x v
unfolding entries_of entry_of edit in_place laid revalued
item-sizes g e p b (r ∷ rs) zero v x fs here =
    let at = length-place g e p r fs.1 in
    let size = raw-size fs.1 in
    let opens = raw-at fs.1 in
    let ends = (raw-placed (laws g) r fs.1).value_last in
    let front : length (take r.frame.at r.bytes) ≡ r.frame.at = length-take-le r.frame.at r.bytes (omega arith) in
    record {
      common = r.frame.at + length (flat rs);
      was = rw at (omega (arith, length-append r.bytes (flat rs)));
      becomes = simp length-append (omega (arith, ap length (laid-flat rs)));
    }
item-sizes g e p b (r ∷ rs) (suc i) v x fs (there t) =
    let s = item-sizes g e (p + r.frame.size) ((shape g).last r.frame.code) rs i v x fs.2 t in
    record {
      common = length r.bytes + s.common;
      was = omega (arith, length-append r.bytes (flat rs), s.was);
      becomes = omega (arith, length-append r.bytes (laid ((edit i v).entries (shape g) rs)), s.becomes);
    }
item-sizes g e p b [] i v x fs x4 = elim x4 [ ]

-- ---- edits of an accepted image

module _ (f e : ℕ) (image : List ℕ) (n : ℕ) (x : Found f e image n) (i : ℕ) (v out : List ℕ) where
  abbrev g : Format
  g = x.format

  abbrev S : Shape
  S = shape g

  abbrev rs : List Raw
  rs = x.raws

  -- how long the edited image is
  edited-size : (y : Entry) → Item (entries_of S e x.start rs) i y → length (laid_out S ((edit i v).entries S rs)) ≡ edited_size g (x.start + length (flat rs)) y (length v)
  edited-size y t =
      let m = x.reading.made in
      let s = item-sizes g e x.start false rs i v y m.frames t in
      omega (arith, s.was, s.becomes, m.starts, header-size g (length (flat rs)), image-size g (laid ((edit i v).entries S rs)), lens-size g y.code (length v))

  taken_is : (tells_edit f e image i v out).number ≡ 0 → EditableIn f e image n (list_of f e image n x) i v out
  unfolding list_of
  taken_is q =
      let w = changed-some (edit i v) f e image out (edited-low f e image i v out) q in
      let s = (change-done (edit i v) f e image out w.0 w.1).short in
      go w.0 s ((edit i v).asks S e x.start rs) refl (rw (change-accepted (edit i v) f e image n x out s) at w.1)
    where
      go : (m : ℕ) → length out ≤ limit → (a : Allowed) → (edit i v).asks S e x.start rs ≡ a → (change_allowed a S ((edit i v).entries S rs) out).answer ≡ Ok m →
          EditableIn f e image n (list_of f e image n x) i v out
      go m s allowed a q =
          let r = editable-item S e x.start rs i v (may-editable S e x.start rs i v a) in
          let image' : List ℕ = laid_out S ((edit i v).entries S rs) in
          let within = put-fits S image' out m q in
          let fits : Fits g (length image') out = allowed-fits g (length image') out within.0 within.1 in
          record {
            entry = r.entry;
            there = r.there;
            named = names-named g e r.entry.code (chosen-serves f e g x.reading.known).edition r.named;
            ruled = r.ruled;
            short = s;
            fits = rw (edited-size r.entry r.there) at fits;
          }
      go m s (denied r) a q = never-unwritten q

  is_taken : (y : EditableIn f e image n (list_of f e image n x) i v out) →
      Counts (tells_edit f e image i v out) (edited_size (list_of f e image n x).format (list_of f e image n x).end y.entry (length v))
  unfolding list_of
  is_taken y =
      let image' : List ℕ = laid_out S ((edit i v).entries S rs) in
      let may = editable-may S e x.start rs i v (item-editable S e x.start rs i v y.entry y.there (named-names g e y.entry.code y.named) y.ruled) in
      let size = edited-size y.entry y.there in
      let fits : Fits g (length image') out = rw size y.fits in
      rw (← size, change-accepted (edit i v) f e image n x out y.short, may) (put-tells g image' out y.short fits)

pub edits : (f e : ℕ) (image : List ℕ) (n : ℕ) → Found f e image n → Edits f e image n
edits f e image n x = record { list = list_of f e image n x; taken_is = taken_is f e image n x; is_taken = is_taken f e image n x }
