-- An edit of one value: the edited entry is an entry of the grammar again, all others stay, and only that value differs.
-- Assumes nothing.
use Prim.Native.Nat.{ℕ, zero, suc, ◌+◌, ◌≤◌}
use mathlib.Core.Path.{◌≡◌, refl, ap, ap₂, sym, ◌∙◌}
use mathlib.Core.List.{List, [], ◌∷◌, ◌++◌, map}
use mathlib.Core.Bool.{Bool, true, false, ◌&&◌}
use native.Mathlib.Omega.{arith}
use lib.ListN.{length, take, length-append}
use lib.Seq.{take_at}
use Rattle.layout.specs.declared.Frame.{Frame}
use Rattle.layout.specs.declared.Head.{Head}
use Rattle.layout.specs.Bytes.{if, refusal}
use Rattle.layout.specs.Shape.{Shape, frame_of}
use Rattle.layout.specs.Walk.{Raw, Content, content}
use Rattle.layout.specs.Read.{limit, codes_of}
use Rattle.layout.specs.Change.{bytes_of, laid, allowed, denied, in_place}
use Rattle.layout.specs.Edit.{revalued, edit_rule, edit_asks, edit}
use Rattle.laws.specs.Contents.{valued, replaced}
use Rattle.laws.specs.Grammar.{Grammar}
use Rattle.laws.proofs.Format.{Laws}
use Rattle.laws.proofs.Frames.{IsRaw, raw-content}
use Rattle.laws.proofs.Walking.{Frames}
use Rattle.laws.proofs.Judging.{RuledAt, lawful-replaced}
use Rattle.laws.proofs.Changing.{raws_in_place, in-place-bytes, NamedAt, never-denied, may_at, at-may, Leaves}
use Rattle.layout.proofs.Choices.{both}

-- what stands before the length of a frame's value
abbrev pub head_of : Frame → Head
head_of f = record { code = f.code; key = f.key; klen = f.klen; at = f.at }

-- the entry with another value
unfoldable pub revalued_raw : Shape → Raw → List ℕ → Raw
revalued_raw S r v =
    record {
      bytes = revalued S r v;
      frame = frame_of (head_of r.frame) (length v) (r.frame.at + length (S.lens r.frame.code (length v)));
    }

-- entries with another value for entry i
abbrev pub edited_raws : Shape → List Raw → ℕ → List ℕ → List Raw
edited_raws S rs i v = raws_in_place (λ r. revalued_raw S r v ∷ []) rs i

-- they are the bytes that the edit puts
edited-bytes : (S : Shape) (rs : List Raw) (i : ℕ) (v : List ℕ) → bytes_of (edited_raws S rs i v) ≡ (edit i v).entries S rs
unfolding edit revalued_raw
edited-bytes S rs i v = in-place-bytes (λ r. revalued_raw S r v ∷ []) (λ r. revalued S r v ∷ []) (λ r. refl) rs i

-- the codes stay
edited-codes : (S : Shape) (rs : List Raw) (i : ℕ) (v : List ℕ) → codes_of (edited_raws S rs i v) ≡ codes_of rs
unfolding raws_in_place revalued_raw
edited-codes S [] i v = refl
edited-codes S (r ∷ rs) zero v = refl
edited-codes S (r ∷ rs) (suc i) v = ap (λ (x : List ℕ). r.frame.code ∷ x) (edited-codes S rs i v)

-- the new value meets the rules of a code
abbrev pub Takes : Shape → List ℕ → ℕ → Type 0
Takes S v c = (S.length_rule c (length v) ≡ true) × (S.value_rule c v ≡ true)

-- what an edit that is allowed may rely on: entry i is named, and the new value meets its rules
abbrev pub Editable : Shape → ℕ → List Raw → ℕ → List ℕ → Type 0
Editable S e rs i v = NamedAt (Takes S v) S e rs i

pub may-editable : (S : Shape) (e p : ℕ) (rs : List Raw) (i : ℕ) (v : List ℕ) → (edit i v).asks S e p rs ≡ allowed → Editable S e rs i v
unfolding edit edit_rule
may-editable S e p rs i v q = may_at (edit_asks S v) (Takes S v) S e takes p rs i q
  where
    takes : (c p : ℕ) → edit_asks S v c p ≡ allowed → Takes S v c
    takes c p q = go (S.length_rule c (length v) && S.value_rule c v) refl q
      where
        go : (t : Bool) → S.length_rule c (length v) && S.value_rule c v ≡ t → if t (λ _. allowed) (λ _. denied (refusal 7 p)) ≡ allowed → Takes S v c
        go true k q = both (S.length_rule c (length v)) (S.value_rule c v) k
        go false k q = never-denied q

-- and such an edit is allowed
pub editable-may : (S : Shape) (e p : ℕ) (rs : List Raw) (i : ℕ) (v : List ℕ) → Editable S e rs i v → (edit i v).asks S e p rs ≡ allowed
unfolding edit edit_rule
editable-may S e p rs i v x = at-may (edit_asks S v) (Takes S v) S e (λ c p t. rw (t.0, t.1)) p rs i x

-- the new value meets the rule of the entry
editable-ruled : (S : Shape) (e : ℕ) (rs : List Raw) (i : ℕ) (v : List ℕ) → Editable S e rs i v → RuledAt S (map content rs) i v
unfolding content
editable-ruled S e [] i v x = absurd x
editable-ruled S e (r ∷ rs) zero v x = x.1.1
editable-ruled S e (r ∷ rs) (suc i) v x = editable-ruled S e rs i v x

-- the new value is no longer than the entries laid out
pub value-shorter : (S : Shape) (e : ℕ) (rs : List Raw) (i : ℕ) (v : List ℕ) → Editable S e rs i v → length v ≤ length (laid ((edit i v).entries S rs))
unfolding edit in_place laid revalued
value-shorter S e [] i v x = absurd x
value-shorter S e (r ∷ rs) zero v x = simp length-append (omega arith)
value-shorter S e (r ∷ rs) (suc i) v x = let h = value-shorter S e rs i v x in simp length-append (omega arith)

-- an entry with another value, by its parts
pub revalued_is : (S : Shape) {G : Grammar} (r : Raw) (v : List ℕ) (i : IsRaw G r) → revalued S r v ≡ i.front ++ (S.lens i.code (length v) ++ v)
unfolding revalued
revalued_is S r v i =
    let code : r.frame.code ≡ i.code = ap (λ (f : Frame). f.code) i.framed in
    let at : r.frame.at ≡ length i.front = ap (λ (f : Frame). f.at) i.framed in
    let front : take r.frame.at r.bytes ≡ i.front = rw (i.is, at) (take_at i.front (i.lens ++ i.value) (length i.front) refl) in
    ap₂ (λ (x : List ℕ) (c : ℕ). x ++ (S.lens c (length v) ++ v)) front code

module _ {S : Shape} {G : Grammar} (L : Laws S G) where
  -- the entry with another value is an entry of the grammar, and says the same but for the value
  revalued-raw : (r : Raw) (v : List ℕ) → IsRaw G r → S.length_rule r.frame.code (length v) ≡ true → length v ≤ limit →
      IsRaw G (revalued_raw S r v) × (content (revalued_raw S r v) ≡ valued (content r) v)
  unfolding revalued_raw
  revalued-raw r v i ok short =
      let code : r.frame.code ≡ i.code = ap (λ (f : Frame). f.code) i.framed in
      let j : IsRaw G (revalued_raw S r v) =
      record {
        front = i.front;
        lens = S.lens i.code (length v);
        code = i.code;
        key = i.key;
        value = v;
        is = revalued_is S r v i;
        opens = i.opens;
        says = L.lens_made i.code (length v) (rw code at ok) short;
        framed = ap (λ (f : Frame). frame_of (head_of f) (length v) (f.at + length (S.lens f.code (length v)))) i.framed;
      } in
      let old : content r ≡ record { code = i.code; key = i.key; value = i.value } = raw-content L r i in
      (j, raw-content L (revalued_raw S r v) j ∙ sym (ap (λ (c : Content). valued c v) old))

  -- edited entries are entries of the grammar, and say the old list with the one value replaced
  edited-frames : (e : ℕ) (b : Bool) (rs : List Raw) (i : ℕ) (v : List ℕ) → Frames S G b rs → Editable S e rs i v → length v ≤ limit →
      Frames S G b (edited_raws S rs i v) × (map content (edited_raws S rs i v) ≡ replaced (map content rs) i v)
  unfolding raws_in_place replaced
  edited-frames e b [] i v fs x short = absurd x
  edited-frames e b (r ∷ rs) zero v fs x short =
      let j = revalued-raw r v fs.1 x.1.0 short in
      ((fs.0, j.0, kept fs.2), ap (λ (c : Content). c ∷ map content rs) j.1)
    where
      kept : Frames S G (S.last r.frame.code) rs → Frames S G (S.last (revalued_raw S r v).frame.code) rs
      kept fs = unfold revalued_raw in fs
  edited-frames e b (r ∷ rs) (suc i) v fs x short =
      let j = edited-frames e (S.last r.frame.code) rs i v fs.2 x short in
      ((fs.0, fs.1, j.0), ap (λ (cs : List Content). content r ∷ cs) j.1)

  -- an edit that is allowed, of entries that fit an image, leaves entries with the one value replaced
  pub edit-leaves : (o p : ℕ) (rs : List Raw) (i : ℕ) (v : List ℕ) → Frames S G false rs → (edit i v).asks S o p rs ≡ allowed → length (laid ((edit i v).entries S rs)) ≤ limit →
      Leaves S G rs (edited_raws S rs i v) ((edit i v).entries S rs) (λ a b. b ≡ replaced a i v)
  edit-leaves o p rs i v fs q short =
      let x = may-editable S o p rs i v q in
      let h = value-shorter S o rs i v x in
      let made = edited-frames o false rs i v fs x (omega arith) in
      record {
        bytes = edited-bytes S rs i v;
        frames = made.0;
        lawful = λ n l. rw made.1 (lawful-replaced S n [] (map content rs) i v (editable-ruled S o rs i v x) l);
        required = λ c. rw (edited-codes S rs i v) c;
        makes = made.1;
      }
