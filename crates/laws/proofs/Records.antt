-- Records of entries: what their places point at in the image is what the entries say, and they tile it.
-- Assumes nothing.
use Prim.Native.Nat.{ℕ, suc, ◌+◌, ◌≤◌, ◌<◌}
use mathlib.Core.Path.{◌≡◌, refl, ap, ap₂, sym, subst, ◌∙◌}
use mathlib.Core.List.{List, [], ◌∷◌, ◌++◌, append_assoc, map}
use mathlib.Core.Bool.{Bool, true, false}
use native.Mathlib.Omega.{arith}
use lib.ListN.{length, drop, length-append, length-drop}
use lib.Seq.{drop-append-add, drop-append-le, take-append-le}
use Rattle.layout.specs.declared.Frame.{Frame}
use Rattle.layout.specs.Bytes.{part}
use Rattle.layout.specs.Shape.{Shape}
use Rattle.layout.specs.Walk.{Raw, Content, content, flat}
use Rattle.layout.specs.Calls.{key_part, entry_of, entries_of}
use Rattle.laws.specs.Contents.{said, Tiles}
use Rattle.laws.specs.Grammar.{Grammar}
use Rattle.laws.proofs.Format.{Laws, KeyLast}
use Rattle.laws.proofs.Frames.{IsRaw, raw-size, raw-content}
use Rattle.laws.proofs.Walking.{Frames}

-- a part of a list that stands inside another
part-inside : (a n p : ℕ) (pre b t : List ℕ) → length pre ≡ p → a + n ≤ length b → part (p + a) n (pre ++ (b ++ t)) ≡ part a n b
unfolding part
part-inside a n p pre b t e le =
    rw (← e, drop-append-add pre (b ++ t) a, drop-append-le a b t (omega arith), take-append-le n (drop a b) t (omega (arith, length-drop a b)))

part_none : (a : ℕ) (s : List ℕ) → part a 0 s ≡ []
unfolding part
part_none a s = refl

-- where the parts of a frame stand in it
pub record Placed (r : Raw) : Type 0 where
  pub key_after : 0 < r.frame.key
  pub key_in : r.frame.key + r.frame.klen ≤ r.frame.val
  pub value_last : r.frame.val + r.frame.vlen ≡ r.frame.size

module _ {S : Shape} {G : Grammar} (L : Laws S G) where
  pub raw-placed : (r : Raw) → IsRaw G r → Placed r
  raw-placed r i =
      let k : KeyLast i.front i.key = L.opening_key i.front i.key i.code i.opens in
      let long : length i.front ≡ length k.before + length i.key = ap length k.joined ∙ length-append k.before i.key in
      rw i.framed (record { key_after = omega (arith, k.some); key_in = omega (arith, k.some); value_last = refl })

  -- a record's key is the entry's key
  key-said : (b : Bool) → S.keyed ≡ b → (r : Raw) (p : ℕ) (pre t : List ℕ) → IsRaw G r → length pre ≡ p →
      part (key_part b p r).place.0 (key_part b p r).len (pre ++ (r.bytes ++ t)) ≡ (content r).key
  unfolding content
  key-said true y r p pre t i e =
      let w = raw-placed r i in
      part-inside r.frame.key r.frame.klen p pre r.bytes t e (omega (arith, raw-size i, w.key_in, w.value_last))
  key-said false y r p pre t i e =
      part_none (p + r.frame.val) (pre ++ (r.bytes ++ t))
      ∙ sym (ap (λ (c : Content). c.key) (raw-content L r i) ∙ L.keyless i.front i.key i.code y i.opens)

  -- the record of an entry says what the entry says
  pub entry-said : (e p : ℕ) (r : Raw) (pre t : List ℕ) → IsRaw G r → length pre ≡ p → said (pre ++ (r.bytes ++ t)) (entry_of S e p r) ≡ content r
  unfolding said content entry_of
  entry-said e p r pre t i q =
      let w = raw-placed r i in
      rw (key-said S.keyed refl r p pre t i q, part-inside r.frame.val r.frame.vlen p pre r.bytes t q (omega (arith, raw-size i, w.value_last)))

  -- the records of entries say what the entries say
  pub records-said : (e : ℕ) (b : Bool) (rs : List Raw) (p : ℕ) (pre t : List ℕ) → Frames S G b rs → length pre ≡ p →
      map (said (pre ++ (flat rs ++ t))) (entries_of S e p rs) ≡ map content rs
  unfolding entries_of
  records-said e b [] p pre t fs q = refl
  records-said e b (r ∷ rs) p pre t fs q =
      let here : pre ++ ((r.bytes ++ flat rs) ++ t) ≡ pre ++ (r.bytes ++ (flat rs ++ t)) = ap (λ (x : List ℕ). pre ++ x) (append_assoc r.bytes (flat rs) t) in
      let there : (pre ++ r.bytes) ++ (flat rs ++ t) ≡ pre ++ (r.bytes ++ (flat rs ++ t)) = append_assoc pre r.bytes (flat rs ++ t) in
      let rest = records-said e (S.last r.frame.code) rs (p + r.frame.size) (pre ++ r.bytes) t fs.2 (omega (arith, length-append pre r.bytes, raw-size fs.1)) in
      subst (λ (x : List ℕ). map (said x) (entries_of S e p (r ∷ rs)) ≡ map content (r ∷ rs)) (sym here)
      (ap₂ (λ (x : Content) (xs : List Content). x ∷ xs) (entry-said e p r pre (flat rs ++ t) fs.1 q) (rw there at rest))

  key-placed : (b : Bool) (p : ℕ) (r : Raw) → Placed r →
      (p < (key_part b p r).place.0) × ((key_part b p r).place.0 + (key_part b p r).len ≤ p + r.frame.val)
  key-placed true p r w = (omega (arith, w.key_after), omega (arith, w.key_in))
  key-placed false p r w = (omega (arith, w.key_after, w.key_in), omega arith)

  -- and tile the bytes of the entries
  pub records-tile : (e : ℕ) (b : Bool) (rs : List Raw) (p : ℕ) → Frames S G b rs → Tiles p (entries_of S e p rs) (p + length (flat rs))
  unfolding entries_of entry_of
  records-tile e b [] p fs = omega arith
  records-tile e b (r ∷ rs) p fs =
      let w = raw-placed r fs.1 in
      let k = key-placed S.keyed p r w in
      let here : p + r.frame.val + r.frame.vlen ≡ p + r.frame.size = omega (arith, w.value_last) in
      let there : p + length (r.bytes ++ flat rs) ≡ p + r.frame.size + length (flat rs) = omega (arith, length-append r.bytes (flat rs), raw-size fs.1) in
      (refl, k.0, k.1, here, rw there (records-tile e (S.last r.frame.code) rs (p + r.frame.size) fs.2))

-- ---- one record for each entry

pub entries_none : (S : Shape) (e p : ℕ) → entries_of S e p [] ≡ []
unfolding entries_of
entries_none S e p = refl

pub entries-more : (S : Shape) (e p : ℕ) (r : Raw) (rs : List Raw) (f : Frame) → r.frame ≡ f → entries_of S e p (r ∷ rs) ≡ entry_of S e p r ∷ entries_of S e (p + f.size) rs
unfolding entries_of
entries-more S e p r rs f z = rw (← z)

pub entries-count : (S : Shape) (e p : ℕ) (rs : List Raw) → length (entries_of S e p rs) ≡ length rs
unfolding entries_of
entries-count S e p [] = refl
entries-count S e p (r ∷ rs) = ap suc (entries-count S e (p + r.frame.size) rs)
