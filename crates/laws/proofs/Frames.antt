-- One frame of any format that meets the laws: what is read is what the grammar writes.
-- Assumes nothing.
use Prim.Native.Nat.{ℕ, ◌+◌, ◌-◌, ◌≤◌, ◌<◌}
use mathlib.Core.Path.{◌≡◌, refl, ap, sym, ◌∙◌}
use mathlib.Core.List.{List, [], ◌++◌, append_assoc, append-nil}
use mathlib.Core.Bool.{Bool, true, false}
use native.Mathlib.Omega.{arith}
use lib.ListN.{length, take, drop, length-append, length-take}
use lib.Seq.{take_at, drop_at, take-append-add, length-take-le}
use lib.Dec.{leb}
use borrow.Author.Tests.{leb-true, le-leb}
use Rattle.std.specs.Prelude.{Ok, Err, Some, None}
use Rattle.layout.specs.declared.Head.{Head}
use Rattle.layout.specs.Answers.{Headed, Length, Next}
use Rattle.layout.specs.declared.Frame.{Frame}
use Rattle.layout.specs.Bytes.{if, part}
use Rattle.layout.specs.Shape.{Shape, frame_of, on_length, on_head, next}
use Rattle.layout.specs.Walk.{Raw, content}
use Rattle.laws.specs.Grammar.{Grammar}
use Rattle.laws.proofs.Format.{Laws, head_from, Begins, Goes, KeyLast}

-- the frame at the front of s, with its bytes
abbrev pub raw_of : Frame → List ℕ → Raw
raw_of f s = record { bytes = take f.size s; frame = f }

-- the frame of an entry that is so made
abbrev pub frame_from : List ℕ → List ℕ → ℕ → List ℕ → List ℕ → Frame
frame_from front lens code key value = frame_of (head_from front code key) (length value) (length front + length lens)

-- these bytes are an entry of the grammar, and this is its frame
pub record IsRaw (G : Grammar) (r : Raw) : Type 0 where
  pub front : List ℕ
  pub lens : List ℕ
  pub code : ℕ
  pub key : List ℕ
  pub value : List ℕ
  pub is : r.bytes ≡ front ++ (lens ++ value)
  pub opens : G.Opening front code key
  pub says : G.Says code lens (length value)
  pub framed : r.frame ≡ frame_from front lens code key value

-- a frame is as long as its bytes
pub raw-size : {G : Grammar} {r : Raw} → IsRaw G r → length r.bytes ≡ r.frame.size
raw-size i = rw (i.is, i.framed) (simp length-append (omega arith))

-- what opens an entry lies inside it
pub raw-at : {G : Grammar} {r : Raw} → IsRaw G r → r.frame.at ≤ r.frame.size
raw-at i = rw i.framed (omega arith)

-- a part that stands between two others
pub part-between : (a x z : List ℕ) (n : ℕ) → length a ≡ n → part n (length x) (a ++ (x ++ z)) ≡ x
unfolding part
part-between a x z n e = rw (drop_at a (x ++ z) n e, take_at x z (length x) refl)

-- the key that an opening ends with
pub part-key : (front key t : List ℕ) → KeyLast front key → part (length front - length key) (length key) (front ++ t) ≡ key
part-key front key t k =
    let whole : front ++ t ≡ k.before ++ (key ++ t) = ap (λ (x : List ℕ). x ++ t) k.joined ∙ append_assoc k.before key t in
    rw whole (part-between k.before key t (length front - length key) (omega (arith, length-append k.before key, ap length k.joined)))

-- where the head says that the entries end, no frame stands
pub next-ends : (S : Shape) (b : Bool) (s : List ℕ) → S.head b s ≡ Ok None → next S b s ≡ Ok None
unfolding next
next-ends S b s e = rw e

module _ {S : Shape} {G : Grammar} (L : Laws S G) where
  -- an entry of the grammar is read as its frame, whatever follows
  pub raw-reads : (r : Raw) (t : List ℕ) → IsRaw G r → next S false (r.bytes ++ t) ≡ Ok (Some r.frame)
  unfolding next
  raw-reads r t i =
      let v = i.value in
      let h = head_from i.front i.code i.key in
      let whole : r.bytes ++ t ≡ i.front ++ (i.lens ++ (v ++ t)) = rw i.is (simp append_assoc) in
      let long : length i.front + length i.lens + length v ≤ length (i.front ++ (i.lens ++ (v ++ t))) = simp length-append (omega arith) in
      rw (whole, i.framed, L.head_complete i.front i.key (i.lens ++ (v ++ t)) i.code i.opens, L.vlen_complete i.front i.lens (v ++ t) h (length v) refl i.says, le-leb (length i.front + length i.lens + length v) (length (i.front ++ (i.lens ++ (v ++ t)))) long)

  -- and says its code, key and value
  pub raw-content : (r : Raw) (i : IsRaw G r) → content r ≡ record { code = i.code; key = i.key; value = i.value }
  unfolding content
  raw-content r i =
      let keyIs : part (length i.front - length i.key) (length i.key) r.bytes ≡ i.key
      = rw i.is (part-key i.front i.key (i.lens ++ i.value) (L.opening_key i.front i.key i.code i.opens)) in
      let wholeValue : r.bytes ≡ (i.front ++ i.lens) ++ (i.value ++ []) = i.is ∙ sym (simp (append_assoc, append-nil)) in
      let valueIs : part (length i.front + length i.lens) (length i.value) r.bytes ≡ i.value = rw wholeValue (part-between (i.front ++ i.lens) i.value [] (length i.front + length i.lens) (length-append i.front i.lens)) in
      rw (i.framed, keyIs, valueIs)

  -- bytes that the grammar opens, with a length and enough bytes after it, are an entry
  read_made : (front lens rest key : List ℕ) (c v : ℕ) → G.Opening front c key → G.Says c lens v → v ≤ length rest →
      IsRaw G (raw_of (frame_of (head_from front c key) v (length front + length lens)) (front ++ (lens ++ rest)))
  read_made front lens rest key c v o y le =
      let lv : length (take v rest) ≡ v = length-take-le v rest le in
      let size : length front + length lens + v ≡ length front + (length lens + v) = omega arith in
      record {
        front = front;
        lens = lens;
        code = c;
        key = key;
        value = take v rest;
        is = rw (size, take-append-add front (lens ++ rest) (length lens + v), take-append-add lens rest v);
        opens = o;
        says = rw lv y;
        framed = rw lv;
      }

  read-room : (s : List ℕ) (h : Head) (v j : ℕ) (f : Frame) (t : Bool) → leb (j + v) (length s) ≡ t → Begins G s h → Goes G s h v j →
      if {A = Next} t (λ _. Ok (Some (frame_of h v j))) (λ _. Err 5) ≡ Ok (Some f) → IsRaw G (raw_of f s)
  read-room s h v j f false e b g q = let z : ◌≡◌ {A = ℕ} 0 1 = cc in absurd (omega arith)
  read-room s h v j f true e b g q =
      let at : h.at ≡ length b.front = ap (λ (x : Head). x.at) b.says in
      let after : b.rest ≡ g.lens ++ g.rest = sym (drop_at b.front b.rest h.at (sym at)) ∙ ap (drop h.at) (sym b.joined) ∙ g.joined in
      let whole : s ≡ b.front ++ (g.lens ++ g.rest) = b.joined ∙ ap (λ (x : List ℕ). b.front ++ x) after in
      let same : f ≡ frame_of (head_from b.front h.code b.key) v (length b.front + length g.lens)
      = cc (b.says, g.ends, at) in
      let long : length s ≡ length b.front + (length g.lens + length g.rest) = ap length whole ∙ simp length-append refl in
      rw (same, whole)
      (read_made b.front g.lens g.rest b.key h.code v b.opens g.says (let r = leb-true (j + v) (length s) e in omega (arith, g.ends)))

  read_length : (s : List ℕ) (h : Head) (f : Frame) (x : Length) → S.vlen h s ≡ x → Begins G s h → on_length x h s ≡ Ok (Some f) → IsRaw G (raw_of f s)
  read_length s h f (Ok (v, j)) e b q =
      let at : h.at ≡ length b.front = ap (λ (x : Head). x.at) b.says in
      let fits : h.at ≤ length s = rw b.joined (omega (arith, length-append b.front b.rest)) in
      read-room s h v j f (leb (j + v) (length s)) refl b (L.vlen_sound s h v j fits e) q
  read_length s h f (Err n) e b q = let z : ◌≡◌ {A = ℕ} 0 1 = cc in absurd (omega arith)

  read_head : (b : Bool) (s : List ℕ) (f : Frame) (x : Headed) → S.head b s ≡ x → on_head x S s ≡ Ok (Some f) → IsRaw G (raw_of f s)
  read_head b s f (Ok (Some h)) e q = read_length s h f (S.vlen h s) refl (L.head_sound b s h e) q
  read_head b s f (Ok None) e q = let z : ◌≡◌ {A = ℕ} 0 1 = cc in absurd (omega arith)
  read_head b s f (Err n) e q = let z : ◌≡◌ {A = ℕ} 0 1 = cc in absurd (omega arith)

  -- what is read as a frame is an entry of the grammar
  pub framed-raw : (b : Bool) (s : List ℕ) (f : Frame) → next S b s ≡ Ok (Some f) → IsRaw G (raw_of f s)
  unfolding next
  framed-raw b s f q = read_head b s f (S.head b s) refl q

  -- a frame has at least one byte
  pub raw-some : (r : Raw) → IsRaw G r → 0 < r.frame.size
  raw-some r i =
      let k : KeyLast i.front i.key = L.opening_key i.front i.key i.code i.opens in
      rw i.framed (omega (arith, k.some, ap length k.joined, length-append k.before i.key))

  -- and lies inside the bytes that it was read from
  pub framed-in : (b : Bool) (s : List ℕ) (f : Frame) → next S b s ≡ Ok (Some f) → (0 < f.size) × (f.size ≤ length s)
  framed-in b s f q =
      let i = framed-raw b s f q in
      (raw-some (raw_of f s) i, omega (arith, raw-size i, length-take f.size s))

  -- nothing opens after an entry that none may follow
  pub framed-open : (c : ℕ) (s : List ℕ) (f : Frame) → next S (S.last c) s ≡ Ok (Some f) → S.last c ≡ false
  unfolding next
  framed-open c s f q = go (S.last c) refl q
    where
      heads : (x : Headed) → S.head true s ≡ x → S.last c ≡ true → on_head x S s ≡ Ok (Some f) → ⊥
      heads (Ok (Some h)) e l q = L.head_shut c s h l e
      heads (Ok None) e l q = let z : ◌≡◌ {A = ℕ} 0 1 = cc in omega arith
      heads (Err n) e l q = let z : ◌≡◌ {A = ℕ} 0 1 = cc in omega arith

      go : (b : Bool) → S.last c ≡ b → on_head (S.head b s) S s ≡ Ok (Some f) → b ≡ false
      go true e q = absurd (heads (S.head true s) refl e q)
      go false e q = refl
