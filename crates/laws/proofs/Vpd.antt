-- VPD 2.0 meets the laws of a format.
-- Assumes nothing.
use Prim.Native.Nat.{ℕ, suc, ◌+◌, ◌-◌, ◌≤◌, ◌<◌}
use mathlib.Core.Path.{◌≡◌, refl, ap, sym, ◌∙◌}
use mathlib.Core.List.{List, [], ◌∷◌, ◌++◌, append_assoc}
use mathlib.Core.Logic.{◌⊎◌, inl, inr, ⊎_elim}
use mathlib.Core.Bool.{Bool, true, false, ◌&&◌, false≢true, and-eq-true_iff}
use native.Mathlib.Omega.{arith}
use lib.ListN.{length, take, drop, length-append, take-append-drop}
use lib.Seq.{take_all, length-take-le}
use lib.Dec.{ltb, leb, eqb}
use borrow.Author.Tests.{lt-ltb, leb-true, le-leb, eqb-true}
use Rattle.std.specs.Prelude.{Ok, Err, Some, None}
use Rattle.layout.proofs.Pairs.{ok-pair}
use Rattle.layout.specs.Answers.{Headed, Length}
use Rattle.layout.specs.Bytes.{if, between, all, part}
use Rattle.layout.specs.Editions.{names, since_in}
use Rattle.layout.specs.Vpd.{vpd, vpd_head, keyed_head, groups, key_byte, vpd_reader_key, vpd_writer_key, shortest}
use Rattle.layout.specs.Each.{Each, also}
use Rattle.laws.specs.Grammar.{vpd_grammar, VpdOpening}
use Rattle.laws.proofs.Format.{head_from, Begins, Wholly, Laws}
use Rattle.layout.proofs.Lists.{each_left}
use Rattle.laws.proofs.LengthBytes.{Said, groups-sound, groups-complete, shortest-says, shortest-least}

-- a code that opens an entry
abbrev Typed : ℕ → Type 0
Typed c = (c ≡ 0x01) ⊎ (c ≡ 0xFE)

-- ---- heads

nonempty : (t : List ℕ) → ltb 0 (suc (length t)) ≡ true
nonempty t = lt-ltb 0 (suc (length t)) (omega arith)

keyed-head : {c : ℕ} (t : List ℕ) → Typed c → vpd_head (c ∷ t) ≡ keyed_head (groups 4 0 1 (c ∷ t)) (c ∷ t)
unfolding vpd_head
keyed-head t (inl e) = rw (e, nonempty t)
keyed-head t (inr e) = rw (e, nonempty t)

closing-ends : (z t : List ℕ) → vpd_grammar.Closing z → vpd_head (z ++ t) ≡ Ok None
unfolding vpd_head
closing-ends z t (inl e) = rw (e, nonempty t)
closing-ends z t (inr e) = rw (e, nonempty t)

head-from : (c : ℕ) (lens key : List ℕ) →
    record { code = c; key = 1 + length lens; klen = length key; at = 1 + length lens + length key } ≡ head_from (c ∷ (lens ++ key)) c key
head-from c lens key =
    let a : suc (length (lens ++ key)) ≡ 1 + length lens + length key = omega (arith, length-append lens key) in
    let k : 1 + length lens + length key - length key ≡ 1 + length lens = omega arith in
    rw (a, k)

head-made : (front key t : List ℕ) (c : ℕ) → VpdOpening front c key → vpd_head (front ++ t) ≡ Ok (Some (head_from front c key))
head-made front key t c o =
    let fits : 1 + length o.lens + length key ≤ suc (length (o.lens ++ (key ++ t))) = simp length-append (omega arith) in
    rw (o.is, keyed-head _ o.typed, append_assoc o.lens key t, groups-complete o.says 1 (c ∷ []) (key ++ t) refl, le-leb)
    (ap (λ x. Ok (Some x)) (head-from c o.lens key))

begins : {c n j : ℕ} {t : List ℕ} → Typed c → Said 4 0 1 (c ∷ t) n j → j + n ≤ suc (length t) →
    Begins vpd_grammar (c ∷ t) (record { code = c; key = j; klen = n; at = j + n })
begins {c} {n} {j} {t} typed m fits =
    let k : length (take n m.rest) ≡ n = length-take-le n m.rest (omega (arith, simp length-append at (ap length m.joined))) in
    record {
      front = c ∷ (m.bytes ++ take n m.rest);
      key = take n m.rest;
      rest = drop n m.rest;
      joined = rw (append_assoc, take-append-drop) (ap (λ (l : List ℕ). c ∷ l) m.joined);
      opens = record { lens = m.bytes; is = refl; says = rw k m.says; typed = typed };
      says = cc (m.ends, k, head-from c m.bytes (take n m.rest));
    }

-- what stands at the front of s, where this is read as its head
abbrev Front : List ℕ → Headed → Type 0
Front s (Ok (Some h)) = Begins vpd_grammar s h
Front s (Ok None) = Wholly vpd vpd_grammar s []
Front s (Err n) = Unit {0}

head-reads : (s : List ℕ) → Front s (vpd_head s)
unfolding vpd_head vpd
head-reads [] = tt
head-reads (c ∷ t) = go (eqb c 0x00) (eqb c 0xFF) (eqb c 0x01) (eqb c 0xFE) refl refl refl refl
  where
    closed : vpd_grammar.Closing (c ∷ []) → Front (c ∷ t) (vpd_head (c ∷ t))
    closed z = rw (closing-ends (c ∷ []) t z) (record { closing = c ∷ []; rest = t; closes = z; takes = tt; is = refl })

    fits : {n j : ℕ} → Typed c → groups 4 0 1 (c ∷ t) ≡ Ok (n, j) → (b : Bool) → leb (j + n) (suc (length t)) ≡ b →
        Front (c ∷ t) (if b (λ _. Ok (Some (record { code = c; key = j; klen = n; at = j + n }))) (λ _. Err 5))
    fits {n} {j} typed g true e = begins typed (groups-sound 4 0 1 (c ∷ t) n j g) (leb-true (j + n) (suc (length t)) e)
    fits typed g false e = tt

    keyed : Typed c → (x : Length) → groups 4 0 1 (c ∷ t) ≡ x → Front (c ∷ t) (keyed_head x (c ∷ t))
    keyed typed (Ok (n, j)) g = fits typed g (leb (j + n) (suc (length t))) refl
    keyed typed (Err n) g = tt

    opened : Typed c → Front (c ∷ t) (vpd_head (c ∷ t))
    opened typed = rw (keyed-head t typed) (keyed typed (groups 4 0 1 (c ∷ t)) refl)

    go : (b₀ b₁ b₂ b₃ : Bool) → eqb c 0x00 ≡ b₀ → eqb c 0xFF ≡ b₁ → eqb c 0x01 ≡ b₂ → eqb c 0xFE ≡ b₃ → Front (c ∷ t) (vpd_head (c ∷ t))
    go true b₁ b₂ b₃ e₀ e₁ e₂ e₃ = closed (rw (eqb-true c 0x00 e₀) (inl refl))
    go false true b₂ b₃ e₀ e₁ e₂ e₃ = closed (rw (eqb-true c 0xFF e₁) (inr refl))
    go false false true b₃ e₀ e₁ e₂ e₃ = opened (inl (eqb-true c 0x01 e₂))
    go false false false true e₀ e₁ e₂ e₃ = opened (inr (eqb-true c 0xFE e₃))
    go false false false false e₀ e₁ e₂ e₃ = rw (nonempty t, e₀, e₁, e₂, e₃) tt

-- ---- codes

between-same : (a x : ℕ) → between a a x ≡ true → x ≡ a
between-same a x e = let b = (and-eq-true_iff (leb a x) (leb x a)).0 e in omega (arith, leb-true a x b.0, leb-true x a b.1)

named : (e c : ℕ) → names vpd e c ≡ true → Typed c
unfolding names since_in vpd
named e c h = go (between 0x01 0x01 c) (between 0xFE 0xFE c) refl refl
  where
    go : (b₀ b₁ : Bool) → between 0x01 0x01 c ≡ b₀ → between 0xFE 0xFE c ≡ b₁ → Typed c
    go true b₁ e₀ e₁ = inl (between-same 0x01 c e₀)
    go false true e₀ e₁ = inr (between-same 0xFE c e₁)
    go false false e₀ e₁ = absurd (false≢true (rw (e₀, e₁) at h))

-- no bytes open an entry shorter than with the shortest length of its key
opening-least : (c : ℕ) (key l : List ℕ) → Each (λ b. b < 256) l → VpdOpening l c key → suc (length (shortest (length key) ++ key)) ≤ length l
opening-least c key l bytes o =
    let least = go (rw o.is at bytes) in
    omega (arith, ap length o.is, length-append (shortest (length key)) key, length-append o.lens key)
  where
    go : Each (λ b. b < 256) (c ∷ (o.lens ++ key)) → length (shortest (length key)) ≤ length o.lens
    go (also b bs) = shortest-least (each_left o.lens key bs) o.says

-- the writer's test of a key is the reader's, and that of its bytes
pub writer-key : (c : ℕ) (key : List ℕ) → vpd_writer_key c key ≡ (vpd_reader_key c key && if (eqb c 0x01) (λ _. all key_byte key) (λ _. true))
unfolding vpd_reader_key vpd_writer_key
writer-key c key = go (eqb c 0x01)
  where
    go : (b : Bool) → if b (λ _. ltb 0 (length key) && all key_byte key) (λ _. true) ≡ (if b (λ _. ltb 0 (length key)) (λ _. true) && if b (λ _. all key_byte key) (λ _. true))
    go true = refl
    go false = refl

-- VPD 2.0 reads exactly what its grammar writes, and writes what it reads
pub vpd-laws : Laws vpd vpd_grammar
unfolding vpd part
vpd-laws =
    record {
      opening_key = λ front key c o. record { before = c ∷ o.lens; joined = o.is; some = omega arith };
      opening_first = λ front key c o. (o.lens ++ key, o.is);
      keyless = λ front key c e o. absurd (false≢true (sym e));
      head_sound = λ b s h e. rw e at (head-reads s);
      head_complete = head-made;
      head_shut = λ c s h e o. false≢true e;
      head_ends = λ b c s e. e;
      vlen_sound = λ s h v j le e.
          let m = groups-sound 4 0 h.at s v j e in
          record { lens = m.bytes; rest = m.rest; joined = m.joined; says = m.says; ends = m.ends };
      vlen_complete = λ a lens t h v e says. groups-complete says h.at a t e;
      opening_made = λ e c key h le bare. record { lens = _; is = refl; says = shortest-says (length key); typed = named e c h };
      opening_long = λ c key bare. omega (arith, length-append (shortest (length key)) key);
      opening_shortest = opening-least;
      lens_made = λ c n h le. shortest-says n;
      lens_shortest = λ c n l bytes says. shortest-least bytes says;
      key_made = λ c key h. ((and-eq-true_iff (vpd_reader_key c key) (if (eqb c 0x01) (λ _. all key_byte key) (λ _. true))).0 (sym (writer-key c key) ∙ h)).0;
      closing_made = inl refl;
      closing_length = λ z. ⊎_elim (λ e. ap length e) (λ e. ap length e);
      takes_made = λ entries le. tt;
      room_made = λ entries z t closing fits.
          record {
            end = length (entries ++ (z ++ t));
            rest = z ++ t;
            opened = refl;
            room = take_all (length (entries ++ (z ++ t)) - 0) (entries ++ (z ++ t)) (omega arith);
            ends = λ b. closing-ends z t closing;
            filled = refl;
          };
      room_sound = λ b image entries rest start end o r e filled.
          let from : start ≡ 0 = sym (ok-pair o).0 in
          let to : end ≡ length image = sym (ok-pair o).1 in
          let w : Wholly vpd vpd_grammar rest [] = rw e at (head-reads rest) in
          let all = take_all (length image - 0) image (omega arith) in
          (from, record { closing = w.closing; rest = w.rest; closes = w.closes; takes = tt; is = cc (all, rw (from, to) at r, w.is) });
    }
