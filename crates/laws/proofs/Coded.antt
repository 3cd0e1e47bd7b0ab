-- Formats of one code byte and one length byte meet the laws, where their rooms do. What differs is the code and the length of what ends an image, and its header.
-- Assumes nothing.
use Prim.Native.Nat.{ℕ, ◌+◌, ◌-◌, ◌≤◌, ◌<◌}
use mathlib.Core.Path.{◌≡◌, refl, ap, sym, ◌∙◌}
use mathlib.Core.List.{List, [], ◌∷◌, ◌++◌}
use mathlib.Core.Bool.{false}
use native.Mathlib.Omega.{arith}
use lib.ListN.{length, get_or, drop}
use lib.Dec.{ltb, leb, eqb}
use borrow.Author.Tests.{ltb-true, lt-ltb, le-leb, leb-true, eqb-false, eq-eqb, ne_eqb}
use Rattle.std.specs.Prelude.{Ok, None}
use Rattle.layout.specs.Answers.{Headed}
use Rattle.layout.specs.Bytes.{part}
use Rattle.layout.specs.Shape.{fine, coded_head, Coded, coded}
use Rattle.layout.specs.Editions.{names}
use Rattle.layout.specs.Write.{image_of}
use Rattle.laws.specs.Grammar.{coded_grammar}
use Rattle.laws.proofs.Format.{Laws, Begins, Holds, Wholly}
use Rattle.layout.proofs.Choices.{false-true, either}
use Rattle.laws.proofs.Outcomes.{OnHeaded}
use Rattle.layout.proofs.Lists.{byte_at}
use Rattle.laws.proofs.OneByte.{bare-key, bare-begins, byte-goes, byte-read}

module _ (takes : ℕ → Type 0) (end size : ℕ) where
  -- what a head tells of the bytes that it stands for: they begin with an opening, or with the closing, whose value is there
  abbrev Heads : List ℕ → Headed → Type 0
  Heads s = OnHeaded (Begins (coded_grammar end size takes) s) ((s ≡ end ∷ size ∷ drop 2 s) × (2 + size ≤ length s))

  -- What `coded_head` answers is so.
  pub heads : (s : List ℕ) → Heads s (coded_head end size s)
  unfolding coded_head
  heads s =
      either (Heads s) (ltb 0 (length s))
      (λ there. either (Heads s) (eqb (get_or s 0 0) 0) (λ _. tt)
      (λ not0. either (Heads s) (eqb (get_or s 0 0) 255) (λ _. tt)
      (λ not255. either (Heads s) (eqb (get_or s 0 0) end)
      (λ isEnd. either (Heads s) (ltb 1 (length s))
      (λ long. either (Heads s) (eqb (get_or s 1 0) size)
      (λ isSize. either (Heads s) (leb (2 + size) (length s))
      (λ fits.
      let l : 1 < length s = ltb-true 1 (length s) long in
      (cc (byte_at s 0 end (omega arith) isEnd, byte_at s 1 size l isSize), leb-true (2 + size) (length s) fits))
      (λ _. tt))
      (λ _. tt))
      (λ _. tt))
      (λ not_end. bare-begins s there
      (record {
        is = refl;
        keyless = refl;
        not0 = eqb-false (get_or s 0 0) 0 not0;
        not255 = eqb-false (get_or s 0 0) 255 not255;
        not_end = eqb-false (get_or s 0 0) end not_end;
      })))))
      (λ _. tt)

-- The closing ends the entries, where its value is there and its code is none of those that are none.
pub closing-ends : (end size : ℕ) (t : List ℕ) → (end ≡ 0 → ⊥) → (end ≡ 255 → ⊥) → size ≤ length t → coded_head end size (end ∷ size ∷ t) ≡ Ok None
unfolding coded_head
closing-ends end size t not0 not255 le =
    let s : List ℕ = end ∷ size ∷ t in
    rw (
      lt-ltb 0 (length s) (omega arith),
      ne_eqb end 0 not0,
      ne_eqb end 255 not255,
      eq-eqb end end refl,
      lt-ltb 1 (length s) (omega arith),
      eq-eqb size size refl,
      le-leb (2 + size) (length s) (omega arith),
    )

-- what is asked of such a format besides: no edition names 0, 255 or the code that ends an image, and its rooms hold the entries
pub record Rooms (K : Coded) (takes : ℕ → Type 0) : Type 1 where
  pub not0 : (e : ℕ) → names (coded K) e 0 ≡ false
  pub not255 : (e : ℕ) → names (coded K) e 255 ≡ false
  pub not_end : (e : ℕ) → names (coded K) e K.end ≡ false
  pub takes_made : (entries : List ℕ) → length (image_of (coded K) entries) ≤ K.most → takes (length entries)
  pub made : (entries t : List ℕ) → takes (length entries) →
      Holds (coded K) (K.header (length entries) ++ (entries ++ (K.end ∷ K.size ∷ (K.check (K.header (length entries) ++ entries) ++ t)))) entries
  pub sound : (image entries rest : List ℕ) (start end : ℕ) → K.opened image ≡ Ok (start, end) → part start (end - start) image ≡ entries ++ rest →
      rest ≡ K.end ∷ K.size ∷ drop 2 rest → 2 + K.size ≤ length rest → K.filled (start + length entries) end ≡ fine →
      (start ≡ length (K.header (length entries))) × Wholly (coded K) (coded_grammar K.end K.size takes) image entries

-- Such a format reads what its grammar writes, and writes what it reads.
pub coded-laws : (K : Coded) (takes : ℕ → Type 0) → Rooms K takes → Laws (coded K) (coded_grammar K.end K.size takes)
unfolding coded_head
coded-laws K takes R =
    record {
      opening_key = λ front key c o. bare-key o.is o.keyless;
      opening_first = λ front key c o. ([], o.is);
      keyless = λ front key c e o. o.keyless;
      head_sound = λ b s h e. rw e at (heads takes K.end K.size s);
      head_complete = λ front key t c o.
          rw (o.is, o.keyless, lt-ltb 0 (length (c ∷ t)) (omega arith), ne_eqb c 0 o.not0, ne_eqb c 255 o.not255, ne_eqb c K.end o.not_end);
      head_shut = λ c s h l e. false-true l;
      head_ends = λ b c s e. e;
      vlen_sound = λ s h v j l e. rw e at (byte-goes (coded_grammar K.end K.size takes) s h (λ v. refl));
      vlen_complete = λ a lens t h v e says. rw says (byte-read a t h v e);
      opening_made = λ e c key named l k.
          rw (k refl)
          (record {
            is = refl;
            keyless = refl;
            not0 = λ q. false-true (sym (R.not0 e) ∙ rw q at named);
            not255 = λ q. false-true (sym (R.not255 e) ∙ rw q at named);
            not_end = λ q. false-true (sym (R.not_end e) ∙ rw q at named);
          });
      opening_long = λ c key k. omega (arith, ap length (k refl));
      opening_shortest = λ c key l bytes o. omega (arith, ap length o.is);
      lens_made = λ c n r l. refl;
      lens_shortest = λ c n l bytes says. omega (arith, ap length says);
      key_made = λ c key r. r;
      closing_made = refl;
      closing_length = λ z is. ap length is;
      takes_made = R.takes_made;
      room_made = λ entries z t is fits. rw is (R.made entries t fits);
      room_sound = λ b image entries rest start end o room ends filled.
          let closes = rw ends at (heads takes K.end K.size rest) in
          R.sound image entries rest start end o room closes.0 closes.1 filled;
    }
