-- Tiny version 2 meets the laws.
-- Assumes nothing.
use Prim.Native.Nat.{ℕ, ◌+◌, ◌-◌, ◌/◌, ◌≤◌}
use mathlib.Core.Path.{◌≡◌, refl, sym, ◌∙◌, ap}
use mathlib.Core.List.{List, [], ◌∷◌, ◌++◌, append-nil}
use mathlib.Core.Logic.{inl, inr, ⊎_elim}
use mathlib.Core.Bool.{Bool, true, false, ◌&&◌}
use native.Mathlib.Omega.{arith}
use native.Mathlib.Nat.{add-zero}
use lib.ListN.{length, get_or, take, drop, length-append, length-drop, take-append-drop, drop_of_length-le}
use lib.Seq.{drop-cons, take_at, length-take-le}
use lib.Dec.{ltb, leb, eqb}
use borrow.Author.Tests.{ltb-true, ltb-false, lt-ltb, le-ltb, leb-true, le-leb, eqb-true, eqb-false, ne_eqb}
use Rattle.std.specs.Prelude.{Ok}
use Rattle.layout.specs.declared.Head.{Head}
use Rattle.layout.specs.Answers.{Headed}
use Rattle.layout.specs.Bytes.{part}
use Rattle.layout.specs.Tiny.{tiny, tiny_opened, tiny_head, tiny_length}
use Rattle.layout.specs.Editions.{names, since_in}
use Rattle.laws.specs.Grammar.{TinySays, tiny_grammar}
use Rattle.laws.proofs.Format.{Laws, Begins, Goes, Holds}
use Rattle.layout.proofs.Choices.{false-true, either, both}
use Rattle.laws.proofs.Outcomes.{OnHeaded, OnLength, OnOpened}
use Rattle.layout.proofs.Lists.{byte_at}
use Rattle.laws.proofs.OneByte.{bare-key, bare-begins, byte-goes, byte-read}

-- what a head tells of the bytes that it stands for: they begin with an opening where an entry may follow, or there are none
abbrev Heads : Bool → List ℕ → Headed → Type 0
Heads b s = OnHeaded (λ h. (b ≡ false) × Begins tiny_grammar s h) (s ≡ [])

-- What `tiny_head` answers is so.
heads : (b : Bool) (s : List ℕ) → Heads b s (tiny_head b s)
unfolding tiny_head
heads b s =
    either (Heads b s) (ltb 0 (length s))
    (λ there. either (Heads b s) b (λ _. tt)
    (λ free. either (Heads b s) (eqb (get_or s 0 0) 0x00) (λ _. tt)
    (λ not0. (free, bare-begins s there (record { is = refl; keyless = refl; not0 = eqb-false (get_or s 0 0) 0x00 not0 })))))
    (λ nothing. drop_of_length-le s (ltb-false 0 (length s) nothing))

-- What `tiny_length` answers is so.
goes : (s : List ℕ) (h : Head) → OnLength (Goes tiny_grammar s h) (tiny_length h s)
unfolding tiny_length
goes s h =
    either (OnLength (Goes tiny_grammar s h)) (ltb h.code 16)
    (λ low. byte-goes tiny_grammar s h (λ v. inl (ltb-true h.code 16 low, refl)))
    (λ high. record { lens = []; rest = drop h.at s; joined = refl; says = inr (ltb-false h.code 16 high, refl, refl); ends = sym (add-zero h.at) })

-- What says a length is read as that length.
reads : (a lens t : List ℕ) (h : Head) (v : ℕ) → length a ≡ h.at → TinySays h.code lens v →
    tiny_length h (a ++ (lens ++ t)) ≡ Ok (v, (h.at + length lens))
unfolding tiny_length
reads a lens t h v e (inl (low, is)) = rw (lt-ltb h.code 16 low, is) (byte-read a t h v e)
reads a lens t h v e (inr (high, is, sized)) = rw (le-ltb h.code 16 high, is, sized, add-zero)

-- what a room tells of the image: it has the header with its total length, and the room ends before the check
abbrev pub TinyRoom : List ℕ → ℕ → ℕ → Type 0
TinyRoom s start end = (start ≡ 3) × (end ≡ get_or s 2 0 - 1) × (4 ≤ get_or s 2 0) × (get_or s 2 0 ≤ length s) × (s ≡ 0x56 ∷ 0x02 ∷ get_or s 2 0 ∷ drop 3 s)

-- What `tiny_opened` answers is so.
pub tiny-room : (s : List ℕ) → OnOpened (TinyRoom s) (tiny_opened s)
unfolding tiny_opened
tiny-room s =
    either (OnOpened (TinyRoom s)) (ltb (length s) 3) (λ _. tt)
    (λ long. either (OnOpened (TinyRoom s)) (eqb (get_or s 0 0) 0x56)
    (λ is56. either (OnOpened (TinyRoom s)) (eqb (get_or s 1 0) 0x02)
    (λ is02. either (OnOpened (TinyRoom s)) (leb 4 (get_or s 2 0) && leb (get_or s 2 0) (length s))
    (λ fits.
    let l : 3 ≤ length s = ltb-false (length s) 3 long in
    let f = both (leb 4 (get_or s 2 0)) (leb (get_or s 2 0) (length s)) fits in (
      refl,
      refl,
      leb-true 4 (get_or s 2 0) f.0,
      leb-true (get_or s 2 0) (length s) f.1,
      cc (byte_at s 0 0x56 (omega arith) is56, byte_at s 1 0x02 (omega arith) is02, drop-cons s 2 0 l),
    ))
    (λ _. tt))
    (λ _. tt))
    (λ _. tt))

-- An image with these entries and a check opens to a room that holds them.
holds : (entries : List ℕ) (x : ℕ) (t : List ℕ) → Holds tiny (0x56 ∷ 0x02 ∷ (length entries + 4) ∷ (entries ++ (x ∷ t))) entries
unfolding tiny tiny_opened tiny_head part
holds entries x t =
    let total = length entries + 4 in
    let image : List ℕ = 0x56 ∷ 0x02 ∷ total ∷ (entries ++ (x ∷ t)) in
    record {
      end = total - 1;
      rest = [];
      opened = rw (le-ltb (length image) 3 (omega arith), le-leb 4 total (omega arith), le-leb total (length image) (omega (arith, length-append entries (x ∷ t))));
      room = take_at entries (x ∷ t) (total - 1 - 3) (omega arith) ∙ sym (append-nil entries);
      ends = λ b. refl;
      filled = refl;
    }

-- Tiny version 2 reads what its grammar writes, and writes what it reads.
pub tiny-laws : Laws tiny tiny_grammar
unfolding tiny tiny_head part names since_in
tiny-laws =
    record {
      opening_key = λ front key c o. bare-key o.is o.keyless;
      opening_first = λ front key c o. ([], o.is);
      keyless = λ front key c e o. o.keyless;
      head_sound = λ b s h e. (rw e at (heads b s)).1;
      head_complete = λ front key t c o. rw (o.is, o.keyless, lt-ltb 0 (length (c ∷ t)) (omega arith), ne_eqb c 0x00 o.not0);
      head_shut = λ c s h l e. false-true (sym (rw e at (heads true s)).0);
      head_ends = λ b c s e. rw (rw e at (heads b s)) refl;
      vlen_sound = λ s h v j l e. rw e at (goes s h);
      vlen_complete = reads;
      opening_made = λ e c key named l k. rw (k refl) (record { is = refl; keyless = refl; not0 = λ q. false-true (rw q at named) });
      opening_long = λ c key k. omega (arith, ap length (k refl));
      opening_shortest = λ c key l bytes o. omega (arith, ap length o.is);
      lens_made = λ c n rule l.
          either (λ bytes. TinySays c bytes n) (ltb c 16)
          (λ low. inl (ltb-true c 16 low, refl))
          (λ high. inr (ltb-false c 16 high, refl, eqb-true n (c / 16) (rw high at rule)));
      lens_shortest = λ c n l bytes says.
          ⊎_elim
          (λ low. rw (lt-ltb c 16 low.0) (omega (arith, ap length low.1)))
          (λ high. rw (le-ltb c 16 high.0) (omega arith))
          says;
      key_made = λ c key r. r;
      closing_made = refl;
      closing_length = λ z is. ap length is;
      takes_made = λ entries le. tt;
      room_made = λ entries z t is fits. rw is (holds entries _ t);
      room_sound = λ b image entries rest start end o room ends filled.
          let r = rw o at (tiny-room image) in
          let n = get_or image 2 0 - 1 - 3 in
          let front : take n (drop 3 image) ≡ entries = rw (r.0, r.1, rw ends at (heads b rest), append-nil) at room in
          let size : length entries + 4 ≡ get_or image 2 0 = rw (← front, length-take-le n (drop 3 image) (omega (arith, length-drop 3 image))) (omega arith) in
          (r.0, record { closing = []; rest = drop n (drop 3 image); closes = refl; takes = tt; is = cc (take-append-drop n (drop 3 image)) });
    }
