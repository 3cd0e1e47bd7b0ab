-- The strings of a Tiny pool are its bytes cut after each byte whose top bit is on.
-- Assumes nothing.
use Prim.Native.Nat.{ℕ, zero, suc, ◌+◌, ◌≤◌, ◌<◌}
use mathlib.Core.Path.{◌≡◌, refl, ◌∙◌}
use mathlib.Core.List.{List, [], ◌∷◌, ◌++◌, append_assoc, append-nil, map}
use mathlib.Core.Bool.{Bool, true, false}
use native.Mathlib.Omega.{arith}
use lib.ListN.{length, length-append}
use lib.Dec.{ltb, eqb}
use borrow.Author.Tests.{ltb-true, ltb-false, le-ltb, eq-eqb, ne_eqb}
use Rattle.std.specs.Prelude.{Ok}
use Rattle.layout.specs.declared.Format.TheVariants.{Tiny}
use Rattle.layout.specs.declared.Part.{Part}
use Rattle.layout.specs.declared.Entry.{Entry}
use Rattle.layout.specs.declared.Refusal.{Refusal}
use Rattle.layout.specs.Bytes.{part_at}
use Rattle.layout.specs.Tiny.{tiny}
use Rattle.layout.specs.Walk.{Raw, content}
use Rattle.layout.specs.Read.{refused, read_image}
use Rattle.layout.specs.Calls.{entry_of, entries_of, check_image, no_string, string_in, pool_string, string_at}
use Rattle.laws.specs.Contents.{said}
use Rattle.layout.specs.Each.{Each, none, also}
use Rattle.laws.specs.Grammar.{tiny_grammar}
use Rattle.laws.proofs.Walking.{Frames}
use Rattle.laws.proofs.Records.{entries-count}
use Rattle.laws.proofs.Calls.{Reading, Found, check-found}
use Rattle.promises.specs.Words.{tiny as tinyNumber, Refuses, Item, here, there, tells_check, tells_string}
use Rattle.promises.specs.Strings.{Strings, tail, string, PoolStrings, TinyStrings, StringRule}
use Rattle.layout.proofs.Lists.{each_append}
use Rattle.laws.proofs.Strings.{goes}
use Rattle.promises.proofs.Accepting.{lists, records-say}
use Rattle.promises.proofs.Telling.{one_format, chosen-serves, counts-accepted, check-refused}

-- ---- bytes cut into strings

pub no_item : {A B : Type 0} {n : ℕ} {x : A} → Item [] n x → B
no_item it = elim it [ ]

-- the strings of bytes that stand at p: their cut, and what is found where `front` was passed and bs follows
record Cut (p : ℕ) (front bs : List ℕ) : Type 0 where
  parts : List Part
  cut : Strings p (front ++ bs) parts
  found : (k : ℕ) (x : Part) → Item parts k x → string_in bs p (length front) k ≡ Ok x
  past : (k : ℕ) → length parts ≤ k → string_in bs p (length front) k ≡ no_string

-- a string goes on with a byte whose top bit is off
cut_on : (b : ℕ) (bs front : List ℕ) (p : ℕ) → b < 128 → Cut p (front ++ (b ∷ [])) bs → Cut p front (b ∷ bs)
cut_on b bs front p low c =
    let one : length (front ++ (b ∷ [])) ≡ length front + 1 = length-append front (b ∷ []) in
    record {
      parts = c.parts;
      cut = rw (append_assoc front (b ∷ []) bs) at c.cut;
      found = λ k x it. goes b bs p (length front) k low ∙ (rw one at (c.found k x it));
      past = λ k le. goes b bs p (length front) k low ∙ (rw one at (c.past k le));
    }

-- and ends with one whose top bit is on
cut-after : (b : ℕ) (bs front : List ℕ) (p : ℕ) → Each (λ c. c < 128) front → 128 ≤ b → Cut (p + (length front + 1)) [] bs → Cut p front (b ∷ bs)
unfolding string_in
cut-after b bs front p low high c = record { parts = part_at p (length front + 1) ∷ c.parts; cut = string low high c.cut; found = finds; past = misses }
  where
    passes : (k : ℕ) → string_in (b ∷ bs) p (length front) (suc k) ≡ string_in bs (p + (length front + 1)) 0 k
    passes k = let next : p + length front + 1 ≡ p + (length front + 1) = omega arith in rw (le-ltb b 128 high, next)

    finds : (k : ℕ) (x : Part) → Item (part_at p (length front + 1) ∷ c.parts) k x → string_in (b ∷ bs) p (length front) k ≡ Ok x
    finds zero x here = rw (le-ltb b 128 high)
    finds (suc k) x (there it) = passes k ∙ c.found k x it

    misses : (k : ℕ) → suc (length c.parts) ≤ k → string_in (b ∷ bs) p (length front) k ≡ no_string
    misses zero le = absurd (omega arith)
    misses (suc k) le = passes k ∙ c.past k (omega arith)

cut_of : (bs front : List ℕ) (p : ℕ) → Each (λ b. b < 128) front → Cut p front bs
unfolding string_in
cut_of [] front p low = record { parts = []; cut = rw append-nil (tail low); found = λ k x it. no_item it; past = λ k le. refl }
cut_of (b ∷ bs) front p low =
    go (ltb b 128) refl
    (λ lt. cut_on b bs front p lt (cut_of bs (front ++ (b ∷ [])) p (each_append front (b ∷ []) low (also lt none))))
    (λ le. cut-after b bs front p low le (cut_of bs [] (p + (length front + 1)) none))
  where
    go : (t : Bool) → ltb b 128 ≡ t → (b < 128 → Cut p front (b ∷ bs)) → (128 ≤ b → Cut p front (b ∷ bs)) → Cut p front (b ∷ bs)
    go true q on after = on (ltb-true b 128 q)
    go false q on after = after (ltb-false b 128 q)

-- ---- the pool

-- none comes after the pool, so that an entry of code 01h is the first of its code
pool-is : (e : ℕ) (image : List ℕ) (rs : List Raw) (p : ℕ) (b : Bool) → Frames tiny tiny_grammar b rs → map (said image) (entries_of tiny e p rs) ≡ map content rs →
    (i : ℕ) (x : Entry) → Item (entries_of tiny e p rs) i x → x.code ≡ 0x01 →
    (k : ℕ) → pool_string p rs k ≡ string_in (said image x).value x.value.place.0 0 k
unfolding entries_of entry_of pool_string tiny
pool-is e image [] p b fs says i x it is k = no_item it
pool-is e image (r ∷ rs) p b fs says zero x here is k =
    let same : said image (entry_of tiny e p r) ≡ content r = cc in
    rw (eq-eqb r.frame.code 0x01 is, same)
pool-is e image (r ∷ []) p b fs says (suc i) x (there it) is k = no_item it
pool-is e image (r ∷ s ∷ rs) p b fs says (suc i) x (there it) is k =
    let same : map (said image) (entries_of tiny e (p + r.frame.size) (s ∷ rs)) ≡ map content (s ∷ rs) = cc in
    rw fs.2.0 (pool-is e image (s ∷ rs) (p + r.frame.size) (eqb r.frame.code 0x01) fs.2 same i x it is k)

-- and where no entry has that code there is no string
no-pool : (e : ℕ) (rs : List Raw) (p : ℕ) → Each (λ x. x.code ≡ 0x01 → ⊥) (entries_of tiny e p rs) → (k : ℕ) → pool_string p rs k ≡ no_string
unfolding entries_of entry_of pool_string
no-pool e [] p none k = refl
no-pool e (r ∷ rs) p (also other more) k = rw (ne_eqb r.frame.code 0x01 other) (no-pool e rs (p + r.frame.size) more k)

-- ---- Tiny alone

module _ (e : ℕ) (image : List ℕ) (start : ℕ) (rs : List Raw) (r : Reading 3 e image Tiny start rs) where
  strings-read : (k : ℕ) → string_at 3 e image k ≡ pool_string start rs k
  unfolding string_at
  strings-read k = rw r.read

  pool-strings : (i : ℕ) (x : Entry) → Item (entries_of tiny e start rs) i x → x.code ≡ 0x01 → PoolStrings e image x
  pool-strings i x it is =
      let c : Cut x.value.place.0 [] (said image x).value = cut_of (said image x).value [] x.value.place.0 none in
      let at : (k : ℕ) → string_at 3 e image k ≡ string_in (said image x).value x.value.place.0 0 k
      = λ k. strings-read k ∙ pool-is e image rs start false r.made.frames (records-say 3 e image Tiny start rs r) i x it is k in
      let found : (k : ℕ) (y : Part) → Item c.parts k y → string_at 3 e image k ≡ Ok y = λ k y one. at k ∙ c.found k y one in
      record {
        parts = c.parts;
        cut = c.cut;
        string = λ k y one. rw (found k y one);
        string_bytes = λ k y one. rw (found k y one);
        no_string = λ k le. rw (at k ∙ c.past k le);
      }

  tiny-strings : TinyStrings e image (length rs)
  tiny-strings =
      record {
        entries = entries_of tiny e start rs;
        counted = entries-count tiny e start rs;
        listed = lists 3 e image Tiny start rs r;
        pooled = pool-strings;
        no_pool = λ others k. rw (strings-read k ∙ no-pool e rs start others k);
      }

found-strings : (e : ℕ) (image : List ℕ) (n : ℕ) → Found 3 e image n → TinyStrings e image n
found-strings e image n x =
    let is : x.format ≡ Tiny = one_format (chosen-serves 3 e x.format x.reading.known).number tinyNumber in
    rw x.count (tiny-strings e image x.start x.raws (rw is at x.reading))

string-refused : (e : ℕ) (image : List ℕ) (r : Refusal) → read_image 3 e image ≡ refused r → (k : ℕ) → tells_string 3 e image k ≡ tells_check 3 e image
unfolding string_at check_image
string-refused e image r q k = rw q

another-format : (f e : ℕ) (image : List ℕ) (k : ℕ) → (f ≡ 3 → ⊥) → Refuses (tells_string f e image k) 16 0
unfolding string_at
another-format f e image k other = rw (ne_eqb f 3 other)

pub string-rule : StringRule
string-rule =
    record {
      accepted = λ e image n q. found-strings e image n (check-found 3 e image n (counts-accepted 3 e image n q));
      refused = λ e image k q. let x = check-refused 3 e image q in string-refused e image x.0 x.1 k;
      another = another-format;
    }
