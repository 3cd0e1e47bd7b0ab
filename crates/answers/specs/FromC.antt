-- What a C program may rely on, said of the exports alone (docs/C-INTERFACE.md): the numbers that each can give, and demands 2 and 3.
-- Lent memory is bytes: that is asked of the image that is read, and of the output that is read again.
-- Assumes nothing.
use Rattle.std.specs.Prelude.{ℕ, ◌+◌, ◌*◌, ◌≤◌, ◌<◌, ◌≡◌, List, [], ◌∷◌, ◌++◌, map, true, length, get_or, take, replicate}
use Rattle.layout.specs.declared.Format.{Format}
use Rattle.layout.specs.declared.Reading.{Reading}
use Rattle.layout.specs.declared.Field.{Field}
use Rattle.layout.specs.Bytes.{one_of, part, refusal}
use Rattle.layout.specs.Walk.{Content}
use Rattle.layout.specs.Calls.{told_reading, told_refusal}
use Rattle.layout.specs.Write.{word, fields_in}
use Rattle.laws.specs.Contents.{replaced, without}
use Rattle.layout.specs.Each.{Each}
use Rattle.laws.specs.Grammar.{Published}
use Rattle.records.specs.Packed.{packed}
use Rattle.records.specs.Words.{words_bytes}
use Rattle.records.specs.Exports.{check_call, value_call, string_call, entry_call, list_call, walk_format, walk_edition, walk_entry, step_call, write_call, edit_call, add_call, remove_call, Given}
use Rattle.promises.specs.Words.{Serves, Item}
use Rattle.promises.specs.Listing.{EndsAt}
use Rattle.promises.specs.Names.{Named}
use Rattle.promises.specs.Kinds.{Means}
use Rattle.promises.specs.Numbers.{image_numbers, write_numbers, change_numbers}
use Rattle.promises.specs.RoundTrip.{field_says}
use Rattle.promises.specs.OlderChanges.{Added}
use Rattle.answers.specs.Whole.{number_of, count_of}

abbrev pub Bytes : List ℕ → Type 0
Bytes m = Each (λ b. b < 256) m

-- ---- numbers

-- the number is 0, or one of these
abbrev pub OneOf : List ℕ → ℕ → Type 0
OneOf numbers answer = one_of (0 ∷ numbers) (number_of answer) ≡ true

-- the table of docs/C-INTERFACE.md, "The order"
pub record NumbersFromC : Type 0 where
  pub checked : (f e : ℕ) (img : List ℕ) → OneOf image_numbers (check_call f e img)
  pub listed : (f e : ℕ) (img m : List ℕ) → OneOf (12 ∷ image_numbers) (list_call f e img m).answer
  pub entry : (f e : ℕ) (img : List ℕ) (n : ℕ) (m : List ℕ) → OneOf (12 ∷ 13 ∷ image_numbers) (entry_call f e img n m).answer
  pub value : (f e : ℕ) (img : List ℕ) (n : ℕ) → OneOf (13 ∷ image_numbers) (value_call f e img n)
  pub string : (f e : ℕ) (img : List ℕ) (number : ℕ) → OneOf (15 ∷ image_numbers) (string_call f e img number)
  pub stepped : (w img m : List ℕ) → OneOf (12 ∷ 13 ∷ image_numbers) (step_call w img m).answer
  pub written : (f e : ℕ) (fields values out : List ℕ) → OneOf write_numbers (write_call f e fields values out).answer
  pub edited : (f e : ℕ) (img : List ℕ) (n : ℕ) (value out : List ℕ) → OneOf change_numbers (edit_call f e img n value out).answer
  pub added : (f e : ℕ) (img field values out : List ℕ) → OneOf change_numbers (add_call f e img field values out).answer
  pub removed : (f e : ℕ) (img : List ℕ) (n : ℕ) (out : List ℕ) → OneOf change_numbers (remove_call f e img n out).answer

-- ---- how C reads a list

-- word k of record j
abbrev pub record_word : List ℕ → ℕ → ℕ → ℕ
record_word records j k = word (j * 64 + k * 4) records

-- what record j says: its code, and the image's bytes at its places
abbrev pub record_says : List ℕ → List ℕ → ℕ → Content
record_says image records j =
    record {
      code = record_word records j 0;
      key = part (record_word records j 3) (record_word records j 4) image;
      value = part (record_word records j 5) (record_word records j 6) image;
    }

-- the check accepts the image, and with room enough the records that the list leaves say just these codes, keys and values, in order
pub record ReadFromC (f e : ℕ) (image : List ℕ) (cs : List Content) : Type 0 where
  pub accepted : number_of (check_call f e image) ≡ 0
  pub counted : count_of (check_call f e image) ≡ length cs
  pub listed : (m : List ℕ) → length cs * 64 ≤ length m → (list_call f e image m).answer ≡ check_call f e image
  pub says : (m : List ℕ) → length cs * 64 ≤ length m → (j : ℕ) (c : Content) → Item cs j c → record_says image (list_call f e image m).memory j ≡ c

-- ---- how C lends fields

-- a field in 20 bytes: code, key place, key length, value place, value length, each below 2^32
abbrev pub field_words : Field → List ℕ
field_words x = x.code ∷ x.key.place.0 ∷ x.key.len ∷ x.value.place.0 ∷ x.value.len ∷ []

abbrev pub fields_bytes : List Field → List ℕ
fields_bytes [] = []
fields_bytes (x ∷ xs) = words_bytes (field_words x) ++ fields_bytes xs

-- fields one after another are read as they are; a last one that is cut short counts as none
abbrev pub FieldsFromC : Type 0
FieldsFromC = (fields : List Field) (cut : List ℕ) → Each (λ x. Each (λ w. w < 4294967296) (field_words x)) fields → length cut < 20 → fields_in (fields_bytes fields ++ cut) ≡ fields

-- ---- how C lends a walk

-- format, edition and the entry number in two words, low word first, each below 2^32, whatever follows them
abbrev pub WalkFromC : Type 0
WalkFromC =
    (f e low high : ℕ) (more : List ℕ) → Each (λ w. w < 4294967296) (f ∷ e ∷ low ∷ high ∷ []) →
    let walk = words_bytes (f ∷ e ∷ low ∷ high ∷ []) ++ more in
    (walk_format walk ≡ f) × (walk_edition walk ≡ e) × (walk_entry walk ≡ low + high * 4294967296)

-- ---- demand 2

-- what was written reads back, in the whole output and in its part up to the length given
abbrev pub WrittenFromC : Type 0
WrittenFromC =
    (f e : ℕ) (fields values out : List ℕ) → number_of (write_call f e fields values out).answer ≡ 0 →
    let output = (write_call f e fields values out).memory in
    let said = map (field_says f values) (fields_in fields) in
    Bytes output → ReadFromC f e output said × ReadFromC f e (take (count_of (write_call f e fields values out).answer) output) said

-- kind and reading of record j: format × 256 + code and 01's or 02's reading exactly where the edition names the code, else 0. The words from 8 on are the reading's number and what it
-- carries, as docs/C-INTERFACE.md has them, and 0
pub record KindFromC (f e : ℕ) (format : Format) (image records : List ℕ) (j : ℕ) : Type 0 where
  pub kind : Named format e (record_word records j 0) → record_word records j 1 ≡ f * 256 + record_word records j 0
  pub reading : Named format e (record_word records j 0) →
      (r : Reading) × Means format (record_word records j 0) (record_says image records j).value r
      × ((k : ℕ) → k < 8 → record_word records j (8 + k) ≡ get_or (told_reading r ++ replicate 8 0) k 0)
  pub kindless : (Named format e (record_word records j 0) → ⊥) → record_word records j 1 ≡ 0
  pub unread : (Named format e (record_word records j 0) → ⊥) → (k : ℕ) → k < 8 → record_word records j (8 + k) ≡ 0

-- word 7, of an accepted image: 0 in editions 1 to 3. From edition 4 on it is the length of the whole frame, which ends with the value: a record's first byte and it together are the first byte of
-- the next record, and of the last one where the end stands
pub record FramesFromC (f e : ℕ) (image : List ℕ) : Type 0 where
  pub format : Format
  pub serves : Serves f e format
  pub former : e ≤ 3 → (m : List ℕ) → count_of (check_call f e image) * 64 ≤ length m → (j : ℕ) → j < count_of (check_call f e image) →
      record_word (list_call f e image m).memory j 7 ≡ 0
  pub next : 4 ≤ e → (m : List ℕ) → count_of (check_call f e image) * 64 ≤ length m → (j : ℕ) → j + 1 < count_of (check_call f e image) →
      let records = (list_call f e image m).memory in record_word records j 2 + record_word records j 7 ≡ record_word records (j + 1) 2
  pub whole : 4 ≤ e → (m : List ℕ) → count_of (check_call f e image) * 64 ≤ length m → (j : ℕ) → j < count_of (check_call f e image) →
      let records = (list_call f e image m).memory in record_word records j 2 + record_word records j 7 ≡ record_word records j 5 + record_word records j 6
  pub last : 4 ≤ e → (m : List ℕ) → count_of (check_call f e image) * 64 ≤ length m → (j : ℕ) → j + 1 ≡ count_of (check_call f e image) →
      let records = (list_call f e image m).memory in EndsAt format image (record_word records j 2 + record_word records j 7)

-- every accepted image is one of the published rules, and is read as those say
pub record AcceptedFromC (f e : ℕ) (image : List ℕ) : Type 0 where
  pub format : Format
  pub serves : Serves f e format
  pub contents : List Content
  pub published : Published format e image contents
  pub read : ReadFromC f e image contents
  pub kinds : (m : List ℕ) → length contents * 64 ≤ length m → (j : ℕ) → j < length contents → KindFromC f e format image (list_call f e image m).memory j
  pub frames : FramesFromC f e image

-- ---- demand 3

-- record j of an older edition's list, beside a newer one's. Word 7 aside, all words are the same where the older edition names the code; else kind and reading are 0 and the others the same.
-- Word 7 is the same where the older edition is 4 or later, and else 0 in its record
pub record SameRecord (format : Format) (o : ℕ) (older newer : List ℕ) (j : ℕ) : Type 0 where
  pub placed : (k : ℕ) → k < 7 → (k ≡ 1 → ⊥) → record_word older j k ≡ record_word newer j k
  pub framed : 4 ≤ o → record_word older j 7 ≡ record_word newer j 7
  pub former : o ≤ 3 → record_word older j 7 ≡ 0
  pub named : Named format o (record_word older j 0) → (k : ℕ) → k < 16 → (k ≡ 7 → ⊥) → record_word older j k ≡ record_word newer j k
  pub kindless : (Named format o (record_word older j 0) → ⊥) → record_word older j 1 ≡ 0
  pub unread : (Named format o (record_word older j 0) → ⊥) → (k : ℕ) → 8 ≤ k → k < 16 → record_word older j k ≡ 0

pub record OlderFromC (f o n : ℕ) (image : List ℕ) : Type 0 where
  pub format : Format
  pub serves : Serves f o format
  pub accepted : check_call f o image ≡ check_call f n image
  pub alike : (m : List ℕ) → count_of (check_call f n image) * 64 ≤ length m → (j : ℕ) → j < count_of (check_call f n image) →
      SameRecord format o (list_call f o image m).memory (list_call f n image m).memory j

-- edition n reads what a change has made of its former list, in the whole output and in its part up to the length given, and the frames of both stand one after another
pub record ChangedFromC (f n : ℕ) (image : List ℕ) (Makes : List Content → List Content → Type 0) (output : List ℕ) (m : ℕ) : Type 0 where
  pub former : List Content
  pub latter : List Content
  pub makes : Makes former latter
  pub before : ReadFromC f n image former
  pub whole : ReadFromC f n output latter
  pub front : ReadFromC f n (take m output) latter
  pub frames : FramesFromC f n output × FramesFromC f n (take m output)

-- of a call by format, edition, image and output; o is no newer than n
abbrev pub ChangeFromC : (ℕ → ℕ → List ℕ → List ℕ → Given) → (ℕ → List Content → List Content → Type 0) → Type 0
ChangeFromC call makes =
    (f o n : ℕ) (image out : List ℕ) → Bytes image → o ≤ n → number_of (check_call f n image) ≡ 0 → number_of (call f o image out).answer ≡ 0 →
    let output = (call f o image out).memory in
    Bytes output → ChangedFromC f n image (makes f) output (count_of (call f o image out).answer)

-- an addition, of a field in 20 bytes; bytes past those are not looked at. With fewer it is 13 at 0, where the image is accepted
pub record AddFromC : Type 0 where
  pub changed : (x : Field) (values : List ℕ) → Each (λ w. w < 4294967296) (field_words x) →
      ChangeFromC (λ f e image out. add_call f e image (words_bytes (field_words x)) values out) (λ f. Added f (field_says f values x))
  pub unread : (field more values : List ℕ) → length field ≡ 20 → (f e : ℕ) (image out : List ℕ) → add_call f e image (field ++ more) values out ≡ add_call f e image field values out
  pub short : (f e : ℕ) (image field values out : List ℕ) → length field < 20 → length out ≤ 65536 → number_of (check_call f e image) ≡ 0 →
      (add_call f e image field values out).answer ≡ packed (told_refusal (refusal 13 0))

-- o is no newer than n
pub record FromC : Type 0 where
  pub numbers : NumbersFromC
  pub fields : FieldsFromC
  pub walk : WalkFromC
  pub accepted : (f e : ℕ) (image : List ℕ) → Bytes image → number_of (check_call f e image) ≡ 0 → AcceptedFromC f e image
  pub written : WrittenFromC
  pub older : (f o n : ℕ) (format : Format) (image : List ℕ) → Bytes image → Serves f o format → o ≤ n → number_of (check_call f n image) ≡ 0 → OlderFromC f o n image
  pub edited : (i : ℕ) (value : List ℕ) → ChangeFromC (λ f e image out. edit_call f e image i value out) (λ f former latter. latter ≡ replaced former i value)
  pub added : AddFromC
  pub removed : (i : ℕ) → ChangeFromC (λ f e image out. remove_call f e image i out) (λ f former latter. (i < length former) × (latter ≡ without former i))
