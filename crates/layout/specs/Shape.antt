-- What a format is, and the frame of one entry, for any format.
-- Assumes nothing.
use Rattle.std.specs.Prelude.{ℕ, ◌+◌, List, [], ◌∷◌, Bool, true, false, length, get_or, ltb, leb, eqb, Ok, Err, Some, None}
use Rattle.layout.specs.declared.Head.{Head}
use Rattle.layout.specs.Answers.{Headed, Length, Next, Opened}
use Rattle.layout.specs.declared.Frame.{Frame}
use Rattle.layout.specs.declared.Reading.{Reading}
use Rattle.layout.specs.Bytes.{if}

-- a line of 01's "Editions and kinds": the edition from which on the codes from low to high are named
pub record Naming : Type 0 where
  pub edition : ℕ
  pub low : ℕ
  pub high : ℕ

abbrev pub naming : ℕ → ℕ → ℕ → Naming
naming e a b = record { edition = e; low = a; high = b }

-- what tells entries apart: the code and the key, and never the value
pub record Label : Type 0 where
  pub code : ℕ
  pub key : List ℕ

-- all is well so far; or a number and a place
pub data Judged : Type 0 where
  fine : Judged
  faulty : ℕ → ℕ → Judged

pub record Shape : Type 0 where
  -- the format's number (01; 4 in 02)
  pub number : ℕ
  -- the first edition that has the format
  pub edition : ℕ
  -- does an entry have a key
  pub keyed : Bool
  -- the header of an image: where its entries are
  pub opened : List ℕ → Opened
  -- what opens an entry at the front of the room that is left. The test says whether the entry before was one that none may follow
  pub head : Bool → List ℕ → Headed
  -- the length of a value, after its head
  pub vlen : Head → List ℕ → Length
  -- may no entry follow one of this code
  pub last : ℕ → Bool
  -- what is asked after the walk and before the check, of the place where the entries end and the place where their room does
  pub filled : ℕ → ℕ → Judged
  -- the bytes between the last entry and the check, as they are written
  pub closing : List ℕ
  -- the bytes of the check over all that stands before the closing
  pub check : List ℕ → List ℕ
  -- the header of an image whose entries have so many bytes in all
  pub header : ℕ → List ℕ
  -- what a new entry of this code and key opens with
  pub opening : ℕ → List ℕ → List ℕ
  -- the bytes that say the length of a value of this code
  pub lens : ℕ → ℕ → List ℕ
  -- the most bytes that an image may have which is written
  pub most : ℕ
  -- the codes that editions name
  pub namings : List Naming
  -- a named entry's rule on its key, the reader's and the writer's, which is the narrower one for VPD 01h (02, "VPD names with dots")
  pub reader_key : ℕ → List ℕ → Bool
  pub writer_key : ℕ → List ℕ → Bool
  -- a named entry's rule on its value, which is asked only where the value's length is right: by its frame in reading, by the second rule in writing
  pub value_rule : ℕ → List ℕ → Bool
  pub length_rule : ℕ → ℕ → Bool
  -- the reading of a named entry's value
  pub reading : ℕ → List ℕ → Reading
  -- do two entries of the same named code come twice
  pub twice : Label → Label → Bool
  -- the codes that an image must have
  pub required : List ℕ

-- the frame of an entry whose value has the length v and stands at j, both from the entry's first byte on
abbrev pub frame_of : Head → ℕ → ℕ → Frame
frame_of h v j = record { code = h.code; key = h.key; klen = h.klen; at = h.at; val = j; vlen = v; size = j + v }

abbrev pub on_length : Length → Head → List ℕ → Next
on_length (Ok (v, j)) h s = if (leb (j + v) (length s)) (λ _. Ok (Some (frame_of h v j))) (λ _. Err 5)
on_length (Err n) h s = Err n

abbrev pub on_head : Headed → Shape → List ℕ → Next
on_head (Ok (Some h)) S s = on_length (S.vlen h s) h s
on_head (Ok None) S s = Ok None
on_head (Err n) S s = Err n

-- the next entry's frame at the front of s, in 01's order: what opens it, its length bytes, and only then a value past the room (01, "Order")
unfoldable pub next : Shape → Bool → List ℕ → Next
next S b s = on_head (S.head b s) S s

-- a length of one byte, at the place where the head says that it begins
abbrev pub byte_length : Head → List ℕ → Length
byte_length h s = if (ltb h.at (length s)) (λ _. Ok ((get_or s h.at 0), (h.at + 1))) (λ _. Err 5)

-- the head of an entry without a key, which is a code byte alone
abbrev pub bare_head : ℕ → Head
bare_head c = record { code = c; key = 1; klen = 0; at = 1 }

-- ---- formats whose entries are a code byte, a length byte and the value, and end with an entry of one code and length, whose value is the check

-- what opens an entry there: the code `end` with the length `size` ends the image; 0 and 255 are no codes
unfoldable pub coded_head : (end size : ℕ) → List ℕ → Headed
coded_head end size s =
    if (ltb 0 (length s))
    (λ _. if (eqb (get_or s 0 0) 0) (λ _. Err 6)
    (λ _. if (eqb (get_or s 0 0) 255) (λ _. Err 6)
    (λ _. if (eqb (get_or s 0 0) end)
    (λ _. if (ltb 1 (length s))
    (λ _. if (eqb (get_or s 1 0) size) (λ _. if (leb (2 + size) (length s)) (λ _. Ok None) (λ _. Err 5)) (λ _. Err 6))
    (λ _. Err 5))
    (λ _. Ok (Some (bare_head (get_or s 0 0)))))))
    (λ _. Err 5)

-- what differs from one such format to another; its members are those of a shape
pub record Coded : Type 0 where
  pub number : ℕ
  pub edition : ℕ
  pub opened : List ℕ → Opened
  pub filled : ℕ → ℕ → Judged
  -- the code and the length of the entry that ends an image
  pub end : ℕ
  pub size : ℕ
  pub check : List ℕ → List ℕ
  pub header : ℕ → List ℕ
  pub most : ℕ
  pub namings : List Naming
  pub value_rule : ℕ → List ℕ → Bool
  pub reading : ℕ → List ℕ → Reading
  pub twice : Label → Label → Bool
  pub required : List ℕ

-- the shape of such a format: what all of them share, and what K says
abbrev pub coded : Coded → Shape
coded K =
    record {
      number = K.number;
      edition = K.edition;
      keyed = false;
      opened = K.opened;
      head = λ b s. coded_head K.end K.size s;
      vlen = byte_length;
      last = λ c. false;
      filled = K.filled;
      closing = K.end ∷ K.size ∷ [];
      check = K.check;
      header = K.header;
      opening = λ c key. c ∷ [];
      lens = λ c n. n ∷ [];
      most = K.most;
      namings = K.namings;
      reader_key = λ c key. true;
      writer_key = λ c key. true;
      value_rule = K.value_rule;
      length_rule = λ c n. ltb n 256;
      reading = K.reading;
      twice = K.twice;
      required = K.required;
    }
