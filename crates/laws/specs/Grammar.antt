-- The published rules as a grammar: which bytes an image of each format is made of (01, "FBOSS v5", "VPD 2.0", "Tiny version 2"; 02, "ONIE images and edition 3").
-- Nothing here reads: a list of bytes is made so, or it is not. Said apart from the reader's definitions: what opens an entry, which bytes say a length, what closes the entries, how many bytes they may
-- have, and that entries stand one after another without gaps. Shared with them: the header, the check and what may follow an entry (`Shape`), the names and rules (`names`, `reader_rule`, `same`), what is required, and the limit.
-- Those are said apart in crates/promises/specs: Names, Rules, Written (header and check as they are written), Writing (what comes again, what is required), Asked (the limit).
-- Assumes nothing.
use Rattle.std.specs.Prelude.{ℕ, suc, ◌+◌, ◌*◌, ◌-◌, ◌/◌, ◌≤◌, ◌<◌, ◌≡◌, List, [], ◌∷◌, ◌++◌, ◌⊎◌, Bool, true, false, length}
use Rattle.layout.specs.declared.Format.{Format}
use Rattle.layout.specs.declared.Format.TheVariants.{Fboss, Vpd, Tiny, Onie}
use Rattle.layout.specs.Each.{Each}
use Rattle.layout.specs.Shape.{Shape, Label}
use Rattle.layout.specs.Editions.{shape, names}
use Rattle.layout.specs.Walk.{Content, label_of}
use Rattle.layout.specs.Read.{limit, same, reader_rule}

-- how a format writes an entry, and what stands between the last entry and the check
pub record Grammar : Type 1 where
  -- these bytes open an entry of this code and key
  pub Opening : List ℕ → ℕ → List ℕ → Type 0
  -- in an entry of this code, these bytes say this length of a value
  pub Says : ℕ → List ℕ → ℕ → Type 0
  -- these bytes close the entries
  pub Closing : List ℕ → Type 0
  -- the entries of an image may have so many bytes
  pub Takes : ℕ → Type 0

-- ---- FBOSS v5 and ONIE: one code byte, one length byte, the value; one code with one length closes, and no entry has it; 0 and 255 are no codes

pub record CodedOpening (end : ℕ) (bytes : List ℕ) (code : ℕ) (key : List ℕ) : Type 0 where
  pub is : bytes ≡ code ∷ []
  pub keyless : key ≡ []
  pub not0 : code ≡ 0 → ⊥
  pub not255 : code ≡ 255 → ⊥
  pub not_end : code ≡ end → ⊥

abbrev pub coded_grammar : (end size : ℕ) → (ℕ → Type 0) → Grammar
coded_grammar end size takes =
    record {
      Opening = CodedOpening end;
      Says = λ code bytes n. bytes ≡ n ∷ [];
      Closing = λ bytes. bytes ≡ end ∷ size ∷ [];
      Takes = takes;
    }

-- code 250 with length 2 closes
abbrev pub fboss_grammar : Grammar
fboss_grammar = coded_grammar 250 2 (λ n. Unit {0})

-- code FEh with length 4 closes; the entries, FE 04 and the check have at most 2,048 bytes
abbrev pub onie_grammar : Grammar
onie_grammar = coded_grammar 0xFE 4 (λ n. n + 6 ≤ 2048)

-- ---- VPD 2.0: type, key length, key, value length, value; 00h or FFh closes

-- at most k length bytes that say n, where the bytes before them said `far`: seven bits in each, the highest first, and a top bit says that another follows
pub data LengthBytes : ℕ → ℕ → List ℕ → ℕ → Type 0 where
  last_byte : {k far b : ℕ} → b < 128 → LengthBytes (suc k) far (b ∷ []) (far * 128 + b)
  more_byte : {k far b n : ℕ} {bytes : List ℕ} → 128 ≤ b → LengthBytes k (far * 128 + (b - 128)) bytes n → LengthBytes (suc k) far (b ∷ bytes) n

pub record VpdOpening (bytes : List ℕ) (code : ℕ) (key : List ℕ) : Type 0 where
  pub lens : List ℕ
  pub is : bytes ≡ code ∷ (lens ++ key)
  pub says : LengthBytes 4 0 lens (length key)
  pub typed : (code ≡ 0x01) ⊎ (code ≡ 0xFE)

abbrev pub vpd_grammar : Grammar
vpd_grammar =
    record {
      Opening = VpdOpening;
      Says = λ code bytes n. LengthBytes 4 0 bytes n;
      Closing = λ bytes. (bytes ≡ 0x00 ∷ []) ⊎ (bytes ≡ 0xFF ∷ []);
      Takes = λ n. Unit {0};
    }

-- ---- Tiny version 2: a tag whose high four bits are the length of the value, or a length byte after it; nothing closes

pub record TinyOpening (bytes : List ℕ) (code : ℕ) (key : List ℕ) : Type 0 where
  pub is : bytes ≡ code ∷ []
  pub keyless : key ≡ []
  pub not0 : code ≡ 0 → ⊥

abbrev pub TinySays : ℕ → List ℕ → ℕ → Type 0
TinySays code bytes n = ((code < 16) × (bytes ≡ n ∷ [])) ⊎ ((16 ≤ code) × (bytes ≡ []) × (n ≡ code / 16))

abbrev pub tiny_grammar : Grammar
tiny_grammar =
    record {
      Opening = TinyOpening;
      Says = TinySays;
      Closing = λ bytes. bytes ≡ [];
      Takes = λ n. Unit {0};
    }

abbrev pub grammar : Format → Grammar
grammar Fboss = fboss_grammar
grammar Vpd = vpd_grammar
grammar Tiny = tiny_grammar
grammar Onie = onie_grammar

-- ---- any format

-- these bytes are an entry that says c: what opens it, the length of its value, its value
pub record EntryOf (G : Grammar) (bytes : List ℕ) (c : Content) : Type 0 where
  pub front : List ℕ
  pub lens : List ℕ
  pub is : bytes ≡ front ++ (lens ++ c.value)
  pub opens : G.Opening front c.code c.key
  pub says : G.Says c.code lens (length c.value)

-- these bytes are entries that say cs, without gaps. `shut`: the entry before was one that none may follow
pub data Entries (G : Grammar) (S : Shape) : Bool → List ℕ → List Content → Type 0 where
  no_entry : {shut : Bool} → Entries G S shut [] []
  entry : {c : Content} {cs : List Content} {bytes more : List ℕ} → EntryOf G bytes c → Entries G S (S.last c.code) more cs
      → Entries G S false (bytes ++ more) (c ∷ cs)

-- a named entry meets its rule
abbrev pub Ruled : Shape → ℕ → Content → Type 0
Ruled S e c = names S e c.code ≡ true → reader_rule S c ≡ true

-- a named entry is none of those before it again
abbrev pub New : Shape → ℕ → Content → Label → Type 0
New S e c seen = names S e c.code ≡ true → same S (label_of c) seen ≡ false

-- an entry of this code is among these
pub data Among (code : ℕ) : List Content → Type 0 where
  first : {c : Content} {cs : List Content} → c.code ≡ code → Among code (c ∷ cs)
  later : {c : Content} {cs : List Content} → Among code cs → Among code (c ∷ cs)

-- each entry meets its rule and comes once, where those seen came before
pub data Lawful (S : Shape) (e : ℕ) : List Label → List Content → Type 0 where
  no_more : {seen : List Label} → Lawful S e seen []
  and_then : {seen : List Label} {c : Content} {cs : List Content} → Ruled S e c → Each (New S e c) seen → Lawful S e (seen ++ (label_of c ∷ [])) cs
      → Lawful S e seen (c ∷ cs)

-- an image of format f that says cs, as edition e has it: a header, the entries, what closes them, the right check over all before the closing, and any rest
pub record Published (f : Format) (e : ℕ) (image : List ℕ) (cs : List Content) : Type 0 where
  pub entries : List ℕ
  pub closing : List ℕ
  pub rest : List ℕ
  pub header : List ℕ
  pub headed : header ≡ (shape f).header (length entries)
  pub is : image ≡ header ++ (entries ++ (closing ++ ((shape f).check (header ++ entries) ++ rest)))
  pub closes : (grammar f).Closing closing
  pub takes : (grammar f).Takes (length entries)
  pub made : Entries (grammar f) (shape f) false entries cs
  pub lawful : Lawful (shape f) e [] cs
  pub required : Each (λ code. Among code cs) (shape f).required
  pub short : length image ≤ limit
