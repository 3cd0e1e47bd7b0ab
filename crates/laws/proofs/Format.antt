-- What is asked of a format: its definitions read exactly what its grammar writes, and write what it reads.
-- Assumes nothing.
use Prim.Native.Nat.{ℕ, ◌+◌, ◌-◌, ◌≤◌, ◌<◌}
use mathlib.Core.Path.{◌≡◌}
use mathlib.Core.List.{List, [], ◌∷◌, ◌++◌}
use mathlib.Core.Bool.{Bool, true, false}
use lib.ListN.{length, drop}
use Rattle.std.specs.Prelude.{Ok, Some, None}
use Rattle.layout.specs.declared.Head.{Head}
use Rattle.layout.specs.Bytes.{part}
use Rattle.layout.specs.Shape.{Shape, fine}
use Rattle.layout.specs.Editions.{names}
use Rattle.layout.specs.Read.{limit}
use Rattle.layout.specs.Write.{image_of}
use Rattle.layout.specs.Each.{Each}
use Rattle.laws.specs.Grammar.{Grammar}

-- the head that bytes of an opening are read as: the key is what they end with
abbrev pub head_from : List ℕ → ℕ → List ℕ → Head
head_from front c key = record { code = c; key = length front - length key; klen = length key; at = length front }

-- s begins with an opening that is read as h
pub record Begins (G : Grammar) (s : List ℕ) (h : Head) : Type 0 where
  pub front : List ℕ
  pub key : List ℕ
  pub rest : List ℕ
  pub joined : s ≡ front ++ rest
  pub opens : G.Opening front h.code key
  pub says : h ≡ head_from front h.code key

-- after an opening, s goes on with bytes that say the length v of a value, which begins at j
pub record Goes (G : Grammar) (s : List ℕ) (h : Head) (v j : ℕ) : Type 0 where
  pub lens : List ℕ
  pub rest : List ℕ
  pub joined : drop h.at s ≡ lens ++ rest
  pub says : G.Says h.code lens v
  pub ends : j ≡ h.at + length lens

-- the key is what an opening ends with
pub record KeyLast (front key : List ℕ) : Type 0 where
  pub before : List ℕ
  pub joined : front ≡ before ++ key
  pub some : 0 < length before

-- an image with these entries opens to a room that holds them and then their end
pub record Holds (S : Shape) (image entries : List ℕ) : Type 0 where
  pub end : ℕ
  pub rest : List ℕ
  pub opened : S.opened image ≡ Ok ((length (S.header (length entries))), end)
  pub room : part (length (S.header (length entries))) (end - length (S.header (length entries))) image ≡ entries ++ rest
  pub ends : (b : Bool) → S.head b rest ≡ Ok None
  pub filled : S.filled (length (S.header (length entries)) + length entries) end ≡ fine

-- an image is a header, these entries, which may have so many bytes, a closing and a rest
pub record Wholly (S : Shape) (G : Grammar) (image entries : List ℕ) : Type 0 where
  pub closing : List ℕ
  pub rest : List ℕ
  pub closes : G.Closing closing
  pub takes : G.Takes (length entries)
  pub is : image ≡ S.header (length entries) ++ (entries ++ (closing ++ rest))

pub record Laws (S : Shape) (G : Grammar) : Type 1 where
  -- heads
  pub opening_key : (front key : List ℕ) (c : ℕ) → G.Opening front c key → KeyLast front key
  pub opening_first : (front key : List ℕ) (c : ℕ) → G.Opening front c key → (rest : List ℕ) × (front ≡ c ∷ rest)
  pub keyless : (front key : List ℕ) (c : ℕ) → S.keyed ≡ false → G.Opening front c key → key ≡ []
  pub head_sound : (b : Bool) (s : List ℕ) (h : Head) → S.head b s ≡ Ok (Some h) → Begins G s h
  pub head_complete : (front key t : List ℕ) (c : ℕ) → G.Opening front c key → S.head false (front ++ t) ≡ Ok (Some (head_from front c key))
  -- after an entry that none may follow nothing opens
  pub head_shut : (c : ℕ) (s : List ℕ) (h : Head) → S.last c ≡ true → S.head true s ≡ Ok (Some h) → ⊥
  -- entries end there whatever came before
  pub head_ends : (b c : Bool) (s : List ℕ) → S.head b s ≡ Ok None → S.head c s ≡ Ok None
  -- lengths
  pub vlen_sound : (s : List ℕ) (h : Head) (v j : ℕ) → h.at ≤ length s → S.vlen h s ≡ Ok (v, j) → Goes G s h v j
  pub vlen_complete : (a lens t : List ℕ) (h : Head) (v : ℕ) → length a ≡ h.at → G.Says h.code lens v →
      S.vlen h (a ++ (lens ++ t)) ≡ Ok (v, (h.at + length lens))
  -- what is written
  pub opening_made : (e c : ℕ) (key : List ℕ) → names S e c ≡ true → length key ≤ limit → (S.keyed ≡ false → key ≡ []) → G.Opening (S.opening c key) c key
  pub opening_long : (c : ℕ) (key : List ℕ) → (S.keyed ≡ false → key ≡ []) → length key ≤ length (S.opening c key)
  -- no bytes open an entry shorter, or say a length shorter
  pub opening_shortest : (c : ℕ) (key l : List ℕ) → Each (λ b. b < 256) l → G.Opening l c key → length (S.opening c key) ≤ length l
  pub lens_made : (c n : ℕ) → S.length_rule c n ≡ true → n ≤ limit → G.Says c (S.lens c n) n
  pub lens_shortest : (c n : ℕ) (l : List ℕ) → Each (λ b. b < 256) l → G.Says c l n → length (S.lens c n) ≤ length l
  pub key_made : (c : ℕ) (key : List ℕ) → S.writer_key c key ≡ true → S.reader_key c key ≡ true
  -- images
  pub closing_made : G.Closing S.closing
  pub closing_length : (z : List ℕ) → G.Closing z → length z ≡ length S.closing
  -- entries of an image that is not too long to be written
  pub takes_made : (entries : List ℕ) → length (image_of S entries) ≤ S.most → G.Takes (length entries)
  pub room_made : (entries z t : List ℕ) → G.Closing z → G.Takes (length entries) →
      let image = S.header (length entries) ++ (entries ++ (z ++ (S.check (S.header (length entries) ++ entries) ++ t))) in
      Holds S image entries
  pub room_sound : (b : Bool) (image entries rest : List ℕ) (start end : ℕ) → S.opened image ≡ Ok (start, end) →
      part start (end - start) image ≡ entries ++ rest → S.head b rest ≡ Ok None → S.filled (start + length entries) end ≡ fine →
      (start ≡ length (S.header (length entries))) × Wholly S G image entries
