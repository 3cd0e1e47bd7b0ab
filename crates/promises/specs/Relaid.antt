-- What a change puts out, be it an edit, an addition or a removal: every other entry's bytes are kept, in order; the end is the writer's; then all is FFh.
-- Assumes nothing.
use Rattle.std.specs.Prelude.{ℕ, ◌-◌, ◌≡◌, List, ◌++◌, false, length, replicate}
use Rattle.layout.specs.declared.Format.{Format}
use Rattle.layout.specs.Editions.{shape}
use Rattle.layout.specs.Walk.{Content}
use Rattle.laws.specs.Grammar.{grammar, Entries}
use Rattle.promises.specs.Words.{Serves}
use Rattle.promises.specs.Written.{Written}

-- an entry of this code had the bytes `old` in the image, and has `new` in the output; `old` is empty where it was added, and `new` where it was removed. The entries before it say `contents`
-- and those after it `later`, and are the same bytes in both
pub record Relaid (f e : ℕ) (image : List ℕ) (format : Format) (contents later : List Content) (code : ℕ) (old new memory out : List ℕ) (m : ℕ) : Type 0 where
  pub serves : Serves f e format
  -- the entries before, and those after
  pub before : List ℕ
  pub made : Entries (grammar format) (shape format) false before contents
  pub after : List ℕ
  pub made_after : Entries (grammar format) (shape format) ((shape format).last code) after later
  -- all entries, as they were and as they are
  pub entries : List ℕ
  pub entries' : List ℕ
  pub was : entries ≡ before ++ (old ++ after)
  pub becomes : entries' ≡ before ++ (new ++ after)
  -- the image was a header, these entries, a closing and the right check; what followed is dropped
  pub closing : List ℕ
  pub rest : List ℕ
  pub closed : (grammar format).Closing closing
  pub was_image : image ≡ (shape format).header (length entries) ++ (entries ++ (closing ++ ((shape format).check ((shape format).header (length entries) ++ entries) ++ rest)))
  -- the output ends as the writer's does, and FFh is in every byte after it
  pub image' : List ℕ
  pub written : Written format entries' image'
  pub long : m ≡ length image'
  pub filled : memory ≡ image' ++ replicate (length out - m) 0xFF
