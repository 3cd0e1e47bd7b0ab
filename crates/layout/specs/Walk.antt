-- The walk over frames (01, "Order"), for any format.
-- Assumes nothing.
use Rattle.std.specs.Prelude.{ℕ, zero, suc, ◌+◌, List, [], ◌∷◌, ◌++◌, map, Bool, length, take, drop, Ok, Err, Some, None}
use Rattle.layout.specs.declared.Frame.{Frame}
use Rattle.layout.specs.Answers.{Next}
use Rattle.layout.specs.Bytes.{part}
use Rattle.layout.specs.Shape.{Shape, Label, next}

-- an entry as it stands in an image: all its bytes, and its frame
pub record Raw : Type 0 where
  pub bytes : List ℕ
  pub frame : Frame

-- what an entry says
pub record Content : Type 0 where
  pub code : ℕ
  pub key : List ℕ
  pub value : List ℕ

unfoldable pub content : Raw → Content
content r =
    record {
      code = r.frame.code;
      key = part r.frame.key r.frame.klen r.bytes;
      value = part r.frame.val r.frame.vlen r.bytes;
    }

abbrev pub label_of : Content → Label
label_of c = record { code = c.code; key = c.key }

abbrev pub labels_of : List Raw → List Label
labels_of rs = map (λ r. label_of (content r)) rs

-- the bytes of entries, one after another
abbrev pub flat : List Raw → List ℕ
flat [] = []
flat (r ∷ rs) = r.bytes ++ flat rs

-- what a walk finds: all entries, and the place of the end; or a number and a place
pub data Walked : Type 0 where
  done : List Raw → ℕ → Walked
  stop : ℕ → ℕ → Walked

abbrev pub more : Raw → Walked → Walked
more r (done rs p) = done (r ∷ rs) p
more r (stop n p) = stop n p

-- one turn at place p, where s is the room that is left; `on` goes on after a frame
abbrev pub turn : Next → ℕ → List ℕ → (Frame → Walked) → Walked
turn (Ok (Some f)) p s on = more (record { bytes = take f.size s; frame = f }) (on f)
turn (Ok None) p s on = done [] p
turn (Err n) p s on = stop n p

-- the entries of s, whose first byte stands at p, in at most d turns
unfoldable pub walks : ℕ → Shape → Bool → ℕ → List ℕ → Walked
walks zero S b p s = stop 5 p
walks (suc d) S b p s = turn (next S b s) p s (λ f. walks d S (S.last f.code) (p + f.size) (drop f.size s))

-- the same in as many turns as there are bytes, and one for the end. A frame has at least one byte, so that no walk runs out of turns
unfoldable pub walk : Shape → Bool → ℕ → List ℕ → Walked
walk S b p s = walks (suc (length s)) S b p s
