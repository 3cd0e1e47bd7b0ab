-- A change of an image into a second buffer: what an edit, an addition and a removal share (01, "Writing, editing, walking"; 02, "Add and remove fields").
-- Assumes nothing.
use Rattle.std.specs.Prelude.{ℕ, zero, suc, ◌+◌, List, [], ◌∷◌, ◌++◌, ◌||◌, length, ltb, Ok, Err}
use Rattle.layout.specs.Answers.{Chosen}
use Rattle.layout.specs.declared.Refusal.{Refusal}
use Rattle.layout.specs.Bytes.{if, refusal}
use Rattle.layout.specs.Shape.{Shape}
use Rattle.layout.specs.Editions.{shape, chosen, names}
use Rattle.layout.specs.Walk.{Raw}
use Rattle.layout.specs.Read.{limit, Read, accepted, refused, read_as}
use Rattle.layout.specs.Write.{Outcome, refuse, put, image_of}

-- ---- what is laid out, and how it ends

-- the bytes of each entry, as they stand
abbrev pub bytes_of : List Raw → List (List ℕ)
bytes_of [] = []
bytes_of (r ∷ rs) = r.bytes ∷ bytes_of rs

-- the bytes of entries, one after another
unfoldable pub laid : List (List ℕ) → List ℕ
laid [] = []
laid (b ∷ bs) = b ++ laid bs

-- the image of entries that have these bytes: one after another, with the writer's header, end and check
abbrev pub laid_out : Shape → List (List ℕ) → List ℕ
laid_out S entries = image_of S (laid entries)

-- ---- what a change is

-- what may be wrong with a change of an accepted image
pub data Allowed : Type 0 where
  allowed : Allowed
  denied : Refusal → Allowed

pub record Change : Type 0 where
  -- what is asked before 12: of an edition, the place of the first entry of an accepted image, and its entries
  pub asks : Shape → ℕ → ℕ → List Raw → Allowed
  -- the bytes of each entry after the change, in order
  pub entries : Shape → List Raw → List (List ℕ)

-- what is asked of entry i, where the first entry stands at p: 13, 14, and then what is asked of its code and its place
unfoldable pub may_change : (ℕ → ℕ → Allowed) → Shape → ℕ → ℕ → List Raw → ℕ → Allowed
may_change ask S e p [] i = denied (refusal 13 0)
may_change ask S e p (r ∷ rs) zero = if (names S e r.frame.code) (λ _. ask r.frame.code p) (λ _. denied (refusal 14 p))
may_change ask S e p (r ∷ rs) (suc i) = may_change ask S e (p + r.frame.size) rs i

-- the bytes of each entry, with others in the place of entry i
unfoldable pub in_place : (Raw → List (List ℕ)) → List Raw → ℕ → List (List ℕ)
in_place new [] i = []
in_place new (r ∷ rs) zero = new r ++ bytes_of rs
in_place new (r ∷ rs) (suc i) = r.bytes ∷ in_place new rs i

-- ---- the call

-- after what is asked: 12
abbrev pub change_allowed : Allowed → Shape → List (List ℕ) → List ℕ → Outcome
change_allowed allowed S entries out = put S (laid_out S entries) out
change_allowed (denied r) S entries out = refuse r out

abbrev pub change_read : Read → Change → ℕ → List ℕ → Outcome
change_read (accepted f start rs) x e out = change_allowed (x.asks (shape f) e start rs) (shape f) (x.entries (shape f) rs) out
change_read (refused r) x e out = refuse r out

abbrev pub change_chosen : Chosen → Change → ℕ → List ℕ → List ℕ → Outcome
change_chosen (Ok f) x e img out =
    if (ltb limit (length img) || ltb limit (length out)) (λ _. refuse (refusal 2 0) out) (λ _. change_read (read_as f e img) x e out)
change_chosen (Err n) x e img out = refuse (refusal n 0) out

-- 16, 1, 2 (image or output), the image's own refusals, what the change asks, 12
unfoldable pub change_image : Change → ℕ → ℕ → List ℕ → List ℕ → Outcome
change_image x f e img out = change_chosen (chosen f e) x e img out
