-- Editing one entry's value into a second buffer (01, "Writing, editing, walking").
-- Assumes nothing.
use Rattle.std.specs.Prelude.{ℕ, List, [], ◌∷◌, ◌++◌, Bool, ◌&&◌, length, take}
use Rattle.layout.specs.Bytes.{if, refusal}
use Rattle.layout.specs.Shape.{Shape}
use Rattle.layout.specs.Walk.{Raw}
use Rattle.layout.specs.Write.{Outcome}
use Rattle.layout.specs.Change.{Allowed, allowed, denied, Change, may_change, in_place, change_image}

-- the bytes of an entry with another value: what stands before its value's length, the length in its shortest form, the value
unfoldable pub revalued : Shape → Raw → List ℕ → List ℕ
revalued S r v = take r.frame.at r.bytes ++ (S.lens r.frame.code (length v) ++ v)

-- the rule on a new value
unfoldable pub edit_rule : Shape → ℕ → List ℕ → Bool
edit_rule S c v = S.length_rule c (length v) && S.value_rule c v

-- of an entry of this code at p: 7
abbrev pub edit_asks : Shape → List ℕ → ℕ → ℕ → Allowed
edit_asks S v c p = if (edit_rule S c v) (λ _. allowed) (λ _. denied (refusal 7 p))

-- another value for entry i: 13, 14, 7
unfoldable pub edit : ℕ → List ℕ → Change
edit i v = record { asks = λ S e p rs. may_change (edit_asks S v) S e p rs i; entries = λ S rs. in_place (λ r. revalued S r v ∷ []) rs i }

-- 16, 1, 2 (image or output), the image's own refusals, then 13, 14, 7, 12
abbrev pub edit_entry : ℕ → ℕ → List ℕ → ℕ → List ℕ → List ℕ → Outcome
edit_entry f e img i v out = change_image (edit i v) f e img out
