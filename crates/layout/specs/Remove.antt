-- Removing an entry, into a second buffer (02, "Add and remove fields").
-- Assumes nothing.
use Rattle.std.specs.Prelude.{ℕ, List, []}
use Rattle.layout.specs.Bytes.{if, one_of, refusal}
use Rattle.layout.specs.Shape.{Shape}
use Rattle.layout.specs.Write.{Outcome}
use Rattle.layout.specs.Change.{Allowed, allowed, denied, Change, may_change, in_place, change_image}

-- of an entry of this code: 11 at 0 where the code is required. Every edition names such a code, so that an accepted image has it once (8)
abbrev pub remove_asks : Shape → ℕ → ℕ → Allowed
remove_asks S c p = if (one_of S.required c) (λ _. denied (refusal 11 0)) (λ _. allowed)

-- all entries but entry i: 13, 14, 11
unfoldable pub removal : ℕ → Change
removal i = record { asks = λ S e p rs. may_change (remove_asks S) S e p rs i; entries = λ S rs. in_place (λ r. []) rs i }

-- 16, 1, 2 (image or output), the image's own refusals, then 13, 14, 11, 12
abbrev pub remove_entry : ℕ → ℕ → List ℕ → ℕ → List ℕ → Outcome
remove_entry f e img i out = change_image (removal i) f e img out
