-- Adding an entry, into a second buffer (02, "Add and remove fields").
-- Assumes nothing.
use Rattle.std.specs.Prelude.{ℕ, List, [], ◌∷◌}
use Rattle.layout.specs.declared.Field.{Field}
use Rattle.layout.specs.Bytes.{if, refusal}
use Rattle.layout.specs.Shape.{Shape}
use Rattle.layout.specs.Editions.{names}
use Rattle.layout.specs.Walk.{Raw, Content, label_of, labels_of}
use Rattle.layout.specs.Read.{seen_before}
use Rattle.layout.specs.Write.{parts_inside, field_content, writer_rule, entry_bytes, Outcome}
use Rattle.layout.specs.Change.{Allowed, allowed, denied, bytes_of, Change, change_image}

-- of the first field and the entries: 13, 14, 7, 8, each at 0. No field is 13
unfoldable pub may_add : Shape → ℕ → List Raw → List Field → List ℕ → Allowed
may_add S e rs [] values = denied (refusal 13 0)
may_add S e rs (x ∷ xs) values =
    if (parts_inside S.keyed x values)
    (λ _. if (names S e x.code)
    (λ _. if (writer_rule S (field_content S values x))
    (λ _. if (seen_before S (labels_of rs) (label_of (field_content S values x))) (λ _. denied (refusal 8 0)) (λ _. allowed))
    (λ _. denied (refusal 7 0)))
    (λ _. denied (refusal 14 0)))
    (λ _. denied (refusal 13 0))

-- the bytes of each entry, with a new one after the last; before one that none may follow, which is the last of an image's entries
unfoldable pub added_entries : Shape → List Raw → Content → List (List ℕ)
added_entries S [] c = entry_bytes S c ∷ []
added_entries S (r ∷ rs) c =
    if (S.last r.frame.code) (λ _. entry_bytes S c ∷ r.bytes ∷ bytes_of rs) (λ _. r.bytes ∷ added_entries S rs c)

-- the same with the first field's; without a field, which is 13, none is new
abbrev pub with_field : Shape → List Raw → List Field → List ℕ → List (List ℕ)
with_field S rs [] values = bytes_of rs
with_field S rs (x ∷ xs) values = added_entries S rs (field_content S values x)

-- an entry for the first of these fields
unfoldable pub addition : List Field → List ℕ → Change
addition xs values = record { asks = λ S e p rs. may_add S e rs xs values; entries = λ S rs. with_field S rs xs values }

-- 16, 1, 2 (image or output), the image's own refusals, then 13, 14, 7, 8, 12
abbrev pub add_field : ℕ → ℕ → List ℕ → List Field → List ℕ → List ℕ → Outcome
add_field f e img xs values out = change_image (addition xs values) f e img out
