-- Writing an image from a field list (01, "Writing, editing, walking").
-- Assumes nothing.
use Rattle.std.specs.Prelude.{ℕ, zero, suc, ◌+◌, ◌*◌, ◌-◌, List, [], ◌∷◌, ◌++◌, Bool, true, false, ◌&&◌, length, get_or, drop, replicate, ltb, leb, Ok, Err}
use Rattle.layout.specs.declared.Part.{Part}
use Rattle.layout.specs.declared.Format.{Format}
use Rattle.layout.specs.Answers.{Chosen, Made}
use Rattle.layout.specs.declared.Field.{Field}
use Rattle.layout.specs.declared.Refusal.{Refusal}
use Rattle.layout.specs.Bytes.{if, part, part_at, refusal}
use Rattle.layout.specs.Shape.{Shape, Label, Judged, fine, faulty}
use Rattle.layout.specs.Editions.{shape, chosen, names}
use Rattle.layout.specs.Walk.{Content, label_of}
use Rattle.layout.specs.Read.{limit, seen_before, or_else, complete}
use Rattle.layout.specs.Calls.{Told, told, told_refusal}

-- ---- numbers and fields in lent bytes

-- the number at place a of s, four bytes, low byte first
abbrev pub word : ℕ → List ℕ → ℕ
word a s = get_or s a 0 + get_or s (a + 1) 0 * 256 + get_or s (a + 2) 0 * 65536 + get_or s (a + 3) 0 * 16777216

abbrev pub field_at : List ℕ → Field
field_at s = record { code = word 0 s; key = part_at (word 4 s) (word 8 s); value = part_at (word 12 s) (word 16 s) }

-- at most n items of s, so many bytes for each, where `read` takes one from the front
unfoldable pub items : {A : Type 0} → ℕ → (List ℕ → A) → ℕ → List ℕ → List A
items size read zero s = []
items size read (suc n) s = if (ltb (length s) size) (λ _. []) (λ _. read s ∷ items size read n (drop size s))

-- all items of s; a last one that is cut short counts as none
abbrev pub items_in : {A : Type 0} → ℕ → (List ℕ → A) → List ℕ → List A
items_in size read s = items size read (length s) s

-- all fields of s, 20 bytes for each
unfoldable pub fields_in : List ℕ → List Field
fields_in s = items_in 20 field_at s

-- ---- a field

-- the part lies inside the lent values
abbrev pub inside : Part → List ℕ → Bool
inside x values = leb (x.place.0 + x.len) (length values)

-- outside VPD a field's key counts as empty, and is never a reason for 13
abbrev pub field_key : Bool → Field → List ℕ → List ℕ
field_key true x values = part x.key.place.0 x.key.len values
field_key false x values = []

abbrev pub parts_inside : Bool → Field → List ℕ → Bool
parts_inside true x values = inside x.key values && inside x.value values
parts_inside false x values = inside x.value values

-- what a field says
abbrev pub field_content : Shape → List ℕ → Field → Content
field_content S values x =
    record {
      code = x.code;
      key = field_key S.keyed x values;
      value = part x.value.place.0 x.value.len values;
    }

-- the writer's rule of a field
unfoldable pub writer_rule : Shape → Content → Bool
writer_rule S c = S.writer_key c.code c.key && S.length_rule c.code (length c.value) && S.value_rule c.code c.value

-- what is wrong with a field, after those seen: 14, 13, 9, 7, 8, and 0 for nothing. The test says whether the field before was one that none may follow
unfoldable pub field_fault : Shape → ℕ → List ℕ → Bool → List Label → Field → ℕ
field_fault S e values b seen x =
    if (names S e x.code)
    (λ _. if (parts_inside S.keyed x values)
    (λ _. if b (λ _. 9)
    (λ _. if (writer_rule S (field_content S values x))
    (λ _. if (seen_before S seen (label_of (field_content S values x))) (λ _. 8) (λ _. 0))
    (λ _. 7)))
    (λ _. 13))
    (λ _. 14)

-- the first fault of fields of which the first has the number i in the list, field by field
unfoldable pub judge_fields : Shape → ℕ → List ℕ → Bool → List Label → List Field → ℕ → Judged
judge_fields S e values b seen [] i = fine
judge_fields S e values b seen (x ∷ xs) i =
    or_else (field_fault S e values b seen x) i
    (λ _. judge_fields S e values (S.last x.code) (seen ++ (label_of (field_content S values x) ∷ [])) xs (i + 1))

abbrev pub contents_of : Shape → List ℕ → List Field → List Content
contents_of S values [] = []
contents_of S values (x ∷ xs) = field_content S values x ∷ contents_of S values xs

abbrev pub content_codes : List Content → List ℕ
content_codes [] = []
content_codes (c ∷ cs) = c.code ∷ content_codes cs

-- ---- an image

-- the bytes of a new entry, with the shortest lengths
unfoldable pub entry_bytes : Shape → Content → List ℕ
entry_bytes S c = S.opening c.code c.key ++ (S.lens c.code (length c.value) ++ c.value)

unfoldable pub entries_bytes : Shape → List Content → List ℕ
entries_bytes S [] = []
entries_bytes S (c ∷ cs) = entry_bytes S c ++ entries_bytes S cs

-- the header and the entries, as they stand before the closing
abbrev pub body : Shape → List ℕ → List ℕ
body S entries = S.header (length entries) ++ entries

-- the image of these bytes of entries: header, entries, closing and the right check
unfoldable pub image_of : Shape → List ℕ → List ℕ
image_of S entries = body S entries ++ (S.closing ++ S.check (body S entries))

-- ---- the output

-- the answer of a call that makes an image, and what the lent output then is
pub record Outcome : Type 0 where
  pub answer : Made
  pub memory : List ℕ

abbrev pub refuse : Refusal → List ℕ → Outcome
refuse r out = record { answer = Err r; memory = out }

-- FFh in every output byte after the image's end
abbrev pub padded : List ℕ → ℕ → List ℕ
padded image n = image ++ replicate (n - length image) 0xFF

-- the image goes into the output where it fits; 12 where it does not, or where it is longer than its format allows
unfoldable pub put : Shape → List ℕ → List ℕ → Outcome
put S image out =
    if (leb (length image) S.most && leb (length image) (length out))
    (λ _. record { answer = Ok (length image); memory = padded image (length out) })
    (λ _. refuse (refusal 12 0) out)

-- the bytes go to the output's front, and those past them stay; 12 where they do not fit
abbrev pub put_bytes : List ℕ → List ℕ → Outcome
put_bytes bytes out =
    if (leb (length bytes) (length out))
    (λ _. record { answer = Ok (length bytes); memory = bytes ++ drop (length bytes) out })
    (λ _. refuse (refusal 12 0) out)

-- ---- write

-- after the fields: 11, then 12
abbrev pub write_judged : Judged → Shape → List Content → List ℕ → Outcome
write_judged fine S cs out =
    if (complete S.required (content_codes cs)) (λ _. put S (image_of S (entries_bytes S cs)) out) (λ _. refuse (refusal 11 0) out)
write_judged (faulty n i) S cs out = refuse (refusal n i) out

unfoldable pub write_as : Format → ℕ → List Field → List ℕ → List ℕ → Outcome
write_as f e xs values out = write_judged (judge_fields (shape f) e values false [] xs 0) (shape f) (contents_of (shape f) values xs) out

abbrev pub write_chosen : Chosen → ℕ → List Field → List ℕ → List ℕ → Outcome
write_chosen (Ok f) e xs values out = if (ltb limit (length out)) (λ _. refuse (refusal 2 0) out) (λ _. write_as f e xs values out)
write_chosen (Err n) e xs values out = refuse (refusal n 0) out

-- 16, 1, 2; per field 14, 13, 9, 7, 8; then 11, 12
unfoldable pub write_image : ℕ → ℕ → List Field → List ℕ → List ℕ → Outcome
write_image f e xs values out = write_chosen (chosen f e) e xs values out

abbrev pub told_made : Made → Told
told_made (Ok n) = told n (part_at 0 0) []
told_made (Err r) = told_refusal r
