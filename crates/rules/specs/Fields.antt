-- What the pass over a field list answers.
-- Assumes nothing.
use Rattle.std.specs.Prelude.{ℕ, zero, suc, List, [], ◌∷◌, Bool, true, false, length, Some, None, Ok, Err}
use Rattle.std.specs.declared.option.Option.{Option}
use Rattle.std.specs.declared.result.Result.{Result}
use Rattle.layout.specs.declared.Field.{Field}
use Rattle.layout.specs.declared.Format.{Format}
use Rattle.layout.specs.declared.Refusal.{Refusal}
use Rattle.layout.specs.Bytes.{refusal}
use Rattle.layout.specs.Shape.{Shape, Label, Judged, fine, faulty}
use Rattle.layout.specs.Editions.{shape}
use Rattle.layout.specs.Walk.{label_of}
use Rattle.layout.specs.Read.{complete}
use Rattle.layout.specs.Write.{field_content, judge_fields, contents_of, content_codes, entries_bytes}
use Rattle.output.specs.Lengths.{capped}

-- what tells the entries apart that the fields make
abbrev pub field_labels : Shape → List ℕ → List Field → List Label
field_labels S values [] = []
field_labels S values (x ∷ xs) = label_of (field_content S values x) ∷ field_labels S values xs

-- the length of the entries that the fields make, cut off; or a refusal's number, with a field's number for its place
abbrev pub soundness : Judged → Bool → ℕ → Result ℕ Refusal
soundness fine true n = Ok (capped n)
soundness fine false n = Err (refusal 11 0)
soundness (faulty k i) b n = Err (refusal k i)

-- 14, 13, 9, 7, 8 field by field, then 11
unfoldable pub judged_fields : Format → ℕ → List Field → List ℕ → Result ℕ Refusal
judged_fields f e xs values =
    soundness (judge_fields (shape f) e values false [] xs 0)
    (complete (shape f).required (content_codes (contents_of (shape f) values xs)))
    (length (entries_bytes (shape f) (contents_of (shape f) values xs)))
