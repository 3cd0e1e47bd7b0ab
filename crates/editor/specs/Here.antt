-- A change of entries by where they stand in an image.
-- Assumes nothing.
use Rattle.std.specs.Prelude.{ℕ, ◌+◌, ◌-◌, ◌≤◌, ◌<◌, ◌≡◌, List, [], ◌∷◌, ◌++◌, true, length, ltb, Ok, Err, Some, None}
use Rattle.layout.specs.Answers.{Chosen}
use Rattle.layout.specs.declared.Field.{Field}
use Rattle.layout.specs.declared.Frame.{Frame}
use Rattle.layout.specs.Bytes.{if, part, refusal}
use Rattle.layout.specs.Shape.{Shape, Label}
use Rattle.layout.specs.Editions.{chosen, names}
use Rattle.layout.specs.Walk.{Raw, content, label_of}
use Rattle.layout.specs.Read.{limit, same}
use Rattle.layout.specs.Write.{Outcome, refuse, put, image_of, entry_bytes, field_content, parts_inside, writer_rule}
use Rattle.layout.specs.Change.{Allowed, allowed, denied}
use Rattle.layout.specs.Edit.{edit_asks}
use Rattle.layout.specs.Remove.{remove_asks}
use Rattle.accept.specs.Answers.{Taken}
use Rattle.accept.specs.Taken.{taken}
use Rattle.editor.specs.declared.Entries.{Entries}
use Rattle.editor.specs.declared.Fresh.{Fresh}
use Rattle.editor.specs.declared.Fresh.TheVariants.{Nothing, Value, Entry}
use Rattle.editor.specs.Answers.{New}

-- ---- what is laid

-- a value of an entry of this code, after the bytes that say its length
abbrev pub value_bytes : Shape → ℕ → List ℕ → List ℕ
value_bytes S c v = S.lens c (length v) ++ v

-- the bytes that are new among those of entries: none; a value's; or those of a whole entry
abbrev pub fresh_bytes : Shape → Fresh → List ℕ
fresh_bytes S Nothing = []
fresh_bytes S (Value c v) = value_bytes S c v.now
fresh_bytes S (Entry c key v) = S.opening c key.now ++ value_bytes S c v.now

-- they can be put: a code is a byte, and a value meets the rule on lengths
abbrev pub Puttable : Shape → Fresh → Type 0
Puttable S Nothing = Unit {0}
Puttable S (Value c v) = S.length_rule c (length v.now) ≡ true
Puttable S (Entry c key v) = (c < 256) × (S.length_rule c (length v.now) ≡ true)

-- bytes of entries: those that stay in front, the new ones, and those that stay after them
unfoldable pub spliced : (front fresh after : List ℕ) → List ℕ
spliced front fresh after = (front ++ fresh) ++ after

-- the same, of the parts that the code holds
abbrev pub entries_of : Shape → Entries → List ℕ
entries_of S x = spliced x.front.now (fresh_bytes S x.fresh) x.after.now

-- the same, where the entries of an image from `start` to `cut` stay, and those from `next` to `over`
abbrev pub spliced_at : List ℕ → List ℕ → (start cut next over : ℕ) → List ℕ
spliced_at fresh image start cut next over = spliced (part start (cut - start) image) fresh (part next (over - next) image)

-- ---- a change of one entry

-- the entry with the frame f at p lies among entries that begin at `start` and end at `over`, in the image
pub record Within (image : List ℕ) (start over p : ℕ) (f : Frame) : Type 0 where
  pub begins : start ≤ p
  pub opens : f.at ≤ f.size
  pub ends : p + f.size ≤ over
  pub inside : over ≤ length image

-- what is asked of it: 14, and what is asked of its code and its place
abbrev pub asked_at : (ℕ → ℕ → Allowed) → Shape → ℕ → ℕ → Frame → Allowed
asked_at ask S e p f = if (names S e f.code) (λ _. ask f.code p) (λ _. denied (refusal 14 p))

-- the image of these bytes of entries, where that is allowed: 12 comes last
abbrev pub put_allowed : Allowed → Shape → List ℕ → List ℕ → Outcome
put_allowed allowed S entries out = put S (image_of S entries) out
put_allowed (denied r) S entries out = refuse r out

-- another value for it: 14, 7, then 12
unfoldable pub edit_at : Shape → ℕ → List ℕ → (start over p : ℕ) → Frame → List ℕ → List ℕ → Outcome
edit_at S e image start over p f v out =
    put_allowed (asked_at (edit_asks S v) S e p f) S (spliced_at (value_bytes S f.code v) image start (p + f.at) (p + f.size) over) out

-- the entries without it: 14, 11, then 12
unfoldable pub remove_at : Shape → ℕ → List ℕ → (start over p : ℕ) → Frame → List ℕ → Outcome
remove_at S e image start over p f out = put_allowed (asked_at (remove_asks S) S e p f) S (spliced_at [] image start p (p + f.size) over) out

-- ---- a new entry

-- where an entry of this label goes among entries of which the first stands at p: before one that none may follow, and else after the last; or one of them is the same
unfoldable pub new_at : Shape → Label → List Raw → ℕ → New
new_at S a [] p = Some p
new_at S a (r ∷ rs) p =
    if (same S a (label_of (content r))) (λ _. None)
    (λ _. if (S.last r.frame.code) (λ _. Some p) (λ _. new_at S a rs (p + r.frame.size)))

-- 8, then 12
abbrev pub add_new : New → Shape → List ℕ → ℕ → ℕ → Field → List ℕ → List ℕ → Outcome
add_new None S image start over x values out = refuse (refusal 8 0) out
add_new (Some at) S image start over x values out =
    put S (image_of S (spliced_at (entry_bytes S (field_content S values x)) image start at at over)) out

-- the entry of a field, among these entries: 13, 14, 7, 8, then 12
unfoldable pub add_at : Shape → ℕ → List ℕ → ℕ → ℕ → List Raw → Field → List ℕ → List ℕ → Outcome
add_at S e image start over rs x values out =
    if (parts_inside S.keyed x values)
    (λ _. if (names S e x.code)
    (λ _. if (writer_rule S (field_content S values x))
    (λ _. add_new (new_at S (label_of (field_content S values x)) rs start) S image start over x values out)
    (λ _. refuse (refusal 7 0) out))
    (λ _. refuse (refusal 14 0) out))
    (λ _. refuse (refusal 13 0) out)

-- ---- the image

-- the refusal where the output is too long: 16, 1, then 2
abbrev pub too_long_by : Chosen → Taken
too_long_by (Ok f) = Err (refusal 2 0)
too_long_by (Err n) = Err (refusal n 0)

-- an image that is to be changed into an output of n bytes
unfoldable pub taken_for : ℕ → ℕ → ℕ → List ℕ → Taken
taken_for n f e image = if (ltb limit n) (λ _. too_long_by (chosen f e)) (λ _. taken f e image)
