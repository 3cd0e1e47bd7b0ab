-- The calls that make an image: each gives a short length, or a refusal by one of its numbers.
-- Assumes nothing.
use Prim.Native.Nat.{ℕ, zero, suc, ◌+◌, ◌≤◌}
use mathlib.Core.Path.{◌≡◌, refl}
use mathlib.Core.List.{List, [], ◌∷◌, ◌++◌}
use mathlib.Core.Bool.{Bool, true, false, ◌&&◌, ◌||◌}
use native.Mathlib.Omega.{arith}
use lib.ListN.{length, length-append}
use lib.Dec.{ltb, leb}
use borrow.Author.Tests.{ltb-false, leb-true}
use Rattle.std.specs.Prelude.{Ok, Err}
use Rattle.layout.specs.declared.Format.{Format}
use Rattle.layout.specs.Answers.{Chosen, Made}
use Rattle.layout.specs.declared.Field.{Field}
use Rattle.layout.specs.Bytes.{one_of}
use Rattle.layout.specs.Shape.{Shape, Label, Judged, fine, faulty}
use Rattle.layout.specs.Editions.{shape, chosen, names}
use Rattle.layout.specs.Walk.{Raw, Content, label_of, labels_of, flat}
use Rattle.layout.specs.Read.{limit, seen_before, complete, Read, accepted, refused, read_as}
use Rattle.layout.specs.Write.{parts_inside, field_content, writer_rule, field_fault, judge_fields, contents_of, content_codes, entries_bytes, image_of, Outcome, put, write_judged, write_as, write_chosen, write_image}
use Rattle.layout.specs.Change.{laid_out, Allowed, allowed, denied, Change, may_change, change_allowed, change_read, change_chosen, change_image}
use Rattle.layout.specs.Edit.{edit_rule, edit_asks, edit, edit_entry}
use Rattle.layout.specs.Add.{may_add, addition, add_field}
use Rattle.layout.specs.Remove.{remove_asks, removal, remove_entry}
use Rattle.laws.specs.Grammar.{grammar}
use Rattle.layout.proofs.Choices.{either, both, neither}
use Rattle.laws.proofs.Formats.{laws}
use Rattle.laws.proofs.Frames.{raw-size}
use Rattle.laws.proofs.Walking.{Frames}
use Rattle.laws.proofs.Images.{accepted-made}
use Rattle.promises.specs.Numbers.{image_numbers, write_numbers, change_numbers}
use Rattle.promises.proofs.FormatNumbers.{Low, ChosenNumber, chosen-number}
use Rattle.promises.proofs.Refusals.{farthest, JudgedLow, Fault, or-low, ReadLow, read_low, wider}
use Rattle.promises.proofs.Entries.{ends-in}

-- an image that is made is short, and a refusal is low
abbrev pub MadeLow : List ℕ → ℕ → Made → Type 0
MadeLow numbers most (Ok n) = n ≤ limit
MadeLow numbers most (Err r) = Low numbers most r.number r.place.0

abbrev OutcomeLow : List ℕ → ℕ → Outcome → Type 0
OutcomeLow numbers most o = MadeLow numbers most o.answer

put_low : (numbers : List ℕ) (most : ℕ) (S : Shape) (image out : List ℕ) → one_of numbers 12 ≡ true → length out ≤ limit → OutcomeLow numbers most (put S image out)
unfolding put
put_low numbers most S image out twelve short =
    either (OutcomeLow numbers most) (leb (length image) S.most && leb (length image) (length out))
    (λ t. let fits = leb-true (length image) (length out) (both (leb (length image) S.most) (leb (length image) (length out)) t).1 in omega arith)
    (λ _. record { number = twelve; place = omega arith })

-- ---- changes

abbrev AllowedLow : Allowed → Type 0
AllowedLow allowed = Unit {0}
AllowedLow (denied r) = Low change_numbers farthest r.number r.place.0

-- what a change asks is refused by one of its numbers, at a place in the image
abbrev AsksLow : Change → Type 0
AsksLow x = (f : Format) (e p : ℕ) (rs : List Raw) → Frames (shape f) (grammar f) false rs → p + length (flat rs) ≤ limit → AllowedLow (x.asks (shape f) e p rs)

-- of one entry, where that is so of its code and place
may-low : (ask : ℕ → ℕ → Allowed) → ((c p : ℕ) → p ≤ limit → AllowedLow (ask c p)) → (f : Format) (e : ℕ) (b : Bool) (p : ℕ) (rs : List Raw) (i : ℕ) →
    Frames (shape f) (grammar f) b rs → p + length (flat rs) ≤ limit → AllowedLow (may_change ask (shape f) e p rs i)
unfolding may_change one_of
may-low ask low f e b p [] i fs le = record { number = refl; place = omega arith }
may-low ask low f e b p (r ∷ rs) zero fs le =
    either AllowedLow (names (shape f) e r.frame.code) (λ _. low r.frame.code p (omega arith)) (λ _. record { number = refl; place = omega arith })
may-low ask low f e b p (r ∷ rs) (suc i) fs le =
    may-low ask low f e ((shape f).last r.frame.code) (p + r.frame.size) rs i fs.2 (omega (arith, length-append r.bytes (flat rs), raw-size fs.1))

edit-asks : (i : ℕ) (v : List ℕ) → AsksLow (edit i v)
unfolding edit one_of
edit-asks i v f e p rs fs le =
    may-low (edit_asks (shape f) v)
    (λ c p le. either AllowedLow (edit_rule (shape f) c v) (λ _. tt) (λ _. record { number = refl; place = omega arith }))
    f e false p rs i fs le

remove-asks : (i : ℕ) → AsksLow (removal i)
unfolding removal one_of
remove-asks i f e p rs fs le =
    may-low (remove_asks (shape f))
    (λ c p le. either AllowedLow (one_of (shape f).required c) (λ _. record { number = refl; place = omega arith }) (λ _. tt))
    f e false p rs i fs le

add-asks : (xs : List Field) (values : List ℕ) → AsksLow (addition xs values)
unfolding addition may_add one_of
add-asks [] values f e p rs fs le = record { number = refl; place = omega arith }
add-asks (x ∷ xs) values f e p rs fs le =
    let S : Shape = shape f in
    either AllowedLow (parts_inside S.keyed x values)
    (λ _. either AllowedLow (names S e x.code)
    (λ _. either AllowedLow (writer_rule S (field_content S values x))
    (λ _. either AllowedLow (seen_before S (labels_of rs) (label_of (field_content S values x))) (λ _. record { number = refl; place = omega arith }) (λ _. tt))
    (λ _. record { number = refl; place = omega arith }))
    (λ _. record { number = refl; place = omega arith }))
    (λ _. record { number = refl; place = omega arith })

changed-low : (x : Change) → AsksLow x → (f e : ℕ) (img out : List ℕ) → OutcomeLow change_numbers farthest (change_image x f e img out)
unfolding change_image one_of
changed-low x asks f e img out = choose (chosen f e) (chosen-number change_numbers refl refl f e)
  where
    allows : (S : Shape) (entries : List (List ℕ)) (a : Allowed) → length out ≤ limit → AllowedLow a → OutcomeLow change_numbers farthest (change_allowed a S entries out)
    allows S entries allowed short l = put_low change_numbers farthest S (laid_out S entries) out refl short
    allows S entries (denied r) short l = l

    reads : (g : Format) (y : Read) → length img ≤ limit → length out ≤ limit → read_as g e img ≡ y → ReadLow image_numbers y → OutcomeLow change_numbers farthest (change_read y x e out)
    reads g (accepted h start rs) short fits q l =
        let m = accepted-made g (laws g) e img h start rs q in
        rw m.0
        (allows (shape g) (x.entries (shape g) rs) (x.asks (shape g) e start rs) fits (asks g e start rs m.1.frames (omega (arith, ends-in m.1))))
    reads g (refused r) short fits q l = wider (wider (wider l))

    choose : (y : Chosen) → ChosenNumber change_numbers y → OutcomeLow change_numbers farthest (change_chosen y x e img out)
    choose (Ok g) l =
        either (OutcomeLow change_numbers farthest) (ltb limit (length img) || ltb limit (length out)) (λ _. record { number = refl; place = omega arith })
        (λ t.
        let n = neither (ltb limit (length img)) (ltb limit (length out)) t in
        let short = ltb-false limit (length img) n.0 in
        reads g (read_as g e img) short (ltb-false limit (length out) n.1) refl (read_low g e img short))
    choose (Err n) l = record { number = l; place = omega arith }

pub edited-low : (f e : ℕ) (image : List ℕ) (i : ℕ) (v out : List ℕ) → MadeLow change_numbers farthest (edit_entry f e image i v out).answer
edited-low f e image i v out = changed-low (edit i v) (edit-asks i v) f e image out

pub added-low : (f e : ℕ) (image : List ℕ) (xs : List Field) (values out : List ℕ) → MadeLow change_numbers farthest (add_field f e image xs values out).answer
added-low f e image xs values out = changed-low (addition xs values) (add-asks xs values) f e image out

pub removed-low : (f e : ℕ) (image : List ℕ) (i : ℕ) (out : List ℕ) → MadeLow change_numbers farthest (remove_entry f e image i out).answer
removed-low f e image i out = changed-low (removal i) (remove-asks i) f e image out

-- ---- write

field-number : (S : Shape) (e : ℕ) (values : List ℕ) (b : Bool) (seen : List Label) (x : Field) → Fault write_numbers (field_fault S e values b seen x)
unfolding field_fault one_of
field-number S e values b seen x =
    either (Fault write_numbers) (names S e x.code)
    (λ _. either (Fault write_numbers) (parts_inside S.keyed x values)
    (λ _. either (Fault write_numbers) b (λ _. refl)
    (λ _. either (Fault write_numbers) (writer_rule S (field_content S values x))
    (λ _. either (Fault write_numbers) (seen_before S seen (label_of (field_content S values x))) (λ _. refl) (λ _. refl))
    (λ _. refl)))
    (λ _. refl))
    (λ _. refl)

fields-low : (most : ℕ) (S : Shape) (e : ℕ) (values : List ℕ) (b : Bool) (seen : List Label) (xs : List Field) (i : ℕ) → i + length xs ≤ most →
    JudgedLow write_numbers most (judge_fields S e values b seen xs i)
unfolding judge_fields
fields-low most S e values b seen [] i le = tt
fields-low most S e values b seen (x ∷ xs) i le =
    or-low write_numbers most (field_fault S e values b seen x) i
    (λ _. judge_fields S e values (S.last x.code) (seen ++ (label_of (field_content S values x) ∷ [])) xs (i + 1))
    (field-number S e values b seen x) (omega arith)
    (fields-low most S e values (S.last x.code) (seen ++ (label_of (field_content S values x) ∷ [])) xs (i + 1) (omega arith))

pub written_low : (f e : ℕ) (xs : List Field) (values out : List ℕ) → OutcomeLow write_numbers (length xs) (write_image f e xs values out)
unfolding write_image write_as one_of
written_low f e xs values out = choose (chosen f e) (chosen-number write_numbers refl refl f e)
  where
    judged : (S : Shape) (cs : List Content) (j : Judged) → length out ≤ limit → JudgedLow write_numbers (length xs) j → OutcomeLow write_numbers (length xs) (write_judged j S cs out)
    judged S cs fine short l =
        either (OutcomeLow write_numbers (length xs)) (complete S.required (content_codes cs)) (λ _. put_low write_numbers (length xs) S (image_of S (entries_bytes S cs)) out refl short)
        (λ _. record { number = refl; place = omega arith })
    judged S cs (faulty n p) short l = l

    choose : (x : Chosen) → ChosenNumber write_numbers x → OutcomeLow write_numbers (length xs) (write_chosen x e xs values out)
    choose (Ok g) l =
        either (OutcomeLow write_numbers (length xs)) (ltb limit (length out)) (λ _. record { number = refl; place = omega arith })
        (λ t. judged (shape g) (contents_of (shape g) values xs) (judge_fields (shape g) e values false [] xs 0) (ltb-false limit (length out) t)
        (fields-low (length xs) (shape g) e values false [] xs 0 (omega arith)))
    choose (Err n) l = record { number = l; place = omega arith }
