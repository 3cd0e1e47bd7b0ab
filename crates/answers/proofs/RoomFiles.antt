-- What C sees of machine-room files is what is promised.
-- Assumes nothing.
use Prim.Native.Nat.{ℕ, ◌<◌}
use mathlib.Core.Path.{◌≡◌, refl, ap, sym, ◌∙◌}
use mathlib.Core.List.{List, [], ◌∷◌}
use mathlib.Core.Bool.{true}
use native.Mathlib.Omega.{arith}
use Rattle.std.specs.Prelude.{Ok, Err}
use Rattle.layout.specs.declared.Part.{Part}
use Rattle.layout.specs.Answers.{Located}
use Rattle.layout.specs.Bytes.{between, all}
use Rattle.layout.specs.Calls.{Told, told, told_located}
use Rattle.records.specs.Packed.{packed}
use Rattle.records.specs.Exports.{Given, room_add_call, room_replace_call, room_fetch_call}
use Rattle.rooms.specs.Calls.{fetch_board}
use Rattle.promises.specs.Words.{Counts}
use Rattle.promises.specs.Numbers.{image_numbers}
use Rattle.promises.proofs.FormatNumbers.{tabled}
use Rattle.room_promises.specs.Words.{RoomChange, tells, Changes, add, replace, remove, tells_fetch}
use Rattle.room_promises.specs.Puts.{Put}
use Rattle.room_promises.specs.Fetches.{Fetches, Held}
use Rattle.room_promises.proofs.Numbers.{change_numbers, farthest_in_file, change-low, FetchedLow, fetch-low}
use Rattle.room_promises.proofs.Puts.{table, rooms-put}
use Rattle.room_promises.proofs.Fetches.{held-part, takes, given_back}
use Rattle.answers.specs.Whole.{number_of, count_of, part_of, Whole}
use Rattle.answers.specs.Lent.{RefusedAnswer}
use Rattle.answers.specs.FromC.{Bytes, OneOf}
use Rattle.answers.specs.Rooms.{ExportOf, add as addExport, replace as replaceExport, remove as removeExport, fetched_bytes, RoomsFromC}
use Rattle.answers.proofs.Packing.{whole-refusal, whole-told}
use Rattle.answers.proofs.Whole.{made-whole}
use Rattle.answers.proofs.FromC.{gives_one, made-taken}

-- ---- the answers

whole-change : (n : ℕ) (x : RoomChange) → Changes n x → (form e : ℕ) (file out : List ℕ) → Whole (tells x form e file out)
whole-change n x c form e file out = made-whole (change_numbers x) farthest_in_file (x.call form e file out).answer (table c) (omega arith) (change-low n x c form e file out)

located-whole : (x : Located) → FetchedLow x → Whole (told_located x)
unfolding all
located-whole (Ok x) l = whole-told x.len x [] (omega arith) (omega arith)
located-whole (Err r) l = whole-refusal (21 ∷ 22 ∷ image_numbers) farthest_in_file r refl (omega arith) l

whole-fetch : (form e : ℕ) (file : List ℕ) (n : ℕ) → Whole (tells_fetch form e file n)
whole-fetch form e file n = located-whole (fetch_board form e file n) (fetch-low form e file n)

-- ---- the exports

-- an export is the change as the call has it, packed
record Packs (n : ℕ) (x : RoomChange) (call : ℕ → ℕ → List ℕ → List ℕ → Given) : Type 1 where
  change : Changes n x
  answer : (form e : ℕ) (file out : List ℕ) → (call form e file out).answer ≡ packed (tells x form e file out)
  memory : (form e : ℕ) (file out : List ℕ) → (call form e file out).memory ≡ (x.call form e file out).memory

packs : {n : ℕ} {x : RoomChange} {call : ℕ → ℕ → List ℕ → List ℕ → Given} → ExportOf n x call → Packs n x call
packs (addExport n f body) = record { change = add n f body; answer = λ form e file out. refl; memory = λ form e file out. refl }
packs (replaceExport n f body) = record { change = replace n f body; answer = λ form e file out. refl; memory = λ form e file out. refl }
packs (removeExport n) = record { change = remove n; answer = λ form e file out. refl; memory = λ form e file out. refl }

module _ (n : ℕ) (x : RoomChange) (call : ℕ → ℕ → List ℕ → List ℕ → Given) (export : ExportOf n x call) (form e : ℕ) (file out : List ℕ) where
  c : Changes n x
  c = (packs export).change

  one_of : OneOf (21 ∷ x.number ∷ 12 ∷ image_numbers) (call form e file out).answer
  one_of = rw ((packs export).answer form e file out) (gives_one (change_numbers x) (tells x form e file out) (table c) (rooms-put.numbers n x c form e file out))

  stays : RefusedAnswer (call form e file out).answer → (call form e file out).memory ≡ out
  stays r =
      rw ((packs export).memory form e file out)
      (rooms-put.refused n x c form e file out (λ z. r (ap number_of ((packs export).answer form e file out) ∙ (whole-change n x c form e file out).number ∙ z)))

  counted : number_of (call form e file out).answer ≡ 0 → Counts (tells x form e file out) (count_of (call form e file out).answer)
  counted z =
      rw ((packs export).answer form e file out)
      (made-taken (change_numbers x) farthest_in_file (table c) (x.call form e file out).answer (change-low n x c form e file out) (rw ((packs export).answer form e file out) at z))

-- ---- fetch

fetch-table : all (between 1 23) (21 ∷ 22 ∷ image_numbers) ≡ true
unfolding all
fetch-table = refl

module _ (form e : ℕ) (file : List ℕ) (n : ℕ) where
  -- what C sees of a part that is told
  told_part : (x : Part) → tells_fetch form e file n ≡ told x.len x [] → (number_of (room_fetch_call form e file n) ≡ 0) × (count_of (room_fetch_call form e file n) ≡ x.len) × (part_of (room_fetch_call form e file n) ≡ x.place.0)
  told_part x q =
      let w = whole-fetch form e file n in
      let z : (tells_fetch form e file n).number ≡ 0 = ap (λ (t : Told). t.number) q in
      (w.number ∙ z, w.count z ∙ ap (λ (t : Told). t.count) q, w.part z ∙ ap (λ (t : Told). t.part.place.0) q)

  seen : (body : List ℕ) → Fetches form e file n body → (number_of (room_fetch_call form e file n) ≡ 0) × (fetched_bytes (room_fetch_call form e file n) file ≡ body)
  seen body f = let y = told_part f.x f.tells in (y.0, rw (y.1, y.2) f.bytes)

  fetched : Bytes file → number_of (room_fetch_call form e file n) ≡ 0 → Held form e file n (fetched_bytes (room_fetch_call form e file n) file)
  fetched by z = go (fetch_board form e file n) refl (fetch-low form e file n)
    where
      go : (y : Located) → fetch_board form e file n ≡ y → FetchedLow y → Held form e file n (fetched_bytes (room_fetch_call form e file n) file)
      go (Ok x) q l =
          let t : tells_fetch form e file n ≡ told x.len x [] = ap told_located q in
          let y = told_part x t in
          rw (y.1, y.2) (held-part form e file n x by t)
      go (Err r) q l =
          let some = tabled (21 ∷ 22 ∷ image_numbers) r.number fetch-table l.number in
          let none : r.number ≡ 0 = ap (λ (t : Told). t.number) (sym (ap told_located q)) ∙ sym (whole-fetch form e file n).number ∙ z in
          absurd (omega (arith, some.0, none))

-- ---- the promise

rooms-taken : (n : ℕ) (x : RoomChange) (call : ℕ → ℕ → List ℕ → List ℕ → Given) → ExportOf n x call → n < 4294967296 → (form e : ℕ) (file out : List ℕ) → Bytes file →
    number_of (call form e file out).answer ≡ 0 → Put x form e file out (count_of (call form e file out).answer) × ((call form e file out).memory ≡ (x.call form e file out).memory)
rooms-taken n x call export lt form e file out by z = (
  rooms-put.taken n x (packs export).change lt form e file out (count_of (call form e file out).answer) by (counted n x call export form e file out z),
  (packs export).memory form e file out,
)

pub rooms-from-c : RoomsFromC
rooms-from-c =
    record {
      whole_change = whole-change;
      whole_fetch = whole-fetch;
      numbers = one_of;
      fetch_numbers = λ form e file n. gives_one (21 ∷ 22 ∷ image_numbers) (tells_fetch form e file n) fetch-table (rooms-put.fetch_numbers form e file n);
      unchanged = stays;
      taken = rooms-taken;
      fetched = fetched;
      given = λ form e file n body by h. seen form e file n body ((takes form e file n body by).from h);
      added_back = λ n f body lt form e file out by z.
          seen form e _ n body (given_back.added n f body lt form e file out (count_of (room_add_call form e file n f body out).answer) by (counted n _ _ (addExport n f body) form e file out z));
      replaced_back = λ n f body lt form e file out by z.
          seen form e _ n body (given_back.replaced n f body lt form e file out (count_of (room_replace_call form e file n f body out).answer) by (counted n _ _ (replaceExport n f body) form e file out z));
    }
