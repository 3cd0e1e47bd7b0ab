-- No call on a machine-room file is refused but by its numbers, or at a place that is far.
-- Assumes nothing.
use Prim.Native.Nat.{ℕ, ◌+◌, ◌≤◌}
use mathlib.Core.Path.{◌≡◌, refl}
use mathlib.Core.List.{List, [], ◌∷◌}
use mathlib.Core.Bool.{true, ◌||◌}
use native.Mathlib.Omega.{arith}
use lib.ListN.{length, length-append}
use lib.Dec.{ltb, leb, eqb}
use borrow.Author.Tests.{leb-true, ltb-false, eq-eqb}
use Rattle.std.specs.Prelude.{Ok, Err}
use Rattle.layout.specs.Answers.{Checked, Located}
use Rattle.layout.specs.Bytes.{one_of}
use Rattle.layout.specs.Editions.{known_edition}
use Rattle.layout.specs.Read.{limit}
use Rattle.layout.specs.Calls.{check_image}
use Rattle.layout.specs.Write.{Outcome, put_bytes}
use Rattle.layout.specs.Change.{Allowed, allowed, denied}
use Rattle.layout.proofs.Choices.{either, neither}
use Rattle.rooms.specs.File.{Board, bodies_of, bodies_at, file_of, Room, holds, wrong, read_room}
use Rattle.rooms.specs.Calls.{and_then, present, body_allowed, judge_bodies, judge_stored, Opened, has, has_not, opened_by, open_room, changed, change_asks, change_allowed, change_opened, change_room, body_at, fetch_allowed, fetch_opened, fetch_board}
use Rattle.rooms.proofs.Reading.{read_length}
use Rattle.promises.specs.Numbers.{image_numbers}
use Rattle.promises.proofs.FormatNumbers.{Low}
use Rattle.promises.proofs.Refusals.{farthest, wider}
use Rattle.promises.proofs.Entries.{CheckedIn}
use Rattle.promises.proofs.ReadCalls.{checked-in}
use Rattle.promises.proofs.WriteCalls.{MadeLow}
use Rattle.room_promises.specs.Words.{RoomChange, Changes}
use Rattle.room_promises.proofs.Boards.{Asked, good, bad, present-asked}
use Rattle.room_promises.proofs.Told.{Brings, nothing, brings, Kind, kind}

-- the farthest place of a refusal in a file of at most 65,536 bytes
abbrev pub farthest_in_file : ℕ
farthest_in_file = limit + farthest

abbrev Near : List ℕ → ℕ → ℕ → Type 0
Near numbers n p = Low numbers farthest_in_file n p

-- numbers that a call can give whose board's number is refused by this one
record Table (numbers : List ℕ) (number : ℕ) : Type 0 where
  own : one_of numbers number ≡ true
  wrong : one_of numbers 21 ≡ true
  image : {most n p : ℕ} → Low image_numbers most n p → Low numbers most n p

fetch-table : Table (21 ∷ 22 ∷ image_numbers) 22
unfolding one_of
fetch-table = record { own = refl; wrong = refl; image = λ l. wider (wider l) }

change-table : (number : ℕ) → Table (21 ∷ number ∷ 12 ∷ image_numbers) number
unfolding one_of
change-table number =
    let here : Low (number ∷ 12 ∷ image_numbers) 0 number 0 = record { number = rw (eq-eqb number number refl); place = omega arith } in
    let own : Low (21 ∷ number ∷ 12 ∷ image_numbers) 0 number 0 = wider here in
    record { own = own.number; wrong = refl; image = λ l. wider (wider (wider l)) }

-- ---- what is asked

module _ (numbers : List ℕ) (number : ℕ) (table : Table numbers number) where
  abbrev NearAsked : Allowed → Type 0
  NearAsked allowed = Unit {0}
  NearAsked (denied r) = Near numbers r.number r.place.0

  near-then : (a b : Allowed) → NearAsked a → NearAsked b → NearAsked (and_then a (λ _. b))
  near-then allowed b p q = q
  near-then (denied r) b p q = p

  near-body : (e p : ℕ) (b : Board) → p ≤ limit → NearAsked (body_allowed (check_image b.format e b.body) p)
  near-body e p b le = go (check_image b.format e b.body) (checked-in b.format e b.body)
    where
      go : (x : Checked) → CheckedIn x → NearAsked (body_allowed x p)
      go (Ok n) l = tt
      go (Err r) l = table.image (record { number = l.number; place = omega (arith, le, l.place) })

  near-bodies : (e p : ℕ) (bs : List Board) → p + length (bodies_of bs) ≤ limit → NearAsked (judge_bodies e p bs)
  unfolding judge_bodies bodies_of
  near-bodies e p [] le = tt
  near-bodies e p (b ∷ bs) le =
      near-then (body_allowed (check_image b.format e b.body) p) (judge_bodies e (p + length b.body) bs) (near-body e p b (omega (arith, le)))
      (near-bodies e (p + length b.body) bs (omega (arith, le, length-append b.body (bodies_of bs))))

  near_new : {n : ℕ} {new : List Board} (e : ℕ) → Brings n new → NearAsked (judge_bodies e 0 new)
  unfolding judge_bodies
  near_new e nothing = tt
  near_new e (brings b same) = near-then (body_allowed (check_image b.format e b.body) 0) allowed (near-body e 0 b (omega arith)) tt

  near-number : {Good : Type 0} {a : Allowed} → Asked Good number a → NearAsked a
  near-number (good p) = tt
  near-number (bad p) = record { number = table.own; place = omega arith }

  -- what a call finds first: a refusal, or a file that is as long as its head, its rows and its bodies
  abbrev Opens : ℕ → List ℕ → ℕ → Opened → Type 0
  Opens form file lent (has bs) = (length file ≡ bodies_at form (length bs) + length (bodies_of bs)) × (length file ≤ limit) × (lent ≤ limit)
  Opens form file lent (has_not r) = Near numbers r.number r.place.0

  opens : (form e : ℕ) (file : List ℕ) (lent : ℕ) → Opens form file lent (open_room form e file lent)
  unfolding open_room one_of
  opens form e file lent =
      either (Opens form file lent) (known_edition e)
      (λ _. either (Opens form file lent) (ltb limit (length file) || ltb limit lent) (λ _. table.image (record { number = refl; place = omega arith }))
      (λ q. let w = neither (ltb limit (length file)) (ltb limit lent) q in
      go (read_room form file) refl (ltb-false limit (length file) w.0) (ltb-false limit lent w.1)))
      (λ _. table.image (record { number = refl; place = omega arith }))
    where
      go : (r : Room) → read_room form file ≡ r → length file ≤ limit → lent ≤ limit → Opens form file lent (opened_by r)
      go (holds bs) q le le' = (read_length form file bs q, le, le')
      go wrong q le le' = record { number = table.wrong; place = omega arith }

-- ---- add, replace, remove

abbrev pub change_numbers : RoomChange → List ℕ
change_numbers x = 21 ∷ x.number ∷ 12 ∷ image_numbers

module _ {n : ℕ} (x : RoomChange) (k : Kind n x) (form e : ℕ) (file out : List ℕ) where
  abbrev OutcomeNear : Outcome → Type 0
  OutcomeNear o = MadeLow (change_numbers x) farthest_in_file o.answer

  put-near : (bytes : List ℕ) → length out ≤ limit → OutcomeNear (put_bytes bytes out)
  unfolding one_of
  put-near bytes short =
      let twelve : Low (12 ∷ image_numbers) farthest_in_file 12 0 = record { number = refl; place = omega arith } in
      either OutcomeNear (leb (length bytes) (length out)) (λ q. omega (arith, leb-true (length bytes) (length out) q, short)) (λ _. wider (wider twelve))

  change-near : (o : Opened) → Opens (change_numbers x) x.number (change-table x.number) form file (length out) o → OutcomeNear (change_opened o k.asks form e n x.brings out)
  change-near (has_not r) l = l
  change-near (has bs) l =
      let t = change-table x.number in
      let numbers = change_numbers x in
      let new = judge_bodies e 0 x.brings in
      let stored = judge_stored form e bs in
      allow (change_asks k.asks form e n x.brings bs)
      (near-then numbers x.number t (k.asks n bs) (and_then stored (λ _. new)) (near-number numbers x.number t (k.asked bs))
      (near-then numbers x.number t stored new (near-bodies numbers x.number t e (bodies_at form (length bs)) bs (omega (arith, l.0, l.1))) (near_new numbers x.number t e k.brought)))
    where
      allow : (a : Allowed) → NearAsked (change_numbers x) x.number (change-table x.number) a → OutcomeNear (change_allowed a form (changed n x.brings bs) out)
      allow allowed p = put-near (file_of form (changed n x.brings bs)) l.2
      allow (denied r) p = p

pub change-low : (n : ℕ) (x : RoomChange) → Changes n x → (form e : ℕ) (file out : List ℕ) → MadeLow (change_numbers x) farthest_in_file (x.call form e file out).answer
unfolding change_room
change-low n x c form e file out =
    let k = kind c in
    rw (k.is form e file out)
    (change-near x k form e file out (open_room form e file (length out)) (opens (change_numbers x) x.number (change-table x.number) form e file (length out)))

-- ---- fetch

abbrev pub FetchedLow : Located → Type 0
FetchedLow (Ok x) = x.place.0 + x.len ≤ limit
FetchedLow (Err r) = Near (21 ∷ 22 ∷ image_numbers) r.number r.place.0

body_near : (n p : ℕ) (bs : List Board) → p + length (bodies_of bs) ≤ limit → FetchedLow (body_at n p bs)
unfolding body_at bodies_of one_of
body_near n p [] le = record { number = refl; place = omega arith }
body_near n p (b ∷ bs) le =
    let sum = length-append b.body (bodies_of bs) in
    either FetchedLow (eqb n b.number) (λ _. omega (arith, le, sum)) (λ _. body_near n (p + length b.body) bs (omega (arith, le, sum)))

pub fetch-low : (form e : ℕ) (file : List ℕ) (n : ℕ) → FetchedLow (fetch_board form e file n)
unfolding fetch_board
fetch-low form e file n = go (open_room form e file 0) (opens numbers 22 fetch-table form e file 0)
  where
    numbers : List ℕ
    numbers = 21 ∷ 22 ∷ image_numbers

    allow : (a : Allowed) (x : Located) → NearAsked numbers 22 fetch-table a → FetchedLow x → FetchedLow (fetch_allowed a x)
    allow allowed x p q = q
    allow (denied r) x p q = p

    go : (o : Opened) → Opens numbers 22 fetch-table form file 0 o → FetchedLow (fetch_opened o form e n)
    go (has_not r) l = l
    go (has bs) l =
        let fits : bodies_at form (length bs) + length (bodies_of bs) ≤ limit = omega (arith, l.0, l.1) in
        allow (and_then (present n bs) (λ _. judge_stored form e bs)) (body_at n (bodies_at form (length bs)) bs)
        (near-then numbers 22 fetch-table (present n bs) (judge_stored form e bs) (near-number numbers 22 fetch-table (present-asked n bs)) (near-bodies numbers 22 fetch-table e (bodies_at form (length bs)) bs fits))
        (body_near n (bodies_at form (length bs)) bs fits)
