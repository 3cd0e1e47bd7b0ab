-- What the calls on a machine-room file tell is what the table says.
-- Assumes nothing.
use Prim.Native.Nat.{ℕ, zero, suc, ◌+◌, ◌*◌, ◌≤◌, ◌<◌}
use mathlib.Core.Path.{◌≡◌, refl, ap, sym, ◌∙◌, subst}
use mathlib.Core.List.{List, [], ◌∷◌, ◌++◌}
use mathlib.Core.Logic.{◌⊎◌, inl, inr}
use mathlib.Core.Bool.{Bool, true, false, ◌||◌}
use native.Mathlib.Omega.{arith}
use lib.ListN.{length, get_or, drop, length-append}
use lib.Dec.{ltb, leb, eqb}
use borrow.Author.Tests.{leb-true, leb-false, eqb-true, eqb-false, lt-ltb, le-ltb}
use Rattle.std.specs.Prelude.{Ok}
use Rattle.layout.specs.Answers.{Located}
use Rattle.layout.specs.Bytes.{if, part_at, refusal}
use Rattle.layout.specs.Each.{Each, none, also}
use Rattle.layout.specs.Editions.{known_edition}
use Rattle.layout.specs.Read.{limit}
use Rattle.layout.specs.Calls.{told_refusal, told_located}
use Rattle.layout.specs.Write.{Outcome, refuse, put_bytes, told_made}
use Rattle.layout.specs.Change.{Allowed}
use Rattle.layout.proofs.Choices.{either, refuted}
use Rattle.rooms.specs.File.{Board, board, bodies_of, file_of, Room, holds, wrong as isWrong, read_room}
use Rattle.rooms.specs.Grammar.{Rising, IsFile}
use Rattle.rooms.specs.Calls.{and_then, present, absent, judge_bodies, judge_stored, has, has_not, opened_by, open_room, changed, change_asks, change_allowed, change_opened, change_room, body_at, fetch_allowed, fetch_opened, fetch_board}
use Rattle.rooms.proofs.Reading.{Bytes, read_is, is_read}
use Rattle.promises.specs.Words.{KnownEdition}
use Rattle.promises.proofs.Telling.{edition-known, known-edition}
use Rattle.room_promises.specs.Words.{Accepts, RoomFile, Present, RoomChange, Changes, add, replace, remove}
use Rattle.room_promises.specs.Told.{ChangeTold, wrong, denied, stored, new, too_long, taken, ChangeTells, FetchTold, missing, given, FetchTells, RoomsTold}
use Rattle.room_promises.proofs.Boards.{Asked, good, bad, absent-present, present-later, present-asked, absent-asked, makes-added, makes-replaced, makes-removed}
use Rattle.room_promises.proofs.Bodies.{Bodies, judged, Stored, fine, faulty, stored as judged-stored}

-- ---- bytes

pub bytes : (s : List ℕ) → Each (λ b. b < 256) s → (i : ℕ) → get_or s i 0 < 256
bytes [] none i = omega arith
bytes (b ∷ s) (also p ps) zero = p
bytes (b ∷ s) (also p ps) (suc i) = bytes s ps i

-- ---- the three calls as one

-- the boards that a change of number n brings: none, or one of that number
pub data Brings (n : ℕ) : List Board → Type 0 where
  nothing : Brings n []
  brings : (b : Board) → b.number ≡ n → Brings n (b ∷ [])

-- a change as the definitions have it
pub record Kind (n : ℕ) (x : RoomChange) : Type 1 where
  pub asks : ℕ → List Board → Allowed
  pub is : (form e : ℕ) (file out : List ℕ) → x.call form e file out ≡ change_room asks form e file n x.brings out
  pub asked : (bs : List Board) → Asked (x.Asks bs) x.number (asks n bs)
  pub makes : (bs : List Board) → Rising 0 bs → x.Asks bs → x.Makes bs (changed n x.brings bs)
  pub brought : Brings n x.brings

pub kind : {n : ℕ} {x : RoomChange} → Changes n x → Kind n x
kind (add n f body) =
    record {
      asks = absent;
      is = λ form e file out. refl;
      asked = absent-asked n;
      makes = λ bs rises a. makes-added n (board n f body) bs a;
      brought = brings (board n f body) refl;
    }
kind (replace n f body) =
    record {
      asks = present;
      is = λ form e file out. refl;
      asked = present-asked n;
      makes = λ bs rises p. makes-replaced n 0 (board n f body) bs refl rises p;
      brought = brings (board n f body) refl;
    }
kind (remove n) =
    record {
      asks = present;
      is = λ form e file out. refl;
      asked = present-asked n;
      makes = λ bs rises p. makes-removed n 0 bs rises p;
      brought = nothing;
    }

-- ---- the table

-- the file of boards is read as those
pub file-read : {form : ℕ} {file : List ℕ} {bs : List Board} → IsFile form file bs → read_room form file ≡ holds bs
file-read {form} {file} {bs} is = rw is.is (is_read form bs is.holdable)

-- a file that is read as wrong is the file of no boards
no-file : (form : ℕ) (file : List ℕ) → read_room form file ≡ isWrong → (bs : List Board) → IsFile form file bs → ⊥
no-file form file q bs is =
    let r = file-read is in
    let z : ◌≡◌ {A = ℕ} 0 1 = cc in
    absurd (omega arith)

-- a body that is brought and refused is the one that is brought, at its own place
only_one : {n : ℕ} {new : List Board} → Brings n new → (before : List Board) (b : Board) (after : List Board) → new ≡ before ++ (b ∷ after) → (new ≡ b ∷ []) × (before ≡ [])
only_one nothing before b after e = absurd (omega (arith, ap length e, length-append before (b ∷ after)))
only_one (brings c same) [] b [] e = (e, refl)
only_one (brings c same) [] b (a ∷ after) e = absurd (omega (arith, ap length e))
only_one (brings c same) (a ∷ before) b after e = absurd (omega (arith, ap length e, length-append before (b ∷ after)))

own : (before : List Board) (place : ℕ) → before ≡ [] → 0 + length (bodies_of before) + place ≡ place
unfolding bodies_of
own before place e = rw e (omega arith)

-- the file that a change makes of boards
abbrev pub new_file : ℕ → RoomChange → ℕ → List Board → List ℕ
new_file n x form bs = file_of form (changed n x.brings bs)

-- what a change comes to: a refusal of which something is known, and nothing is put out; or the new file, and the output past it as it was
pub data Comes (n : ℕ) (x : RoomChange) (form e : ℕ) (file out : List ℕ) (Refusing : ℕ → ℕ → Type 0) : Outcome → Type 0 where
  refused : (number place : ℕ) → Refusing number place → Comes n x form e file out Refusing (refuse (refusal number place) out)
  made : (bs : List Board) → RoomFile form e file bs → x.Asks bs → Each (Accepts e) x.brings → length (new_file n x form bs) ≤ length out →
      Comes n x form e file out Refusing
      (record { answer = Ok (length (new_file n x form bs)); memory = new_file n x form bs ++ drop (length (new_file n x form bs)) out })

module _ {n : ℕ} (x : RoomChange) (k : Kind n x) (form e : ℕ) (file out : List ℕ) (by : Bytes file) where
  -- a refusal is a line of the table
  abbrev pub Done : Outcome → Type 0
  Done o = Comes n x form e file out (λ number place. ChangeTold x form e file out (told_refusal (refusal number place))) o

  fits : (bs : List Board) → RoomFile form e file bs → x.Asks bs → Each (Accepts e) x.brings → Done (put_bytes (new_file n x form bs) out)
  fits bs room asks ps =
      let makes = k.makes bs room.is.holdable.rising asks in
      either Done (leb (length (new_file n x form bs)) (length out))
      (λ q. made bs room asks ps (leb-true (length (new_file n x form bs)) (length out) q))
      (λ q. refused 12 0 (too_long bs (changed n x.brings bs) room asks ps makes (leb-false (length (new_file n x form bs)) (length out) q)))

  asked : (bs : List Board) → IsFile form file bs → Done (change_allowed (change_asks k.asks form e n x.brings bs) form (changed n x.brings bs) out)
  asked bs is = by_number (k.asked bs)
    where
      after : List Board
      after = changed n x.brings bs

      by-new : {a : Allowed} → x.Asks bs → RoomFile form e file bs → Bodies e 0 x.brings a → Done (change_allowed a form after out)
      by-new asks room (Bodies.fine ps) = fits bs room asks ps
      by-new asks room (Bodies.faulty before b rest on ps number place at r far) =
          let one = only_one k.brought before b rest on in
          let here : at ≡ place = far ∙ own before place one.1 in
          rw here (refused number place (new bs room asks b one.0 number place r))

      by-stored : {a : Allowed} → x.Asks bs → Stored e bs a → Done (change_allowed (and_then a (λ _. judge_bodies e 0 x.brings)) form after out)
      by-stored asks (fine ps) = by-new asks (record { is = is; accepted = ps }) (judged e 0 x.brings)
      by-stored asks (faulty number place r) = refused number place (stored bs is asks number place r)

      by_number : {a : Allowed} → Asked (x.Asks bs) x.number a →
          Done (change_allowed (and_then a (λ _. and_then (judge_stored form e bs) (λ _. judge_bodies e 0 x.brings))) form after out)
      by_number (good asks) = by-stored asks (judged-stored form e bs)
      by_number (bad asks) = refused x.number 0 (denied bs is asks)

  pub comes : Done (change_opened (opened_by (read_room form file)) k.asks form e n x.brings out)
  comes = go (read_room form file) refl
    where
      go : (r : Room) → read_room form file ≡ r → Done (change_opened (opened_by r) k.asks form e n x.brings out)
      go isWrong q = refused 21 0 (wrong (no-file form file q))
      go (holds bs) q = asked bs (read_is form file bs by q)

  line : ChangeTold x form e file out (told_made (change_opened (opened_by (read_room form file)) k.asks form e n x.brings out).answer)
  line = go comes
    where
      go : {o : Outcome} → Done o → ChangeTold x form e file out (told_made o.answer)
      go (refused number place l) = l
      go (made bs room asks ps le) = taken bs (changed n x.brings bs) room asks ps (k.makes bs room.is.holdable.rising asks) le refl

-- ---- before the file is looked at

module _ (form e : ℕ) (file : List ℕ) (lent : ℕ) where
  open_unknown : (KnownEdition e → ⊥) → open_room form e file lent ≡ has_not (refusal 1 0)
  unfolding open_room
  open_unknown unknown = rw (refuted (known_edition e) (λ q. unknown (known-edition e q)))

  open-long : KnownEdition e → (65536 < length file) ⊎ (65536 < lent) → open_room form e file lent ≡ has_not (refusal 2 0)
  unfolding open_room
  open-long known (inl long) = rw (edition-known e known, lt-ltb limit (length file) long)
  open-long known (inr long) = rw (edition-known e known, lt-ltb limit lent long) (go (ltb limit (length file)))
    where
      go : (b : Bool) → if (b || true) (λ _. has_not (refusal 2 0)) (λ _. opened_by (read_room form file)) ≡ has_not (refusal 2 0)
      go true = refl
      go false = refl

  pub open-read : KnownEdition e → length file ≤ 65536 → lent ≤ 65536 → open_room form e file lent ≡ opened_by (read_room form file)
  unfolding open_room
  open-read known le le' = rw (edition-known e known, le-ltb limit (length file) le, le-ltb limit lent le')

pub change-tells : (n : ℕ) (x : RoomChange) → Changes n x → (form e : ℕ) (file out : List ℕ) → Each (λ b. b < 256) file → ChangeTells x form e file out
unfolding change_room
change-tells n x c form e file out by =
    let k = kind c in
    record {
      unknown = λ u. rw (k.is form e file out, open_unknown form e file (length out) u);
      long = λ known long. rw (k.is form e file out, open-long form e file (length out) known long);
      line = λ known le le'. rw (k.is form e file out, open-read form e file (length out) known le le') (line x k form e file out (bytes file by));
    }

-- ---- fetch

-- where a board is, and its body
record FoundAt (n p : ℕ) (bs : List Board) : Type 0 where
  before : List Board
  b : Board
  after : List Board
  whole : bs ≡ before ++ (b ∷ after)
  is : b.number ≡ n
  at : body_at n p bs ≡ Ok (part_at (p + length (bodies_of before)) (length b.body))

found_at : (n p : ℕ) (bs : List Board) → Present n bs → FoundAt n p bs
unfolding body_at bodies_of
found_at n p [] is = absurd (absent-present none is)
found_at n p (b ∷ bs) is = go (eqb n b.number) refl (found_at n (p + length b.body) bs)
  where
    go : (t : Bool) → eqb n b.number ≡ t → (Present n bs → FoundAt n (p + length b.body) bs) → FoundAt n p (b ∷ bs)
    go true q rest = record { before = []; b = b; after = bs; whole = refl; is = sym (eqb-true n b.number q); at = rw q (ap (λ (k : ℕ). Ok (part_at k (length b.body))) (omega arith)) }
    go false q rest =
        let r = rest (present-later n b bs (λ same. eqb-false n b.number q (sym same)) is) in
        let on : p + length b.body + length (bodies_of r.before) ≡ p + length (b.body ++ bodies_of r.before) = omega (arith, length-append b.body (bodies_of r.before)) in
        record {
          before = b ∷ r.before;
          b = r.b;
          after = r.after;
          whole = ap (λ (x : List Board). b ∷ x) r.whole;
          is = r.is;
          at = rw q (r.at ∙ ap (λ (k : ℕ). Ok (part_at k (length r.b.body))) on);
        }

module _ (form e : ℕ) (file : List ℕ) (n : ℕ) (by : Bytes file) where
  abbrev FetchLine : Located → Type 0
  FetchLine x = FetchTold form e file n (told_located x)

  fetch-found : (bs : List Board) → RoomFile form e file bs → Present n bs → FetchLine (body_at n (8 + 8 * length bs) bs)
  fetch-found bs room is = let x = found_at n (8 + 8 * length bs) bs is in go x.before x.b x.after x.whole x.is x.at
    where
      go : (before : List Board) (b : Board) (after : List Board) → bs ≡ before ++ (b ∷ after) → b.number ≡ n →
          body_at n (8 + 8 * length bs) bs ≡ Ok (part_at (8 + 8 * length bs + length (bodies_of before)) (length b.body)) → FetchLine (body_at n (8 + 8 * length bs) bs)
      go before b after whole same at = rw (at, whole) (given before b after (subst (RoomFile form e file) whole room) same)

  fetch-asked : (bs : List Board) → IsFile form file bs → FetchLine (fetch_opened (has bs) form e n)
  fetch-asked bs is = by_number (present-asked n bs)
    where
      by-stored : {a : Allowed} → Present n bs → Stored e bs a → FetchLine (fetch_allowed a (body_at n (8 + 8 * length bs) bs))
      by-stored there (fine ps) = fetch-found bs (record { is = is; accepted = ps }) there
      by-stored there (faulty number place r) = FetchTold.stored bs is there number place r

      by_number : {a : Allowed} → Asked (Present n bs) 22 a → FetchLine (fetch_allowed (and_then a (λ _. judge_stored form e bs)) (body_at n (8 + 8 * length bs) bs))
      by_number (good there) = by-stored there (judged-stored form e bs)
      by_number (bad missed) = missing bs is missed

  fetch-line : FetchLine (fetch_opened (opened_by (read_room form file)) form e n)
  fetch-line = go (read_room form file) refl
    where
      go : (r : Room) → read_room form file ≡ r → FetchLine (fetch_opened (opened_by r) form e n)
      go isWrong q = FetchTold.wrong (no-file form file q)
      go (holds bs) q = fetch-asked bs (read_is form file bs by q)

pub fetch-tells : (form e : ℕ) (file : List ℕ) (n : ℕ) → Each (λ b. b < 256) file → FetchTells form e file n
unfolding fetch_board
fetch-tells form e file n by =
    record {
      unknown = λ u. rw (open_unknown form e file 0 u);
      long = λ known long. rw (open-long form e file 0 known (inl long));
      line = λ known le. rw (open-read form e file 0 known le (omega arith)) (fetch-line form e file n (bytes file by));
    }

-- ---- one list of boards

one_list : (form : ℕ) (file : List ℕ) (bs cs : List Board) → IsFile form file bs → IsFile form file cs → bs ≡ cs
one_list form file bs cs x y =
    let p = file-read x in
    let q = file-read y in
    cc

pub rooms-told : RoomsTold
rooms-told = record { one = one_list; changed = change-tells; fetched = fetch-tells }
