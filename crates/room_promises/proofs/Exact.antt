-- What any line of the table says is what the call tells, so that no other line holds.
-- Assumes nothing.
use Prim.Native.Nat.{ℕ, ◌+◌, ◌*◌, ◌≤◌, ◌<◌}
use mathlib.Core.Path.{◌≡◌, refl, ap, ap₂, sym, ◌∙◌}
use mathlib.Core.List.{List, [], ◌∷◌, ◌++◌}
use native.Mathlib.Omega.{arith}
use lib.ListN.{length, length-append}
use borrow.Author.Tests.{le-leb, lt-leb}
use Rattle.std.specs.Prelude.{Ok, Err}
use Rattle.layout.specs.Answers.{Checked, Located}
use Rattle.layout.specs.Bytes.{part_at, refusal}
use Rattle.layout.specs.Each.{Each, none, also}
use Rattle.layout.specs.Calls.{Told, told, told_checked, told_refusal, check_image}
use Rattle.layout.specs.Write.{put_bytes, told_made}
use Rattle.layout.specs.Change.{Allowed, allowed, denied as deniedBy}
use Rattle.rooms.specs.File.{Board, bodies_of, file_of, Room, holds, wrong as isWrong, read_room}
use Rattle.rooms.specs.Grammar.{Rising, IsFile}
use Rattle.rooms.specs.Calls.{body_allowed, judge_bodies, judge_stored, opened_by, open_room, changed, change_asks, change_allowed, change_opened, change_room, body_at, fetch_board}
use Rattle.rooms.proofs.Reading.{read_is, bodies-append, file-length}
use Rattle.promises.specs.Words.{KnownEdition}
use Rattle.room_promises.specs.Words.{Accepts, RoomFile, Added, added, Replaced, replaced, Removed, removed, RoomChange, tells, Changes, add, replace, remove, tells_fetch}
use Rattle.room_promises.specs.Told.{Refused, FirstRefused, first, ChangeTold, wrong, denied, stored, new, too_long, taken, FetchTold, missing, given, RoomsExact}
use Rattle.room_promises.proofs.Boards.{Asked, good, bad}
use Rattle.room_promises.proofs.Bodies.{Body, accepted, refused, body}
use Rattle.room_promises.proofs.Told.{bytes, Kind, kind, new_file, file-read, open-read}
use Rattle.room_promises.proofs.Fetches.{accepted-judged, body-here, missing-denied, present-allowed, stands-told}

-- ---- bodies

refused-body : (e p : ℕ) (b : Board) (number place : ℕ) → Refused e b number place → body_allowed (check_image b.format e b.body) p ≡ deniedBy (refusal number (p + place))
refused-body e p b number place r = go (check_image b.format e b.body) refl
  where
    go : (x : Checked) → check_image b.format e b.body ≡ x → body_allowed x p ≡ deniedBy (refusal number (p + place))
    go (Ok n) q = absurd (r.some (sym (ap (λ (t : Told). t.number) (sym (ap told_checked q) ∙ r.refuses))))
    go (Err s) q =
        let same : told_refusal s ≡ told_refusal (refusal number place) = sym (ap told_checked q) ∙ r.refuses in
        ap₂ (λ (n k : ℕ). deniedBy (refusal n (p + k))) (ap (λ (t : Told). t.number) same) (ap (λ (t : Told). t.place) same)

accepted-body : (e p : ℕ) (b : Board) → Accepts e b → body_allowed (check_image b.format e b.body) p ≡ allowed
accepted-body e p b a = go (body e b p)
  where
    go : {x : Allowed} → Body e b p x → x ≡ allowed
    go (accepted y) = refl
    go (refused number place r) = absurd (r.some (ap (λ (t : Told). t.number) (sym r.refuses ∙ a.counts)))

first-judged : (e p : ℕ) (before : List Board) (b : Board) (after : List Board) (number place : ℕ) → Each (Accepts e) before → Refused e b number place →
    judge_bodies e p (before ++ (b ∷ after)) ≡ deniedBy (refusal number (p + length (bodies_of before) + place))
unfolding judge_bodies bodies_of
first-judged e p [] b after number place none r =
    let on : p + place ≡ p + 0 + place = omega arith in
    rw (refused-body e p b number place r) (ap (λ (k : ℕ). deniedBy (refusal number k)) on)
first-judged e p (c ∷ before) b after number place (also a ps) r =
    let on : p + length c.body + length (bodies_of before) + place ≡ p + length (c.body ++ bodies_of before) + place = omega (arith, length-append c.body (bodies_of before)) in
    rw (accepted-body e p c a) (first-judged e (p + length c.body) before b after number place ps r ∙ ap (λ (k : ℕ). deniedBy (refusal number k)) on)

stored-judged : (form e : ℕ) (bs : List Board) (number place : ℕ) → FirstRefused e bs number place → judge_stored form e bs ≡ deniedBy (refusal number place)
stored-judged form e bs number place f = go f
  where
    go : {cs : List Board} {n p : ℕ} → FirstRefused e cs n p → judge_stored form e cs ≡ deniedBy (refusal n p)
    go (first before b after number place ps r) = first-judged e (8 + 8 * length (before ++ (b ∷ after))) before b after number place ps r

-- the one body that is brought, at its own place
new-body : (e : ℕ) (brought : List Board) (b : Board) → brought ≡ b ∷ [] → (number place : ℕ) → Refused e b number place → judge_bodies e 0 brought ≡ deniedBy (refusal number place)
unfolding bodies_of
new-body e brought b is number place r =
    let own : 0 + 0 + place ≡ place = omega arith in
    ap (judge_bodies e 0) is ∙ first-judged e 0 [] b [] number place none r ∙ ap (λ (m : ℕ). deniedBy (refusal number m)) own

-- ---- lengths

-- the length of the body that stands for a number
abbrev own_size : Located → ℕ
own_size (Ok x) = x.len
own_size (Err r) = 0

own-size : (n : ℕ) (before : List Board) (b : Board) (after : List Board) → b.number ≡ n → Rising 0 (before ++ (b ∷ after)) → own_size (body_at n 0 (before ++ (b ∷ after))) ≡ length b.body
own-size n before b after same rises =
    ap (λ (k : ℕ). own_size (body_at k 0 (before ++ (b ∷ after)))) (sym same) ∙ ap own_size (body-here 0 0 before b after rises)

-- the sizes of a list with a board between those before and those after
between-sizes : (before : List Board) (b : Board) (after : List Board) → let bs = before ++ (b ∷ after) in
    (length bs ≡ length before + 1 + length after) × (length (bodies_of bs) ≡ length (bodies_of before) + length b.body + length (bodies_of after))
unfolding bodies_of
between-sizes before b after = (
  omega (arith, length-append before (b ∷ after)),
  omega (arith, ap length (bodies-append before (b ∷ after)), length-append (bodies_of before) (b.body ++ bodies_of after), length-append b.body (bodies_of after)),
)

beside-sizes : (before after : List Board) → let bs = before ++ after in
    (length bs ≡ length before + length after) × (length (bodies_of bs) ≡ length (bodies_of before) + length (bodies_of after))
beside-sizes before after = (length-append before after, ap length (bodies-append before after) ∙ length-append (bodies_of before) (bodies_of after))

-- what the list that a change makes has more and less than the list before it
record Sized (n : ℕ) (brought gone : ℕ) (former latter : List Board) (body : ℕ) : Type 0 where
  boards : length latter + gone ≡ length former + brought
  bodies : length (bodies_of latter) + gone * own_size (body_at n 0 former) ≡ length (bodies_of former) + body

added-sized : {n : ℕ} {b : Board} {former latter : List Board} → Added b former latter → Sized n 1 0 former latter (length b.body)
added-sized {b = b} (added before after) =
    let x = between-sizes before b after in
    let y = beside-sizes before after in
    record { boards = omega (arith, x.0, y.0); bodies = omega (arith, x.1, y.1) }

replaced-sized : {n : ℕ} {b : Board} {former latter : List Board} → b.number ≡ n → Rising 0 former → Replaced b former latter → Sized n 1 1 former latter (length b.body)
replaced-sized {n = n} {b = b} is rises (replaced before old after same) =
    let x = between-sizes before b after in
    let y = between-sizes before old after in
    let own = own-size n before old after (same ∙ is) rises in
    record { boards = omega (arith, x.0, y.0); bodies = rw own (omega (arith, x.1, y.1)) }

removed-sized : {n : ℕ} {former latter : List Board} → Rising 0 former → Removed n former latter → Sized n 0 1 former latter 0
removed-sized {n = n} rises (removed before old after same) =
    let x = beside-sizes before after in
    let y = between-sizes before old after in
    let own = own-size n before old after same rises in
    record { boards = omega (arith, x.0, y.0); bodies = rw own (omega (arith, x.1, y.1)) }

same-sizes : {n brought gone body : ℕ} {former latter latter' : List Board} (form : ℕ) → Sized n brought gone former latter body → Sized n brought gone former latter' body →
    length (file_of form latter) ≡ length (file_of form latter')
same-sizes {latter = latter} {latter' = latter'} form x y =
    let boards : length latter ≡ length latter' = omega (arith, x.boards, y.boards) in
    let bodies : length (bodies_of latter) ≡ length (bodies_of latter') = omega (arith, x.bodies, y.bodies) in
    omega (arith, file-length form latter, file-length form latter', boards, bodies)

-- one change of one rising list gives files of one length
makes-length : {n : ℕ} {x : RoomChange} {former latter latter' : List Board} (form : ℕ) → Changes n x → Rising 0 former → x.Makes former latter → x.Makes former latter' →
    length (file_of form latter) ≡ length (file_of form latter')
makes-length form (add n f body) rises m m' = same-sizes {n = n} form (added-sized m) (added-sized m')
makes-length form (replace n f body) rises m m' = same-sizes form (replaced-sized refl rises m) (replaced-sized refl rises m')
makes-length form (remove n) rises m m' = same-sizes form (removed-sized rises m) (removed-sized rises m')

-- ---- the lines of a change

module _ (n : ℕ) (x : RoomChange) (c : Changes n x) (form e : ℕ) (file out : List ℕ) (by : Each (λ b. b < 256) file) (known : KnownEdition e) (short : length file ≤ 65536)
    (short' : length out ≤ 65536) where
  k : Kind n x
  k = kind c

  by-room : (r : Room) → read_room form file ≡ r → tells x form e file out ≡ told_made (change_opened (opened_by r) k.asks form e n x.brings out).answer
  unfolding change_room
  by-room r q = rw (k.is form e file out, open-read form e file (length out) known short short', q)

  by-boards : (bs : List Board) → IsFile form file bs → tells x form e file out ≡ told_made (change_allowed (change_asks k.asks form e n x.brings bs) form (changed n x.brings bs) out).answer
  by-boards bs is = by-room (holds bs) (file-read is)

  asks-allowed : (bs : List Board) → x.Asks bs → k.asks n bs ≡ allowed
  asks-allowed bs asks = go (k.asked bs)
    where
      go : {a : Allowed} → Asked (x.Asks bs) x.number a → a ≡ allowed
      go (good p) = refl
      go (bad p) = absurd (p asks)

  asks-denied : (bs : List Board) → (x.Asks bs → ⊥) → k.asks n bs ≡ deniedBy (refusal x.number 0)
  asks-denied bs no-asks = go (k.asked bs)
    where
      go : {a : Allowed} → Asked (x.Asks bs) x.number a → a ≡ deniedBy (refusal x.number 0)
      go (good p) = absurd (no-asks p)
      go (bad p) = refl

  -- with nothing refused before it, what is put out
  all-allowed : (bs : List Board) → RoomFile form e file bs → x.Asks bs → Each (Accepts e) x.brings → tells x form e file out ≡ told_made (put_bytes (new_file n x form bs) out).answer
  all-allowed bs room asks ps =
      by-boards bs room.is
      ∙ rw (asks-allowed bs asks, accepted-judged e (8 + 8 * length bs) bs room.accepted, accepted-judged e 0 x.brings ps) refl

  exact-change : (t : Told) → ChangeTold x form e file out t → t ≡ tells x form e file out
  exact-change t l = go l
    where
      wrong-room : ((bs : List Board) → IsFile form file bs → ⊥) → (r : Room) → read_room form file ≡ r → told_refusal (refusal 21 0) ≡ tells x form e file out
      wrong-room no-file isWrong q = sym (by-room isWrong q)
      wrong-room no-file (holds bs) q = absurd (no-file bs (read_is form file bs (bytes file by) q))

      go : {u : Told} → ChangeTold x form e file out u → u ≡ tells x form e file out
      go (wrong no-file) = wrong-room no-file (read_room form file) refl
      go (denied bs is no-asks) = sym (by-boards bs is ∙ rw (asks-denied bs no-asks) refl)
      go (stored bs is asks number place r) = sym (by-boards bs is ∙ rw (asks-allowed bs asks, stored-judged form e bs number place r) refl)
      go (new bs room asks b is number place r) =
          sym (by-boards bs room.is ∙ rw (asks-allowed bs asks, accepted-judged e (8 + 8 * length bs) bs room.accepted, new-body e x.brings b is number place r) refl)
      go (too_long bs after room asks ps makes lt) =
          let long = makes-length form c room.is.holdable.rising makes (k.makes bs room.is.holdable.rising asks) in
          sym (all-allowed bs room asks ps ∙ rw (lt-leb (length (new_file n x form bs)) (length out) (omega (arith, lt, long))) refl)
      go (taken bs after room asks ps makes le q) =
          let long = makes-length form c room.is.holdable.rising makes (k.makes bs room.is.holdable.rising asks) in
          let made-is : tells x form e file out ≡ told (length (new_file n x form bs)) (part_at 0 0) [] =
          all-allowed bs room asks ps ∙ rw (le-leb (length (new_file n x form bs)) (length out) (omega (arith, le, long))) refl in
          q ∙ ap (λ (m : ℕ). told m (part_at 0 0) []) long ∙ sym made-is

-- ---- the lines of a fetch

exact-fetch : (form e : ℕ) (file : List ℕ) (n : ℕ) → Each (λ b. b < 256) file → KnownEdition e → length file ≤ 65536 → (t : Told) → FetchTold form e file n t → t ≡ tells_fetch form e file n
unfolding fetch_board
exact-fetch form e file n by known short t l = go l
  where
    opened : (r : Room) → read_room form file ≡ r → open_room form e file 0 ≡ opened_by r
    opened r q = open-read form e file 0 known short (omega arith) ∙ ap opened_by q

    wrong-room : ((bs : List Board) → IsFile form file bs → ⊥) → (r : Room) → read_room form file ≡ r → told_refusal (refusal 21 0) ≡ tells_fetch form e file n
    wrong-room no-file isWrong q = rw (opened isWrong q) refl
    wrong-room no-file (holds bs) q = absurd (no-file bs (read_is form file bs (bytes file by) q))

    go : {u : Told} → FetchTold form e file n u → u ≡ tells_fetch form e file n
    go (wrong no-file) = wrong-room no-file (read_room form file) refl
    go (missing bs is gone) = rw (opened (holds bs) (file-read is), missing-denied n bs gone) refl
    go (stored bs is there number place r) = rw (opened (holds bs) (file-read is), present-allowed n bs there, stored-judged form e bs number place r) refl
    go (given before b after room same) = sym (stands-told form e file short before b after room) ∙ ap (tells_fetch form e file) same

pub rooms-exact : RoomsExact
rooms-exact = record { changed = exact-change; fetched = exact-fetch }
