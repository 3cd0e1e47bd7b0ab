-- What a call on a machine-room file leaves in the output is what is promised.
-- Assumes nothing.
use Prim.Native.Nat.{ℕ, ◌+◌, ◌≤◌, ◌<◌}
use mathlib.Core.Path.{◌≡◌, refl, ap, sym, subst}
use mathlib.Core.List.{List, [], ◌∷◌, ◌++◌}
use mathlib.Core.Bool.{true, ◌||◌}
use native.Mathlib.Omega.{arith}
use lib.ListN.{length, drop, length-append}
use lib.Seq.{take_at, drop_at}
use lib.Dec.{ltb, leb}
use borrow.Author.Tests.{ltb-false}
use Rattle.std.specs.Prelude.{Ok, Err}
use Rattle.layout.specs.Answers.{Made, Located}
use Rattle.layout.specs.Bytes.{between, all, refusal}
use Rattle.layout.specs.Each.{Each, none, also}
use Rattle.layout.specs.Editions.{known_edition}
use Rattle.layout.specs.Read.{limit}
use Rattle.layout.specs.Calls.{Told, told_located}
use Rattle.layout.specs.Write.{Outcome, refuse, told_made}
use Rattle.layout.specs.Change.{Allowed, allowed, denied}
use Rattle.layout.proofs.Choices.{either, neither}
use Rattle.rooms.specs.File.{Board, bodies_of, file_of, read_room}
use Rattle.rooms.specs.Grammar.{Rising, next, Storable, Holdable}
use Rattle.rooms.specs.Calls.{Opened, has, has_not, opened_by, open_room, above, below, changed, change_asks, change_allowed, change_opened, change_room, fetch_board}
use Rattle.rooms.proofs.Reading.{bodies-append, file-length}
use Rattle.promises.specs.Words.{KnownEdition, Counts, IsRefused}
use Rattle.promises.specs.Numbers.{Gives, taken, refused, image_numbers}
use Rattle.promises.proofs.FormatNumbers.{tabled}
use Rattle.promises.proofs.Storing.{storing}
use Rattle.promises.proofs.Telling.{known-edition}
use Rattle.promises.proofs.WriteCalls.{MadeLow}
use Rattle.promises.proofs.Numbers.{made-gives}
use Rattle.room_promises.specs.Words.{Accepts, RoomFile, RoomChange, tells, Changes, add, replace, remove}
use Rattle.room_promises.specs.Puts.{Put, RoomsPut}
use Rattle.room_promises.proofs.Boards.{changed-rises, rising-from, each-changed}
use Rattle.room_promises.proofs.Told.{bytes, Brings, nothing, brings, Kind, kind, new_file, Comes, made, Done, comes}
use Rattle.room_promises.proofs.Numbers.{change_numbers, farthest_in_file, change-low, FetchedLow, fetch-low}

-- ---- refused

-- what a call that makes a file leaves: the output as it was, or an answer that is not refused
data Leaves (out : List ℕ) : Outcome → Type 0 where
  left : (o : Outcome) → o.memory ≡ out → Leaves out o
  wrote : (o : Outcome) (n : ℕ) → o.answer ≡ Ok n → Leaves out o

leaves : (o : Opened) (asks : ℕ → List Board → Allowed) (form e n : ℕ) (new : List Board) (out : List ℕ) → Leaves out (change_opened o asks form e n new out)
leaves (has_not r) asks form e n new out = left (refuse r out) refl
leaves (has bs) asks form e n new out = go (change_asks asks form e n new bs)
  where
    file : List ℕ
    file = file_of form (changed n new bs)

    go : (a : Allowed) → Leaves out (change_allowed a form (changed n new bs) out)
    go (denied r) = left (refuse r out) refl
    go allowed =
        either (Leaves out) (leb (length file) (length out)) (λ _. wrote (record { answer = Ok (length file); memory = file ++ drop (length file) out }) (length file) refl)
        (λ _. left (refuse (refusal 12 0) out) refl)

rooms-refused : (n : ℕ) (x : RoomChange) → Changes n x → (form e : ℕ) (file out : List ℕ) → IsRefused (tells x form e file out) → (x.call form e file out).memory ≡ out
unfolding change_room
rooms-refused n x c form e file out r =
    let k = kind c in
    rw (k.is form e file out) (go (leaves (open_room form e file (length out)) k.asks form e n x.brings out) (rw (k.is form e file out) at r))
  where
    go : {o : Outcome} → Leaves out o → IsRefused (told_made o.answer) → o.memory ≡ out
    go (left o same) r = same
    go (wrote o m is) r = absurd (r (ap (λ (a : Made). (told_made a).number) is))

-- ---- taken

-- the boards that a change brings can be stored, where their bodies are accepted and not too long
new-storable : {n e : ℕ} {new : List Board} → n < 4294967296 → Brings n new → Each (Accepts e) new → length (bodies_of new) ≤ 65535 → Each Storable new
unfolding bodies_of
new-storable lt nothing none le = none
new-storable {e = e} lt (brings b same) (also a none) le =
    let fine : Storable b =
    record {
      number = omega (arith, lt, same);
      format = storing.format b.format e b.body a.count a.counts;
      least = storing.bytes b.format e b.body a.count a.counts;
      most = omega (arith, le, length-append b.body []);
    } in
    also fine none

brings-rise : {n : ℕ} {new : List Board} → Brings n new → (more : List Board) → Rising (n + 1) more → Rising n (new ++ more)
brings-rise {n} nothing more rises = rising-from (n + 1) n more (omega arith) rises
brings-rise {n} (brings b same) more rises =
    let from : n ≤ b.number = omega (arith, same) in
    let up : Rising (b.number + 1) more = subst (λ (m : ℕ). Rising (m + 1) more) (sym same) rises in
    next from up

module _ {n : ℕ} (x : RoomChange) (k : Kind n x) (lt : n < 4294967296) (form e : ℕ) (file out : List ℕ) where
  new-holdable : (bs : List Board) → Holdable form bs → Each (Accepts e) x.brings → length (new_file n x form bs) ≤ 65536 → Holdable form (changed n x.brings bs)
  new-holdable bs h ps le =
      let new = x.brings in
      let long = file-length form (changed n new bs) in
      let all-bodies = ap length (bodies-append (below n bs) (new ++ above n bs)) in
      let later-bodies = ap length (bodies-append new (above n bs)) in
      let few : length (bodies_of new) ≤ 65535 =
      omega
      (arith, le, long, all-bodies, later-bodies, length-append (bodies_of (below n bs)) (bodies_of (new ++ above n bs)), length-append (bodies_of new) (bodies_of (above n bs))) in
      record {
        form_is = h.form_is;
        count = omega (arith, le, long);
        rising = changed-rises n 0 new bs (omega arith) (brings-rise k.brought) h.rising;
        storable = each-changed n new bs (new-storable lt k.brought ps few) h.storable;
      }

  put-made : (bs : List Board) → RoomFile form e file bs → x.Asks bs → Each (Accepts e) x.brings → length out ≤ 65536 → length (new_file n x form bs) ≤ length out →
      (x.call form e file out).memory ≡ new_file n x form bs ++ drop (length (new_file n x form bs)) out → Put x form e file out (length (new_file n x form bs))
  put-made bs room asks ps short le m =
      let file' = new_file n x form bs in
      record {
        former = bs;
        latter = changed n x.brings bs;
        before = room;
        makes = k.makes bs room.is.holdable.rising asks;
        after =
            record {
              is = record { holdable = new-holdable bs room.is.holdable ps (omega (arith, le, short)); is = rw m (take_at file' (drop (length file') out) (length file') refl) };
              accepted = each-changed n x.brings bs ps room.accepted;
            };
        stays = rw m (drop_at file' (drop (length file') out) (length file') refl);
        long = refl;
        fits = le;
        most = omega (arith, le, short);
      }

-- what a call finds first: a refusal, or what the file is read as
pub data Opening (form e : ℕ) (file : List ℕ) (lent : ℕ) : Opened → Type 0 where
  reads : KnownEdition e → length file ≤ limit → lent ≤ limit → Opening form e file lent (opened_by (read_room form file))
  refuses : (number : ℕ) → (number ≡ 0 → ⊥) → Opening form e file lent (has_not (refusal number 0))

pub opening : (form e : ℕ) (file : List ℕ) (lent : ℕ) → Opening form e file lent (open_room form e file lent)
unfolding open_room
opening form e file lent =
    either (Opening form e file lent) (known_edition e)
    (λ known. either (Opening form e file lent) (ltb limit (length file) || ltb limit lent) (λ _. refuses 2 (λ z. absurd (omega (arith, z))))
    (λ q. let w = neither (ltb limit (length file)) (ltb limit lent) q in reads (known-edition e known) (ltb-false limit (length file) w.0) (ltb-false limit lent w.1)))
    (λ _. refuses 1 (λ z. absurd (omega (arith, z))))

pub table : {n : ℕ} {x : RoomChange} → Changes n x → all (between 1 23) (change_numbers x) ≡ true
unfolding all
table (add n f body) = refl
table (replace n f body) = refl
table (remove n) = refl

rooms-taken : (n : ℕ) (x : RoomChange) → Changes n x → n < 4294967296 → (form e : ℕ) (file out : List ℕ) (m : ℕ) → Each (λ b. b < 256) file →
    Counts (tells x form e file out) m → Put x form e file out m
unfolding change_room
rooms-taken n x c lt form e file out m by q =
    by-opened (opening form e file (length out)) (rw (k.is form e file out) at q) (ap (λ (o : Outcome). o.memory) (k.is form e file out))
    (rw (k.is form e file out) at (change-low n x c form e file out))
  where
    k : Kind n x
    k = kind c

    by-made : {o : Outcome} → length out ≤ limit → Done x k form e file out (bytes file by) o → Counts (told_made o.answer) m → (x.call form e file out).memory ≡ o.memory →
        MadeLow (change_numbers x) farthest_in_file o.answer → Put x form e file out m
    by-made short (Comes.refused number place l) q mem low =
        let some = tabled (change_numbers x) number (table c) low.number in
        absurd (omega (arith, some.0, ap (λ (t : Told). t.number) q))
    by-made short (made bs room asks ps le) q mem low =
        subst (Put x form e file out) (ap (λ (t : Told). t.count) q) (put-made x k lt form e file out bs room asks ps short le mem)

    by-opened : {o : Opened} → Opening form e file (length out) o → Counts (told_made (change_opened o k.asks form e n x.brings out).answer) m →
        (x.call form e file out).memory ≡ (change_opened o k.asks form e n x.brings out).memory →
        MadeLow (change_numbers x) farthest_in_file (change_opened o k.asks form e n x.brings out).answer → Put x form e file out m
    by-opened (reads known le short) q mem low = by-made short (comes x k form e file out (bytes file by)) q mem low
    by-opened (refuses number some) q mem low = absurd (some (ap (λ (t : Told). t.number) q))

-- ---- numbers

fetch-gives : (x : Located) → FetchedLow x → Gives (21 ∷ 22 ∷ image_numbers) (told_located x)
fetch-gives (Ok x) l = taken
fetch-gives (Err r) l = refused l.number

pub rooms-put : RoomsPut
rooms-put =
    record {
      taken = rooms-taken;
      refused = rooms-refused;
      numbers = λ n x c form e file out. made-gives (change_numbers x) farthest_in_file (x.call form e file out).answer (change-low n x c form e file out);
      fetch_numbers = λ form e file n. fetch-gives (fetch_board form e file n) (fetch-low form e file n);
    }
