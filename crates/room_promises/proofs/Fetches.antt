-- What is put into a machine-room file is given back.
-- Assumes nothing.
use Prim.Native.Nat.{ℕ, ◌+◌, ◌≤◌, ◌<◌}
use mathlib.Core.Path.{◌≡◌, refl, ap, ap₂, sym, ◌∙◌, subst}
use mathlib.Core.List.{List, [], ◌∷◌, ◌++◌}
use native.Mathlib.Omega.{arith}
use lib.ListN.{length, length-take, length-append}
use lib.Seq.{take_at, drop_at, drop-drop}
use borrow.Author.Tests.{eq-eqb, ne_eqb}
use Rattle.std.specs.Prelude.{Ok}
use Rattle.layout.specs.declared.Part.{Part}
use Rattle.layout.specs.Bytes.{part, part_at, refusal}
use Rattle.layout.specs.Each.{Each, also}
use Rattle.layout.specs.Calls.{Told, told, told_located}
use Rattle.layout.specs.Change.{Allowed, allowed, denied}
use Rattle.layout.proofs.Lists.{each_first, each_right}
use Rattle.rooms.specs.File.{Board, board, bodies_of, bodies_at, file_of}
use Rattle.rooms.specs.Grammar.{Rising, next, IsFile}
use Rattle.rooms.specs.Calls.{present, judge_bodies, Opened, has, opened_by, open_room, body_at, fetch_opened, fetch_board}
use Rattle.rooms.proofs.Reading.{bodies-append, file-bodies, file-length}
use Rattle.promises.specs.Words.{KnownEdition, Counts, Refuses}
use Rattle.promises.proofs.PublishedRules.{published-rules}
use Rattle.room_promises.specs.Words.{Accepts, RoomFile, Present, stands, Absent, Added, added, Replaced, replaced, Removed, removed, RoomChange, adds, replaces, removes, tells, Changes, add, replace, remove, tells_fetch}
use Rattle.room_promises.specs.Told.{first as firstRefused, FetchTold, wrong, missing, stored, given}
use Rattle.room_promises.specs.Puts.{Put}
use Rattle.room_promises.specs.Fetches.{Fetches, Held, Takes, new_file, GivenBack}
use Rattle.room_promises.proofs.Boards.{Asked, good, bad, present-asked, absent-present, rising-absent}
use Rattle.room_promises.proofs.Bodies.{Bodies, fine, faulty, judged}
use Rattle.room_promises.proofs.Told.{file-read, open-read, rooms-told}
use Rattle.room_promises.proofs.Puts.{Opening, reads, refuses, opening, rooms-put}

-- ---- a board of a list

data Among (b : Board) : List Board → Type 0 where
  first : {bs : List Board} → Among b (b ∷ bs)
  later : {c : Board} {bs : List Board} → Among b bs → Among b (c ∷ bs)

among-here : (before : List Board) (b : Board) (after : List Board) → Among b (before ++ (b ∷ after))
among-here [] b after = first
among-here (c ∷ before) b after = later (among-here before b after)

-- a board of a list stays one where another comes into the list
among-more : (before : List Board) (c : Board) (after : List Board) {b : Board} → Among b (before ++ after) → Among b (before ++ (c ∷ after))
among-more [] c after a = later a
among-more (d ∷ before) c after first = first
among-more (d ∷ before) c after (later a) = later (among-more before c after a)

-- and where another than it goes
among-less : (before : List Board) (c : Board) (after : List Board) {b : Board} → (b.number ≡ c.number → ⊥) → Among b (before ++ (c ∷ after)) → Among b (before ++ after)
among-less [] c after other first = absurd (other refl)
among-less [] c after other (later a) = a
among-less (d ∷ before) c after other first = first
among-less (d ∷ before) c after other (later a) = later (among-less before c after other a)

-- where it stands
record Stands (b : Board) (bs : List Board) : Type 0 where
  before : List Board
  after : List Board
  whole : bs ≡ before ++ (b ∷ after)

among-stands : {b : Board} (bs : List Board) → Among b bs → Stands b bs
among-stands (b ∷ bs) first = record { before = []; after = bs; whole = refl }
among-stands (c ∷ bs) (later a) =
    let s = among-stands bs a in
    record { before = c ∷ s.before; after = s.after; whole = ap (λ (x : List Board). c ∷ x) s.whole }
among-stands {b = b} [] x' = elim x' [ ]

-- ---- its body

-- no other board of rising ones has its number
first-rises : (low : ℕ) (c : Board) (before : List Board) (b : Board) (after : List Board) → Rising low (c ∷ (before ++ (b ∷ after))) → b.number ≡ c.number → ⊥
first-rises low c before b after (next le rises) = each_first (each_right before (b ∷ after) (rising-absent c.number (c.number + 1) (before ++ (b ∷ after)) (omega arith) rises))

pub body-here : (low p : ℕ) (before : List Board) (b : Board) (after : List Board) → Rising low (before ++ (b ∷ after)) →
    body_at b.number p (before ++ (b ∷ after)) ≡ Ok (part_at (p + length (bodies_of before)) (length b.body))
unfolding body_at bodies_of
body-here low p [] b after rises = rw (eq-eqb b.number b.number refl) (ap (λ (k : ℕ). Ok (part_at k (length b.body))) (omega arith))
body-here low p (c ∷ before) b after (next le rises) =
    let other = ne_eqb b.number c.number (first-rises low c before b after (next le rises)) in
    let on : p + length c.body + length (bodies_of before) ≡ p + length (c.body ++ bodies_of before) = omega (arith, length-append c.body (bodies_of before)) in
    rw other (body-here (c.number + 1) (p + length c.body) before b after rises ∙ ap (λ (k : ℕ). Ok (part_at k (length b.body))) on)

-- a body is not longer than all from it on
first_body : (b : Board) (after : List Board) → length b.body ≤ length (bodies_of (b ∷ after))
unfolding bodies_of
first_body b after = omega (arith, length-append b.body (bodies_of after))

body_bytes : (form : ℕ) (before : List Board) (b : Board) (after : List Board) →
    let bs = before ++ (b ∷ after) in part (bodies_at form (length bs) + length (bodies_of before)) (length b.body) (file_of form bs) ≡ b.body
unfolding part bodies_of
body_bytes form before b after =
    let bs = before ++ (b ∷ after) in
    let at = length (bodies_of before) in
    rw
    (← drop-drop at (bodies_at form (length bs)) (file_of form bs), file-bodies form bs, bodies-append before (b ∷ after), drop_at (bodies_of before) (b.body ++ bodies_of after) at refl)
    (take_at b.body (bodies_of after) (length b.body) refl)

-- ---- fetched

-- bodies that are accepted are judged so
pub accepted-judged : (e p : ℕ) (bs : List Board) → Each (Accepts e) bs → judge_bodies e p bs ≡ allowed
accepted-judged e p bs ps = go (judged e p bs)
  where
    go : {a : Allowed} → Bodies e p bs a → a ≡ allowed
    go (fine qs) = refl
    go (faulty before b after is qs number place at r on) =
        let a = each_first (each_right before (b ∷ after) (subst (Each (Accepts e)) is ps)) in
        absurd (r.some (ap (λ (t : Told). t.number) (sym r.refuses ∙ a.counts)))

accepted-edition : {e : ℕ} {b : Board} → Accepts e b → KnownEdition e
accepted-edition {e} {b} a = (published-rules.accepted_is b.format e b.body a.count a.counts).serves.edition

pub present-allowed : (n : ℕ) (bs : List Board) → Present n bs → present n bs ≡ allowed
present-allowed n bs p = go (present-asked n bs)
  where
    go : {a : Allowed} → Asked (Present n bs) 22 a → a ≡ allowed
    go (good q) = refl
    go (bad q) = absurd (q p)

pub missing-denied : (n : ℕ) (bs : List Board) → (Present n bs → ⊥) → present n bs ≡ denied (refusal 22 0)
missing-denied n bs gone = go (present-asked n bs)
  where
    go : {x : Allowed} → Asked (Present n bs) 22 x → x ≡ denied (refusal 22 0)
    go (good p) = absurd (gone p)
    go (bad p) = refl

module _ (form e : ℕ) (file : List ℕ) (short : length file ≤ 65536) where
  pub file-opened : (bs : List Board) → IsFile form file bs → KnownEdition e → open_room form e file 0 ≡ has bs
  file-opened bs is known = open-read form e file 0 known short (omega arith) ∙ ap opened_by (file-read is)

  pub stands-told : (before : List Board) (b : Board) (after : List Board) → RoomFile form e file (before ++ (b ∷ after)) →
      tells_fetch form e file b.number
      ≡ told (length b.body) (part_at (bodies_at form (length (before ++ (b ∷ after))) + length (bodies_of before)) (length b.body)) []
  unfolding fetch_board
  stands-told before b after room =
      let bs = before ++ (b ∷ after) in
      let known = accepted-edition (each_first (each_right before (b ∷ after) room.accepted)) in
      rw (
        file-opened bs room.is known,
        present-allowed b.number bs (stands before b after refl),
        accepted-judged e (bodies_at form (length bs)) bs room.accepted,
        body-here 0 (bodies_at form (length bs)) before b after room.is.holdable.rising,
      )

  fetch-stands : (before : List Board) (b : Board) (after : List Board) → RoomFile form e file (before ++ (b ∷ after)) → Fetches form e file b.number b.body
  fetch-stands before b after room =
      let bs = before ++ (b ∷ after) in
      record {
        x = part_at (bodies_at form (length bs) + length (bodies_of before)) (length b.body);
        tells = stands-told before b after room;
        inside = omega (arith, ap length room.is.is, file-length form bs, ap length (bodies-append before (b ∷ after)), length-append (bodies_of before) (bodies_of (b ∷ after)), first_body b after);
        bytes = rw room.is.is (body_bytes form before b after);
      }

  fetch-absent : (n : ℕ) (bs : List Board) → IsFile form file bs → KnownEdition e → Absent n bs → Refuses (tells_fetch form e file n) 22 0
  unfolding fetch_board
  fetch-absent n bs is known a = rw (file-opened bs is known, missing-denied n bs (absent-present a))

  fetch-among : (b : Board) (bs : List Board) → RoomFile form e file bs → Among b bs → Fetches form e file b.number b.body
  fetch-among b bs room a = let s = among-stands bs a in fetch-stands s.before b s.after (subst (RoomFile form e file) s.whole room)

-- ---- after a change

-- the boards beside one of rising boards have other numbers
others-absent : (low : ℕ) (before : List Board) (old : Board) (after : List Board) → Rising low (before ++ (old ∷ after)) → Absent old.number (before ++ after)
others-absent low [] old after (next le rises) = rising-absent old.number (old.number + 1) after (omega arith) rises
others-absent low (c ∷ before) old after (next le rises) =
    let other : c.number ≡ old.number → ⊥ = λ e. first-rises low c before old after (next le rises) (sym e) in
    also other (others-absent (c.number + 1) before old after rises)

-- a board that was there and has another number is there still
kept-added : {b c : Board} {former latter : List Board} → Added c former latter → Among b former → Among b latter
kept-added {c = c} (added before after) a = among-more before c after a

kept-replaced : {b c : Board} {former latter : List Board} → Replaced c former latter → (b.number ≡ c.number → ⊥) → Among b former → Among b latter
kept-replaced {c = c} (replaced before old after same) other a = among-more before c after (among-less before old after (λ e. other (e ∙ same)) a)

kept-removed : {n : ℕ} {b : Board} {former latter : List Board} → Removed n former latter → (b.number ≡ n → ⊥) → Among b former → Among b latter
kept-removed (removed before old after same) other a = among-less before old after (λ e. other (e ∙ same)) a

kept : {n : ℕ} {x : RoomChange} {former latter : List Board} (b : Board) → Changes n x → x.Makes former latter → (b.number ≡ n → ⊥) → Among b former → Among b latter
kept b (add n f body) makes other a = kept-added makes a
kept b (replace n f body) makes other a = kept-replaced makes other a
kept b (remove n) makes other a = kept-removed makes other a

-- the part that a fetch gives is the body of a board of the file
pub held-part : (form e : ℕ) (file : List ℕ) (k : ℕ) (x : Part) → Each (λ b. b < 256) file → tells_fetch form e file k ≡ told x.len x [] →
    Held form e file k (part x.place.0 x.len file)
unfolding fetch_board
held-part form e file k x by tells = open-it (opening form e file 0) tells
  where
    body : List ℕ
    body = part x.place.0 x.len file

    by-line : {t : Told} → length file ≤ 65536 → FetchTold form e file k t → t ≡ told x.len x [] → Held form e file k body
    by-line le (wrong none_is) q = absurd (omega (arith, ap (λ (t : Told). t.number) q))
    by-line le (missing bs is gone) q = absurd (omega (arith, ap (λ (t : Told). t.number) q))
    by-line le (stored bs is there number place (firstRefused before b after number' place' ps r)) q = absurd (r.some (ap (λ (t : Told). t.number) q))
    by-line le (given before b after room same) q =
        let same_body : b.body ≡ body =
        sym (rw room.is.is (body_bytes form before b after)) ∙ ap (λ (y : Part). part y.place.0 y.len file) (ap (λ (t : Told). t.part) q) in
        let same-board : b ≡ board k b.format body = ap₂ (λ (n : ℕ) (l : List ℕ). board n b.format l) same same_body in
        record {
          short = le;
          format = b.format;
          before = before;
          after = after;
          room = subst (λ (c : Board). RoomFile form e file (before ++ (c ∷ after))) same-board room;
        }

    open-it : {o : Opened} → Opening form e file 0 o → told_located (fetch_opened o form e k) ≡ told x.len x [] → Held form e file k body
    open-it (reads known le le') q = by-line le ((rooms-told.fetched form e file k by).line known le) tells
    open-it (refuses number some) q = absurd (some (ap (λ (t : Told). t.number) q))

held : (form e : ℕ) (file : List ℕ) (k : ℕ) (body : List ℕ) → Each (λ b. b < 256) file → Fetches form e file k body → Held form e file k body
held form e file k body by f = subst (Held form e file k) f.bytes (held-part form e file k f.x by f.tells)

pub takes : Takes
takes form e file n body by =
    record { to = held form e file n body by; from = λ h. fetch-stands form e file h.short h.before (board n h.format body) h.after h.room }

module _ (n : ℕ) (x : RoomChange) (c : Changes n x) (lt : n < 4294967296) (form e : ℕ) (file out : List ℕ) (m : ℕ) (by : Each (λ b. b < 256) file)
    (q : Counts (tells x form e file out) m) where
  changed-to : Put x form e file out m
  changed-to = rooms-put.taken n x c lt form e file out m by q

  new-short : length (new_file x form e file out m) ≤ 65536
  new-short = omega (arith, length-take m (x.call form e file out).memory, changed-to.most)

  -- a board of the new list is fetched
  new-fetched : (before : List Board) (b : Board) (after : List Board) → RoomFile form e (new_file x form e file out m) (before ++ (b ∷ after)) → Fetches form e (new_file x form e file out m) b.number b.body
  new-fetched before b after room = fetch-stands form e (new_file x form e file out m) new-short before b after room

  others-back : (k : ℕ) (body : List ℕ) → (k ≡ n → ⊥) → Fetches form e file k body → Fetches form e (new_file x form e file out m) k body
  others-back k body other f =
      let h = held form e file k body by f in
      let b = board k h.format body in
      let bs = h.before ++ (b ∷ h.after) in
      let among = subst (Among b) (rooms-told.one form file bs changed-to.former h.room.is changed-to.before.is) (among-here h.before b h.after) in
      fetch-among form e (new_file x form e file out m) new-short b changed-to.latter changed-to.after (kept b c changed-to.makes other among)

back-added : (n f : ℕ) (body : List ℕ) → n < 4294967296 → (form e : ℕ) (file out : List ℕ) (m : ℕ) → Each (λ b. b < 256) file →
    Counts (tells (adds n f body) form e file out) m → Fetches form e (new_file (adds n f body) form e file out m) n body
back-added n f body lt form e file out m by q = let p = changed-to n (adds n f body) (add n f body) lt form e file out m by q in go p.makes p.after
  where
    go : {former latter : List Board} → Added (board n f body) former latter → RoomFile form e (new_file (adds n f body) form e file out m) latter →
        Fetches form e (new_file (adds n f body) form e file out m) n body
    go (added before after) room = new-fetched n (adds n f body) (add n f body) lt form e file out m by q before (board n f body) after room

back-replaced : (n f : ℕ) (body : List ℕ) → n < 4294967296 → (form e : ℕ) (file out : List ℕ) (m : ℕ) → Each (λ b. b < 256) file →
    Counts (tells (replaces n f body) form e file out) m → Fetches form e (new_file (replaces n f body) form e file out m) n body
back-replaced n f body lt form e file out m by q = let p = changed-to n (replaces n f body) (replace n f body) lt form e file out m by q in go p.makes p.after
  where
    go : {former latter : List Board} → Replaced (board n f body) former latter → RoomFile form e (new_file (replaces n f body) form e file out m) latter →
        Fetches form e (new_file (replaces n f body) form e file out m) n body
    go (replaced before old after same) room = new-fetched n (replaces n f body) (replace n f body) lt form e file out m by q before (board n f body) after room

back-removed : (n : ℕ) → n < 4294967296 → (form e : ℕ) (file out : List ℕ) (m : ℕ) → Each (λ b. b < 256) file →
    Counts (tells (removes n) form e file out) m → Refuses (tells_fetch form e (new_file (removes n) form e file out m) n) 22 0
back-removed n lt form e file out m by q = let p = changed-to n (removes n) (remove n) lt form e file out m by q in go p.makes p.before p.after
  where
    go : {former latter : List Board} → Removed n former latter → RoomFile form e file former → RoomFile form e (new_file (removes n) form e file out m) latter →
        Refuses (tells_fetch form e (new_file (removes n) form e file out m) n) 22 0
    go (removed before old after same) room room' =
        fetch-absent form e (new_file (removes n) form e file out m) (new-short n (removes n) (remove n) lt form e file out m by q) n (before ++ after) room'.is
        (accepted-edition (each_first (each_right before (old ∷ after) room.accepted)))
        (subst (λ (k : ℕ). Absent k (before ++ after)) same (others-absent 0 before old after room.is.holdable.rising))

pub given_back : GivenBack
given_back =
    record {
      added = back-added;
      replaced = back-replaced;
      removed = back-removed;
      others = λ n x c lt form e file out m by q. others-back n x c lt form e file out m by q;
    }
