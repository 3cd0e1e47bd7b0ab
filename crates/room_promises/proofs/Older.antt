-- Demand 3 holds for machine rooms.
-- Assumes nothing.
use Prim.Native.Nat.{ℕ, ◌≤◌, ◌<◌}
use mathlib.Core.Path.{subst}
use mathlib.Core.List.{List, ◌∷◌, ◌++◌}
use lib.ListN.{take}
use Rattle.layout.specs.Each.{Each}
use Rattle.layout.proofs.Lists.{each_both}
use Rattle.rooms.specs.File.{Board, board}
use Rattle.rooms.specs.Grammar.{IsFile}
use Rattle.promises.specs.Words.{Counts}
use Rattle.promises.proofs.OlderReads.{older-reads}
use Rattle.room_promises.specs.Words.{Accepts, RoomFile, RoomChange, tells, Changes}
use Rattle.room_promises.specs.Fetches.{Fetches}
use Rattle.room_promises.specs.Older.{Has, KeptRoom, OlderRooms}
use Rattle.room_promises.proofs.Boards.{each-made}
use Rattle.room_promises.proofs.Told.{rooms-told}
use Rattle.room_promises.proofs.Puts.{rooms-put}
use Rattle.room_promises.proofs.Fetches.{takes}

older-accepts : (o n : ℕ) → o ≤ n → (b : Board) → Has o b → Accepts n b → Accepts o b
older-accepts o n le b h a =
    record { count = a.count; counts = (older-reads b.format o n h.format b.body a.count h.serves le a.counts).accepted }

kept-room : (k : ℕ) (x : RoomChange) → Changes k x → k < 4294967296 → (form o n : ℕ) (file out : List ℕ) (bs : List Board) (m : ℕ) → Each (λ b. b < 256) file →
    RoomFile form n file bs → Counts (tells x form o file out) m → KeptRoom x form n file (take m (x.call form o file out).memory)
kept-room k x c lt form o n file out bs m by room q =
    let p = rooms-put.taken k x c lt form o file out m by q in
    let accepted = subst (Each (Accepts n)) (rooms-told.one form file bs p.former room.is p.before.is) room.accepted in
    record {
      former = p.former;
      latter = p.latter;
      makes = p.makes;
      before = record { is = p.before.is; accepted = accepted };
      is = p.after.is;
      after = λ brought. record { is = p.after.is; accepted = each-made c p.makes brought accepted };
    }

older-room : (form o n : ℕ) (file : List ℕ) (bs : List Board) → o ≤ n → Each (Has o) bs → RoomFile form n file bs → RoomFile form o file bs
older-room form o n file bs le has room = record { is = room.is; accepted = each_both (older-accepts o n le) has room.accepted }

older-fetches : (form o n : ℕ) (file : List ℕ) (bs : List Board) (k : ℕ) (body : List ℕ) → Each (λ b. b < 256) file → o ≤ n → Each (Has o) bs → IsFile form file bs →
    Fetches form n file k body → Fetches form o file k body
older-fetches form o n file bs k body by le has is f =
    let h = (takes form n file k body by).to f in
    let cs = h.before ++ (board k h.format body ∷ h.after) in
    let same = rooms-told.one form file bs cs is h.room.is in
    (takes form o file k body by).from
    (record {
      short = h.short;
      format = h.format;
      before = h.before;
      after = h.after;
      room = older-room form o n file cs le (subst (Each (Has o)) same has) h.room;
    })

pub older-rooms : OlderRooms
older-rooms =
    record {
      reads = older-room;
      fetches = older-fetches;
      changes = kept-room;
    }
