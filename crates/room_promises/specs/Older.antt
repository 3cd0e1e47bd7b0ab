-- Demand 3 for machine rooms: what a newer edition's tools put into a room file and accept, an older edition's tools that have those formats accept; and what the older adds, replaces or removes
-- leaves every other body as it was, so that the newer edition goes on accepting it.
-- Assumes nothing.
use Rattle.std.specs.Prelude.{ℕ, ◌≤◌, ◌<◌, List, take}
use Rattle.layout.specs.declared.Format.{Format}
use Rattle.layout.specs.Each.{Each}
use Rattle.rooms.specs.File.{Board}
use Rattle.rooms.specs.Grammar.{IsFile}
use Rattle.promises.specs.Words.{Serves, Counts}
use Rattle.room_promises.specs.Words.{Accepts, RoomFile, RoomChange, tells, Changes}
use Rattle.room_promises.specs.Fetches.{Fetches}

-- an edition has the format of a board
pub record Has (e : ℕ) (b : Board) : Type 0 where
  pub format : Format
  pub serves : Serves b.format e format

-- what the newer edition makes of a file that an older one changed
pub record KeptRoom (x : RoomChange) (form n : ℕ) (file file' : List ℕ) : Type 0 where
  pub former : List Board
  pub latter : List Board
  pub makes : x.Makes former latter
  pub before : RoomFile form n file former
  pub is : IsFile form file' latter
  -- it takes the new file where it accepts the body that was brought; every other one it accepted before
  pub after : Each (Accepts n) x.brings → RoomFile form n file' latter

pub record OlderRooms : Type 1 where
  -- o is no newer than n
  pub reads : (form o n : ℕ) (file : List ℕ) (bs : List Board) → o ≤ n → Each (Has o) bs → RoomFile form n file bs → RoomFile form o file bs
  pub fetches : (form o n : ℕ) (file : List ℕ) (bs : List Board) (k : ℕ) (body : List ℕ) → Each (λ b. b < 256) file → o ≤ n → Each (Has o) bs → IsFile form file bs →
      Fetches form n file k body → Fetches form o file k body
  -- o and n are any two editions
  pub changes : (k : ℕ) (x : RoomChange) → Changes k x → k < 4294967296 → (form o n : ℕ) (file out : List ℕ) (bs : List Board) (m : ℕ) → Each (λ b. b < 256) file →
      RoomFile form n file bs → Counts (tells x form o file out) m → KeptRoom x form n file (take m (x.call form o file out).memory)
