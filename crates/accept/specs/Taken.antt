-- An image as the calls take it: its refusal, or where its entries are and how many.
-- Assumes nothing.
use Rattle.std.specs.Prelude.{ℕ, ◌+◌, List, length, Ok, Err}
use Rattle.layout.specs.Answers.{Opened}
use Rattle.layout.specs.Editions.{shape}
use Rattle.layout.specs.Walk.{flat}
use Rattle.layout.specs.Read.{Read, accepted, refused, read_image}
use Rattle.accept.specs.Answers.{Taken}

-- where the room of the entries ends
abbrev pub room_end : Opened → ℕ
room_end (Ok (start, end)) = end
room_end (Err r) = 0

-- what is read, where the room ends at `end`
abbrev pub room_taken : Read → ℕ → Taken
room_taken (accepted f start rs) end = Ok (record { format = f; start = start; end = end; over = start + length (flat rs); count = length rs })
room_taken (refused r) end = Err r

abbrev pub taken_by : Read → List ℕ → Taken
taken_by (accepted f start rs) image = room_taken (accepted f start rs) (room_end ((shape f).opened image))
taken_by (refused r) image = Err r

unfoldable pub taken : ℕ → ℕ → List ℕ → Taken
taken f e image = taken_by (read_image f e image) image
