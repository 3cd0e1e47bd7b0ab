-- An image that is taken: its entries, and the room that they lie in.
-- Assumes nothing.
use Prim.Native.Nat.{ℕ, ◌+◌, ◌≤◌}
use mathlib.Core.Path.{◌≡◌, refl, ap, sym, ◌∙◌}
use mathlib.Core.List.{List}
use mathlib.Core.Bool.{false}
use native.Mathlib.Omega.{arith}
use lib.ListN.{length}
use Rattle.std.specs.Prelude.{Ok, Err}
use Rattle.layout.specs.declared.Refusal.{Refusal}
use Rattle.layout.specs.Editions.{shape, chosen}
use Rattle.layout.specs.Walk.{Raw, flat, done, walk}
use Rattle.layout.specs.Read.{limit, Read, accepted, refused, read_image}
use Rattle.laws.specs.Passes.{walked}
use Rattle.laws.proofs.Calls.{accepted-reading}
use Rattle.laws.proofs.Format.{Holds}
use Rattle.laws.proofs.Formats.{laws}
use Rattle.laws.proofs.Images.{Accepts}
use Rattle.laws.proofs.Rooms.{room-inside}
use Rattle.laws.proofs.Walking.{walk-flat}
use Rattle.accept.specs.declared.Room.{Room as TakenRoom}
use Rattle.accept.specs.Taken.{room_end, taken_by, taken}

-- what is known of an image that is taken
pub record Took (f e : ℕ) (image : List ℕ) (room : TakenRoom) : Type 0 where
  pub entries : List Raw
  pub read : read_image f e image ≡ accepted room.format room.start entries
  pub made : Accepts room.format e image room.start entries
  pub known : chosen f e ≡ Ok room.format
  pub counts : room.count ≡ length entries
  pub over : room.over ≡ room.start + length (flat entries)
  pub opens : (shape room.format).opened image ≡ Ok (room.start, room.end)
  pub walks : walked room.format image room.start room.end ≡ done entries room.over
  pub bound : room.start ≤ room.end
  pub inside : room.end ≤ length image
  pub short : length image ≤ limit

pub took : (f e : ℕ) (image : List ℕ) (room : TakenRoom) → taken f e image ≡ Ok room → Took f e image room
unfolding taken
took f e image room q = go (read_image f e image) refl q
  where
    go : (x : Read) → read_image f e image ≡ x → taken_by x image ≡ Ok room → Took f e image room
    go (refused r) y q = let z : ◌≡◌ {A = ℕ} 0 1 = cc in absurd (omega arith)
    go (accepted g start rs) y q =
        let m = accepted-reading f e image g start rs y in
        let w = m.made in
        let h : Holds (shape g) image (flat rs) = rw w.is ((laws g).room_made (flat rs) w.closing w.rest w.closes w.takes) in
        let opens : (shape g).opened image ≡ Ok (start, h.end) = h.opened ∙ ap (λ (s : ℕ). Ok (s, h.end)) (sym w.starts) in
        let H = length ((shape g).header (length (flat rs))) in
        let within = room-inside g image start h.end opens in
        let is : record { format = g; start = start; end = room_end ((shape g).opened image); over = start + length (flat rs); count = length rs } ≡ room = cc in
        rw (← is, opens)
        (record {
          entries = rs;
          read = y;
          made = w;
          known = m.known;
          counts = refl;
          over = refl;
          opens = opens;
          walks =
              ap (λ (s : ℕ). walked g image s h.end) w.starts
              ∙ ap (walk (shape g) false H) h.room
              ∙ walk-flat (laws g) false H rs h.rest w.frames h.ends
              ∙ ap (λ (s : ℕ). done rs (s + length (flat rs))) (sym w.starts);
          bound = within.0;
          inside = within.1;
          short = m.short;
        })

pub not-took : (f e : ℕ) (image : List ℕ) (r : Refusal) → taken f e image ≡ Err r → read_image f e image ≡ refused r
unfolding taken
not-took f e image r q = go (read_image f e image) refl q
  where
    go : (x : Read) → read_image f e image ≡ x → taken_by x image ≡ Err r → read_image f e image ≡ refused r
    go (refused r') y q = y ∙ (let z : refused r' ≡ refused r = cc in z)
    go (accepted g start rs) y q = let z : ◌≡◌ {A = ℕ} 0 1 = cc in absurd (omega arith)
