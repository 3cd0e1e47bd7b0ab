-- An image that is taken: the walk of a Tiny one, and that entries are few.
-- Assumes nothing.
use Prim.Native.Nat.{ℕ, zero, suc, ◌+◌, ◌≤◌, ◌<◌}
use mathlib.Core.Path.{◌≡◌, refl, ap, sym, ◌∙◌}
use mathlib.Core.List.{List, [], ◌∷◌, ◌++◌}
use mathlib.Core.Bool.{Bool, true, false}
use native.Mathlib.Omega.{arith}
use lib.ListN.{length, length-append}
use Rattle.std.specs.Result.{is_ok}
use Rattle.layout.specs.declared.Format.{Format}
use Rattle.layout.specs.declared.Format.TheVariants.{Tiny}
use Rattle.layout.specs.Shape.{Shape}
use Rattle.layout.specs.Tiny.{tiny}
use Rattle.layout.specs.Editions.{shape}
use Rattle.layout.specs.Walk.{Raw, flat, done}
use Rattle.layout.specs.Read.{limit, Read, accepted, refused, read_image}
use Rattle.layout.specs.Calls.{nth, entries_of, found_by, entry_at}
use Rattle.laws.specs.Grammar.{Grammar}
use Rattle.laws.specs.Passes.{walked}
use Rattle.laws.proofs.Format.{Laws}
use Rattle.laws.proofs.Formats.{laws}
use Rattle.laws.proofs.Frames.{raw-size, raw-some}
use Rattle.laws.proofs.Walking.{Frames}
use Rattle.laws.proofs.Calls.{is-format, accepted-reading}
use Rattle.accept.specs.declared.Room.{Room as TakenRoom}
use Rattle.accept.proofs.Rooms.{Took}

pub tiny-walks : (f e : ℕ) (image : List ℕ) (room : TakenRoom) → f ≡ 3 → (w : Took f e image room) → walked Tiny image room.start room.end ≡ done w.entries room.over
unfolding tiny
tiny-walks f e image room q w = sym (ap (λ (g : Format). walked g image room.start room.end) (is-format Tiny f e room.format q w.known)) ∙ w.walks

-- ---- an image has few entries

flat-long : {S : Shape} {G : Grammar} (L : Laws S G) (b : Bool) (rs : List Raw) → Frames S G b rs → length rs ≤ length (flat rs)
flat-long L b [] fs = omega arith
flat-long {S} L b (r ∷ rs) fs =
    let some = raw-some L r fs.1 in
    let size = raw-size fs.1 in
    let rest = flat-long L (S.last r.frame.code) rs fs.2 in
    omega (arith, length-append r.bytes (flat rs))

nth-below : (S : Shape) (e p : ℕ) (rs : List Raw) (n : ℕ) → is_ok (nth (entries_of S e p rs) n) ≡ true → n < length rs
unfolding nth entries_of
nth-below S e p [] n q = cc
nth-below S e p (r ∷ rs) zero q = omega arith
nth-below S e p (r ∷ rs) (suc n) q = let i = nth-below S e (p + r.frame.size) rs n q in omega arith

pub found_below : (f e : ℕ) (image : List ℕ) (n : ℕ) → is_ok (entry_at f e image n) ≡ true → n < limit
unfolding entry_at
found_below f e image n q = go (read_image f e image) refl q
  where
    go : (y : Read) → read_image f e image ≡ y → is_ok (found_by y e n) ≡ true → n < limit
    go (refused r) y q = cc
    go (accepted g start rs) y q =
        let m = accepted-reading f e image g start rs y in
        let S = shape g in
        let H = S.header (length (flat rs)) in
        let z = m.made.closing ++ (S.check (H ++ flat rs) ++ m.made.rest) in
        let below = nth-below S e start rs n q in
        let long = flat-long (laws g) false rs m.made.frames in
        omega (arith, ap length m.made.is, length-append H (flat rs ++ z), length-append (flat rs) z, m.short)
