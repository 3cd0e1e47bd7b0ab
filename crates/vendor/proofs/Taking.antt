-- A read by what taking the image and joining its pieces give.
-- Assumes nothing.
use Prim.Native.Nat.{ℕ, ◌+◌, ◌≤◌}
use mathlib.Core.Path.{◌≡◌, refl, ap, sym, ◌∙◌}
use mathlib.Core.List.{List, [], ◌∷◌, map}
use native.Mathlib.Omega.{arith}
use lib.ListN.{length, take}
use Rattle.std.specs.Prelude.{Ok, Err, Some, None}
use Rattle.layout.specs.declared.Format.{Format}
use Rattle.layout.specs.declared.Format.TheVariants.{Onie}
use Rattle.layout.specs.declared.Refusal.{Refusal}
use Rattle.layout.specs.Bytes.{part, refusal}
use Rattle.layout.specs.Onie.{onie}
use Rattle.layout.specs.Editions.{shape}
use Rattle.layout.specs.Walk.{Content, content, done}
use Rattle.layout.specs.Read.{Read, read_image}
use Rattle.laws.specs.Passes.{walked, IsDone, raws_in}
use Rattle.laws.proofs.Calls.{is-format}
use Rattle.laws.proofs.Onie.{onie-room}
use Rattle.output.specs.Placing.{copied}
use Rattle.output.proofs.Overlay.{copied-over, part-over}
use Rattle.accept.specs.declared.Room.{Room}
use Rattle.accept.specs.Taken.{taken}
use Rattle.accept.proofs.Rooms.{took, not-took}
use Rattle.blocks.specs.Answers.{Vended}
use Rattle.blocks.specs.Payload.{matching, joined, payload_says}
use Rattle.blocks.specs.Vendor.{asked, Taking, untaken, taking, take_matching, take_read, read_vendor}
use Rattle.blocks.proofs.Asking.{asked-four, read_asked}
use Rattle.vendor.specs.Pieces.{joined_length}

-- an answer and a memory are those of an outcome
pub outcome : {a : Vended} {m : List ℕ} {t : Taking} → t ≡ record { answer = a; memory = m } → (a ≡ t.answer) × (m ≡ t.memory)
outcome e = (sym (ap (λ (t : Taking). t.answer) e), sym (ap (λ (t : Taking). t.memory) e))

-- ---- the payload

-- what was joined in memory of the call is read there
pub joined-there : (d s : List ℕ) (n : ℕ) → n ≡ length s → n ≤ length d → take n (copied d 0 s) ≡ s
unfolding part
joined-there d s n e le = rw (e, copied-over d 0 s (omega arith)) (part-over d 0 s (omega arith))

pub none-match : (cs : List Content) (buffer : List ℕ) → joined_length cs ≡ None → take_matching cs buffer ≡ untaken (refusal 17 0) buffer
none-match [] buffer q = refl
none-match (c ∷ cs) buffer q = cc

-- entries of which some match: what their payload comes to, and its length
pub some-match : (cs : List Content) (buffer : List ℕ) {n : ℕ} → joined_length cs ≡ Some n →
    (take_matching cs buffer ≡ taking (payload_says (joined cs)) (joined cs) buffer) × (n ≡ length (joined cs))
some-match [] buffer q = cc
some-match (c ∷ cs) buffer q = (refl, cc)

-- ---- the image

module _ (f e : ℕ) (image buffer : List ℕ) where
  module _ (g : Format) (q : asked f e (length buffer) ≡ Ok g) where
    reads : read_vendor f e image buffer ≡ take_read (read_image f e image) buffer
    reads = read_asked f e image buffer g q

    pub read-refused : (r : Refusal) → taken f e image ≡ Err r → read_vendor f e image buffer ≡ untaken r buffer
    read-refused r t = reads ∙ ap (λ (x : Read). take_read x buffer) (not-took f e image r t)

    -- an image that is taken: its walk, its room, and what the read comes to
    pub record Reached (room : Room) : Type 0 where
      pub done : IsDone (walked Onie image room.start room.end)
      pub bound : room.start ≤ room.end
      pub most : room.end ≤ room.start + 2048
      pub is : read_vendor f e image buffer ≡ take_matching (matching (map content (raws_in (walked Onie image room.start room.end)))) buffer

    pub read-reached : (room : Room) → taken f e image ≡ Ok room → Reached room
    unfolding onie
    read-reached room t =
        let w = took f e image room t in
        let format : room.format ≡ Onie = is-format Onie f e room.format (asked-four f e (length buffer) g q) w.known in
        let walks : walked Onie image room.start room.end ≡ done w.entries room.over = sym (ap (λ (h : Format). walked h image room.start room.end) format) ∙ w.walks in
        let opens : (shape Onie).opened image ≡ Ok (room.start, room.end) = sym (ap (λ (h : Format). (shape h).opened image) format) ∙ w.opens in
        let r = rw opens at (onie-room image) in
        record {
          done = rw walks tt;
          bound = w.bound;
          most = omega (arith, r.starts, r.ends, r.most);
          is = reads ∙ ap (λ (x : Read). take_read x buffer) w.read ∙ rw walks;
        }
