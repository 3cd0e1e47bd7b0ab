-- What a write and a change leave in the output, and that it is read as what was put there.
-- Assumes nothing.
use Prim.Native.Nat.{ℕ, ◌+◌, ◌-◌, ◌≤◌}
use mathlib.Core.Path.{◌≡◌, refl, ap, sym, ◌∙◌}
use mathlib.Core.List.{List, [], ◌++◌, append-nil, map}
use mathlib.Core.Bool.{Bool, true, false, ◌&&◌}
use native.Mathlib.Omega.{arith}
use lib.ListN.{length, take, replicate, length-append, length-replicate}
use lib.Seq.{take_at}
use lib.Dec.{leb}
use borrow.Author.Tests.{leb-true, le-leb}
use Rattle.std.specs.Prelude.{Ok, Err}
use Rattle.layout.specs.declared.Format.{Format}
use Rattle.layout.specs.declared.Refusal.{Refusal}
use Rattle.layout.specs.Bytes.{if, refusal}
use Rattle.layout.specs.Shape.{Shape}
use Rattle.layout.specs.Editions.{shape, chosen}
use Rattle.layout.specs.Walk.{Raw, content, flat}
use Rattle.layout.specs.Read.{limit, complete, codes_of}
use Rattle.layout.specs.Write.{Outcome, refuse, padded, put, image_of}
use Rattle.laws.specs.Grammar.{grammar, Lawful}
use Rattle.layout.proofs.Choices.{both}
use Rattle.laws.proofs.Walking.{Frames}
use Rattle.laws.proofs.Images.{image_from}
use Rattle.laws.proofs.Writing.{image-made}
use Rattle.laws.proofs.Formats.{laws}
use Rattle.laws.proofs.Calls.{Reading, accepted-reading, made-reading}
use Rattle.promises.specs.Words.{Reads}
use Rattle.promises.proofs.Accepting.{reads}

-- an image is longer than its entries
pub entries-shorter : (S : Shape) (entries : List ℕ) → length entries ≤ length (image_of S entries)
unfolding image_of
entries-shorter S entries = simp length-append (omega arith)

pub never-unwritten : {A : Type 0} {r : Refusal} {m : ℕ} → Err r ≡ Ok m → A
never-unwritten e = let z : ◌≡◌ {A = ℕ} 0 1 = cc in absurd (omega arith)

-- an output that took an image of so many bytes, no more than its format allows
pub record Took (S : Shape) (image out : List ℕ) (m : ℕ) (memory : List ℕ) : Type 0 where
  pub long : m ≡ length image
  pub allowed : length image ≤ S.most
  pub fits : length image ≤ length out
  pub padding : memory ≡ image ++ replicate (length out - m) 0xFF

-- an image that was put is no longer than its format allows, and fits the output
pub put-fits : (S : Shape) (image out : List ℕ) (m : ℕ) → (put S image out).answer ≡ Ok m → (length image ≤ S.most) × (length image ≤ length out)
unfolding put
put-fits S image out m q = go (leb (length image) S.most && leb (length image) (length out)) refl q
  where
    go : (b : Bool) → leb (length image) S.most && leb (length image) (length out) ≡ b →
        (if {A = Outcome} b (λ _. record { answer = Ok (length image); memory = padded image (length out) }) (λ _. refuse (refusal 12 0) out)).answer ≡ Ok m →
        (length image ≤ S.most) × (length image ≤ length out)
    go true t q =
        let both = both (leb (length image) S.most) (leb (length image) (length out)) t in
        (leb-true (length image) S.most both.0, leb-true (length image) (length out) both.1)
    go false t q = never-unwritten q

-- an image that does is put
pub put-fitting : (S : Shape) (image out : List ℕ) → length image ≤ S.most → length image ≤ length out →
    put S image out ≡ record { answer = Ok (length image); memory = padded image (length out) }
unfolding put
put-fitting S image out allowed fits = rw (le-leb (length image) S.most allowed, le-leb (length image) (length out) fits)

pub put-took : (S : Shape) (image out : List ℕ) (m : ℕ) → (put S image out).answer ≡ Ok m → Took S image out m (put S image out).memory
put-took S image out m q =
    let fits = put-fits S image out m q in
    let is = put-fitting S image out fits.0 fits.1 in
    let long : m ≡ length image = cc in
    record { long = long; allowed = fits.0; fits = fits.1; padding = rw (is, long) }

-- an output that took the image of lawful and complete entries is read as those, whole and up to the length given
module _ (f e : ℕ) (g : Format) (rs : List Raw) (out : List ℕ) (m : ℕ) (memory : List ℕ) where
  pub took-readings : chosen f e ≡ Ok g → Frames (shape g) (grammar g) false rs → Lawful (shape g) e [] (map content rs) → complete (shape g).required (codes_of rs) ≡ true →
      length out ≤ limit → Took (shape g) (image_of (shape g) (flat rs)) out m memory →
      let start = length ((shape g).header (length (flat rs))) in
      Reading f e memory g start rs × Reading f e (take m memory) g start rs
  took-readings k fs lw cm short t =
      let image : List ℕ = image_of (shape g) (flat rs) in
      let pad : List ℕ = replicate (length out - m) 0xFF in
      let whole : memory ≡ image_from (shape g) (flat rs) (shape g).closing pad = t.padding ∙ image-made (shape g) (flat rs) pad in
      let front : take m memory ≡ image_from (shape g) (flat rs) (shape g).closing []
      = ap (take m) t.padding ∙ take_at image pad m (sym t.long) ∙ sym (append-nil image) ∙ image-made (shape g) (flat rs) [] in
      let long : length memory ≡ length image + length pad = ap length t.padding ∙ length-append image pad in
      let takes : (grammar g).Takes (length (flat rs)) = (laws g).takes_made (flat rs) t.allowed in
      let read : (x : List ℕ) → length (image_from (shape g) (flat rs) (shape g).closing x) ≤ limit →
      Reading f e (image_from (shape g) (flat rs) (shape g).closing x) g (length ((shape g).header (length (flat rs)))) rs
      = (λ x le.
      accepted-reading f e (image_from (shape g) (flat rs) (shape g).closing x) g (length ((shape g).header (length (flat rs)))) rs
      (made-reading f e g rs (shape g).closing x k (laws g).closing_made takes fs lw cm le)) in
      let fits_whole : length memory ≤ limit = omega (arith, length-replicate {A = ℕ} (length out - m) 0xFF, t.fits, t.long) in
      let fitsFront : length (take m memory) ≤ limit = rw (t.padding, take_at image pad m (sym t.long)) (omega (arith, t.fits)) in
      (rw whole (read pad (rw whole at fits_whole)), rw front (read [] (rw front at fitsFront)))

  pub took-reads : chosen f e ≡ Ok g → Frames (shape g) (grammar g) false rs → Lawful (shape g) e [] (map content rs) → complete (shape g).required (codes_of rs) ≡ true →
      length out ≤ limit → Took (shape g) (image_of (shape g) (flat rs)) out m memory → Reads f e memory (map content rs) × Reads f e (take m memory) (map content rs)
  took-reads k fs lw cm short t =
      let r = took-readings k fs lw cm short t in
      let start = length ((shape g).header (length (flat rs))) in
      (reads f e memory g start rs r.0, reads f e (take m memory) g start rs r.1)
