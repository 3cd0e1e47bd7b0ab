-- What the search for entry n finds; and the search for the pool along a pass over an image: where it stands, how it goes on, and what it finds.
-- Assumes nothing.
use Prim.Native.Nat.{ℕ, zero, suc, ◌+◌, ◌-◌, ◌≤◌}
use mathlib.Core.Path.{◌≡◌, refl, ap, sym, ◌∙◌}
use mathlib.Core.List.{List, [], ◌∷◌, ◌++◌}
use mathlib.Core.Bool.{Bool, false}
use native.Mathlib.Omega.{arith}
use native.Mathlib.Nat.{add-zero}
use lib.ListN.{length, length-append}
use borrow.Author.Tests.{eq-eqb, ne_eqb}
use Rattle.std.specs.Prelude.{Ok, Err, Some, None}
use Rattle.layout.specs.declared.Format.{Format}
use Rattle.layout.specs.declared.Format.TheVariants.{Tiny}
use Rattle.layout.specs.declared.Frame.{Frame}
use Rattle.layout.specs.Bytes.{part, refusal}
use Rattle.layout.specs.Shape.{Shape, next}
use Rattle.layout.specs.Editions.{shape}
use Rattle.layout.specs.Walk.{Raw, flat, content}
use Rattle.layout.specs.Calls.{nth, entry_of, entries_of, no_string, string_in, pool_string}
use Rattle.laws.specs.Grammar.{grammar}
use Rattle.laws.specs.Passes.{walked, IsDone, raws_in}
use Rattle.laws.proofs.Formats.{laws}
use Rattle.laws.proofs.Passes.{Passing, pass-first, pass_on, pass-ends, pass-unbroken}
use Rattle.frames.specs.Spots.{spot_at}
use Rattle.frames.proofs.Spots.{Sized, Spotted, spot-walked}
use Rattle.reader.proofs.Lying.{Lies, raw_at, framed-lies, value-at}

-- the entry that a frame was read for
pub onward-raw : (g : Format) (image : List ℕ) (end p : ℕ) (shut : Bool) (f : Frame) (w : Passing (shape g) (grammar g) image end p shut) (q : next (shape g) shut (part p (end - p) image) ≡ Ok (Some f)) →
    (pass_on (laws g) image end p shut f w q).raw ≡ raw_at image p f
onward-raw g image end p shut f w q =
    (pass_on (laws g) image end p shut f w q).is_raw_of ∙ ap (λ (bs : List ℕ). record { bytes = bs; frame = f }) (framed-lies g shut image p end f q).is

-- ---- entry n

nth_past : (S : Shape) (e p : ℕ) (past : List Raw) (raw : Raw) (after : List Raw) → Sized past →
    nth (entries_of S e p (past ++ (raw ∷ after))) (length past) ≡ Ok (entry_of S e (p + length (flat past)) raw)
unfolding nth entries_of
nth_past S e p [] raw after z = rw add-zero
nth_past S e p (r ∷ past) raw after z =
    let at : p + r.frame.size + length (flat past) ≡ p + length (r.bytes ++ flat past) = omega (arith, length-append r.bytes (flat past), z.0) in
    nth_past S e (p + r.frame.size) past raw after z.1 ∙ ap (λ (q : ℕ). Ok (entry_of S e q raw)) at

nth-none : (S : Shape) (e p : ℕ) (rs : List Raw) (n : ℕ) → length rs ≤ n → nth (entries_of S e p rs) n ≡ Err (refusal 13 0)
unfolding nth entries_of
nth-none S e p [] n le = refl
nth-none S e p (r ∷ rs) zero le = absurd (omega arith)
nth-none S e p (r ∷ rs) (suc n) le = nth-none S e (p + r.frame.size) rs n (omega arith)

module _ (g : Format) (e : ℕ) (image : List ℕ) (start end n : ℕ) (d : IsDone (walked g image start end)) where
  abbrev entries : List Raw
  entries = raws_in (walked g image start end)

  -- the frame that is found is entry n's
  pub nth-found : (f : Frame) (p : ℕ) → spot_at (shape g) image false start end n ≡ Some (f, p) →
      Lies image p f × (nth (entries_of (shape g) e start entries) n ≡ Ok (entry_of (shape g) e p (raw_at image p f)))
  nth-found f p q =
      let w : Spotted (shape g) (grammar g) image end entries start n f p = rw q at (spot-walked g image start end n d) in
      let x = framed-lies g w.shut image p end f w.read in (
        x.lies,
        ap (λ (rs : List Raw). nth (entries_of (shape g) e start rs) n) w.joined
            ∙ ap (nth (entries_of (shape g) e start (w.past ++ (w.raw ∷ w.after)))) w.counted
            ∙ nth_past (shape g) e start w.past w.raw w.after w.sized
            ∙ ap (λ (a : ℕ). Ok (entry_of (shape g) e a w.raw)) (sym w.place)
            ∙ ap (λ (r : Raw). Ok (entry_of (shape g) e p r)) (w.is ∙ ap (λ (bs : List ℕ). record { bytes = bs; frame = f }) x.is),
      )

  -- where none is found, there is no entry n
  pub nth-missing : spot_at (shape g) image false start end n ≡ None → nth (entries_of (shape g) e start entries) n ≡ Err (refusal 13 0)
  nth-missing q = nth-none (shape g) e start entries n (rw q at (spot-walked g image start end n d))

-- ---- the pool

pool-here : (p : ℕ) (r : Raw) (rs : List Raw) (number : ℕ) → r.frame.code ≡ 1 → pool_string p (r ∷ rs) number ≡ string_in (content r).value (p + r.frame.val) 0 number
unfolding pool_string
pool-here p r rs number q = rw (eq-eqb r.frame.code 1 q)

pool-on : (p : ℕ) (r : Raw) (rs : List Raw) (number : ℕ) → (r.frame.code ≡ 1 → ⊥) → pool_string p (r ∷ rs) number ≡ pool_string (p + r.frame.size) rs number
unfolding pool_string
pool-on p r rs number q = rw (ne_eqb r.frame.code 1 q)

pool-none : (p number : ℕ) → pool_string p [] number ≡ no_string
unfolding pool_string
pool-none p number = refl

-- the pool of all is the pool of the entries from p on
pub record Pooling (image : List ℕ) (start end number p : ℕ) (shut : Bool) : Type 0 where
  pub pass : Passing (shape Tiny) (grammar Tiny) image end p shut
  pub same : pool_string start (raws_in (walked Tiny image start end)) number ≡ pool_string p pass.todo number

pub pooling-starts : (image : List ℕ) (start end number : ℕ) → IsDone (walked Tiny image start end) → Pooling image start end number start false
pooling-starts image start end number d =
    let w = pass-first Tiny image start end d in
    record { pass = w.pass; same = ap (λ (rs : List Raw). pool_string start rs number) (sym w.todo) }

module _ {image : List ℕ} {start end number p : ℕ} {shut : Bool} (w : Pooling image start end number p shut) where
  -- it stands at the pool
  pub pooling-found : (f : Frame) → next (shape Tiny) shut (part p (end - p) image) ≡ Ok (Some f) → f.code ≡ 1 →
      pool_string start (raws_in (walked Tiny image start end)) number ≡ string_in (part (p + f.val) f.vlen image) (p + f.val) 0 number
  pooling-found f q z =
      let x = pass_on (laws Tiny) image end p shut f w.pass q in
      let raw = onward-raw Tiny image end p shut f w.pass q in
      w.same
      ∙ ap (λ (rs : List Raw). pool_string p rs number) x.heads
      ∙ ap (λ (r : Raw). pool_string p (r ∷ x.todo) number) raw
      ∙ pool-here p (raw_at image p f) x.todo number z
      ∙ ap (λ (bs : List ℕ). string_in bs (p + f.val) 0 number) (sym (value-at image p f (framed-lies Tiny shut image p end f q).lies))

  -- it passes an entry
  pub pooling-on : (f : Frame) → next (shape Tiny) shut (part p (end - p) image) ≡ Ok (Some f) → (f.code ≡ 1 → ⊥) →
      Pooling image start end number (p + f.size) ((shape Tiny).last f.code)
  pooling-on f q un =
      let x = pass_on (laws Tiny) image end p shut f w.pass q in
      let raw = onward-raw Tiny image end p shut f w.pass q in
      record {
        pass = x.on;
        same =
            w.same
            ∙ ap (λ (rs : List Raw). pool_string p rs number) x.heads
            ∙ ap (λ (r : Raw). pool_string p (r ∷ x.todo) number) raw
            ∙ pool-on p (raw_at image p f) x.todo number un
            ∙ ap (λ (rs : List Raw). pool_string (p + f.size) rs number) (sym x.todo_on);
      }

  -- there is no pool
  pub pooling-over : next (shape Tiny) shut (part p (end - p) image) ≡ Ok None → pool_string start (raws_in (walked Tiny image start end)) number ≡ no_string
  pooling-over q =
      w.same
      ∙ ap (λ (rs : List Raw). pool_string p rs number) (pass-ends (laws Tiny) image end p shut w.pass q)
      ∙ pool-none p number

  pub pooling-unbroken : {A : Type 0} (k : ℕ) → next (shape Tiny) shut (part p (end - p) image) ≡ Err k → A
  pooling-unbroken k q = absurd (pass-unbroken (laws Tiny) image end p shut k w.pass q)
