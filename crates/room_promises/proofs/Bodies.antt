-- Bodies by the check call: all of a list are accepted, or the first that is not refuses, at its place.
-- Assumes nothing.
use Prim.Native.Nat.{ℕ, ◌+◌, ◌*◌}
use mathlib.Core.Path.{◌≡◌, refl, ap, subst}
use mathlib.Core.List.{List, [], ◌∷◌, ◌++◌}
use native.Mathlib.Omega.{arith}
use lib.ListN.{length, length-append}
use Rattle.std.specs.Prelude.{Ok, Err}
use Rattle.layout.specs.Answers.{Checked}
use Rattle.layout.specs.Bytes.{all, refusal}
use Rattle.layout.specs.Calls.{told_checked, check_image}
use Rattle.layout.specs.Change.{Allowed, allowed, denied}
use Rattle.layout.specs.Each.{Each, none, also}
use Rattle.rooms.specs.File.{Board, bodies_of}
use Rattle.rooms.specs.Calls.{and_then, body_allowed, judge_bodies, judge_stored}
use Rattle.promises.specs.Numbers.{image_numbers}
use Rattle.promises.proofs.FormatNumbers.{tabled}
use Rattle.promises.proofs.Entries.{CheckedIn}
use Rattle.promises.proofs.ReadCalls.{checked-in}
use Rattle.room_promises.specs.Words.{Accepts}
use Rattle.room_promises.specs.Told.{Refused, FirstRefused, first}

-- a body is accepted, or refused by a number that is not 0
pub data Body (e : ℕ) (b : Board) (p : ℕ) : Allowed → Type 0 where
  accepted : Accepts e b → Body e b p allowed
  refused : (number place : ℕ) → Refused e b number place → Body e b p (denied (refusal number (p + place)))

pub body : (e : ℕ) (b : Board) (p : ℕ) → Body e b p (body_allowed (check_image b.format e b.body) p)
unfolding all
body e b p = go (check_image b.format e b.body) refl
  where
    go : (x : Checked) → check_image b.format e b.body ≡ x → Body e b p (body_allowed x p)
    go (Ok n) q = accepted (record { count = n; counts = ap told_checked q })
    go (Err r) q =
        let low : CheckedIn (Err r) = subst CheckedIn q (checked-in b.format e b.body) in
        let n = tabled image_numbers r.number refl low.number in
        refused r.number r.place.0 (record { refuses = ap told_checked q; some = λ z. absurd (omega (arith, n.0, z)) })

-- all of them are accepted, or the first that is not refuses; the first body stands at p
pub data Bodies (e p : ℕ) (bs : List Board) : Allowed → Type 0 where
  fine : Each (Accepts e) bs → Bodies e p bs allowed
  faulty : (before : List Board) (b : Board) (after : List Board) → bs ≡ before ++ (b ∷ after) → Each (Accepts e) before →
      (number place at : ℕ) → Refused e b number place → at ≡ p + length (bodies_of before) + place → Bodies e p bs (denied (refusal number at))

pub judged : (e p : ℕ) (bs : List Board) → Bodies e p bs (judge_bodies e p bs)
unfolding judge_bodies bodies_of
judged e p [] = fine none
judged e p (b ∷ bs) = go (body e b p) (judged e (p + length b.body) bs)
  where
    later : {x : Allowed} → Accepts e b → Bodies e (p + length b.body) bs x → Bodies e p (b ∷ bs) x
    later a (fine ps) = fine (also a ps)
    later a (faulty before c after is ps number place at r on) =
        faulty (b ∷ before) c after (ap (λ (x : List Board). b ∷ x) is) (also a ps) number place at r (omega (arith, on, length-append b.body (bodies_of before)))

    go : {x : Allowed} → Body e b p x → Bodies e (p + length b.body) bs (judge_bodies e (p + length b.body) bs) →
        Bodies e p (b ∷ bs) (and_then x (λ _. judge_bodies e (p + length b.body) bs))
    go (accepted a) rest = later a rest
    go (refused number place r) rest = faulty [] b bs refl none number place (p + place) r (omega arith)

-- the stored ones, by their places in the file
pub data Stored (e : ℕ) (bs : List Board) : Allowed → Type 0 where
  fine : Each (Accepts e) bs → Stored e bs allowed
  faulty : (number place : ℕ) → FirstRefused e bs number place → Stored e bs (denied (refusal number place))

pub stored : (form e : ℕ) (bs : List Board) → Stored e bs (judge_stored form e bs)
stored form e bs = go (judged e (8 + 8 * length bs) bs)
  where
    go : {x : Allowed} → Bodies e (8 + 8 * length bs) bs x → Stored e bs x
    go (Bodies.fine ps) = fine ps
    go (Bodies.faulty before b after is ps number place at r on) =
        let x : FirstRefused e bs number at = rw (on, is) (first before b after number place ps r) in
        faulty number at x
