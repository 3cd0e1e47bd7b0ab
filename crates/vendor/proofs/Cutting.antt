-- Piece lengths along lent bytes, and a payload that is cut into such pieces.
-- Assumes nothing.
use Prim.Native.Nat.{ℕ, zero, suc, ◌+◌, ◌-◌, ◌/◌, ◌≤◌, ◌<◌}
use mathlib.Core.Path.{◌≡◌, refl, ap, ap₂, sym, ◌∙◌}
use mathlib.Core.List.{List, [], ◌∷◌, ◌++◌, map, append_assoc}
use mathlib.Core.Bool.{Bool, true, false, ◌&&◌}
use native.Mathlib.Omega.{arith}
use lib.ListN.{length, get_or, take, drop, length-append, length-drop, length-map, drop_of_length-le}
use lib.Seq.{get_or-take, drop-cons}
use lib.Dec.{leb, ltb}
use borrow.Author.Tests.{le-leb, lt-leb, eq-eqb, ne_eqb, ltb-true, ltb-false}
use Rattle.std.specs.Prelude.{Some, None}
use Rattle.std.specs.Int.{w32, from_le_bytes}
use Rattle.std.specs.Simd.{first_chunks}
use Rattle.layout.specs.Bytes.{if, all}
use Rattle.layout.specs.Write.{word, items}
use Rattle.fields.proofs.Lists.{items-none, items_more}
use Rattle.output.specs.Placing.{copied}
use Rattle.output.proofs.Overlay.{copied-nil, copied-then, length-copied}
use Rattle.blocks.specs.Payload.{prefix, cut_into, sum}
use Rattle.blocks.specs.Vendor.{pieces_in}
use Rattle.vendor.specs.Pieces.{counted_by}

-- ---- piece lengths, four bytes for each

-- the number that four bytes say, as they are read
abbrev pub said : List ℕ → ℕ
said x = from_le_bytes w32 x

said-word : (x : List ℕ) → word 0 x ≡ said x
said-word x = omega arith

-- the lengths that chunks of four bytes say
abbrev pub sizes : List (List ℕ) → List ℕ
sizes xs = map (word 0) xs

chunked : (n : ℕ) (s : List ℕ) → length s ≤ n → items 4 (word 0) n s ≡ sizes (first_chunks 4 (length s / 4) s)
chunked zero s le = let e : length s / 4 ≡ 0 = omega arith in rw e (items-none 4 (word 0) zero s (omega arith))
chunked (suc n) s le = go (ltb (length s) 4) refl (chunked n (drop 4 s))
  where
    go : (t : Bool) → ltb (length s) 4 ≡ t → (length (drop 4 s) ≤ n → items 4 (word 0) n (drop 4 s) ≡ sizes (first_chunks 4 (length (drop 4 s) / 4) (drop 4 s))) →
        items 4 (word 0) (suc n) s ≡ sizes (first_chunks 4 (length s / 4) s)
    go true e rest =
        let lt : length s < 4 = ltb-true (length s) 4 e in
        let none : length s / 4 ≡ 0 = omega arith in
        rw none (items-none 4 (word 0) (suc n) s lt)
    go false e rest =
        let long : 4 ≤ length s = ltb-false (length s) 4 e in
        let l : length (drop 4 s) ≡ length s - 4 = length-drop 4 s in
        let one : length s / 4 ≡ suc (length (drop 4 s) / 4) = omega arith in
        let same : word 0 (take 4 s) ≡ word 0 s =
        simp (get_or-take 4 s 0 0 (omega arith), get_or-take 4 s 1 0 (omega arith), get_or-take 4 s 2 0 (omega arith), get_or-take 4 s 3 0 (omega arith)) in
        rw one (items_more 4 (word 0) n s long ∙ ap₂ (λ (x : ℕ) (xs : List ℕ). x ∷ xs) (sym same) (rest (omega arith)))

pub pieces-chunked : (s : List ℕ) {xs : List (List ℕ)} → xs ≡ first_chunks 4 (length s / 4) s → pieces_in s ≡ sizes xs
unfolding pieces_in
pieces-chunked s e = chunked (length s) s (omega arith) ∙ ap sizes (sym e)

-- the lengths from chunk i on
abbrev left_in : List (List ℕ) → ℕ → List ℕ
left_in xs i = sizes (drop i xs)

left-none : (xs : List (List ℕ)) (i : ℕ) → length xs ≤ i → left_in xs i ≡ []
left-none xs i le = ap sizes (drop_of_length-le xs le)

left-more : (xs : List (List ℕ)) (i : ℕ) {size : ℕ} → i < length xs → size ≡ said (get_or xs i []) → left_in xs i ≡ size ∷ left_in xs (i + 1)
left-more xs i lt is =
    let e : suc i ≡ i + 1 = omega arith in
    ap sizes (drop-cons xs i [] lt) ∙ ap₂ (λ (x k : ℕ). x ∷ left_in xs k) (said-word (get_or xs i []) ∙ sym is) e

-- ---- counting

abbrev small : ℕ → Bool
small n = leb n 250

-- the lengths before chunk i are small, and leave so much of the need
pub record Counting (xs : List (List ℕ)) (need i left : ℕ) : Type 0 where
  pub smalls : all small (sizes xs) ≡ all small (left_in xs i)
  pub spent : sum (sizes xs) + left ≡ need + sum (left_in xs i)

pub counting-starts : (xs : List (List ℕ)) (need : ℕ) → Counting xs need 0 need
counting-starts xs need = record { smalls = refl; spent = omega arith }

module _ {xs : List (List ℕ)} {need i left : ℕ} (w : Counting xs need i left) where
  module _ {size : ℕ} (lt : i < length xs) (is : size ≡ said (get_or xs i [])) where
    more : left_in xs i ≡ size ∷ left_in xs (i + 1)
    more = left-more xs i lt is

    pub counting-on : size ≤ 250 → size ≤ left → Counting xs need (i + 1) (left - size)
    unfolding all
    counting-on ok fits =
        record {
          smalls = w.smalls ∙ rw (more, le-leb size 250 ok);
          spent = omega (arith, w.spent, ap sum more);
        }

    pub counting-large : 250 < size → None ≡ counted_by (sizes xs) need
    unfolding all
    counting-large gt = rw (w.smalls, more, lt-leb size 250 gt)

    pub counting-beyond : left < size → None ≡ counted_by (sizes xs) need
    counting-beyond gt = rw (ne_eqb (sum (sizes xs)) need (λ e. omega (arith, w.spent, ap sum more))) (no (all small (sizes xs)))
      where
        no : (b : Bool) → None ≡ if (b && false) (λ _. Some (length (sizes xs))) (λ _. None)
        no true = refl
        no false = refl

  module _ (none : length xs ≤ i) where
    all-small : all small (sizes xs) ≡ true
    unfolding all
    all-small = w.smalls ∙ ap (all small) (left-none xs i none)

    pub counting-short : (left ≡ 0 → ⊥) → None ≡ counted_by (sizes xs) need
    counting-short some = rw (all-small, ne_eqb (sum (sizes xs)) need (λ e. some (omega (arith, w.spent, ap sum (left-none xs i none)))))

    pub counting-right : left ≡ 0 → Some (length xs) ≡ counted_by (sizes xs) need
    counting-right done = rw (all-small, eq-eqb (sum (sizes xs)) need (omega (arith, w.spent, ap sum (left-none xs i none))), length-map xs (word 0))

-- ---- cutting

-- what is left to be written, from chunk i on: where it goes, it comes to all that is to be written
pub record Putting (xs : List (List ℕ)) (whole out rest : List ℕ) (i to : ℕ) : Type 0 where
  pub total : sum (left_in xs i) ≡ length rest
  pub fits : to + length (cut_into (left_in xs i) rest) ≤ length out
  pub is : copied out to (cut_into (left_in xs i) rest) ≡ whole

pub putting-starts : (xs : List (List ℕ)) (out payload : List ℕ) → sum (sizes xs) ≡ length payload → length (cut_into (sizes xs) payload) ≤ length out →
    Putting xs (copied out 0 (cut_into (sizes xs) payload)) out payload 0 0
putting-starts xs out payload total fits = record { total = total; fits = omega arith; is = refl }

module _ {xs : List (List ℕ)} {whole out rest : List ℕ} {i to : ℕ} (w : Putting xs whole out rest i to) where
  module _ {n : ℕ} (lt : i < length xs) (is-n : n ≡ said (get_or xs i [])) where
    onward : left_in xs i ≡ n ∷ left_in xs (i + 1)
    onward = left-more xs i lt is-n

    pub putting-sum : n ≤ length rest
    putting-sum = omega (arith, w.total, ap sum onward)

    module _ {piece others : List ℕ} (is-piece : piece ≡ take n rest) (is-others : others ≡ drop n rest) where
      abbrev after : List ℕ
      after = cut_into (left_in xs (i + 1)) others

      cut : cut_into (left_in xs i) rest ≡ (prefix ++ piece) ++ after
      unfolding cut_into
      cut =
          let later : List ℕ = left_in xs (i + 1) in
          ap (λ (l : List ℕ). cut_into l rest) onward
          ∙ sym (append_assoc prefix (take n rest) (cut_into later (drop n rest)))
          ∙ ap₂ (λ (p o : List ℕ). (prefix ++ p) ++ cut_into later o) (sym is-piece) (sym is-others)

      pub putting-room : to + (5 + length piece) ≤ length out
      putting-room = omega (arith, w.fits, ap length cut, length-append (prefix ++ piece) after)

      pub putting-on : {out' : List ℕ} → out' ≡ copied out to (prefix ++ piece) → Putting xs whole out' others (i + 1) (to + (5 + length piece))
      putting-on {out'} q =
          let place : to + (5 + length piece) ≡ to + length (prefix ++ piece) = omega arith in
          let fits : to + length ((prefix ++ piece) ++ after) ≤ length out = omega (arith, w.fits, ap length cut) in
          record {
            total = omega (arith, w.total, ap sum onward, ap length is-others, length-drop n rest);
            fits = omega (arith, fits, length-append (prefix ++ piece) after, ap length q, length-copied out to (prefix ++ piece));
            is = copied-then out to (prefix ++ piece) after q refl fits place ∙ ap (copied out to) (sym cut) ∙ w.is;
          }

  pub putting-over : length xs ≤ i → out ≡ whole
  unfolding cut_into
  putting-over none = sym (copied-nil out to) ∙ ap (copied out to) (sym (ap (λ (l : List ℕ). cut_into l rest) (left-none xs i none))) ∙ w.is
