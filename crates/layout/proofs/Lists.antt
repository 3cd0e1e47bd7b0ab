-- What is known of a list of bytes from tests of its bytes, of lists that are the same bytes, of lists that are joined item by item, and of each item of a list from its parts.
-- Assumes nothing.
use Prim.Native.Nat.{ℕ, suc, ◌<◌}
use mathlib.Core.Path.{◌≡◌, refl, ap, sym, ◌∙◌}
use mathlib.Core.List.{List, [], ◌∷◌, ◌++◌, append_assoc, map}
use mathlib.Core.Bool.{Bool, true, false}
use lib.ListN.{length, get_or, drop}
use lib.Seq.{drop-cons}
use lib.Dec.{eqb}
use borrow.Author.Tests.{eqb-true, eq-eqb}
use Rattle.layout.specs.Bytes.{if, same_bytes}
use Rattle.layout.specs.Each.{Each, none, also}
use Rattle.layout.proofs.Choices.{false-true}

-- A list goes on from a place with the byte that a test found there.
pub byte_at : (l : List ℕ) (j b : ℕ) → j < length l → eqb (get_or l j 0) b ≡ true → drop j l ≡ b ∷ drop (suc j) l
byte_at l j b h e = rw (drop-cons l j 0 h, eqb-true (get_or l j 0) b e)

-- A function that joins what it has for each item: for one list after another it gives what it gives for the two.
pub joined-append : {A B : Type 0} (h : List A → List B) (g : A → List B) → h [] ≡ [] → ((x : A) (xs : List A) → h (x ∷ xs) ≡ g x ++ h xs) →
    (xs ys : List A) → h (xs ++ ys) ≡ h xs ++ h ys
joined-append {B = B} h g nil one [] ys = ap (λ (l : List B). l ++ h ys) (sym nil)
joined-append {B = B} h g nil one (x ∷ xs) ys =
    one x (xs ++ ys) ∙ ap (λ (l : List B). g x ++ l) (joined-append h g nil one xs ys) ∙ sym (append_assoc (g x) (h xs) (h ys)) ∙ ap (λ (l : List B). l ++ h ys) (sym (one x xs))

pub length-map : {A B : Type 0} (f : A → B) (xs : List A) → length (map f xs) ≡ length xs
length-map f [] = refl
length-map f (x ∷ xs) = ap suc (length-map f xs)

-- ---- the same bytes

pub same_refl : (xs : List ℕ) → same_bytes xs xs ≡ true
unfolding same_bytes
same_refl [] = refl
same_refl (x ∷ xs) = rw (eq-eqb x x refl) (same_refl xs)

pub same_true : (xs ys : List ℕ) → same_bytes xs ys ≡ true → xs ≡ ys
unfolding same_bytes
same_true [] [] e = refl
same_true [] (y ∷ ys) e = false-true e
same_true (x ∷ xs) [] e = false-true e
same_true (x ∷ xs) (y ∷ ys) e = go (eqb x y) refl e (same_true xs ys)
  where
    go : (b : Bool) → eqb x y ≡ b → if b (λ _. same_bytes xs ys) (λ _. false) ≡ true → (same_bytes xs ys ≡ true → xs ≡ ys) → x ∷ xs ≡ y ∷ ys
    go true q e rest = let p = eqb-true x y q in let r = rest e in cc
    go false q e rest = false-true e

-- ---- what holds of each item

pub each_map : {A : Type 0} {P Q : A → Type 0} {xs : List A} → ((x : A) → P x → Q x) → Each P xs → Each Q xs
each_map f none = none
each_map f (also p ps) = also (f _ p) (each_map f ps)

pub each_both : {A : Type 0} {P Q R : A → Type 0} {xs : List A} → ((x : A) → P x → Q x → R x) → Each P xs → Each Q xs → Each R xs
each_both f none none = none
each_both f (also p ps) (also q qs) = also (f _ p q) (each_both f ps qs)

module _ {A : Type 0} {P : A → Type 0} where
  pub each-every : (xs : List A) → ((x : A) → P x) → Each P xs
  each-every [] f = none
  each-every (x ∷ xs) f = also (f x) (each-every xs f)

  pub each_first : {x : A} {xs : List A} → Each P (x ∷ xs) → P x
  each_first (also p ps) = p

  pub each-rest : {x : A} {xs : List A} → Each P (x ∷ xs) → Each P xs
  each-rest (also p ps) = ps

  pub each_left : (xs ys : List A) → Each P (xs ++ ys) → Each P xs
  each_left [] ys ps = none
  each_left (x ∷ xs) ys (also p ps) = also p (each_left xs ys ps)

  pub each_right : (xs ys : List A) → Each P (xs ++ ys) → Each P ys
  each_right [] ys ps = ps
  each_right (x ∷ xs) ys (also p ps) = each_right xs ys ps

  pub each_append : (xs ys : List A) → Each P xs → Each P ys → Each P (xs ++ ys)
  each_append [] ys none qs = qs
  each_append (x ∷ xs) ys (also p ps) qs = also p (each_append xs ys ps qs)
