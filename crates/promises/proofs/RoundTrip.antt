-- Promise 3 holds.
-- Assumes nothing.
use Prim.Native.Nat.{ℕ, ◌≤◌}
use mathlib.Core.Path.{◌≡◌, refl, ap₂, ◌∙◌}
use mathlib.Core.List.{List, [], ◌∷◌, map}
use mathlib.Core.Bool.{Bool, true, false}
use native.Mathlib.Omega.{arith}
use lib.ListN.{length, take}
use lib.Dec.{ltb}
use borrow.Author.Tests.{ltb-false, eqb-true, ne_eqb}
use Rattle.std.specs.Prelude.{Ok, Err}
use Rattle.layout.specs.declared.Format.{Format}
use Rattle.layout.specs.declared.Format.TheVariants.{Fboss, Vpd, Tiny, Onie}
use Rattle.layout.specs.declared.Field.{Field}
use Rattle.layout.specs.Answers.{Chosen}
use Rattle.layout.specs.Bytes.{if, refusal}
use Rattle.layout.specs.Shape.{Shape, Judged, fine, faulty}
use Rattle.layout.specs.Fboss.{fboss}
use Rattle.layout.specs.Vpd.{vpd}
use Rattle.layout.specs.Tiny.{tiny}
use Rattle.layout.specs.Onie.{onie}
use Rattle.layout.specs.Editions.{shape, chosen}
use Rattle.layout.specs.Walk.{Content, content}
use Rattle.layout.specs.Read.{limit, complete}
use Rattle.layout.specs.Write.{Outcome, refuse, judge_fields, contents_of, content_codes, entries_bytes, image_of, put, field_content, write_judged, write_as, write_chosen, write_image}
use Rattle.laws.proofs.Writing.{fresh, fresh-flat, fields-fine, fresh-frames}
use Rattle.laws.proofs.Formats.{laws}
use Rattle.laws.proofs.Calls.{Stands, one, two, three, four, chosen-stands}
use Rattle.promises.specs.Words.{Reads}
use Rattle.promises.specs.RoundTrip.{field_says, RoundTrip}
use Rattle.promises.proofs.Telling.{counts-written}
use Rattle.promises.proofs.Required.{said-codes}
use Rattle.promises.proofs.Output.{entries-shorter, Took, put-took, never-unwritten, took-reads}

-- ---- what a field says

pub field-said : (f : ℕ) (g : Format) (values : List ℕ) (x : Field) → Stands f g → field_content (shape g) values x ≡ field_says f values x
unfolding fboss vpd tiny onie
field-said f Fboss values x (one e) = rw (ne_eqb f 2 (λ q. let z = eqb-true f 1 e in omega arith))
field-said f Vpd values x (two e₁ e₂) = rw e₂
field-said f Tiny values x (three e₁ e₂ e₃) = rw e₂
field-said f Onie values x (four e₁ e₂ e₃ e₄) = rw e₂

pub fields-said : (f : ℕ) (g : Format) (values : List ℕ) (xs : List Field) → Stands f g → contents_of (shape g) values xs ≡ map (field_says f values) xs
fields-said f g values [] s = refl
fields-said f g values (x ∷ xs) s = ap₂ (λ (y : Content) (ys : List Content). y ∷ ys) (field-said f g values x s) (fields-said f g values xs s)

-- ---- a write that is not refused

pub record Done (f e : ℕ) (xs : List Field) (values out : List ℕ) (n : ℕ) : Type 0 where
  pub format : Format
  pub known : chosen f e ≡ Ok format
  pub short : length out ≤ limit
  pub judged : judge_fields (shape format) e values false [] xs 0 ≡ fine
  pub required : complete (shape format).required (content_codes (contents_of (shape format) values xs)) ≡ true
  pub took : Took (shape format) (image_of (shape format) (entries_bytes (shape format) (contents_of (shape format) values xs))) out n (write_image f e xs values out).memory

pub write_done : (f e : ℕ) (xs : List Field) (values out : List ℕ) (n : ℕ) → (write_image f e xs values out).answer ≡ Ok n → Done f e xs values out n
unfolding write_image write_as
write_done f e xs values out n q = choose (chosen f e) refl q
  where
    required : (g : Format) (b : Bool) → chosen f e ≡ Ok g → ltb limit (length out) ≡ false → judge_fields (shape g) e values false [] xs 0 ≡ fine →
        complete (shape g).required (content_codes (contents_of (shape g) values xs)) ≡ b →
        (if {A = Outcome} b (λ _. put (shape g) (image_of (shape g) (entries_bytes (shape g) (contents_of (shape g) values xs))) out) (λ _. refuse (refusal 11 0) out)).answer ≡ Ok n →
        Done f e xs values out n
    required g true k l j c q =
        record {
          format = g;
          known = k;
          short = ltb-false limit (length out) l;
          judged = j;
          required = c;
          took = rw (k, l, j, c) (put-took (shape g) (image_of (shape g) (entries_bytes (shape g) (contents_of (shape g) values xs))) out n q);
        }
    required g false k l j c q = never-unwritten q

    judged : (g : Format) (j : Judged) → chosen f e ≡ Ok g → ltb limit (length out) ≡ false → judge_fields (shape g) e values false [] xs 0 ≡ j →
        (write_judged j (shape g) (contents_of (shape g) values xs) out).answer ≡ Ok n → Done f e xs values out n
    judged g fine k l j q = required g (complete (shape g).required (content_codes (contents_of (shape g) values xs))) k l j refl q
    judged g (faulty m i) k l j q = never-unwritten q

    bounded : (g : Format) (b : Bool) → chosen f e ≡ Ok g → ltb limit (length out) ≡ b →
        (if {A = Outcome} b (λ _. refuse (refusal 2 0) out) (λ _. write_as g e xs values out)).answer ≡ Ok n → Done f e xs values out n
    bounded g true k l q = never-unwritten q
    bounded g false k l q = judged g (judge_fields (shape g) e values false [] xs 0) k l refl q

    choose : (x : Chosen) → chosen f e ≡ x → (write_chosen x e xs values out).answer ≡ Ok n → Done f e xs values out n
    choose (Ok g) k q = bounded g (ltb limit (length out)) k refl q
    choose (Err m) k q = never-unwritten q

-- the bytes of the entries are no more than an image's
pub done-short : {f e : ℕ} {xs : List Field} {values out : List ℕ} {n : ℕ} (d : Done f e xs values out n) →
    length (entries_bytes (shape d.format) (contents_of (shape d.format) values xs)) ≤ limit
done-short {xs} {values} d =
    let S : Shape = shape d.format in
    omega (arith, entries-shorter S (entries_bytes S (contents_of S values xs)), d.took.fits, d.short)

done-reads : (f e : ℕ) (xs : List Field) (values out : List ℕ) (n : ℕ) → Done f e xs values out n →
    Reads f e (write_image f e xs values out).memory (map (field_says f values) xs) × Reads f e (take n (write_image f e xs values out).memory) (map (field_says f values) xs)
done-reads f e xs values out n d =
    let g = d.format in
    let S : Shape = shape g in
    let cs : List Content = contents_of S values xs in
    let fine = fields-fine (laws g) e values false [] xs 0 d.judged in
    let made = fresh-frames (laws g) e false cs fine.0 (done-short d) in
    let took = rw (← fresh-flat S cs) at d.took in
    let said : map content (map (fresh S) cs) ≡ map (field_says f values) xs = made.1 ∙ fields-said f g values xs (chosen-stands f e g d.known).0 in
    rw (← said)
    (took-reads f e g (map (fresh S) cs) out n (write_image f e xs values out).memory d.known made.0 (rw made.1 fine.1) (rw (← said-codes (map (fresh S) cs), made.1) d.required) d.short took)

pub round_trip : RoundTrip
round_trip f e xs values out n q = done-reads f e xs values out n (write_done f e xs values out n (counts-written f e xs values out n q))
