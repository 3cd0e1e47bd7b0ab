-- The calls by what opening the file and judging its bodies give.
-- Assumes nothing.
use Prim.Native.Nat.{ℕ, zero, suc, ◌+◌, ◌*◌, ◌≤◌, ◌<◌}
use mathlib.Core.Path.{◌≡◌, refl, ap, ap₂, sym, ◌∙◌}
use mathlib.Core.List.{List, [], ◌∷◌, ◌++◌, append-nil}
use native.Mathlib.Omega.{arith}
use lib.ListN.{length, get_or}
use borrow.Author.Tests.{lt-ltb}
use Rattle.std.specs.Prelude.{Ok, Err}
use Rattle.layout.specs.declared.Refusal.{Refusal}
use Rattle.layout.specs.Bytes.{part_at, refusal}
use Rattle.layout.specs.Calls.{check_image}
use Rattle.layout.specs.Change.{Allowed, allowed, denied}
use Rattle.layout.specs.Write.{refuse, put_bytes}
use Rattle.rooms.specs.File.{Board, board, one, two, four, row_of, rows_of, bodies_of, file_of}
use Rattle.rooms.specs.Grammar.{IsFile}
use Rattle.rooms.specs.Calls.{present, absent, and_then, body_allowed, judge_bodies, judge_stored, Opened, has, has_not, open_room, below, above, changed, change_asks, change_allowed, change_opened, change_room, body_at, fetch_allowed, fetch_opened, fetch_board}
use Rattle.room_calls.specs.declared.Tally.{Tally}
use Rattle.room_calls.specs.Boards.{own, found_by, judged_by, boards_at, Stored}
use Rattle.room_calls.specs.Laying.{rows_gone, laid, Lies}
use Rattle.rooms.proofs.Reading.{read_is}
use Rattle.room_calls.proofs.Boards.{There, isnt, is, there, splits, body-at}
use Rattle.room_calls.proofs.Judging.{fine-allowed, faulty-denied}
use Rattle.room_calls.proofs.Laying.{tally-lies, laid-is}
use Rattle.room_calls.proofs.Opening.{Opens}

-- ---- a file that is not opened

not_opened : (x : Opened) (n : ℕ) (r : Refusal) → found_by x n ≡ Err r → x ≡ has_not r
not_opened (has bs) n r q = let z : ◌≡◌ {A = ℕ} 0 1 = cc in absurd (omega arith)
not_opened (has_not s) n r q = let same : s ≡ r = cc in ap has_not same

module _ (form e : ℕ) (file : List ℕ) (n : ℕ) where
  pub change-closed : (asks : ℕ → List Board → Allowed) (new : List Board) (out : List ℕ) (r : Refusal) → found_by (open_room form e file (length out)) n ≡ Err r →
      change_room asks form e file n new out ≡ refuse r out
  unfolding change_room
  change-closed asks new out r q = ap (λ (x : Opened). change_opened x asks form e n new out) (not_opened (open_room form e file (length out)) n r q)

  pub fetch-closed : (r : Refusal) → found_by (open_room form e file 0) n ≡ Err r → Err r ≡ fetch_board form e file n
  unfolding fetch_board
  fetch-closed r q = sym (ap (λ (x : Opened). fetch_opened x form e n) (not_opened (open_room form e file 0) n r q))

-- ---- one that is

module _ {form e : ℕ} {file : List ℕ} {lent : ℕ} {t : Tally} {wanted : ℕ} (w : Opens form e file lent t wanted) where
  module _ (asks : ℕ → List Board → Allowed) (new : List Board) (out : List ℕ) (long : length out ≡ lent) where
    change-opened : change_room asks form e file wanted new out ≡ change_allowed (change_asks asks form e wanted new (boards_at t.count file)) form (changed wanted new (boards_at t.count file)) out
    unfolding change_room
    change-opened = ap (λ (x : Opened). change_opened x asks form e wanted new out) (ap (open_room form e file) long ∙ w.opens)

    pub change-denied : {r : Refusal} → asks wanted (boards_at t.count file) ≡ denied r → change_room asks form e file wanted new out ≡ refuse r out
    change-denied q = change-opened ∙ rw q

    pub change-asked : asks wanted (boards_at t.count file) ≡ allowed →
        change_room asks form e file wanted new out
        ≡ change_allowed (and_then (judge_stored form e (boards_at t.count file)) (λ _. judge_bodies e 0 new)) form (changed wanted new (boards_at t.count file)) out
    change-asked q = change-opened ∙ rw q

pub positive : (k : ℕ) → (k ≡ 0 → ⊥) → 0 < k
positive zero some = absurd (some refl)
positive (suc k) some = omega arith

one-body : (b : Board) → bodies_of (b ∷ []) ≡ b.body
unfolding bodies_of
one-body b = append-nil b.body

no_body : length (bodies_of []) ≡ 0
unfolding bodies_of
no_body = refl

-- a body that goes takes its row with it
gone-is : {n : ℕ} {bs : List Board} → There n bs → rows_gone (length (bodies_of (own n bs))) ≡ length (own n bs)
gone-is (isnt o p a) = rw (o, no_body)
gone-is (is b o some p a) = rw (o, one-body b, lt-ltb 0 (length b.body) some)

lies-as : {size size' : ℕ} {t t' : Tally} → size ≡ size' → t ≡ t' → Lies size' t' → Lies size t
lies-as p q l = rw (p, q) l

laid_as : (form : ℕ) {file file' : List ℕ} {t t' : Tally} (row body : List ℕ) → file ≡ file' → t ≡ t' → laid form file t row body ≡ laid form file' t' row body
laid_as form row body p q = rw (p, q)

module _ {form : ℕ} {file : List ℕ} {t : Tally} {wanted : ℕ} (w : Stored form file t wanted) (bytes : (i : ℕ) → get_or file i 0 < 256) where
  is-file : IsFile form file (boards_at t.count file)
  is-file = read_is form file (boards_at t.count file) bytes w.right

  count : t.count ≡ length (boards_at t.count file)
  count = ap (λ (x : Tally). x.count) w.tally

  its : t.own ≡ length (bodies_of (own wanted (boards_at t.count file)))
  its = ap (λ (x : Tally). x.own) w.tally

  view : There wanted (boards_at t.count file)
  view = there wanted is-file.holdable.storable

  split : boards_at t.count file ≡ below wanted (boards_at t.count file) ++ (own wanted (boards_at t.count file) ++ above wanted (boards_at t.count file))
  split = splits wanted is-file.holdable.rising

  pub lies : Lies (length file) t
  lies = lies-as (ap length is-file.is) w.tally (tally-lies form (boards_at t.count file) wanted split (gone-is view))

  laid-new : (new : List Board) → laid form file t (rows_of new) (bodies_of new) ≡ file_of form (changed wanted new (boards_at t.count file))
  laid-new new = laid_as form (rows_of new) (bodies_of new) is-file.is w.tally ∙ laid-is form (boards_at t.count file) wanted split (gone-is view) new

  -- 22 or 23
  pub missing : t.own ≤ 0 → (present wanted (boards_at t.count file) ≡ denied (refusal 22 0)) × (absent wanted (boards_at t.count file) ≡ allowed)
  missing le = go view
    where
      go : There wanted (boards_at t.count file) → (present wanted (boards_at t.count file) ≡ denied (refusal 22 0)) × (absent wanted (boards_at t.count file) ≡ allowed)
      go (isnt o p a) = (p, a)
      go (is b o some p a) = absurd (omega (arith, its, ap (λ (x : List Board). length (bodies_of x)) o, ap length (one-body b)))

  pub record Given : Type 0 where
    pub present_is : present wanted (boards_at t.count file) ≡ allowed
    pub absent_not : absent wanted (boards_at t.count file) ≡ denied (refusal 23 0)
    pub body_there : body_at wanted (8 + 8 * length (boards_at t.count file)) (boards_at t.count file) ≡ Ok (part_at (8 + 8 * t.count + t.below) t.own)

  pub given : 0 < t.own → Given
  given lt = go view
    where
      go : There wanted (boards_at t.count file) → Given
      go (isnt o p a) = absurd (omega (arith, its, ap (λ (x : List Board). length (bodies_of x)) o, no_body))
      go (is b o some p a) =
          record {
            present_is = p;
            absent_not = a;
            body_there =
                body-at wanted (8 + 8 * length (boards_at t.count file)) is-file.holdable.rising b o
                ∙ sym (ap₂ (λ (x y : ℕ). Ok (part_at x y)) (ap₂ (λ (x y : ℕ). 8 + 8 * x + y) count (ap (λ (x : Tally). x.below) w.tally)) its);
          }

  -- the stored bodies, where the first stands
  module _ (e : ℕ) where
    stored-as : judge_bodies e (8 + 8 * t.count) (boards_at t.count file) ≡ judge_stored form e (boards_at t.count file)
    stored-as = ap (λ (k : ℕ). judge_bodies e (8 + 8 * k) (boards_at t.count file)) count

    pub stored-fine : (Ok tt) ≡ judged_by (judge_bodies e (8 + 8 * t.count) (boards_at t.count file)) → judge_stored form e (boards_at t.count file) ≡ allowed
    stored-fine q = sym stored-as ∙ fine-allowed (judge_bodies e (8 + 8 * t.count) (boards_at t.count file)) q

    pub stored-faulty : {r : Refusal} → Err r ≡ judged_by (judge_bodies e (8 + 8 * t.count) (boards_at t.count file)) → judge_stored form e (boards_at t.count file) ≡ denied r
    stored-faulty {r} q = sym stored-as ∙ faulty-denied (judge_bodies e (8 + 8 * t.count) (boards_at t.count file)) r q

    module _ (new : List Board) (out : List ℕ) where
      pub change-stored : {r : Refusal} → Err r ≡ judged_by (judge_bodies e (8 + 8 * t.count) (boards_at t.count file)) →
          change_allowed (and_then (judge_stored form e (boards_at t.count file)) (λ _. judge_bodies e 0 new)) form (changed wanted new (boards_at t.count file)) out ≡ refuse r out
      change-stored q = rw (stored-faulty q)

      module _ (fine : (Ok tt) ≡ judged_by (judge_bodies e (8 + 8 * t.count) (boards_at t.count file))) where
        pub change-new : {r : Refusal} → judge_bodies e 0 new ≡ denied r →
            change_allowed (and_then (judge_stored form e (boards_at t.count file)) (λ _. judge_bodies e 0 new)) form (changed wanted new (boards_at t.count file)) out ≡ refuse r out
        change-new q = rw (stored-fine fine, q)

        pub change-put : judge_bodies e 0 new ≡ allowed → {row body : List ℕ} → rows_of new ≡ row → bodies_of new ≡ body →
            change_allowed (and_then (judge_stored form e (boards_at t.count file)) (λ _. judge_bodies e 0 new)) form (changed wanted new (boards_at t.count file)) out ≡ put_bytes (laid form file t row body) out
        change-put q r b = rw (stored-fine fine, q, ← r, ← b, laid-new new)

-- ---- the new body

module _ (e number f : ℕ) (body : List ℕ) where
  pub new-fine : (Ok tt) ≡ judged_by (body_allowed (check_image f e body) 0) → judge_bodies e 0 (board number f body ∷ []) ≡ allowed
  unfolding judge_bodies
  new-fine q = rw (fine-allowed (body_allowed (check_image f e body) 0) q)

  pub new-faulty : {r : Refusal} → Err r ≡ judged_by (body_allowed (check_image f e body) 0) → judge_bodies e 0 (board number f body ∷ []) ≡ denied r
  unfolding judge_bodies
  new-faulty {r} q = rw (faulty-denied (body_allowed (check_image f e body) 0) r q)

  pub new_row : rows_of (board number f body ∷ []) ≡ four number ++ (one f ++ (0 ∷ two (length body)))
  unfolding rows_of row_of
  new_row = refl

  pub new-body : bodies_of (board number f body ∷ []) ≡ body
  new-body = one-body (board number f body)

-- none
pub none-fine : (e : ℕ) → judge_bodies e 0 [] ≡ allowed
unfolding judge_bodies
none-fine e = refl

pub none_row : rows_of [] ≡ []
unfolding rows_of
none_row = refl

pub none-body : bodies_of [] ≡ []
unfolding bodies_of
none-body = refl

-- ---- fetch

module _ {form e : ℕ} {file : List ℕ} {t : Tally} {wanted : ℕ} (w : Opens form e file 0 t wanted) (bytes : (i : ℕ) → get_or file i 0 < 256) where
  fetch-opened : fetch_board form e file wanted
      ≡ fetch_allowed (and_then (present wanted (boards_at t.count file)) (λ _. judge_stored form e (boards_at t.count file))) (body_at wanted (8 + 8 * length (boards_at t.count file)) (boards_at t.count file))
  unfolding fetch_board
  fetch-opened = ap (λ (x : Opened). fetch_opened x form e wanted) w.opens

  pub fetch-missing : t.own ≤ 0 → Err (refusal 22 0) ≡ fetch_board form e file wanted
  fetch-missing le = sym (fetch-opened ∙ rw (missing w.stored bytes le).0)

  module _ (lt : 0 < t.own) where
    pub fetch-stored : {r : Refusal} → Err r ≡ judged_by (judge_bodies e (8 + 8 * t.count) (boards_at t.count file)) → Err r ≡ fetch_board form e file wanted
    fetch-stored q = sym (fetch-opened ∙ rw ((given w.stored bytes lt).present_is, stored-faulty w.stored bytes e q))

    pub fetch-given : (Ok tt) ≡ judged_by (judge_bodies e (8 + 8 * t.count) (boards_at t.count file)) → Ok (part_at (8 + 8 * t.count + t.below) t.own) ≡ fetch_board form e file wanted
    fetch-given q = sym (fetch-opened ∙ rw ((given w.stored bytes lt).present_is, stored-fine w.stored bytes e q) (given w.stored bytes lt).body_there)
