-- The records of all entries, one after another along a pass over an image.
-- Assumes nothing.
use Prim.Native.Nat.{ℕ, ◌+◌, ◌-◌, ◌≤◌, ◌<◌}
use mathlib.Core.Path.{◌≡◌, refl, ap, sym, ◌∙◌}
use mathlib.Core.List.{List, [], ◌∷◌, ◌++◌, append_assoc, append-nil}
use mathlib.Core.Bool.{Bool, false}
use native.Mathlib.Omega.{arith}
use lib.ListN.{length, take, set, length-append, length-take}
use Rattle.std.proofs.lemmas.List.{take_all, take_more_set}
use Rattle.std.specs.Prelude.{Ok, Err, Some, None}
use Rattle.layout.specs.declared.Format.{Format}
use Rattle.layout.specs.declared.Entry.{Entry}
use Rattle.layout.specs.Answers.{Next}
use Rattle.layout.specs.Bytes.{part}
use Rattle.layout.specs.Shape.{next}
use Rattle.layout.specs.Editions.{shape}
use Rattle.layout.specs.Walk.{Raw}
use Rattle.layout.specs.Calls.{entry_of, entries_of}
use Rattle.laws.specs.Grammar.{grammar}
use Rattle.laws.specs.Passes.{walked, IsDone, raws_in}
use Rattle.laws.proofs.Formats.{laws}
use Rattle.laws.proofs.Frames.{raw_of}
use Rattle.laws.proofs.Records.{entries_none, entries-more}
use Rattle.laws.proofs.Passes.{Passing, pass-first, pass_on, pass-ends, pass-unbroken}
use Rattle.reader.specs.declared.Standing.{Standing}
use Rattle.reader.specs.Here.{here_by, here_at}

module _ (g : Format) (e : ℕ) (image : List ℕ) (start end : ℕ) where
  abbrev pub entries : List Entry
  entries = entries_of (shape g) e start (raws_in (walked g image start end))

  -- the first i records, and after them the entries from p on, are all entries
  pub record Filling (records : List Entry) (i p : ℕ) (shut : Bool) : Type 0 where
    pub pass : Passing (shape g) (grammar g) image end p shut
    pub joined : take i records ++ entries_of (shape g) e p pass.todo ≡ entries

  pub filling-starts : (records : List Entry) → IsDone (walked g image start end) → Filling records 0 start false
  filling-starts records w =
      let f = pass-first g image start end w in
      record { pass = f.pass; joined = ap (entries_of (shape g) e start) f.todo }

module _ {g : Format} {e : ℕ} {image : List ℕ} {start end : ℕ} {records : List Entry} {i p : ℕ} {shut : Bool} (w : Filling g e image start end records i p shut) where
  -- the entry that stands there is the next record
  pub filling-goes : (s : Standing) → i < length records → here_at (shape g) e image shut p end ≡ Some s → Filling g e image start end (set records i s.entry) (i + 1) s.next s.shut
  unfolding here_at
  filling-goes s lt q = go (next (shape g) shut (part p (end - p) image)) refl q
    where
      go : (x : Next) → next (shape g) shut (part p (end - p) image) ≡ x → here_by x (shape g) e p (part p (end - p) image) ≡ Some s → Filling g e image start end (set records i s.entry) (i + 1) s.next s.shut
      go (Ok (Some f)) n q =
          let x = pass_on (laws g) image end p shut f w.pass n in
          let entry = entry_of (shape g) e p (raw_of f (part p (end - p) image)) in
          let rest = entries_of (shape g) e (p + f.size) x.todo in
          let heads : entries_of (shape g) e p w.pass.todo ≡ entry ∷ rest =
          ap (entries_of (shape g) e p) x.heads
          ∙ entries-more (shape g) e p x.raw x.todo f x.frame
          ∙ ap (λ (y : Raw). entry_of (shape g) e p y ∷ rest) x.is_raw_of in
          let is : ◌≡◌ {A = Standing} (record { entry = entry; next = p + f.size; shut = (shape g).last f.code }) s = cc in
          rw (← is)
          (record {
            pass = x.on;
            joined =
                ap (λ (rs : List Raw). take (i + 1) (set records i entry) ++ entries_of (shape g) e (p + f.size) rs) x.todo_on
                ∙ ap (λ (l : List Entry). l ++ rest) (take_more_set records i entry lt)
                ∙ append_assoc (take i records) (entry ∷ []) rest
                ∙ ap (λ (l : List Entry). take i records ++ l) (sym heads)
                ∙ w.joined;
          })
      go (Ok None) n q = let z : ◌≡◌ {A = ℕ} 0 1 = cc in absurd (omega arith)
      go (Err k) n q = let z : ◌≡◌ {A = ℕ} 0 1 = cc in absurd (omega arith)

  -- where none stands, all are filled
  pub filling-over : here_at (shape g) e image shut p end ≡ None → length (entries g e image start end) ≤ i
  unfolding here_at
  filling-over q =
      let none : w.pass.todo ≡ [] = go (next (shape g) shut (part p (end - p) image)) refl q in
      let same : take i records ≡ entries g e image start end =
      sym (append-nil (take i records))
      ∙ ap (λ (l : List Entry). take i records ++ l) (sym (ap (entries_of (shape g) e p) none ∙ entries_none (shape g) e p))
      ∙ w.joined in
      omega (arith, ap length same, length-take i records)
    where
      go : (x : Next) → next (shape g) shut (part p (end - p) image) ≡ x → here_by x (shape g) e p (part p (end - p) image) ≡ None → w.pass.todo ≡ []
      go (Ok (Some f)) n q = let z : ◌≡◌ {A = ℕ} 0 1 = cc in absurd (omega arith)
      go (Ok None) n q = pass-ends (laws g) image end p shut w.pass n
      go (Err k) n q = absurd (pass-unbroken (laws g) image end p shut k w.pass n)

  no_length : (xs : List Entry) → length xs ≡ 0 → xs ≡ []
  no_length [] q = refl
  no_length (x ∷ xs) q = absurd (omega (arith, q))

  -- as many records as entries are all entries
  pub filling-full : length records ≡ length (entries g e image start end) → length records ≤ i → records ≡ entries g e image start end
  filling-full same le =
      let all : take i records ≡ records = take_all i records le in
      let rest = entries_of (shape g) e p w.pass.todo in
      let none : rest ≡ [] = no_length rest (omega (arith, ap length w.joined, length-append (take i records) rest, ap length all, same)) in
      sym all ∙ sym (append-nil (take i records)) ∙ ap (λ (l : List Entry). take i records ++ l) (sym none) ∙ w.joined
