-- What a removal puts out, and what it tells of an accepted image.
-- Assumes nothing.
use Prim.Native.Nat.{ℕ, zero, suc, ◌+◌, ◌≤◌}
use mathlib.Core.Path.{◌≡◌, refl, ap, sym, ◌∙◌}
use mathlib.Core.List.{List, [], ◌∷◌, map}
use mathlib.Core.Bool.{Bool, true, false}
use mathlib.Core.Logic.{◌⊎◌, inl, inr}
use native.Mathlib.Omega.{arith}
use lib.ListN.{length, length-append}
use Rattle.layout.specs.declared.Format.{Format}
use Rattle.layout.specs.declared.Entry.{Entry}
use Rattle.layout.specs.Bytes.{if, one_of, refusal}
use Rattle.layout.specs.Shape.{Shape}
use Rattle.layout.specs.Editions.{shape, names}
use Rattle.layout.specs.Walk.{Raw, content, flat}
use Rattle.layout.specs.Calls.{entry_of, entries_of}
use Rattle.layout.specs.Read.{limit}
use Rattle.layout.specs.Write.{put, told_made}
use Rattle.layout.specs.Change.{laid, laid_out, Allowed, allowed, denied, may_change, in_place, change_allowed}
use Rattle.layout.specs.Remove.{remove_asks, removal}
use Rattle.laws.specs.Grammar.{grammar}
use Rattle.layout.proofs.Choices.{false-true, either}
use Rattle.layout.proofs.Lists.{length-map}
use Rattle.laws.proofs.Frames.{raw-size}
use Rattle.laws.proofs.Walking.{Frames}
use Rattle.laws.proofs.Formats.{laws}
use Rattle.laws.proofs.Changing.{laid-flat}
use Rattle.laws.proofs.Removing.{Spare, may-removable}
use Rattle.laws.proofs.Calls.{Found, check-found}
use Rattle.promises.specs.Words.{Refuses, Item, here, there, tells_remove}
use Rattle.promises.specs.Names.{Named}
use Rattle.promises.specs.Written.{Fits}
use Rattle.promises.specs.RemoveRule.{RemovedFrom, removed_size, RemoveTold, missing, unnamed, needed, too_long, taken, RemoveRule}
use Rattle.promises.proofs.Telling.{chosen-serves, counts-accepted}
use Rattle.promises.proofs.Naming.{named-names, names-named}
use Rattle.promises.proofs.PublishedRules.{raw-entry}
use Rattle.promises.proofs.Listing.{list_of}
use Rattle.promises.proofs.Written.{image-size}
use Rattle.promises.proofs.Writing.{required-codes}
use Rattle.promises.proofs.Changes.{Done, remove-done}
use Rattle.promises.proofs.Accepted.{header-size, change-accepted, put-tells, put-either}
use Rattle.promises.proofs.Relaid.{relaid, Apart, apart}

-- ---- what is put out

removed : (f e : ℕ) (image : List ℕ) (i : ℕ) (out : List ℕ) (m : ℕ) → Done (removal i) f e image out m → RemovedFrom f e image i out m
unfolding removal laid content
removed f e image i out m d =
    let g = d.format in
    let S : Shape = shape g in
    let a : Apart (Spare S) S (grammar g) e false d.raws i (λ r. [])
    = apart (Spare S) S (grammar g) e (λ r. []) false d.raws i d.reading.made.frames (may-removable S e d.start d.raws i d.asked) in
    record {
      format = g;
      contents = map content a.past;
      counted = length-map content a.past ∙ a.counted;
      later = map content a.later;
      content = content a.raw;
      bytes = a.raw.bytes;
      entry = raw-entry (laws g) a.raw a.is_raw;
      named = names-named g e a.raw.frame.code (chosen-serves f e g d.reading.known).edition a.named;
      relaid = relaid (removal i) f e image out m d a.raw.frame.code a.past a.later a.raw.bytes [] a.frames_past a.frames_later a.was a.becomes;
    }

-- ---- what is asked of entry i, by the list

pub data AskedAt (ask : ℕ → ℕ → Allowed) (S : Shape) (e p : ℕ) (rs : List Raw) (i : ℕ) : Allowed → Type 0 where
  past : length rs ≤ i → AskedAt ask S e p rs i (denied (refusal 13 0))
  nameless : (y : Entry) → Item (entries_of S e p rs) i y → names S e y.code ≡ false → AskedAt ask S e p rs i (denied (refusal 14 y.place.0))
  asked : (y : Entry) → Item (entries_of S e p rs) i y → names S e y.code ≡ true → AskedAt ask S e p rs i (ask y.code y.place.0)

pub asked-at : (ask : ℕ → ℕ → Allowed) (S : Shape) (e p : ℕ) (rs : List Raw) (i : ℕ) → AskedAt ask S e p rs i (may_change ask S e p rs i)
unfolding may_change entries_of entry_of
asked-at ask S e p [] i = past (omega arith)
asked-at ask S e p (r ∷ rs) zero =
    either (AskedAt ask S e p (r ∷ rs) zero) (names S e r.frame.code) (λ n. asked (entry_of S e p r) here n) (λ n. nameless (entry_of S e p r) here n)
asked-at ask S e p (r ∷ rs) (suc i) = next (may_change ask S e (p + r.frame.size) rs i) (asked-at ask S e (p + r.frame.size) rs i)
  where
    next : (a : Allowed) → AskedAt ask S e (p + r.frame.size) rs i a → AskedAt ask S e p (r ∷ rs) (suc i) a
    next a (past le) = past (omega arith)
    next a (nameless y t n) = nameless y (there t) n
    next a (asked y t n) = asked y (there t) n

-- ---- how long the image becomes

item-size : (g : Format) (e p : ℕ) (b : Bool) (rs : List Raw) (i : ℕ) (y : Entry) → Frames (shape g) (grammar g) b rs → Item (entries_of (shape g) e p rs) i y →
    length (laid ((removal i).entries (shape g) rs)) + y.size ≡ length (flat rs)
unfolding entries_of entry_of removal in_place laid
item-size g e p b (r ∷ rs) zero y fs here = omega (arith, length-append r.bytes (flat rs), raw-size fs.1, ap length (laid-flat rs))
item-size g e p b (r ∷ rs) (suc i) y fs (there t) =
    let h = item-size g e (p + r.frame.size) ((shape g).last r.frame.code) rs i y fs.2 t in
    omega (arith, length-append r.bytes (flat rs), length-append r.bytes (laid ((removal i).entries (shape g) rs)))
item-size g e p b [] i y fs x'' = elim x'' [ ]

-- ---- what it tells

module _ (f e : ℕ) (image : List ℕ) (n : ℕ) (x : Found f e image n) (i : ℕ) (out : List ℕ) (short : length out ≤ limit) where
  abbrev g : Format
  g = x.format

  abbrev S : Shape
  S = shape g

  abbrev rs : List Raw
  rs = x.raws

  abbrev image' : List ℕ
  image' = laid_out S ((removal i).entries S rs)

  removed-size : (y : Entry) → Item (entries_of S e x.start rs) i y → length image' ≡ removed_size g (x.start + length (flat rs)) y
  removed-size y t =
      let m = x.reading.made in
      omega (arith, item-size g e x.start false rs i y m.frames t, m.starts, header-size g (length (flat rs)), image-size g (laid ((removal i).entries S rs)))

  told : (a : Allowed) → AskedAt (remove_asks S) S e x.start rs i a → RemoveTold f e image n (list_of f e image n x) i out (told_made (change_allowed a S ((removal i).entries S rs) out).answer)
  unfolding list_of
  told a (past le) = missing (omega (arith, x.count))
  told a (nameless y t un) = unnamed y t (λ named. false-true (sym un ∙ named-names g e y.code named))
  told a (asked y t na) = go (one_of S.required y.code) refl
    where
      named : Named g e y.code
      named = names-named g e y.code (chosen-serves f e g x.reading.known).edition na

      fitted : one_of S.required y.code ≡ false → Fits g (length image') out ⊎ ((Fits g (length image') out → ⊥) × Refuses (told_made (put S image' out).answer) 12 0) →
          RemoveTold f e image n (list_of f e image n x) i out (told_made (put S image' out).answer)
      fitted spare (inl fits) = taken y t named (rw (← required-codes g) spare) (rw (removed-size y t) at fits) (rw (removed-size y t) at (put-tells g image' out short fits))
      fitted spare (inr big) = rw big.1 (too_long y t named (rw (← required-codes g) spare) (λ fits. big.0 (rw (removed-size y t) fits)))

      go : (b : Bool) → one_of S.required y.code ≡ b →
          RemoveTold f e image n (list_of f e image n x) i out (told_made (change_allowed (if b (λ _. denied (refusal 11 0)) (λ _. allowed)) S ((removal i).entries S rs) out).answer)
      go true need = needed y t named (rw (← required-codes g) need)
      go false spare = fitted spare (put-either g image' out short)

  tells : RemoveTold f e image n (list_of f e image n x) i out (tells_remove f e image i out)
  unfolding removal
  tells = rw (change-accepted (removal i) f e image n x out short) (told (may_change (remove_asks S) S e x.start rs i) (asked-at (remove_asks S) S e x.start rs i))

pub remove-rule : RemoveRule
remove-rule =
    record {
      puts = λ f e image i out m q. removed f e image i out m (remove-done f e image i out m q);
      removes = λ f e image n q.
          let x = check-found f e image n (counts-accepted f e image n q) in
          record { list = list_of f e image n x; tells = λ i out short. tells f e image n x i out short };
    }
