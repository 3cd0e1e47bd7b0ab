-- Promise 2 holds.
-- Assumes nothing.
use Prim.Native.Nat.{ℕ, zero, suc, ◌+◌, ◌-◌, ◌<◌}
use mathlib.Core.Path.{◌≡◌, refl, ap, sym, ◌∙◌}
use mathlib.Core.List.{List, [], ◌∷◌, ◌++◌, append_assoc}
use mathlib.Core.Bool.{Bool, false}
use mathlib.Core.Logic.{inl, inr}
use native.Mathlib.Nat.{add-zero}
use native.Mathlib.Omega.{arith}
use lib.ListN.{length, get_or, take, drop, length-append}
use lib.Seq.{take_at, drop_at, get_or-append-add}
use Rattle.crc.specs.Crc.{check8_of}
use Rattle.layout.specs.declared.Format.{Format}
use Rattle.layout.specs.declared.Field.{Field}
use Rattle.layout.specs.declared.Format.TheVariants.{Fboss, Vpd, Tiny, Onie}
use Rattle.layout.specs.Bytes.{part, part_at}
use Rattle.layout.specs.Shape.{Shape}
use Rattle.layout.specs.Fboss.{fboss}
use Rattle.layout.specs.Vpd.{vpd}
use Rattle.layout.specs.Tiny.{tiny}
use Rattle.layout.specs.Onie.{onie}
use Rattle.layout.specs.Editions.{shape}
use Rattle.layout.specs.Walk.{Raw, Content, flat}
use Rattle.layout.specs.Add.{may_add, addition}
use Rattle.layout.specs.Calls.{Told, key_part, entry_of, entries_of}
use Rattle.laws.specs.Contents.{said, replaced, without}
use Rattle.layout.specs.Each.{Each, none, also}
use Rattle.laws.specs.Grammar.{grammar}
use Rattle.laws.proofs.Frames.{IsRaw, raw-size, part-between}
use Rattle.layout.proofs.Lists.{length-map}
use Rattle.laws.proofs.Walking.{Frames}
use Rattle.laws.proofs.Records.{entry-said, records-tile, entries-count}
use Rattle.laws.proofs.Formats.{laws}
use Rattle.laws.proofs.Changing.{never-denied}
use Rattle.laws.proofs.Calls.{Found, check-found}
use Rattle.promises.specs.Listing.{Tile, EndByte, EndsAt, ListOf, Listing, ListedAfter, ListingAfterChanges}
use Rattle.promises.specs.Words.{Counts, Reads, tells_check, adds}
use Rattle.promises.specs.OlderChanges.{Kept, Added, last, before_pool}
use Rattle.promises.proofs.Telling.{chosen-serves, counts-accepted}
use Rattle.promises.proofs.Accepting.{lists}
use Rattle.promises.proofs.PublishedRules.{raw-entry}
use Rattle.promises.proofs.Changes.{add_done}
use Rattle.promises.proofs.OlderChanges.{older-edits, older-adds, older-removes}

-- ---- tiles

module _ (g : Format) (e p : ℕ) (r : Raw) where
  -- without keys a record's key is empty at its value's place
  keyless-at : (g ≡ Vpd → ⊥) → (entry_of (shape g) e p r).key ≡ part_at (entry_of (shape g) e p r).value.place.0 0
  unfolding entry_of fboss tiny onie
  keyless-at other = at g other
    where
      at : (h : Format) → (h ≡ Vpd → ⊥) → key_part (shape h).keyed p r ≡ part_at (p + r.frame.val) 0
      at Fboss other = refl
      at Vpd other = absurd (other refl)
      at Tiny other = refl
      at Onie other = refl

  -- a record's bytes are its entry's
  record-bytes : (pre t : List ℕ) → IsRaw (grammar g) r → length pre ≡ p →
      let x = entry_of (shape g) e p r in
      part x.place.0 x.size (pre ++ (r.bytes ++ t)) ≡ r.bytes
  unfolding entry_of
  record-bytes pre t i q =
      let size : r.frame.size ≡ length r.bytes = sym (raw-size i) in
      rw size (part-between pre r.bytes t p q)

  tile : (pre t : List ℕ) → IsRaw (grammar g) r → length pre ≡ p → Tile g (pre ++ (r.bytes ++ t)) (entry_of (shape g) e p r)
  tile pre t i q =
      record {
        entry = rw (record-bytes pre t i q, entry-said (laws g) e p r pre t i q) (raw-entry (laws g) r i);
        keyless = keyless-at;
      }

-- the records of entries that stand at p, after `pre`
pub each-tile : (g : Format) (e : ℕ) (b : Bool) (rs : List Raw) (p : ℕ) (pre t : List ℕ) → Frames (shape g) (grammar g) b rs → length pre ≡ p →
    Each (Tile g (pre ++ (flat rs ++ t))) (entries_of (shape g) e p rs)
unfolding entries_of
each-tile g e b [] p pre t fs q = none
each-tile g e b (r ∷ rs) p pre t fs q =
    let there : (pre ++ r.bytes) ++ (flat rs ++ t) ≡ pre ++ (r.bytes ++ (flat rs ++ t)) = append_assoc pre r.bytes (flat rs ++ t) in
    let rest = each-tile g e ((shape g).last r.frame.code) rs (p + r.frame.size) (pre ++ r.bytes) t fs.2 (omega (arith, length-append pre r.bytes, raw-size fs.1)) in
    rw (append_assoc r.bytes (flat rs) t) (also (tile g e p r pre (flat rs ++ t) fs.1 q) (rw there at rest))

-- ---- the end

-- the byte after others
byte-after : (front : List ℕ) (b : ℕ) (t : List ℕ) → get_or (front ++ (b ∷ t)) (length front) 0 ≡ b
byte-after front b t = let q = get_or-append-add front (b ∷ t) 0 0 in rw add-zero at q

-- what closes the entries, and the check after it, begin with the end's byte
record Opens (g : Format) (before tail : List ℕ) : Type 0 where
  pub byte : ℕ
  pub rest : List ℕ
  pub is : tail ≡ byte ∷ rest
  pub ends : EndByte g before byte

end-opens : (g : Format) (closing rest before : List ℕ) → (grammar g).Closing closing → Opens g before (closing ++ ((shape g).check before ++ rest))
unfolding fboss tiny onie vpd
end-opens Fboss closing rest before q = record { byte = 250; rest = 2 ∷ (fboss.check before ++ rest); is = rw q; ends = refl }
end-opens Vpd closing rest before (inl q) = record { byte = 0x00; rest = rest; is = rw q; ends = inl refl }
end-opens Vpd closing rest before (inr q) = record { byte = 0xFF; rest = rest; is = rw q; ends = inr refl }
end-opens Tiny closing rest before q = record { byte = check8_of 0 before; rest = rest; is = rw q; ends = refl }
end-opens Onie closing rest before q = record { byte = 0xFE; rest = 4 ∷ (onie.check before ++ rest); is = rw q; ends = refl }

pub ends_at : (g : Format) (image : List ℕ) (end : ℕ) (closing rest before : List ℕ) → (grammar g).Closing closing → length before ≡ end →
    image ≡ before ++ (closing ++ ((shape g).check before ++ rest)) → EndsAt g image end
ends_at g image end closing rest before closes long is =
    let o = end-opens g closing rest before closes in
    let front : take end image ≡ before = ap (take end) is ∙ take_at before _ end long in
    let after : drop end image ≡ closing ++ ((shape g).check before ++ rest) = ap (drop end) is ∙ drop_at before _ end long in
    let whole : image ≡ before ++ (o.byte ∷ o.rest) = is ∙ ap (λ (t : List ℕ). before ++ t) o.is in
    let byte : get_or image end 0 ≡ o.byte = rw (← long, whole) (byte-after before o.byte o.rest) in
    let size : length image ≡ length before + length (o.byte ∷ o.rest) = ap length whole ∙ length-append before (o.byte ∷ o.rest) in
    record {
      inside = omega (arith, size, long);
      byte = rw (byte, front) o.ends;
      closing = closing;
      rest = rest;
      closes = closes;
      ends = rw front after;
    }

-- ---- the list

-- the list of an image that a check has accepted
unfoldable pub list_of : (f e : ℕ) (image : List ℕ) (n : ℕ) → Found f e image n → ListOf f e image n
list_of f e image n x =
    let r = x.reading in
    let m = r.made in
    let g = x.format in
    let S : Shape = shape g in
    let entries : List ℕ = flat x.raws in
    let header : List ℕ = S.header (length entries) in
    let end : ℕ = x.start + length entries in
    let size : end - x.start ≡ length entries = omega arith in
    let long : length (header ++ entries) ≡ end = omega (arith, length-append header entries, m.starts) in
    let whole : image ≡ (header ++ entries) ++ (m.closing ++ (S.check (header ++ entries) ++ m.rest)) = m.is ∙ sym (append_assoc header entries _) in
    record {
      format = g;
      serves = chosen-serves f e g r.known;
      entries = entries_of S e x.start x.raws;
      counted = entries-count S e x.start x.raws ∙ sym x.count;
      listed = lists f e image g x.start x.raws r;
      start = x.start;
      end = end;
      headed = rw size (ap (take x.start) m.is ∙ take_at header _ x.start (sym m.starts));
      tiled = records-tile (laws g) e false x.raws x.start m.frames;
      each = rw m.is (each-tile g e false x.raws x.start header _ m.frames (sym m.starts));
      closed = ends_at g image end m.closing m.rest (header ++ entries) m.closes long whole;
    }

pub listing : Listing
listing f e image n q = list_of f e image n (check-found f e image n (counts-accepted f e image n q))

-- ---- after a change

-- an image that reads as so many entries is accepted with their number, and has the list of them
pub reads-counts : (f e : ℕ) (image : List ℕ) (cs : List Content) → Reads f e image cs → Counts (tells_check f e image) (length cs)
reads-counts f e image cs r =
    let long : length r.entries ≡ length cs = sym (length-map (said image) r.entries) ∙ ap length r.says in rw (← long) r.accepted

reads-listed : (f e : ℕ) (image : List ℕ) (cs : List Content) (n : ℕ) → length cs ≡ n → Reads f e image cs → ListOf f e image n
reads-listed f e image cs n long r = listing f e image n (rw (← long) (reads-counts f e image cs r))

-- a list that was counted has as many
counted-once : (f e : ℕ) (image : List ℕ) (cs : List Content) (count : ℕ) → Reads f e image cs → Counts (tells_check f e image) count → length cs ≡ count
counted-once f e image cs count r q = ap (λ (t : Told). t.count) (sym (reads-counts f e image cs r) ∙ q)

-- what is kept is listed, with as many entries as the change makes
kept-listed : {f n : ℕ} {image : List ℕ} {Makes : List Content → List Content → Type 0} {output : List ℕ} {m count : ℕ} (after : ℕ → ℕ) →
    ((former latter : List Content) → Makes former latter → length former ≡ count → length latter ≡ after count) → (k : Kept f n image Makes output m) → length k.former ≡ count →
    ListOf f n output (after count) × ListOf f n (take m output) (after count)
kept-listed {f = f} {n = n} {output = output} {m = m} {count = count} after counts k long =
    let many : length k.latter ≡ after count = counts k.former k.latter k.makes long in
    (reads-listed f n output k.latter (after count) many k.whole, reads-listed f n (take m output) k.latter (after count) many k.front)

replaced-count : (cs : List Content) (i : ℕ) (v : List ℕ) → length (replaced cs i v) ≡ length cs
unfolding replaced
replaced-count [] i v = refl
replaced-count (c ∷ cs) zero v = refl
replaced-count (c ∷ cs) (suc i) v = ap suc (replaced-count cs i v)

without-count : (cs : List Content) (i : ℕ) → i < length cs → length (without cs i) ≡ length cs - 1
unfolding without
without-count [] i lt = absurd (omega arith)
without-count (c ∷ cs) zero lt = omega arith
without-count (c ∷ cs) (suc i) lt = let h = without-count cs i (omega arith) in omega arith

added-count : {f : ℕ} {c : Content} {former latter : List Content} → Added f c former latter → length latter ≡ length former + 1
added-count {c = c} {former = cs} (last each) = length-append cs (c ∷ [])
added-count {c = c} (before_pool cs pool is one) = omega (arith, length-append cs (c ∷ pool ∷ []), length-append cs (pool ∷ []))

added : (fields : List Field) (values : List ℕ) → ListedAfter (adds fields values) (λ n. n + 1)
unfolding addition may_add
added [] values f o n image count out m le q w = never-denied (add_done f o image [] values out m w).asked
added (x ∷ more) values f o n image count out m le q w =
    let k = older-adds x more values f o n image count out m le q w in
    kept-listed (λ n. n + 1) (λ former latter is long. added-count is ∙ ap (λ (n : ℕ). n + 1) long) k (counted-once f n image k.former count k.before q)

pub listing-after-changes : ListingAfterChanges
listing-after-changes =
    record {
      edited = λ i v f o n image count out m le q w.
          let k = older-edits i v f o n image count out m le q w in
          kept-listed (λ n. n) (λ former latter is long. ap length is ∙ replaced-count former i v ∙ long) k (counted-once f n image k.former count k.before q);
      added = added;
      removed = λ i f o n image count out m le q w.
          let k = older-removes i f o n image count out m le q w in
          kept-listed (λ n. n - 1) (λ former latter is long. ap length is.1 ∙ without-count former i is.0 ∙ ap (λ (n : ℕ). n - 1) long) k (counted-once f n image k.former count k.before q);
    }
