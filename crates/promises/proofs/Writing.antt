-- What a write puts out, and which lists of fields it takes.
-- Assumes nothing.
use Prim.Native.Nat.{ℕ, ◌+◌, ◌≤◌}
use mathlib.Core.Path.{◌≡◌, refl, sym, ◌∙◌}
use mathlib.Core.List.{List, [], ◌∷◌, map}
use mathlib.Core.Bool.{Bool, true, false}
use native.Mathlib.Omega.{arith}
use lib.ListN.{length}
use lib.Dec.{eqb}
use borrow.Author.Tests.{leb-true, le-leb, le-ltb, eqb-true, eq-eqb, ne_eqb}
use Rattle.std.specs.Prelude.{Ok}
use Rattle.layout.specs.declared.Format.{Format}
use Rattle.layout.specs.declared.Format.TheVariants.{Fboss, Vpd, Tiny, Onie}
use Rattle.layout.specs.declared.Field.{Field}
use Rattle.layout.specs.Shape.{Shape, fine}
use Rattle.layout.specs.Fboss.{fboss}
use Rattle.layout.specs.Vpd.{vpd, vpd_twice}
use Rattle.layout.specs.Tiny.{tiny}
use Rattle.layout.specs.Onie.{onie}
use Rattle.layout.specs.Editions.{shape, chosen}
use Rattle.layout.specs.Walk.{Content, label_of}
use Rattle.layout.specs.Read.{limit, same, complete}
use Rattle.layout.specs.Write.{inside, parts_inside, judge_fields, contents_of, content_codes, entries_bytes, image_of, put, write_as, write_image}
use Rattle.layout.specs.Each.{none}
use Rattle.layout.proofs.Choices.{false-true, either, both}
use Rattle.layout.proofs.Lists.{each_map, each-every, same_refl, same_true}
use Rattle.laws.proofs.Writing.{Single, Follow, Fine, judged-fine, fine-judged, fields-fine}
use Rattle.laws.proofs.Formats.{laws}
use Rattle.laws.proofs.Calls.{chosen-stands}
use Rattle.promises.specs.Words.{Counts, tells_write}
use Rattle.promises.specs.RoundTrip.{field_says}
use Rattle.promises.specs.Written.{header_size, entries_size, end_size, Fits}
use Rattle.promises.specs.Writing.{Wrote as Puts, Within, Inside, Again, Once, Ordered, required, Writable, Writing}
use Rattle.promises.proofs.Naming.{named-names, names-named}
use Rattle.promises.proofs.Telling.{serves-chosen, chosen-serves, counts-written, written-some}
use Rattle.promises.proofs.Output.{put-fits, put-fitting}
use Rattle.promises.proofs.Required.{complete-among, among-complete}
use Rattle.promises.proofs.Written.{image-written, image-size, entries-size, entries-short, fits-allowed, allowed-fits}
use Rattle.promises.proofs.RoundTrip.{Done, write_done, done-short, fields-said}

-- ---- a second time

twice-key : (g : Format) (c d : Content) → (shape g).twice (label_of c) (label_of d) ≡ true → g ≡ Vpd → c.code ≡ 0x01 → c.key ≡ d.key
unfolding vpd vpd_twice
twice-key g c d h is one = same_true c.key d.key (rw (is, eq-eqb c.code 0x01 one) at h)

twice-vendor : (g : Format) (c d : Content) → (shape g).twice (label_of c) (label_of d) ≡ true → g ≡ Onie → c.code ≡ 0xFD → ⊥
unfolding onie
twice-vendor g c d h is vendor = false-true (rw (is, eq-eqb c.code 0xFD vendor) at h)

again-twice : (g : Format) (c d : Content) → Again g c d → (shape g).twice (label_of c) (label_of d) ≡ true
unfolding fboss vpd tiny onie vpd_twice
again-twice Fboss c d a = refl
again-twice Vpd c d a =
    either (λ t. t ≡ true) (eqb c.code 0x01) (λ one. rw (a.1 refl (eqb-true c.code 0x01 one)) (same_refl d.key)) (λ _. refl)
again-twice Tiny c d a = refl
again-twice Onie c d a = rw (ne_eqb c.code 0xFD (a.2 refl))

pub same-again : (g : Format) (c d : Content) → same (shape g) (label_of c) (label_of d) ≡ true → Again g c d
same-again g c d h =
    let b = both (eqb c.code d.code) ((shape g).twice (label_of c) (label_of d)) h in
    (eqb-true c.code d.code b.0, twice-key g c d b.1, twice-vendor g c d b.1)

pub again-same : (g : Format) (c d : Content) → Again g c d → same (shape g) (label_of c) (label_of d) ≡ true
again-same g c d a = rw (eq-eqb c.code d.code a.0) (again-twice g c d a)

single-once : (g : Format) (cs : List Content) → Single (shape g) cs → Once g cs
single-once g [] s = tt
single-once g (c ∷ cs) s = (each_map (λ d n a. false-true (sym n ∙ again-same g d c a)) s.0, single-once g cs s.1)

once-single : (g : Format) (cs : List Content) → Once g cs → Single (shape g) cs
once-single g [] o = tt
once-single g (c ∷ cs) o = (each_map (λ d n. go d (same (shape g) (label_of d) (label_of c)) refl n) o.0, once-single g cs o.1)
  where
    go : (d : Content) (b : Bool) → same (shape g) (label_of d) (label_of c) ≡ b → (Again g d c → ⊥) → b ≡ false
    go d true e n = absurd (n (same-again g d c e))
    go d false e n = refl

-- ---- after a Tiny pool

pub last-pool : (g : Format) (code : ℕ) → (shape g).last code ≡ true → (g ≡ Tiny) × (code ≡ 0x01)
unfolding fboss vpd tiny onie
last-pool Fboss code h = false-true h
last-pool Vpd code h = false-true h
last-pool Tiny code h = (refl, eqb-true code 0x01 h)
last-pool Onie code h = false-true h

pub pool-last : (g : Format) (code : ℕ) → g ≡ Tiny → code ≡ 0x01 → (shape g).last code ≡ true
unfolding tiny
pool-last g code is one = rw (is, one)

follow-ordered : (g : Format) (b : Bool) (cs : List Content) → Follow (shape g) b cs → Ordered g cs
follow-ordered g b [] f = tt
follow-ordered g b (c ∷ cs) f = (λ is one. alone cs (pool-last g c.code is one) f.1, follow-ordered g ((shape g).last c.code) cs f.1)
  where
    alone : (ds : List Content) → (shape g).last c.code ≡ true → Follow (shape g) ((shape g).last c.code) ds → ds ≡ []
    alone [] l f = refl
    alone (d ∷ ds) l f = false-true (sym f.0 ∙ l)

ordered-follow : (g : Format) (b : Bool) (cs : List Content) → (b ≡ true → cs ≡ []) → Ordered g cs → Follow (shape g) b cs
ordered-follow g b [] h o = tt
ordered-follow g b (c ∷ cs) h o =
    (unshut b h, ordered-follow g ((shape g).last c.code) cs (λ l. let p = last-pool g c.code l in o.0 p.0 p.1) o.1)
  where
    unshut : (b : Bool) → (b ≡ true → c ∷ cs ≡ []) → b ≡ false
    unshut true h = let q = h refl in let z : ◌≡◌ {A = ℕ} 0 1 = cc in absurd (omega arith)
    unshut false h = refl

-- ---- inside the lent values

value-inside : (b : Bool) (values : List ℕ) (x : Field) → parts_inside b x values ≡ true → Within values x.value
value-inside true values x h =
    leb-true (x.value.place.0 + x.value.len) (length values) (both (inside x.key values) (inside x.value values) h).1
value-inside false values x h = leb-true (x.value.place.0 + x.value.len) (length values) h

key-inside : (g : Format) (values : List ℕ) (x : Field) → parts_inside (shape g).keyed x values ≡ true → g ≡ Vpd → Within values x.key
unfolding vpd
key-inside g values x h is =
    leb-true (x.key.place.0 + x.key.len) (length values) (both (inside x.key values) (inside x.value values) (rw is at h)).0

pub parts-inside : (g : Format) (values : List ℕ) (x : Field) → parts_inside (shape g).keyed x values ≡ true → Inside g values x
parts-inside g values x h = (value-inside (shape g).keyed values x h, key-inside g values x h)

pub inside-parts : (g : Format) (values : List ℕ) (x : Field) → Inside g values x → parts_inside (shape g).keyed x values ≡ true
unfolding fboss vpd tiny onie
inside-parts Fboss values x i = le-leb (x.value.place.0 + x.value.len) (length values) i.0
inside-parts Vpd values x i =
    rw (le-leb (x.key.place.0 + x.key.len) (length values) (i.1 refl), le-leb (x.value.place.0 + x.value.len) (length values) i.0)
inside-parts Tiny values x i = le-leb (x.value.place.0 + x.value.len) (length values) i.0
inside-parts Onie values x i = le-leb (x.value.place.0 + x.value.len) (length values) i.0

-- ---- the codes that an image must have

pub required-codes : (g : Format) → (shape g).required ≡ required g
unfolding fboss vpd tiny onie
required-codes Fboss = refl
required-codes Vpd = refl
required-codes Tiny = refl
required-codes Onie = refl

-- ---- a write

-- how long the image of these contents is
made-size : (g : Format) (cs : List Content) → length (image_of (shape g) (entries_bytes (shape g) cs)) ≡ header_size g + entries_size g cs + end_size g
made-size g cs = omega (arith, image-size g (entries_bytes (shape g) cs), entries-size g cs)

module _ (f e : ℕ) (xs : List Field) (values out : List ℕ) where
  contents-said : (g : Format) → chosen f e ≡ Ok g → contents_of (shape g) values xs ≡ map (field_says f values) xs
  contents-said g known = fields-said f g values xs (chosen-stands f e g known).0

  -- fields that are judged fine and complete are put
  write-puts : (g : Format) → chosen f e ≡ Ok g → length out ≤ limit → judge_fields (shape g) e values false [] xs 0 ≡ fine →
      complete (shape g).required (content_codes (contents_of (shape g) values xs)) ≡ true →
      write_image f e xs values out ≡ put (shape g) (image_of (shape g) (entries_bytes (shape g) (contents_of (shape g) values xs))) out
  unfolding write_image write_as
  write-puts g known short judged complete = rw (known, le-ltb limit (length out) short, judged, complete)

  done-puts : (n : ℕ) → Done f e xs values out n → Puts f e xs values out n
  done-puts n d =
      let g = d.format in
      let S : Shape = shape g in
      let cs : List Content = contents_of S values xs in
      let said = contents-said g d.known in
      record {
        format = g;
        serves = chosen-serves f e g d.known;
        entries = entries_bytes S cs;
        made = rw (← said) (entries-short g e false cs (fields-fine (laws g) e values false [] xs 0 d.judged).0 (done-short d));
        image = image_of S (entries_bytes S cs);
        written = image-written g (entries_bytes S cs);
        long = d.took.long;
        size = rw (← said) (d.took.long ∙ made-size g cs);
        filled = d.took.padding;
      }

  done-writable : (n : ℕ) → (write_image f e xs values out).answer ≡ Ok n → Done f e xs values out n → Writable f e xs values out
  done-writable n q d =
      let g = d.format in
      let S : Shape = shape g in
      let cs : List Content = contents_of S values xs in
      let said = contents-said g d.known in
      let serves = chosen-serves f e g d.known in
      let fine : Fine S e values false [] xs = judged-fine S e values false [] xs 0 d.judged in
      let image : List ℕ = image_of S (entries_bytes S cs) in
      let fits = put-fits S image out n (rw (write-puts g d.known d.short d.judged d.required) at q) in
      record {
        format = g;
        serves = serves;
        short = d.short;
        named = each_map (λ x h. names-named g e x.code serves.edition h) fine.named;
        inside = each_map (parts-inside g values) fine.inside;
        ruled = rw (← said) fine.ruled;
        once = rw (← said) (single-once g cs fine.single);
        ordered = rw (← said) (follow-ordered g false cs fine.follow);
        complete = rw (← said, ← required-codes g) (complete-among cs S.required d.required);
        fits = rw (← said, ← made-size g cs) (allowed-fits g (length image) out fits.0 fits.1);
      }

  writable-taken : (w : Writable f e xs values out) →
      Counts (tells_write f e xs values out) (header_size w.format + entries_size w.format (map (field_says f values) xs) + end_size w.format)
  writable-taken w =
      let g = w.format in
      let S : Shape = shape g in
      let cs : List Content = contents_of S values xs in
      let known : chosen f e ≡ Ok g = serves-chosen w.serves in
      let said = contents-said g known in
      let fine : Fine S e values false [] xs =
      record {
        named = each_map (λ x h. named-names g e x.code h) w.named;
        inside = each_map (inside-parts g values) w.inside;
        follow = ordered-follow g false cs (λ q. false-true q) (rw said w.ordered);
        ruled = rw said w.ruled;
        single = once-single g cs (rw said w.once);
        unseen = each-every cs (λ c. none);
      } in
      let complete = among-complete cs S.required (rw (said, required-codes g) w.complete) in
      let image : List ℕ = image_of S (entries_bytes S cs) in
      let fits : Fits g (length image) out = rw (made-size g cs, said) w.fits in
      let puts = write-puts g known w.short (fine-judged S e values false [] xs 0 fine) complete in
      rw (← said, ← made-size g cs, puts, put-fitting S image out (fits-allowed g (length image) out w.short fits) fits.room)

pub writing : Writing
writing =
    record {
      puts = λ f e xs values out n q. done-puts f e xs values out n (write_done f e xs values out n (counts-written f e xs values out n q));
      taken_is = λ f e xs values out q.
          let w = written-some f e xs values out q in
          done-writable f e xs values out w.0 w.1 (write_done f e xs values out w.0 w.1);
      is_taken = writable-taken;
    }
