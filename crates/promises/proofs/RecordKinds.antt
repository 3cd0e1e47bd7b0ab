-- Kind and reading of every record are those of document 01 and of document 02's third and fifth items.
-- Assumes nothing.
use Prim.Native.Nat.{ℕ, zero, suc, ◌+◌, ◌*◌, ◌/◌, ◌%◌, ◌≤◌}
use mathlib.Core.Path.{◌≡◌, refl, sym, ◌∙◌}
use mathlib.Core.List.{List, [], ◌∷◌, ◌++◌, map}
use mathlib.Core.Logic.{inl, inr}
use mathlib.Core.Bool.{Bool, true, false}
use native.Mathlib.Omega.{arith}
use lib.ListN.{length, get_or, replicate}
use lib.Dec.{leb, eqb}
use borrow.Author.Tests.{leb-true, leb-false, le-leb, lt-leb, eqb-true, ne_eqb}
use Rattle.layout.specs.declared.Format.{Format}
use Rattle.layout.specs.declared.Format.TheVariants.{Fboss, Vpd, Tiny, Onie}
use Rattle.layout.specs.declared.Reading.TheVariants.{Text, Number, Addresses, Tests, Dated, Timed}
use Rattle.layout.specs.Bytes.{between, one_of, part, high_first}
use Rattle.layout.specs.Shape.{Label}
use Rattle.layout.specs.Fboss.{fboss, fboss_date, date_rule, fboss_rule, fboss_reading}
use Rattle.layout.specs.Vpd.{vpd}
use Rattle.layout.specs.Tiny.{tiny, tiny_reading, passed}
use Rattle.layout.specs.Onie.{onie, date_form, onie_date, onie_time, onie_date_rule, onie_rule, onie_reading}
use Rattle.layout.specs.Editions.{shape, names, kind}
use Rattle.layout.specs.Walk.{Raw, Content, content, label_of}
use Rattle.layout.specs.Read.{reader_rule}
use Rattle.layout.specs.Calls.{entry_of, entries_of}
use Rattle.laws.specs.Contents.{said}
use Rattle.layout.specs.Each.{Each, none, also}
use Rattle.laws.specs.Grammar.{grammar, TinySays, Ruled, Lawful, and_then}
use Rattle.laws.proofs.Frames.{IsRaw, raw-content}
use Rattle.laws.proofs.Walking.{Frames}
use Rattle.laws.proofs.Records.{entries-count}
use Rattle.laws.proofs.Formats.{laws}
use Rattle.laws.proofs.Calls.{Found, check-found}
use Rattle.promises.specs.Words.{FormatNumber, Serves}
use Rattle.promises.specs.Names.{One, Two, Named, since_one, since_two, since_three, tiny01, tiny10, tiny11, tiny60, tiny61, tiny62, tiny80, tiny81, onie21, onie22, onie23, onie24, onie25, onie2_a, onie2_b, onie2_c, onie2_d, onie_fd}
use Rattle.promises.specs.Kinds.{base, FbossMeans, VpdMeans, TinyMeans, OnieMeans, Means, Marked, MarkedList, Kinds}
use Rattle.promises.proofs.Accepting.{lists, records-say}
use Rattle.promises.proofs.Ruling.{tells-between, of-form, two-digits, four-digits, date-formed, stamp-formed}
use Rattle.promises.proofs.Naming.{FromTo, each-between, named-names, unnamed-names}
use Rattle.promises.proofs.Telling.{chosen-serves, counts-accepted}

-- ---- values of a known length

-- what holds of every list of n bytes, byte by byte
abbrev OfBytes : ℕ → (List ℕ → Type 0) → Type 0
OfBytes zero P = P []
OfBytes (suc n) P = (b : ℕ) → OfBytes n (λ bs. P (b ∷ bs))

of-bytes : (n : ℕ) (P : List ℕ → Type 0) → OfBytes n P → (v : List ℕ) → length v ≡ n → P v
of-bytes zero P h [] q = h
of-bytes zero P h (b ∷ bs) q = absurd (omega arith)
of-bytes (suc n) P h [] q = absurd (omega arith)
of-bytes (suc n) P h (b ∷ bs) q = of-bytes n (λ bs. P (b ∷ bs)) (h b) bs (omega arith)

-- the first six bytes as one number
base-is : (a b c d e f : ℕ) (t : List ℕ) → high_first 0 (part 0 6 (a ∷ b ∷ c ∷ d ∷ e ∷ f ∷ t)) ≡ base a b c d e f
unfolding high_first part
base-is a b c d e f t = omega arith

-- two bytes as one number
two_bytes : (a b : ℕ) → high_first 0 (a ∷ b ∷ []) ≡ a * 256 + b
unfolding high_first
two_bytes a b = omega arith

-- ---- FBOSS v5

-- the rule of a code of a to a + k has a value of n bytes
ruled-length : (n k a c : ℕ) (v : List ℕ) → FromTo (λ c. fboss_rule c v ≡ eqb (length v) n) k a → between a (a + k) c ≡ true → fboss_rule c v ≡ true → length v ≡ n
ruled-length n k a c v is t rule = eqb-true (length v) n (sym (each-between (λ c. fboss_rule c v ≡ eqb (length v) n) k a c is t) ∙ rule)

-- year, month and day are the numbers that the digits show
date-means : (v : List ℕ) → date_rule v ≡ true → FbossMeans 13 v (Dated (fboss_date v))
date-means v rule =
    of-form (replicate 8 0x30) (λ v. FbossMeans 13 v (Dated (fboss_date v)))
    (λ a a9 b b9 c c9 d d9 m m9 n n9 x x9 y y9.
    rw (four-digits a b c d, two-digits m n, two-digits x y)
    (FbossMeans.date a b c d m n x y refl (also a9 (also b9 (also c9 (also d9 (also m9 (also n9 (also x9 (also y9 none))))))))))
    v (date-formed v rule)

-- a value that passes the test of a code has its reading
abbrev FbossRead : List ℕ → ℕ → Type 0
FbossRead v c = fboss_rule c v ≡ true → FbossMeans c v (fboss_reading c v)

fboss-means : (e c : ℕ) (v : List ℕ) → Named Fboss e c → fboss_rule c v ≡ true → FbossMeans c v (fboss_reading c v)
unfolding fboss_reading fboss_rule one_of part
fboss-means e c v (since_one le (One.fboss a z)) rule = go (leb 8 c) (leb c 10) refl refl
  where
    before : (c : ℕ) → between 11 12 c ≡ true → FbossMeans c v Text
    before c w = FbossMeans.text (inr (inl ((tells-between 11 12 c).to w)))

    after : (c : ℕ) → between 14 16 c ≡ true → FbossMeans c v Text
    after c w = FbossMeans.text (inr (inr ((tells-between 14 16 c).to w)))

    from11 : FromTo (FbossRead v) 5 11
    from11 = (λ _. before 11 refl, (λ _. before 12 refl, (date-means v, (λ _. after 14 refl, (λ _. after 15 refl, λ _. after 16 refl)))))

    go : (s t : Bool) → leb 8 c ≡ s → leb c 10 ≡ t → FbossMeans c v (fboss_reading c v)
    go true true s t =
        rw (s, t)
        (of-bytes 1 (λ v. FbossMeans c v (Number (get_or v 0 0))) (λ b. FbossMeans.number b (leb-true 8 c s) (leb-true c 10 t))
        v (ruled-length 1 2 8 c v (refl, (refl, refl)) (rw (s, t)) rule))
    go true false s t = let le = leb-false c 10 t in each-between (FbossRead v) 5 11 c from11 (rw (le-leb 11 c le, le-leb c 16 z)) rule
    go false t s u = rw (s, lt-leb 17 c (omega arith), ne_eqb c 13 (omega (arith, leb-false 8 c s))) (FbossMeans.text (inl (omega (arith, leb-false 8 c s))))
fboss-means e c v (since_two le (Two.fboss a z)) rule =
    rw (lt-leb c 10 (omega arith), le-leb 8 c (omega arith), le-leb 17 c a, le-leb c 20 z)
    (of-bytes 8 (λ v. FbossMeans c v (Addresses (high_first 0 (part 0 6 v)) (high_first 0 (part 6 2 v))))
    (λ b₀ b₁ b₂ b₃ b₄ b₅ b₆ b₇.
    rw (base-is b₀ b₁ b₂ b₃ b₄ b₅ (b₆ ∷ b₇ ∷ []), two_bytes b₆ b₇) (FbossMeans.addresses b₀ b₁ b₂ b₃ b₄ b₅ b₆ b₇ a z))
    v (ruled-length 8 3 17 c v (refl, (refl, (refl, refl))) (rw (le-leb 17 c a, le-leb c 20 z)) rule))
fboss-means e c v (since_three _ x3) rule = elim x3 [ ]

-- ---- Tiny version 2

-- a value is as long as the high four bits of its tag say, where they say it
tagged : {lens v : List ℕ} (c : ℕ) → 16 ≤ c → TinySays c lens (length v) → OfBytes (c / 16) (λ v. TinyMeans c v (tiny_reading c v)) → TinyMeans c v (tiny_reading c v)
tagged c le (inl (low, is)) h = absurd (omega arith)
tagged {v} c le (inr (high, is, sized)) h = of-bytes (c / 16) (λ v. TinyMeans c v (tiny_reading c v)) h v sized

-- the four low bits, and the number of those that are on
tests-mean : (b : ℕ) → TinyMeans 0x11 (b ∷ []) (Tests b (passed b))
tests-mean b =
    let h₄ : b / 4 ≡ b / 2 / 2 = omega arith in
    let h₈ : b / 8 ≡ b / 4 / 2 = omega arith in
    let h₁₆ : b / 16 ≡ b / 8 / 2 = omega arith in
    TinyMeans.tests b (b % 2) (b / 2 % 2) (b / 4 % 2) (b / 8 % 2) (b / 16) refl (omega arith) (omega arith) (omega arith) (omega arith) (omega arith)

tiny-means : (e c : ℕ) (lens v : List ℕ) → Named Tiny e c → TinySays c lens (length v) → TinyMeans c v (tiny_reading c v)
unfolding tiny_reading
tiny-means e c lens v (since_one le tiny01) s = TinyMeans.plain refl
tiny-means e c lens v (since_one le tiny10) s = tagged 0x10 (omega arith) s (λ b. TinyMeans.numbered b refl)
tiny-means e c lens v (since_one le tiny11) s = tagged 0x11 (omega arith) s tests-mean
tiny-means e c lens v (since_one le tiny60) s =
    tagged 0x60 (omega arith) s (λ b₀ b₁ b₂ b₃ b₄ b₅. rw (base-is b₀ b₁ b₂ b₃ b₄ b₅ []) (TinyMeans.addresses b₀ b₁ b₂ b₃ b₄ b₅ refl))
tiny-means e c lens v (since_one le tiny61) s = tagged 0x61 (omega arith) s (λ b₀ b₁ b₂ b₃ b₄ b₅. TinyMeans.identity b₀ b₁ b₂ b₃ b₄ b₅ (inl refl))
tiny-means e c lens v (since_one le tiny62) s = tagged 0x62 (omega arith) s (λ b₀ b₁ b₂ b₃ b₄ b₅. TinyMeans.identity b₀ b₁ b₂ b₃ b₄ b₅ (inr refl))
tiny-means e c lens v (since_two le tiny80) s =
    tagged 0x80 (omega arith) s (λ b₀ b₁ b₂ b₃ b₄ b₅ b₆ b₇. TinyMeans.batched b₀ b₁ b₂ b₃ b₄ b₅ b₆ b₇ (inl refl))
tiny-means e c lens v (since_two le tiny81) s =
    tagged 0x81 (omega arith) s (λ b₀ b₁ b₂ b₃ b₄ b₅ b₆ b₇. TinyMeans.batched b₀ b₁ b₂ b₃ b₄ b₅ b₆ b₇ (inr refl))
tiny-means e c lens v (since_three _ x3) s = elim x3 [ ]

-- ---- ONIE

stamp-means : (v : List ℕ) → onie_date_rule v ≡ true → OnieMeans 0x25 v (Timed (onie_date v) (onie_time v))
stamp-means v rule =
    of-form date_form (λ v. OnieMeans 0x25 v (Timed (onie_date v) (onie_time v)))
    (λ m₁ a₁ m₂ a₂ d₁ a₃ d₂ a₄ y₁ a₅ y₂ a₆ y₃ a₇ y₄ a₈ h₁ a₉ h₂ b₁ n₁ b₂ n₂ b₃ s₁ b₄ s₂ b₅.
    let clock = also a₉ (also b₁ (also b₂ (also b₃ (also b₄ (also b₅ none))))) in
    rw (four-digits y₁ y₂ y₃ y₄, two-digits m₁ m₂, two-digits d₁ d₂, two-digits h₁ h₂, two-digits n₁ n₂, two-digits s₁ s₂)
    (OnieMeans.date m₁ m₂ d₁ d₂ y₁ y₂ y₃ y₄ h₁ h₂ n₁ n₂ s₁ s₂ refl (also a₁ (also a₂ (also a₃ (also a₄ (also a₅ (also a₆ (also a₇ (also a₈ clock))))))))))
    v (stamp-formed v rule)

onie-means : (e c : ℕ) (v : List ℕ) → Named Onie e c → onie_rule c v ≡ true → OnieMeans c v (onie_reading c v)
unfolding onie_reading onie_rule one_of part
onie-means e c v (since_three le onie21) rule = OnieMeans.text (inl (omega arith, omega arith))
onie-means e c v (since_three le onie22) rule = OnieMeans.text (inl (omega arith, omega arith))
onie-means e c v (since_three le onie23) rule = OnieMeans.text (inl (omega arith, omega arith))
onie-means e c v (since_three le onie24) rule =
    of-bytes 6 (λ v. OnieMeans 0x24 v (Addresses (high_first 0 (part 0 6 v)) 1))
    (λ b₀ b₁ b₂ b₃ b₄ b₅. rw (base-is b₀ b₁ b₂ b₃ b₄ b₅ []) (OnieMeans.addresses b₀ b₁ b₂ b₃ b₄ b₅ refl))
    v (eqb-true (length v) 6 rule)
onie-means e c v (since_three le onie25) rule = stamp-means v rule
onie-means e c v (since_three le onie2_a) rule =
    of-bytes 2 (λ v. OnieMeans 0x2A v (Number (high_first 0 (part 0 2 v)))) (λ a b. rw (two_bytes a b) (OnieMeans.number a b refl)) v (eqb-true (length v) 2 rule)
onie-means e c v (since_three le onie2_b) rule = OnieMeans.text (inr (omega arith, omega arith))
onie-means e c v (since_three le onie2_c) rule = OnieMeans.text (inr (omega arith, omega arith))
onie-means e c v (since_three le onie2_d) rule = OnieMeans.text (inr (omega arith, omega arith))
onie-means e c v (since_three le onie_fd) rule = OnieMeans.plain refl
onie-means e c v (since_one _ x3) rule = elim x3 [ ]
onie-means e c v (since_two _ x4) rule = elim x4 [ ]

-- ---- any format

-- a named entry of the grammar that meets its rule has the reading of 01
means : (g : Format) (e : ℕ) (c : Content) (lens : List ℕ) → Named g e c.code → (grammar g).Says c.code lens (length c.value) →
    reader_rule (shape g) c ≡ true → Means g c.code c.value ((shape g).reading c.code c.value)
unfolding fboss vpd tiny onie reader_rule
means Fboss e c lens n s rule = fboss-means e c.code c.value n rule
means Vpd e c lens n s rule = VpdMeans.plain
means Tiny e c lens n s rule = tiny-means e c.code lens c.value n s
means Onie e c lens n s rule = onie-means e c.code c.value n rule

-- the length bytes of an entry say the length of its value
raw-says : (g : Format) (r : Raw) (i : IsRaw (grammar g) r) → (grammar g).Says (content r).code i.lens (length (content r).value)
raw-says g r i = rw (raw-content (laws g) r i) i.says

number_is : (f : ℕ) (g : Format) → FormatNumber f g → (shape g).number ≡ f
unfolding fboss vpd tiny onie
number_is f Fboss FormatNumber.fboss = refl
number_is f Vpd FormatNumber.vpd = refl
number_is f Tiny FormatNumber.tiny = refl
number_is f Onie FormatNumber.onie = refl

module _ (f e : ℕ) (g : Format) (serves : Serves f e g) (image : List ℕ) where
  record-marked : (p : ℕ) (r : Raw) → IsRaw (grammar g) r → Ruled (shape g) e (content r) → said image (entry_of (shape g) e p r) ≡ content r →
      Marked f e g image (entry_of (shape g) e p r)
  unfolding entry_of kind content
  record-marked p r i ruled says =
      record {
        named = λ n.
            let y : names (shape g) e r.frame.code ≡ true = named-names g e r.frame.code n in
            (rw (y, number_is f g serves.number), rw (says, y) (means g e (content r) i.lens n (raw-says g r i) (ruled y)));
        unnamed = λ n. let y = unnamed-names g e r.frame.code serves.edition n in (rw y, rw y);
      }

  all-marked : (seen : List Label) (b : Bool) (p : ℕ) (rs : List Raw) → Frames (shape g) (grammar g) b rs → Lawful (shape g) e seen (map content rs) →
      map (said image) (entries_of (shape g) e p rs) ≡ map content rs → Each (Marked f e g image) (entries_of (shape g) e p rs)
  unfolding entries_of
  all-marked seen b p [] fs l q = none
  all-marked seen b p (r ∷ rs) fs (and_then ruled new l) q =
      let here : said image (entry_of (shape g) e p r) ≡ content r = cc in
      let rest : map (said image) (entries_of (shape g) e (p + r.frame.size) rs) ≡ map content rs = cc in
      also (record-marked p r fs.1 ruled here) (all-marked (seen ++ (label_of (content r) ∷ [])) ((shape g).last r.frame.code) (p + r.frame.size) rs fs.2 l rest)

marked-list : (f e : ℕ) (image : List ℕ) (n : ℕ) → Found f e image n → MarkedList f e image n
marked-list f e image n x =
    let r = x.reading in
    let m = r.made in
    let g = x.format in
    let serves = chosen-serves f e g r.known in
    record {
      format = g;
      serves = serves;
      entries = entries_of (shape g) e x.start x.raws;
      counted = entries-count (shape g) e x.start x.raws ∙ sym x.count;
      listed = lists f e image g x.start x.raws r;
      marked = all-marked f e g serves image [] false x.start x.raws m.frames m.lawful (records-say f e image g x.start x.raws r);
    }

pub kinds : Kinds
kinds f e image n q = marked-list f e image n (check-found f e image n (counts-accepted f e image n q))
