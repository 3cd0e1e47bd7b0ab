-- The definitions' tests of named entries are document 01's rules and those of document 02's first, third and fifth items.
-- Assumes nothing.
use Prim.Native.Nat.{ℕ, zero, suc, ◌+◌, ◌-◌, ◌*◌, ◌/◌, ◌≤◌, ◌<◌}
use mathlib.Core.Path.{◌≡◌, refl}
use mathlib.Core.List.{List, [], ◌∷◌}
use mathlib.Core.Logic.{◌⊎◌, inl, inr}
use mathlib.Core.Bool.{Bool, true, false, ◌&&◌, ◌||◌, and_assoc, or_assoc}
use native.Mathlib.Omega.{arith}
use lib.ListN.{length, get_or, drop, replicate, drop_of_length-le}
use lib.Seq.{drop-cons}
use lib.Dec.{ltb, leb, eqb}
use borrow.Author.Tests.{ltb-true, ltb-false, lt-ltb, le-ltb, leb-true, le-leb, eqb-true, eqb-false, eq-eqb}
use Rattle.layout.specs.declared.Format.{Format}
use Rattle.layout.specs.declared.Format.TheVariants.{Fboss, Vpd, Tiny, Onie}
use Rattle.layout.specs.Bytes.{if, between, all, one_of}
use Rattle.layout.specs.Calendar.{is_day, is_time, two_digits, four_digits, date}
use Rattle.layout.specs.Years.{Printed}
use Rattle.layout.specs.Fboss.{fboss, fboss_rule, date_rule, digit, printable}
use Rattle.layout.specs.Vpd.{vpd, vpd_reader_key, vpd_rule, key_byte}
use Rattle.layout.specs.Tiny.{tiny, tiny_rule, tiny_takes, revision_rule, batch}
use Rattle.layout.specs.Onie.{fits_form, onie, onie_rule, formed, date_form, onie_date_rule, capital}
use Rattle.layout.specs.Editions.{shape}
use Rattle.layout.specs.Walk.{Content}
use Rattle.layout.specs.Read.{reader_rule}
use Rattle.layout.specs.Write.{writer_rule}
use Rattle.layout.specs.Edit.{edit_rule}
use Rattle.layout.specs.Each.{Each, none, also}
use Rattle.laws.specs.Grammar.{grammar, EntryOf, TinySays}
use Rattle.layout.proofs.Choices.{false-true, either, both}
use Rattle.laws.proofs.Vpd.{writer-key}
use Rattle.laws.proofs.Years.{as-printed}
use Rattle.promises.specs.Names.{One, Two, Named, since_one, since_two, since_three, vpd01, tiny01, tiny10, tiny11, tiny60, tiny61, tiny62, vpd_fe, tiny80, tiny81, onie21, onie22, onie23, onie24, onie25, onie2_a, onie2_b, onie2_c, onie2_d, onie_fd}
use Rattle.promises.specs.Rules.{Exactly, Between, Printable, TextCode, KeyByte, FbossValue, VpdKey, VpdValue, Revision, TinyValue, OnieValue, KeyRule, AlphabetRule, ValueRule, LengthRule, Rules}
use Rattle.promises.proofs.Naming.{FromTo, each-between}

-- ---- a test is exactly what it tests

-- a test passes exactly where this holds
abbrev pub Tells : Bool → Type 0 → Type 0
Tells b A = Exactly (b ≡ true) A

tells-le : (a b : ℕ) → Tells (leb a b) (a ≤ b)
tells-le a b = record { to = leb-true a b; from = le-leb a b }

tells-eq : (a b : ℕ) → Tells (eqb a b) (a ≡ b)
tells-eq a b = record { to = eqb-true a b; from = eq-eqb a b }

tells-lt : (a b : ℕ) → Tells (ltb a b) (a < b)
tells-lt a b = record { to = ltb-true a b; from = lt-ltb a b }

-- the second test may be known only where the first passes
tells-then : {a b : Bool} {A B : Type 0} → Tells a A → (A → Tells b B) → Tells (a && b) (A × B)
tells-then {a} {b} x y =
    record {
      to = λ t. let w = both a b t in let p = x.to w.0 in (p, (y p).to w.1);
      from = λ (p, q). rw (x.from p, (y p).from q) refl;
    }

tells_both : {a b : Bool} {A B : Type 0} → Tells a A → Tells b B → Tells (a && b) (A × B)
tells_both x y = tells-then x (λ _. y)

tells-or : {a b : Bool} {A B : Type 0} → Tells a A → Tells b B → Tells (a || b) (A ⊎ B)
tells-or {a} {b} {A} {B} x y = record { to = to a x; from = from }
  where
    to : (a : Bool) → Tells a A → (a || b) ≡ true → A ⊎ B
    to true x t = inl (x.to refl)
    to false x t = inr (y.to t)

    right : (a : Bool) → b ≡ true → (a || b) ≡ true
    right true t = refl
    right false t = t

    from : A ⊎ B → (a || b) ≡ true
    from (inl p) = rw (x.from p) refl
    from (inr q) = right a (y.from q)

pub tells-between : (a b x : ℕ) → Tells (between a b x) (Between a b x)
tells-between a b x = tells_both (tells-le a x) (tells-le x b)

-- what holds of each code of a to a + k holds of one between them
within : (P : ℕ → Type 0) (k a : ℕ) {code : ℕ} → FromTo P k a → Between a (a + k) code → P code
within P k a {code} each w = each-between P k a code each ((tells-between a (a + k) code).from w)

-- all bytes pass a test exactly where what it tests holds of each
tells_all : {t : ℕ → Bool} {P : ℕ → Type 0} → ((b : ℕ) → Tells (t b) (P b)) → (v : List ℕ) → Tells (all t v) (Each P v)
unfolding all
tells_all {t} {P} x v = record { to = to v; from = from v }
  where
    to : (v : List ℕ) → all t v ≡ true → Each P v
    to [] h = none
    to (b ∷ bs) h = let w = both (t b) (all t bs) h in also ((x b).to w.0) (to bs w.1)

    from : (v : List ℕ) → Each P v → all t v ≡ true
    from [] none = refl
    from (b ∷ bs) (also p ps) = rw ((x b).from p, from bs ps) refl

-- ---- FBOSS v5

printables : (v : List ℕ) → Tells (all printable v) (Each Printable v)
printables v = tells_all (tells-between 0x20 0x7E) v

-- text of n bytes
tells-long : (n : ℕ) (v : List ℕ) → Tells (eqb (length v) n && all printable v) ((length v ≡ n) × Each Printable v)
tells-long n v = tells_both (tells-eq (length v) n) (printables v)

digits : (v : List ℕ) → Tells (all digit v) (Each (Between 0x30 0x39) v)
digits v = tells_all (tells-between 0x30 0x39) v

-- what holds of every byte that a byte of a form stands for, and of every list of a form, digit by digit
abbrev pub OfByte : Bool → ℕ → (ℕ → Type 0) → Type 0
OfByte true x P = (a : ℕ) → a ≤ 9 → P (0x30 + a)
OfByte false x P = P x

abbrev pub OfForm : List ℕ → (List ℕ → Type 0) → Type 0
OfForm [] P = P []
OfForm (x ∷ xs) P = OfByte (eqb x 0x30) x (λ b. OfForm xs (λ bs. P (b ∷ bs)))

of-byte : (t : Bool) (x b : ℕ) (P : ℕ → Type 0) → OfByte t x P → if t (λ _. digit b) (λ _. eqb b x) ≡ true → P b
of-byte true x b P h q =
    let d = (tells-between 0x30 0x39 b).to q in
    let is : 0x30 + (b - 0x30) ≡ b = omega arith in
    rw is at (h (b - 0x30) (omega arith))
of-byte false x b P h q = rw (eqb-true b x q) h

pub of-form : (form : List ℕ) (P : List ℕ → Type 0) → OfForm form P → (v : List ℕ) → formed form v ≡ true → P v
unfolding formed
of-form [] P h [] q = h
of-form [] P h (b ∷ bs) q = false-true q
of-form (x ∷ xs) P h [] q = false-true q
of-form (x ∷ xs) P h (b ∷ bs) q =
    let w = both (fits_form x b) (formed xs bs) q in
    of-form xs (λ bs. P (b ∷ bs)) (of-byte (eqb x 0x30) x b (λ b. OfForm xs (λ bs. P (b ∷ bs))) h w.0) bs w.1

-- so many digits are a form of that many zeros
digits-formed : (v : List ℕ) → all digit v ≡ true → formed (replicate (length v) 0x30) v ≡ true
unfolding formed all
digits-formed [] h = refl
digits-formed (b ∷ bs) h = let w = both (digit b) (all digit bs) h in rw (w.0, digits-formed bs w.1)

-- a digit as it stands in a value
digit-byte : (a : ℕ) → a ≤ 9 → Between 0x30 0x39 (0x30 + a)
digit-byte a a9 = (omega arith, omega arith)

digit-passes : (a : ℕ) → a ≤ 9 → digit (0x30 + a) ≡ true
digit-passes a a9 = (tells-between 0x30 0x39 (0x30 + a)).from (digit-byte a a9)

-- the numbers that two digits show, and four
pub two-digits : (m n : ℕ) → (0x30 + m - 0x30) * 10 + (0x30 + n - 0x30) ≡ m * 10 + n
two-digits m n = omega arith

pub four-digits : (a b c d : ℕ) → ((0x30 + a - 0x30) * 10 + (0x30 + b - 0x30)) * 100 + ((0x30 + c - 0x30) * 10 + (0x30 + d - 0x30)) ≡ a * 1000 + b * 100 + c * 10 + d
four-digits a b c d = rw (two-digits a b, two-digits c d) (omega arith)

tells-day : (y m d : ℕ) → Tells (is_day (date y m d)) (Printed y m d)
tells-day y m d = record { to = as-printed.taken y m d; from = as-printed.known y m d }

-- what the test of a date tests
abbrev Dated : List ℕ → Type 0
Dated v = ((length v ≡ 8) × Each (Between 0x30 0x39) v) × Printed (four_digits 0 v) (two_digits 4 v) (two_digits 6 v)

tells-date : (v : List ℕ) → Tells (date_rule v) (Dated v)
unfolding date_rule
tells-date v = tells_both (tells_both (tells-eq (length v) 8) (digits v)) (tells-day (four_digits 0 v) (two_digits 4 v) (two_digits 6 v))

-- a date has eight digits
pub date-formed : (v : List ℕ) → date_rule v ≡ true → formed (replicate 8 0x30) v ≡ true
date-formed v h = let w = ((tells-date v).to h).0 in rw w.0 at (digits-formed v ((digits v).from w.1))

date-kept : (v : List ℕ) → date_rule v ≡ true → FbossValue 13 v
date-kept v h =
    of-form (replicate 8 0x30) (λ v. Printed (four_digits 0 v) (two_digits 4 v) (two_digits 6 v) → FbossValue 13 v)
    (λ a a9 b b9 c c9 d d9 m m9 n n9 x x9 y y9 day.
    FbossValue.date a b c d m n x y refl a9 b9 c9 d9 m9 n9 x9 y9 (rw (four-digits a b c d, two-digits m n, two-digits x y) at day))
    v (date-formed v h) ((tells-date v).to h).1

-- 01's line of text codes as a test
tells-text : (code : ℕ) → Tells (between 1 2 code || (between 6 7 code || (between 11 12 code || between 14 16 code))) (TextCode code)
tells-text code = tells-or (tells-between 1 2 code) (tells-or (tells-between 6 7 code) (tells-or (tells-between 11 12 code) (tells-between 14 16 code)))

-- a value passes the test of a code
abbrev Passes : List ℕ → ℕ → Type 0
Passes v code = fboss_rule code v ≡ true

-- a value that passes is as 01 has it
abbrev Kept : List ℕ → ℕ → Type 0
Kept v code = Passes v code → FbossValue code v

-- this holds of each code
fboss-kept : (code : ℕ) (v : List ℕ) → Between 1 20 code → Kept v code
unfolding fboss_rule one_of
fboss-kept code v =
    let from17 : FromTo (Kept v) 3 17 = (blocks 17 refl, (blocks 18 refl, (blocks 19 refl, blocks 20 refl))) in
    let from11 : FromTo (Kept v) 9 11 = (texts 11 refl, (texts 12 refl, (date-kept v, (texts 14 refl, (texts 15 refl, (texts 16 refl, from17)))))) in
    let from6 : FromTo (Kept v) 14 6 = (texts 6 refl, (texts 7 refl, (numbers 8 refl, (numbers 9 refl, (numbers 10 refl, from11))))) in
    let from1 : FromTo (Kept v) 19 1 = (texts 1 refl, (texts 2 refl, (eights, (twelves 4 refl, (twelves 5 refl, from6))))) in
    within (Kept v) 19 1 from1
  where
    texts : (c : ℕ) → (between 1 2 c || (between 6 7 c || (between 11 12 c || between 14 16 c))) ≡ true → all printable v ≡ true → FbossValue c v
    texts c w h = FbossValue.text ((tells-text c).to w) ((printables v).to h)

    eights : (eqb (length v) 8 && all printable v) ≡ true → FbossValue 3 v
    eights h = let w = (tells-long 8 v).to h in FbossValue.eight refl w.0 w.1

    twelves : (c : ℕ) → between 4 5 c ≡ true → (eqb (length v) 12 && all printable v) ≡ true → FbossValue c v
    twelves c b h = let w = (tells-long 12 v).to h in FbossValue.twelve ((tells-between 4 5 c).to b) w.0 w.1

    numbers : (c : ℕ) → between 8 10 c ≡ true → eqb (length v) 1 ≡ true → FbossValue c v
    numbers c b h = FbossValue.number ((tells-between 8 10 c).to b) ((tells-eq (length v) 1).to h)

    blocks : (c : ℕ) → between 17 20 c ≡ true → eqb (length v) 8 ≡ true → FbossValue c v
    blocks c b h = FbossValue.addresses ((tells-between 17 20 c).to b) ((tells-eq (length v) 8).to h)

-- a value as 01 has it passes
fboss-passes : {code : ℕ} {v : List ℕ} → FbossValue code v → Passes v code
unfolding fboss_rule one_of
fboss-passes {v} (FbossValue.text (inl w) ts) = let t = (printables v).from ts in within (Passes v) 1 1 (t, t) w
fboss-passes {v} (FbossValue.text (inr (inl w)) ts) = let t = (printables v).from ts in within (Passes v) 1 6 (t, t) w
fboss-passes {v} (FbossValue.text (inr (inr (inl w))) ts) = let t = (printables v).from ts in within (Passes v) 1 11 (t, t) w
fboss-passes {v} (FbossValue.text (inr (inr (inr w))) ts) = let t = (printables v).from ts in within (Passes v) 2 14 (t, (t, t)) w
fboss-passes {v} (FbossValue.eight is n ts) = rw is ((tells-long 8 v).from (n, ts))
fboss-passes {v} (FbossValue.twelve w n ts) = let t = (tells-long 12 v).from (n, ts) in within (Passes v) 1 4 (t, t) w
fboss-passes (FbossValue.date a b c d m n x y is a9 b9 c9 d9 m9 n9 x9 y9 day) =
    let later = also (digit-byte m m9) (also (digit-byte n n9) (also (digit-byte x x9) (also (digit-byte y y9) none))) in
    let all = also (digit-byte a a9) (also (digit-byte b b9) (also (digit-byte c c9) (also (digit-byte d d9) later))) in
    rw is ((tells-date _).from ((refl, all), rw (four-digits a b c d, two-digits m n, two-digits x y) day))
fboss-passes {v} (FbossValue.number w n) = let t = (tells-eq (length v) 1).from n in within (Passes v) 2 8 (t, (t, t)) w
fboss-passes {v} (FbossValue.addresses w n) = let t = (tells-eq (length v) 8).from n in within (Passes v) 3 17 (t, (t, (t, t))) w

fboss-between : {e code : ℕ} → Named Fboss e code → Between 1 20 code
fboss-between (since_one le (One.fboss a z)) = (a, omega arith)
fboss-between (since_two le (Two.fboss a z)) = (omega arith, z)
fboss-between {e = e} {code = code} (since_three _ x'') = elim x'' [ ]

-- ---- VPD 2.0

tells-key-byte : (b : ℕ) → Tells (key_byte b) (KeyByte b)
tells-key-byte b =
    rw (or_assoc (between 0x61 0x7A b || between 0x41 0x5A b) (between 0x30 0x39 b) (eqb b 0x5F), or_assoc (between 0x61 0x7A b) (between 0x41 0x5A b) _)
    (tells-or (tells-between 0x61 0x7A b) (tells-or (tells-between 0x41 0x5A b) (tells-or (tells-between 0x30 0x39 b) (tells-eq b 0x5F))))

vpd-key : {e code : ℕ} (key : List ℕ) → Named Vpd e code → Tells (vpd_reader_key code key) (VpdKey code key)
unfolding vpd_reader_key
vpd-key {e} {code} key n = record { to = to n; from = from }
  where
    to : {code : ℕ} → Named Vpd e code → vpd_reader_key code key ≡ true → VpdKey code key
    to (since_one le vpd01) h = VpdKey.string refl ((tells-lt 0 (length key)).to h)
    to (since_two le vpd_fe) h = VpdKey.info refl
    to (since_three _ x3) h = elim x3 [ ]

    from : VpdKey code key → vpd_reader_key code key ≡ true
    from (VpdKey.string is long) = rw is ((tells-lt 0 (length key)).from long)
    from (VpdKey.info is) = rw is refl

-- the bytes of a key that is written
vpd-alphabet : (code : ℕ) (key : List ℕ) → Tells (if (eqb code 0x01) (λ _. all key_byte key) (λ _. true)) (code ≡ 0x01 → Each KeyByte key)
vpd-alphabet code key = go (eqb code 0x01) refl
  where
    go : (b : Bool) → eqb code 0x01 ≡ b → Tells (if b (λ _. all key_byte key) (λ _. true)) (code ≡ 0x01 → Each KeyByte key)
    go true is = record { to = λ t _. (tells_all tells-key-byte key).to t; from = λ each. (tells_all tells-key-byte key).from (each (eqb-true code 0x01 is)) }
    go false not = record { to = λ _ is. absurd (eqb-false code 0x01 not is); from = λ _. refl }

vpd-value : {e code : ℕ} (v : List ℕ) → Named Vpd e code → Tells (vpd_rule code v) (VpdValue code v)
unfolding vpd_rule
vpd-value {e} {code} v n = record { to = to n; from = from }
  where
    to : {code : ℕ} → Named Vpd e code → vpd_rule code v ≡ true → VpdValue code v
    to (since_one le vpd01) h = VpdValue.string refl
    to (since_two le vpd_fe) h = VpdValue.info refl ((tells-eq (length v) 4).to h)
    to (since_three _ x3) h = elim x3 [ ]

    from : VpdValue code v → vpd_rule code v ≡ true
    from (VpdValue.string is) = rw is refl
    from (VpdValue.info is four) = rw is ((tells-eq (length v) 4).from four)

-- ---- Tiny version 2

-- the n bytes of a list from a place on, place by place
abbrev placed : ℕ → ℕ → List ℕ → List ℕ
placed zero i v = []
placed (suc n) i v = get_or v i 0 ∷ placed n (suc i) v

is-placed : (n i : ℕ) (v : List ℕ) → length v ≡ i + n → drop i v ≡ placed n i v
is-placed zero i v q = let end : length v ≤ i = omega arith in drop_of_length-le v end
is-placed (suc n) i v q = rw (drop-cons v i 0 (omega arith), is-placed n (suc i) v (omega arith)) refl

tells-revision : (v : List ℕ) → Tells (revision_rule v) (Revision (get_or v 2 0) (get_or v 3 0))
tells-revision v = tells_both (tells-or (tells-le (get_or v 2 0) 99) (tells-between 128 153 (get_or v 2 0))) (tells-le (get_or v 3 0) 99)

tells-batched : (v : List ℕ) → Tells (revision_rule v && leb (batch v) 9999) (Revision (get_or v 2 0) (get_or v 3 0) × (batch v ≤ 9999))
tells-batched v = tells_both (tells-revision v) (tells-le (batch v) 9999)

identity-kept : {code : ℕ} (v : List ℕ) → Between 0x61 0x62 code → length v ≡ 6 → revision_rule v ≡ true → TinyValue code v
identity-kept v w six h = rw (is-placed 6 0 v six) (TinyValue.identity _ _ _ _ _ _ w ((tells-revision v).to h))

batched-kept : {code : ℕ} (v : List ℕ) → Between 0x80 0x81 code → length v ≡ 8 → (revision_rule v && leb (batch v) 9999) ≡ true → TinyValue code v
batched-kept v w eight h =
    let r = (tells-batched v).to h in
    rw (is-placed 8 0 v eight) (TinyValue.batched _ _ _ _ _ _ _ _ w r.0 r.1)

-- a value that passes and has the length of its tag is as 01 has it
tiny-kept : {e code : ℕ} (v : List ℕ) → Named Tiny e code → (16 ≤ code → length v ≡ code / 16) → tiny_rule code v ≡ true → TinyValue code v
unfolding tiny_rule
tiny-kept v (since_one le tiny01) sized h = TinyValue.pool refl
tiny-kept v (since_one le tiny10) sized h = TinyValue.any (inl refl)
tiny-kept v (since_one le tiny11) sized h = TinyValue.any (inr (inl refl))
tiny-kept v (since_one le tiny60) sized h = TinyValue.any (inr (inr refl))
tiny-kept v (since_one le tiny61) sized h = identity-kept v (omega arith, omega arith) (sized (omega arith)) h
tiny-kept v (since_one le tiny62) sized h = identity-kept v (omega arith, omega arith) (sized (omega arith)) h
tiny-kept v (since_two le tiny80) sized h = batched-kept v (omega arith, omega arith) (sized (omega arith)) h
tiny-kept v (since_two le tiny81) sized h = batched-kept v (omega arith, omega arith) (sized (omega arith)) h
tiny-kept {e = e} {code = code} v (since_three _ x4) sized h = elim x4 [ ]

tiny-passes : {code : ℕ} {v : List ℕ} → TinyValue code v → tiny_rule code v ≡ true
unfolding tiny_rule
tiny-passes (TinyValue.pool is) = rw is refl
tiny-passes (TinyValue.any (inl is)) = rw is refl
tiny-passes (TinyValue.any (inr (inl is))) = rw is refl
tiny-passes (TinyValue.any (inr (inr is))) = rw is refl
tiny-passes {v} (TinyValue.identity s p major minor x y w r) = let t = (tells-revision v).from r in within (λ c. tiny_rule c v ≡ true) 1 0x61 (t, t) w
tiny-passes {v} (TinyValue.batched s p major minor x y low high w r most) =
    let t = (tells-batched v).from (r, most) in within (λ c. tiny_rule c v ≡ true) 1 0x80 (t, t) w

-- ---- ONIE

-- what the test of a date with time tests
abbrev Stamped : List ℕ → Type 0
Stamped v =
    ((formed date_form v ≡ true) × Printed (four_digits 6 v) (two_digits 0 v) (two_digits 3 v))
    × (((two_digits 11 v ≤ 23) × (two_digits 14 v ≤ 59)) × (two_digits 17 v ≤ 59))

tells-formed : (v : List ℕ) → Tells (formed date_form v) (formed date_form v ≡ true)
tells-formed v = record { to = λ t. t; from = λ t. t }

tells-stamp : (v : List ℕ) → Tells (onie_date_rule v) (Stamped v)
unfolding onie_date_rule is_time
tells-stamp v =
    tells_both (tells_both (tells-formed v) (tells-day (four_digits 6 v) (two_digits 0 v) (two_digits 3 v)))
    (tells_both (tells_both (tells-le (two_digits 11 v) 23) (tells-le (two_digits 14 v) 59)) (tells-le (two_digits 17 v) 59))

-- a date with time has the form of one
pub stamp-formed : (v : List ℕ) → onie_date_rule v ≡ true → formed date_form v ≡ true
stamp-formed v h = ((tells-stamp v).to h).0.0

stamp-kept : (v : List ℕ) → onie_date_rule v ≡ true → OnieValue 0x25 v
stamp-kept v h =
    of-form date_form
    (λ v. Printed (four_digits 6 v) (two_digits 0 v) (two_digits 3 v) → two_digits 11 v ≤ 23 → two_digits 14 v ≤ 59 → two_digits 17 v ≤ 59 → OnieValue 0x25 v)
    (λ m₁ a₁ m₂ a₂ d₁ a₃ d₂ a₄ y₁ a₅ y₂ a₆ y₃ a₇ y₄ a₈ h₁ a₉ h₂ b₁ n₁ b₂ n₂ b₃ s₁ b₄ s₂ b₅ day hour minute second.
    let clock = also a₉ (also b₁ (also b₂ (also b₃ (also b₄ (also b₅ none))))) in
    OnieValue.date m₁ m₂ d₁ d₂ y₁ y₂ y₃ y₄ h₁ h₂ n₁ n₂ s₁ s₂ refl (also a₁ (also a₂ (also a₃ (also a₄ (also a₅ (also a₆ (also a₇ (also a₈ clock))))))))
    (rw (four-digits y₁ y₂ y₃ y₄, two-digits m₁ m₂, two-digits d₁ d₂) at day)
    (rw (two-digits h₁ h₂) at hour) (rw (two-digits n₁ n₂) at minute) (rw (two-digits s₁ s₂) at second))
    v w.0.0 w.0.1 w.1.0.0 w.1.0.1 w.1.1
  where
    w : Stamped v
    w = (tells-stamp v).to h

tells-country : (v : List ℕ) → Tells (eqb (length v) 2 && all capital v) ((length v ≡ 2) × Each (Between 0x41 0x5A) v)
tells-country v = tells_both (tells-eq (length v) 2) (tells_all (tells-between 0x41 0x5A) v)

country-kept : (v : List ℕ) → length v ≡ 2 → Each (Between 0x41 0x5A) v → OnieValue 0x2C v
country-kept v two each = rw (is-placed 2 0 v two) (go (rw (is-placed 2 0 v two) at each))
  where
    go : {a b : ℕ} → Each (Between 0x41 0x5A) (a ∷ b ∷ []) → OnieValue 0x2C (a ∷ b ∷ [])
    go {a} {b} (also p (also q none)) = OnieValue.country a b refl p q

-- a value that passes is as document 02 has it
onie-kept : {e code : ℕ} (v : List ℕ) → Named Onie e code → onie_rule code v ≡ true → OnieValue code v
unfolding onie_rule one_of
onie-kept v (since_three le onie21) h = OnieValue.text (inl (omega arith, omega arith)) ((printables v).to h)
onie-kept v (since_three le onie22) h = OnieValue.text (inl (omega arith, omega arith)) ((printables v).to h)
onie-kept v (since_three le onie23) h = OnieValue.text (inl (omega arith, omega arith)) ((printables v).to h)
onie-kept v (since_three le onie24) h = OnieValue.address refl ((tells-eq (length v) 6).to h)
onie-kept v (since_three le onie25) h = stamp-kept v h
onie-kept v (since_three le onie2_a) h = OnieValue.number refl ((tells-eq (length v) 2).to h)
onie-kept v (since_three le onie2_b) h = OnieValue.text (inr (inl refl)) ((printables v).to h)
onie-kept v (since_three le onie2_c) h = let w = (tells-country v).to h in country-kept v w.0 w.1
onie-kept v (since_three le onie2_d) h = OnieValue.text (inr (inr refl)) ((printables v).to h)
onie-kept v (since_three le onie_fd) h = OnieValue.vendor refl ((tells-le 4 (length v)).to h)
onie-kept {e = e} {code = code} v (since_one _ x3) h = elim x3 [ ]
onie-kept {e = e} {code = code} v (since_two _ x4) h = elim x4 [ ]

-- a value as document 02 has it passes
onie-passes : {code : ℕ} {v : List ℕ} → OnieValue code v → onie_rule code v ≡ true
unfolding onie_rule formed one_of
onie-passes {v} (OnieValue.text (inl w) ts) = let t = (printables v).from ts in within (λ c. onie_rule c v ≡ true) 2 0x21 (t, (t, t)) w
onie-passes {v} (OnieValue.text (inr (inl is)) ts) = rw is ((printables v).from ts)
onie-passes {v} (OnieValue.text (inr (inr is)) ts) = rw is ((printables v).from ts)
onie-passes {v} (OnieValue.address is n) = rw is ((tells-eq (length v) 6).from n)
onie-passes {v} (OnieValue.date m₁ m₂ d₁ d₂ y₁ y₂ y₃ y₄ h₁ h₂ n₁ n₂ s₁ s₂ is
    (also a₁ (also a₂ (also a₃ (also a₄ (also a₅ (also a₆ (also a₇ (also a₈ (also a₉ (also b₁ (also b₂ (also b₃ (also b₄ (also b₅ none))))))))))))))
    day hour minute second) =
    let form : formed date_form v ≡ true =
    rw (
      digit-passes m₁ a₁,
      digit-passes m₂ a₂,
      digit-passes d₁ a₃,
      digit-passes d₂ a₄,
      digit-passes y₁ a₅,
      digit-passes y₂ a₆,
      digit-passes y₃ a₇,
      digit-passes y₄ a₈,
      digit-passes h₁ a₉,
      digit-passes h₂ b₁,
      digit-passes n₁ b₂,
      digit-passes n₂ b₃,
      digit-passes s₁ b₄,
      digit-passes s₂ b₅,
    ) in
    rw is
    ((tells-stamp v).from (
      (form, rw (four-digits y₁ y₂ y₃ y₄, two-digits m₁ m₂, two-digits d₁ d₂) day),
      ((rw (two-digits h₁ h₂) hour, rw (two-digits n₁ n₂) minute), rw (two-digits s₁ s₂) second),
    ))
onie-passes {v} (OnieValue.number is n) = rw is ((tells-eq (length v) 2).from n)
onie-passes {v} (OnieValue.country a b is p q) = rw is ((tells-country v).from (refl, also p (also q none)))
onie-passes {v} (OnieValue.vendor is n) = rw is ((tells-le 4 (length v)).from n)

-- ---- any format

-- the length of a value that a tag says, where it says one
abbrev Fits : Format → ℕ → ℕ → Type 0
Fits Fboss code n = Unit {0}
Fits Vpd code n = Unit {0}
Fits Tiny code n = 16 ≤ code → n ≡ code / 16
Fits Onie code n = Unit {0}

-- an entry's value has it
entry-fits : (g : Format) {bytes : List ℕ} {c : Content} → EntryOf (grammar g) bytes c → Fits g c.code (length c.value)
entry-fits Fboss x = tt
entry-fits Vpd x = tt
entry-fits Tiny x = go x.says
  where
    go : {code n : ℕ} {lens : List ℕ} → TinySays code lens n → Fits Tiny code n
    go (inl (low, is)) = λ high. absurd (omega arith)
    go (inr (high, is, sized)) = λ _. sized
entry-fits Onie x = tt

-- so has a value of the length that may be written
length-fits : (g : Format) (code n : ℕ) → LengthRule g code n → Fits g code n
length-fits Fboss code n l = tt
length-fits Vpd code n l = tt
length-fits Tiny code n (inl (low, short)) = λ high. absurd (omega arith)
length-fits Tiny code n (inr (high, sized)) = λ _. sized
length-fits Onie code n l = tt

tells-nothing : Tells true (Unit {0})
tells-nothing = record { to = λ _. tt; from = λ _. refl }

key-exactly : (g : Format) (e code : ℕ) (key : List ℕ) → Named g e code → Tells ((shape g).reader_key code key) (KeyRule g code key)
unfolding fboss vpd tiny onie
key-exactly Fboss e code key n = tells-nothing
key-exactly Vpd e code key n = vpd-key key n
key-exactly Tiny e code key n = tells-nothing
key-exactly Onie e code key n = tells-nothing

new-key-exactly : (g : Format) (e code : ℕ) (key : List ℕ) → Named g e code → Tells ((shape g).writer_key code key) (KeyRule g code key × AlphabetRule g code key)
unfolding fboss vpd tiny onie
new-key-exactly Fboss e code key n = tells_both tells-nothing tells-nothing
new-key-exactly Vpd e code key n = rw (writer-key code key) (tells_both (vpd-key key n) (vpd-alphabet code key))
new-key-exactly Tiny e code key n = tells_both tells-nothing tells-nothing
new-key-exactly Onie e code key n = tells_both tells-nothing tells-nothing

value-exactly : (g : Format) (e code : ℕ) (v : List ℕ) → Named g e code → Fits g code (length v) → Tells ((shape g).value_rule code v) (ValueRule g code v)
unfolding fboss vpd tiny onie
value-exactly Fboss e code v n fits = record { to = fboss-kept code v (fboss-between n); from = fboss-passes }
value-exactly Vpd e code v n fits = vpd-value v n
value-exactly Tiny e code v n fits = record { to = tiny-kept v n fits; from = tiny-passes }
value-exactly Onie e code v n fits = record { to = onie-kept v n; from = onie-passes }

-- a length that one byte says
tells-byte : (n : ℕ) → Tells (ltb n 256) (n ≤ 255)
tells-byte n = record { to = λ t. omega (arith, ltb-true n 256 t); from = λ l. lt-ltb n 256 (omega arith) }

length-exactly : (g : Format) (code n : ℕ) → Tells ((shape g).length_rule code n) (LengthRule g code n)
unfolding fboss vpd tiny onie
length-exactly Fboss code n = tells-byte n
length-exactly Vpd code n = tells-nothing
length-exactly Tiny code n = record { to = to; from = from }
  where
    to : tiny_takes code n ≡ true → LengthRule Tiny code n
    to =
        either (λ b. b ≡ true → LengthRule Tiny code n) (ltb code 16)
        (λ low t. inl (ltb-true code 16 low, (tells-byte n).to t))
        (λ high t. inr (ltb-false code 16 high, eqb-true n (code / 16) t))

    from : LengthRule Tiny code n → tiny_takes code n ≡ true
    from (inl (low, short)) = rw (lt-ltb code 16 low) ((tells-byte n).from short)
    from (inr (high, sized)) = rw (le-ltb code 16 high) (eq-eqb n (code / 16) sized)
length-exactly Onie code n = tells-byte n

-- the rule on a new value
edit-exactly : (g : Format) (e code : ℕ) (v : List ℕ) → Named g e code → Tells (edit_rule (shape g) code v) (LengthRule g code (length v) × ValueRule g code v)
unfolding edit_rule
edit-exactly g e code v n = tells-then (length-exactly g code (length v)) (λ l. value-exactly g e code v n (length-fits g code (length v) l))

reader-exactly : (g : Format) (e : ℕ) (bytes : List ℕ) (c : Content) → Named g e c.code → EntryOf (grammar g) bytes c →
    Tells (reader_rule (shape g) c) (KeyRule g c.code c.key × ValueRule g c.code c.value)
unfolding reader_rule
reader-exactly g e bytes c n x = tells_both (key-exactly g e c.code c.key n) (value-exactly g e c.code c.value n (entry-fits g x))

-- a field's rule is the writer's rule on its key, and the rule on a new value
writer-exactly : (g : Format) (e : ℕ) (c : Content) → Named g e c.code →
    Tells (writer_rule (shape g) c)
    (KeyRule g c.code c.key × AlphabetRule g c.code c.key × LengthRule g c.code (length c.value) × ValueRule g c.code c.value)
unfolding writer_rule edit_rule
writer-exactly g e c n =
    let x = tells_both (new-key-exactly g e c.code c.key n) (edit-exactly g e c.code c.value n) in
    rw and_assoc (record { to = λ t. let w = x.to t in (w.0.0, w.0.1, w.1.0, w.1.1); from = λ (k, a, l, v). x.from ((k, a), (l, v)) })

pub rules : Rules
rules = record { reader = reader-exactly; writer = writer-exactly; edit = edit-exactly }
