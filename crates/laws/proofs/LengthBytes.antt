-- The length bytes of VPD 2.0: what is read is what the grammar says, and the shortest are among them.
-- Assumes nothing.
use Prim.Native.Nat.{ℕ, zero, suc, ◌+◌, ◌*◌, ◌-◌, ◌/◌, ◌%◌, ◌≤◌, ◌<◌}
use mathlib.Core.Path.{◌≡◌, refl, sym, ap, ◌∙◌}
use mathlib.Core.List.{List, [], ◌∷◌, ◌++◌}
use mathlib.Core.Bool.{Bool, true, false}
use native.Mathlib.Numerals.{add-one}
use native.Mathlib.Omega.{arith}
use lib.ListN.{length, get_or, drop, length-append}
use lib.Seq.{drop-cons, append_snoc, get_or_at}
use lib.Dec.{ltb}
use borrow.Author.Tests.{ltb-true, ltb-false, lt-ltb, le-ltb}
use Rattle.std.specs.Prelude.{Ok, Err}
use Rattle.layout.specs.Answers.{Length}
use Rattle.layout.specs.Vpd.{groups, shortest}
use Rattle.layout.proofs.Pairs.{ok-pair}
use Rattle.layout.specs.Each.{Each, none, also}
use Rattle.laws.specs.Grammar.{LengthBytes, last_byte, more_byte}

-- s has, from j on, at most k length bytes that say v, where the bytes before them said `far`; and they end at i
pub record Said (k far j : ℕ) (s : List ℕ) (v i : ℕ) : Type 0 where
  pub bytes : List ℕ
  pub rest : List ℕ
  pub joined : drop j s ≡ bytes ++ rest
  pub says : LengthBytes k far bytes v
  pub ends : i ≡ j + length bytes

-- the last byte, with the number that it comes to
last_says : {k far b n : ℕ} → b < 128 → n ≡ far * 128 + b → LengthBytes (suc k) far (b ∷ []) n
last_says lt e = rw e (last_byte lt)

-- a byte that another follows, from its seven bits
more-says : {k far n : ℕ} {bytes : List ℕ} (d : ℕ) → LengthBytes k (far * 128 + d) bytes n → LengthBytes (suc k) far ((128 + d) ∷ bytes) n
more-says d says = let q : 128 + d - 128 ≡ d = omega arith in more_byte {b = 128 + d} (omega arith) (rw (← q) at says)

never-reads : {A : Type 0} {n v i : ℕ} → ◌≡◌ {A = Length} (Err n) (Ok (v, i)) → A
never-reads e = let z : ◌≡◌ {A = ℕ} 0 1 = cc in absurd (omega arith)

-- where a length is read, the grammar's length bytes stand
pub groups-sound : (k far j : ℕ) (s : List ℕ) (v i : ℕ) → groups k far j s ≡ Ok (v, i) → Said k far j s v i
unfolding groups
groups-sound zero far j s v i e = never-reads e
groups-sound (suc k) far j s v i e = go (ltb j (length s)) (ltb (get_or s j 0) 128) refl refl (λ n. groups-sound k n (j + 1) s v i)
  where
    go : (b₀ b₁ : Bool) → ltb j (length s) ≡ b₀ → ltb (get_or s j 0) 128 ≡ b₁ →
        ((n : ℕ) → groups k n (j + 1) s ≡ Ok (v, i) → Said k n (j + 1) s v i) → Said (suc k) far j s v i
    go true true e₀ e₁ more =
        let q = rw (e₀, e₁) at e in
        record {
          bytes = get_or s j 0 ∷ [];
          rest = drop (suc j) s;
          joined = drop-cons s j 0 (ltb-true j (length s) e₀);
          says = last_says (ltb-true (get_or s j 0) 128 e₁) (sym (ok-pair q).0);
          ends = sym (ok-pair q).1;
        }
    go true false e₀ e₁ more =
        let m = more _ (rw (e₀, e₁) at e) in
        record {
          bytes = get_or s j 0 ∷ m.bytes;
          rest = m.rest;
          joined = cc (drop-cons s j 0 (ltb-true j (length s) e₀), add-one j, m.joined);
          says = more_byte (ltb-false (get_or s j 0) 128 e₁) m.says;
          ends = omega arith;
        }
    go false b₁ e₀ e₁ more = never-reads (rw e₀ at e)

-- length bytes of the grammar are read as what they say
pub groups-complete : {k far v : ℕ} {l : List ℕ} → LengthBytes k far l v → (j : ℕ) (a t : List ℕ) → length a ≡ j →
    groups k far j (a ++ (l ++ t)) ≡ Ok (v, (j + length l))
unfolding groups
groups-complete (last_byte {b = b} lt) j a t e =
    let there : j < length (a ++ (b ∷ t)) = simp length-append (omega arith) in
    rw (lt-ltb j, get_or_at, lt-ltb)
groups-complete (more_byte {b = b} {n = n} {bytes = bytes} le says) j a t e =
    let there : j < length (a ++ (b ∷ (bytes ++ t))) = simp length-append (omega arith) in
    rw (lt-ltb j, get_or_at, le-ltb, ← append_snoc a b (bytes ++ t))
    (groups-complete says (j + 1) (a ++ (b ∷ [])) t (simp length-append (omega arith)) ∙ ap (λ x. Ok (n, x)) (omega arith))

-- the shortest length bytes say their number
pub shortest-says : (n : ℕ) → LengthBytes 4 0 (shortest n) n
unfolding shortest
shortest-says n = go (ltb n 128) (ltb n 16384) (ltb n 2097152) refl refl refl
  where
    go : (b₀ b₁ b₂ : Bool) → ltb n 128 ≡ b₀ → ltb n 16384 ≡ b₁ → ltb n 2097152 ≡ b₂ → LengthBytes 4 0 (shortest n) n
    go true b₁ b₂ e₀ e₁ e₂ = rw e₀ (last_says (ltb-true n 128 e₀) (omega arith))
    go false true b₂ e₀ e₁ e₂ = rw (e₀, e₁) (more-says (n / 128) (last_says (omega arith) (omega arith)))
    go false false true e₀ e₁ e₂ = rw (e₀, e₁, e₂) (more-says (n / 16384) (more-says (n / 128 % 128) (last_says (omega arith) (omega arith))))
    go false false false e₀ e₁ e₂ =
        rw (e₀, e₁, e₂)
        (more-says (n / 2097152) (more-says (n / 16384 % 128) (more-says (n / 128 % 128) (last_says (omega arith) (omega arith)))))

-- how long the shortest are
shortest-long : (n : ℕ) → (n < 128 → length (shortest n) ≤ 1) × (n < 16384 → length (shortest n) ≤ 2) × (n < 2097152 → length (shortest n) ≤ 3) × (length (shortest n) ≤ 4)
unfolding shortest
shortest-long n = go (ltb n 128) (ltb n 16384) (ltb n 2097152) refl refl refl
  where
    go : (b₀ b₁ b₂ : Bool) → ltb n 128 ≡ b₀ → ltb n 16384 ≡ b₁ → ltb n 2097152 ≡ b₂ →
        (n < 128 → length (shortest n) ≤ 1) × (n < 16384 → length (shortest n) ≤ 2) × (n < 2097152 → length (shortest n) ≤ 3) × (length (shortest n) ≤ 4)
    go true b₁ b₂ e₀ e₁ e₂ = rw e₀ (λ lt. omega arith, λ lt. omega arith, λ lt. omega arith, omega arith)
    go false true b₂ e₀ e₁ e₂ = rw (e₀, e₁) (λ lt. omega (arith, ltb-false n 128 e₀), λ lt. omega arith, λ lt. omega arith, omega arith)
    go false false true e₀ e₁ e₂ =
        rw (e₀, e₁, e₂) (λ lt. omega (arith, ltb-false n 128 e₀), λ lt. omega (arith, ltb-false n 16384 e₁), λ lt. omega arith, omega arith)
    go false false false e₀ e₁ e₂ =
        rw (e₀, e₁, e₂) (λ lt. omega (arith, ltb-false n 128 e₀), λ lt. omega (arith, ltb-false n 16384 e₁), λ lt. omega (arith, ltb-false n 2097152 e₂), omega arith)

-- no bytes say a length in fewer than the shortest
one-byte : {a n : ℕ} → LengthBytes 4 0 (a ∷ []) n → length (shortest n) ≤ 1
one-byte (last_byte {b = b} lt) = (shortest-long (0 * 128 + b)).0 (omega arith)
one-byte (more_byte le says) = elim says [ ]

two-bytes : {a b n : ℕ} → a < 256 → LengthBytes 4 0 (a ∷ b ∷ []) n → length (shortest n) ≤ 2
two-bytes x₀ (more_byte {b = a} le (last_byte {b = b} lt)) = (shortest-long ((0 * 128 + (a - 128)) * 128 + b)).1 (omega arith)
two-bytes x₀ (more_byte le (more_byte le₁ says)) = elim says [ ]

three-bytes : {a b c n : ℕ} → a < 256 → b < 256 → LengthBytes 4 0 (a ∷ b ∷ c ∷ []) n → length (shortest n) ≤ 3
three-bytes x₀ x₁ (more_byte {b = a₀} le₀ (more_byte {b = a₁} le₁ (last_byte {b = b} lt))) = (shortest-long (((0 * 128 + (a₀ - 128)) * 128 + (a₁ - 128)) * 128 + b)).2 (omega arith)
three-bytes x₀ x₁ (more_byte le (more_byte le₁ (more_byte le₂ says))) = elim says [ ]

pub shortest-least : {n : ℕ} {l : List ℕ} → Each (λ b. b < 256) l → LengthBytes 4 0 l n → length (shortest n) ≤ length l
shortest-least none says = elim says [ ]
shortest-least (also x₀ none) says = one-byte says
shortest-least (also x₀ (also x₁ none)) says = two-bytes x₀ says
shortest-least (also x₀ (also x₁ (also x₂ none))) says = three-bytes x₀ x₁ says
shortest-least {n} (also x₀ (also x₁ (also x₂ (also x₃ xs)))) says = let h = (shortest-long n).3 in omega arith
