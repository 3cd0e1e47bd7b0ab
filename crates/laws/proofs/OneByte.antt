-- Entries that open with their code byte alone, and lengths of one byte.
-- Assumes nothing.
use Prim.Native.Nat.{ℕ, suc, ◌+◌}
use mathlib.Core.Path.{◌≡◌, refl}
use mathlib.Core.List.{List, [], ◌∷◌, ◌++◌}
use mathlib.Core.Bool.{true}
use native.Mathlib.Omega.{arith}
use lib.ListN.{length, get_or, drop, length-append}
use lib.Seq.{drop-cons, get_or_at}
use lib.Dec.{ltb}
use borrow.Author.Tests.{ltb-true, lt-ltb}
use Rattle.std.specs.Prelude.{Ok}
use Rattle.layout.specs.declared.Head.{Head}
use Rattle.layout.specs.Shape.{bare_head, byte_length}
use Rattle.laws.specs.Grammar.{Grammar}
use Rattle.laws.proofs.Format.{KeyLast, Begins, Goes}
use Rattle.layout.proofs.Choices.{either}
use Rattle.laws.proofs.Outcomes.{OnLength}

-- A code byte alone ends with the empty key.
pub bare-key : {front key : List ℕ} {c : ℕ} → front ≡ c ∷ [] → key ≡ [] → KeyLast front key
bare-key {c} is keyless = rw (is, keyless) (record { before = c ∷ []; joined = refl; some = omega arith })

-- A list whose first byte is an opening begins with the bare head of that byte.
pub bare-begins : {G : Grammar} (s : List ℕ) → ltb 0 (length s) ≡ true → G.Opening (get_or s 0 0 ∷ []) (get_or s 0 0) [] → Begins G s (bare_head (get_or s 0 0))
bare-begins s there o =
    record {
      front = get_or s 0 0 ∷ [];
      key = [];
      rest = drop 1 s;
      joined = drop-cons s 0 0 (ltb-true 0 (length s) there);
      opens = o;
      says = refl;
    }

-- A length of one byte that is read is the byte where the length of the value begins.
pub byte-goes : (G : Grammar) (s : List ℕ) (h : Head) → ((v : ℕ) → G.Says h.code (v ∷ []) v) → OnLength (Goes G s h) (byte_length h s)
byte-goes G s h says =
    either (OnLength (Goes G s h)) (ltb h.at (length s))
    (λ there.
    record {
      lens = get_or s h.at 0 ∷ [];
      rest = drop (suc h.at) s;
      joined = drop-cons s h.at 0 (ltb-true h.at (length s) there);
      says = says (get_or s h.at 0);
      ends = refl;
    })
    (λ _. tt)

-- A byte where the length of the value begins is read as that length.
pub byte-read : (a t : List ℕ) (h : Head) (v : ℕ) → length a ≡ h.at → byte_length h (a ++ (v ∷ t)) ≡ Ok (v, (h.at + 1))
byte-read a t h v e =
    rw (lt-ltb h.at (length (a ++ (v ∷ t))) (omega (arith, length-append a (v ∷ t))), get_or_at a v t 0 h.at e)
