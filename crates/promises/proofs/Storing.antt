-- What a file that keeps accepted images relies on holds.
-- Assumes nothing.
use Prim.Native.Nat.{ℕ, ◌+◌, ◌≤◌, ◌<◌}
use mathlib.Core.Path.{ap}
use mathlib.Core.List.{List, ◌++◌}
use mathlib.Core.Logic.{inl, inr}
use native.Mathlib.Omega.{arith}
use lib.ListN.{length, length-append}
use Rattle.layout.specs.declared.Format.{Format}
use Rattle.layout.specs.declared.Format.TheVariants.{Fboss, Vpd, Tiny, Onie}
use Rattle.layout.specs.Fboss.{fboss}
use Rattle.layout.specs.Tiny.{tiny}
use Rattle.layout.specs.Onie.{onie}
use Rattle.layout.specs.Editions.{shape}
use Rattle.layout.specs.Walk.{Content}
use Rattle.laws.specs.Grammar.{grammar, Published}
use Rattle.promises.specs.Words.{FormatNumber, fboss as isFboss, vpd as isVpd, tiny as isTiny, onie as isOnie}
use Rattle.promises.specs.Storing.{Storing}
use Rattle.promises.proofs.PublishedRules.{published-rules}

number-below : {f : ℕ} {g : Format} → FormatNumber f g → f < 256
number-below isFboss = omega arith
number-below isVpd = omega arith
number-below isTiny = omega arith
number-below isOnie = omega arith

-- the header and what closes the entries are not both empty
framed : (g : Format) (n : ℕ) (closing : List ℕ) → (grammar g).Closing closing → 1 ≤ length ((shape g).header n) + length closing
unfolding fboss tiny onie
framed Fboss n closing c = omega (arith, ap length c)
framed Vpd n closing (inl c) = omega (arith, ap length c)
framed Vpd n closing (inr c) = omega (arith, ap length c)
framed Tiny n closing c = omega arith
framed Onie n closing c = omega (arith, ap length c)

published-bytes : {g : Format} {e : ℕ} {image : List ℕ} {cs : List Content} → Published g e image cs → 1 ≤ length image
published-bytes {g = g} {image = image} p =
    let more = (shape g).check (p.header ++ p.entries) ++ p.rest in
    omega (
      arith,
      framed g (length p.entries) p.closing p.closes,
      ap length p.headed,
      ap length p.is,
      length-append p.header (p.entries ++ (p.closing ++ more)),
      length-append p.entries (p.closing ++ more),
      length-append p.closing more,
    )

pub storing : Storing
storing =
    record {
      format = λ f e image n q. number-below (published-rules.accepted_is f e image n q).serves.number;
      bytes = λ f e image n q. published-bytes (published-rules.accepted_is f e image n q).published;
    }
