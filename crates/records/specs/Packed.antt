-- The packed answer: one number of 64 bits for what a call tells.
-- Assumes nothing.
use Rattle.std.specs.Prelude.{ℕ, ◌+◌, ◌*◌, ◌%◌, eqb}
use Rattle.layout.specs.Bytes.{if}
use Rattle.layout.specs.Calls.{Told}

-- bits 59 to 63 are the number. Where it is 0, bits 32 to 58 are the count and bits 0 to 31 the part's place; else bits 0 to 58 are the place
unfoldable pub packed : Told → ℕ
packed t =
    if (eqb t.number 0)
    (λ _. t.count % 134217728 * 4294967296 + t.part.place.0 % 4294967296)
    (λ _. t.number % 32 * 576460752303423488 + t.place % 576460752303423488)
