-- An offset: "a signed byte in tenths of a decibel, so 18h is 24 and FEh is -2" (02, "Vendor blocks for the optics lab"; 003).
-- Assumes nothing.
use Rattle.std.specs.Prelude.{ℕ, ◌-◌, List, [], ◌∷◌, ℤ, pos, negsuc, get_or, ltb}
use Rattle.layout.specs.Bytes.{if}
use Rattle.blocks.specs.declared.Offsets.{Offsets}

-- the number that a byte says: itself below 128, and else the byte less 256. `pos n` is n, and `negsuc n` is -(n + 1)
abbrev pub signed : ℕ → ℤ
signed b = if (ltb b 128) (λ _. pos b) (λ _. negsuc (255 - b))

-- the byte that says a number from -128 to 127
abbrev pub signed_byte : ℤ → ℕ
signed_byte (pos n) = n
signed_byte (negsuc n) = 255 - n

-- eight offsets that eight bytes say, in 003's order
abbrev pub offsets_in : List ℕ → Offsets
offsets_in s =
    record {
      c_west_in = signed (get_or s 0 0);
      c_west_out = signed (get_or s 1 0);
      c_east_in = signed (get_or s 2 0);
      c_east_out = signed (get_or s 3 0);
      l_west_in = signed (get_or s 4 0);
      l_west_out = signed (get_or s 5 0);
      l_east_in = signed (get_or s 6 0);
      l_east_out = signed (get_or s 7 0);
    }

-- a number for each of eight offsets, in the same order
abbrev pub each_offset : (ℤ → ℕ) → Offsets → List ℕ
each_offset g o =
    g o.c_west_in
    ∷ g o.c_west_out
    ∷ g o.c_east_in
    ∷ g o.c_east_out
    ∷ g o.l_west_in
    ∷ g o.l_west_out
    ∷ g o.l_east_in
    ∷ g o.l_east_out
    ∷ []

-- the eight bytes that say eight offsets
abbrev pub offset_bytes : Offsets → List ℕ
offset_bytes o = each_offset signed_byte o
