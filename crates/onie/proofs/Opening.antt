-- What the header of an image comes to, test by test.
-- Assumes nothing.
use Prim.Native.Nat.{ℕ, ◌+◌, ◌≤◌, ◌<◌}
use mathlib.Core.Path.{◌≡◌}
use mathlib.Core.List.{List}
use mathlib.Core.Bool.{true, false}
use lib.ListN.{length, get_or}
use borrow.Author.Tests.{lt-ltb, le-ltb, le-leb, lt-leb, eq-eqb, ne_eqb}
use Rattle.std.specs.Prelude.{Ok, Err}
use Rattle.layout.specs.Bytes.{same_bytes, part, refusal}
use Rattle.layout.specs.Onie.{tlv_info, declared, onie_opened}

module _ (s : List ℕ) where
  module _ (long : 11 ≤ length s) where
    pub another : same_bytes (part 0 8 s) tlv_info ≡ false → onie_opened s ≡ Err (refusal 3 0)
    unfolding onie_opened
    another m = rw (le-ltb (length s) 11 long, m)

    module _ (magic : same_bytes (part 0 8 s) tlv_info ≡ true) where
      pub later : (get_or s 8 0 ≡ 0x01 → ⊥) → onie_opened s ≡ Err (refusal 4 0)
      unfolding onie_opened
      later n = rw (le-ltb (length s) 11 long, magic, ne_eqb (get_or s 8 0) 0x01 n)

      module _ (first : get_or s 8 0 ≡ 0x01) where
        pub above : 2048 < declared s → onie_opened s ≡ Err (refusal 5 9)
        unfolding onie_opened
        above lt = rw (le-ltb (length s) 11 long, magic, eq-eqb (get_or s 8 0) 0x01 first, lt-leb (declared s) 2048 lt)

        module _ (most : declared s ≤ 2048) where
          pub past : length s < 11 + declared s → onie_opened s ≡ Err (refusal 5 9)
          unfolding onie_opened
          past lt = rw (le-ltb (length s) 11 long, magic, eq-eqb (get_or s 8 0) 0x01 first, le-leb (declared s) 2048 most, lt-leb (11 + declared s) (length s) lt)

          pub room : 11 + declared s ≤ length s → get_or s 10 0 < 256 → onie_opened s ≡ Ok (11, (11 + declared s))
          unfolding onie_opened
          room le byte =
              rw (le-ltb (length s) 11 long, magic, eq-eqb (get_or s 8 0) 0x01 first, le-leb (declared s) 2048 most, le-leb (11 + declared s) (length s) le, lt-ltb (get_or s 10 0) 256 byte)
