-- The codes that each edition names, as document 01 has them ("Editions and kinds") and document 02's third item, apart from the definitions' own table.
-- Assumes nothing.
use Rattle.std.specs.Prelude.{ℕ, ◌≤◌}
use Rattle.layout.specs.declared.Format.{Format}
use Rattle.layout.specs.declared.Format.TheVariants.{Fboss, Vpd, Tiny, Onie}

-- edition 1 names FBOSS 1 to 16, VPD type 01h, Tiny 01h, 10h, 11h, 60h, 61h, 62h
pub data One : Format → ℕ → Type 0 where
  fboss : {c : ℕ} → 1 ≤ c → c ≤ 16 → One Fboss c
  vpd01 : One Vpd 0x01
  tiny01 : One Tiny 0x01
  tiny10 : One Tiny 0x10
  tiny11 : One Tiny 0x11
  tiny60 : One Tiny 0x60
  tiny61 : One Tiny 0x61
  tiny62 : One Tiny 0x62

-- edition 2 names those, and these: FBOSS 17 to 20, VPD FEh, Tiny 80h and 81h
pub data Two : Format → ℕ → Type 0 where
  fboss : {c : ℕ} → 17 ≤ c → c ≤ 20 → Two Fboss c
  vpd_fe : Two Vpd 0xFE
  tiny80 : Two Tiny 0x80
  tiny81 : Two Tiny 0x81

-- edition 3 names those, and these: ONIE 21h to 25h, 2Ah to 2Dh, FDh. Edition 4 names no more
pub data Three : Format → ℕ → Type 0 where
  onie21 : Three Onie 0x21
  onie22 : Three Onie 0x22
  onie23 : Three Onie 0x23
  onie24 : Three Onie 0x24
  onie25 : Three Onie 0x25
  onie2_a : Three Onie 0x2A
  onie2_b : Three Onie 0x2B
  onie2_c : Three Onie 0x2C
  onie2_d : Three Onie 0x2D
  onie_fd : Three Onie 0xFD

-- 01's term "names": an edition names a code of a format. It is asked of known editions
pub data Named (format : Format) (e c : ℕ) : Type 0 where
  since_one : 1 ≤ e → One format c → Named format e c
  since_two : 2 ≤ e → Two format c → Named format e c
  since_three : 3 ≤ e → Three format c → Named format e c
