-- The file that a change makes is bytes where the body that is brought is.
-- Assumes nothing.
use Prim.Native.Nat.{ℕ, ◌/◌, ◌%◌, ◌<◌}
use mathlib.Core.Path.{sym, subst}
use mathlib.Core.List.{List, [], ◌∷◌, ◌++◌}
use native.Mathlib.Omega.{arith}
use lib.ListN.{length}
use Rattle.layout.specs.Each.{Each, none, also}
use Rattle.layout.proofs.Lists.{each_left, each_right, each_append}
use Rattle.rooms.specs.File.{Board, head, row_of, rows_of, bodies_of, file_of}
use Rattle.room_promises.specs.Puts.{NewBytes}
use Rattle.room_promises.proofs.Boards.{each-made}
use Rattle.room_promises.proofs.Puts.{rooms-put}

abbrev BodyBytes : Board → Type 0
BodyBytes b = Each (λ (y : ℕ). y < 256) b.body

low : (n : ℕ) → n % 256 < 256
low n = omega arith

byte : {n : ℕ} {s : List ℕ} → n < 256 → Each (λ (y : ℕ). y < 256) s → Each (λ (y : ℕ). y < 256) (n ∷ s)
byte p ps = also p ps

rows-bytes : (bs : List Board) → Each (λ (y : ℕ). y < 256) (rows_of bs)
unfolding rows_of row_of
rows-bytes [] = none
rows-bytes (b ∷ bs) =
    let n = b.number in
    let m = length b.body in
    byte {n = n / 16777216 % 256} (low (n / 16777216)) (byte {n = n / 65536 % 256} (low (n / 65536)) (byte {n = n / 256 % 256} (low (n / 256)) (byte {n = n % 256} (low n)
    (byte {n = b.format % 256} (low b.format) (byte {n = 0} (omega arith) (byte {n = m / 256 % 256} (low (m / 256)) (byte {n = m % 256} (low m) (rows-bytes bs))))))))

bodies-bytes : (bs : List Board) → Each BodyBytes bs → Each (λ (y : ℕ). y < 256) (bodies_of bs)
unfolding bodies_of
bodies-bytes [] none = none
bodies-bytes (b ∷ bs) (also p ps) = each_append b.body (bodies_of bs) p (bodies-bytes bs ps)

bytes-bodies : (bs : List Board) → Each (λ (y : ℕ). y < 256) (bodies_of bs) → Each BodyBytes bs
unfolding bodies_of
bytes-bodies [] none = none
bytes-bodies (b ∷ bs) ps = also (each_left b.body (bodies_of bs) ps) (bytes-bodies bs (each_right b.body (bodies_of bs) ps))

file-bytes : (form : ℕ) (bs : List Board) → Each BodyBytes bs → Each (λ (y : ℕ). y < 256) (file_of form bs)
unfolding file_of head
file-bytes form bs ps =
    let m = length bs in
    byte {n = 0x52} (omega arith) (byte {n = 0x4D} (omega arith) (byte {n = form % 256} (low form) (byte {n = 0} (omega arith)
    (byte {n = m / 256 % 256} (low (m / 256)) (byte {n = m % 256} (low m) (byte {n = 0} (omega arith) (byte {n = 0} (omega arith)
    (each_append (rows_of bs) (bodies_of bs) (rows-bytes bs) (bodies-bytes bs ps)))))))))

bytes-file : (form : ℕ) (bs : List Board) → Each (λ (y : ℕ). y < 256) (file_of form bs) → Each BodyBytes bs
unfolding file_of
bytes-file form bs ps = bytes-bodies bs (each_right (rows_of bs) (bodies_of bs) (each_right (head form (length bs)) (rows_of bs ++ bodies_of bs) ps))

pub new-bytes : NewBytes
new-bytes n x c lt form e file out m by brought q =
    let p = rooms-put.taken n x c lt form e file out m by q in
    let was = bytes-file form p.former (subst (Each (λ (y : ℕ). y < 256)) p.before.is.is by) in
    subst (Each (λ (y : ℕ). y < 256)) (sym p.after.is.is) (file-bytes form p.latter (each-made c p.makes brought was))
