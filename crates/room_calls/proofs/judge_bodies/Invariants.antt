use Prim.Native.Nat.{◌+◌, ◌*◌}
use Rattle.room_calls.proofs.Judging.{Judging}
use Rattle.room_calls.proofs.judge_bodies.Given as goal

abbrev pub invariant-loop-bytes : goal.invariant-loop-bytes
invariant-loop-bytes l = Judging l.edition l.file (8 + 8 * l.n) l.bytes-items l.bytes-index l.p
