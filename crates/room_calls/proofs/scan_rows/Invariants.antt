use Rattle.room_calls.proofs.Scanning.{Scanning}
use Rattle.room_calls.proofs.scan_rows.Given as goal

abbrev pub invariant-loop-bytes : goal.invariant-loop-bytes
invariant-loop-bytes l = Scanning l.rows l.wanted l.t l.bytes-index l.low
