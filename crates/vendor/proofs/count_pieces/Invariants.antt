use Rattle.vendor.proofs.Cutting.{Counting}
use Rattle.vendor.proofs.count_pieces.Given as goal

abbrev pub invariant-loop-size : goal.invariant-loop-size
invariant-loop-size l = Counting l.sizes l.need l.size-index l.left
