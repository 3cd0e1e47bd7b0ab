use Rattle.output.specs.Placing.{copied}
use Rattle.blocks.specs.Payload.{cut_into}
use Rattle.vendor.proofs.Cutting.{sizes, Putting}
use Rattle.vendor.proofs.put_pieces.Given as goal

abbrev pub invariant-loop-size : goal.invariant-loop-size
invariant-loop-size l = Putting l.sizes (copied l.initial.out 0 (cut_into (sizes l.sizes) l.payload)) l.out l.rest l.size-index l.to
