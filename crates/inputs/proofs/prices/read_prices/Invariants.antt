use Rattle.inputs.specs.Prices.{prices_of}
use Rattle.inputs.specs.Said.{said_lines}
use Rattle.inputs.proofs.Lining.{SaidSoFar}
use Rattle.inputs.proofs.Listing.{prices_behind}
use Rattle.inputs.proofs.prices.read_prices.Given as goal

abbrev pub invariant-loop-index : goal.invariant-loop-index
invariant-loop-index l = SaidSoFar (prices_behind l.sheet.prices) (prices_of (said_lines l.text)) l.index-iterator
