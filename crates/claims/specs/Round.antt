-- The machine of a round: an image and a tape under a price model. Assumes nothing.
--     node_of z               the node of slot z; a round of a lawful image never stands below slot 0
--     round_of d image tape   the machine
--     machine_of means r      the machine of the round r, whose price model means so
--     RoundObeys              it keeps the laws of a machine, where the model d keeps its own and the image is lawful
use Rattle.std.specs.Prelude.{ℕ, List, ℤ, pos, negsuc}
use Rattle.isa.specs.Lawful.{Lawful}
use Rattle.machine.specs.declared.state.State.{State}
use Rattle.machine.specs.Reading.{record_in}
use Rattle.machine.specs.Run.{mains}
use Rattle.machine.specs.State.{ending_of}
use Rattle.machine.specs.Step.{mains_effect, is_save}
use Rattle.pricing.specs.Model.{Model, Bounded}
use Rattle.walks.specs.ImageGraph.{graph_of}
use Rattle.claims.specs.Amount.{amount_of}
use Rattle.claims.specs.declared.round.Round.{Round}
use Rattle.claims.specs.Machine.{Machine, Obeys}

abbrev pub node_of : ℤ → ℕ
node_of (pos n) = n
node_of (negsuc n) = 0

abbrev pub round_of : Model → List ℕ → List ℕ → Machine State
round_of d image tape =
    record {
      run = mains image tape;
      ending = ending_of;
      record_at = record_in;
      saves = λ σ. is_save (mains_effect image tape σ);
      amount = amount_of d image tape;
      graph = graph_of d image;
      node = λ σ. node_of σ.slot;
      dearest = d.dearest;
    }

abbrev pub machine_of : {M : Type 0} → (M → Model) → Round M → Machine State
machine_of means r = round_of (means r.model.now) r.image.now r.tape.now

abbrev pub RoundObeys : Type 0
RoundObeys = (d : Model) → Bounded d → (image tape : List ℕ) → Lawful image → Obeys (round_of d image tape)
