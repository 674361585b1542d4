-- The answers about the known rounds, by computation.
use Rattle.std.proofs.Common.{Bool, cond, Ok, Err, Result, refl, ap}
use Rattle.isa.specs.declared.refusal.Refusal.{Refusal}
use Rattle.isa.specs.declared.refusal.Refusal.TheVariants.{Budget, Loop}
use Rattle.isa.specs.Opcode.{class_of, code_of, source_of, under, operations, tests, sizes, negation, arithmetic, branch, access, classes, singles, joined, kind_of}
use Rattle.walks.specs.ImageGraph.{role_at, ways_at, price_at}
use Rattle.certifier.specs.Certify.{and_then}
use Rattle.certifier.specs.Example.{AnswersKnown}

pub answers_known : AnswersKnown
unfolding class_of code_of source_of under operations tests sizes negation arithmetic branch access classes singles joined kind_of role_at ways_at price_at
answers_known =
    record {
      six_paid = refl;
      six_dear = refl;
      two_loop = λ budget e.
          let answer : Bool → Result (Unit {0}) Refusal = λ b. and_then (cond b (Ok tt) (Err Budget)) (Err (Loop 0)) in ap answer e;
      saved_paid = refl;
      saved_dear = refl;
    }
