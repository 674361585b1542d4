-- Refusals in plain numbers. Assumes nothing.
--     plain t          a refusal's number, slot and price, as C reads them
--     nothing          three zeros
--     told_in r        what is told of a refusal: its numbers, or zeros where there is none
--     carried_in r     what is told of the refusal that another one carries
--     answer_in r      both
--     own_number o     the number of what a call from C refuses by itself
--     own_told o, own_answer o     what is told of that
use Rattle.std.specs.Prelude.{ℕ, Some, None, Option}
use Rattle.isa.specs.declared.refusal.Told.{Told}
use Rattle.isa.specs.declared.refusal.Refusal.{Refusal}
use Rattle.isa.specs.Refusal.{told, told_of, carried_of}
use Rattle.yatesorrel_c.specs.declared.told.Own.{Own}
use Rattle.yatesorrel_c.specs.declared.told.Own.TheVariants.{NotBegun, NoPrices, NoCall}
use Rattle.yatesorrel_c.specs.declared.told.PlainTold.{PlainTold}
use Rattle.yatesorrel_c.specs.declared.told.PlainAnswer.{PlainAnswer}

abbrev pub plain : Told → PlainTold
plain t = record { number = t.number; slot = t.slot; price = t.price }

abbrev pub nothing : Told
nothing = told 0 0 0

abbrev pub told_in : Option Refusal → PlainTold
told_in None = plain nothing
told_in (Some r) = plain (told_of r)

abbrev pub or_nothing : Option Told → PlainTold
or_nothing None = plain nothing
or_nothing (Some t) = plain t

abbrev pub carried_in : Option Refusal → PlainTold
carried_in None = plain nothing
carried_in (Some r) = or_nothing (carried_of r)

abbrev pub answer_in : Option Refusal → PlainAnswer
answer_in r = record { refusal = told_in r; carried = carried_in r }

abbrev pub own_number : Own → ℕ
own_number NotBegun = 101
own_number NoPrices = 102
own_number NoCall = 103

abbrev pub own_told : Own → PlainTold
own_told o = plain (told (own_number o) 0 0)

abbrev pub own_answer : Own → PlainAnswer
own_answer o = record { refusal = own_told o; carried = plain nothing }
