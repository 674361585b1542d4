-- The slot that is shown with a refusal. Assumes nothing.
--     speaks_of_slot n     refusals of number n speak of a slot: 2 to 7, 9 and 10
--     shown_slot r         the slot of a refusal that speaks of one, or that of the refusal which it carries
use Rattle.std.specs.Prelude.{ℕ, Bool, ◌&&◌, ◌||◌, nat_eq, nat_le, Some, Option, if◌then◌else◌}
use Rattle.std.specs.Option.{option_map}
use Rattle.isa.specs.declared.refusal.Refusal.{Refusal}
use Rattle.isa.specs.Refusal.{told_of, carried_of}

abbrev pub speaks_of_slot : ℕ → Bool
speaks_of_slot n = (nat_le 2 n && nat_le n 7) || (nat_eq n 9 || nat_eq n 10)

abbrev pub shown_slot : Refusal → Option ℕ
shown_slot r = if speaks_of_slot (told_of r).number then Some (told_of r).slot else option_map (λ t. t.slot) (carried_of r)
