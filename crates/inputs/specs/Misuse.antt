-- How a command line is misused.
--
-- misused v how         the error that the command v was misused in this way
-- read_then r f         what f makes of the value of r; its error stays
-- or_misused v how o    the value of o, or this error
-- Told view expected r  r is what is expected, seen by view, unless memory ran out
use Rattle.std.specs.Prelude.{◌≡◌, Option, Some, None, Result, Ok, Err, ⊤}
use Rattle.inputs.specs.declared.misuse.CommandError.{CommandError}
use Rattle.inputs.specs.declared.misuse.CommandError.TheVariants.{NoSuchCommand, Misused, OutOfMemory}
use Rattle.inputs.specs.declared.misuse.Misuse.{Misuse}
use Rattle.inputs.specs.declared.misuse.Verb.{Verb}

abbrev pub misused : {A : Type 0} → Verb → Misuse → Result A CommandError
misused v how = Err (Misused v how)

abbrev pub read_then : {A B : Type 0} → Result A CommandError → (A → Result B CommandError) → Result B CommandError
read_then (Ok x) f = f x
read_then (Err e) f = Err e

abbrev pub or_misused : {A : Type 0} → Verb → Misuse → Option A → Result A CommandError
or_misused v how (Some x) = Ok x
or_misused v how None = misused v how

abbrev pub Told : {A B : Type 0} → (A → B) → Result B CommandError → Result A CommandError → Type 0
Told view expected (Ok x) = expected ≡ Ok (view x)
Told view expected (Err (Misused v how)) = expected ≡ Err (Misused v how)
Told view expected (Err NoSuchCommand) = expected ≡ Err NoSuchCommand
Told view expected (Err OutOfMemory) = ⊤
