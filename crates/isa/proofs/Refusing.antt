-- What an answer without a value says of the refusal behind it.
use Rattle.std.proofs.Common.{◌≡◌, Some, None, Ok, Err, Option, refl}
use Rattle.isa.specs.declared.refusal.Refusal.{Refusal}
use Rattle.isa.specs.Refusal.{ok_unless}

pub ok_from : (o : Option Refusal) → ok_unless o (tt {0}) ≡ Ok tt → o ≡ None
ok_from None e = refl
ok_from (Some r) e = cc

pub err_from : (o : Option Refusal) (r : Refusal) → ok_unless o (tt {0}) ≡ Err r → o ≡ Some r
err_from None r e = cc
err_from (Some s) r e = cc
