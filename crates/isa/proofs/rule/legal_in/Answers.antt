use Rattle.std.proofs.Common.{rules, ◌≡◌, Bool, true, false, is_none, Option, sym, refl}
use Rattle.isa.specs.declared.refusal.Refusal.{Refusal}
use Rattle.isa.specs.Rule.{unless, registers_exist}
use Rattle.isa.proofs.rule.legal_in.Goals as goal

by_test : (b : Bool) (r : Refusal) (o : Option Refusal) → is_none (unless b r o) ≡ true → b ≡ true
by_test true r o e = refl
by_test false r o e = cc

pub returns-clause-registers : goal.returns-clause-registers
returns-clause-registers c =
    let p = by_test (registers_exist c.args.fields) _ _ (sym (c.if-not-keeps_rules.ensures c.args.slot)) in search rules
