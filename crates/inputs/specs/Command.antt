-- The command line: the words after the program's name, and what they ask for. Each function below reads the words of one command as its usage has them.
--
-- Rehearsing                  the words of a rehearsal, its supply, its cuts in order and how many steps are asked
-- Asked                       what a command line asks for
-- most_steps                  the most steps that are asked; more are cut to it, and it is asked where no number is given
-- rehearsing_with, rehearsal_in   a rehearsal of ROUND TAPE SUPPLY and its options
-- supply_among, supply_if     the word of a supply among the words behind headroom's round, and its supply
-- list_of, certify_of, place_of, headroom_of, run_of, report_of   the commands, by the words behind their names
-- alone v asked words         a command that takes no words
-- named name words            the command of this name
-- command_of words            what a command line asks for, or what is wrong with it
-- rehearsing, asked           a rehearsal and a command as texts, lists and numbers
-- Rehearses words             the words ask for a rehearsal
use Rattle.std.specs.Prelude.{◌≡◌, ℕ, List, [], ◌∷◌, codes, bytes_eq, Option, Some, None, unwrap_or, min, Result, Ok, Err, ◌⊎◌, if◌then◌else◌}
use Rattle.std.specs.Option.{option_copied}
use Rattle.inputs.specs.declared.command.Command.{Command}
use Rattle.inputs.specs.declared.command.Command.TheVariants as command
use Rattle.inputs.specs.declared.command.Rehearsal.{Rehearsal}
use Rattle.inputs.specs.declared.misuse.CommandError.{CommandError}
use Rattle.inputs.specs.declared.misuse.CommandError.TheVariants.{NoSuchCommand}
use Rattle.inputs.specs.declared.misuse.Misuse.TheVariants as misuse
use Rattle.inputs.specs.declared.misuse.Verb.{Verb}
use Rattle.inputs.specs.declared.misuse.Verb.TheVariants as verb
use Rattle.inputs.specs.declared.supply.SupplyWord.{SupplyWord}
use Rattle.inputs.specs.Misuse.{misused, read_then}
use Rattle.inputs.specs.Options.{Text, Words, Chosen, number_in, supply_in, prices_in, chosen_in}

pub record Rehearsing : Type 0 where
  pub round : Text
  pub tape : Text
  pub supply : SupplyWord
  pub prices : Option Text
  pub cuts : List ℕ
  pub steps : ℕ

pub data Asked : Type 0 where
  guide : Asked
  list : Text → Option Text → Asked
  certify : Text → ℕ → Option Text → Asked
  place : Text → ℕ → Text → Option Text → Asked
  headroom : Text → Option SupplyWord → Option Text → Asked
  run : Rehearsing → Asked
  report : Rehearsing → Text → Asked
  help : Asked
  version : Asked

abbrev pub most_steps : ℕ
most_steps = 1_000_000

abbrev pub rehearsing_with : Text → Text → SupplyWord → Chosen → Rehearsing
rehearsing_with round tape supply c = record {
  round = round;
  tape = tape;
  supply = supply;
  prices = c.prices;
  cuts = c.cuts;
  steps = min (unwrap_or c.steps most_steps) most_steps;
}

-- list ROUND [--prices FILE]
abbrev pub list_of : Words → Result Asked CommandError
list_of (round ∷ options) = read_then (prices_in verb.List options) (λ prices. Ok (list round prices))
list_of _ = misused verb.List misuse.Words

-- certify ROUND BUDGET [--prices FILE]
abbrev pub certify_of : Words → Result Asked CommandError
certify_of (round ∷ budget ∷ options) =
    read_then (number_in verb.Certify budget) (λ budget. read_then (prices_in verb.Certify options) (λ prices. Ok (certify round budget prices)))
certify_of _ = misused verb.Certify misuse.Words

-- place ROUND BUDGET OUT [--prices FILE]
abbrev pub place_of : Words → Result Asked CommandError
place_of (round ∷ budget ∷ out ∷ options) =
    read_then (number_in verb.Place budget) (λ budget. read_then (prices_in verb.Place options) (λ prices. Ok (place round budget out prices)))
place_of _ = misused verb.Place misuse.Words

-- a supply stands before an option and its value, or behind them, or alone
abbrev pub supply_among : Words → Option Text × Words
supply_among (word ∷ []) = (Some word, [])
supply_among (a ∷ b ∷ c ∷ []) = if bytes_eq a (codes "--prices") then (Some c, a ∷ b ∷ []) else (Some a, b ∷ c ∷ [])
supply_among words = (None, words)

abbrev pub supply_if : Verb → Option Text → Result (Option SupplyWord) CommandError
supply_if v (Some word) = read_then (supply_in v word) (λ supply. Ok (Some supply))
supply_if v None = Ok None

-- headroom ROUND [--prices FILE] [SUPPLY], where the supply may stand before the prices too
abbrev pub headroom_of : Words → Result Asked CommandError
headroom_of (round ∷ rest) =
    let (word, options) = supply_among rest in
    read_then (supply_if verb.Headroom word) (λ supply. read_then (prices_in verb.Headroom options) (λ prices. Ok (headroom round supply prices)))
headroom_of _ = misused verb.Headroom misuse.Words

-- ROUND TAPE SUPPLY, and the options behind
abbrev pub rehearsal_in : Verb → Text → Text → Text → Words → Result Rehearsing CommandError
rehearsal_in v round tape supply options =
    read_then (supply_in v supply) (λ supply. read_then (chosen_in v options) (λ chosen. Ok (rehearsing_with round tape supply chosen)))

-- run ROUND TAPE SUPPLY [--prices FILE] [--cut N].. [--steps N]
abbrev pub run_of : Words → Result Asked CommandError
run_of (round ∷ tape ∷ supply ∷ options) = read_then (rehearsal_in verb.Run round tape supply options) (λ r. Ok (run r))
run_of _ = misused verb.Run misuse.Words

-- report ROUND TAPE SUPPLY OUT [--prices FILE] [--cut N].. [--steps N]
abbrev pub report_of : Words → Result Asked CommandError
report_of (round ∷ tape ∷ supply ∷ out ∷ options) = read_then (rehearsal_in verb.Report round tape supply options) (λ r. Ok (report r out))
report_of _ = misused verb.Report misuse.Words

abbrev pub alone : Verb → Asked → Words → Result Asked CommandError
alone v asked [] = Ok asked
alone v asked _ = misused v misuse.Words

abbrev pub named : Text → Words → Result Asked CommandError
named name rest =
    if bytes_eq name (codes "list") then list_of rest
    else if bytes_eq name (codes "certify") then certify_of rest
    else if bytes_eq name (codes "place") then place_of rest
    else if bytes_eq name (codes "headroom") then headroom_of rest
    else if bytes_eq name (codes "run") then run_of rest
    else if bytes_eq name (codes "report") then report_of rest
    else if bytes_eq name (codes "help") then alone verb.Help help rest
    else if bytes_eq name (codes "--help") then alone verb.Help help rest
    else if bytes_eq name (codes "--version") then alone verb.Version version rest
    else Err NoSuchCommand

abbrev pub command_of : Words → Result Asked CommandError
command_of [] = Ok guide
command_of (name ∷ rest) = named name rest

abbrev pub rehearsing : Rehearsal → Rehearsing
rehearsing r = record {
  round = r.round.now;
  tape = r.tape.now;
  supply = r.supply;
  prices = option_copied r.prices;
  cuts = r.cuts.items;
  steps = r.steps;
}

abbrev pub asked : Command → Asked
asked command.Guide = guide
asked (command.List round prices) = list round.now (option_copied prices)
asked (command.Certify round budget prices) = certify round.now budget (option_copied prices)
asked (command.Place round budget out prices) = place round.now budget out.now (option_copied prices)
asked (command.Headroom round supply prices) = headroom round.now supply (option_copied prices)
asked (command.Run r) = run (rehearsing r)
asked (command.Report r out) = report (rehearsing r) out.now
asked command.Help = help
asked command.Version = version

abbrev pub Rehearses : Words → Type 0
Rehearses [] = ⊥
Rehearses (name ∷ rest) = (name ≡ codes "run") ⊎ (name ≡ codes "report")
