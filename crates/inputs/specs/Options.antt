-- The options behind a command's words, and the numbers and supplies among its words.
--
-- Text, Words                the bytes of a word; the words of a command line
-- number_in v word           the number below 2^64 that a word writes
-- supply_in v word           the supply that a word names
-- prices_in v words          no words, or --prices FILE: the file, if there is one
-- Chosen                     the options of a rehearsal: a file of prices, the cuts in order, and how many steps are asked
-- first v given value        a value for what has none so far
-- chosen_with v c opt value  the options c with one more: --prices FILE once, --cut N, or --steps N once
-- chosen_from v c words      the options c with those that the words make, two by two
-- chosen_in v words          the options that the words make
-- texts, chosen              words and options as texts, lists and numbers
use Rattle.std.specs.Prelude.{ℕ, ◌^◌, List, [], ◌∷◌, ◌++◌, map, codes, bytes_eq, Option, Some, None, Result, Ok, if◌then◌else◌}
use Rattle.std.specs.Borrow.{Bor}
use Rattle.std.specs.Option.{option_copied}
use Rattle.inputs.specs.declared.misuse.CommandError.{CommandError}
use Rattle.inputs.specs.declared.misuse.Misuse.TheVariants as misuse
use Rattle.inputs.specs.declared.misuse.Verb.{Verb}
use Rattle.inputs.specs.declared.options.Options.{Options}
use Rattle.inputs.specs.declared.supply.SupplyWord.{SupplyWord}
use Rattle.inputs.specs.Misuse.{misused, read_then, or_misused}
use Rattle.inputs.specs.Number.{number}
use Rattle.inputs.specs.Supply.{supply_of}

abbrev pub Text : Type 0
Text = List ℕ

abbrev pub Words : Type 0
Words = List Text

abbrev pub number_in : Verb → Text → Result ℕ CommandError
number_in v word = or_misused v misuse.Number (number 10 (2 ^ 64) word)

abbrev pub supply_in : Verb → Text → Result SupplyWord CommandError
supply_in v word = or_misused v misuse.Supply (supply_of word)

abbrev pub prices_in : Verb → Words → Result (Option Text) CommandError
prices_in v [] = Ok None
prices_in v (option ∷ file ∷ []) = if bytes_eq option (codes "--prices") then Ok (Some file) else misused v misuse.Option
prices_in v _ = misused v misuse.Words

pub record Chosen : Type 0 where
  pub prices : Option Text
  pub cuts : List ℕ
  pub steps : Option ℕ

abbrev pub first : {A : Type 0} → Verb → Option A → A → Result A CommandError
first v None value = Ok value
first v (Some given) value = misused v misuse.Repeated

abbrev pub chosen_with : Verb → Chosen → Text → Text → Result Chosen CommandError
chosen_with v c option value =
    if bytes_eq option (codes "--prices") then read_then (first v c.prices value) (λ file. Ok (record c { prices = Some file }))
    else if bytes_eq option (codes "--cut") then read_then (number_in v value) (λ cut. Ok (record c { cuts = c.cuts ++ cut ∷ [] }))
    else if bytes_eq option (codes "--steps") then read_then (number_in v value) (λ steps. read_then (first v c.steps steps) (λ steps. Ok (record c { steps = Some steps })))
    else misused v misuse.Option

abbrev pub chosen_from : Verb → Chosen → Words → Result Chosen CommandError
chosen_from v c [] = Ok c
chosen_from v c (option ∷ []) = misused v misuse.Words
chosen_from v c (option ∷ value ∷ more) = read_then (chosen_with v c option value) (λ next. chosen_from v next more)

abbrev pub chosen_in : Verb → Words → Result Chosen CommandError
chosen_in v words = chosen_from v (record { prices = None; cuts = []; steps = None }) words

abbrev pub texts : List (Bor (List ℕ)) → Words
texts words = map (λ word. word.now) words

abbrev pub chosen : Options → Chosen
chosen o = record { prices = option_copied o.prices; cuts = o.cuts.items; steps = o.steps }
