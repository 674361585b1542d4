-- A price list as it is read line by line.
use Rattle.std.proofs.Common.{◌≡◌, ℕ, List, ◌∷◌, Option, Some, None, Result, Err, ap}
use Rattle.std.specs.Option.{option_map_or}
use Rattle.inputs.specs.declared.prices.PricesError.{PricesError}
use Rattle.inputs.specs.declared.prices.PricesError.TheVariants.{Line}
use Rattle.inputs.specs.Prices.{entry_of, entered, sheet_from, prices_from}

-- the prices of lines behind a sheet
abbrev pub prices_behind : List (Option ℕ) → List (ℕ × List ℕ) → Result (List ℕ) PricesError
prices_behind sheet lines = prices_from (sheet_from sheet lines)

pub prices_behind_entry : (sheet next : List (Option ℕ)) (n : ℕ) (line : List ℕ) (lines : List (ℕ × List ℕ)) → entered sheet (entry_of line) ≡ Some next → prices_behind sheet ((n, line) ∷ lines) ≡ prices_behind next lines
prices_behind_entry sheet next n line lines is = ap (λ o. prices_from (option_map_or (λ s. sheet_from s lines) o (Err n))) is

pub prices_behind_wrong : (sheet : List (Option ℕ)) (n : ℕ) (line : List ℕ) (lines : List (ℕ × List ℕ)) → entered sheet (entry_of line) ≡ None → prices_behind sheet ((n, line) ∷ lines) ≡ Err (Line n)
prices_behind_wrong sheet n line lines is = ap (λ o. prices_from (option_map_or (λ s. sheet_from s lines) o (Err n))) is
