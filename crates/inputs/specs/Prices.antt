-- A price list: a price for each opcode byte and one for a saving, a line each.
--
-- name_of word          what a price is for: save, or an opcode byte as 0x and hexadecimal digits; none for another word
-- entry_with name price the entry of a name and a price, where there are both
-- entry_in words        the entry that two words make, a name and a price below 2^16, or none
-- entry_of line         the entry that a line says, or none
-- place name            where a name stands in a list: an opcode at its number, a saving at 256, behind them all
-- name_at place         the name that stands there
-- entered sheet entry   the prices so far with an entry more; none where there is no entry, or its name has a price
-- sheet_from sheet ls   the prices so far and those of the lines ls, or the number of the first line that is wrong
-- whole_unless k sheet  all prices, unless the name at k has none
-- whole sheet           all prices, or the first name that has none
-- prices_from r         all prices of the sheet r, or the line that is wrong
-- prices_of ls          what reading the lines ls answers
-- SaysOther a b         the lines a and b say no entries of one name
-- PriceList ls prices   the lines ls say these 257 prices: each says an entry, no two say one name, and each price is said
-- PricesRight ls r      r is Ok prices just where the lines ls say these prices
use Rattle.std.specs.Prelude.{◌≡◌, ◌≢◌, ℕ, ◌^◌, ◌<◌, nat_lt, List, [], ◌∷◌, length, map, set, replicate, slice_index, slice_index_or, position, codes, bytes_eq, Option, Some, None, IsSome, is_some, is_none, unwrap_or, option_and_then, Result, Ok, Err, All, AllPairs, Any, if◌then◌else◌, ◌↔◌}
use Rattle.std.specs.Option.{option_map, option_map_or}
use Rattle.inputs.specs.declared.prices.Entry.{Entry}
use Rattle.inputs.specs.declared.prices.PriceName.{PriceName}
use Rattle.inputs.specs.declared.prices.PriceName.TheVariants.{Opcode, Save}
use Rattle.inputs.specs.declared.prices.PricesError.{PricesError}
use Rattle.inputs.specs.declared.prices.PricesError.TheVariants.{Line, Missing}
use Rattle.inputs.specs.Number.{number}
use Rattle.inputs.specs.Text.{behind, words}

abbrev pub name_of : List ℕ → Option PriceName
name_of word =
    if bytes_eq word (codes "save")
    then Some Save
    else option_map Opcode (option_and_then (number 16 (2 ^ 8)) (behind (codes "0x") word))

abbrev pub entry_with : Option PriceName → Option ℕ → Option Entry
entry_with (Some name) (Some price) = Some (record { name = name; price = price })
entry_with (Some name) None = None
entry_with None price = None

abbrev pub entry_in : List (List ℕ) → Option Entry
entry_in (name ∷ price ∷ []) = entry_with (name_of name) (number 10 (2 ^ 16) price)
entry_in _ = None

abbrev pub entry_of : List ℕ → Option Entry
entry_of line = entry_in (words line)

abbrev pub place : PriceName → ℕ
place (Opcode opcode) = opcode
place Save = 256

abbrev pub name_at : ℕ → PriceName
name_at place = if nat_lt place 256 then Opcode place else Save

abbrev pub entered : List (Option ℕ) → Option Entry → Option (List (Option ℕ))
entered sheet (Some entry) = if is_some (slice_index_or sheet (place entry.name) None) then None else Some (set sheet (place entry.name) (Some entry.price))
entered sheet None = None

abbrev pub sheet_from : List (Option ℕ) → List (ℕ × List ℕ) → Result (List (Option ℕ)) ℕ
sheet_from sheet [] = Ok sheet
sheet_from sheet ((n, line) ∷ more) = option_map_or (λ next. sheet_from next more) (entered sheet (entry_of line)) (Err n)

abbrev pub whole_unless : Option ℕ → List (Option ℕ) → Result (List ℕ) PricesError
whole_unless (Some missing) sheet = Err (Missing (name_at missing))
whole_unless None sheet = Ok (map (λ price. unwrap_or price 0) sheet)

abbrev pub whole : List (Option ℕ) → Result (List ℕ) PricesError
whole sheet = whole_unless (position is_none sheet) sheet

abbrev pub prices_from : Result (List (Option ℕ)) ℕ → Result (List ℕ) PricesError
prices_from (Ok sheet) = whole sheet
prices_from (Err n) = Err (Line n)

abbrev pub prices_of : List (ℕ × List ℕ) → Result (List ℕ) PricesError
prices_of lines = prices_from (sheet_from (replicate 257 None) lines)

abbrev pub SaysOther : ℕ × List ℕ → ℕ × List ℕ → Type 0
SaysOther a b = (d e : Entry) → entry_of a.1 ≡ Some d → entry_of b.1 ≡ Some e → d.name ≢ e.name

pub record PriceList (lines : List (ℕ × List ℕ)) (prices : List ℕ) : Type 0 where
  pub entries : All (λ line. IsSome (entry_of line.1)) lines
  pub once : AllPairs SaysOther lines
  pub count : length prices ≡ 257
  pub each : (k : ℕ) → k < 257 → Any (λ line. entry_of line.1 ≡ Some (record { name = name_at k; price = slice_index prices k })) lines

abbrev pub PricesRight : List (ℕ × List ℕ) → Result (List ℕ) PricesError → Type 0
PricesRight lines result = (prices : List ℕ) → (result ≡ Ok prices) ↔ PriceList lines prices
