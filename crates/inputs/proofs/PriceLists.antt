-- A text is accepted just where its lines say a price list.
use Rattle.std.proofs.Common.{◌≡◌, ◌≢◌, ℕ, ◌<◌, ◌^◌, Bool, true, false, List, [], ◌∷◌, length, get_or, set, replicate, Option, Some, None, IsSome, is_some, Result, Ok, Err, ◌⊎◌, inl, inr, ⊎_elim, All, AllPairs, Any, refl, sym, ap, subst, ◌∙◌, arith, if◌then◌else◌, bytes_eq, codes}
use Rattle.std.proofs.lemmas.Bool.{cond-true, cond-false, lt-ltb, le-ltb, cases_eq, cases_lt, false≢true}
use Rattle.std.proofs.lemmas.List.{length-set, get_or-set_same, get_or-set_other, length-replicate, get_or-replicate, get_or_past}
use Rattle.std.proofs.lemmas.List.Elements.{All-nil, All-cons, All-head, All-tail, All-weaker}
use Rattle.std.proofs.lemmas.List.Kept.{AllPairs-cons}
use Rattle.std.specs.Option.{option_map, option_map_or, option_and_then}
use Rattle.inputs.specs.declared.prices.Entry.{Entry}
use Rattle.inputs.specs.declared.prices.PriceName.{PriceName}
use Rattle.inputs.specs.declared.prices.PriceName.TheVariants.{Opcode, Save}
use Rattle.inputs.specs.Number.{number}
use Rattle.inputs.specs.Prices.{name_of, entry_with, entry_in, entry_of, place, name_at, entered, sheet_from, prices_from, prices_of, SaysOther, PriceList, PricesRight}
use Rattle.inputs.specs.Text.{behind, words}
use Rattle.inputs.proofs.Elements.{Any-here, Any-there, Any-nil, Any-cases, AllPairs-head, AllPairs-tail, AllPairs-nil}
use Rattle.inputs.proofs.Wholes.{all_known, whole_says}
use Rattle.inputs.proofs.Numbers.{number_below}

abbrev Said : Type 0
Said = ℕ × List ℕ

abbrev Sheet : Type 0
Sheet = List (Option ℕ)

-- ---- names and places

-- a name that has a place, and is the name there
pub record IsPlaced (name : PriceName) : Type 0 where
  pub inside : place name < 257
  pub back : name_at (place name) ≡ name

placed_opcode : (opcode : ℕ) → opcode < 256 → IsPlaced (Opcode opcode)
placed_opcode opcode below = record { inside = omega arith; back = cond-true _ _ _ (lt-ltb opcode 256 below) }

placed_named : (opcode : Option ℕ) (name : PriceName) → ((n : ℕ) → opcode ≡ Some n → n < 256) → option_map Opcode opcode ≡ Some name → IsPlaced name
placed_named None name below is = (cc)
placed_named (Some opcode) name below is = let same : Opcode opcode ≡ name = (cc) in subst IsPlaced same (placed_opcode opcode (below opcode refl))

read_below : (digits : Option (List ℕ)) (n : ℕ) → option_and_then (number 16 (2 ^ 8)) digits ≡ Some n → n < 256
read_below None n is = (cc)
read_below (Some digits) n is = number_below 16 (2 ^ 8) digits n is

placed_if : (save : Bool) (digits : Option (List ℕ)) (name : PriceName) → (if save then Some Save else option_map Opcode (option_and_then (number 16 (2 ^ 8)) digits)) ≡ Some name → IsPlaced name
placed_if true digits name is = let same : Save ≡ name = (cc) in subst IsPlaced same (record { inside = omega arith; back = refl })
placed_if false digits name is = placed_named (option_and_then (number 16 (2 ^ 8)) digits) name (read_below digits) is

name_placed : (word : List ℕ) (name : PriceName) → name_of word ≡ Some name → IsPlaced name
name_placed word name is = placed_if (bytes_eq word (codes "save")) (behind (codes "0x") word) name is

placed_with : (name : Option PriceName) (price : Option ℕ) (e : Entry) → ((n : PriceName) → name ≡ Some n → IsPlaced n) → entry_with name price ≡ Some e → IsPlaced e.name
placed_with None price e names is = (cc)
placed_with (Some n) None e names is = (cc)
placed_with (Some n) (Some p) e names is = let same : n ≡ e.name = (cc) in subst IsPlaced same (names n refl)

placed_in : (ws : List (List ℕ)) (e : Entry) → entry_in ws ≡ Some e → IsPlaced e.name
placed_in [] e is = (cc)
placed_in (name ∷ []) e is = (cc)
placed_in (name ∷ price ∷ []) e is = placed_with (name_of name) (number 10 (2 ^ 16) price) e (name_placed name) is
placed_in (name ∷ price ∷ more ∷ rest) e is = (cc)

-- the name of an entry has a place
entry_placed : (line : List ℕ) (e : Entry) → entry_of line ≡ Some e → IsPlaced e.name
entry_placed line e is = placed_in (words line) e is

place_back : (k : ℕ) → k < 257 → place (name_at k) ≡ k
place_back k inside = elim (cases_lt k 256) [
  | inl below ↦ ap place (cond-true _ _ _ (lt-ltb k 256 below))
  | inr above ↦ ap place (cond-false _ _ _ (le-ltb k 256 above)) ∙ omega arith
]

-- two entries of one place have one name
one_name : (line other : List ℕ) (d e : Entry) → entry_of line ≡ Some d → entry_of other ≡ Some e → place d.name ≡ place e.name → d.name ≡ e.name
one_name line other d e says also same = sym (entry_placed line d says).back ∙ ap name_at same ∙ (entry_placed other e also).back

-- ---- one line

-- a line's entry is taken where its name had no price
pub record Takes (sheet : Sheet) (line : List ℕ) (next : Sheet) : Type 0 where
  pub entry : Entry
  pub says : entry_of line ≡ Some entry
  pub free : get_or sheet (place entry.name) None ≡ None
  pub is : set sheet (place entry.name) (Some entry.price) ≡ next

taken_if : (had : Option ℕ) (changed next : Sheet) → (if is_some had then None else Some changed) ≡ Some next → (had ≡ None) × (changed ≡ next)
taken_if (Some price) changed next is = (cc)
taken_if None changed next is = (refl, cc)

taken_entry : (sheet : Sheet) (line : List ℕ) (next : Sheet) (o : Option Entry) → entry_of line ≡ o → entered sheet o ≡ Some next → Takes sheet line next
taken_entry sheet line next None says is = (cc)
taken_entry sheet line next (Some e) says is =
    let (free, changed) = taken_if (get_or sheet (place e.name) None) (set sheet (place e.name) (Some e.price)) next is in
    record { entry = e; says = says; free = free; is = changed }

went_on : (n : ℕ) (more : List Said) (o : Option Sheet) (last : Sheet) → option_map_or (λ next. sheet_from next more) o (Err n) ≡ Ok last → (next : Sheet) × (o ≡ Some next) × (sheet_from next more ≡ Ok last)
went_on n more None last is = (cc)
went_on n more (Some next) last is = (next, refl, is)

-- what the first line does where all lines are taken
pub record Step (sheet : Sheet) (line : List ℕ) (more : List Said) (last : Sheet) : Type 0 where
  pub next : Sheet
  pub takes : Takes sheet line next
  pub goes_on : sheet_from next more ≡ Ok last

first_line : (sheet : Sheet) (n : ℕ) (line : List ℕ) (more : List Said) (last : Sheet) → sheet_from sheet ((n, line) ∷ more) ≡ Ok last → Step sheet line more last
first_line sheet n line more last is =
    let (next, took, goes_on) = went_on n more (entered sheet (entry_of line)) last is in
    record { next = next; takes = taken_entry sheet line next (entry_of line) refl took; goes_on = goes_on }

module _ {sheet : Sheet} {line : List ℕ} {next : Sheet} (t : Takes sheet line next) where
  same_length : length next ≡ length sheet
  same_length = ap length (sym t.is) ∙ length-set sheet (place t.entry.name) (Some t.entry.price)

  -- the entry's place has its price
  there : length sheet ≡ 257 → get_or next (place t.entry.name) None ≡ Some t.entry.price
  there long =
      ap (λ s. get_or s (place t.entry.name) None) (sym t.is)
      ∙ get_or-set_same sheet (place t.entry.name) (Some t.entry.price) None (let inside = (entry_placed line t.entry t.says).inside in omega arith)

  -- any other place is as it was
  elsewhere : (k : ℕ) → k ≢ place t.entry.name → get_or next k None ≡ get_or sheet k None
  elsewhere k other = ap (λ s. get_or s k None) (sym t.is) ∙ get_or-set_other sheet (place t.entry.name) k (Some t.entry.price) None other

  -- a place that had a price is another
  other_place : (k p : ℕ) → get_or sheet k None ≡ Some p → k ≢ place t.entry.name
  other_place k p had same = let gone : get_or sheet k None ≡ None = ap (λ j. get_or sheet j None) same ∙ t.free in cc

-- ---- all lines

kept : (lines : List Said) (sheet last : Sheet) → sheet_from sheet lines ≡ Ok last → (k p : ℕ) → get_or sheet k None ≡ Some p → get_or last k None ≡ Some p
kept [] sheet last is k p had = let same : sheet ≡ last = (cc) in ap (λ s. get_or s k None) (sym same) ∙ had
kept ((n, line) ∷ more) sheet last is k p had =
    let step = first_line sheet n line more last is in
    kept more step.next last step.goes_on k p (elsewhere step.takes k (other_place step.takes k p had) ∙ had)

long : (lines : List Said) (sheet last : Sheet) → sheet_from sheet lines ≡ Ok last → length last ≡ length sheet
long [] sheet last is = let same : sheet ≡ last = (cc) in ap length (sym same)
long ((n, line) ∷ more) sheet last is =
    let step = first_line sheet n line more last is in
    long more step.next last step.goes_on ∙ same_length step.takes

-- a price that a line says is in the last sheet
found : (lines : List Said) (sheet last : Sheet) → length sheet ≡ 257 → sheet_from sheet lines ≡ Ok last → (e : Entry) → Any (λ line. entry_of line.1 ≡ Some e) lines → get_or last (place e.name) None ≡ Some e.price
found [] sheet last size is e any = absurd (Any-nil (λ line. entry_of line.1 ≡ Some e) any)
found ((n, line) ∷ more) sheet last size is e any =
    let step = first_line sheet n line more last is in
    ⊎_elim
    (λ here. let same : step.takes.entry ≡ e = let says = step.takes.says in cc in
    subst (λ d. get_or last (place d.name) None ≡ Some d.price) same
    (kept more step.next last step.goes_on (place step.takes.entry.name) step.takes.entry.price (there step.takes size)))
    (λ later. found more step.next last (same_length step.takes ∙ size) step.goes_on e later)
    (Any-cases (λ line. entry_of line.1 ≡ Some e) (n, line) more any)

-- a price in the last sheet was in the first, or some line says it
abbrev SaysAt : ℕ → ℕ → Said → Type 0
SaysAt k p line = entry_of line.1 ≡ Some (record { name = name_at k; price = p })

said_at : (line : List ℕ) (e : Entry) (k p : ℕ) → entry_of line ≡ Some e → k ≡ place e.name → e.price ≡ p → entry_of line ≡ Some (record { name = name_at k; price = p })
said_at line e k p says same price =
    let named : e.name ≡ name_at k = sym (entry_placed line e says).back ∙ ap name_at (sym same) in
    says ∙ (λ i. Some (record { name = named i; price = price i }))

from : (lines : List Said) (sheet last : Sheet) → length sheet ≡ 257 → sheet_from sheet lines ≡ Ok last → (k p : ℕ) → get_or last k None ≡ Some p → (get_or sheet k None ≡ Some p) ⊎ Any (SaysAt k p) lines
from [] sheet last size is k p has = let same : sheet ≡ last = (cc) in inl (ap (λ s. get_or s k None) same ∙ has)
from ((n, line) ∷ more) sheet last size is k p has =
    let step = first_line sheet n line more last is in
    ⊎_elim
    (λ had. ⊎_elim
    (λ same. let priced : step.takes.entry.price ≡ p = let now : get_or step.next k None ≡ Some step.takes.entry.price = ap (λ j. get_or step.next j None) same ∙ there step.takes size in cc in
    inr (Any-here (SaysAt k p) (n, line) more (said_at line step.takes.entry k p step.takes.says same priced)))
    (λ other. inl (sym (elsewhere step.takes k other) ∙ had))
    (cases_eq k (place step.takes.entry.name)))
    (λ later. inr (Any-there (SaysAt k p) (n, line) more later))
    (from more step.next last (same_length step.takes ∙ size) step.goes_on k p has)

all_entries : (lines : List Said) (sheet last : Sheet) → sheet_from sheet lines ≡ Ok last → All (λ line. IsSome (entry_of line.1)) lines
all_entries [] sheet last is = All-nil (λ line. IsSome (entry_of line.1))
all_entries ((n, line) ∷ more) sheet last is =
    let step = first_line sheet n line more last is in
    All-cons (λ line. IsSome (entry_of line.1)) (n, line) more (ap is_some step.takes.says) (all_entries more step.next last step.goes_on)

-- the line says no entry at this place
abbrev NotAt : ℕ → Said → Type 0
NotAt k line = (e : Entry) → entry_of line.1 ≡ Some e → place e.name ≢ k

not_again : (lines : List Said) (sheet last : Sheet) → sheet_from sheet lines ≡ Ok last → (k p : ℕ) → get_or sheet k None ≡ Some p → All (NotAt k) lines
not_again [] sheet last is k p had = All-nil (NotAt k)
not_again ((n, line) ∷ more) sheet last is k p had =
    let step = first_line sheet n line more last is in
    let other = other_place step.takes k p had in
    All-cons (NotAt k) (n, line) more
    (λ e says same. let e_is : step.takes.entry ≡ e = let took = step.takes.says in cc in other (sym (ap (λ d. place d.name) e_is ∙ same)))
    (not_again more step.next last step.goes_on k p (elsewhere step.takes k other ∙ had))

all_once : (lines : List Said) (sheet last : Sheet) → length sheet ≡ 257 → sheet_from sheet lines ≡ Ok last → AllPairs SaysOther lines
all_once [] sheet last size is = AllPairs-nil SaysOther
all_once ((n, line) ∷ more) sheet last size is =
    let step = first_line sheet n line more last is in
    let later = not_again more step.next last step.goes_on (place step.takes.entry.name) step.takes.entry.price (there step.takes size) in
    AllPairs-cons SaysOther (n, line) more
    (All-weaker (NotAt (place step.takes.entry.name)) (SaysOther (n, line))
    (λ other not_there d e says also same. not_there e also (ap place (sym same) ∙ ap (λ c. place c.name) (let took = step.takes.says in let d_is : d ≡ step.takes.entry = (cc) in d_is))) more later)
    (all_once more step.next last (same_length step.takes ∙ size) step.goes_on)

-- the name of the line's entry has no price in the sheet
abbrev IsFree : Sheet → Said → Type 0
IsFree sheet line = (e : Entry) → entry_of line.1 ≡ Some e → get_or sheet (place e.name) None ≡ None

said_entry : (o : Option Entry) → IsSome o → (e : Entry) × (o ≡ Some e)
said_entry (Some e) some = (e, refl)
said_entry None some = absurd (false≢true some)

accepted : (lines : List Said) (sheet : Sheet) → All (λ line. IsSome (entry_of line.1)) lines → AllPairs SaysOther lines → All (IsFree sheet) lines → (last : Sheet) × (sheet_from sheet lines ≡ Ok last)
accepted [] sheet entries once free = (sheet, refl)
accepted ((n, line) ∷ more) sheet entries once free =
    let (e, says) = said_entry (entry_of line) (All-head (λ line. IsSome (entry_of line.1)) (n, line) more entries) in
    let next : Sheet = set sheet (place e.name) (Some e.price) in
    let empty : get_or sheet (place e.name) None ≡ None = All-head (IsFree sheet) (n, line) more free e says in
    let took : entered sheet (entry_of line) ≡ Some next = ap (entered sheet) says ∙ ap (λ had. if is_some had then None else Some next) empty in
    let others : All (SaysOther (n, line)) more = AllPairs-head SaysOther (n, line) more once in
    let still : All (IsFree next) more = λ k d inside d' also.
    let differ = others k d inside e d' says also in
    get_or-set_other sheet (place e.name) (place d'.name) (Some e.price) None (λ same. differ (one_name line (get_or more k d).1 e d' says also (sym same)))
    ∙ All-tail (IsFree sheet) (n, line) more free k d inside d' also in
    let (last, is) = accepted more next (All-tail (λ line. IsSome (entry_of line.1)) (n, line) more entries) (AllPairs-tail SaysOther (n, line) more once) still in
    (last, ap (λ o. option_map_or (λ s. sheet_from s more) o (Err n)) took ∙ is)

-- ---- the whole list

module _ (lines : List Said) (blank : Sheet) (size : length blank ≡ 257) (empty : (k : ℕ) → get_or blank k None ≡ None) where
  list_from : (r : Result Sheet ℕ) → sheet_from blank lines ≡ r → (prices : List ℕ) → prices_from r ≡ Ok prices → PriceList lines prices
  list_from (Err n) is prices accepts = (cc)
  list_from (Ok last) is prices accepts =
      let (count, says) = whole_says last prices accepts in
      let all : length last ≡ 257 = long lines blank last is ∙ size in
      record {
        entries = all_entries lines blank last is;
        once = all_once lines blank last size is;
        count = count ∙ all;
        each = λ k inside. ⊎_elim (λ had. let none = empty k in cc) (λ said. said) (from lines blank last size is k (get_or prices k 0) (says k (omega arith)));
      }

  list_to : (prices : List ℕ) → PriceList lines prices → prices_from (sheet_from blank lines) ≡ Ok prices
  list_to prices list =
      let (last, is) = accepted lines blank list.entries list.once (λ k d inside e says. empty (place e.name)) in
      let all : length last ≡ 257 = long lines blank last is ∙ size in
      ap prices_from is ∙ all_known last prices (list.count ∙ sym all)
      (λ k inside. let within : k < 257 = omega arith in
      ap (λ j. get_or last j None) (sym (place_back k within)) ∙ found lines blank last size is (record { name = name_at k; price = get_or prices k 0 }) (list.each k within))

  pub right_from : PricesRight lines (prices_from (sheet_from blank lines))
  right_from prices = (list_from (sheet_from blank lines) refl prices, list_to prices)

blank_length : (n : ℕ) (o : Option ℕ) → length (replicate n o) ≡ n
blank_length n o = length-replicate n o

nothing_yet : (n k : ℕ) (o : Option ℕ) → o ≡ None → get_or (replicate n o) k None ≡ None
nothing_yet n k o is = elim (cases_lt k n) [
  | inl inside ↦ get_or-replicate n k o None inside ∙ is
  | inr past ↦ get_or_past (replicate n o) k None (omega (arith, length-replicate n o))
]

pub prices_right : (lines : List Said) → PricesRight lines (prices_of lines)
prices_right lines = right_from lines (replicate 257 None) (blank_length 257 None) (λ k. nothing_yet 257 k None refl)
