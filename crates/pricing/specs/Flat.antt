-- The flat model: one price for each opcode, whatever its operands, and the last for a saving. Assumes nothing.
--     prices             256 prices by opcode, and the price of a saving
--     Small prices       each of them fits 16 bits
--     flat prices        the model that they mean
use Rattle.std.specs.Prelude.{ℕ, ◌≤◌, List, slice_index}
use Rattle.pricing.specs.Model.{Model}

abbrev pub Small : List ℕ → Type 0
Small prices = (k : ℕ) → slice_index prices k ≤ 65535

abbrev pub flat : List ℕ → Model
flat prices =
    record {
      most = λ o imm. slice_index prices o;
      spending = λ o imm a b. slice_index prices o;
      dearest = slice_index prices 256;
      saving = λ p. slice_index prices 256;
    }
