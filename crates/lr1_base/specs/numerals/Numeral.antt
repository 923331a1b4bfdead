-- Decimal numerals as bytes.
use Rattle.std.specs.Prelude.{ℕ, zero, suc, ◌+◌, ◌/◌, ◌%◌, Bool, true, false, ◌&&◌, List, [], ◌∷◌, ◌++◌, leb, ltb}

-- decimal, without leading zeros; f bounds the digits, and 20 are enough for 64 bits (`put_number` of crates/output_text/src/conflict_lines.rt)
unfoldable pub numeral_by : ℕ → ℕ → List ℕ
numeral_by zero n = []
numeral_by (suc f) n = elim (ltb n 10) [ true ↦ (48 + n) ∷ [] | false ↦ numeral_by f (n / 10) ++ ((48 + n % 10) ∷ []) ]

unfoldable pub numeral : ℕ → List ℕ
numeral n = numeral_by 20 n

unfoldable pub is_digit_byte : ℕ → Bool
is_digit_byte b = leb 48 b && leb b 57
