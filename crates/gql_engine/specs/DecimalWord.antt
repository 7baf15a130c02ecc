-- A number in decimal without a leading zero, of at most 32 bits.
use Rattle.std.specs.Prelude.{◌≡◌, ◌<◌, ◌^◌, ℕ, List}
use Rattle.std.specs.Fmt.{decimal}

abbrev pub IsDecimalWord : List ℕ → ℕ → Type 0
IsDecimalWord word n = (word ≡ decimal n) × (n < 2 ^ 32)

abbrev pub IsNoDecimalWord : List ℕ → Type 0
IsNoDecimalWord word = (n : ℕ) → IsDecimalWord word n → ⊥
