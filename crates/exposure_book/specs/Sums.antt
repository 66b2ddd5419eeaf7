-- Sums over the pairs of accounts and symbols.
use Rattle.std.specs.Prelude.{ℕ, zero, suc, ◌+◌}

-- the sum of what a function gives for each number below this one
abbrev pub sum_below : ℕ → (ℕ → ℕ) → ℕ
sum_below zero part = 0
sum_below (suc n) part = sum_below n part + part n

-- the sum over an account's pairs, of so many symbols
abbrev pub over_account : ℕ → (ℕ → ℕ → ℕ) → ℕ → ℕ
over_account symbols part account = sum_below symbols (λ symbol. part account symbol)

-- the sum over a symbol's pairs, of so many accounts
abbrev pub over_symbol : ℕ → (ℕ → ℕ → ℕ) → ℕ → ℕ
over_symbol accounts part symbol = sum_below accounts (λ account. part account symbol)

-- the sum over all pairs
abbrev pub over_all : ℕ → ℕ → (ℕ → ℕ → ℕ) → ℕ
over_all accounts symbols part =
    sum_below accounts (λ account. over_account symbols part account)
