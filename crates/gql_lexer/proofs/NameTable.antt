-- The table of the bytes that go on with a name says of each byte what `is_name_continue` says.
use Rattle.std.proofs.Common.{◌≡◌, ℕ, zero, suc, ◌<◌, inl, inr, Bool, true, false, not, ◌&&◌, refl, arith, slice_index_or}
use Rattle.std.proofs.lemmas.Bool.{cases_lt}
use Rattle.gql_lexer.specs.Class.{is_name_continue}
use Rattle.gql_lexer.specs.declared.class.TheConstants.{NAME_GOES_ON}
use Rattle.gql_lexer.proofs.Choices.{both}

abbrev same : Bool → Bool → Bool
same true b = b
same false b = not b

same-is : (a b : Bool) → same a b ≡ true → a ≡ b
same-is true true h = refl
same-is false false h = refl
same-is true false h = absurd (let f : false ≡ true = h in cc)
same-is false true h = absurd (let f : false ≡ true = h in cc)

abbrev says : ℕ → Bool
says b = same (slice_index_or NAME_GOES_ON b false) (is_name_continue b)

abbrev says_below : ℕ → Bool
says_below zero = true
says_below (suc n) = says n && says_below n

computed : says_below 256 ≡ true
computed = refl

below : (n b : ℕ) → says_below n ≡ true → b < n → says b ≡ true
below zero b h lt = absurd (omega arith)
below (suc n) b h lt =
    let parts = both (says n) (says_below n) h in
    elim (cases_lt b n) [
      | inl less ↦ below n b parts.1 less
      | inr top ↦ let e : b ≡ n = omega arith in rw e parts.0
    ]

pub name_table : (b : ℕ) → b < 256 → slice_index_or NAME_GOES_ON b false ≡ is_name_continue b
name_table b lt = same-is (slice_index_or NAME_GOES_ON b false) (is_name_continue b) (below 256 b computed lt)
