-- What only private clauses and proofs cite, beside `Request`.
use Rattle.std.specs.Prelude.{◌≡◌, Option}
use Rattle.std.specs.Prelude.{Result, Ok, Err}
use Rattle.std.specs.Borrow.{Bor}
use Rattle.std.specs.Option.{option_copied}
use Rattle.gql_engine.specs.declared.request_form.RequestFault.{RequestFault}

-- what was found, behind the reference to it
abbrev pub IsFound : {A : Type 0} → Result (Bor A) RequestFault → Result A RequestFault → Type 0
IsFound (Ok found) read = read ≡ Ok found.now
IsFound (Err fault) read = read ≡ Err fault

abbrev pub IsFoundSome : {A : Type 0} → Result (Option (Bor A)) RequestFault → Result (Option A) RequestFault → Type 0
IsFoundSome (Ok found) read = read ≡ Ok (option_copied found)
IsFoundSome (Err fault) read = read ≡ Err fault
