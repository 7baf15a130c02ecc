-- The sizes of fragments that double.
use Rattle.std.proofs.Common.{arith, ◌≡◌, ℕ, zero, suc, ◌+◌, ◌*◌, [], None}
use Rattle.std.specs.Prelude.{codes}
use Rattle.gql_collect.specs.Sizes.{own, fragments_size}
use Rattle.gql_collect.proofs.Numbers.{own-field, own-spread}
use Rattle.gql_exec_laws.specs.Doubling.{numbered, spread, doubling, most_looks}
use Rattle.gql_exec_laws.specs.Examples.{int}
use Rattle.gql_exec_laws.specs.Parts.{plain, field_at}

one-spread : (k : ℕ) → own (spread k) ≡ 1
one-spread k = own-spread (record { fragment_name = numbered k; directives = []; location = None })

doubling-size : (n k : ℕ) → fragments_size (doubling n k) ≡ 1 + 2 * n
doubling-size zero k = omega (arith, own-field (field_at 0 (plain (codes "f") int) []))
doubling-size (suc n) k = omega (arith, one-spread (suc k), doubling-size n (suc k))

pub known : most_looks 29 ≡ 60
known = omega (arith, one-spread 1, doubling-size 29 1)
