-- A stack of names.
use Rattle.std.specs.Prelude.{ℕ, List}
use Rattle.gql_ast_base.specs.Names.{Named}

-- the names that are open, the first one first, and at how many no other opens
pub record Stack : Type 0 where
  pub names : List Named
  pub limit : ℕ
