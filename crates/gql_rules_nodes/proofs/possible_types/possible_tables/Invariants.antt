use Rattle.std.proofs.Common.{◌≡◌, ◌++◌, drop}
use Rattle.gql_rules_nodes.specs.PossibleTypes.{tables_in}
use Rattle.gql_rules_nodes.proofs.possible_types.possible_tables.Given as goal

-- what is there and what is left make the whole
abbrev pub invariant-loop-ty : goal.invariant-loop-ty
invariant-loop-ty l = l.tables ++ tables_in l.implementers (drop l.ty-index l.types) ≡ tables_in l.implementers l.types
