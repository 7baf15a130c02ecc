-- How deep values and types are nested: lists, objects and list types open a level each (sections 2.9 and 2.11 of GraphQL October 2021).
use Rattle.std.specs.Prelude.{ℕ, suc, max}
use Rattle.gql_ast_base.specs.declared.type_ref.TypeRef.{TypeRef, fold-TypeRef}
use Rattle.gql_ast_base.specs.declared.type_ref.TypeRef.TheOpen.{TypeRef-F}
use Rattle.gql_print_laws.specs.Literal.{Literal, list, object, Literals, no_literal, literal_then, Pairs, no_pair, pair_then}

-- as deep as a parser reads that is not told otherwise
abbrev pub most_levels : ℕ
most_levels = 500

abbrev mutual
  pub literal_depth : Literal → ℕ
  literal_depth (list ls) = suc (literals_depth ls)
  literal_depth (object ps) = suc (pairs_depth ps)
  literal_depth _ = 0

  pub literals_depth : Literals → ℕ
  literals_depth no_literal = 0
  literals_depth (literal_then l ls) = max (literal_depth l) (literals_depth ls)

  pub pairs_depth : Pairs → ℕ
  pairs_depth no_pair = 0
  pairs_depth (pair_then k l ps) = max (literal_depth l) (pairs_depth ps)

abbrev pub type_step : TypeRef-F ℕ → ℕ
type_step (TypeRef-F.Named name) = 0
type_step (TypeRef-F.NonNullNamed name) = 0
type_step (TypeRef-F.List item) = suc item
type_step (TypeRef-F.NonNullList item) = suc item

abbrev pub type_depth : TypeRef → ℕ
type_depth = fold-TypeRef ℕ type_step
