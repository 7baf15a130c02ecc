-- What only private clauses and proofs cite, beside `ValueText`.
use Rattle.std.specs.Prelude.{ℕ, List, ◌++◌, codes}
use Rattle.gql_ast_base.specs.Names.{Named}
use Rattle.gql_ast_base.specs.declared.value.Value.{Value}
use Rattle.gql_ast.specs.ValueText.{value_text}

-- one pair of an object
abbrev pub member_text : Named × Value → List ℕ
member_text member = member.0.text ++ codes ": " ++ value_text member.1
