-- What only private clauses and proofs cite, beside `Translation`.
use Rattle.std.specs.Prelude.{ℕ, List}
use Rattle.jb_tree.specs.declared.value.Value.{Value as JsonValue}
use Rattle.gql_ast_base.specs.Names.{Named}
use Rattle.gql_ast_base.specs.declared.value.Value.{Value}
use Rattle.gql_coerce.specs.Outcome.{Outcome, mapped}
use Rattle.gql_coerce.specs.Translation.{translated}

module _ (d : List ℕ) where
  -- a name beside what its value is translated to
  abbrev pub translated_member : Named × Value → Outcome (List ℕ × JsonValue)
  translated_member member = mapped (λ value. (member.0.text, value)) (translated d member.1)
