-- The text means one schema.
use Rattle.std.proofs.Common.{ℕ, List, sym, subst}
use Rattle.gql_parser.specs.SchemaText.{SchemaText}
use Rattle.gql_rules_nodes.specs.PossibleTable.{ArePossibleIn}
use Rattle.gql_schema_types.specs.declared.schema.Schema.{Schema}
use Rattle.gql_engine.specs.AtHand.{schema_text_in}
use Rattle.gql_engine.proofs.service.Service.possible_types.Goals as goal

pub returns : goal.returns
returns c = λ schema means.
    let here = c.self.inside.schema in
    subst (λ (s : Schema). ArePossibleIn s.types c.self.inside.possible)
    (c.texts_have_one_schema.ensures.schema (schema_text_in here) here schema c.self.invariant.means (subst (λ (text : List ℕ). SchemaText text schema) (sym c.self.view_is) means))
    c.self.invariant.are_possible
