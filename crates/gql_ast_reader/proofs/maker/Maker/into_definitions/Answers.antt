use Rattle.std.proofs.Common.{refl, ◌∙◌}
use Rattle.gql_ast.specs.Documents.{definition_of}
use Rattle.gql_ast_base.specs.Forest.{row_of}
use Rattle.gql_ast_base.specs.Parts.{gather}
use Rattle.gql_cst.specs.bridge.Open.{whole_text}
use Rattle.gql_ast_reader.proofs.maker.Maker.into_definitions.Goals as goal

pub returns : goal.returns
returns g c = λ trees waiting h.
    c.into_definitions.ensures _ _ (whole_text trees) refl h.keeps ∙ (λ i. gather (definition_of (h.is_text i) (h.is_file i)) (row_of trees))
