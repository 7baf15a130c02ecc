-- Two fields of one response key that are not one field: `{ a: b  a: c }` in section 5.3.2 of GraphQL October 2021.
use Rattle.std.specs.Prelude.{◌≡◌, List, [], ◌∷◌}
use Rattle.gql_collect.specs.Groups.{response_key}
use Rattle.gql_document_types.specs.declared.selection.Field.{Field}
use Rattle.gql_document_types.specs.declared.selection.Selection.{Selection}
use Rattle.gql_document_types.specs.declared.selection.Selection.TheVariants as selection
use Rattle.gql_valid_laws.specs.Merge.{HaveOneName}

abbrev pub both : Field → Field → List Selection
both f g = selection.Field f ∷ selection.Field g ∷ []

-- without directives, of one response key, and of two names
pub record AreOfTwoNames (f g : Field) : Type 0 where
  pub plain : f.directives ≡ []
  pub plain_too : g.directives ≡ []
  pub one_key : response_key f ≡ response_key g
  pub apart : HaveOneName f g → ⊥
