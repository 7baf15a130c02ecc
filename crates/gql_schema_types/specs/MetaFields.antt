-- Fields that types have besides their own: sections 4.1 and 4.2 of GraphQL October 2021.
use Rattle.std.specs.Prelude.{ℕ, List, [], ◌∷◌, None, codes}
use Rattle.gql_ast_base.specs.Names.{Named}
use Rattle.gql_ast.specs.declared.field_definition.FieldDefinition.{FieldDefinition}
use Rattle.gql_ast.specs.declared.field_definition.InputValueDefinition.{InputValueDefinition}
use Rattle.gql_ast_base.specs.declared.type_ref.TypeRef.{TypeRef}
use Rattle.gql_ast_base.specs.declared.type_ref.TypeRef.TheVariants as type

abbrev pub named : List ℕ → Named
named text = record { text = text; location = None }

abbrev pub field : List ℕ → List InputValueDefinition → TypeRef → FieldDefinition
field text arguments ty = record { description = None; name = named text; arguments = arguments; ty = ty; directives = []; location = None }

abbrev pub argument : List ℕ → TypeRef → InputValueDefinition
argument text ty = record { description = None; name = named text; ty = ty; default_value = None; directives = []; location = None }

-- __typename: String!
abbrev pub type_name_field : FieldDefinition
type_name_field = field (codes "__typename") [] (type.NonNullNamed (named (codes "String")))

-- __schema: __Schema!
abbrev pub schema_field : FieldDefinition
schema_field = field (codes "__schema") [] (type.NonNullNamed (named (codes "__Schema")))

-- __type(name: String!): __Type
abbrev pub type_field : FieldDefinition
type_field = field (codes "__type") (argument (codes "name") (type.NonNullNamed (named (codes "String"))) ∷ []) (type.Named (named (codes "__Type")))
