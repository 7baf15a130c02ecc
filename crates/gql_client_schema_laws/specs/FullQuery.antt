-- The full query: what it asks for, and the definitions that its text means.
use Rattle.std.specs.Prelude.{ℕ, zero, suc, ◌+◌, ◌*◌, true, false, List, [], ◌∷◌, length, Some, codes}
use Rattle.gql_ast.specs.declared.definition.Definition.{Definition}
use Rattle.gql_ast.specs.declared.definition.Definition.TheVariants.{OperationDefinition, FragmentDefinition}
use Rattle.gql_ast_base.specs.declared.operation_type.OperationType.TheVariants.{Query}
use Rattle.gql_ast.specs.declared.operation.FragmentDefinition.{FragmentDefinition as FragmentOf}
use Rattle.gql_ast.specs.declared.operation.OperationDefinition.{OperationDefinition as OperationOf}
use Rattle.gql_client_schema_laws.specs.Asked.{Asked, asks_nothing, asks_field, asks_fragment, name_at, place, written}

-- a field of which nothing is asked
abbrev pub leaf : ℕ → List ℕ → Asked → Asked
leaf start name rest = asks_field start (start + length name) name false asks_nothing rest

-- ---- references to types, with so many references inside them

abbrev pub levels_length : ℕ → ℕ
levels_length inside = 21 * inside + 9

abbrev pub levels_asked : ℕ → ℕ → Asked
levels_asked start zero = leaf start (codes "kind") (leaf (start + 5) (codes "name") asks_nothing)
levels_asked start (suc inside) =
    leaf start (codes "kind")
    (leaf (start + 5) (codes "name")
    (asks_field (start + 10) (start + 21 + levels_length inside) (codes "ofType") false (levels_asked (start + 19) inside) asks_nothing))

abbrev pub reference_asked : Asked
reference_asked = levels_asked 729 8

-- ---- parts of types and directives

abbrev pub input_asked : Asked
input_asked =
    leaf 629 (codes "name")
    (leaf 634 (codes "description")
    (asks_field 646 659 (codes "type") false (asks_fragment 653 (codes "R") asks_nothing)
    (leaf 660 (codes "defaultValue")
    (leaf 673 (codes "isDeprecated")
    (leaf 686 (codes "deprecationReason") asks_nothing)))))

abbrev pub field_asked : Asked
field_asked =
    leaf 318 (codes "name")
    (leaf 323 (codes "description")
    (asks_field 335 373 (codes "args") true (asks_fragment 367 (codes "V") asks_nothing)
    (asks_field 374 387 (codes "type") false (asks_fragment 381 (codes "R") asks_nothing)
    (leaf 388 (codes "isDeprecated")
    (leaf 401 (codes "deprecationReason") asks_nothing)))))

abbrev pub value_asked : Asked
value_asked =
    leaf 548 (codes "name")
    (leaf 553 (codes "description")
    (leaf 565 (codes "isDeprecated")
    (leaf 578 (codes "deprecationReason") asks_nothing)))

abbrev pub type_asked : Asked
type_asked =
    leaf 239 (codes "kind")
    (leaf 244 (codes "name")
    (leaf 249 (codes "description")
    (leaf 261 (codes "specifiedByURL")
    (leaf 276 (codes "isOneOf")
    (asks_field 284 420 (codes "fields") true field_asked
    (asks_field 421 466 (codes "inputFields") true (asks_fragment 460 (codes "V") asks_nothing)
    (asks_field 467 486 (codes "interfaces") false (asks_fragment 480 (codes "R") asks_nothing)
    (asks_field 487 509 (codes "possibleTypes") false (asks_fragment 503 (codes "R") asks_nothing)
    (asks_field 510 597 (codes "enumValues") true value_asked asks_nothing)))))))))

abbrev pub directive_asked : Asked
directive_asked =
    leaf 131 (codes "name")
    (leaf 136 (codes "description")
    (leaf 148 (codes "isRepeatable")
    (leaf 161 (codes "locations")
    (asks_field 171 209 (codes "args") true (asks_fragment 203 (codes "V") asks_nothing) asks_nothing))))

-- ---- the schema

abbrev pub root_asked : ℕ → Asked
root_asked start = leaf start (codes "name") asks_nothing

abbrev pub schema_asked : Asked
schema_asked =
    leaf 24 (codes "description")
    (asks_field 36 54 (codes "queryType") false (root_asked 48)
    (asks_field 55 76 (codes "mutationType") false (root_asked 70)
    (asks_field 77 102 (codes "subscriptionType") false (root_asked 96)
    (asks_field 103 117 (codes "types") false (asks_fragment 111 (codes "T") asks_nothing)
    (asks_field 118 211 (codes "directives") false directive_asked asks_nothing)))))

abbrev pub full_asked : Asked
full_asked = asks_field 13 213 (codes "__schema") false schema_asked asks_nothing

-- ---- the definitions

abbrev pub the_operation : OperationOf
the_operation = record {
  operation_type = Query;
  name = Some (name_at 6 (codes "Full"));
  variables = [];
  directives = [];
  selection_set = written full_asked;
  location = place 0 215;
}

abbrev pub fragment_from : ℕ → ℕ → List ℕ → List ℕ → Asked → FragmentOf
fragment_from start end name condition asked = record {
  name = name_at (start + 9) name;
  type_condition = name_at (start + 14) condition;
  directives = [];
  selection_set = written asked;
  location = place start end;
}

abbrev pub type_fragment : FragmentOf
type_fragment = fragment_from 216 599 (codes "T") (codes "__Type") type_asked

abbrev pub input_fragment : FragmentOf
input_fragment = fragment_from 600 705 (codes "V") (codes "__InputValue") input_asked

abbrev pub reference_fragment : FragmentOf
reference_fragment = fragment_from 706 908 (codes "R") (codes "__Type") reference_asked

abbrev pub full_definitions : List Definition
full_definitions =
    OperationDefinition the_operation ∷ FragmentDefinition type_fragment ∷ FragmentDefinition input_fragment
    ∷ FragmentDefinition reference_fragment ∷ []
