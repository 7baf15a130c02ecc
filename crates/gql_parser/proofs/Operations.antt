-- The operations of a document are those of its definitions that are first of their name.
use Rattle.std.proofs.Common.{Bool, true, false, if◌then◌else◌, List, [], ◌∷◌, All}
use Rattle.std.proofs.lemmas.List.Elements.{All-append, All-cons, All-head, All-tail, All-nil}
use Rattle.gql_ast.specs.declared.definition.Definition.{Definition}
use Rattle.gql_ast.specs.declared.definition.Definition.TheVariants as definition
use Rattle.gql_ast_base.specs.Names.{Named}
use Rattle.gql_ast.specs.declared.operation.OperationDefinition.{OperationDefinition}
use Rattle.gql_document.specs.Definitions.{with_definition, with_definitions}
use Rattle.gql_document.specs.OperationNameCollision.{with_option, is_first, first_or_none, first_after}
use Rattle.gql_document.specs.declared.executable_definitions.ExecutableDefinitions.{ExecutableDefinitions}
use Rattle.gql_parser.proofs.Definitions.{DefinitionSelects, Selects}

pub taken_select : (definitions : List Definition) (taken : ExecutableDefinitions) → All Selects taken.operations → All DefinitionSelects definitions
    → All Selects (with_definitions taken definitions).operations
taken_select [] taken h g = h
taken_select (d ∷ definitions) taken h g =
    taken_select definitions (with_definition taken d) (one d (All-head DefinitionSelects d definitions g)) (All-tail DefinitionSelects d definitions g)
  where
    one : (d : Definition) → DefinitionSelects d → All Selects (with_definition taken d).operations
    one (definition.OperationDefinition it) k = All-append Selects taken.operations (it ∷ []) h (All-cons Selects it [] k (All-nil Selects))
    one (definition.FragmentDefinition it) k = h
    one (definition.SchemaDefinition it) k = h
    one (definition.SchemaExtension it) k = h
    one (definition.DirectiveDefinition it) k = h
    one (definition.ScalarTypeDefinition it) k = h
    one (definition.ObjectTypeDefinition it) k = h
    one (definition.InterfaceTypeDefinition it) k = h
    one (definition.UnionTypeDefinition it) k = h
    one (definition.EnumTypeDefinition it) k = h
    one (definition.InputObjectTypeDefinition it) k = h
    one (definition.ScalarTypeExtension it) k = h
    one (definition.ObjectTypeExtension it) k = h
    one (definition.InterfaceTypeExtension it) k = h
    one (definition.UnionTypeExtension it) k = h
    one (definition.EnumTypeExtension it) k = h
    one (definition.InputObjectTypeExtension it) k = h

pub first_select : (names : List Named) (operations : List OperationDefinition) → All Selects operations → All Selects (first_after names operations)
first_select names [] h = All-nil Selects
first_select names (it ∷ operations) h =
    All-append Selects (first_or_none names it) (first_after (with_option names it.name) operations) (by_test (is_first names it.name))
    (first_select (with_option names it.name) operations (All-tail Selects it operations h))
  where
    by_test : (b : Bool) → All Selects (if b then it ∷ [] else [])
    by_test true = All-cons Selects it [] (All-head Selects it operations h) (All-nil Selects)
    by_test false = All-nil Selects
