-- The variables of a document that a text means can be coerced.
use Rattle.std.proofs.Common.{ℕ, Bool, true, false, if◌then◌else◌, Option, Some, None, List, [], ◌∷◌, flat_map, All, sym, subst}
use Rattle.std.specs.Option.{option_map_or}
use Rattle.std.proofs.lemmas.List.Elements.{All-append, All-cons, All-head, All-tail, All-nil}
use Rattle.gql_source.specs.declared.file_id.FileId.{FileId}
use Rattle.gql_ast.specs.declared.definition.Definition.{Definition}
use Rattle.gql_ast.specs.declared.definition.Definition.TheVariants as definition
use Rattle.gql_ast_base.specs.Names.{Named}
use Rattle.gql_ast_laws.specs.Defaults.{IsConstantVariable, HasConstantDefaults}
use Rattle.gql_ast.specs.declared.operation.OperationDefinition.{OperationDefinition}
use Rattle.gql_document.specs.AmbiguousAnonymousOperation.{are_several, is_ambiguous}
use Rattle.gql_document.specs.Build.{built_operation, operation_on}
use Rattle.gql_document.specs.Builders.{Taken}
use Rattle.gql_document.specs.Definitions.{with_definition, with_definitions, no_definitions}
use Rattle.gql_document.specs.OperationNameCollision.{with_option, is_first, first_or_none, first_after, first_operations}
use Rattle.gql_document.specs.UndefinedRootOperation.{root_type}
use Rattle.gql_document.specs.declared.executable_definitions.ExecutableDefinitions.{ExecutableDefinitions}
use Rattle.gql_parser.specs.DocumentText.{DocumentText, its_given}
use Rattle.gql_document_types.specs.declared.document.ExecutableDocument.{ExecutableDocument}
use Rattle.gql_document_types.specs.declared.operation.Operation.{Operation}
use Rattle.gql_schema_types.specs.declared.schema.Schema.{Schema}
use Rattle.gql_valid_laws.specs.Inputs.{IsInputVariable}
use Rattle.gql_valid_laws.proofs.Documents.{variables-typed}
use Rattle.gql_valid_laws.proofs.Schemas.{DefaultsLaw}

abbrev OfDefinition : OperationDefinition → Type 0
OfDefinition it = All IsConstantVariable it.variables

abbrev OfOperation : Operation → Type 0
OfOperation it = All IsConstantVariable it.variables

taken-constant : (definitions : List Definition) (file : FileId) (taken : ExecutableDefinitions) → All OfDefinition taken.operations → All (HasConstantDefaults file) definitions
    → All OfDefinition (with_definitions taken definitions).operations
taken-constant [] file taken h g = h
taken-constant (d ∷ definitions) file taken h g =
    taken-constant definitions file (with_definition taken d) (one d (All-head (HasConstantDefaults file) d definitions g)) (All-tail (HasConstantDefaults file) d definitions g)
  where
    one : (d : Definition) → HasConstantDefaults file d → All OfDefinition (with_definition taken d).operations
    one (definition.OperationDefinition it) k = All-append OfDefinition taken.operations (it ∷ []) h (All-cons OfDefinition it [] k (All-nil OfDefinition))
    one (definition.FragmentDefinition it) k = h
    one (definition.SchemaDefinition it) k = h
    one (definition.SchemaExtension it) k = h
    one (definition.DirectiveDefinition it) k = h
    one (definition.ScalarTypeDefinition it) k = h
    one (definition.ObjectTypeDefinition it) k = h
    one (definition.InterfaceTypeDefinition it) k = h
    one (definition.UnionTypeDefinition it) k = h
    one (definition.EnumTypeDefinition it) k = h
    one (definition.InputObjectTypeDefinition it) k = h
    one (definition.ScalarTypeExtension it) k = h
    one (definition.ObjectTypeExtension it) k = h
    one (definition.InterfaceTypeExtension it) k = h
    one (definition.UnionTypeExtension it) k = h
    one (definition.EnumTypeExtension it) k = h
    one (definition.InputObjectTypeExtension it) k = h

module _ (schema : Schema) where
  operation-constant : (several : Bool) (it : OperationDefinition) → OfDefinition it → All OfOperation (built_operation schema several it)
  operation-constant several it h = by_name (is_ambiguous several it)
    where
      by_root : (root : Option Named) → All OfOperation (option_map_or (λ (r : Named). operation_on schema r it ∷ []) root [])
      by_root (Some root) = All-cons OfOperation (operation_on schema root it) [] h (All-nil OfOperation)
      by_root None = All-nil OfOperation

      by_name : (b : Bool) → All OfOperation (if b then [] else option_map_or (λ (r : Named). operation_on schema r it ∷ []) (root_type schema it) [])
      by_name true = All-nil OfOperation
      by_name false = by_root (root_type schema it)

  operations-constant : (several : Bool) (operations : List OperationDefinition) → All OfDefinition operations → All OfOperation (flat_map (built_operation schema several) operations)
  operations-constant several [] h = All-nil OfOperation
  operations-constant several (it ∷ operations) h =
      All-append OfOperation (built_operation schema several it) (flat_map (built_operation schema several) operations) (operation-constant several it (All-head OfDefinition it operations h))
      (operations-constant several operations (All-tail OfDefinition it operations h))

first-constant : (names : List Named) (operations : List OperationDefinition) → All OfDefinition operations → All OfDefinition (first_after names operations)
first-constant names [] h = All-nil OfDefinition
first-constant names (it ∷ operations) h =
    All-append OfDefinition (first_or_none names it) (first_after (with_option names it.name) operations) (by_test (is_first names it.name))
    (first-constant (with_option names it.name) operations (All-tail OfDefinition it operations h))
  where
    by_test : (b : Bool) → All OfDefinition (if b then it ∷ [] else [])
    by_test true = All-cons OfDefinition it [] (All-head OfDefinition it operations h) (All-nil OfDefinition)
    by_test false = All-nil OfDefinition

document-constant : DefaultsLaw → (schema : Schema) (text : List ℕ) (document : ExecutableDocument) → DocumentText schema text document → All OfOperation document.operations
document-constant law schema text document means =
    let taken = means.taken in
    let d = means.definitions in
    let of_taken : All OfDefinition taken.definitions.operations =
    subst (λ (t : Taken). All OfDefinition t.definitions.operations) (sym d.all)
    (taken-constant d.definitions (its_given text).file no_definitions (All-nil OfDefinition) (law text (its_given text).file d.definitions d.mean)) in
    let first = first_operations taken.definitions.operations in
    subst (λ (whole : ExecutableDocument). All OfOperation whole.operations) (sym means.is)
    (operations-constant taken.schema (are_several first) first (first-constant [] taken.definitions.operations of_taken))

abbrev OfInputs : Schema → Operation → Type 0
OfInputs schema it = All (IsInputVariable schema.types) it.variables

pub document-inputs : DefaultsLaw → (schema : Schema) (text : List ℕ) (document : ExecutableDocument) → DocumentText schema text document → All (OfInputs schema) document.operations
document-inputs law schema text document means k operation lt j variable inside = record {
  typed = variables-typed schema document means.holds k operation lt j variable inside;
  constant = document-constant law schema text document means k operation lt j variable inside;
}
