-- Fields of one response key that one object can have are one field: section 5.3.2 of GraphQL October 2021.
use Rattle.std.specs.Prelude.{◌≡◌, ℕ, zero, suc, List}
use Rattle.std.specs.List.{AllByRecursion, Contains}
use Rattle.gql_ast_base.specs.TypeParts.{named_type}
use Rattle.gql_collect.specs.Flat.{flat}
use Rattle.gql_collect.specs.Groups.{response_key}
use Rattle.gql_collect.specs.Kept.{Variables}
use Rattle.gql_collect.specs.Setting.{Setting}
use Rattle.gql_document_types.specs.declared.document.ExecutableDocument.{ExecutableDocument}
use Rattle.gql_document_types.specs.declared.fragment.Fragment.{Fragment}
use Rattle.gql_document_types.specs.declared.operation.Operation.{Operation}
use Rattle.gql_document_types.specs.declared.selection.Field.{Field}
use Rattle.gql_document_types.specs.declared.selection.Selection.{Selection}
use Rattle.gql_schema_types.specs.declared.schema.Schema.{Schema}
use Rattle.gql_schema_types.specs.declared.types.ObjectType.{ObjectType}
use Rattle.gql_valid_laws.specs.Covariant.{Stands, lists_in}

abbrev pub HaveOneName : Field → Field → Type 0
HaveOneName f g = f.name.text ≡ g.name.text

-- as many lists in one another
abbrev pub HaveOneDepth : Field → Field → Type 0
HaveOneDepth f g = lists_in f.definition.ty ≡ lists_in g.definition.ty

-- of one response key all these fields have one name
abbrev pub AreOfOneName : List Field → Type 0
AreOfOneName fields = AllByRecursion (λ f. AllByRecursion (λ g. response_key f ≡ response_key g → HaveOneName f g) fields) fields

module _ (Alike : Field → Field → Type 0) (schema : Schema) (fragments : List Fragment) (variables : Variables) where
  -- what an object of this type is given of a document
  abbrev pub on : ObjectType → Setting
  on T = record { fragments = fragments; schema = schema; object = T; variables = variables }

  -- Of two sets on an object type those of one response key are alike, and so are those below them on each object type that stands
  -- for both their types: to so many sets inside one another.
  abbrev pub MergeTo : ℕ → ObjectType → List Selection → List Selection → Type 0
  MergeTo zero T one other = Unit {0}
  MergeTo (suc n) T one other =
      AllByRecursion (λ (f : Field). AllByRecursion (λ (g : Field).
      response_key f ≡ response_key g
      → Alike f g × ((V : ObjectType) → Stands schema V (named_type f.definition.ty).text → Stands schema V (named_type g.definition.ty).text
      → MergeTo n V f.selection_set.selections g.selection_set.selections)
      ) (flat (on T) other)) (flat (on T) one)

  abbrev pub Merge : ObjectType → List Selection → List Selection → Type 0
  Merge T one other = (n : ℕ) → MergeTo n T one other

-- what each operation selects, on each object type that stands for its root type, whatever the variables are
abbrev pub OperationsMerge : (Field → Field → Type 0) → Schema → ExecutableDocument → Type 0
OperationsMerge Alike schema document =
    (operation : Operation) → Contains document.operations operation → (T : ObjectType) → Stands schema T operation.selection_set.ty.text
    → (variables : Variables) → Merge Alike schema document.fragments variables T operation.selection_set.selections operation.selection_set.selections
