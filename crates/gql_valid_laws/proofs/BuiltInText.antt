-- The built-in text defines no input object type.
use Rattle.std.proofs.Common.{◌≡◌, ℕ, Bool, true, false, List, refl, ap, ◌∙◌}
use Rattle.std.specs.List.{list_any}
use Rattle.gql_ast.specs.declared.definition.Definition.{Definition}
use Rattle.gql_ast_laws.specs.Meant.{IsDocumentOf}
use Rattle.gql_parser.specs.BuiltInText.{built_in_text}
use Rattle.gql_schema.specs.BuiltInSchema.{IsBuiltIn, built_in_file}
use Rattle.gql_schema.proofs.Known.{SoundLaw, known, known_definitions, tokens_computed, trees_computed}
use Rattle.gql_schema_build.specs.TypeSystems.{with_definitions, no_definitions}
use Rattle.gql_schema_build.specs.declared.built_in.BuiltIn.{BuiltIn}
use Rattle.gql_schema_build.specs.declared.type_definition.TypeDefinition.{TypeDefinition}
use Rattle.gql_schema_build.specs.declared.type_definition.TypeDefinition.TheVariants.{InputObject}
use Rattle.gql_source.specs.declared.file_id.FileId.{FileId}

abbrev pub OneDocument : Type 0
OneDocument = (text : List ℕ) (file : FileId) (one other : List Definition) → IsDocumentOf text file one → IsDocumentOf text file other → one ≡ other

-- ---- of its types none is an input object

abbrev pub is_input_object : TypeDefinition → Bool
is_input_object (InputObject d) = true
is_input_object _ = false

abbrev types_of : List Definition → List TypeDefinition
types_of ds = (with_definitions no_definitions ds).types

known_inputs : list_any is_input_object (types_of known_definitions) ≡ false
unfolding tokens_computed trees_computed
known_inputs = refl

pub inputs : SoundLaw → OneDocument → (built_in : BuiltIn) → IsBuiltIn built_in → list_any is_input_object built_in.types ≡ false
inputs sound law built_in is =
    let same : is.definitions ≡ known_definitions = law built_in_text built_in_file is.definitions known_definitions is.text (known sound) in
    ap (list_any is_input_object) (is.types ∙ ap types_of same) ∙ known_inputs
