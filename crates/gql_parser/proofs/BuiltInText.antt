-- The built-in text is a document, and each built-in scalar is a scalar that it defines.
use Rattle.std.proofs.Common.{◌≡◌, ℕ, true, List, refl, ap, ◌∙◌}
use Rattle.std.specs.List.{list_all}
use Rattle.gql_ast.specs.declared.definition.Definition.{Definition}
use Rattle.gql_ast_laws.specs.Meant.{IsDocumentOf}
use Rattle.gql_schema.specs.BuiltInSchema.{IsBuiltIn, built_in_file}
use Rattle.gql_schema_rules.specs.Scalars.{built_in_scalars}
use Rattle.gql_schema.proofs.Known.{SoundLaw, known, known_definitions, tokens_computed, trees_computed}
use Rattle.gql_schema_build.specs.TypeSystems.{with_definitions, no_definitions}
use Rattle.gql_schema_build.specs.declared.built_in.BuiltIn.{BuiltIn}
use Rattle.gql_source.specs.declared.file_id.FileId.{FileId}
use Rattle.gql_parser.specs.BuiltInText.{built_in_text, is_scalar_of}

pub document : SoundLaw → (definitions : List Definition) × IsDocumentOf built_in_text built_in_file definitions
document law = (known_definitions, known law)

abbrev pub OneDocument : Type 0
OneDocument = (text : List ℕ) (file : FileId) (one other : List Definition) → IsDocumentOf text file one → IsDocumentOf text file other → one ≡ other

abbrev with_types_of : BuiltIn → List Definition → BuiltIn
with_types_of built_in ds = record built_in { types = (with_definitions no_definitions ds).types }

known_scalars : (built_in : BuiltIn) → list_all (is_scalar_of (with_types_of built_in known_definitions)) built_in_scalars ≡ true
unfolding tokens_computed trees_computed
known_scalars built_in = refl

pub scalars : SoundLaw → OneDocument → (built_in : BuiltIn) → IsBuiltIn built_in → list_all (is_scalar_of built_in) built_in_scalars ≡ true
scalars sound law built_in is =
    let same : is.definitions ≡ known_definitions = law built_in_text built_in_file is.definitions known_definitions is.text (known sound) in
    let types : built_in ≡ with_types_of built_in is.definitions = λ i. record built_in { types = is.types i } in
    ap (λ b. list_all (is_scalar_of b) built_in_scalars) (types ∙ ap (with_types_of built_in) same) ∙ known_scalars built_in
