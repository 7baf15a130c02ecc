-- The built-in text is a document, and its types.
use Rattle.std.proofs.Common.{◌≡◌, ℕ, nat_lt, List, [], ◌∷◌, get_or, refl, ap, ◌∙◌}
use Rattle.std.specs.Str.{IsAscii}
use Rattle.std.proofs.lemmas.Bool.{ltb-true}
use Rattle.std.proofs.lemmas.List.Sums.{AllPass-from_list_all}
use Rattle.std.proofs.lemmas.Str.Ascii.{IsAscii-from_all}
use Rattle.gql_ast.specs.declared.definition.Definition.{Definition}
use Rattle.gql_ast.specs.Documents.{definitions}
use Rattle.gql_ast_laws.specs.Meant.{IsDocumentOf}
use Rattle.gql_cst.specs.Forest.{Forest}
use Rattle.gql_cst.specs.Sentences.{words, shown}
use Rattle.gql_grammar.specs.declared.rule.Rule.TheVariants.{Document}
use Rattle.gql_grammar.specs.declared.symbol.Symbol.TheVariants.{One}
use Rattle.gql_grammar.specs.declared.syntax_kind.SyntaxKind.TheVariants as kind
use Rattle.gql_grammar.specs.declared.word.Word.{Word}
use Rattle.gql_grammar.specs.Row.{Row, nothing, node}
use Rattle.gql_cst.specs.TreeOf.{IsTreeOf}
use Rattle.gql_schema.specs.BuiltInSchema.{IsBuiltIn, built_in_file}
use Rattle.gql_schema_build.specs.TypeSystems.{with_definitions, no_definitions}
use Rattle.gql_schema_build.specs.declared.built_in.BuiltIn.{BuiltIn}
use Rattle.gql_schema_build.specs.declared.type_definition.TypeDefinition.{TypeDefinition}
use Rattle.gql_source.specs.declared.file_id.FileId.{FileId}
use Rattle.gql_parser.specs.BuiltInText.{built_in_text}
use Rattle.gql_engine.proofs.Computed.{tokens_computed}
use Rattle.gql_ast_laws.proofs.Forests.{planted}
use Rattle.gql_ast_laws.proofs.Found.{the}
use Rattle.gql_engine.proofs.Query.{SoundLaw}
use Rattle.gql_ast_laws.proofs.Readings.{ReadAs, read}
use Rattle.gql_ast_laws.proofs.Tokens.{TilesFrom, tokens}

-- ---- the tokens of the text, and its tree

pub ascii : IsAscii built_in_text
ascii =
    IsAscii-from_all built_in_text
    (λ k d within. ltb-true (get_or built_in_text k d) 128 (AllPass-from_list_all (λ b. nat_lt b 128) built_in_text refl k d within))

abbrev pub tiled : TilesFrom built_in_text 0
unfolding tokens_computed
tiled = the (tokens 2000 built_in_text ascii 0 built_in_text refl) refl

abbrev pub its_words : List Word
its_words = words built_in_text tiled.0

abbrev pub reading : ReadAs (One Document ∷ []) nothing its_words
unfolding tokens_computed
reading = the (read 1000 (One Document ∷ []) nothing its_words) refl

-- what stands in the one node of a row
abbrev pub within : Row → Row
within (node k inner behind) = inner
within _ = nothing

abbrev pub children : Forest
children = (planted (within reading.0) tiled.0).0

tree : SoundLaw → IsTreeOf Document built_in_text children
unfolding tokens_computed
tree law = record {
  tiles = tiled.1;
  sentence = law Document its_words (node kind.Document (shown built_in_text children) nothing) refl reading.2;
}

-- ---- its definitions

abbrev pub known_definitions : List Definition
known_definitions = definitions built_in_text built_in_file (record { kind = kind.Document; start = 0; end = 0; children = children })

known : SoundLaw → IsDocumentOf built_in_text built_in_file known_definitions
known law = record { children = children; tree = tree law; means = refl }

abbrev pub types_of : List Definition → List TypeDefinition
types_of ds = (with_definitions no_definitions ds).types

-- its types
abbrev pub types : List TypeDefinition
types = types_of known_definitions

abbrev pub OneDocument : Type 0
OneDocument = (text : List ℕ) (file : FileId) (one other : List Definition) → IsDocumentOf text file one → IsDocumentOf text file other → one ≡ other

pub types_are : SoundLaw → OneDocument → (built_in : BuiltIn) → IsBuiltIn built_in → built_in.types ≡ types
types_are sound law built_in is = is.types ∙ ap types_of (law built_in_text built_in_file is.definitions known_definitions is.text (known sound))
