-- The built-in text is a document, what it defines, and that the rows stand for that.
use Rattle.std.proofs.Common.{◌≡◌, ℕ, true, nat_lt, List, [], ◌∷◌, get_or, refl}
use Rattle.std.specs.Prelude.{⊤, is_some}
use Rattle.std.specs.Str.{IsAscii}
use Rattle.std.proofs.lemmas.Bool.{ltb-true}
use Rattle.std.proofs.lemmas.List.Sums.{AllPass-from_list_all}
use Rattle.std.proofs.lemmas.Str.Ascii.{IsAscii-from_all}
use Rattle.gql_ast.specs.declared.definition.Definition.{Definition}
use Rattle.gql_ast.specs.Documents.{definitions, definition_of, choice_of, executable_definition_of, schema_definition_of, type_definition_of, extension_of}
use Rattle.gql_ast_base.specs.Kinds.{is_kind}
use Rattle.gql_ast_base.specs.Literals.{string_text, description}
use Rattle.gql_ast_base.specs.NamedTypes.{named_type_of}
use Rattle.gql_ast_base.specs.Parts.{nth_name, name_of, word, token_text, piece, location}
use Rattle.gql_ast.specs.Definitions.{scalar_of, object_of, interface_of, union_of, enum_of, input_object_of, interfaces}
use Rattle.gql_ast.specs.Extensions.{extends, schema_extension_of, scalar_extension_of, object_extension_of, interface_extension_of}
use Rattle.gql_ast.specs.Extensions.{union_extension_of, enum_extension_of, input_object_extension_of}
use Rattle.gql_ast.specs.Fields.{fields, field_of, input_value_of, argument_definitions, enum_values, enum_value_of}
use Rattle.gql_ast.specs.Schemas.{directive_definition_of, schema_of, location_word, directive_location_of, directive_locations}
use Rattle.gql_ast_laws.specs.Meant.{IsDocumentOf}
use Rattle.gql_ast.specs.Operations.{operation_of, fragment_of}
use Rattle.gql_ast.specs.Selections.{type_condition}
use Rattle.gql_ast_base.specs.Directives.{directives, directive_of}
use Rattle.gql_ast_base.specs.Types.{type_step, form_step}
use Rattle.gql_ast_base.specs.Values.{literal, simple_content, content_step, member_step, value_step, default_value}
use Rattle.gql_cst.specs.Forest.{Forest}
use Rattle.gql_cst.specs.Sentences.{words, shown}
use Rattle.gql_grammar.specs.declared.rule.Rule.{Rule}
use Rattle.gql_grammar.specs.declared.rule.Rule.TheVariants.{Document}
use Rattle.gql_grammar.specs.declared.symbol.Symbol.TheVariants.{One}
use Rattle.gql_grammar.specs.declared.syntax_kind.SyntaxKind.TheVariants as kind
use Rattle.gql_grammar.specs.declared.word.Word.{Word}
use Rattle.gql_grammar.specs.Factored.{factored}
use Rattle.gql_grammar.specs.Reads.{Reads}
use Rattle.gql_grammar.specs.Row.{Row, nothing, node}
use Rattle.gql_grammar.specs.Rule.{kind_of}
use Rattle.gql_grammar.specs.Sentence.{Sentence}
use Rattle.gql_cst.specs.TreeOf.{IsTreeOf}
use Rattle.gql_lexer.specs.Lex.{run_len, blank_len, string_len}
use Rattle.gql_lexer.specs.bridge.Lex.{lex, string, quoted}
use Rattle.gql_lexer.specs.Value.{values}
use Rattle.gql_schema_build.specs.declared.built_in.BuiltIn.{BuiltIn}
use Rattle.gql_schema.specs.declared.built_in_rows.TheConstants.{DIRECTIVES, TYPES}
use Rattle.gql_schema.specs.declared.built_in_text.TheConstants.{BUILT_IN_TEXT}
use Rattle.gql_schema.specs.BuiltInSchema.{IsBuiltIn, built_in_file}
use Rattle.gql_schema.specs.Rows as rows
use Rattle.gql_schema.specs.bridge.Rows as rows_bridge
use Rattle.gql_ast_laws.proofs.Forests.{planted}
use Rattle.gql_ast_laws.proofs.Found.{the}
use Rattle.gql_ast_laws.proofs.Readings.{ReadAs, read}
use Rattle.gql_ast_laws.proofs.Tokens.{TilesFrom, tokens}

abbrev built_in_text : List ℕ
built_in_text = BUILT_IN_TEXT.now

-- ---- what is opened to compute the tokens of a text, and the definitions of a tree by their kinds and names

unfoldable pub tokens_computed : ⊤
unfolding lex run_len blank_len string_len string quoted
tokens_computed = tt

unfoldable pub trees_computed : ⊤
unfolding definition_of choice_of executable_definition_of schema_definition_of type_definition_of extension_of operation_of fragment_of type_condition
    directive_definition_of schema_of scalar_of object_of interface_of union_of enum_of input_object_of extends schema_extension_of scalar_extension_of
    object_extension_of interface_extension_of union_extension_of enum_extension_of input_object_extension_of nth_name name_of word token_text piece is_kind
trees_computed = tt

-- ---- the tokens of the text, and its tree

pub ascii : IsAscii built_in_text
ascii =
    IsAscii-from_all built_in_text
    (λ k d within. ltb-true (get_or built_in_text k d) 128 (AllPass-from_list_all (λ b. nat_lt b 128) built_in_text refl k d within))

abbrev pub tiled : TilesFrom built_in_text 0
unfolding tokens_computed
tiled = the (tokens 2000 built_in_text ascii 0 built_in_text refl) refl

abbrev its_words : List Word
its_words = words built_in_text tiled.0

abbrev pub reading : ReadAs (One Document ∷ []) nothing its_words
unfolding tokens_computed
reading = the (read 1000 (One Document ∷ []) nothing its_words) refl

-- what stands in the one node of a row
abbrev within : Row → Row
within (node k inner behind) = inner
within _ = nothing

abbrev children : Forest
children = (planted (within reading.0) tiled.0).0

-- what the factored grammar reads is a sentence
abbrev pub SoundLaw : Type 0
SoundLaw = (start : Rule) (ws : List Word) (f : Row) → is_some (kind_of start) ≡ true → Reads factored (One start ∷ []) nothing ws f [] → Sentence start ws f

tree : SoundLaw → IsTreeOf Document built_in_text children
unfolding tokens_computed
tree law = record {
  tiles = tiled.1;
  sentence = law Document its_words (node kind.Document (shown built_in_text children) nothing) refl reading.2;
}

-- ---- its definitions

abbrev pub known_definitions : List Definition
known_definitions = definitions built_in_text built_in_file (record { kind = kind.Document; start = 0; end = 0; children = children })

pub known : SoundLaw → IsDocumentOf built_in_text built_in_file known_definitions
known law = record { children = children; tree = tree law; means = refl }

-- ---- the rows

unfoldable parts_computed : ⊤
unfolding string_text description named_type_of location interfaces fields field_of input_value_of argument_definitions enum_values enum_value_of
    location_word directive_location_of directive_locations directives directive_of type_step form_step literal simple_content content_step member_step
    value_step default_value values
    rows.arguments_at rows.fields_at rows.values_at rows.locations_at rows.argument_of rows.field_of rows.enum_value_of rows.object_of rows.enum_of rows.scalar_of rows.directive_of
parts_computed = tt

abbrev pub by_rows : BuiltIn
by_rows = rows_bridge.built_in_of BUILT_IN_TEXT.now built_in_file DIRECTIVES.now TYPES.now

pub is_built_in : SoundLaw → IsBuiltIn by_rows
unfolding tokens_computed trees_computed parts_computed
is_built_in law = record { definitions = known_definitions; text = known law; directives = refl; types = refl }
