-- The full query's text is a document, and these are its definitions.
use Rattle.std.proofs.Common.{◌≡◌, ℕ, true, nat_lt, List, [], ◌∷◌, get_or, refl}
use Rattle.std.specs.Prelude.{⊤, is_some}
use Rattle.std.specs.Str.{IsAscii}
use Rattle.std.proofs.lemmas.Bool.{ltb-true}
use Rattle.std.proofs.lemmas.List.Sums.{AllPass-from_list_all}
use Rattle.std.proofs.lemmas.Str.Ascii.{IsAscii-from_all}
use Rattle.gql_ast.specs.Documents.{definition_of, choice_of, executable_definition_of, schema_definition_of, type_definition_of, extension_of}
use Rattle.gql_ast_base.specs.Directives.{directives, directive_of, arguments, argument_of}
use Rattle.gql_ast_base.specs.Kinds.{is_kind}
use Rattle.gql_ast_base.specs.NamedTypes.{named_type_of, named_type_in}
use Rattle.gql_ast_base.specs.OperationTypes.{operation_type_in, operation_type_of}
use Rattle.gql_ast_base.specs.Parts.{nth_name, name_of, word, token_text, piece, location}
use Rattle.gql_ast_base.specs.Values.{literal, simple_content, content_step, member_step, value_step}
use Rattle.gql_ast.specs.Operations.{operation_of, fragment_of, variable_of, variables}
use Rattle.gql_ast.specs.Selections.{type_condition, spread_of, field_step, inline_step, choice_step, selection_step}
use Rattle.gql_ast_laws.specs.Meant.{IsDocumentOf}
use Rattle.gql_client_schema.specs.declared.full_query.TheConstants.{FULL_QUERY}
use Rattle.gql_cst.specs.Forest.{Forest}
use Rattle.gql_cst.specs.Sentences.{words, shown}
use Rattle.gql_cst.specs.TreeOf.{IsTreeOf}
use Rattle.gql_grammar.specs.Factored.{factored}
use Rattle.gql_grammar.specs.Reads.{Reads}
use Rattle.gql_grammar.specs.Row.{Row, nothing, node}
use Rattle.gql_grammar.specs.Rule.{kind_of}
use Rattle.gql_grammar.specs.Sentence.{Sentence}
use Rattle.gql_grammar.specs.declared.rule.Rule.{Rule}
use Rattle.gql_grammar.specs.declared.rule.Rule.TheVariants.{Document}
use Rattle.gql_grammar.specs.declared.symbol.Symbol.TheVariants.{One}
use Rattle.gql_grammar.specs.declared.syntax_kind.SyntaxKind.TheVariants as kind
use Rattle.gql_grammar.specs.declared.word.Word.{Word}
use Rattle.gql_lexer.specs.Lex.{run_len, blank_len, string_len}
use Rattle.gql_lexer.specs.bridge.Lex.{lex, string, quoted}
use Rattle.gql_lexer.specs.Value.{values}
use Rattle.gql_ast_laws.proofs.Forests.{planted}
use Rattle.gql_ast_laws.proofs.Found.{the}
use Rattle.gql_ast_laws.proofs.Readings.{ReadAs, read}
use Rattle.gql_ast_laws.proofs.Tokens.{TilesFrom}
use Rattle.gql_client_schema_laws.proofs.SpreadTokens.{tokens}
use Rattle.gql_client_schema_laws.specs.Asked.{query_file}
use Rattle.gql_client_schema_laws.specs.FullQuery.{full_definitions}

abbrev full_text : List ℕ
full_text = FULL_QUERY.now

-- ---- what is opened to compute the tokens of a text, and the definitions of a tree

unfoldable tokens_computed : ⊤
unfolding lex run_len blank_len string_len string quoted
tokens_computed = tt

unfoldable trees_computed : ⊤
unfolding definition_of choice_of executable_definition_of schema_definition_of type_definition_of extension_of operation_of fragment_of variable_of variables
    type_condition spread_of field_step inline_step choice_step selection_step directives directive_of arguments argument_of operation_type_in operation_type_of
    nth_name name_of word token_text piece location is_kind named_type_of named_type_in literal simple_content content_step member_step value_step values
trees_computed = tt

-- ---- the tokens of the text, and its tree

pub ascii : IsAscii full_text
ascii =
    IsAscii-from_all full_text
    (λ k d within. ltb-true (get_or full_text k d) 128 (AllPass-from_list_all (λ b. nat_lt b 128) full_text refl k d within))

abbrev tiled : TilesFrom full_text 0
unfolding tokens_computed
tiled = the (tokens 1000 full_text ascii 0 full_text refl) refl

abbrev its_words : List Word
its_words = words full_text tiled.0

abbrev reading : ReadAs (One Document ∷ []) nothing its_words
unfolding tokens_computed
reading = the (read 1000 (One Document ∷ []) nothing its_words) refl

-- what stands in the one node of a row
abbrev within : Row → Row
within (node k inner behind) = inner
within _ = nothing

abbrev children : Forest
children = (planted (within reading.0) tiled.0).0

-- what the factored grammar reads is a sentence
abbrev pub SoundLaw : Type 0
SoundLaw = (start : Rule) (ws : List Word) (f : Row) → is_some (kind_of start) ≡ true → Reads factored (One start ∷ []) nothing ws f [] → Sentence start ws f

tree : SoundLaw → IsTreeOf Document full_text children
unfolding tokens_computed
tree law = record {
  tiles = tiled.1;
  sentence = law Document its_words (node kind.Document (shown full_text children) nothing) refl reading.2;
}

pub known : SoundLaw → IsDocumentOf full_text query_file full_definitions
unfolding tokens_computed trees_computed
known law = record { children = children; tree = tree law; means = refl }
