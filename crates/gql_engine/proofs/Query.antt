-- The query of the self-test: its tree, and the operation that it stands for.
use Rattle.std.proofs.Common.{◌≡◌, ℕ, true, nat_lt, List, [], ◌∷◌, Some, None, get_or, refl}
use Rattle.std.specs.Prelude.{is_some, codes}
use Rattle.std.specs.Str.{IsAscii}
use Rattle.std.proofs.lemmas.Bool.{ltb-true}
use Rattle.std.proofs.lemmas.List.Sums.{AllPass-from_list_all}
use Rattle.std.proofs.lemmas.Str.Ascii.{IsAscii-from_all}
use Rattle.gql_ast.specs.declared.definition.Definition.TheVariants as definition
use Rattle.gql_ast_base.specs.Names.{Named}
use Rattle.gql_ast_base.specs.declared.operation_type.OperationType.TheVariants.{Query}
use Rattle.gql_ast_laws.specs.Meant.{IsDocumentOf}
use Rattle.gql_ast.specs.declared.operation.OperationDefinition.{OperationDefinition}
use Rattle.gql_ast.specs.declared.selection.Field.{Field}
use Rattle.gql_ast.specs.declared.selection.Selection.{Selection}
use Rattle.gql_ast.specs.declared.selection.Selection.TheVariants as selection
use Rattle.gql_cst.specs.Forest.{Forest}
use Rattle.gql_cst.specs.Sentences.{words, shown}
use Rattle.gql_grammar.specs.declared.rule.Rule.{Rule}
use Rattle.gql_grammar.specs.declared.rule.Rule.TheVariants.{Document}
use Rattle.gql_grammar.specs.declared.symbol.Symbol.TheVariants.{One}
use Rattle.gql_grammar.specs.declared.syntax_kind.SyntaxKind.TheVariants as kind
use Rattle.gql_grammar.specs.declared.word.Word.{Word}
use Rattle.gql_grammar.specs.Factored.{factored}
use Rattle.gql_grammar.specs.Reads.{Reads}
use Rattle.gql_grammar.specs.Row.{Row, nothing, node}
use Rattle.gql_grammar.specs.Rule.{kind_of}
use Rattle.gql_grammar.specs.Sentence.{Sentence}
use Rattle.gql_cst.specs.TreeOf.{IsTreeOf}
use Rattle.gql_source.specs.Span.{Span}
use Rattle.gql_source.specs.declared.file_id.FileId.{FileId}
use Rattle.gql_engine.specs.Texts.{query_text}
use Rattle.gql_engine.proofs.Computed.{parts_computed, tokens_computed, trees_computed}
use Rattle.gql_ast_laws.proofs.Forests.{planted}
use Rattle.gql_ast_laws.proofs.Found.{the}
use Rattle.gql_ast_laws.proofs.Readings.{ReadAs, read}
use Rattle.gql_ast_laws.proofs.Tokens.{TilesFrom, tokens}

ascii : IsAscii query_text
ascii =
    IsAscii-from_all query_text
    (λ k d within. ltb-true (get_or query_text k d) 128 (AllPass-from_list_all (λ b. nat_lt b 128) query_text refl k d within))

abbrev tiled : TilesFrom query_text 0
unfolding tokens_computed
tiled = the (tokens 100 query_text ascii 0 query_text refl) refl

abbrev its_words : List Word
its_words = words query_text tiled.0

abbrev reading : ReadAs (One Document ∷ []) nothing its_words
unfolding tokens_computed
reading = the (read 100 (One Document ∷ []) nothing its_words) refl

-- what stands in the one node of a row
abbrev within : Row → Row
within (node k inner behind) = inner
within _ = nothing

abbrev children : Forest
children = (planted (within reading.0) tiled.0).0

-- what the factored grammar reads is a sentence
abbrev pub SoundLaw : Type 0
SoundLaw = (start : Rule) (ws : List Word) (f : Row) → is_some (kind_of start) ≡ true → Reads factored (One start ∷ []) nothing ws f [] → Sentence start ws f

tree : SoundLaw → IsTreeOf Document query_text children
unfolding tokens_computed
tree law = record {
  tiles = tiled.1;
  sentence = law Document its_words (node kind.Document (shown query_text children) nothing) refl reading.2;
}

-- ---- what it stands for

abbrev pub file : FileId
file = record { number = 4 }

abbrev place : ℕ → ℕ → Span
place from to = record { file_id = file; offset = from; end_offset = to }

abbrev name_at : List ℕ → ℕ → ℕ → Named
name_at text from to = record { text = text; location = Some (place from to) }

abbrev plain_field : Named → List Selection → ℕ → ℕ → Field
plain_field name within from to =
    record { alias = None; name = name; arguments = []; directives = []; selection_set = within; location = Some (place from to) }

abbrev pub id : Field
id = plain_field (name_at (codes "id") 10 12) [] 10 12

abbrev pub tags : Field
tags = plain_field (name_at (codes "tags") 13 17) [] 13 17

abbrev pub items : Field
items = plain_field (name_at (codes "items") 2 7) (selection.Field id ∷ selection.Field tags ∷ []) 2 19

abbrev pub operation : OperationDefinition
operation = record {
  operation_type = Query;
  name = None;
  variables = [];
  directives = [];
  selection_set = selection.Field items ∷ [];
  location = Some (place 0 21);
}

pub means : SoundLaw → IsDocumentOf query_text file (definition.OperationDefinition operation ∷ [])
unfolding tokens_computed trees_computed parts_computed
means law = record { children = children; tree = tree law; means = refl }
