-- The schema's text of the self-test: its tree, and the types that it stands for.
use Rattle.std.proofs.Common.{ℕ, nat_lt, List, [], ◌∷◌, Some, None, get_or, refl}
use Rattle.std.specs.Prelude.{codes}
use Rattle.std.specs.Str.{IsAscii}
use Rattle.std.proofs.lemmas.Bool.{ltb-true}
use Rattle.std.proofs.lemmas.List.Sums.{AllPass-from_list_all}
use Rattle.std.proofs.lemmas.Str.Ascii.{IsAscii-from_all}
use Rattle.gql_ast.specs.declared.definition.Definition.{Definition}
use Rattle.gql_ast.specs.declared.definition.Definition.TheVariants as definition
use Rattle.gql_ast_base.specs.Names.{Named}
use Rattle.gql_ast.specs.declared.field_definition.FieldDefinition.{FieldDefinition}
use Rattle.gql_ast.specs.declared.type_definition.ObjectTypeDefinition.{ObjectTypeDefinition}
use Rattle.gql_ast_laws.specs.Meant.{IsDocumentOf}
use Rattle.gql_ast_base.specs.Types.{non_null}
use Rattle.gql_ast_base.specs.declared.type_ref.TypeRef.{TypeRef, List as ListOf}
use Rattle.gql_ast_base.specs.declared.type_ref.TypeRef.TheVariants.{Named as NamedType}
use Rattle.gql_cst.specs.Forest.{Forest}
use Rattle.gql_cst.specs.Sentences.{words, shown}
use Rattle.gql_grammar.specs.declared.rule.Rule.TheVariants.{Document}
use Rattle.gql_grammar.specs.declared.symbol.Symbol.TheVariants.{One}
use Rattle.gql_grammar.specs.declared.syntax_kind.SyntaxKind.TheVariants as kind
use Rattle.gql_grammar.specs.declared.word.Word.{Word}
use Rattle.gql_grammar.specs.Row.{Row, nothing, node}
use Rattle.gql_cst.specs.TreeOf.{IsTreeOf}
use Rattle.gql_source.specs.Span.{Span}
use Rattle.gql_source.specs.declared.file_id.FileId.{FileId}
use Rattle.gql_engine.specs.Texts.{schema_text}
use Rattle.gql_engine.proofs.Computed.{parts_computed, tokens_computed, trees_computed}
use Rattle.gql_ast_laws.proofs.Forests.{planted}
use Rattle.gql_ast_laws.proofs.Found.{the}
use Rattle.gql_engine.proofs.Query.{SoundLaw}
use Rattle.gql_ast_laws.proofs.Readings.{ReadAs, read}
use Rattle.gql_ast_laws.proofs.Tokens.{TilesFrom, tokens}

ascii : IsAscii schema_text
ascii =
    IsAscii-from_all schema_text
    (λ k d within. ltb-true (get_or schema_text k d) 128 (AllPass-from_list_all (λ b. nat_lt b 128) schema_text refl k d within))

abbrev tiled : TilesFrom schema_text 0
unfolding tokens_computed
tiled = the (tokens 200 schema_text ascii 0 schema_text refl) refl

abbrev its_words : List Word
its_words = words schema_text tiled.0

abbrev reading : ReadAs (One Document ∷ []) nothing its_words
unfolding tokens_computed
reading = the (read 200 (One Document ∷ []) nothing its_words) refl

-- what stands in the one node of a row
abbrev within : Row → Row
within (node k inner behind) = inner
within _ = nothing

abbrev children : Forest
children = (planted (within reading.0) tiled.0).0

tree : SoundLaw → IsTreeOf Document schema_text children
unfolding tokens_computed
tree law = record {
  tiles = tiled.1;
  sentence = law Document its_words (node kind.Document (shown schema_text children) nothing) refl reading.2;
}

-- ---- what it stands for

abbrev pub file : FileId
file = record { number = 3 }

abbrev place : ℕ → ℕ → Span
place from to = record { file_id = file; offset = from; end_offset = to }

abbrev name_at : List ℕ → ℕ → ℕ → Named
name_at text from to = record { text = text; location = Some (place from to) }

abbrev plain_field : Named → TypeRef → ℕ → ℕ → FieldDefinition
plain_field name ty from to = record { description = None; name = name; arguments = []; ty = ty; directives = []; location = Some (place from to) }

abbrev plain_type : Named → List FieldDefinition → ℕ → ℕ → ObjectTypeDefinition
plain_type name fields from to =
    record { description = None; name = name; implements_interfaces = []; directives = []; fields = fields; location = Some (place from to) }

-- the names of the fields' types
abbrev pub of_item : Named
of_item = name_at (codes "Item") 21 25

abbrev pub of_int : Named
of_int = name_at (codes "Int") 47 50

abbrev pub of_string : Named
of_string = name_at (codes "String") 59 65

abbrev pub items : FieldDefinition
items = plain_field (name_at (codes "items") 13 18) (non_null (ListOf (non_null (NamedType of_item)))) 13 28

abbrev pub id : FieldDefinition
id = plain_field (name_at (codes "id") 43 45) (non_null (NamedType of_int)) 43 51

abbrev pub tags : FieldDefinition
tags = plain_field (name_at (codes "tags") 52 56) (ListOf (NamedType of_string)) 52 66

abbrev pub query : ObjectTypeDefinition
query = plain_type (name_at (codes "Query") 5 10) (items ∷ []) 0 30

abbrev pub item : ObjectTypeDefinition
item = plain_type (name_at (codes "Item") 36 40) (id ∷ tags ∷ []) 31 68

abbrev pub known : List Definition
known = definition.ObjectTypeDefinition query ∷ definition.ObjectTypeDefinition item ∷ []

pub means : SoundLaw → IsDocumentOf schema_text file known
unfolding tokens_computed trees_computed parts_computed
means law = record { children = children; tree = tree law; means = refl }
