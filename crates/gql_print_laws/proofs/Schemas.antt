-- Whole schemas.
use Rattle.std.proofs.Common.{◌≡◌, Bool, List, [], ◌∷◌, ◌++◌, map, refl, sym, ap, ◌∙◌, subst, append-nil, ◌≤◌}
use Rattle.std.specs.List.{flat_map}
use Rattle.gql_source.specs.declared.file_id.FileId.{FileId}
use Rattle.gql_grammar.specs.declared.rule.Rule.TheVariants as rule
use Rattle.gql_grammar.specs.declared.syntax_kind.SyntaxKind.TheVariants as kind
use Rattle.gql_grammar.specs.Sentence.{here}
use Rattle.gql_ast.specs.Documents.{definition_of}
use Rattle.gql_ast_base.specs.Parts.{gather}
use Rattle.gql_print_laws.specs.bridge.Said.{text_of, forest_at}
use Rattle.gql_sdl.specs.Definitions.{type_definition_text, directive_text}
use Rattle.gql_sdl.specs.Schemas.{is_directive_name, is_built_in, line, line_unless, directive_line, type_line, roots_text, schema_text}
use Rattle.gql_sdl.specs.declared.shown.ShownDirective.{ShownDirective}
use Rattle.gql_sdl.specs.declared.shown.ShownSchema.{ShownSchema}
use Rattle.gql_sdl.specs.declared.shown.ShownType.{ShownType}
use Rattle.gql_print_laws.specs.Forms.{SaysSchema}
use Rattle.gql_print_laws.specs.Meant.{says}
use Rattle.gql_print_laws.specs.Printable.{Each, IsDirective, IsType, IsSchema}
use Rattle.gql_print_laws.specs.Told.{directive_told, named_type_told, directive_line_told, type_line_told, roots_told, schema_told}
use Rattle.gql_print_laws.specs.Depth.{most_levels}
use Rattle.gql_print_laws.proofs.Depths.{nesting_is}
use Rattle.gql_print_laws.proofs.DirectiveDefinitions.{printed_directive}
use Rattle.gql_print_laws.proofs.Lines.{Line, IsLine, line_told, lines_said, lines_text, lines_from, document_fits, only_definition, lines_say, lines_of, lines_of_text, lines_of_told, are_lines, lines_shallow}
use Rattle.gql_print_laws.proofs.FormsReadBack.{stands_alone, tree_of}
use Rattle.gql_print_laws.proofs.SchemaDefinitions.{printed_schema_definition}
use Rattle.gql_print_laws.proofs.Standing.{gathered}
use Rattle.gql_print_laws.proofs.TypeDefinitions.{printed_named_type}

abbrev hides_directive : ShownDirective → Bool
hides_directive it = is_directive_name it.name.text

directive_line_is : (it : ShownDirective) → directive_line it ≡ line_unless (is_directive_name it.name.text) (directive_text it)
unfolding directive_line
directive_line_is it = refl

type_line_is : (it : ShownType) → type_line it ≡ line_unless (is_built_in it) (type_definition_text it)
unfolding type_line
type_line_is it = refl

module _ (it : ShownSchema) (h : IsSchema it) where
  abbrev types : List Line
  types = lines_of is_built_in type_definition_text named_type_told it.types []

  abbrev directives : List Line
  directives = lines_of hides_directive directive_text directive_told it.directives types

  abbrev first : Line
  first = record { written = roots_text it; told = roots_told it }

  are : Each IsLine (first ∷ directives)
  are = (
    printed_schema_definition it h.roots,
    are_lines hides_directive directive_text directive_told IsDirective printed_directive it.directives h.directives types
        (are_lines is_built_in type_definition_text named_type_told IsType printed_named_type it.types h.types [] tt),
  )

  text_is : text_of (lines_said (first ∷ directives) are) ≡ schema_text it
  text_is =
      lines_text (first ∷ directives) are
      ∙ ap (λ t. line (roots_text it) ++ t)
      (lines_of_text hides_directive directive_text directive_told directive_line directive_line_is it.directives types
      ∙ ap (λ t. flat_map directive_line it.directives ++ t)
      (lines_of_text is_built_in type_definition_text named_type_told type_line type_line_is it.types [] ∙ append-nil (flat_map type_line it.types)))

  told_is : map line_told (first ∷ directives) ≡ schema_told it
  told_is =
      ap (λ l. roots_told it ∷ l)
      (lines_of_told hides_directive directive_text directive_told it.directives types
      ∙ ap (λ l. flat_map directive_line_told it.directives ++ l)
      (lines_of_told is_built_in type_definition_text named_type_told it.types [] ∙ append-nil (flat_map type_line_told it.types)))

  pub printed_schema : (file : FileId) → SaysSchema file (schema_text it) it
  printed_schema file =
      let s = lines_said (first ∷ directives) are in
      let reads = (lines_from (first ∷ directives) are).lexes in
      let text = text_of s in
      subst (λ t. SaysSchema file t it) text_is
      (record {
        definitions = gather (definition_of text file) (forest_at 0 s);
        document = record {
          children = forest_at 0 s;
          tree = tree_of rule.Document kind.Document s _ refl here (document_fits first directives are) reads;
          means = refl;
        };
        nested = subst (λ n. n ≤ most_levels) (sym (nesting_is s 0 [] reads)) (lines_shallow (first ∷ directives) are);
        same = gathered text (definition_of text file) says kind.Definition (only_definition text file) refl s 0 (stands_alone s reads) (map line_told (first ∷ directives))
            (lines_say text file (first ∷ directives) are) ∙ told_is;
      })
