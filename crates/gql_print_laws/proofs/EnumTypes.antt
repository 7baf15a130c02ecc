-- Definitions of enum types.
use Rattle.std.proofs.Common.{◌≡◌, ℕ, false, List, [], ◌∷◌, ◌++◌, map, Some, None, refl, ap, ◌∙◌, append-nil, arith}
use Rattle.std.specs.Prelude.{codes}
use Rattle.gql_source.specs.declared.file_id.FileId.{FileId}
use Rattle.gql_grammar.specs.declared.word.Word.{Word}
use Rattle.gql_grammar.specs.declared.word.Word.TheVariants.{EnumWord}
use Rattle.gql_grammar.specs.declared.symbol.Symbol.TheVariants.{Optional, Eager}
use Rattle.gql_grammar.specs.declared.rule.Rule.TheVariants as rule
use Rattle.gql_grammar.specs.declared.syntax_kind.SyntaxKind.TheVariants as kind
use Rattle.gql_grammar.specs.Sentence.{here, there, is_brace_next}
use Rattle.gql_cst.specs.Forest.{Forest}
use Rattle.gql_ast.specs.Documents.{choice_of}
use Rattle.gql_ast.specs.declared.definition.Definition.TheVariants as definition
use Rattle.gql_ast_base.specs.Directives.{directives}
use Rattle.gql_ast_base.specs.Kinds.{is_kind}
use Rattle.gql_ast_base.specs.Literals.{description}
use Rattle.gql_ast_base.specs.Names.{Named}
use Rattle.gql_ast_base.specs.Parts.{location, nth_name}
use Rattle.gql_ast_laws.proofs.Blind.{tree}
use Rattle.gql_print_laws.specs.bridge.Said.{Text, Said, over, token, space, text_of, forest_at}
use Rattle.gql_print_laws.specs.bridge.Written.{Ends}
use Rattle.gql_sdl.specs.declared.shown.ShownType.{ShownType}
use Rattle.gql_sdl.specs.declared.shown.TypeKind.TheVariants.{Enum}
use Rattle.gql_sdl.specs.Forms.{described}
use Rattle.gql_print_laws.specs.Meant.{says}
use Rattle.gql_print_laws.specs.Printable.{Each, IsEnumValue}
use Rattle.gql_print_laws.proofs.Definition.{definition_of_node, head_said, head_text, head_description, head_inside, head_from, head_name, head_fits, head_apart, head_shallow}
use Rattle.gql_print_laws.proofs.Grammar.{FitsTo, no_symbol, skip}
use Rattle.gql_print_laws.proofs.Parts.{inner, inside_own, inside_other, description_said, description_is}
use Rattle.gql_print_laws.proofs.Printed.{Printed, each_printed}
use Rattle.gql_print_laws.proofs.Reading.{From, after_over}
use Rattle.gql_print_laws.proofs.References.{IsName}
use Rattle.gql_print_laws.proofs.Standing.{inside_said, Stands, name_at, Means}
use Rattle.gql_print_laws.proofs.TypeParts.{head_way, kind_text, kind_told, PrintedKind, same_head, same_parts}
use Rattle.gql_ast.specs.declared.type_definition.EnumTypeDefinition.{EnumTypeDefinition}
use Rattle.gql_ast.specs.Definitions.{enum_of}
use Rattle.gql_ast.specs.Fields.{enum_values}
use Rattle.gql_sdl.specs.Forms.{enum_value_text}
use Rattle.gql_sdl.specs.Pieces.{block}
use Rattle.gql_print_laws.specs.Forms.{enum_value_form}
use Rattle.gql_print_laws.specs.Meant.{enum_value_says}
use Rattle.gql_print_laws.specs.Told.{enum_value_told}
use Rattle.gql_print_laws.proofs.Blocks.{in_braces, block_said, block_text, block_after, block_fits, block_is, block_shallow}
use Rattle.gql_print_laws.proofs.EnumValues.{printed_enum_value, only_enum_value}
use Rattle.gql_print_laws.proofs.Choices.{is_enum}
use Rattle.gql_print_laws.proofs.Uses.{uses_are}

module _ (x : ShownType) (n : IsName x.name.text) (h : Each IsEnumValue x.enum_values) where
  given : Each (Printed enum_value_form) x.enum_values
  given = each_printed enum_value_form IsEnumValue printed_enum_value x.enum_values h

  abbrev body : Said
  body = block_said enum_value_form kind.EnumValuesDefinition x.enum_values given over

  abbrev said : Said
  said = head_said x.description (codes "enum") x.name.text body

  said_text : text_of said ≡ kind_text Enum x
  said_text =
      head_text x.description (codes "enum") x.name.text body
      ∙ ap (λ t. described x.description ++ (codes "enum " ++ (x.name.text ++ t)))
      (block_text enum_value_form kind.EnumValuesDefinition x.enum_values given over ∙ append-nil (block (map enum_value_text x.enum_values)))

  said_from : {rest : Text} → Ends rest → From said rest
  said_from e = head_from x.description (codes "enum") x.name.text body refl n (block_after enum_value_form kind.EnumValuesDefinition refl refl x.enum_values given (after_over e))

  said_fits : {vs : List Word} → is_brace_next vs ≡ false → FitsTo (head_way EnumWord (Optional rule.ConstDirectives ∷ Eager rule.EnumValuesDefinition ∷ [])) said vs
  said_fits b = head_fits x.description (codes "enum") x.name.text body EnumWord refl n (skip (block_fits enum_value_form kind.EnumValuesDefinition rule.EnumValuesDefinition refl refl here x.enum_values given b no_symbol))

  said_description : inside_said kind.Description said ≡ inner (description_said x.description)
  unfolding is_kind
  said_description = head_description x.description (codes "enum") x.name.text body (inside_other kind.Description kind.EnumValuesDefinition (in_braces enum_value_form x.enum_values given) over refl)

  said_uses : inside_said kind.Directives said ≡ over
  unfolding is_kind
  said_uses = head_inside x.description (codes "enum") x.name.text body kind.Directives refl ∙ inside_other kind.Directives kind.EnumValuesDefinition (in_braces enum_value_form x.enum_values given) over refl

  said_values : inside_said kind.EnumValuesDefinition said ≡ inner (in_braces enum_value_form x.enum_values given)
  unfolding is_kind
  said_values =
      head_inside x.description (codes "enum") x.name.text body kind.EnumValuesDefinition refl
      ∙ inside_own kind.EnumValuesDefinition (in_braces enum_value_form x.enum_values given) over refl

  module _ (text : Text) (file : FileId) where
    type_is : (row : Forest) (name : Named) → nth_name text file 1 row ≡ Some name
        → enum_of text file (tree kind.EnumTypeDefinition 0 0 row) ≡ Some (record {
          description = description text row;
          name = name;
          directives = directives text file row;
          values = enum_values text file row;
          location = location file (tree kind.EnumTypeDefinition 0 0 row);
        })
    unfolding enum_of is_kind
    type_is row name e = rw e refl

    values_are : (m : ℕ) → Stands text m said → map enum_value_says (enum_values text file (forest_at m said)) ≡ map enum_value_told x.enum_values
    unfolding enum_values
    values_are m r = block_is enum_value_form kind.EnumValuesDefinition text file refl refl (only_enum_value text file) x.enum_values given said m r said_values

    said_means : Means text (choice_of text file) says kind.EnumTypeDefinition said (kind_told Enum x)
    said_means m r =
        let row = forest_at m said in
        let a = name_at text file m said r 1 x.name.text (head_name x.description (codes "enum") x.name.text body refl n) in
        let it : EnumTypeDefinition = record {
          description = description text row;
          name = a.found;
          directives = directives text file row;
          values = enum_values text file row;
          location = location file (tree kind.EnumTypeDefinition 0 0 row);
        } in
        record {
          found = definition.EnumTypeDefinition it;
          is = is_enum text file row it (type_is row a.found a.is);
          same = same_head Enum [] [] [] (map enum_value_says (enum_values text file row)) []
              (description_is text x.description said m r said_description) a.same (uses_are text file None said m r said_uses)
              ∙ same_parts Enum x.description x.name.text [] refl refl refl (values_are m r) refl;
        }

  pub printed_enum : PrintedKind Enum x
  printed_enum =
      definition_of_node rule.EnumTypeDefinition kind.EnumTypeDefinition said (kind_text Enum x) (kind_told Enum x) refl refl refl (there (there (there (there (there (there (there (there here))))))))
      (record {
        text = said_text;
        from = said_from;
        way = head_way EnumWord (Optional rule.ConstDirectives ∷ Eager rule.EnumValuesDefinition ∷ []);
        one = here;
        fits = said_fits;
        shallow = head_shallow x.description (codes "enum") x.name.text body (block_shallow enum_value_form kind.EnumValuesDefinition refl refl x.enum_values given over (omega arith));
        apart = head_apart x.description (codes "enum") (space (codes " ") (token x.name.text body)) refl;
        means = said_means;
      })
