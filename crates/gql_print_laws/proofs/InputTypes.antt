-- Definitions of input object types.
use Rattle.std.proofs.Common.{◌≡◌, ℕ, true, false, List, [], ◌∷◌, ◌++◌, map, Option, Some, None, refl, ap, ◌∙◌, append-nil, arith}
use Rattle.std.specs.Prelude.{codes}
use Rattle.gql_source.specs.declared.file_id.FileId.{FileId}
use Rattle.gql_grammar.specs.declared.word.Word.{Word}
use Rattle.gql_grammar.specs.declared.word.Word.TheVariants.{InputWord}
use Rattle.gql_grammar.specs.declared.symbol.Symbol.TheVariants.{Optional, Eager}
use Rattle.gql_grammar.specs.declared.rule.Rule.TheVariants as rule
use Rattle.gql_grammar.specs.declared.syntax_kind.SyntaxKind.TheVariants as kind
use Rattle.gql_grammar.specs.Sentence.{here, there, is_brace_next}
use Rattle.gql_cst.specs.Forest.{Forest}
use Rattle.gql_ast.specs.Documents.{choice_of}
use Rattle.gql_ast.specs.declared.definition.Definition.TheVariants as definition
use Rattle.gql_ast_base.specs.Directives.{directives}
use Rattle.gql_ast_base.specs.Kinds.{is_kind}
use Rattle.gql_ast_base.specs.Literals.{description}
use Rattle.gql_ast_base.specs.Names.{Named}
use Rattle.gql_ast_base.specs.Parts.{location, nth_name}
use Rattle.gql_ast_laws.proofs.Blind.{tree}
use Rattle.gql_print_laws.specs.bridge.Said.{Text, Said, over, token, space, text_of, forest_at}
use Rattle.gql_print_laws.specs.bridge.Written.{Ends}
use Rattle.gql_sdl.specs.declared.shown.ShownType.{ShownType}
use Rattle.gql_sdl.specs.declared.shown.TypeKind.TheVariants.{InputObject}
use Rattle.gql_sdl.specs.Forms.{described}
use Rattle.gql_print_laws.specs.Meant.{says}
use Rattle.gql_print_laws.specs.Printable.{Each, IsInput}
use Rattle.gql_print_laws.proofs.Definition.{definition_of_node, head_said, head_text, head_description, head_inside, head_from, head_name, head_fits, head_apart, head_shallow}
use Rattle.gql_print_laws.proofs.Grammar.{FitsTo, no_symbol}
use Rattle.gql_print_laws.proofs.Parts.{inner, inside_own, inside_other, description_said, description_is}
use Rattle.gql_print_laws.proofs.Printed.{Printed, each_printed}
use Rattle.gql_print_laws.proofs.Reading.{From, after_over}
use Rattle.gql_print_laws.proofs.References.{IsName}
use Rattle.gql_print_laws.proofs.Standing.{inside_said, Stands, name_at, Means}
use Rattle.gql_print_laws.proofs.TypeParts.{head_way, kind_text, kind_told, PrintedKind, same_head, same_parts}
use Rattle.gql_ast.specs.declared.type_definition.InputObjectTypeDefinition.{InputObjectTypeDefinition}
use Rattle.std.specs.Prelude.{Bool}
use Rattle.gql_ast.specs.Definitions.{input_object_of}
use Rattle.gql_ast.specs.Fields.{input_fields}
use Rattle.gql_sdl.specs.Forms.{input_text}
use Rattle.gql_sdl.specs.Pieces.{between_if, block}
use Rattle.gql_print_laws.specs.Forms.{input_form}
use Rattle.gql_print_laws.specs.Meant.{input_says}
use Rattle.gql_print_laws.specs.Told.{input_told, one_of_uses}
use Rattle.gql_print_laws.proofs.Blocks.{in_braces, block_said, block_text, block_after, block_fits, block_is, block_shallow}
use Rattle.gql_print_laws.proofs.Inputs.{printed_input, only_input}
use Rattle.gql_print_laws.proofs.Choices.{is_input_object}
use Rattle.gql_print_laws.proofs.Uses.{Note, one_of, noted_said, noted_text, noted_after, noted_fits, notes_said, notes_text, notes_told, uses_are, noted_shallow}

abbrev one_of_note : Bool → Option Note
one_of_note true = Some one_of
one_of_note false = None

one_of_text : (b : Bool) → notes_text (one_of_note b) ≡ between_if (codes " @oneOf") b
one_of_text true = refl
one_of_text false = refl

one_of_told : (b : Bool) → notes_told (one_of_note b) ≡ one_of_uses b
one_of_told true = refl
one_of_told false = refl

module _ (x : ShownType) (n : IsName x.name.text) (h : Each IsInput x.input_fields) where
  given : Each (Printed input_form) x.input_fields
  given = each_printed input_form IsInput printed_input x.input_fields h

  abbrev inputs_said : Said
  inputs_said = block_said input_form kind.InputFieldsDefinition x.input_fields given over

  abbrev body : Said
  body = noted_said (one_of_note x.is_one_of) inputs_said

  abbrev said : Said
  said = head_said x.description (codes "input") x.name.text body

  said_text : text_of said ≡ kind_text InputObject x
  said_text =
      head_text x.description (codes "input") x.name.text body
      ∙ ap (λ t. described x.description ++ (codes "input " ++ (x.name.text ++ t)))
      (noted_text (one_of_note x.is_one_of) inputs_said ∙ ap (λ t. t ++ text_of inputs_said) (one_of_text x.is_one_of)
      ∙ ap (λ t. between_if (codes " @oneOf") x.is_one_of ++ t)
      (block_text input_form kind.InputFieldsDefinition x.input_fields given over ∙ append-nil (block (map input_text x.input_fields))))

  said_from : {rest : Text} → Ends rest → From said rest
  said_from e = head_from x.description (codes "input") x.name.text body refl n (noted_after (one_of_note x.is_one_of) (block_after input_form kind.InputFieldsDefinition refl refl x.input_fields given (after_over e)))

  said_fits : {vs : List Word} → is_brace_next vs ≡ false → FitsTo (head_way InputWord (Optional rule.ConstDirectives ∷ Eager rule.InputFieldsDefinition ∷ [])) said vs
  said_fits b = head_fits x.description (codes "input") x.name.text body InputWord refl n (noted_fits (one_of_note x.is_one_of) (block_fits input_form kind.InputFieldsDefinition rule.InputFieldsDefinition refl refl here x.input_fields given b no_symbol))

  said_description : inside_said kind.Description said ≡ inner (description_said x.description)
  unfolding is_kind
  said_description = head_description x.description (codes "input") x.name.text body (inside_other kind.Description kind.Directives (notes_said (one_of_note x.is_one_of)) inputs_said refl
      ∙ inside_other kind.Description kind.InputFieldsDefinition (in_braces input_form x.input_fields given) over refl)

  said_uses : inside_said kind.Directives said ≡ inner (notes_said (one_of_note x.is_one_of))
  unfolding is_kind
  said_uses = head_inside x.description (codes "input") x.name.text body kind.Directives refl ∙ inside_own kind.Directives (notes_said (one_of_note x.is_one_of)) inputs_said
      (inside_other kind.Directives kind.InputFieldsDefinition (in_braces input_form x.input_fields given) over refl)

  said_inputs : inside_said kind.InputFieldsDefinition said ≡ inner (in_braces input_form x.input_fields given)
  unfolding is_kind
  said_inputs =
      head_inside x.description (codes "input") x.name.text body kind.InputFieldsDefinition refl
      ∙ inside_other kind.InputFieldsDefinition kind.Directives (notes_said (one_of_note x.is_one_of)) inputs_said refl
      ∙ inside_own kind.InputFieldsDefinition (in_braces input_form x.input_fields given) over refl

  module _ (text : Text) (file : FileId) where
    type_is : (row : Forest) (name : Named) → nth_name text file 1 row ≡ Some name
        → input_object_of text file (tree kind.InputObjectTypeDefinition 0 0 row) ≡ Some (record {
          description = description text row;
          name = name;
          directives = directives text file row;
          fields = input_fields text file row;
          location = location file (tree kind.InputObjectTypeDefinition 0 0 row);
        })
    unfolding input_object_of is_kind
    type_is row name e = rw e refl

    inputs_are : (m : ℕ) → Stands text m said → map input_says (input_fields text file (forest_at m said)) ≡ map input_told x.input_fields
    unfolding input_fields
    inputs_are m r = block_is input_form kind.InputFieldsDefinition text file refl refl (only_input text file) x.input_fields given said m r said_inputs

    said_means : Means text (choice_of text file) says kind.InputObjectTypeDefinition said (kind_told InputObject x)
    said_means m r =
        let row = forest_at m said in
        let a = name_at text file m said r 1 x.name.text (head_name x.description (codes "input") x.name.text body refl n) in
        let it : InputObjectTypeDefinition = record {
          description = description text row;
          name = a.found;
          directives = directives text file row;
          fields = input_fields text file row;
          location = location file (tree kind.InputObjectTypeDefinition 0 0 row);
        } in
        record {
          found = definition.InputObjectTypeDefinition it;
          is = is_input_object text file row it (type_is row a.found a.is);
          same = same_head InputObject [] [] [] [] (map input_says (input_fields text file row))
              (description_is text x.description said m r said_description) a.same (uses_are text file (one_of_note x.is_one_of) said m r said_uses ∙ one_of_told x.is_one_of)
              ∙ same_parts InputObject x.description x.name.text (one_of_uses x.is_one_of) refl refl refl refl (inputs_are m r);
        }

  pub printed_input_object : PrintedKind InputObject x
  printed_input_object =
      definition_of_node rule.InputObjectTypeDefinition kind.InputObjectTypeDefinition said (kind_text InputObject x) (kind_told InputObject x) refl refl refl (there (there (there (there (there (there (there (there (there here)))))))))
      (record {
        text = said_text;
        from = said_from;
        way = head_way InputWord (Optional rule.ConstDirectives ∷ Eager rule.InputFieldsDefinition ∷ []);
        one = here;
        fits = said_fits;
        shallow = head_shallow x.description (codes "input") x.name.text body (noted_shallow (one_of_note x.is_one_of) inputs_said (block_shallow input_form kind.InputFieldsDefinition refl refl x.input_fields given over (omega arith)));
        apart = head_apart x.description (codes "input") (space (codes " ") (token x.name.text body)) refl;
        means = said_means;
      })
