-- Definitions of scalar types.
use Rattle.std.proofs.Common.{◌≡◌, false, List, [], ◌∷◌, ◌++◌, Option, Some, None, refl, ap, ◌∙◌, append-nil, arith}
use Rattle.std.specs.Prelude.{codes}
use Rattle.gql_source.specs.declared.file_id.FileId.{FileId}
use Rattle.gql_grammar.specs.declared.word.Word.{Word}
use Rattle.gql_grammar.specs.declared.word.Word.TheVariants.{ScalarWord}
use Rattle.gql_grammar.specs.declared.symbol.Symbol.TheVariants.{Optional}
use Rattle.gql_grammar.specs.declared.rule.Rule.TheVariants as rule
use Rattle.gql_grammar.specs.declared.syntax_kind.SyntaxKind.TheVariants as kind
use Rattle.gql_grammar.specs.Sentence.{here, there, is_brace_next}
use Rattle.gql_cst.specs.Forest.{Forest}
use Rattle.gql_ast.specs.Documents.{choice_of}
use Rattle.gql_ast.specs.declared.definition.Definition.TheVariants as definition
use Rattle.gql_ast_base.specs.Directives.{directives}
use Rattle.gql_ast_base.specs.Kinds.{is_kind}
use Rattle.gql_ast_base.specs.Literals.{description}
use Rattle.gql_ast_base.specs.Names.{Named}
use Rattle.gql_ast_base.specs.Parts.{location, nth_name}
use Rattle.gql_ast_laws.proofs.Blind.{tree}
use Rattle.gql_print_laws.specs.bridge.Said.{Text, Said, over, token, space, text_of, forest_at}
use Rattle.gql_print_laws.specs.bridge.Written.{Ends}
use Rattle.gql_sdl.specs.declared.shown.ShownType.{ShownType}
use Rattle.gql_sdl.specs.declared.shown.TypeKind.TheVariants.{Scalar}
use Rattle.gql_sdl.specs.Forms.{described}
use Rattle.gql_print_laws.specs.Meant.{says}
use Rattle.gql_print_laws.proofs.Definition.{definition_of_node, head_said, head_text, head_description, head_inside, head_from, head_name, head_fits, head_apart, head_shallow}
use Rattle.gql_print_laws.proofs.Grammar.{FitsTo, no_symbol}
use Rattle.gql_print_laws.proofs.Parts.{inner, inside_own, inside_other, description_said, description_is}
use Rattle.gql_print_laws.proofs.Reading.{From, after_over}
use Rattle.gql_print_laws.proofs.References.{IsName}
use Rattle.gql_print_laws.proofs.Standing.{inside_said, name_at, Means}
use Rattle.gql_print_laws.proofs.TypeParts.{head_way, kind_text, kind_told, PrintedKind, same_head}
use Rattle.gql_ast.specs.declared.type_definition.ScalarTypeDefinition.{ScalarTypeDefinition}
use Rattle.gql_ast.specs.Definitions.{scalar_of}
use Rattle.gql_sdl.specs.Definitions.{specified_by}
use Rattle.gql_print_laws.specs.Told.{url_uses}
use Rattle.gql_print_laws.proofs.Choices.{is_scalar}
use Rattle.gql_print_laws.proofs.Uses.{Note, url, noted_said, noted_text, noted_after, noted_fits, notes_said, notes_text, notes_told, uses_are, noted_shallow}

abbrev url_note : Option Text → Option Note
url_note None = None
url_note (Some t) = Some (url t)

url_text : (o : Option Text) → notes_text (url_note o) ≡ specified_by o
url_text None = refl
url_text (Some t) = refl

url_told : (o : Option Text) → notes_told (url_note o) ≡ url_uses o
url_told None = refl
url_told (Some t) = refl

module _ (x : ShownType) (n : IsName x.name.text) where
  abbrev body : Said
  body = noted_said (url_note x.specified_by_url) over

  abbrev said : Said
  said = head_said x.description (codes "scalar") x.name.text body

  said_text : text_of said ≡ kind_text Scalar x
  said_text =
      head_text x.description (codes "scalar") x.name.text body
      ∙ ap (λ t. described x.description ++ (codes "scalar " ++ (x.name.text ++ t)))
      (noted_text (url_note x.specified_by_url) over ∙ append-nil (notes_text (url_note x.specified_by_url)) ∙ url_text x.specified_by_url)

  said_from : {rest : Text} → Ends rest → From said rest
  said_from e = head_from x.description (codes "scalar") x.name.text body refl n (noted_after (url_note x.specified_by_url) (after_over e))

  said_fits : {vs : List Word} → is_brace_next vs ≡ false → FitsTo (head_way ScalarWord (Optional rule.ConstDirectives ∷ [])) said vs
  said_fits b = head_fits x.description (codes "scalar") x.name.text body ScalarWord refl n (noted_fits (url_note x.specified_by_url) no_symbol)

  said_description : inside_said kind.Description said ≡ inner (description_said x.description)
  unfolding is_kind
  said_description = head_description x.description (codes "scalar") x.name.text body (inside_other kind.Description kind.Directives (notes_said (url_note x.specified_by_url)) over refl)

  said_uses : inside_said kind.Directives said ≡ inner (notes_said (url_note x.specified_by_url))
  unfolding is_kind
  said_uses = head_inside x.description (codes "scalar") x.name.text body kind.Directives refl ∙ inside_own kind.Directives (notes_said (url_note x.specified_by_url)) over refl

  module _ (text : Text) (file : FileId) where
    type_is : (row : Forest) (name : Named) → nth_name text file 1 row ≡ Some name
        → scalar_of text file (tree kind.ScalarTypeDefinition 0 0 row) ≡ Some (record {
          description = description text row;
          name = name;
          directives = directives text file row;
          location = location file (tree kind.ScalarTypeDefinition 0 0 row);
        })
    unfolding scalar_of is_kind
    type_is row name e = rw e refl

    said_means : Means text (choice_of text file) says kind.ScalarTypeDefinition said (kind_told Scalar x)
    said_means m r =
        let row = forest_at m said in
        let a = name_at text file m said r 1 x.name.text (head_name x.description (codes "scalar") x.name.text body refl n) in
        let it : ScalarTypeDefinition = record {
          description = description text row;
          name = a.found;
          directives = directives text file row;
          location = location file (tree kind.ScalarTypeDefinition 0 0 row);
        } in
        record {
          found = definition.ScalarTypeDefinition it;
          is = is_scalar text file row it (type_is row a.found a.is);
          same = same_head Scalar [] [] [] [] []
              (description_is text x.description said m r said_description) a.same (uses_are text file (url_note x.specified_by_url) said m r said_uses ∙ url_told x.specified_by_url);
        }

  pub printed_scalar : PrintedKind Scalar x
  printed_scalar =
      definition_of_node rule.ScalarTypeDefinition kind.ScalarTypeDefinition said (kind_text Scalar x) (kind_told Scalar x) refl refl refl (there (there (there (there here))))
      (record {
        text = said_text;
        from = said_from;
        way = head_way ScalarWord (Optional rule.ConstDirectives ∷ []);
        one = here;
        fits = said_fits;
        shallow = head_shallow x.description (codes "scalar") x.name.text body (noted_shallow (url_note x.specified_by_url) over (omega arith));
        apart = head_apart x.description (codes "scalar") (space (codes " ") (token x.name.text body)) refl;
        means = said_means;
      })
