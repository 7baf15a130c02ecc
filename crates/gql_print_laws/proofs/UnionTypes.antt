-- Definitions of union types.
use Rattle.std.proofs.Common.{◌≡◌, false, List, [], ◌∷◌, ◌++◌, map, Some, None, refl, ap, ◌∙◌, append-nil, arith}
use Rattle.std.specs.Prelude.{codes}
use Rattle.gql_source.specs.declared.file_id.FileId.{FileId}
use Rattle.gql_grammar.specs.declared.word.Word.{Word}
use Rattle.gql_grammar.specs.declared.word.Word.TheVariants.{UnionWord}
use Rattle.gql_grammar.specs.declared.symbol.Symbol.TheVariants.{Optional}
use Rattle.gql_grammar.specs.declared.rule.Rule.TheVariants as rule
use Rattle.gql_grammar.specs.declared.syntax_kind.SyntaxKind.TheVariants as kind
use Rattle.gql_grammar.specs.Sentence.{here, there, is_brace_next}
use Rattle.gql_cst.specs.Forest.{Forest}
use Rattle.gql_ast.specs.Documents.{choice_of}
use Rattle.gql_ast.specs.TypeText.{type_text}
use Rattle.gql_ast.specs.declared.definition.Definition.TheVariants as definition
use Rattle.gql_ast_base.specs.Directives.{directives}
use Rattle.gql_ast_base.specs.Kinds.{is_kind}
use Rattle.gql_ast_base.specs.Literals.{description}
use Rattle.gql_ast_base.specs.Names.{Named}
use Rattle.gql_ast_base.specs.Parts.{location, nth_name}
use Rattle.gql_ast_laws.proofs.Blind.{tree}
use Rattle.gql_print_laws.specs.bridge.Said.{Text, Said, over, token, space, text_of, forest_at}
use Rattle.gql_print_laws.specs.bridge.Written.{Ends}
use Rattle.gql_sdl.specs.declared.shown.ShownType.{ShownType}
use Rattle.gql_sdl.specs.declared.shown.TypeKind.TheVariants.{Union}
use Rattle.gql_sdl.specs.Forms.{described}
use Rattle.gql_print_laws.specs.Meant.{says, name_text}
use Rattle.gql_print_laws.specs.Printable.{Each, IsReference}
use Rattle.gql_print_laws.proofs.Definition.{definition_of_node, head_said, head_text, head_description, head_inside, head_from, head_name, head_fits, head_apart, head_shallow}
use Rattle.gql_print_laws.proofs.Grammar.{FitsTo, no_symbol, skip}
use Rattle.gql_print_laws.proofs.Parts.{inner, inside_own, inside_other, description_said, description_is}
use Rattle.gql_print_laws.proofs.Reading.{From, after_over}
use Rattle.gql_print_laws.proofs.References.{IsName, references, membered_shallow}
use Rattle.gql_print_laws.proofs.Standing.{inside_said, name_at, Means}
use Rattle.gql_print_laws.proofs.TypeParts.{head_way, kind_text, kind_told, PrintedKind, same_head, same_parts}
use Rattle.gql_ast.specs.declared.type_definition.UnionTypeDefinition.{UnionTypeDefinition}
use Rattle.gql_ast.specs.Definitions.{members, union_of}
use Rattle.gql_print_laws.proofs.References.{members_said, membered_said, membered_text, membered_after, membered_fits, members_are}
use Rattle.gql_sdl.specs.Forms.{members_text}
use Rattle.gql_print_laws.proofs.Choices.{is_union}
use Rattle.gql_print_laws.proofs.Uses.{uses_are}

module _ (x : ShownType) (n : IsName x.name.text) (h : Each IsReference x.possible_types) where
  abbrev names : List Text
  names = map type_text x.possible_types

  abbrev body : Said
  body = membered_said names over

  abbrev said : Said
  said = head_said x.description (codes "union") x.name.text body

  said_text : text_of said ≡ kind_text Union x
  said_text =
      head_text x.description (codes "union") x.name.text body
      ∙ ap (λ t. described x.description ++ (codes "union " ++ (x.name.text ++ t)))
      (membered_text x.possible_types over ∙ append-nil (members_text x.possible_types))

  said_from : {rest : Text} → Ends rest → From said rest
  said_from e = head_from x.description (codes "union") x.name.text body refl n (membered_after names (references x.possible_types h) (after_over e))

  said_fits : {vs : List Word} → is_brace_next vs ≡ false → FitsTo (head_way UnionWord (Optional rule.ConstDirectives ∷ Optional rule.UnionMemberTypes ∷ [])) said vs
  said_fits b = head_fits x.description (codes "union") x.name.text body UnionWord refl n (skip (membered_fits names (references x.possible_types h) no_symbol))

  said_description : inside_said kind.Description said ≡ inner (description_said x.description)
  unfolding is_kind
  said_description = head_description x.description (codes "union") x.name.text body (inside_other kind.Description kind.UnionMemberTypes (members_said names) over refl)

  said_uses : inside_said kind.Directives said ≡ over
  unfolding is_kind
  said_uses = head_inside x.description (codes "union") x.name.text body kind.Directives refl ∙ inside_other kind.Directives kind.UnionMemberTypes (members_said names) over refl

  said_members : inside_said kind.UnionMemberTypes said ≡ inner (members_said names)
  unfolding is_kind
  said_members =
      head_inside x.description (codes "union") x.name.text body kind.UnionMemberTypes refl ∙ inside_own kind.UnionMemberTypes (members_said names) over refl

  module _ (text : Text) (file : FileId) where
    type_is : (row : Forest) (name : Named) → nth_name text file 1 row ≡ Some name
        → union_of text file (tree kind.UnionTypeDefinition 0 0 row) ≡ Some (record {
          description = description text row;
          name = name;
          directives = directives text file row;
          members = members text file row;
          location = location file (tree kind.UnionTypeDefinition 0 0 row);
        })
    unfolding union_of is_kind
    type_is row name e = rw e refl

    said_means : Means text (choice_of text file) says kind.UnionTypeDefinition said (kind_told Union x)
    said_means m r =
        let row = forest_at m said in
        let a = name_at text file m said r 1 x.name.text (head_name x.description (codes "union") x.name.text body refl n) in
        let it : UnionTypeDefinition = record {
          description = description text row;
          name = a.found;
          directives = directives text file row;
          members = members text file row;
          location = location file (tree kind.UnionTypeDefinition 0 0 row);
        } in
        record {
          found = definition.UnionTypeDefinition it;
          is = is_union text file row it (type_is row a.found a.is);
          same = same_head Union [] [] (map name_text (members text file row)) [] []
              (description_is text x.description said m r said_description) a.same (uses_are text file None said m r said_uses)
              ∙ same_parts Union x.description x.name.text [] refl refl (members_are text file names (references x.possible_types h) said m r said_members) refl refl;
        }

  pub printed_union : PrintedKind Union x
  printed_union =
      definition_of_node rule.UnionTypeDefinition kind.UnionTypeDefinition said (kind_text Union x) (kind_told Union x) refl refl refl (there (there (there (there (there (there (there here)))))))
      (record {
        text = said_text;
        from = said_from;
        way = head_way UnionWord (Optional rule.ConstDirectives ∷ Optional rule.UnionMemberTypes ∷ []);
        one = here;
        fits = said_fits;
        shallow = head_shallow x.description (codes "union") x.name.text body (membered_shallow names over (omega arith));
        apart = head_apart x.description (codes "union") (space (codes " ") (token x.name.text body)) refl;
        means = said_means;
      })
