-- Definitions of object types.
use Rattle.std.proofs.Common.{◌≡◌, Some, refl}
use Rattle.std.specs.Prelude.{codes}
use Rattle.gql_source.specs.declared.file_id.FileId.{FileId}
use Rattle.gql_grammar.specs.declared.word.Word.TheVariants.{TypeWord}
use Rattle.gql_grammar.specs.declared.rule.Rule.TheVariants as rule
use Rattle.gql_grammar.specs.declared.syntax_kind.SyntaxKind.TheVariants as kind
use Rattle.gql_grammar.specs.Sentence.{here, there}
use Rattle.gql_cst.specs.Forest.{Forest}
use Rattle.gql_ast.specs.Documents.{choice_of}
use Rattle.gql_ast.specs.declared.definition.Definition.TheVariants as definition
use Rattle.gql_ast_base.specs.Directives.{directives}
use Rattle.gql_ast_base.specs.Kinds.{is_kind}
use Rattle.gql_ast_base.specs.Literals.{description}
use Rattle.gql_ast_base.specs.Names.{Named}
use Rattle.gql_ast_base.specs.Parts.{location, nth_name}
use Rattle.gql_ast_laws.proofs.Blind.{tree}
use Rattle.gql_print_laws.specs.bridge.Said.{Text, Said, forest_at}
use Rattle.gql_sdl.specs.declared.shown.ShownType.{ShownType}
use Rattle.gql_sdl.specs.declared.shown.TypeKind.TheVariants.{Object}
use Rattle.gql_print_laws.specs.Meant.{says}
use Rattle.gql_print_laws.specs.Printable.{Each, IsField, IsReference}
use Rattle.gql_print_laws.proofs.Definition.{definition_of_node}
use Rattle.gql_print_laws.proofs.References.{IsName}
use Rattle.gql_print_laws.proofs.Standing.{name_at, Means}
use Rattle.gql_print_laws.proofs.TypeParts.{kind_text, kind_told, PrintedKind}
use Rattle.gql_ast.specs.declared.type_definition.ObjectTypeDefinition.{ObjectTypeDefinition}
use Rattle.gql_ast.specs.Definitions.{interfaces, object_of}
use Rattle.gql_ast.specs.Fields.{fields}
use Rattle.gql_print_laws.proofs.Choices.{is_object}
use Rattle.gql_print_laws.proofs.FieldBodies.{fielded_way, fielded_said, fielded_text, fielded_name, fielded_from, fielded_fits, fielded_apart, fielded_says, fielded_shallow}

module _ (x : ShownType) (n : IsName x.name.text) (hi : Each IsReference x.interfaces) (hf : Each IsField x.fields) where
  abbrev said : Said
  said = fielded_said (codes "type") x hi hf

  module _ (text : Text) (file : FileId) where
    type_is : (row : Forest) (name : Named) → nth_name text file 1 row ≡ Some name
        → object_of text file (tree kind.ObjectTypeDefinition 0 0 row) ≡ Some (record {
          description = description text row;
          name = name;
          implements_interfaces = interfaces text file row;
          directives = directives text file row;
          fields = fields text file row;
          location = location file (tree kind.ObjectTypeDefinition 0 0 row);
        })
    unfolding object_of is_kind
    type_is row name e = rw e refl

    said_means : Means text (choice_of text file) says kind.ObjectTypeDefinition said (kind_told Object x)
    said_means m r =
        let row = forest_at m said in
        let a = name_at text file m said r 1 x.name.text (fielded_name (codes "type") x hi hf refl n) in
        let it : ObjectTypeDefinition = record {
          description = description text row;
          name = a.found;
          implements_interfaces = interfaces text file row;
          directives = directives text file row;
          fields = fields text file row;
          location = location file (tree kind.ObjectTypeDefinition 0 0 row);
        } in
        record {
          found = definition.ObjectTypeDefinition it;
          is = is_object text file row it (type_is row a.found a.is);
          same = fielded_says (codes "type") x hi hf text file m r Object a.found.text a.same;
        }

  pub printed_object : PrintedKind Object x
  printed_object =
      definition_of_node rule.ObjectTypeDefinition kind.ObjectTypeDefinition said (kind_text Object x) (kind_told Object x) refl refl refl (there (there (there (there (there here)))))
      (record {
        text = fielded_text (codes "type") x hi hf;
        from = fielded_from (codes "type") x hi hf refl n;
        way = fielded_way TypeWord;
        one = here;
        fits = fielded_fits (codes "type") x hi hf TypeWord refl n;
        shallow = fielded_shallow (codes "type") x hi hf;
        apart = fielded_apart (codes "type") x hi hf refl;
        means = said_means;
      })
