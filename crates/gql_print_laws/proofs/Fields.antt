-- Fields of object types and interface types.
use Rattle.std.proofs.Common.{◌≡◌, List, [], ◌∷◌, ◌++◌, Option, Some, refl, sym, ap, ◌∙◌, subst, append-nil, arith}
use Rattle.std.specs.Prelude.{codes, slice_get}
use Rattle.gql_source.specs.declared.file_id.FileId.{FileId}
use Rattle.gql_grammar.specs.declared.word.Word.{Word}
use Rattle.gql_grammar.specs.declared.word.Word.TheVariants.{Colon}
use Rattle.gql_grammar.specs.declared.symbol.Symbol.{Symbol}
use Rattle.gql_grammar.specs.declared.symbol.Symbol.TheVariants.{Token, One, Optional}
use Rattle.gql_grammar.specs.declared.symbol.Terminal.TheVariants.{Exactly, AnyName}
use Rattle.gql_grammar.specs.declared.rule.Rule.TheVariants as rule
use Rattle.gql_grammar.specs.declared.syntax_kind.SyntaxKind.TheVariants as kind
use Rattle.gql_grammar.specs.Sentence.{here}
use Rattle.gql_cst.specs.Forest.{Forest}
use Rattle.gql_ast.specs.TypeText.{type_text}
use Rattle.gql_ast_base.specs.Directives.{directives}
use Rattle.gql_ast_base.specs.Kinds.{is_kind}
use Rattle.gql_ast_base.specs.Literals.{description}
use Rattle.gql_ast_base.specs.Names.{Named}
use Rattle.gql_ast_base.specs.Parts.{first, location, nth_name}
use Rattle.gql_ast_base.specs.Types.{type_of}
use Rattle.gql_ast_base.specs.declared.type_ref.TypeRef.{TypeRef}
use Rattle.gql_ast.specs.Fields.{field_of, argument_definitions}
use Rattle.gql_ast_laws.specs.Printed.{unplaced}
use Rattle.gql_ast_laws.proofs.Blind.{tree}
use Rattle.gql_print_laws.specs.bridge.Said.{Text, Said, over, token, space, under, text_of, forest_at}
use Rattle.gql_print_laws.specs.bridge.Written.{Ends}
use Rattle.gql_print_laws.proofs.Named.{name_is_name}
use Rattle.gql_sdl.specs.Forms.{described, arguments_text, field_text}
use Rattle.gql_sdl.specs.declared.shown.ShownField.{ShownField}
use Rattle.gql_print_laws.specs.Forms.{input_form, field_form}
use Rattle.gql_print_laws.specs.Meant.{field_says}
use Rattle.gql_print_laws.specs.Plain.{Input, Field, Use}
use Rattle.gql_print_laws.specs.Printable.{Each, IsInput, IsField}
use Rattle.gql_print_laws.specs.Told.{field_told}
use Rattle.gql_print_laws.proofs.Depths.{IsShallow}
use Rattle.gql_print_laws.proofs.Grammar.{FitsTo, no_symbol, one_token, one_node, ignored}
use Rattle.gql_print_laws.proofs.Inputs.{printed_input, arguments_said, argued_said, argued_text, argued_after, argued_fits, arguments_are, argued_shallow}
use Rattle.gql_print_laws.proofs.Parts.{inner, named_first, inside_own, inside_other, nodes_other, close_own, close_other, close_nodes, described_said, description_said, described_text, described_from, described_fits, inside_described, own_description, nodes_described, names_described, description_is, described_shallow}
use Rattle.gql_print_laws.proofs.Printed.{Printed, each_printed}
use Rattle.gql_print_laws.proofs.Reading.{From, after_over, colon, mark_after, name_from, node_from, blank_after}
use Rattle.gql_print_laws.proofs.Standing.{inside_said, nodes_said, names_said, name_at, Only, Means, AllMean, gathered, first_of}
use Rattle.gql_print_laws.proofs.Types.{printed_type, only_type}
use Rattle.gql_print_laws.proofs.Uses.{noted_said, noted_text, noted_after, noted_fits, notes_said, notes_text, uses_are, deprecation_note, deprecated_text, deprecated_told, noted_shallow}

abbrev field_way : List Symbol
field_way =
    Optional rule.Description ∷ Token AnyName ∷ Optional rule.ArgumentsDefinition ∷ Token (Exactly Colon) ∷ One rule.TypeReference ∷ Optional rule.ConstDirectives ∷ []

abbrev make_field : Option Text → Text → List Input → TypeRef → List Use → Field
make_field d name arguments ty uses = record { description = d; name = name; arguments = arguments; ty = ty; uses = uses }

same_field : {d e : Option Text} {m n : Text} {i j : List Input} {s t : TypeRef} {u v : List Use} → d ≡ e → m ≡ n → i ≡ j → s ≡ t → u ≡ v
    → make_field d m i s u ≡ make_field e n j t v
same_field {d = d} {e = e} {m = m} {n = n} {i = i} {j = j} {s = s} {t = t} {u = u} {v = v} a b c f g =
    ap (λ x. make_field x m i s u) a ∙ ap (λ x. make_field e x i s u) b ∙ ap (λ x. make_field e n x s u) c ∙ ap (λ x. make_field e n j x u) f
    ∙ ap (λ x. make_field e n j t x) g

module _ (text : Text) (file : FileId) where
  field_is : (row : Forest) (name : Named) (ty : TypeRef) → nth_name text file 0 row ≡ Some name → first (type_of text file) row ≡ Some ty
      → field_of text file (tree kind.FieldDefinition 0 0 row) ≡ Some (record {
        description = description text row;
        name = name;
        arguments = argument_definitions text file row;
        ty = ty;
        directives = directives text file row;
        location = location file (tree kind.FieldDefinition 0 0 row);
      })
  unfolding field_of is_kind
  field_is row name ty e f = rw (e, f) refl

  pub only_field : Only text (field_of text file) field_says kind.FieldDefinition
  unfolding field_of
  only_field t h = rw h refl

module _ (x : ShownField) (h : IsField x) where
  given : Each (Printed input_form) x.arguments
  given = each_printed input_form IsInput printed_input x.arguments h.arguments

  abbrev tail : Said
  tail = noted_said (deprecation_note x.deprecation) over

  abbrev typed_said : Said
  typed_said = token (codes ":") (space (codes " ") (under kind.TypeReference (printed_type x.ty h.typed h.shallow).said tail))

  abbrev named_said : Said
  named_said = token x.name.text (argued_said x.arguments given typed_said)

  abbrev field_said : Said
  field_said = described_said x.description named_said

  said_text : text_of field_said ≡ field_text x
  said_text =
      described_text x.description named_said
      ∙ ap (λ t. described x.description ++ (x.name.text ++ t)) (argued_text x.arguments given typed_said)
      ∙ ap (λ t. described x.description ++ (x.name.text ++ (arguments_text x.arguments ++ (codes ": " ++ (t ++ text_of tail))))) (printed_type x.ty h.typed h.shallow).text
      ∙ ap (λ t. described x.description ++ (x.name.text ++ (arguments_text x.arguments ++ (codes ": " ++ (type_text x.ty ++ t)))))
      (noted_text (deprecation_note x.deprecation) over ∙ append-nil (notes_text (deprecation_note x.deprecation)) ∙ deprecated_text x.deprecation)

  said_from : {rest : Text} → Ends rest → From field_said rest
  said_from e =
      let more = noted_after (deprecation_note x.deprecation) (after_over e) in
      let ty = printed_type x.ty h.typed h.shallow in
      described_from x.description (name_from h.named (argued_after x.arguments given (mark_after colon (blank_after (node_from refl (ty.from more.ends) more.lexes)))))

  said_fits : {vs : List Word} → FitsTo field_way field_said vs
  said_fits =
      let t = printed_type x.ty h.typed h.shallow in
      described_fits x.description (one_token (name_is_name x.name.text h.named) (argued_fits x.arguments given (one_token refl (ignored
      (one_node rule.TypeReference t.way refl t.one t.fits (noted_fits (deprecation_note x.deprecation) no_symbol))))))

  said_shallow : IsShallow field_said
  said_shallow =
      let t = (printed_type x.ty h.typed h.shallow).shallow in
      let a = noted_shallow (deprecation_note x.deprecation) over (omega arith) in
      described_shallow x.description named_said (argued_shallow x.arguments given typed_said (omega (arith, t, a)))

  said_name : slice_get (names_said field_said) 0 ≡ Some x.name.text
  said_name = ap (λ l. slice_get l 0) (names_described x.description named_said) ∙ named_first x.name.text (argued_said x.arguments given typed_said) h.named

  said_description : inside_said kind.Description field_said ≡ inner (description_said x.description)
  unfolding is_kind
  said_description =
      own_description x.description named_said
      (close_other kind.Description kind.ArgumentsDefinition (arguments_said x.arguments given) typed_said refl
      ∙ inside_other kind.Description kind.Directives (notes_said (deprecation_note x.deprecation)) over refl)

  said_arguments : inside_said kind.ArgumentsDefinition field_said ≡ inner (arguments_said x.arguments given)
  unfolding is_kind
  said_arguments =
      inside_described kind.ArgumentsDefinition x.description named_said refl
      ∙ close_own kind.ArgumentsDefinition (arguments_said x.arguments given) typed_said
      (inside_other kind.ArgumentsDefinition kind.Directives (notes_said (deprecation_note x.deprecation)) over refl)

  said_uses : inside_said kind.Directives field_said ≡ inner (notes_said (deprecation_note x.deprecation))
  unfolding is_kind
  said_uses =
      inside_described kind.Directives x.description named_said refl
      ∙ close_other kind.Directives kind.ArgumentsDefinition (arguments_said x.arguments given) typed_said refl
      ∙ inside_own kind.Directives (notes_said (deprecation_note x.deprecation)) over refl

  said_types : nodes_said kind.TypeReference field_said ≡ (printed_type x.ty h.typed h.shallow).said ∷ []
  unfolding is_kind
  said_types =
      nodes_described kind.TypeReference x.description named_said refl
      ∙ close_nodes kind.TypeReference kind.ArgumentsDefinition (arguments_said x.arguments given) typed_said refl
      ∙ ap (λ l. (printed_type x.ty h.typed h.shallow).said ∷ l) (nodes_other kind.TypeReference kind.Directives (notes_said (deprecation_note x.deprecation)) over refl)

  said_means : (text : Text) (file : FileId) → Means text (field_of text file) field_says kind.FieldDefinition field_said (field_told x)
  said_means text file n r =
      let row = forest_at n field_said in
      let a = name_at text file n field_said r 0 x.name.text said_name in
      let t = first_of text (type_of text file) unplaced kind.TypeReference row (unplaced x.ty)
      (gathered text (type_of text file) unplaced kind.TypeReference (only_type text file) refl field_said n r (unplaced x.ty ∷ [])
      (subst (λ is. AllMean text (type_of text file) unplaced kind.TypeReference is (unplaced x.ty ∷ [])) (sym said_types) ((printed_type x.ty h.typed h.shallow).means text file, tt))) in
      record {
        found = record {
          description = description text row;
          name = a.found;
          arguments = argument_definitions text file row;
          ty = t.found;
          directives = directives text file row;
          location = location file (tree kind.FieldDefinition 0 0 row);
        };
        is = field_is text file row a.found t.found a.is t.is;
        same = same_field (description_is text x.description field_said n r said_description) a.same
            (arguments_are text file x.arguments given field_said n r said_arguments) t.same
            (uses_are text file (deprecation_note x.deprecation) field_said n r said_uses ∙ deprecated_told x.deprecation);
      }

pub printed_field : (x : ShownField) → IsField x → Printed field_form x
printed_field x h = record {
  said = field_said x h;
  text = said_text x h;
  from = said_from x h;
  way = field_way;
  one = here;
  fits = said_fits x h;
  shallow = said_shallow x h;
  means = said_means x h;
}
