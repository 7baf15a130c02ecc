-- Values of enum types.
use Rattle.std.proofs.Common.{◌≡◌, List, [], ◌∷◌, ◌++◌, Option, Some, refl, ap, ◌∙◌, subst, append-nil, arith}
use Rattle.gql_source.specs.declared.file_id.FileId.{FileId}
use Rattle.gql_grammar.specs.declared.word.Word.{Word}
use Rattle.gql_grammar.specs.declared.symbol.Symbol.{Symbol}
use Rattle.gql_grammar.specs.declared.symbol.Symbol.TheVariants.{One, Optional}
use Rattle.gql_grammar.specs.declared.rule.Rule.TheVariants as rule
use Rattle.gql_grammar.specs.declared.syntax_kind.SyntaxKind.TheVariants as kind
use Rattle.gql_grammar.specs.Sentence.{here}
use Rattle.gql_cst.specs.Forest.{Forest}
use Rattle.gql_ast_base.specs.Directives.{directives}
use Rattle.gql_ast_base.specs.Kinds.{is_kind}
use Rattle.gql_ast_base.specs.Literals.{description}
use Rattle.gql_ast_base.specs.Names.{Named}
use Rattle.gql_ast_base.specs.Parts.{inside, location, nth_name}
use Rattle.gql_ast.specs.Fields.{enum_value_of}
use Rattle.gql_ast_laws.proofs.Blind.{tree}
use Rattle.gql_print_laws.specs.bridge.Said.{Text, Said, over, token, under, text_of, forest_at}
use Rattle.gql_print_laws.specs.bridge.Written.{Ends}
use Rattle.gql_sdl.specs.Forms.{described, enum_value_text}
use Rattle.gql_sdl.specs.declared.shown.ShownEnumValue.{ShownEnumValue}
use Rattle.gql_print_laws.specs.Forms.{enum_value_form}
use Rattle.gql_print_laws.specs.Meant.{enum_value_says}
use Rattle.gql_print_laws.specs.Plain.{EnumValue, Use}
use Rattle.gql_print_laws.specs.Printable.{IsEnumValue}
use Rattle.gql_print_laws.specs.Told.{enum_value_told}
use Rattle.gql_print_laws.proofs.Depths.{IsShallow}
use Rattle.gql_print_laws.proofs.Grammar.{FitsTo, no_symbol, one_token, one_node}
use Rattle.gql_print_laws.proofs.Parts.{inner, named_first, inside_own, inside_other, described_said, description_said, described_text, described_from, described_fits, inside_described, own_description, description_is, described_shallow}
use Rattle.gql_print_laws.proofs.Printed.{Printed}
use Rattle.gql_print_laws.proofs.Reading.{From, after_over, name_from, node_from}
use Rattle.gql_print_laws.proofs.Standing.{inside_said, Within, within, name_at, Only, Means}
use Rattle.gql_print_laws.proofs.Uses.{noted_said, noted_text, noted_after, noted_fits, notes_said, notes_text, uses_are, deprecation_note, deprecated_text, deprecated_told, noted_shallow}

abbrev value_way : List Symbol
value_way = Optional rule.Description ∷ One rule.EnumValue ∷ Optional rule.ConstDirectives ∷ []

abbrev make_value : Option Text → Text → List Use → EnumValue
make_value d name uses = record { description = d; name = name; uses = uses }

same_value : {d e : Option Text} {m n : Text} {u v : List Use} → d ≡ e → m ≡ n → u ≡ v → make_value d m u ≡ make_value e n v
same_value {d = d} {e = e} {m = m} {n = n} {u = u} {v = v} a b c = ap (λ x. make_value x m u) a ∙ ap (λ x. make_value e x u) b ∙ ap (λ x. make_value e n x) c

module _ (text : Text) (file : FileId) where
  value_is : (row : Forest) (name : Named) → nth_name text file 0 (inside kind.EnumValue row) ≡ Some name
      → enum_value_of text file (tree kind.EnumValueDefinition 0 0 row) ≡ Some (record {
        description = description text row;
        value = name;
        directives = directives text file row;
        location = location file (tree kind.EnumValueDefinition 0 0 row);
      })
  unfolding enum_value_of is_kind
  value_is row name e = rw e refl

  pub only_enum_value : Only text (enum_value_of text file) enum_value_says kind.EnumValueDefinition
  unfolding enum_value_of
  only_enum_value t h = rw h refl

module _ (x : ShownEnumValue) (h : IsEnumValue x) where
  abbrev name_said : Said
  name_said = token x.name.text over

  abbrev tail : Said
  tail = noted_said (deprecation_note x.deprecation) over

  abbrev named_said : Said
  named_said = under kind.EnumValue name_said tail

  abbrev value_said : Said
  value_said = described_said x.description named_said

  said_text : text_of value_said ≡ enum_value_text x
  said_text =
      described_text x.description named_said
      ∙ ap (λ t. described x.description ++ (t ++ text_of tail)) (append-nil x.name.text)
      ∙ ap (λ t. described x.description ++ (x.name.text ++ t))
      (noted_text (deprecation_note x.deprecation) over ∙ append-nil (notes_text (deprecation_note x.deprecation)) ∙ deprecated_text x.deprecation)

  said_from : {rest : Text} → Ends rest → From value_said rest
  said_from e =
      let more = noted_after (deprecation_note x.deprecation) (after_over e) in
      described_from x.description (node_from refl (name_from h.named (after_over more.ends)) more.lexes)

  said_fits : {vs : List Word} → FitsTo value_way value_said vs
  said_fits = described_fits x.description (one_node rule.EnumValue _ refl here (one_token h.other no_symbol) (noted_fits (deprecation_note x.deprecation) no_symbol))

  said_shallow : IsShallow value_said
  said_shallow =
      let a = noted_shallow (deprecation_note x.deprecation) over (omega arith) in
      described_shallow x.description named_said (omega (arith, a))

  said_description : inside_said kind.Description value_said ≡ inner (description_said x.description)
  unfolding is_kind
  said_description = own_description x.description named_said (inside_other kind.Description kind.Directives (notes_said (deprecation_note x.deprecation)) over refl)

  said_name : inside_said kind.EnumValue value_said ≡ name_said
  unfolding is_kind
  said_name = inside_described kind.EnumValue x.description named_said refl

  said_uses : inside_said kind.Directives value_said ≡ inner (notes_said (deprecation_note x.deprecation))
  unfolding is_kind
  said_uses =
      inside_described kind.Directives x.description named_said refl ∙ inside_own kind.Directives (notes_said (deprecation_note x.deprecation)) over refl

  said_means : (text : Text) (file : FileId) → Means text (enum_value_of text file) enum_value_says kind.EnumValueDefinition value_said (enum_value_told x)
  said_means text file n r =
      let row = forest_at n value_said in
      let w : Within text n kind.EnumValue value_said name_said = subst (λ i. Within text n kind.EnumValue value_said i) said_name (within text kind.EnumValue refl value_said n r) in
      let a = name_at text file w.place name_said w.stands 0 x.name.text (named_first x.name.text over h.named) in
      record {
        found = record {
          description = description text row;
          value = a.found;
          directives = directives text file row;
          location = location file (tree kind.EnumValueDefinition 0 0 row);
        };
        is = value_is text file row a.found (ap (λ f. nth_name text file 0 f) w.is ∙ a.is);
        same = same_value (description_is text x.description value_said n r said_description) a.same
            (uses_are text file (deprecation_note x.deprecation) value_said n r said_uses ∙ deprecated_told x.deprecation);
      }

pub printed_enum_value : (x : ShownEnumValue) → IsEnumValue x → Printed enum_value_form x
printed_enum_value x h = record {
  said = value_said x h;
  text = said_text x h;
  from = said_from x h;
  way = value_way;
  one = here;
  fits = said_fits x h;
  shallow = said_shallow x h;
  means = said_means x h;
}
