-- A schema of which the same is shown tells the other again, where it uses directives as they are printed.
use Rattle.std.proofs.Common.{◌≡◌, Bool, not, Option, Some, None, List, [], ◌∷◌, map, refl, sym, ap, ◌∙◌, subst}
use Rattle.std.specs.List.{AllByRecursion}
use Rattle.std.specs.Option.{option_map}
use Rattle.gql_ast.specs.ValueText.{value_text}
use Rattle.gql_ast_base.specs.Names.{Named}
use Rattle.gql_ast_base.specs.TypeParts.{named_type}
use Rattle.gql_ast_base.specs.declared.type_ref.TypeRef.{TypeRef}
use Rattle.gql_ast_base.specs.declared.value.Value.{Value}
use Rattle.gql_ast_base.specs.declared.value.ValueKind.{ValueKind}
use Rattle.gql_ast.specs.declared.field_definition.EnumValueDefinition.{EnumValueDefinition}
use Rattle.gql_ast.specs.declared.field_definition.FieldDefinition.{FieldDefinition}
use Rattle.gql_ast.specs.declared.field_definition.InputValueDefinition.{InputValueDefinition}
use Rattle.gql_ast.specs.declared.schema_definition.DirectiveDefinition.{DirectiveDefinition}
use Rattle.gql_client_schema_laws.specs.AsPrinted.{reason_of, InputUses, FieldUses, ValueUses, TypeUses, DirectiveUses, UsesAsPrinted, IsConstantValue, HasConstantDefault, HasConstantArguments, HasConstantParts, HasConstantParameters, AreConstantDefaults}
use Rattle.gql_client_schema_laws.specs.Parts.{reference, references, deprecation_in, shown_input, shown_field, shown_enum_value, shown_directive, said_type}
use Rattle.gql_client_schema_laws.specs.Settled.{FieldsAre, InputsAre}
use Rattle.gql_client_schema_laws.specs.Shown.{Shows, unfinished}
use Rattle.gql_client_schema_laws.specs.Throughout.{NameIs, NamesAre, ValuesAre, TypeIs, DirectiveIs, IsTypeThroughout, IsDirectiveThroughout, IsPlacedThroughout}
use Rattle.gql_client_schema_laws.proofs.LookUps.{all_unfinished}
use Rattle.gql_client_schema_laws.proofs.Parts.{referred}
use Rattle.gql_introspection.specs.Deprecation.{default_reason, specified_by}
use Rattle.gql_print_laws.specs.Literal.{literal_of, literal_in}
use Rattle.gql_print_laws.specs.ReadBack.{IsValueOf, StandsFor}
use Rattle.gql_print_laws.specs.Written.{IsConstant}
use Rattle.gql_rules_values.specs.Written.{is_written}
use Rattle.gql_client_schema_laws.specs.Pairs.{Paired}
use Rattle.gql_client_schema_laws.specs.Retold.{IsRetoldName, IsRetoldInput, IsRetoldInputField, IsRetoldField, IsRetoldValue, IsRetoldType, IsRetoldDirective, IsRetold}
use Rattle.gql_schema_types.specs.declared.schema.Schema.{Schema}
use Rattle.gql_schema_types.specs.declared.types.ExtendedType.{ExtendedType}
use Rattle.gql_schema_types.specs.declared.types.ExtendedType.TheVariants as type
use Rattle.gql_sdl.specs.Schemas.{is_directive_name, is_built_in}
use Rattle.gql_sdl.specs.declared.shown.ShownDirective.{ShownDirective}
use Rattle.gql_sdl.specs.declared.shown.ShownEnumValue.{ShownEnumValue}
use Rattle.gql_sdl.specs.declared.shown.ShownField.{ShownField}
use Rattle.gql_sdl.specs.declared.shown.ShownInput.{ShownInput}
use Rattle.gql_sdl.specs.declared.shown.ShownSchema.{ShownSchema}
use Rattle.gql_sdl.specs.declared.shown.ShownType.{ShownType}
use Rattle.gql_source.specs.declared.file_id.FileId.{FileId}

-- ---- lists that are shown alike

paired_of : {X Y Z : Type 0} (f : X → Z) (g : Y → Z) (P : X → Type 0) (Q : Y → Type 0) (R : X → Y → Type 0) → ((x : X) (y : Y) → f x ≡ g y → P x → Q y → R x y)
    → (xs : List X) (ys : List Y) → map f xs ≡ map g ys → AllByRecursion P xs → AllByRecursion Q ys → Paired R xs ys
paired_of f g P Q R h [] [] same ps qs = tt
paired_of f g P Q R h (x ∷ xs) (y ∷ ys) same ps qs =
    let here : f x ≡ g y = cc in
    let later : map f xs ≡ map g ys = cc in
    (h x y here ps.0 qs.0, paired_of f g P Q R h xs ys later ps.1 qs.1)
paired_of f g P Q R h [] (y ∷ ys) same ps qs = absurd cc
paired_of f g P Q R h (x ∷ xs) [] same ps qs = absurd cc

all_both : {X : Type 0} (P Q : X → Type 0) (xs : List X) → AllByRecursion P xs → AllByRecursion Q xs → AllByRecursion (λ x. P x × Q x) xs
all_both P Q [] ps qs = tt
all_both P Q (x ∷ xs) ps qs = ((ps.0, qs.0), all_both P Q xs ps.1 qs.1)

-- ---- defaults

abbrev pub ReadsLaw : Type 0
ReadsLaw = (file : FileId) (value : Value) → IsConstant (literal_in value) → StandsFor (value_text value) file (literal_in value)

abbrev pub AloneLaw : Type 0
AloneLaw = (file : FileId) (value : Value) (read : ValueKind) → IsConstant (literal_in value) → IsValueOf (value_text value) file read → literal_of read ≡ literal_in value

abbrev some_file : FileId
some_file = record { number = 2 }

module _ (reads : ReadsLaw) (alone : AloneLaw) where
  -- constants of one text have one literal
  one_literal : (v w : Value) → value_text v ≡ value_text w → IsConstant (literal_in v) → IsConstant (literal_in w) → literal_in v ≡ literal_in w
  one_literal v w same one two =
      let read : StandsFor (value_text v) some_file (literal_in v) = reads some_file v one in
      sym read.same ∙ alone some_file w read.read two (subst (λ t. IsValueOf t some_file read.read) same read.is)

  same_default : (o p : Option Value) → option_map value_text o ≡ option_map value_text p → IsConstantValue o → IsConstantValue p → option_map literal_in o ≡ option_map literal_in p
  same_default None None same one two = refl
  same_default (Some v) (Some w) same one two = let text : value_text v ≡ value_text w = cc in ap Some (one_literal v w text one two)
  same_default None (Some w) same one two = absurd cc
  same_default (Some v) None same one two = absurd cc

  module _ (why reason : Option Value) where
    -- ---- arguments and input fields

    retold_input : (x y : InputValueDefinition) → shown_input why x ≡ shown_input reason y → HasConstantDefault x → HasConstantDefault y × InputUses reason y → IsRetoldInput x y
    retold_input x y same one two = record {
      name = ap (λ (s : ShownInput). s.name.text) same;
      ty = ap (λ (s : ShownInput). s.ty) same;
      default_value = same_default x.default_value y.default_value (ap (λ (s : ShownInput). s.default_value) same) one two.0;
      deprecation = option_map reason_of (deprecation_in reason y.directives);
      uses = two.1;
    }

    retold_inputs : (xs ys : List InputValueDefinition) → map (shown_input why) xs ≡ map (shown_input reason) ys → AllByRecursion HasConstantDefault xs
        → AllByRecursion HasConstantDefault ys → AllByRecursion (InputUses reason) ys → Paired IsRetoldInput xs ys
    retold_inputs xs ys same one two uses =
        paired_of (shown_input why) (shown_input reason) HasConstantDefault (λ y. HasConstantDefault y × InputUses reason y) IsRetoldInput retold_input xs ys same one
        (all_both HasConstantDefault (InputUses reason) ys two uses)

    module _ (written : Bool) where
      abbrev InputIs : InputValueDefinition → Type 0
      InputIs x = is_written x.location ≡ written

      abbrev FieldIs : FieldDefinition → Type 0
      FieldIs x = is_written x.location ≡ written

      abbrev ValueIs : EnumValueDefinition → Type 0
      ValueIs x = is_written x.location ≡ written

      retold_input_fields : (xs ys : List InputValueDefinition) → map (shown_input why) xs ≡ map (shown_input reason) ys → InputsAre written xs → InputsAre written ys
          → AllByRecursion HasConstantDefault xs → AllByRecursion HasConstantDefault ys → AllByRecursion (InputUses reason) ys → Paired IsRetoldInputField xs ys
      retold_input_fields xs ys same here there one two uses =
          paired_of (shown_input why) (shown_input reason) (λ x. InputIs x × HasConstantDefault x) (λ y. InputIs y × (HasConstantDefault y × InputUses reason y)) IsRetoldInputField
          (λ x y e p q. record { input = retold_input x y e p.1 q.1; place = p.0 ∙ sym q.0 }) xs ys same (all_both InputIs HasConstantDefault xs here one)
          (all_both InputIs (λ y. HasConstantDefault y × InputUses reason y) ys there (all_both HasConstantDefault (InputUses reason) ys two uses))

      -- ---- fields and values

      retold_field : (x y : FieldDefinition) → shown_field why x ≡ shown_field reason y → FieldIs x × HasConstantArguments x
          → FieldIs y × (HasConstantArguments y × FieldUses reason y) → IsRetoldField x y
      retold_field x y same one two = record {
        name = ap (λ (s : ShownField). s.name.text) same;
        arguments = retold_inputs x.arguments y.arguments (ap (λ (s : ShownField). s.arguments) same) one.1 two.1.0 two.1.1.arguments;
        ty = ap (λ (s : ShownField). s.ty) same;
        deprecation = option_map reason_of (deprecation_in reason y.directives);
        uses = two.1.1.itself;
        place = one.0 ∙ sym two.0;
      }

      retold_fields : (xs ys : List FieldDefinition) → map (shown_field why) xs ≡ map (shown_field reason) ys → FieldsAre written xs → FieldsAre written ys
          → AllByRecursion HasConstantArguments xs → AllByRecursion HasConstantArguments ys → AllByRecursion (FieldUses reason) ys → Paired IsRetoldField xs ys
      retold_fields xs ys same here there one two uses =
          paired_of (shown_field why) (shown_field reason) (λ x. FieldIs x × HasConstantArguments x) (λ y. FieldIs y × (HasConstantArguments y × FieldUses reason y)) IsRetoldField
          retold_field xs ys same (all_both FieldIs HasConstantArguments xs here one)
          (all_both FieldIs (λ y. HasConstantArguments y × FieldUses reason y) ys there (all_both HasConstantArguments (FieldUses reason) ys two uses))

      retold_value : (x y : EnumValueDefinition) → shown_enum_value why x ≡ shown_enum_value reason y → ValueIs x → ValueIs y × ValueUses reason y → IsRetoldValue x y
      retold_value x y same one two = record {
        name = ap (λ (s : ShownEnumValue). s.name.text) same;
        deprecation = option_map reason_of (deprecation_in reason y.directives);
        uses = two.1;
        place = one ∙ sym two.0;
      }

      retold_values : (xs ys : List EnumValueDefinition) → map (shown_enum_value why) xs ≡ map (shown_enum_value reason) ys → ValuesAre written xs → ValuesAre written ys
          → AllByRecursion (ValueUses reason) ys → Paired IsRetoldValue xs ys
      retold_values xs ys same here there uses =
          paired_of (shown_enum_value why) (shown_enum_value reason) ValueIs (λ y. ValueIs y × ValueUses reason y) IsRetoldValue retold_value xs ys same here
          (all_both ValueIs (ValueUses reason) ys there uses)

      -- ---- names

      same_reference : (x y : Named) → reference x ≡ reference y → x.text ≡ y.text
      same_reference x y same = sym (referred x) ∙ ap (λ (r : TypeRef). (named_type r).text) same ∙ referred y

      retold_names : (xs ys : List Named) → references xs ≡ references ys → NamesAre written xs → NamesAre written ys → Paired IsRetoldName xs ys
      retold_names =
          paired_of reference reference (NameIs written) (NameIs written) IsRetoldName (λ x y same one two. record { text = same_reference x y same; place = one ∙ sym two })

      retold_name : (x y : Named) → x.text ≡ y.text → NameIs written x → NameIs written y → IsRetoldName x y
      retold_name x y same one two = record { text = same; place = one ∙ sym two }

      -- ---- types

      retold_type : (t u : ExtendedType) → said_type why t ≡ said_type reason u → TypeIs written t → TypeIs written u → HasConstantParts t → HasConstantParts u → TypeUses reason u
          → IsRetoldType t u
      retold_type (type.Scalar t) (type.Scalar u) same one two a b uses = record {
        name = retold_name t.name u.name (ap (λ (s : ShownType). s.name.text) same) one.name two.name;
        url = specified_by u.directives;
        uses = uses;
        place = one.itself ∙ sym two.itself;
      }
      retold_type (type.Object t) (type.Object u) same one two a b uses = record {
        name = retold_name t.name u.name (ap (λ (s : ShownType). s.name.text) same) one.name two.name;
        interfaces = retold_names t.implements_interfaces u.implements_interfaces (ap (λ (s : ShownType). s.interfaces) same) one.interfaces two.interfaces;
        fields = retold_fields t.fields u.fields (ap (λ (s : ShownType). s.fields) same) one.fields two.fields a b uses.1;
        uses = uses.0;
        place = one.itself ∙ sym two.itself;
      }
      retold_type (type.Interface t) (type.Interface u) same one two a b uses = record {
        name = retold_name t.name u.name (ap (λ (s : ShownType). s.name.text) same) one.name two.name;
        interfaces = retold_names t.implements_interfaces u.implements_interfaces (ap (λ (s : ShownType). s.interfaces) same) one.interfaces two.interfaces;
        fields = retold_fields t.fields u.fields (ap (λ (s : ShownType). s.fields) same) one.fields two.fields a b uses.1;
        uses = uses.0;
        place = one.itself ∙ sym two.itself;
      }
      retold_type (type.Union t) (type.Union u) same one two a b uses = record {
        name = retold_name t.name u.name (ap (λ (s : ShownType). s.name.text) same) one.name two.name;
        members = retold_names t.members u.members (ap (λ (s : ShownType). s.possible_types) same) one.members two.members;
        uses = uses;
        place = one.itself ∙ sym two.itself;
      }
      retold_type (type.Enum t) (type.Enum u) same one two a b uses = record {
        name = retold_name t.name u.name (ap (λ (s : ShownType). s.name.text) same) one.name two.name;
        values = retold_values t.values u.values (ap (λ (s : ShownType). s.enum_values) same) one.values two.values uses.1;
        uses = uses.0;
        place = one.itself ∙ sym two.itself;
      }
      retold_type (type.InputObject t) (type.InputObject u) same one two a b uses = record {
        name = retold_name t.name u.name (ap (λ (s : ShownType). s.name.text) same) one.name two.name;
        fields = retold_input_fields t.fields u.fields (ap (λ (s : ShownType). s.input_fields) same) one.fields two.fields a b uses.1;
        one_of = ap (λ (s : ShownType). s.is_one_of) same;
        uses = uses.0;
        place = one.itself ∙ sym two.itself;
      }
      retold_type _ _ same one two a b uses = let kinds = ap (λ (s : ShownType). s.kind) same in absurd cc

    -- ---- what is built in is so in both

    same_none : (t : ExtendedType) → is_built_in (said_type None t) ≡ is_built_in (said_type why t)
    same_none (type.Scalar t) = refl
    same_none (type.Object t) = refl
    same_none (type.Interface t) = refl
    same_none (type.Union t) = refl
    same_none (type.Enum t) = refl
    same_none (type.InputObject t) = refl

    none_same : (t : ExtendedType) → is_built_in (said_type reason t) ≡ is_built_in (said_type None t)
    none_same (type.Scalar t) = refl
    none_same (type.Object t) = refl
    none_same (type.Interface t) = refl
    none_same (type.Union t) = refl
    none_same (type.Enum t) = refl
    none_same (type.InputObject t) = refl

    retold_there : (t u : ExtendedType) → said_type why t ≡ said_type reason u → IsTypeThroughout t × HasConstantParts t
        → IsTypeThroughout u × (HasConstantParts u × TypeUses reason u) → IsRetoldType t u
    retold_there t u same one two =
        let alike : is_built_in (said_type None t) ≡ is_built_in (said_type None u) = same_none t ∙ ap is_built_in same ∙ none_same u in
        retold_type (not (is_built_in (said_type None u))) t u same (subst (λ b. TypeIs (not b) t) alike one.0) two.0 one.1 two.1.0 two.1.1

    -- ---- directives

    retold_directive : (x y : DirectiveDefinition) → shown_directive why x ≡ shown_directive reason y → IsDirectiveThroughout x × HasConstantParameters x
        → IsDirectiveThroughout y × (HasConstantParameters y × DirectiveUses reason y) → IsRetoldDirective x y
    retold_directive x y same one two =
        let named : x.name.text ≡ y.name.text = ap (λ (s : ShownDirective). s.name.text) same in
        let here : DirectiveIs (not (is_directive_name y.name.text)) x = subst (λ n. DirectiveIs (not (is_directive_name n)) x) named one.0 in
        record {
          name = record { text = named; place = here.name ∙ sym two.0.name };
          arguments = retold_inputs x.arguments y.arguments (ap (λ (s : ShownDirective). s.arguments) same) one.1 two.1.0 two.1.1;
          place = here.itself ∙ sym two.0.itself;
        }

  pub retold : (schema other : Schema) (shown : ShownSchema) → Shows schema shown → Shows other shown → IsPlacedThroughout schema → IsPlacedThroughout other
      → AreConstantDefaults schema → AreConstantDefaults other → UsesAsPrinted other → IsRetold schema other
  retold schema other shown one two here there constants constants_too uses =
      let why : Option Value = default_reason schema in
      let reason : Option Value = default_reason other in
      let same_types : map (said_type why) schema.types ≡ map (said_type reason) other.types =
      sym (all_unfinished why (map (said_type why) schema.types) schema.types) ∙ ap (map unfinished) (sym one.types) ∙ ap (map unfinished) two.types
      ∙ all_unfinished reason (map (said_type reason) other.types) other.types in
      record {
        types =
            paired_of (said_type why) (said_type reason) (λ t. IsTypeThroughout t × HasConstantParts t) (λ u. IsTypeThroughout u × (HasConstantParts u × TypeUses reason u)) IsRetoldType
            (retold_there why reason) schema.types other.types same_types (all_both IsTypeThroughout HasConstantParts schema.types here.types constants.types)
            (all_both IsTypeThroughout (λ u. HasConstantParts u × TypeUses reason u) other.types there.types
            (all_both HasConstantParts (TypeUses reason) other.types constants_too.types uses.types));
        directives =
            paired_of (shown_directive why) (shown_directive reason) (λ x. IsDirectiveThroughout x × HasConstantParameters x)
            (λ y. IsDirectiveThroughout y × (HasConstantParameters y × DirectiveUses reason y)) IsRetoldDirective (retold_directive why reason) schema.directive_definitions
            other.directive_definitions (sym one.directives ∙ two.directives)
            (all_both IsDirectiveThroughout HasConstantParameters schema.directive_definitions here.directives constants.directives)
            (all_both IsDirectiveThroughout (λ y. HasConstantParameters y × DirectiveUses reason y) other.directive_definitions there.directives
            (all_both HasConstantParameters (DirectiveUses reason) other.directive_definitions constants_too.directives uses.directives));
        uses = uses.itself;
      }
