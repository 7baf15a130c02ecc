-- The objects of introspection give what is shown.
use Rattle.std.proofs.Common.{◌≡◌, ℕ, Bool, true, false, ◌||◌, cond, Option, Some, None, is_some, List, [], ◌∷◌, map, refl, ap, ◌∙◌, rules}
use Rattle.std.specs.Prelude.{option_and_then, unwrap_or}
use Rattle.std.specs.List.{AllByRecursion, filter, list_any}
use Rattle.std.specs.Option.{option_map}
use Rattle.std.specs.Str.{bytes_eq}
use Rattle.gql_ast_base.specs.Names.{Named}
use Rattle.gql_ast_base.specs.TypeParts.{named_type}
use Rattle.gql_ast_base.specs.declared.directive.Directive.{Directive}
use Rattle.gql_ast_base.specs.declared.value.Value.{Value}
use Rattle.gql_ast.specs.declared.field_definition.EnumValueDefinition.{EnumValueDefinition}
use Rattle.gql_ast.specs.declared.field_definition.FieldDefinition.{FieldDefinition}
use Rattle.gql_ast.specs.declared.field_definition.InputValueDefinition.{InputValueDefinition}
use Rattle.gql_ast.specs.declared.schema_definition.DirectiveDefinition.{DirectiveDefinition}
use Rattle.gql_client_schema_laws.specs.Answer.{reason_in}
use Rattle.gql_client_schema_laws.specs.Given.{asked, GivesInput, GivesField, GivesValue, GivesDirective, GivesType, GivesPossible, GivesMembers, GivesSchema}
use Rattle.gql_client_schema_laws.specs.Parts.{reference, references, deprecation_by, deprecation_in, said_type}
use Rattle.gql_client_schema_laws.specs.Shown.{implements as shows_implementing, its_reference as shows_reference}
use Rattle.gql_client_schema_laws.proofs.Lists.{filter_all}
use Rattle.gql_client_schema_laws.proofs.Parts.{referred}
use Rattle.gql_introspection.specs.Answers.{objects, text_or_null, truth_leaf}
use Rattle.gql_introspection.specs.Deprecation.{deprecated, is_deprecated, deprecation_reason, default_reason, reason_of}
use Rattle.gql_introspection.specs.Kept.{include_deprecated, is_kept, kept}
use Rattle.gql_introspection.specs.Meta.{Meta, field_def, enum_value_def, input_value_def}
use Rattle.gql_introspection.specs.TypeDef.{is_implementing}
use Rattle.gql_schema_types.specs.Types.{type_name}
use Rattle.gql_schema_types.specs.declared.schema.Schema.{Schema}
use Rattle.gql_schema_types.specs.declared.types.ExtendedType.{ExtendedType}
use Rattle.gql_schema_types.specs.declared.types.ExtendedType.TheVariants as type
use Rattle.gql_schema_types.specs.declared.types.InterfaceType.{InterfaceType}
use Rattle.gql_schema_types.specs.declared.types.UnionType.{UnionType}
use Rattle.jb_tree.specs.Value.{truth_at}
use Rattle.jb_tree.specs.declared.value.Value.{out-Value, the_lemmas}
use Rattle.jb_tree.specs.declared.value.Value.TheOpen.{Value-F}
use Rattle.jb_tree.specs.declared.value.Value.TheVariants as json

-- ---- deprecated parts are kept

all_asked : include_deprecated asked ≡ true
all_asked =
    let out : out-Value (json.Bool true) ≡ Value-F.Bool true = search (rules, the_lemmas) in
    ap (λ level. unwrap_or (truth_at level) false) out

module _ {T : Type 0} (shows : T → Meta) (directives_of : T → List Directive) where
  each_kept : (parts : List T) → AllByRecursion (λ part. is_kept true (directives_of part) ≡ true) parts
  each_kept [] = tt
  each_kept (part ∷ parts) = (refl, each_kept parts)

  all_kept : (parts : List T) → kept shows directives_of (include_deprecated asked) parts ≡ objects (map shows parts)
  all_kept parts =
      ap (λ b. kept shows directives_of b parts) all_asked
      ∙ ap (λ l. objects (map shows l)) (filter_all (λ part. is_kept true (directives_of part)) parts (each_kept parts))

module _ (schema : Schema) where
  abbrev why : Option Value
  why = default_reason schema

  -- ---- deprecation

  same_deprecated : (directives : List Directive) → is_deprecated directives ≡ is_some (deprecation_in why directives)
  same_deprecated directives = by_first (deprecated directives)
    where
      by_first : (o : Option Directive) → is_some o ≡ is_some (option_map (deprecation_by why) o)
      by_first None = refl
      by_first (Some d) = refl

  same_reason : (directives : List Directive) → deprecation_reason schema directives ≡ reason_in (deprecation_in why directives)
  same_reason directives = by_first (deprecated directives)
    where
      by_first : (o : Option Directive) → option_and_then (reason_of schema) o ≡ reason_in (option_map (deprecation_by why) o)
      by_first None = refl
      by_first (Some d) = refl

  pub input_given : (value : InputValueDefinition) → GivesInput schema value
  input_given value = record {
    described = record { name_given = refl; description_given = refl };
    deprecated = record {
      deprecated_given = ap (λ b. Some (truth_leaf b)) (same_deprecated value.directives);
      reason_given = ap (λ o. Some (text_or_null o)) (same_reason value.directives);
    };
    ty = refl;
    default = refl;
  }

  pub field_given : (field : FieldDefinition) → GivesField schema field
  field_given field = record {
    described = record { name_given = refl; description_given = refl };
    deprecated = record {
      deprecated_given = ap (λ b. Some (truth_leaf b)) (same_deprecated field.directives);
      reason_given = ap (λ o. Some (text_or_null o)) (same_reason field.directives);
    };
    ty = refl;
    arguments = ap Some (all_kept (input_value_def schema) (λ value. value.directives) field.arguments);
  }

  pub value_given : (value : EnumValueDefinition) → GivesValue schema value
  value_given value = record {
    described = record { name_given = refl; description_given = refl };
    deprecated = record {
      deprecated_given = ap (λ b. Some (truth_leaf b)) (same_deprecated value.directives);
      reason_given = ap (λ o. Some (text_or_null o)) (same_reason value.directives);
    };
  }

  pub directive_given : (directive : DirectiveDefinition) → GivesDirective schema directive
  directive_given directive = record {
    described = record { name_given = refl; description_given = refl };
    repeatable = refl;
    locations = refl;
    arguments = ap Some (all_kept (input_value_def schema) (λ value. value.directives) directive.arguments);
  }

  -- ---- types

  pub type_given : (ty : ExtendedType) → GivesType schema ty
  type_given (type.Scalar t) = record {
    kind = refl;
    described = record { name_given = refl; description_given = refl };
    url = refl;
    one_of = refl;
    fields = refl;
    shown_fields = refl;
    input_fields = refl;
    shown_input_fields = refl;
    interfaces = refl;
    shown_interfaces = refl;
    enum_values = refl;
    shown_enum_values = refl;
  }
  type_given (type.Object t) = record {
    kind = refl;
    described = record { name_given = refl; description_given = refl };
    url = refl;
    one_of = refl;
    fields = ap Some (all_kept (field_def schema) (λ field. field.directives) t.fields);
    shown_fields = refl;
    input_fields = refl;
    shown_input_fields = refl;
    interfaces = refl;
    shown_interfaces = refl;
    enum_values = refl;
    shown_enum_values = refl;
  }
  type_given (type.Interface t) = record {
    kind = refl;
    described = record { name_given = refl; description_given = refl };
    url = refl;
    one_of = refl;
    fields = ap Some (all_kept (field_def schema) (λ field. field.directives) t.fields);
    shown_fields = refl;
    input_fields = refl;
    shown_input_fields = refl;
    interfaces = refl;
    shown_interfaces = refl;
    enum_values = refl;
    shown_enum_values = refl;
  }
  type_given (type.Union t) = record {
    kind = refl;
    described = record { name_given = refl; description_given = refl };
    url = refl;
    one_of = refl;
    fields = refl;
    shown_fields = refl;
    input_fields = refl;
    shown_input_fields = refl;
    interfaces = refl;
    shown_interfaces = refl;
    enum_values = refl;
    shown_enum_values = refl;
  }
  type_given (type.Enum t) = record {
    kind = refl;
    described = record { name_given = refl; description_given = refl };
    url = refl;
    one_of = refl;
    fields = refl;
    shown_fields = refl;
    input_fields = refl;
    shown_input_fields = refl;
    interfaces = refl;
    shown_interfaces = refl;
    enum_values = ap Some (all_kept (enum_value_def schema) (λ value. value.directives) t.values);
    shown_enum_values = refl;
  }
  type_given (type.InputObject t) = record {
    kind = refl;
    described = record { name_given = refl; description_given = refl };
    url = refl;
    one_of = refl;
    fields = refl;
    shown_fields = refl;
    input_fields = ap Some (all_kept (input_value_def schema) (λ value. value.directives) t.fields);
    shown_input_fields = refl;
    interfaces = refl;
    shown_interfaces = refl;
    enum_values = refl;
    shown_enum_values = refl;
  }

  -- ---- which types one can be

  any_reference : (interface : List ℕ) (names : List Named)
      → list_any (λ ty. bytes_eq interface (named_type ty).text) (references names) ≡ list_any (λ (name : Named). bytes_eq interface name.text) names
  any_reference interface [] = refl
  any_reference interface (name ∷ names) = λ i. bytes_eq interface (referred name i) || any_reference interface names i

  same_implementing : (interface : List ℕ) (ty : ExtendedType) → shows_implementing interface (said_type why ty) ≡ is_implementing interface ty
  same_implementing interface (type.Scalar t) = refl
  same_implementing interface (type.Object t) = any_reference interface t.implements_interfaces
  same_implementing interface (type.Interface t) = refl
  same_implementing interface (type.Union t) = refl
  same_implementing interface (type.Enum t) = refl
  same_implementing interface (type.InputObject t) = refl

  said_reference : (ty : ExtendedType) → shows_reference (said_type why ty) ≡ reference (type_name ty)
  said_reference (type.Scalar t) = refl
  said_reference (type.Object t) = refl
  said_reference (type.Interface t) = refl
  said_reference (type.Union t) = refl
  said_reference (type.Enum t) = refl
  said_reference (type.InputObject t) = refl

  implementing : (interface : List ℕ) (types : List ExtendedType)
      → map shows_reference (filter (shows_implementing interface) (map (said_type why) types)) ≡ map (λ t. reference (type_name t)) (filter (is_implementing interface) types)
  implementing interface [] = refl
  implementing interface (t ∷ ts) =
      ap (λ b. map shows_reference (cond b (said_type why t ∷ filter (shows_implementing interface) (map (said_type why) ts)) (filter (shows_implementing interface) (map (said_type why) ts))))
      (same_implementing interface t)
      ∙ by_test (is_implementing interface t) (implementing interface ts)
    where
      by_test : (b : Bool)
          → map shows_reference (filter (shows_implementing interface) (map (said_type why) ts)) ≡ map (λ t. reference (type_name t)) (filter (is_implementing interface) ts)
          → map shows_reference (cond b (said_type why t ∷ filter (shows_implementing interface) (map (said_type why) ts)) (filter (shows_implementing interface) (map (said_type why) ts)))
          ≡ map (λ t. reference (type_name t)) (cond b (t ∷ filter (is_implementing interface) ts) (filter (is_implementing interface) ts))
      by_test true later = λ i. said_reference t i ∷ later i
      by_test false later = later

  pub possible_given : (it : InterfaceType) → GivesPossible schema it
  possible_given it = record { given = refl; shown = implementing it.name.text schema.types }

  pub members_given : (it : UnionType) → GivesMembers schema it
  members_given it = record { given = refl; shown = refl }

  pub schema_given : GivesSchema schema
  schema_given = record { description = refl; query = refl; mutation = refl; subscription = refl; types = refl; directives = refl }
