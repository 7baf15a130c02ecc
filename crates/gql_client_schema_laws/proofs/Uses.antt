-- Nothing is wrong with uses of directives that tell what introspection shows.
use Rattle.std.proofs.Common.{◌≡◌, ℕ, Bool, true, false, not, ◌&&◌, ◌||◌, cond, if◌then◌else◌, Option, Some, None, is_some, List, [], ◌∷◌, ◌++◌, map, codes, refl, sym, ap, ◌∙◌}
use Rattle.std.specs.Option.{option_map, option_map_or}
use Rattle.std.specs.Str.{bytes_eq}
use Rattle.std.proofs.lemmas.List.{append-nil}
use Rattle.std.proofs.lemmas.Slice.Eq.{bytes_eq-Decides}
use Rattle.gql_source.specs.Span.{Span}
use Rattle.gql_ast_base.specs.TypeParts.{named_type, is_non_null, non_null_level}
use Rattle.gql_ast_base.specs.declared.directive.Argument.{Argument}
use Rattle.gql_ast_base.specs.declared.directive.Directive.{Directive}
use Rattle.gql_ast_base.specs.declared.type_ref.TypeRef.{TypeRef}
use Rattle.gql_ast_base.specs.declared.type_ref.TypeRef.TheVariants as ref
use Rattle.gql_ast_base.specs.declared.value.Value.{Value}
use Rattle.gql_ast_base.specs.declared.value.ValueKind.{out-ValueKind}
use Rattle.gql_ast_base.specs.declared.value.ValueKind.TheOpen.{ValueKind-F}
use Rattle.gql_ast.specs.declared.field_definition.InputValueDefinition.{InputValueDefinition}
use Rattle.gql_ast.specs.declared.schema_definition.DirectiveDefinition.{DirectiveDefinition}
use Rattle.gql_ast.specs.declared.schema_definition.DirectiveLocation.{DirectiveLocation}
use Rattle.gql_ast_laws.specs.Printed.{unplaced}
use Rattle.gql_diag_messages.specs.declared.diagnostic_data.DiagnosticData.{DiagnosticData}
use Rattle.gql_print_laws.specs.Literal as lit
use Rattle.gql_print_laws.specs.Literal.{Literal, literal_in}
use Rattle.gql_rules_values.specs.Arguments.{argument_type, one_argument, argument_faults}
use Rattle.gql_rules_values.specs.Directives.{undefined_use, defined_use, use_faults, directive_faults}
use Rattle.gql_rules_values.specs.Faults.{only_if}
use Rattle.gql_rules_values.specs.IntCoercionError.{int_level, int_coercion_error}
use Rattle.gql_rules_values.specs.Known.{is_known}
use Rattle.gql_rules_values.specs.Literals.{keys_level, keys, at_type, at_defined, literal_faults}
use Rattle.gql_rules_values.specs.RequiredArgument.{lacking, required_arguments}
use Rattle.gql_rules_values.specs.TypeShape.{is_required}
use Rattle.gql_rules_values.specs.UndefinedArgument.{defined, undefined_argument}
use Rattle.gql_rules_values.specs.UndefinedEnumValue.{enum_level, undefined_enum_value}
use Rattle.gql_rules_values.specs.UniqueDirective.{directive_name}
use Rattle.gql_rules_values.specs.UniqueInputValue.{unique_level, unique_keys}
use Rattle.gql_rules_values.specs.UnsupportedLocation.{allows, unsupported_location}
use Rattle.gql_rules_values.specs.UnsupportedValueType.{unsupported_value_type}
use Rattle.gql_rules_values.specs.ValueTypes.{form_level, form_of, scalar_accepts, type_accepts, accepts, fits}
use Rattle.gql_rules_values.specs.declared.known.Defined.TheVariants.{TypesAndScalars}
use Rattle.gql_rules_values.proofs.Nodes.{at-Null, at-String}
use Rattle.gql_client_schema_laws.specs.Standard.{Parameter, said_parameter, HasDirective, HasScalar, string_name, reason_parameter, url_parameter}
use Rattle.gql_client_schema_laws.specs.Uses.{said_argument, said_use, AreUses, text_or_null, deprecation_uses, url_uses, one_of_uses}
use Rattle.gql_client_schema_laws.proofs.Tops.{top_of, kind_is}
use Rattle.gql_client_schema_laws.proofs.References.{name_unplaced, non_null_unplaced, out_Named, name_Named, name_NonNullNamed}
use Rattle.gql_schema_types.specs.Entries.{entry}
use Rattle.gql_schema_types.specs.declared.types.ExtendedType.{ExtendedType}

-- ---- lists of one item

pub one_mapped : {X Y : Type 0} (f : X → Y) (y : Y) (xs : List X) → map f xs ≡ y ∷ [] → (x : X) × (xs ≡ x ∷ []) × (f x ≡ y)
one_mapped f y [] is = absurd cc
one_mapped f y (x ∷ []) is = let e : f x ≡ y = cc in (x, refl, e)
one_mapped f y (x ∷ z ∷ xs) is = absurd cc

pub none_mapped : {X Y : Type 0} (f : X → Y) (xs : List X) → map f xs ≡ [] → xs ≡ []
none_mapped f [] is = refl
none_mapped f (x ∷ xs) is = absurd cc

two_empty : {X : Type 0} (xs ys : List X) → xs ≡ [] → ys ≡ [] → xs ++ ys ≡ []
two_empty xs ys one two = ap (λ l. l ++ ys) one ∙ two

and_false : (b : Bool) → (b && false) ≡ false
and_false true = refl
and_false false = refl

if_empty : {X : Type 0} (b : Bool) (xs : List X) → xs ≡ [] → (if b then xs else []) ≡ []
if_empty true xs is = is
if_empty false xs is = refl

not_told : (b : Bool) (told : DiagnosticData) → b ≡ false → only_if b told ≡ []
not_told b told is = ap (λ c. only_if c told) is

same_text : (one other : List ℕ) → one ≡ other → bytes_eq one other ≡ true
same_text one other is = (bytes_eq-Decides one other).1 is

module _ (types : List ExtendedType) (string : HasScalar types (codes "String")) where
  -- ---- texts and null at `String`

  module _ (ty : TypeRef) (named : (named_type ty).text ≡ codes "String") (v : Value) where
    accepts_text : (t : List ℕ) → accepts types (named_type ty).text (form_level (ValueKind-F.String t)) ≡ true
    accepts_text t =
        ap (λ n. accepts types n (form_level (ValueKind-F.String t))) named
        ∙ ap (λ o. option_map_or (λ (ty : ExtendedType). type_accepts ty (codes "String") (form_level (ValueKind-F.String t))) o
        (scalar_accepts (codes "String") (form_level (ValueKind-F.String t)))) string.is

    text_at_type : (t : List ℕ) → out-ValueKind v.kind ≡ ValueKind-F.String t → at_type types v ty ≡ []
    text_at_type t is =
        two_empty (unsupported_value_type types ty v) _
        (not_told (not (fits types ty (form_of v))) _ (ap not (ap (λ x. fits types ty (form_level x)) is ∙ accepts_text t)))
        (two_empty (int_coercion_error types ty v) _ (ap (int_level types ty v) is)
        (two_empty (undefined_enum_value types ty v) (keys types ty v) (ap (enum_level v types ty) is) (ap (keys_level types ty v) is)))

    text_right : (t : List ℕ) → literal_in v ≡ lit.string t → literal_faults TypesAndScalars types (Some ty) v ≡ []
    text_right t is =
        let top : out-ValueKind v.kind ≡ ValueKind-F.String t = top_of v (lit.string t) is in
        at-String TypesAndScalars types t (Some ty) v (kind_is v (ValueKind-F.String t) top)
        ∙ two_empty (unique_keys v) (at_defined TypesAndScalars types v ty) (ap unique_level top)
        (if_empty (is_known types (named_type ty).text) (at_type types v ty) (text_at_type t top))

    module _ (nullable : is_non_null ty ≡ false) where
      null_at_type : out-ValueKind v.kind ≡ ValueKind-F.Null → at_type types v ty ≡ []
      null_at_type is =
          two_empty (unsupported_value_type types ty v) _
          (not_told (not (fits types ty (form_of v))) _ (ap not (ap (λ x. fits types ty (form_level x)) is ∙ ap not nullable)))
          (two_empty (int_coercion_error types ty v) _ (ap (int_level types ty v) is)
          (two_empty (undefined_enum_value types ty v) (keys types ty v) (ap (enum_level v types ty) is) (ap (keys_level types ty v) is)))

      null_right : literal_in v ≡ lit.null → literal_faults TypesAndScalars types (Some ty) v ≡ []
      null_right is =
          let top : out-ValueKind v.kind ≡ ValueKind-F.Null = top_of v lit.null is in
          at-Null TypesAndScalars types (Some ty) v (kind_is v ValueKind-F.Null top)
          ∙ two_empty (unique_keys v) (at_defined TypesAndScalars types v ty) (ap unique_level top)
          (if_empty (is_known types (named_type ty).text) (at_type types v ty) (null_at_type top))

  reason_right : (ty : TypeRef) (v : Value) (reason : Option (List ℕ)) → unplaced ty ≡ ref.Named string_name → literal_in v ≡ text_or_null reason
      → literal_faults TypesAndScalars types (Some ty) v ≡ []
  reason_right ty v (Some text) is said =
      text_right ty (sym (name_unplaced ty) ∙ ap (λ t. (named_type t).text) is ∙ ap (λ n. n.text) (name_Named string_name)) v text said
  reason_right ty v None is said =
      null_right ty (sym (name_unplaced ty) ∙ ap (λ t. (named_type t).text) is ∙ ap (λ n. n.text) (name_Named string_name)) v
      (sym (non_null_unplaced ty) ∙ ap is_non_null is ∙ ap non_null_level (out_Named string_name)) said

  url_right : (ty : TypeRef) (v : Value) (url : List ℕ) → unplaced ty ≡ ref.NonNullNamed string_name → literal_in v ≡ lit.string url
      → literal_faults TypesAndScalars types (Some ty) v ≡ []
  url_right ty v url is said =
      text_right ty (sym (name_unplaced ty) ∙ ap (λ t. (named_type t).text) is ∙ ap (λ n. n.text) (name_NonNullNamed string_name)) v url said

  -- ---- one argument, of one parameter

  module _ (name : List ℕ) (place : Option Span) (p : InputValueDefinition) (a : Argument) (same : a.name.text ≡ p.name.text)
      (right : literal_faults TypesAndScalars types (Some p.ty) a.value ≡ []) where
    parameter_found : defined (p ∷ []) a.name.text ≡ Some p
    parameter_found = ap (λ b. cond b (Some p) None) (same_text a.name.text p.name.text same)

    argument_right : one_argument TypesAndScalars types name (p ∷ []) a ≡ []
    argument_right =
        two_empty (undefined_argument name (p ∷ []) a) (literal_faults TypesAndScalars types (argument_type (p ∷ []) a) a.value)
        (not_told (not (is_some (defined (p ∷ []) a.name.text))) _ (ap (λ o. not (is_some o)) parameter_found))
        (ap (λ o. literal_faults TypesAndScalars types (option_map (λ (d : InputValueDefinition). d.ty) o) a.value) parameter_found ∙ right)

    none_lacking : required_arguments true name place (a ∷ []) (p ∷ []) ≡ []
    none_lacking =
        ap (λ b. only_if ((is_required p && not (b || false)) && true) (lacking true name place (a ∷ []) p) ++ []) (same_text p.name.text a.name.text (sym same))
        ∙ ap (λ b. only_if (b && true) (lacking true name place (a ∷ []) p) ++ []) (and_false (is_required p))

    arguments_right : argument_faults TypesAndScalars types true name place (p ∷ []) (a ∷ []) ≡ []
    arguments_right =
        two_empty (one_argument TypesAndScalars types name (p ∷ []) a ++ []) (required_arguments true name place (a ∷ []) (p ∷ []))
        (ap (λ l. l ++ []) argument_right) none_lacking

  module _ (definitions : List DirectiveDefinition) where
    abbrev faults : DirectiveLocation → List Directive → List DiagnosticData
    faults place ds = directive_faults TypesAndScalars types place definitions ds

    pub unused : (place : DirectiveLocation) (ds : List Directive) → AreUses [] ds → faults place ds ≡ []
    unused place ds is = ap (faults place) (none_mapped said_use ds is)

    -- ---- one use of a directive that is there

    module _ (place : DirectiveLocation) (u : Directive) (d : DirectiveDefinition) (found : entry directive_name u.name.text definitions ≡ Some d) (allowed : allows d.locations place ≡ true) where
      use_right : argument_faults TypesAndScalars types true u.name.text u.location d.arguments u.arguments ≡ [] → faults place (u ∷ []) ≡ []
      use_right right =
          append-nil (use_faults TypesAndScalars types place definitions u)
          ∙ ap (λ o. option_map_or (defined_use TypesAndScalars types place u) o (undefined_use TypesAndScalars types u)) found
          ∙ two_empty (unsupported_location d place u) (argument_faults TypesAndScalars types true u.name.text u.location d.arguments u.arguments)
          (not_told (not (allows d.locations place)) _ (ap not allowed)) right

      given_right : (parameter : Parameter) (given : List ℕ × lit.Literal) → map said_parameter d.arguments ≡ parameter ∷ [] → map said_argument u.arguments ≡ given ∷ []
          → given.0 ≡ parameter.0 → ((ty : TypeRef) (v : Value) → unplaced ty ≡ parameter.1 → literal_in v ≡ given.1 → literal_faults TypesAndScalars types (Some ty) v ≡ [])
          → faults place (u ∷ []) ≡ []
      given_right parameter given parameters arguments named right =
          let p = one_mapped said_parameter parameter d.arguments parameters in
          let a = one_mapped said_argument given u.arguments arguments in
          use_right
          ((λ i. argument_faults TypesAndScalars types true u.name.text u.location (p.1 i) (a.1 i))
          ∙ arguments_right u.name.text u.location p.0 a.0 (ap (λ g. g.0) a.2 ∙ named ∙ sym (ap (λ g. g.0) p.2))
          (right p.0.ty a.0.value (ap (λ g. g.1) p.2) (ap (λ g. g.1) a.2)))

      nothing_given : d.arguments ≡ [] → u.arguments ≡ [] → faults place (u ∷ []) ≡ []
      nothing_given none given = use_right (λ i. argument_faults TypesAndScalars types true u.name.text u.location (none i) (given i))

    -- ---- what is printed

    pub deprecation_right : (places : List DirectiveLocation) (has : HasDirective definitions (codes "deprecated") places (reason_parameter ∷ [])) (place : DirectiveLocation)
        → allows has.definition.locations place ≡ true → (deprecation : Option (Option (List ℕ))) (ds : List Directive) → AreUses (deprecation_uses deprecation) ds → faults place ds ≡ []
    deprecation_right places has place allowed None ds is = unused place ds is
    deprecation_right places has place allowed (Some reason) ds is =
        let u = one_mapped said_use (codes "deprecated", (codes "reason", text_or_null reason) ∷ []) ds is in
        ap (faults place) u.1
        ∙ given_right place u.0 has.definition (ap (λ n. entry directive_name n definitions) (ap (λ g. g.0) u.2) ∙ has.is) allowed reason_parameter (codes "reason", text_or_null reason)
        has.takes (ap (λ g. g.1) u.2) refl (λ ty v e said. reason_right ty v reason e said)

    pub url_uses_right : (places : List DirectiveLocation) (has : HasDirective definitions (codes "specifiedBy") places (url_parameter ∷ [])) (place : DirectiveLocation)
        → allows has.definition.locations place ≡ true → (url : Option (List ℕ)) (ds : List Directive) → AreUses (url_uses url) ds → faults place ds ≡ []
    url_uses_right places has place allowed None ds is = unused place ds is
    url_uses_right places has place allowed (Some url) ds is =
        let u = one_mapped said_use (codes "specifiedBy", (codes "url", lit.string url) ∷ []) ds is in
        ap (faults place) u.1
        ∙ given_right place u.0 has.definition (ap (λ n. entry directive_name n definitions) (ap (λ g. g.0) u.2) ∙ has.is) allowed url_parameter (codes "url", lit.string url)
        has.takes (ap (λ g. g.1) u.2) refl (λ ty v e said. url_right ty v url e said)

    pub one_of_right : (places : List DirectiveLocation) (has : HasDirective definitions (codes "oneOf") places []) (place : DirectiveLocation)
        → allows has.definition.locations place ≡ true → (one_of : Bool) (ds : List Directive) → AreUses (one_of_uses one_of) ds → faults place ds ≡ []
    one_of_right places has place allowed false ds is = unused place ds is
    one_of_right places has place allowed true ds is =
        let u = one_mapped said_use (codes "oneOf", []) ds is in
        ap (faults place) u.1
        ∙ nothing_given place u.0 has.definition (ap (λ n. entry directive_name n definitions) (ap (λ g. g.0) u.2) ∙ has.is) allowed
        (none_mapped said_parameter has.definition.arguments has.takes) (none_mapped said_argument u.0.arguments (ap (λ g. g.1) u.2))
