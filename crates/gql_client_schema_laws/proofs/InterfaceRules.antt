-- What is wrong with types as implementations of interfaces, in a schema and in one that tells it again.
use Rattle.std.proofs.Common.{◌≡◌, ℕ, Bool, true, false, not, ◌&&◌, if◌then◌else◌, Option, Some, None, is_some, List, [], ◌∷◌, ◌++◌, refl, sym, ap, ◌∙◌}
use Rattle.std.specs.Prelude.{is_none}
use Rattle.std.specs.List.{flat_map, position}
use Rattle.std.specs.Option.{option_map_or}
use Rattle.std.specs.Str.{bytes_eq}
use Rattle.gql_ast_base.specs.Names.{Named}
use Rattle.gql_ast_base.specs.TypeParts.{named_type}
use Rattle.gql_ast_base.specs.declared.type_ref.TypeRef.{TypeRef}
use Rattle.gql_ast.specs.declared.field_definition.FieldDefinition.{FieldDefinition}
use Rattle.gql_ast.specs.declared.field_definition.InputValueDefinition.{InputValueDefinition}
use Rattle.gql_ast_laws.specs.Printed.{unplaced}
use Rattle.gql_schema_rules_parts.specs.Arguments.{argument_name, argument_called}
use Rattle.gql_schema_rules_parts.specs.ExtraRequiredImplementationFieldArgument.{is_extra, extra_required_implementation_field_argument}
use Rattle.gql_schema_rules_parts.specs.InterfaceRules.{extra_argument_faults, extra_after, wanted_argument_faults, wanted_after, arguments_faults, both_faults, field_faults, implementation_faults, listed_faults, implementations_faults, type_faults, interfaces_faults}
use Rattle.gql_schema_rules_parts.specs.InvalidImplementationFieldArgumentType.{invalid_implementation_field_argument_type}
use Rattle.gql_schema_rules_parts.specs.InvalidImplementationFieldType.{invalid_implementation_field_type}
use Rattle.gql_schema_rules_parts.specs.MissingInterfaceField.{missing_interface_field}
use Rattle.gql_schema_rules_parts.specs.MissingInterfaceFieldArgument.{missing_interface_field_argument}
use Rattle.gql_schema_rules_parts.specs.Subtypes.{is_subtype, is_same_type, are_known}
use Rattle.gql_schema_rules_parts.specs.TransitiveImplementedInterfaces.{must_implement, interfaces_of, interfaces_by, is_new, told_with, told_after, missing, missing_by, transitive_implemented_interfaces}
use Rattle.gql_rules_values.specs.Written.{is_written}
use Rattle.gql_client_schema_laws.specs.Pairs.{Paired}
use Rattle.gql_client_schema_laws.specs.bridge.Pairs.{Both}
use Rattle.gql_client_schema_laws.specs.Retold.{IsRetoldName, IsRetoldInput, IsRetoldField, IsRetoldType}
use Rattle.gql_client_schema_laws.proofs.Found.{by_kind, called_alike, found_as, known_alike, subname_alike}
use Rattle.gql_client_schema_laws.proofs.Pairs.{joined_alike, only_alike, if_alike, told_alike, some_alike, flat_alike, find_alike, pairs_more}
use Rattle.gql_client_schema_laws.proofs.References.{name_alike}
use Rattle.gql_client_schema_laws.proofs.Subtypes.{subtype_alike, same_type_alike}
use Rattle.gql_client_schema_laws.proofs.ValueRules.{required_alike}
use Rattle.gql_schema_types.specs.Entries.{entry, is_called}
use Rattle.gql_schema_types.specs.Types.{type_called, field_name}
use Rattle.gql_schema_types.specs.declared.types.ExtendedType.{ExtendedType}

unless_alike : {X : Type 0} (b c : Bool) (xs ys : List X) → b ≡ c → (xs ≡ [] → ys ≡ []) → (if b then [] else xs) ≡ [] → (if c then [] else ys) ≡ []
unless_alike true true xs ys same h none = refl
unless_alike true false xs ys same h none = absurd cc
unless_alike false true xs ys same h none = refl
unless_alike false false xs ys same h none = h none

none_is_one : {X : Type 0} (x y : X) → x ∷ [] ≡ [] → y ∷ [] ≡ []
none_is_one x y none = absurd cc

argument_found : (one other : List ℕ) (xs ys : List InputValueDefinition) → one ≡ other → Paired IsRetoldInput xs ys
    → Both IsRetoldInput (argument_called xs one) (argument_called ys other)
argument_found one other xs ys same pairs =
    find_alike IsRetoldInput (is_called argument_name one) (is_called argument_name other) (λ x y is. λ i. bytes_eq (same i) (is.name i)) xs ys pairs

-- an argument of the name came before
before_alike : (xs ys : List InputValueDefinition) → Paired IsRetoldInput xs ys → (x y : InputValueDefinition) → IsRetoldInput x y
    → is_some (argument_called xs x.name.text) ≡ is_some (argument_called ys y.name.text)
before_alike xs ys pairs x y same =
    some_alike IsRetoldInput (argument_called xs x.name.text) (argument_called ys y.name.text) (argument_found x.name.text y.name.text xs ys same.name pairs)

-- ---- further arguments

module _ (ty interface fresh again : Named) (wanted wanted_again field field_again : FieldDefinition) (arguments : Paired IsRetoldInput wanted.arguments wanted_again.arguments) where
  none_alike : (o p : Option InputValueDefinition) → Both IsRetoldInput o p → is_none o ≡ is_none p
  none_alike None None both = refl
  none_alike (Some x) (Some y) both = refl
  none_alike None (Some y) both = absurd both
  none_alike (Some x) None both = absurd both

  extra_alike : (x y : InputValueDefinition) → IsRetoldInput x y → is_extra wanted x ≡ is_extra wanted_again y
  extra_alike x y same =
      λ i. required_alike x y same i
      && none_alike (argument_called wanted.arguments x.name.text) (argument_called wanted_again.arguments y.name.text)
      (argument_found x.name.text y.name.text wanted.arguments wanted_again.arguments same.name arguments) i

  further_alike : (xs ys before earlier : List InputValueDefinition) → Paired IsRetoldInput xs ys → Paired IsRetoldInput before earlier
      → extra_after ty interface wanted field before xs ≡ [] → extra_after fresh again wanted_again field_again earlier ys ≡ []
  further_alike [] [] before earlier pairs came none = refl
  further_alike (x ∷ xs) (y ∷ ys) before earlier pairs came none =
      joined_alike (extra_argument_faults ty interface wanted field before x) (extra_after ty interface wanted field (before ++ x ∷ []) xs)
      (extra_argument_faults fresh again wanted_again field_again earlier y) (extra_after fresh again wanted_again field_again (earlier ++ y ∷ []) ys)
      (unless_alike (is_some (argument_called before x.name.text)) (is_some (argument_called earlier y.name.text))
      (extra_required_implementation_field_argument ty interface wanted field x) (extra_required_implementation_field_argument fresh again wanted_again field_again y)
      (before_alike before earlier came x y pairs.0) (only_alike (is_extra wanted x) (is_extra wanted_again y) _ _ (extra_alike x y pairs.0)))
      (further_alike xs ys (before ++ x ∷ []) (earlier ++ y ∷ []) pairs.1 (pairs_more IsRetoldInput before earlier x y came pairs.0)) none
  further_alike [] (y ∷ ys) before earlier pairs came none = absurd pairs
  further_alike (x ∷ xs) [] before earlier pairs came none = absurd pairs

module _ (types others : List ExtendedType) (pairs : Paired IsRetoldType types others) where
  are_known_alike : (a b c d : TypeRef) → unplaced a ≡ unplaced c → unplaced b ≡ unplaced d → are_known types a b ≡ are_known others c d
  are_known_alike a b c d one two =
      λ i. known_alike types others pairs (named_type a).text (named_type c).text (name_alike a c one) i
      && known_alike types others pairs (named_type b).text (named_type d).text (name_alike b d two) i

  module _ (ty interface fresh again : Named) where
    -- ---- wanted arguments

    argument_type_alike : (field field_again : FieldDefinition) (wanted wanted_again x y : InputValueDefinition) → IsRetoldInput wanted wanted_again → IsRetoldInput x y
        → invalid_implementation_field_argument_type types ty interface field wanted x ≡ [] → invalid_implementation_field_argument_type others fresh again field_again wanted_again y ≡ []
    argument_type_alike field field_again wanted wanted_again x y one two none =
        only_alike (are_known types wanted.ty x.ty && not (is_same_type wanted.ty x.ty)) (are_known others wanted_again.ty y.ty && not (is_same_type wanted_again.ty y.ty)) _ _
        (λ i. are_known_alike wanted.ty x.ty wanted_again.ty y.ty one.ty two.ty i && not (same_type_alike wanted.ty wanted_again.ty x.ty y.ty one.ty two.ty i)) none

    module _ (field field_again : FieldDefinition) (arguments : Paired IsRetoldInput field.arguments field_again.arguments) where
      wanted_alike : (xs ys before earlier : List InputValueDefinition) → Paired IsRetoldInput xs ys → Paired IsRetoldInput before earlier
          → wanted_after types ty interface field before xs ≡ [] → wanted_after others fresh again field_again earlier ys ≡ []
      wanted_alike [] [] before earlier all came none = refl
      wanted_alike (x ∷ xs) (y ∷ ys) before earlier all came none =
          joined_alike (wanted_argument_faults types ty interface field before x) (wanted_after types ty interface field (before ++ x ∷ []) xs)
          (wanted_argument_faults others fresh again field_again earlier y) (wanted_after others fresh again field_again (earlier ++ y ∷ []) ys)
          (unless_alike (is_some (argument_called before x.name.text)) (is_some (argument_called earlier y.name.text)) _ _ (before_alike before earlier came x y all.0)
          (told_alike IsRetoldInput (invalid_implementation_field_argument_type types ty interface field x) (invalid_implementation_field_argument_type others fresh again field_again y)
          (missing_interface_field_argument ty interface field x ∷ []) (missing_interface_field_argument fresh again field_again y ∷ [])
          (λ a b is. argument_type_alike field field_again x y a b all.0 is)
          (none_is_one (missing_interface_field_argument ty interface field x) (missing_interface_field_argument fresh again field_again y))
          (argument_called field.arguments x.name.text) (argument_called field_again.arguments y.name.text)
          (argument_found x.name.text y.name.text field.arguments field_again.arguments all.0.name arguments)))
          (wanted_alike xs ys (before ++ x ∷ []) (earlier ++ y ∷ []) all.1 (pairs_more IsRetoldInput before earlier x y came all.0)) none
      wanted_alike [] (y ∷ ys) before earlier all came none = absurd all
      wanted_alike (x ∷ xs) [] before earlier all came none = absurd all

    -- ---- fields

    field_type_alike : (wanted wanted_again field field_again : FieldDefinition) → IsRetoldField wanted wanted_again → IsRetoldField field field_again
        → invalid_implementation_field_type types ty interface wanted field ≡ [] → invalid_implementation_field_type others fresh again wanted_again field_again ≡ []
    field_type_alike wanted wanted_again field field_again one two none =
        only_alike (are_known types wanted.ty field.ty && not (is_subtype types wanted.ty field.ty)) (are_known others wanted_again.ty field_again.ty && not (is_subtype others wanted_again.ty field_again.ty)) _ _
        (λ i. are_known_alike wanted.ty field.ty wanted_again.ty field_again.ty one.ty two.ty i
        && not (subtype_alike types others (subname_alike types others pairs) wanted.ty wanted_again.ty field.ty field_again.ty one.ty two.ty i)) none

    both_alike : (wanted wanted_again field field_again : FieldDefinition) → IsRetoldField wanted wanted_again → IsRetoldField field field_again
        → both_faults types ty interface wanted field ≡ [] → both_faults others fresh again wanted_again field_again ≡ []
    both_alike wanted wanted_again field field_again one two =
        joined_alike (invalid_implementation_field_type types ty interface wanted field) (arguments_faults types ty interface wanted field)
        (invalid_implementation_field_type others fresh again wanted_again field_again) (arguments_faults others fresh again wanted_again field_again)
        (field_type_alike wanted wanted_again field field_again one two)
        (joined_alike (wanted_after types ty interface field [] wanted.arguments) (extra_after ty interface wanted field [] field.arguments)
        (wanted_after others fresh again field_again [] wanted_again.arguments) (extra_after fresh again wanted_again field_again [] field_again.arguments)
        (wanted_alike field field_again two.arguments wanted.arguments wanted_again.arguments [] [] one.arguments tt)
        (further_alike ty interface fresh again wanted wanted_again field field_again one.arguments field.arguments field_again.arguments [] [] two.arguments tt))

    module _ (fields fields_again : List FieldDefinition) (own : Paired IsRetoldField fields fields_again) where
      field_alike : (wanted wanted_again : FieldDefinition) → IsRetoldField wanted wanted_again
          → field_faults types ty interface fields wanted ≡ [] → field_faults others fresh again fields_again wanted_again ≡ []
      field_alike wanted wanted_again same =
          told_alike IsRetoldField (both_faults types ty interface wanted) (both_faults others fresh again wanted_again)
          (missing_interface_field ty interface wanted ∷ []) (missing_interface_field fresh again wanted_again ∷ [])
          (λ x y is. both_alike wanted wanted_again x y same is)
          (none_is_one (missing_interface_field ty interface wanted) (missing_interface_field fresh again wanted_again))
          (entry field_name wanted.name.text fields) (entry field_name wanted_again.name.text fields_again)
          (find_alike IsRetoldField (is_called field_name wanted.name.text) (is_called field_name wanted_again.name.text) (λ x y is. λ i. bytes_eq (same.name i) (is.name i)) fields fields_again own)

  -- ---- interfaces that interfaces list

  pairs_if : (b c : Bool) (xs ys : List Named) → b ≡ c → Paired IsRetoldName xs ys → Paired IsRetoldName (if b then xs else []) (if c then ys else [])
  pairs_if true true xs ys same names = names
  pairs_if false false xs ys same names = tt
  pairs_if true false xs ys same names = absurd cc
  pairs_if false true xs ys same names = absurd cc

  listed_by : (t u : ExtendedType) → IsRetoldType t u → Paired IsRetoldName (interfaces_of t) (interfaces_of u)
  listed_by =
      by_kind (λ t u. Paired IsRetoldName (interfaces_of t) (interfaces_of u)) (λ t u same. tt) (λ t u same. tt) (λ t u same. same.interfaces) (λ t u same. tt) (λ t u same. tt)
      (λ t u same. tt)

  listed_of : (o p : Option ExtendedType) → Both IsRetoldType o p → Paired IsRetoldName (option_map_or interfaces_of o []) (option_map_or interfaces_of p [])
  listed_of None None both = tt
  listed_of (Some t) (Some u) both = listed_by t u both
  listed_of None (Some u) both = absurd both
  listed_of (Some t) None both = absurd both

  interfaces_alike : (x y : Named) → IsRetoldName x y → Paired IsRetoldName (interfaces_by types x) (interfaces_by others y)
  interfaces_alike x y same =
      pairs_if (is_written x.location) (is_written y.location) (option_map_or interfaces_of (type_called x.text types) []) (option_map_or interfaces_of (type_called y.text others) []) same.place
      (listed_of (type_called x.text types) (type_called y.text others) (found_as types others pairs x.text y.text same.text))

  module _ (listed listed_again : List Named) (names : Paired IsRetoldName listed listed_again) where
    new_alike : (told : List (List ℕ)) (x y : Named) → IsRetoldName x y → is_new types listed told x ≡ is_new others listed_again told y
    new_alike told x y same =
        λ i. (known_alike types others pairs x.text y.text same.text i && not (called_alike x.text y.text listed listed_again same.text names i))
        && not (is_some (position (bytes_eq (same.text i)) told))

    with_alike : (told : List (List ℕ)) (x y : Named) → IsRetoldName x y → told_with types listed told x ≡ told_with others listed_again told y
    with_alike told x y same = λ i. if new_alike told x y same i then told ++ same.text i ∷ [] else told

    after_alike : (told : List (List ℕ)) (xs ys : List Named) → Paired IsRetoldName xs ys → told_after types listed told xs ≡ told_after others listed_again told ys
    after_alike told [] [] all = refl
    after_alike told (x ∷ xs) (y ∷ ys) all =
        after_alike (told_with types listed told x) xs ys all.1 ∙ ap (λ t. told_after others listed_again t ys) (with_alike told x y all.0)
    after_alike told [] (y ∷ ys) all = absurd all
    after_alike told (x ∷ xs) [] all = absurd all

    module _ (ty fresh : Named) where
      missing_alike : (told : List (List ℕ)) (xs ys : List Named) → Paired IsRetoldName xs ys → missing types ty listed told xs ≡ [] → missing others fresh listed_again told ys ≡ []
      missing_alike told [] [] all none = refl
      missing_alike told (x ∷ xs) (y ∷ ys) all none =
          joined_alike _ (missing types ty listed (told_with types listed told x) xs) _ (missing others fresh listed_again (told_with others listed_again told y) ys)
          (only_alike (is_new types listed told x) (is_new others listed_again told y) (must_implement ty x) (must_implement fresh y) (new_alike told x y all.0))
          (λ rest. ap (λ t. missing others fresh listed_again t ys) (sym (with_alike told x y all.0)) ∙ missing_alike (told_with types listed told x) xs ys all.1 rest) none
      missing_alike told [] (y ∷ ys) all none = absurd all
      missing_alike told (x ∷ xs) [] all none = absurd all

      missing_by_alike : (told : List (List ℕ)) (xs ys : List Named) → Paired IsRetoldName xs ys → missing_by types ty listed told xs ≡ [] → missing_by others fresh listed_again told ys ≡ []
      missing_by_alike told [] [] all none = refl
      missing_by_alike told (x ∷ xs) (y ∷ ys) all none =
          joined_alike (missing types ty listed told (interfaces_by types x)) (missing_by types ty listed (told_after types listed told (interfaces_by types x)) xs)
          (missing others fresh listed_again told (interfaces_by others y)) (missing_by others fresh listed_again (told_after others listed_again told (interfaces_by others y)) ys)
          (missing_alike told (interfaces_by types x) (interfaces_by others y) (interfaces_alike x y all.0))
          (λ rest. ap (λ t. missing_by others fresh listed_again t ys) (sym (after_alike told (interfaces_by types x) (interfaces_by others y) (interfaces_alike x y all.0)))
          ∙ missing_by_alike (told_after types listed told (interfaces_by types x)) xs ys all.1 rest) none
      missing_by_alike told [] (y ∷ ys) all none = absurd all
      missing_by_alike told (x ∷ xs) [] all none = absurd all

  -- ---- a type

  module _ (ty fresh : Named) (fields fields_again : List FieldDefinition) (own : Paired IsRetoldField fields fields_again) where
    implementation_alike : (t u : ExtendedType) → IsRetoldType t u → implementation_faults types ty fields t ≡ [] → implementation_faults others fresh fields_again u ≡ []
    implementation_alike =
        by_kind (λ t u. implementation_faults types ty fields t ≡ [] → implementation_faults others fresh fields_again u ≡ []) (λ t u same none. refl) (λ t u same none. refl)
        (λ t u same. flat_alike IsRetoldField (field_faults types ty t.name fields) (field_faults others fresh u.name fields_again)
        (field_alike ty t.name fresh u.name fields fields_again own) t.fields u.fields same.fields)
        (λ t u same none. refl) (λ t u same none. refl) (λ t u same none. refl)

    listed_alike : (x y : Named) → IsRetoldName x y → listed_faults types ty fields x ≡ [] → listed_faults others fresh fields_again y ≡ []
    listed_alike x y same =
        if_alike (is_written x.location) (is_written y.location) (option_map_or (implementation_faults types ty fields) (type_called x.text types) [])
        (option_map_or (implementation_faults others fresh fields_again) (type_called y.text others) []) same.place
        (told_alike IsRetoldType (implementation_faults types ty fields) (implementation_faults others fresh fields_again) [] [] implementation_alike (λ e. e)
        (type_called x.text types) (type_called y.text others) (found_as types others pairs x.text y.text same.text))

    implementations_alike : (xs ys : List Named) → Paired IsRetoldName xs ys → implementations_faults types ty fields xs ≡ [] → implementations_faults others fresh fields_again ys ≡ []
    implementations_alike xs ys names =
        joined_alike (flat_map (listed_faults types ty fields) xs) (transitive_implemented_interfaces types ty xs)
        (flat_map (listed_faults others fresh fields_again) ys) (transitive_implemented_interfaces others fresh ys)
        (flat_alike IsRetoldName (listed_faults types ty fields) (listed_faults others fresh fields_again) listed_alike xs ys names)
        (missing_by_alike xs ys names ty fresh [] xs ys names)

  pub interfaces_faults_alike : interfaces_faults types ≡ [] → interfaces_faults others ≡ []
  interfaces_faults_alike =
      flat_alike IsRetoldType (type_faults types) (type_faults others)
      (by_kind (λ t u. type_faults types t ≡ [] → type_faults others u ≡ []) (λ t u same none. refl)
      (λ t u same. implementations_alike t.name u.name t.fields u.fields same.fields t.implements_interfaces u.implements_interfaces same.interfaces)
      (λ t u same. implementations_alike t.name u.name t.fields u.fields same.fields t.implements_interfaces u.implements_interfaces same.interfaces)
      (λ t u same none. refl) (λ t u same none. refl) (λ t u same none. refl))
      types others pairs
