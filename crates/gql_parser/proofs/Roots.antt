-- The root types of a schema are object types, and stay so.
use Rattle.std.proofs.Common.{◌≡◌, ℕ, Bool, true, false, not, ◌&&◌, Option, Some, None, is_some, List, [], ◌∷◌, ◌++◌, refl, sym, ap, ◌∙◌, subst, arith}
use Rattle.std.specs.Prelude.{codes, option_to_list}
use Rattle.std.specs.List.{flat_map, list_all}
use Rattle.std.specs.Option.{option_map_or, option_and_then}
use Rattle.std.specs.Str.{bytes_eq}
use Rattle.std.proofs.lemmas.List.Sums.{AllPass-from_list_all}
use Rattle.std.proofs.lemmas.Slice.Eq.{bytes_eq-Decides}
use Rattle.gql_ast.specs.declared.document.Document.{Document}
use Rattle.gql_ast_base.specs.Names.{Named}
use Rattle.gql_ast_base.specs.declared.operation_type.OperationType.{OperationType}
use Rattle.gql_ast_base.specs.declared.operation_type.OperationType.TheVariants.{Query, Mutation, Subscription}
use Rattle.gql_ast.specs.declared.schema_definition.DirectiveLocation.TheVariants as at
use Rattle.gql_diag_messages.specs.declared.diagnostic_data.DiagnosticData.{DiagnosticData}
use Rattle.gql_rules_values.specs.Faults.{only_if, name_fault}
use Rattle.gql_diag_messages.specs.declared.rule.Rule.TheVariants.{UndefinedDefinition, RootOperationObjectType}
use Rattle.gql_rules_values.specs.Known.{is_known}
use Rattle.gql_rules_values.specs.declared.known.Defined.TheVariants.{TypesAndScalars}
use Rattle.gql_schema.specs.BuiltInSchema.{IsBuiltIn}
use Rattle.gql_schema.specs.Builders.{Taken, built}
use Rattle.gql_schema_build.specs.Considered.{considered}
use Rattle.gql_schema_build.specs.BuiltInScalarTypeRedefinition.{without_redefinitions}
use Rattle.gql_schema_build.specs.declared.built_in.BuiltIn.{BuiltIn}
use Rattle.gql_schema_build.specs.declared.type_system.TypeSystem.{TypeSystem}
use Rattle.gql_schema_rules.specs.Scalars.{built_in_scalars, validated}
use Rattle.gql_schema_rules.specs.SchemaFaults.{AreSchemaFaults, parts_faults}
use Rattle.gql_rules_values.specs.Directives.{directive_faults}
use Rattle.gql_schema_rules_parts.specs.InterfaceRules.{interfaces_faults}
use Rattle.gql_schema_rules_parts.specs.DuplicateRootOperationType.{duplicate_root_operation_type}
use Rattle.gql_schema_rules_parts.specs.QueryRootOperationType.{query_root_operation_type}
use Rattle.gql_schema_rules_parts.specs.ObjectTypes.{is_another_kind}
use Rattle.gql_schema_rules_parts.specs.RootOperationObjectType.{root_operation_object_type}
use Rattle.gql_schema_rules_parts.specs.UndefinedDefinition.{undefined_definition}
use Rattle.gql_schema_rules_parts.specs.SchemaRules.{root_name_faults, root_faults, roots_faults, schema_definition_faults, directive_definitions_faults}
use Rattle.gql_schema_rules_parts.specs.TypeRules.{types_faults}
use Rattle.gql_schema_types.specs.Implementers.{is_object}
use Rattle.gql_schema_types.specs.Schemas.{root_of, object_of}
use Rattle.gql_schema_types.specs.Types.{type_called, as_object}
use Rattle.gql_schema_types.specs.declared.schema.Schema.{Schema}
use Rattle.gql_schema_types.specs.declared.types.ExtendedType.{ExtendedType}
use Rattle.gql_schema_types.specs.declared.types.ExtendedType.TheVariants as type
use Rattle.gql_parser.specs.SchemaText.{SchemaText, AreDefinitions, all_of, its_given}
use Rattle.gql_parser.specs.Parsers.{its_file}
use Rattle.gql_parser.specs.BuiltInText.{is_scalar_of}
use Rattle.gql_parser.specs.Roots.{AreRootsObjects}
use Rattle.gql_parser.proofs.SchemaKept.{validated-kept}
use Rattle.gql_parser.proofs.Scalars.{scalar-no_object}

-- ---- lists of faults that are empty

front_empty : {X : Type 0} (xs ys : List X) → xs ++ ys ≡ [] → xs ≡ []
front_empty [] ys none = refl
front_empty (x ∷ xs) ys none = absurd cc

back_empty : {X : Type 0} (xs ys : List X) → xs ++ ys ≡ [] → ys ≡ []
back_empty [] ys none = none
back_empty (x ∷ xs) ys none = absurd cc

not_told : (b : Bool) (told : DiagnosticData) → only_if b told ≡ [] → b ≡ false
not_told true told none = absurd cc
not_told false told none = refl

-- ---- what the rule on root types leaves

object_there : (o : Option ExtendedType) (known : Bool) → known ≡ true → (known && not (option_map_or is_object o false)) ≡ false
    → is_some (option_and_then as_object o) ≡ true
object_there o false known none = absurd cc
object_there None true known none = absurd cc
object_there (Some (type.Object it)) true known none = refl
object_there (Some (type.Scalar it)) true known none = absurd cc
object_there (Some (type.Interface it)) true known none = absurd cc
object_there (Some (type.Union it)) true known none = absurd cc
object_there (Some (type.Enum it)) true known none = absurd cc
object_there (Some (type.InputObject it)) true known none = absurd cc

not_false : (b : Bool) → not b ≡ false → b ≡ true
not_false true none = refl
not_false false none = absurd cc

named_object : (schema : Schema) (root : Named) → root_name_faults schema root ≡ [] → is_some (object_of schema root.text) ≡ true
named_object schema root none =
    let U = undefined_definition schema.types root in
    let O = root_operation_object_type schema.types root in
    let undefined = not_told (not (is_known schema.types root.text)) (name_fault UndefinedDefinition root) (front_empty U O none) in
    let another = not_told (is_another_kind schema.types root.text) (name_fault RootOperationObjectType root) (back_empty U O none) in
    object_there (type_called root.text schema.types) (is_known schema.types root.text) (not_false (is_known schema.types root.text) undefined) another

root_object : (schema : Schema) (o : Option Named) (root : Named) → flat_map (root_name_faults schema) (option_to_list o) ≡ [] → o ≡ Some root
    → is_some (object_of schema root.text) ≡ true
root_object schema None root none is = absurd cc
root_object schema (Some other) root none is =
    named_object schema root (subst (λ r. root_name_faults schema r ≡ []) (let e : other ≡ root = cc in e) (front_empty (root_name_faults schema other) [] none))

no_root_faults : (schema : Schema) → AreSchemaFaults schema [] → roots_faults schema ≡ []
no_root_faults schema holds =
    let S = schema_definition_faults schema in
    let D = directive_definitions_faults schema in
    let T = types_faults schema in
    let I = interfaces_faults schema.types in
    let of_chains : ((parts_faults schema ++ holds.interfaces) ++ holds.input_objects) ++ holds.directives ≡ [] = sym holds.whole in
    let of_parts : parts_faults schema ≡ [] =
    front_empty (parts_faults schema) holds.interfaces (front_empty (parts_faults schema ++ holds.interfaces) holds.input_objects
    (front_empty ((parts_faults schema ++ holds.interfaces) ++ holds.input_objects) holds.directives of_chains)) in
    let of_schema : S ≡ [] = front_empty S D (front_empty (S ++ D) T (front_empty ((S ++ D) ++ T) I of_parts)) in
    let A = directive_faults TypesAndScalars schema.types at.Schema schema.directive_definitions schema.schema_definition.directives in
    let Q = query_root_operation_type schema.schema_definition in
    let R = roots_faults schema in
    let U = duplicate_root_operation_type schema.types schema.schema_definition in
    front_empty R U (back_empty Q (R ++ U) (back_empty A (Q ++ (R ++ U)) of_schema))

each_root : (schema : Schema) → roots_faults schema ≡ [] → (operation_type : OperationType) → root_faults schema operation_type ≡ []
each_root schema none Query = front_empty (root_faults schema Query) (root_faults schema Mutation ++ root_faults schema Subscription) none
each_root schema none Mutation =
    front_empty (root_faults schema Mutation) (root_faults schema Subscription)
    (back_empty (root_faults schema Query) (root_faults schema Mutation ++ root_faults schema Subscription) none)
each_root schema none Subscription =
    back_empty (root_faults schema Mutation) (root_faults schema Subscription)
    (back_empty (root_faults schema Query) (root_faults schema Mutation ++ root_faults schema Subscription) none)

pub by_rules : (schema : Schema) → AreSchemaFaults schema [] → AreRootsObjects schema
by_rules schema holds operation_type root is =
    root_object schema (root_of operation_type schema.schema_definition) root (each_root schema (no_root_faults schema holds) operation_type) is

-- ---- and they are object types still where the built-in scalars are settled

abbrev pub ScalarsLaw : Type 0
ScalarsLaw = (built_in : BuiltIn) → IsBuiltIn built_in → list_all (is_scalar_of built_in) built_in_scalars ≡ true

-- the name of a built-in scalar is that of no object type
no_object_of : (text : List ℕ) (taken : Taken) (d : AreDefinitions text taken) (name : List ℕ) → is_scalar_of d.built_in name ≡ true → object_of (built taken) name ≡ None
no_object_of text taken d name scalar =
    let given : Document = record { sources = its_file (its_given text); definitions = d.definitions } in
    let user : TypeSystem = (all_of d.built_in given).user in
    ap (λ (t : Taken). object_of (built t) name) d.all
    ∙ scalar-no_object user.type_extensions name d.built_in.types (without_redefinitions d.built_in.types (considered false d.built_in.types user.types)) scalar

module _ (schema : Schema) (name : List ℕ) (object : is_some (object_of schema name) ≡ true) where
  apart : (n : List ℕ) → object_of schema n ≡ None → bytes_eq name n ≡ false
  apart n none = by_test (bytes_eq name n) refl
    where
      by_test : (b : Bool) → bytes_eq name n ≡ b → bytes_eq name n ≡ false
      by_test false is = is
      by_test true is =
          let same : name ≡ n = (bytes_eq-Decides name n).0 is in
          let gone : false ≡ true = ap is_some (sym (ap (object_of schema) same ∙ none)) ∙ object in
          absurd cc

  kept : bytes_eq name (codes "Int") ≡ false → bytes_eq name (codes "Float") ≡ false → bytes_eq name (codes "ID") ≡ false
      → is_some (object_of (validated schema) name) ≡ true
  kept int float id = by_type (type_called name schema.types) refl object
    where
      by_type : (o : Option ExtendedType) → type_called name schema.types ≡ o → is_some (option_and_then as_object o) ≡ true
          → is_some (object_of (validated schema) name) ≡ true
      by_type None is there = absurd cc
      by_type (Some t) is there =
          ap (λ o. is_some (option_and_then as_object o)) (validated-kept schema.directive_definitions name t schema.types int float id is) ∙ there

-- an object type has another name than each built-in scalar
apart_of : (text : List ℕ) (taken : Taken) (d : AreDefinitions text taken) (name : List ℕ) → is_some (object_of (built taken) name) ≡ true
    → (n : List ℕ) → is_scalar_of d.built_in n ≡ true → bytes_eq name n ≡ false
apart_of text taken d name object n scalar = apart (built taken) name object n (no_object_of text taken d n scalar)

pub by_text : ScalarsLaw → (text : List ℕ) (schema : Schema) → SchemaText text schema → AreRootsObjects schema
by_text law text schema h operation_type root is =
    let was : root_of operation_type (built h.taken).schema_definition ≡ Some root = ap (λ (s : Schema). root_of operation_type s.schema_definition) (sym h.settled) ∙ is in
    let object = by_rules (built h.taken) h.holds operation_type root was in
    let scalar = AllPass-from_list_all (is_scalar_of h.definitions.built_in) built_in_scalars (law h.definitions.built_in h.definitions.are_built_in) in
    let other = apart_of text h.taken h.definitions root.text object in
    subst (λ (s : Schema). is_some (object_of s root.text) ≡ true) (sym h.settled)
    (kept (built h.taken) root.text object
    (other (codes "Int") (scalar 0 [] (omega arith))) (other (codes "Float") (scalar 1 [] (omega arith))) (other (codes "ID") (scalar 4 [] (omega arith))))
