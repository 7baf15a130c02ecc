-- Where no root is wrong in a schema, none is in another of which the same is shown.
use Rattle.std.proofs.Common.{◌≡◌, ℕ, Bool, true, false, not, Option, Some, None, List, [], ◌++◌, refl, sym, ap, ◌∙◌}
use Rattle.std.specs.Prelude.{option_to_list, is_none}
use Rattle.std.specs.List.{flat_map}
use Rattle.std.specs.Option.{option_map}
use Rattle.gql_ast_base.specs.Names.{Named}
use Rattle.gql_ast_base.specs.declared.operation_type.OperationType.TheVariants.{Query, Mutation, Subscription}
use Rattle.gql_ast_laws.specs.Printed.{from_nowhere}
use Rattle.gql_client_schema_laws.specs.Alike.{FindAlike}
use Rattle.gql_client_schema_laws.specs.Shown.{Shows}
use Rattle.gql_client_schema_laws.proofs.LookUps.{found_alike}
use Rattle.gql_diag_messages.specs.declared.diagnostic_data.DiagnosticData.{DiagnosticData}
use Rattle.gql_diag_messages.specs.declared.rule.Rule.TheVariants as rule
use Rattle.gql_schema_rules_parts.specs.ObjectTypes.{is_another_kind}
use Rattle.gql_schema_rules_parts.specs.QueryRootOperationType.{query_root_operation_type}
use Rattle.gql_schema_rules_parts.specs.RootOperationObjectType.{root_operation_object_type}
use Rattle.gql_schema_rules_parts.specs.SchemaRules.{root_name_faults, root_faults, roots_faults}
use Rattle.gql_schema_rules_parts.specs.UndefinedDefinition.{undefined_definition}
use Rattle.gql_rules_values.specs.Faults.{fault, name_fault, only_if}
use Rattle.gql_rules_values.specs.Known.{is_known}
use Rattle.gql_client_schema_laws.proofs.Pairs.{empty_left, empty_right}
use Rattle.gql_schema_types.specs.declared.schema.Schema.{Schema}
use Rattle.gql_sdl.specs.declared.shown.ShownSchema.{ShownSchema}

not_told : (b : Bool) (told : DiagnosticData) → only_if b told ≡ [] → b ≡ false
not_told true told none = absurd cc
not_told false told none = refl

two_empty : (xs ys : List DiagnosticData) → xs ≡ [] → ys ≡ [] → xs ++ ys ≡ []
two_empty xs ys one two = ap (λ l. l ++ ys) one ∙ two

module _ (schema other : Schema) (shown : ShownSchema) (one : Shows schema shown) (two : Shows other shown) where
  name_right : (name again : Named) → name.text ≡ again.text → root_name_faults schema name ≡ [] → root_name_faults other again ≡ []
  name_right name again same none =
      let alike : FindAlike schema.types other.types name.text = found_alike schema other shown one two name.text in
      let left : undefined_definition schema.types name ≡ [] = empty_left _ (root_operation_object_type schema.types name) none in
      let right : root_operation_object_type schema.types name ≡ [] = empty_right (undefined_definition schema.types name) _ none in
      let known : not (is_known other.types again.text) ≡ false =
      ap (λ n. not (is_known other.types n)) (sym same) ∙ ap not (sym alike.known) ∙ not_told _ (name_fault rule.UndefinedDefinition name) left in
      let object : is_another_kind other.types again.text ≡ false =
      ap (is_another_kind other.types) (sym same) ∙ sym alike.another_kind ∙ not_told _ (name_fault rule.RootOperationObjectType name) right in
      two_empty (undefined_definition other.types again) (root_operation_object_type other.types again)
      (ap (λ b. only_if b (name_fault rule.UndefinedDefinition again)) known) (ap (λ b. only_if b (name_fault rule.RootOperationObjectType again)) object)

  root_right : (root again : Option Named) → option_map from_nowhere root ≡ option_map from_nowhere again
      → flat_map (root_name_faults schema) (option_to_list root) ≡ [] → flat_map (root_name_faults other) (option_to_list again) ≡ []
  root_right root None same none = refl
  root_right None (Some name) same none = absurd cc
  root_right (Some name) (Some again) same none =
      two_empty (root_name_faults other again) [] (name_right name again (ap text_of same) (empty_left (root_name_faults schema name) [] none)) refl
    where
      text_of : Option Named → List ℕ
      text_of None = []
      text_of (Some n) = n.text

  same_query : option_map from_nowhere schema.schema_definition.query ≡ option_map from_nowhere other.schema_definition.query
  same_query = sym one.query ∙ two.query

  same_mutation : option_map from_nowhere schema.schema_definition.mutation ≡ option_map from_nowhere other.schema_definition.mutation
  same_mutation = sym one.mutation ∙ two.mutation

  same_subscription : option_map from_nowhere schema.schema_definition.subscription ≡ option_map from_nowhere other.schema_definition.subscription
  same_subscription = sym one.subscription ∙ two.subscription

  pub roots_right : roots_faults schema ≡ [] → roots_faults other ≡ []
  roots_right none =
      let query = empty_left (root_faults schema Query) (root_faults schema Mutation ++ root_faults schema Subscription) none in
      let later = empty_right (root_faults schema Query) (root_faults schema Mutation ++ root_faults schema Subscription) none in
      two_empty (root_faults other Query) (root_faults other Mutation ++ root_faults other Subscription)
      (root_right schema.schema_definition.query other.schema_definition.query same_query query)
      (two_empty (root_faults other Mutation) (root_faults other Subscription)
      (root_right schema.schema_definition.mutation other.schema_definition.mutation same_mutation
      (empty_left (root_faults schema Mutation) (root_faults schema Subscription) later))
      (root_right schema.schema_definition.subscription other.schema_definition.subscription same_subscription
      (empty_right (root_faults schema Mutation) (root_faults schema Subscription) later)))

-- a schema of which a root of queries is shown has one
pub has_query : (schema : Schema) (shown : ShownSchema) → Shows schema shown → query_root_operation_type schema.schema_definition ≡ []
has_query schema shown shows = by_root schema.schema_definition.query shows.query
  where
    by_root : (root : Option Named) → Some shown.query ≡ option_map from_nowhere root → only_if (is_none root) (fault rule.QueryRootOperationType [] None None) ≡ []
    by_root None is = absurd cc
    by_root (Some name) is = refl
