-- Where no rule finds a fault in a schema, none finds one in another of which the same is shown.
use Rattle.std.proofs.Common.{◌≡◌, List, [], ◌++◌, sym, ap, ◌∙◌}
use Rattle.gql_ast.specs.declared.schema_definition.DirectiveLocation.TheVariants as at
use Rattle.gql_client_schema_laws.specs.AsPrinted.{UsesAsPrinted, AreConstantDefaults}
use Rattle.gql_client_schema_laws.specs.Shown.{Shows}
use Rattle.gql_client_schema_laws.specs.Throughout.{IsPlacedThroughout}
use Rattle.gql_client_schema_laws.proofs.Duplicates.{none_doubled_again}
use Rattle.gql_client_schema_laws.proofs.Retold.{ReadsLaw, AloneLaw, retold}
use Rattle.gql_client_schema_laws.proofs.RootRules.{has_query, roots_right}
use Rattle.gql_diag_messages.specs.declared.diagnostic_data.DiagnosticData.{DiagnosticData}
use Rattle.gql_schema_rules_parts.specs.DuplicateRootOperationType.{duplicate_root_operation_type}
use Rattle.gql_schema_rules_parts.specs.InterfaceRules.{interfaces_faults}
use Rattle.gql_schema_rules_parts.specs.QueryRootOperationType.{query_root_operation_type}
use Rattle.gql_schema_rules_parts.specs.SchemaRules.{roots_faults, schema_definition_faults, directive_definitions_faults}
use Rattle.gql_schema_rules_parts.specs.TypeRules.{types_faults}
use Rattle.gql_rules_values.specs.Directives.{directive_faults}
use Rattle.gql_rules_values.specs.declared.known.Defined.TheVariants.{TypesAndScalars}
use Rattle.gql_client_schema_laws.proofs.Pairs.{empty_left, empty_right}
use Rattle.gql_client_schema_laws.specs.Retold.{IsRetold}
use Rattle.gql_client_schema_laws.specs.Standard.{HasStandard}
use Rattle.gql_schema_rules.specs.RecursiveDirectiveDefinition.{AreRecursiveDirectives}
use Rattle.gql_schema_rules.specs.RecursiveInputObjectDefinition.{AreRecursiveInputObjects}
use Rattle.gql_schema_rules.specs.RecursiveInterfaceDefinition.{AreRecursiveInterfaces}
use Rattle.gql_schema_rules.specs.SchemaFaults.{parts_faults, AreSchemaFaults}
use Rattle.gql_schema_types.specs.declared.schema.Schema.{Schema}
use Rattle.gql_sdl.specs.declared.shown.ShownSchema.{ShownSchema}

two_empty : (xs ys : List DiagnosticData) → xs ≡ [] → ys ≡ [] → xs ++ ys ≡ []
two_empty xs ys one two = ap (λ l. l ++ ys) one ∙ two

-- what is known of schemas that tell each other again
pub record RetoldLaws : Type 0 where
  pub reads : ReadsLaw
  pub alone : AloneLaw
  pub types : (schema again : Schema) → IsRetold schema again → HasStandard again → types_faults schema ≡ [] → types_faults again ≡ []
  pub definitions : (schema again : Schema) → IsRetold schema again → HasStandard again → directive_definitions_faults schema ≡ [] → directive_definitions_faults again ≡ []
  pub uses : (schema again : Schema) → IsRetold schema again → HasStandard again
      → directive_faults TypesAndScalars again.types at.Schema again.directive_definitions again.schema_definition.directives ≡ []
  pub implemented : (schema again : Schema) → IsRetold schema again → interfaces_faults schema.types ≡ [] → interfaces_faults again.types ≡ []
  pub interfaces : (schema again : Schema) (told told_again : List DiagnosticData) → IsRetold schema again
      → AreRecursiveInterfaces schema.types told → AreRecursiveInterfaces again.types told_again → told ≡ [] → told_again ≡ []
  pub input_objects : (schema again : Schema) (told told_again : List DiagnosticData) → IsRetold schema again
      → AreRecursiveInputObjects schema.types told → AreRecursiveInputObjects again.types told_again → told ≡ [] → told_again ≡ []
  pub directives : (schema again : Schema) (told : List DiagnosticData) → IsRetold schema again → HasStandard again
      → AreRecursiveDirectives again.directive_definitions again.types told → told ≡ []

module _ (laws : RetoldLaws) (schema other : Schema) (shown : ShownSchema) (one : Shows schema shown) (two : Shows other shown) (standard : HasStandard other) (again : IsRetold schema other) where
  abbrev definition : Schema → List DiagnosticData
  definition s = schema_definition_faults s

  schema_right : definition schema ≡ [] → definition other ≡ []
  schema_right none =
      let later : query_root_operation_type schema.schema_definition ++ (roots_faults schema ++ duplicate_root_operation_type schema.types schema.schema_definition) ≡ [] =
      empty_right (directive_faults TypesAndScalars schema.types at.Schema schema.directive_definitions schema.schema_definition.directives) _ none in
      let roots : roots_faults schema ++ duplicate_root_operation_type schema.types schema.schema_definition ≡ [] = empty_right (query_root_operation_type schema.schema_definition) _ later in
      two_empty (directive_faults TypesAndScalars other.types at.Schema other.directive_definitions other.schema_definition.directives) _ (laws.uses schema other again standard)
      (two_empty (query_root_operation_type other.schema_definition) _ (has_query other shown two)
      (two_empty (roots_faults other) (duplicate_root_operation_type other.types other.schema_definition)
      (roots_right schema other shown one two (empty_left (roots_faults schema) _ roots))
      (none_doubled_again schema other shown one two (empty_right (roots_faults schema) _ roots))))

  parts_right : parts_faults schema ≡ [] → parts_faults other ≡ []
  parts_right none =
      let front : (schema_definition_faults schema ++ directive_definitions_faults schema) ++ types_faults schema ≡ [] =
      empty_left ((schema_definition_faults schema ++ directive_definitions_faults schema) ++ types_faults schema) (interfaces_faults schema.types) none in
      let first : schema_definition_faults schema ++ directive_definitions_faults schema ≡ [] = empty_left (schema_definition_faults schema ++ directive_definitions_faults schema) (types_faults schema) front in
      two_empty ((schema_definition_faults other ++ directive_definitions_faults other) ++ types_faults other) (interfaces_faults other.types)
      (two_empty (schema_definition_faults other ++ directive_definitions_faults other) (types_faults other)
      (two_empty (schema_definition_faults other) (directive_definitions_faults other) (schema_right (empty_left (schema_definition_faults schema) (directive_definitions_faults schema) first))
      (laws.definitions schema other again standard (empty_right (schema_definition_faults schema) (directive_definitions_faults schema) first)))
      (laws.types schema other again standard (empty_right (schema_definition_faults schema ++ directive_definitions_faults schema) (types_faults schema) front)))
      (laws.implemented schema other again
      (empty_right ((schema_definition_faults schema ++ directive_definitions_faults schema) ++ types_faults schema) (interfaces_faults schema.types) none))

  all_right : (faults told : List DiagnosticData) → AreSchemaFaults schema faults → AreSchemaFaults other told → faults ≡ [] → told ≡ []
  all_right faults told are too none =
      let whole : ((parts_faults schema ++ are.interfaces) ++ are.input_objects) ++ are.directives ≡ [] = sym are.whole ∙ none in
      let front : (parts_faults schema ++ are.interfaces) ++ are.input_objects ≡ [] = empty_left ((parts_faults schema ++ are.interfaces) ++ are.input_objects) are.directives whole in
      let first : parts_faults schema ++ are.interfaces ≡ [] = empty_left (parts_faults schema ++ are.interfaces) are.input_objects front in
      too.whole
      ∙ two_empty ((parts_faults other ++ too.interfaces) ++ too.input_objects) too.directives
      (two_empty (parts_faults other ++ too.interfaces) too.input_objects
      (two_empty (parts_faults other) too.interfaces (parts_right (empty_left (parts_faults schema) are.interfaces first))
      (laws.interfaces schema other are.interfaces too.interfaces again are.are_interfaces too.are_interfaces (empty_right (parts_faults schema) are.interfaces first)))
      (laws.input_objects schema other are.input_objects too.input_objects again are.are_input_objects too.are_input_objects
      (empty_right (parts_faults schema ++ are.interfaces) are.input_objects front)))
      (laws.directives schema other too.directives again standard too.are_directives)

pub valid_again : RetoldLaws → (schema other : Schema) (shown : ShownSchema) → Shows schema shown → Shows other shown → IsPlacedThroughout schema → IsPlacedThroughout other
    → AreConstantDefaults schema → AreConstantDefaults other → UsesAsPrinted other → HasStandard other
    → (faults told : List DiagnosticData) → AreSchemaFaults schema faults → AreSchemaFaults other told → faults ≡ [] → told ≡ []
valid_again laws schema other shown one two here there constants constants_too uses standard faults told are too none =
    all_right laws schema other shown one two standard
    (retold laws.reads laws.alone schema other shown one two here there constants constants_too uses) faults told are too none
