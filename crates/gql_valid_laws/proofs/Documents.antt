-- The variables of a validated document are of input types.
use Rattle.std.proofs.Common.{◌≡◌, true, false, not, Option, Some, None, is_some, List, [], ◌∷◌, ◌++◌, flat_map, All, refl, sym, ap, ◌∙◌}
use Rattle.std.specs.Option.{option_map_or}
use Rattle.std.proofs.lemmas.List.Elements.{All-cons, All-nil, All-weaker}
use Rattle.gql_ast.specs.declared.schema_definition.DirectiveLocation.TheVariants as at
use Rattle.gql_ast.specs.declared.operation.VariableDefinition.{VariableDefinition}
use Rattle.gql_diag_messages.specs.declared.diagnostic_data.DiagnosticData.{DiagnosticData}
use Rattle.gql_diag_messages.specs.declared.rule.Rule.TheVariants.{UndefinedDefinition}
use Rattle.gql_document_types.specs.declared.document.ExecutableDocument.{ExecutableDocument}
use Rattle.gql_document_types.specs.declared.operation.Operation.{Operation}
use Rattle.gql_rules.specs.DocumentFaults.{AreDocumentFaults, AreFirstOrAll, AreOtherFaults}
use Rattle.gql_rules_values.specs.Faults.{name_fault}
use Rattle.gql_rules_values.specs.Known.{is_defined}
use Rattle.gql_ast_base.specs.TypeParts.{named_type}
use Rattle.gql_rules_values.specs.declared.known.Defined.TheVariants.{Types}
use Rattle.gql_rules_nodes.specs.Composite.{is_composite_name}
use Rattle.gql_rules_nodes.specs.DocumentNodes.{operation_location, directives_at, node_faults, document_nodes_faults}
use Rattle.gql_rules_nodes.specs.UniqueVariable.{unique_variable}
use Rattle.gql_rules_nodes.specs.VariableInputType.{output_type, variable_input_type}
use Rattle.gql_rules_nodes.specs.VariableType.{undefined_variable_type}
use Rattle.gql_rules_nodes.specs.Variables.{default_faults, type_faults, variable_faults, variables_faults}
use Rattle.gql_rules_nodes.specs.Nodes.{Node, operation_at, operation_nodes, fragment_nodes, set_nodes}
use Rattle.gql_rules_values.specs.Directives.{directive_faults}
use Rattle.gql_schema_types.specs.Types.{type_called, is_composite}
use Rattle.gql_schema_types.specs.declared.schema.Schema.{Schema}
use Rattle.gql_schema_types.specs.declared.types.ExtendedType.{ExtendedType}
use Rattle.gql_valid_laws.specs.Inputs.{is_input, is_input_type}
use Rattle.gql_parser.proofs.Kept.{back_empty, front_empty}
use Rattle.gql_valid_laws.proofs.Empty.{not_told, not_false, each_empty}

-- ---- the rules on single nodes find nothing

no_node_fault : (schema : Schema) (document : ExecutableDocument) → AreDocumentFaults schema document [] → document_nodes_faults schema document ≡ []
no_node_fault schema document are = by_spreads are.spreads are.whole
  where
    by_spreads : (spreads : List DiagnosticData) → AreFirstOrAll (AreOtherFaults schema document) spreads [] → document_nodes_faults schema document ≡ []
    by_spreads [] whole =
        let others : AreOtherFaults schema document [] = whole in
        let N = document_nodes_faults schema document in
        let U = others.unused in
        let V = others.variables in
        front_empty N U (front_empty (N ++ U) V (front_empty ((N ++ U) ++ V) others.conflicts (sym others.whole)))
    by_spreads (first ∷ firsts) whole = let none : [] ≡ first ∷ firsts = whole in absurd cc

joined_thrice : {Y : Type 0} (xs ys zs : List Y) → (xs ++ ys) ++ zs ≡ xs ++ (ys ++ zs)
joined_thrice [] ys zs = refl
joined_thrice (x ∷ xs) ys zs = ap (λ l. x ∷ l) (joined_thrice xs ys zs)

flat_append : {X Y : Type 0} (f : X → List Y) (xs ys : List X) → flat_map f (xs ++ ys) ≡ flat_map f xs ++ flat_map f ys
flat_append f [] ys = refl
flat_append f (x ∷ xs) ys = ap (λ l. f x ++ l) (flat_append f xs ys) ∙ sym (joined_thrice (f x) (flat_map f xs) (flat_map f ys))

module _ (told : Node → List DiagnosticData) where
  abbrev IsQuiet : Operation → Type 0
  IsQuiet it = told (operation_at it) ≡ []

  operations_told : (operations : List Operation) → flat_map told (flat_map operation_nodes operations) ≡ [] → All IsQuiet operations
  operations_told [] none = All-nil IsQuiet
  operations_told (it ∷ operations) none =
      let split = sym (flat_append told (operation_nodes it) (flat_map operation_nodes operations)) ∙ none in
      let here = front_empty (flat_map told (operation_nodes it)) (flat_map told (flat_map operation_nodes operations)) split in
      All-cons IsQuiet it operations (front_empty (told (operation_at it)) (flat_map told (set_nodes it.selection_set)) here)
      (operations_told operations (back_empty (flat_map told (operation_nodes it)) (flat_map told (flat_map operation_nodes operations)) split))

-- ---- so each variable is of an input type

is_input-of : (found : Option ExtendedType) → is_some found ≡ true → option_map_or is_composite found false ≡ false → is_input found ≡ true
is_input-of None defined single = defined
is_input-of (Some ty) defined single = ap not single

variable-typed : (schema : Schema) (variable : VariableDefinition) → variable_faults schema variable ≡ [] → is_input_type schema.types variable.ty ≡ true
variable-typed schema variable none =
    let types = schema.types in
    let name = named_type variable.ty in
    let T = type_faults schema variable in
    let R = default_faults schema variable ++ directive_faults Types schema.types at.VariableDefinition schema.directive_definitions variable.directives in
    let of_type : T ≡ [] = front_empty T R none in
    let undefined = not_told (not (is_defined Types types name.text)) (name_fault UndefinedDefinition name) (front_empty (undefined_variable_type types variable) (variable_input_type types variable) of_type) in
    let output = not_told (is_composite_name types name.text) (output_type variable) (back_empty (undefined_variable_type types variable) (variable_input_type types variable) of_type) in
    is_input-of (type_called name.text types) (not_false (is_defined Types types name.text) undefined) output

pub variables-typed : (schema : Schema) (document : ExecutableDocument) → AreDocumentFaults schema document []
    → All (λ (it : Operation). All (λ (variable : VariableDefinition). is_input_type schema.types variable.ty ≡ true) it.variables) document.operations
variables-typed schema document are =
    let told = node_faults schema document.fragments in
    let nodes = no_node_fault schema document are in
    let of_operations =
    front_empty (flat_map told (flat_map operation_nodes document.operations)) (flat_map told (flat_map fragment_nodes document.fragments))
    (sym (flat_append told (flat_map operation_nodes document.operations) (flat_map fragment_nodes document.fragments)) ∙ nodes) in
    All-weaker (λ (it : Operation). told (operation_at it) ≡ []) (λ (it : Operation). All (λ (variable : VariableDefinition). is_input_type schema.types variable.ty ≡ true) it.variables)
    (λ it none.
    let D = directives_at schema (operation_location it.operation_type) it.directives in
    let of_variables : variables_faults schema it.variables ≡ [] = back_empty D (variables_faults schema it.variables) none in
    All-weaker (λ (variable : VariableDefinition). variable_faults schema variable ≡ []) (λ (variable : VariableDefinition). is_input_type schema.types variable.ty ≡ true) (variable-typed schema) it.variables
    (each_empty (variable_faults schema) it.variables (back_empty (unique_variable it.variables) (flat_map (variable_faults schema) it.variables) of_variables)))
    document.operations (operations_told told document.operations of_operations)
