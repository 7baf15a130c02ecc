-- Where each variable and each input field can be coerced, no fault is marked.
use Rattle.std.proofs.Common.{◌≡◌, ℕ, zero, suc, List, [], ◌∷◌, map, Option, Some, None, Bool, true, false, not, if◌then◌else◌, Ok, Err, All, refl, ap, ◌∙◌}
use Rattle.std.specs.Str.{bytes_eq}
use Rattle.std.specs.Map.{lookup, keys_of}
use Rattle.std.proofs.lemmas.List.Elements.{All-head, All-tail, All-weaker}
use Rattle.jb_tree.specs.declared.value.Value.{Value, Null, Array, Object, out-Value, size-Value}
use Rattle.jb_tree.specs.declared.value.Value.TheOpen.{Value-F}
use Rattle.gql_ast_base.specs.Names.{Named}
use Rattle.gql_ast_base.specs.declared.type_ref.TypeRef.{TypeRef}
use Rattle.gql_ast_base.specs.declared.value.Value.{Value as Literal}
use Rattle.gql_ast.specs.declared.field_definition.InputValueDefinition.{InputValueDefinition}
use Rattle.gql_ast.specs.declared.operation.VariableDefinition.{VariableDefinition}
use Rattle.gql_schema_types.specs.Types.{type_called}
use Rattle.gql_schema_types.specs.declared.types.ExtendedType.{ExtendedType}
use Rattle.gql_schema_types.specs.declared.types.ExtendedType.TheVariants as type
use Rattle.gql_schema_types.specs.declared.types.InputObjectType.{InputObjectType}
use Rattle.gql_coerce.specs.declared.fault.CoercionFault.{CoercionFault}
use Rattle.gql_coerce.specs.Outcome.{Outcome, mapped, and_then, all_of}
use Rattle.gql_coerce.specs.Faults.{fault, fault_at}
use Rattle.gql_coerce.specs.Filled.{Members, with_value, filled, not_given}
use Rattle.gql_coerce.specs.InputTypes.{input_object_called, field_name}
use Rattle.gql_coerce.specs.Messages.{missing_field, missing_variable}
use Rattle.gql_coerce.specs.Subject.{field_words, variable_words, default_words}
use Rattle.gql_ast_base.specs.TypeParts.{named_type, is_non_null, item_type}
use Rattle.gql_coerce.specs.Wrapped.{wrap}
use Rattle.gql_coerce.specs.Scalars.{scalar_takes, enum_takes}
use Rattle.gql_coerce.specs.Translation.{translated}
use Rattle.gql_coerce.specs.InputValue.{Coercion, misfit, refused_or, places, taken, at_definition, field_given, field_value, input_object, object_at, leaf, object, array, level, within, coerced}
use Rattle.gql_coerce.specs.Variables.{variable_name, variable_given, variable_value, coerced_variables}
use Rattle.gql_coerce.proofs.TypeParts.{innermost-item}
use Rattle.gql_ast_laws.specs.Constants.{is_constant_default}
use Rattle.gql_valid_laws.specs.Inputs.{is_input, is_input_type, IsInput, IsInputField, IsInputVariable, AreInputFields}
use Rattle.gql_valid_laws.specs.Unmarked.{IsUnmarked}
use Rattle.gql_valid_laws.proofs.Literals.{mapped-unmarked, and_then-unmarked, all_of-unmarked, constant-unmarked}

-- ---- maps that are made of definitions

module _ {D : Type 0} (value : D → Outcome (Option Value)) (name : D → List ℕ) where
  filled-unmarked : (definitions : List D) (members : Members) → All (λ (x : D). IsUnmarked (value x)) definitions → IsUnmarked (filled value name members definitions)
  filled-unmarked [] members all = tt
  filled-unmarked (x ∷ definitions) members all =
      and_then-unmarked (value x) (λ found. filled value name (with_value members (name x) found) definitions) (All-head (λ (y : D). IsUnmarked (value y)) x definitions all)
      (λ found. filled-unmarked definitions (with_value members (name x) found) (All-tail (λ (y : D). IsUnmarked (value y)) x definitions all))

not_given-unmarked : (d : List ℕ) (ty : TypeRef) (default : Option Literal) (missing : CoercionFault) → missing.suspected ≡ false → is_constant_default default ≡ true
    → IsUnmarked (not_given d ty default missing)
not_given-unmarked d ty (Some default) missing h constant = mapped-unmarked Some (translated d default) (constant-unmarked d default constant)
not_given-unmarked d ty None missing h constant = by_test (is_non_null ty)
  where
    by_test : (b : Bool) → IsUnmarked {A = Option Value} (if b then Err missing else Ok None)
    by_test true = h
    by_test false = tt

-- ---- a value at a type that is an input type

taken-unmarked : (takes : Bool) (d : List ℕ) (value : Value) (T : List ℕ) → IsUnmarked (taken takes d value T)
taken-unmarked true d value T = tt
taken-unmarked false d value T = refl

at_definition-unmarked : (found : Option ExtendedType) → is_input found ≡ true → (d : List ℕ) (name : Named) (value : Value) → IsUnmarked (at_definition found d name value)
at_definition-unmarked None input d name value = absurd cc
at_definition-unmarked (Some (type.Scalar it)) input d name value = taken-unmarked (scalar_takes name.text value) d value name.text
at_definition-unmarked (Some (type.Enum it)) input d name value = taken-unmarked (enum_takes it.values value) d value name.text
at_definition-unmarked (Some (type.InputObject it)) input d name value = refl
at_definition-unmarked (Some (type.Object it)) input d name value = absurd cc
at_definition-unmarked (Some (type.Interface it)) input d name value = absurd cc
at_definition-unmarked (Some (type.Union it)) input d name value = absurd cc

module _ (types : List ExtendedType) (fields : AreInputFields types) where
  leaf-unmarked : (d : List ℕ) (name : Named) → is_input (type_called name.text types) ≡ true → (value : Value) → IsUnmarked (leaf types d name value)
  leaf-unmarked d name input value = at_definition-unmarked (type_called name.text types) input d name value

  module _ (below : Value → Coercion) (h : (value : Value) (d : List ℕ) (ty : TypeRef) → is_input_type types ty ≡ true → IsUnmarked (below value d ty)) where
    field-unmarked : (T : List ℕ) (field : InputValueDefinition) → IsInputField types field → (found : Option Value) → IsUnmarked (field_given below found T field)
    field-unmarked T field input (Some value) =
        mapped-unmarked Some (below value (field_words T (field_name field)) field.ty) (h value (field_words T (field_name field)) field.ty input.typed)
    field-unmarked T field input None =
        not_given-unmarked (field_words T (field_name field)) field.ty field.default_value (fault (missing_field T (field_name field))) refl input.constant

    input-unmarked : (T : List ℕ) (it : InputObjectType) → All (IsInputField types) it.fields → (members : Members) → IsUnmarked (input_object below T it members)
    input-unmarked T it inputs members = by_misfit (misfit T it members)
      where
        made : IsUnmarked (filled (field_value below members T) field_name (places (keys_of members)) it.fields)
        made =
            filled-unmarked (field_value below members T) field_name it.fields (places (keys_of members))
            (All-weaker (IsInputField types) (λ (field : InputValueDefinition). IsUnmarked (field_value below members T field))
            (λ field input. field-unmarked T field input (lookup (bytes_eq (field_name field)) members)) it.fields inputs)

        by_misfit : (text : Option (List ℕ)) → IsUnmarked (refused_or text (mapped Object (filled (field_value below members T) field_name (places (keys_of members)) it.fields)))
        by_misfit (Some text) = refl
        by_misfit None = mapped-unmarked Object (filled (field_value below members T) field_name (places (keys_of members)) it.fields) made

    object-unmarked : (found : Option InputObjectType) (members : Members) (d : List ℕ) (name : Named) → input_object_called name.text types ≡ found
        → is_input (type_called name.text types) ≡ true → (value : Value) → IsUnmarked (object_at types below found members d name value)
    object-unmarked (Some it) members d name is input value = input-unmarked name.text it (fields name.text it is) members
    object-unmarked None members d name is input value = leaf-unmarked d name input value

    items-unmarked : (d : List ℕ) (item : TypeRef) → is_input_type types item ≡ true → (items : List Value) → IsUnmarked (all_of (map (λ (value : Value). below value d item) items))
    items-unmarked d item input [] = tt
    items-unmarked d item input (value ∷ items) =
        all_of-unmarked (below value d item) (map (λ (other : Value). below other d item) items) (h value d item input) (items-unmarked d item input items)

    array-unmarked : (found : Option TypeRef) (items : List Value) (d : List ℕ) (ty : TypeRef) → item_type ty ≡ found → is_input_type types ty ≡ true → (value : Value)
        → IsUnmarked (array types below found items value d ty)
    array-unmarked None items d ty is input value = leaf-unmarked d (named_type ty) input value
    array-unmarked (Some item) items d ty is input value =
        mapped-unmarked Array (all_of (map (λ (other : Value). below other d item) items))
        (items-unmarked d item (ap (λ (name : Named). is_input (type_called name.text types)) (innermost-item ty item is) ∙ input) items)

    wrapped : (d : List ℕ) (ty : TypeRef) → is_input_type types ty ≡ true → (value : Value) → IsUnmarked (mapped (wrap ty) (leaf types d (named_type ty) value))
    wrapped d ty input value = mapped-unmarked (wrap ty) (leaf types d (named_type ty) value) (leaf-unmarked d (named_type ty) input value)

    null-unmarked : (text : List ℕ) (b : Bool) → IsUnmarked {A = Value} (if b then Err (fault text) else Ok Null)
    null-unmarked text true = refl
    null-unmarked text false = tt

    level-unmarked : (x : Value-F Value) (value : Value) (d : List ℕ) (ty : TypeRef) → is_input_type types ty ≡ true → IsUnmarked (level types below x value d ty)
    level-unmarked Value-F.Null value d ty input = null-unmarked _ (is_non_null ty)
    level-unmarked (Value-F.Bool truth) value d ty input = wrapped d ty input value
    level-unmarked (Value-F.Number number) value d ty input = wrapped d ty input value
    level-unmarked (Value-F.String text) value d ty input = wrapped d ty input value
    level-unmarked (Value-F.Array items) value d ty input = array-unmarked (item_type ty) items d ty refl input value
    level-unmarked (Value-F.Object members) value d ty input =
        mapped-unmarked (wrap ty) (object types below members d (named_type ty) value)
        (object-unmarked (input_object_called (named_type ty).text types) members d (named_type ty) refl input value)

  within-unmarked : (n : ℕ) (value : Value) (d : List ℕ) (ty : TypeRef) → is_input_type types ty ≡ true → IsUnmarked (within types n value d ty)
  unfolding within
  within-unmarked zero value d ty input = tt
  within-unmarked (suc n) value d ty input = level-unmarked (within types n) (within-unmarked n) (out-Value value) value d ty input

  coerced-unmarked : (value : Value) (d : List ℕ) (ty : TypeRef) → is_input_type types ty ≡ true → IsUnmarked (coerced types value d ty)
  unfolding coerced
  coerced-unmarked value d ty input = within-unmarked (suc (size-Value value)) value d ty input

  -- ---- the variables

  variable-unmarked : (variable : VariableDefinition) → IsInputVariable types variable → (found : Option Value) → IsUnmarked (variable_given types found variable)
  variable-unmarked variable input (Some value) =
      mapped-unmarked Some (coerced types value (variable_words (variable_name variable)) variable.ty) (coerced-unmarked value (variable_words (variable_name variable)) variable.ty input.typed)
  variable-unmarked variable input None =
      not_given-unmarked (default_words (variable_name variable)) variable.ty variable.default_value (fault_at variable.location (missing_variable (variable_name variable))) refl input.constant

  pub variables-unmarked : (variables : List VariableDefinition) (values : Members) → All (IsInputVariable types) variables → IsUnmarked (coerced_variables types variables values)
  variables-unmarked variables values inputs =
      filled-unmarked (variable_value types values) variable_name variables []
      (All-weaker (IsInputVariable types) (λ (variable : VariableDefinition). IsUnmarked (variable_value types values variable))
      (λ variable input. variable-unmarked variable input (lookup (bytes_eq (variable_name variable)) values)) variables inputs)
