-- Fields of one response key in a set, or in the sets below such fields, have one shape: section 5.3.2 of GraphQL October 2021,
-- SameResponseShape. `is_broken` of FieldSelectionMerging.antt says where it is broken. Nothing is asked of a type that is not defined.
use Rattle.std.specs.Prelude.{ℕ, Bool, true, false, not, ◌&&◌, ◌||◌, List, [], ◌∷◌}
use Rattle.std.specs.Bool.{beq}
use Rattle.std.specs.Option.{option_map_or}
use Rattle.std.specs.Str.{bytes_eq}
use Rattle.gql_ast.specs.TypeText.{type_text}
use Rattle.gql_ast_base.specs.declared.type_ref.TypeRef.{TypeRef, fold-TypeRef}
use Rattle.gql_ast_base.specs.declared.type_ref.TypeRef.TheOpen.{TypeRef-F}
use Rattle.gql_diag_messages.specs.declared.rule.Rule.TheVariants.{ConflictingFieldType}
use Rattle.gql_diag_messages.specs.declared.diagnostic_data.DiagnosticData.{DiagnosticData}
use Rattle.gql_rules_values.specs.Faults.{fault}
use Rattle.gql_rules_values.specs.Known.{is_known}
use Rattle.gql_ast_base.specs.TypeParts.{named_type}
use Rattle.gql_schema_types.specs.Types.{type_called, is_composite}
use Rattle.gql_schema_types.specs.declared.types.ExtendedType.{ExtendedType}
use Rattle.gql_rules_merging.specs.Numbering.{Selected}
use Rattle.gql_rules_merging.specs.ResponseKeys.{key_of}

-- going inward through a type: is it non-null, are its items, and so on to the name
abbrev pub level_step : TypeRef-F (List Bool) → List Bool
level_step (TypeRef-F.Named name) = false ∷ []
level_step (TypeRef-F.NonNullNamed name) = true ∷ []
level_step (TypeRef-F.List levels) = false ∷ levels
level_step (TypeRef-F.NonNullList levels) = true ∷ levels

abbrev pub levels : TypeRef → List Bool
levels = fold-TypeRef (List Bool) level_step

-- lists and non-nulls at the same levels
abbrev pub same_levels : List Bool → List Bool → Bool
same_levels [] [] = true
same_levels (one ∷ ones) (other ∷ others) = beq one other && same_levels ones others
same_levels _ _ = false

module _ (types : List ExtendedType) where
  -- an object, an interface or a union
  abbrev pub is_composite_name : List ℕ → Bool
  is_composite_name name = option_map_or is_composite (type_called name types) false

  -- the same type, or two that have fields
  abbrev pub same_named : List ℕ → List ℕ → Bool
  same_named one other = bytes_eq one other || (is_composite_name one && is_composite_name other)

  abbrev pub same_shape : TypeRef → TypeRef → Bool
  same_shape one other = same_levels (levels one) (levels other) && same_named (named_type one).text (named_type other).text

  abbrev pub are_known : TypeRef → TypeRef → Bool
  are_known one other = is_known types (named_type one).text && is_known types (named_type other).text

  abbrev pub types_conflict : Selected → Selected → Bool
  types_conflict one other = are_known one.definition.ty other.definition.ty && not (same_shape one.definition.ty other.definition.ty)

-- told at the later field, with the place of the earlier one
abbrev pub conflicting_types : Selected → Selected → DiagnosticData
conflicting_types earlier later =
    fault ConflictingFieldType (key_of earlier ∷ type_text earlier.definition.ty ∷ type_text later.definition.ty ∷ []) later.location earlier.location
