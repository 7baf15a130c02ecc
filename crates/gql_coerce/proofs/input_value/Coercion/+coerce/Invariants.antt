use Rattle.std.proofs.Common.{◌≡◌, ◌++◌, List, map, drop}
use Rattle.std.specs.Map.{keys_of}
use Rattle.jb_tree.specs.declared.value.Value.{Value as JsonValue, Array}
use Rattle.gql_coerce.specs.Outcome.{mapped, all_of}
use Rattle.gql_coerce.specs.bridge.Subject.{subject_text}
use Rattle.gql_coerce.specs.Filled.{filled}
use Rattle.gql_coerce.specs.InputTypes.{field_name}
use Rattle.gql_coerce.specs.InputValue.{coerced, field_value, places, each_at}
use Rattle.gql_coerce.proofs.input_value.Coercion.+coerce.Given as goal

-- what is made, and what is left, make the whole
abbrev pub invariant-coerce_items-loop-value : goal.invariant-coerce_items-loop-value
invariant-coerce_items-loop-value l =
    let make = λ (value : JsonValue). coerced l.self.types.now value (subject_text l.subject) l.item.ty.now in
    mapped (λ (values : List JsonValue). Array (l.made ++ values)) (all_of (map make (drop l.value-index l.value-items))) ≡ each_at (coerced l.self.types.now) (subject_text l.subject) l.item.ty.now l.items

abbrev pub invariant-coerce_fields-loop-field : goal.invariant-coerce_fields-loop-field
invariant-coerce_fields-loop-field l =
    let value = field_value (coerced l.self.types.now) l.members l.name in
    filled value field_name l.made (drop l.field-index l.field-items) ≡ filled value field_name (places (keys_of l.members)) l.fields
