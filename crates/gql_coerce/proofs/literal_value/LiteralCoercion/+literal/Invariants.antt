use Rattle.std.proofs.Common.{◌≡◌, ◌+◌, ◌*◌, ◌++◌, List, [], map, drop}
use Rattle.jb_tree.specs.declared.value.Value.{Value as JsonValue, Array}
use Rattle.gql_ast_base.specs.declared.value.Value.{Value}
use Rattle.gql_coerce.specs.Outcome.{mapped, all_of}
use Rattle.gql_coerce.specs.bridge.Subject.{subject_text}
use Rattle.gql_coerce.specs.Filled.{filled}
use Rattle.gql_coerce.specs.InputTypes.{field_name}
use Rattle.gql_coerce.specs.LiteralValue.{depth, greatest, greatest_member, coerced_literal, literal_field, each_literal_at}
use Rattle.gql_coerce.proofs.LiteralCoerced.{weighed}
use Rattle.gql_coerce.proofs.literal_value.LiteralCoercion.+literal.Given as goal

abbrev pub invariant-coerce_items-loop-literal : goal.invariant-coerce_items-loop-literal
invariant-coerce_items-loop-literal l =
    let make = λ (literal : Value). coerced_literal l.self.coercion.types.now l.self.env.now literal (subject_text l.subject) l.item in
    mapped (λ (values : List JsonValue). Array (l.made ++ values)) (all_of (map make (drop l.literal-index l.literal-items)))
    ≡ each_literal_at (coerced_literal l.self.coercion.types.now l.self.env.now) (subject_text l.subject) l.item l.items

abbrev pub invariant-fields_by_name-loop-field : goal.invariant-fields_by_name-loop-field
invariant-fields_by_name-loop-field l =
    let value = literal_field (coerced_literal l.self.coercion.types.now l.self.env.now) l.literal.location l.members l.name in
    filled value field_name l.made (drop l.field-index l.field-items) ≡ filled value field_name [] l.fields

abbrev pub decreases-coerce_literal : goal.decreases-coerce_literal
decreases-coerce_literal l = 6 * depth l.literal.now + 3

abbrev pub decreases-coerce_items : goal.decreases-coerce_items
decreases-coerce_items l = 6 * greatest (map depth l.items.now) + 4

abbrev pub decreases-coerce_field : goal.decreases-coerce_field
decreases-coerce_field l = 6 * greatest_member (map weighed l.members.now) + 4

abbrev pub decreases-fields_by_name : goal.decreases-fields_by_name
decreases-fields_by_name l = 6 * greatest_member (map weighed l.members.now) + 5

abbrev pub decreases-coerce_fields : goal.decreases-coerce_fields
decreases-coerce_fields l = 6 * greatest_member (map weighed l.members.now) + 6

abbrev pub decreases-coerce_members : goal.decreases-coerce_members
decreases-coerce_members l = 6 * greatest_member (map weighed l.members.now) + 7

abbrev pub decreases-coerce_object : goal.decreases-coerce_object
decreases-coerce_object l = 6 * greatest_member (map weighed l.members.now) + 8
