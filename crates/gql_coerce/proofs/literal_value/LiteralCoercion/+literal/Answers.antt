use Rattle.std.proofs.Common.{◌≡◌, ◌≤◌, ◌<◌, ◌*◌, Some, None, rules, ap, sym, ◌∙◌, drop, map, arith, ◌+◌}
use Rattle.jb_tree.specs.declared.value.Value.{Object}
use Rattle.gql_coerce.specs.Subject.{field_words}
use Rattle.gql_coerce.specs.bridge.Subject.{subject_text}
use Rattle.gql_ast_base.specs.TypeParts.{named_type}
use Rattle.gql_coerce.specs.Outcome.{mapped}
use Rattle.gql_coerce.specs.Filled.{filled, with_value}
use Rattle.gql_coerce.specs.InputTypes.{field_name}
use Rattle.gql_coerce.specs.LiteralValue.{depth, greatest, greatest_member, coerced_literal, literal_members, literal_field, last_named}
use Rattle.gql_coerce.proofs.LiteralCoerced.{weighed, list_depth, object_depth, item_depth, at-Null, at-Variable, at-Int, at-Float, at-String, at-Boolean, at-Enum, at-List, at-Object, last-within, field-given, field-absent}
use Rattle.gql_coerce.proofs.Steps.{answered, stops, filled-next, filled-stop}
use Rattle.gql_coerce.proofs.literal_value.LiteralCoercion.+literal.Goals as goal

pub coerce_literal-returns-in-Null : goal.coerce_literal-returns-in-Null
coerce_literal-returns-in-Null t c =
    answered _ _ _ (at-Null c.args.self.now.coercion.types.now c.args.self.now.env.now c.args.literal.now (subject_text c.args.subject.now) c.args.ty.now c.in-Null.is) c.null.ensures

pub coerce_literal-returns-in-Variable : goal.coerce_literal-returns-in-Variable
coerce_literal-returns-in-Variable t c =
    answered _ _ _ (at-Variable c.args.self.now.coercion.types.now c.args.self.now.env.now c.args.literal.now c.in-Variable.name (subject_text c.args.subject.now) c.args.ty.now c.in-Variable.is) (rw c.as_str.ensures.text at c.variable.ensures)

pub coerce_literal-returns-in-Int : goal.coerce_literal-returns-in-Int
coerce_literal-returns-in-Int t c =
    answered _ _ _ (at-Int c.args.self.now.coercion.types.now c.args.self.now.env.now c.args.literal.now _ (subject_text c.args.subject.now) c.args.ty.now c.in-Int.is) c.single.ensures

pub coerce_literal-returns-in-Float : goal.coerce_literal-returns-in-Float
coerce_literal-returns-in-Float t c =
    answered _ _ _ (at-Float c.args.self.now.coercion.types.now c.args.self.now.env.now c.args.literal.now _ (subject_text c.args.subject.now) c.args.ty.now c.in-Float.is) c.single-in-Float.ensures

pub coerce_literal-returns-in-String : goal.coerce_literal-returns-in-String
coerce_literal-returns-in-String t c =
    answered _ _ _ (at-String c.args.self.now.coercion.types.now c.args.self.now.env.now c.args.literal.now _ (subject_text c.args.subject.now) c.args.ty.now c.in-String.is) c.single-in-String.ensures

pub coerce_literal-returns-in-Boolean : goal.coerce_literal-returns-in-Boolean
coerce_literal-returns-in-Boolean t c =
    answered _ _ _ (at-Boolean c.args.self.now.coercion.types.now c.args.self.now.env.now c.args.literal.now _ (subject_text c.args.subject.now) c.args.ty.now c.in-Boolean.is) c.single-in-Boolean.ensures

pub coerce_literal-returns-in-Enum : goal.coerce_literal-returns-in-Enum
coerce_literal-returns-in-Enum t c =
    answered _ _ _ (at-Enum c.args.self.now.coercion.types.now c.args.self.now.env.now c.args.literal.now _ (subject_text c.args.subject.now) c.args.ty.now c.in-Enum.is) c.single-in-Enum.ensures

pub coerce_literal-returns-in-Some : goal.coerce_literal-returns-in-Some
coerce_literal-returns-in-Some t c =
    answered _ _ _ (at-List c.args.self.now.coercion.types.now c.args.self.now.env.now c.args.literal.now c.in-List.items (subject_text c.args.subject.now) c.args.ty.now (Some c.in-Some.item.now) c.in-List.is (sym c.in-Some.ensures)) c.coerce_items.ensures

pub coerce_literal-returns-in-None : goal.coerce_literal-returns-in-None
coerce_literal-returns-in-None t c =
    answered _ _ _ (at-List c.args.self.now.coercion.types.now c.args.self.now.env.now c.args.literal.now c.in-List.items (subject_text c.args.subject.now) c.args.ty.now None c.in-List.is (sym c.in-None.ensures)) (rw c.inner_named_type.ensures at c.leaf.ensures)

pub coerce_literal-returns-in-Object : goal.coerce_literal-returns-in-Object
coerce_literal-returns-in-Object t c =
    answered _ _ _ (at-Object c.args.self.now.coercion.types.now c.args.self.now.env.now c.args.literal.now c.in-Object.members (subject_text c.args.subject.now) c.args.ty.now c.in-Object.is)
    (c.wrapped.ensures (literal_members c.args.self.now.coercion.types.now c.args.self.now.env.now (coerced_literal c.args.self.now.coercion.types.now c.args.self.now.env.now) c.in-Object.members (subject_text c.args.subject.now) (named_type c.args.ty.now) c.args.literal.now) (rw c.inner_named_type-in-Object.ensures at c.coerce_object-made.ensures))

pub coerce_field-coerce_literal-requires : goal.coerce_field-coerce_literal-requires
coerce_field-coerce_literal-requires t c =
    let found = sym (c.in-Some.ensures c.args.members.now c.requires.1.1) in
    let low : depth c.in-Some.value.now ≤ greatest_member (map weighed c.args.members.now) = last-within c.as_str-field_name.result.now c.args.members.now c.in-Some.value.now found in
    let smaller : 6 * depth c.in-Some.value.now + 3 < 6 * greatest_member (map weighed c.args.members.now) + 4 = omega (arith, low) in
    search rules

pub coerce_literal-coerce_items-requires : goal.coerce_literal-coerce_items-requires
coerce_literal-coerce_items-requires t c =
    let smaller : 6 * greatest (map depth c.in-List.items) + 4 < 6 * depth c.args.literal.now + 3 = omega (arith, list_depth c.args.literal.now.kind c.in-List.items c.in-List.is) in
    search rules

pub coerce_literal-coerce_object-made-requires : goal.coerce_literal-coerce_object-made-requires
coerce_literal-coerce_object-made-requires t c =
    let smaller : 6 * greatest_member (map weighed c.in-Object.members) + 8 < 6 * depth c.args.literal.now + 3 = omega (arith, object_depth c.args.literal.now.kind c.in-Object.members c.in-Object.is) in
    search rules

pub coerce_items-coerce_literal-requires : goal.coerce_items-coerce_literal-requires
coerce_items-coerce_literal-requires t c =
    let low : depth c.literal-item.result ≤ greatest (map depth c.as_slice-literal-items.result.now) = item_depth c.as_slice-literal-items.result.now c.loop-literal.literal-index c.literal-item.result (omega arith) c.literal-item.is in
    let all : greatest (map depth c.as_slice-literal-items.result.now) ≡ greatest (map depth c.args.items.now) = ap (λ items. greatest (map depth items)) c.as_slice-literal-items.ensures in
    let smaller : 6 * depth c.literal-item.result + 3 < 6 * greatest (map depth c.args.items.now) + 4 = omega (arith, low, all) in
    search rules

pub coerce_field-returns-in-Some : goal.coerce_field-returns-in-Some
coerce_field-returns-in-Some t c =
    let below = coerced_literal c.args.self.now.coercion.types.now c.args.self.now.env.now in
    let members = c.args.members.now in
    let field = c.args.field.now in
    let found = sym (c.in-Some.ensures members c.requires.1.1) in
    answered _ _ _ (field-given below c.args.literal.now.location members c.args.name.now field c.in-Some.value.now (ap (λ key. last_named key members) (sym c.as_str-field_name.ensures.text) ∙ found))
    (c.given_value.ensures (below c.in-Some.value.now (field_words c.args.name.now (field_name field)) field.ty) (rw c.as_str-field_name.ensures.text at c.coerce_literal.ensures))

pub coerce_field-returns-in-None : goal.coerce_field-returns-in-None
coerce_field-returns-in-None t c =
    let members = c.args.members.now in
    let absent = sym (c.in-None.ensures members c.requires.1.1) in
    answered _ _ _ (field-absent (coerced_literal c.args.self.now.coercion.types.now c.args.self.now.env.now) c.args.literal.now.location members c.args.name.now c.args.field.now (ap (λ key. last_named key members) (sym c.as_str-field_name.ensures.text) ∙ absent))
    (rw c.as_str-field_name.ensures.text at c.not_given.ensures)

pub fields_by_name-returns-in-Err : goal.fields_by_name-returns-in-Err
fields_by_name-returns-in-Err t c =
    let value = literal_field (coerced_literal c.args.self.now.coercion.types.now c.args.self.now.env.now) c.args.literal.now.location c.args.members.now c.args.name.now in
    let items = c.as_slice-field-items.result.now in
    let field = c.field-item.result in
    stops (value field) _ c.in-Err.refused
    (λ fault failed. ap (mapped Object) (sym {a = filled value field_name c.loop-field.made (drop c.loop-field.field-index items)} c.loop-field.invariant ∙ filled-stop value field_name c.loop-field.made items c.loop-field.field-index field fault (omega arith) c.field-item.is failed))
    c.in-Err.ensures

pub fields_by_name-loop-field-preserved : goal.fields_by_name-loop-field-preserved
fields_by_name-loop-field-preserved t c =
    let value = literal_field (coerced_literal c.args.self.now.coercion.types.now c.args.self.now.env.now) c.args.literal.now.location c.args.members.now c.args.name.now in
    let items = c.as_slice-field-items.result.now in
    let field = c.field-item.result in
    let i = c.loop-field.field-index in
    ap (λ made. filled value field_name made (drop (i + 1) items)) (c.in_ok-put-in-Ok.ensures ∙ ap (λ key. with_value c.loop-field.made key c.in-Ok.found) c.as_str.ensures.text)
    ∙ sym (filled-next value field_name c.loop-field.made items i field c.in-Ok.found (omega arith) c.field-item.is c.in-Ok.ensures)
    ∙ c.loop-field.invariant

pub fields_by_name-coerce_field-requires : goal.fields_by_name-coerce_field-requires
fields_by_name-coerce_field-requires t c = (search rules, c.requires.1.1)

pub coerce_fields-fields_by_name-requires : goal.coerce_fields-fields_by_name-requires
coerce_fields-fields_by_name-requires t c = (search rules, rw c.as_slice.ensures at c.in-Ok.ensures)
