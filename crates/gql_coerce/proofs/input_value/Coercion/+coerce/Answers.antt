use Rattle.std.proofs.Common.{◌≡◌, ◌≤◌, Some, None, rules, ap, sym, ◌∙◌, drop, arith, ◌+◌}
use Rattle.std.specs.Map.{values_of, lookup}
use Rattle.std.specs.Option.{option_copied}
use Rattle.std.specs.Str.{bytes_eq}
use denote.Param.Weighed.{most}
use Rattle.jb_tree.specs.declared.value.Value.{Object, size-Value, the_lemmas}
use Rattle.gql_ast_base.specs.Names.{Named}
use Rattle.gql_schema_types.specs.Types.{type_called}
use Rattle.gql_coerce.specs.Subject.{field_words}
use Rattle.gql_coerce.specs.bridge.Subject.{subject_text}
use Rattle.gql_ast_base.specs.TypeParts.{named_type}
use Rattle.gql_coerce.specs.InputTypes.{field_name}
use Rattle.gql_coerce.specs.InputValue.{coerced, object, field_value}
use Rattle.gql_coerce.specs.Filled.{filled, with_value}
use Rattle.gql_coerce.specs.Outcome.{mapped}
use Rattle.gql_coerce.proofs.Coerced.{at-Null, at-Bool, at-Number, at-String, at-Array, at-Object, lookup-within, field-given, field-absent}
use Rattle.gql_coerce.proofs.TypeParts.{innermost-item}
use Rattle.gql_coerce.proofs.Steps.{answered, stops, filled-next, filled-stop}
use Rattle.gql_coerce.proofs.input_value.Coercion.+coerce.Goals as goal

pub coerce_value-returns-in-Null : goal.coerce_value-returns-in-Null
coerce_value-returns-in-Null t c =
    answered _ _ _ (at-Null c.args.self.now.types.now c.args.value.now (subject_text c.args.subject.now) c.args.wanted.now.ty.now c.in-Null.is) c.coerce_null.ensures

pub coerce_value-returns-in-Bool : goal.coerce_value-returns-in-Bool
coerce_value-returns-in-Bool t c =
    answered _ _ _ (at-Bool c.args.self.now.types.now c.args.value.now _ (subject_text c.args.subject.now) c.args.wanted.now.ty.now c.in-Bool.is) c.coerce_single.ensures

pub coerce_value-returns-in-Number : goal.coerce_value-returns-in-Number
coerce_value-returns-in-Number t c =
    answered _ _ _ (at-Number c.args.self.now.types.now c.args.value.now _ (subject_text c.args.subject.now) c.args.wanted.now.ty.now c.in-Number.is) c.coerce_single-in-Number.ensures

pub coerce_value-returns-in-String : goal.coerce_value-returns-in-String
coerce_value-returns-in-String t c =
    answered _ _ _ (at-String c.args.self.now.types.now c.args.value.now _ (subject_text c.args.subject.now) c.args.wanted.now.ty.now c.in-String.is) c.coerce_single-in-String.ensures

pub coerce_value-returns-in-Some : goal.coerce_value-returns-in-Some
coerce_value-returns-in-Some t c =
    answered _ _ _ (at-Array c.args.self.now.types.now c.args.value.now c.in-Array.items (subject_text c.args.subject.now) c.args.wanted.now.ty.now (Some c.in-Some.item.ty.now) c.in-Array.is (sym c.in-Some.ensures.ty)) c.coerce_items.ensures

pub coerce_value-coerce_items-requires : goal.coerce_value-coerce_items-requires
coerce_value-coerce_items-requires t c =
    let types = c.args.self.now.types.now in
    let item = c.in-Some.item in
    let found : option_copied item.found ≡ type_called (named_type item.ty.now).text types =
    ap option_copied c.in-Some.ensures.found ∙ c.requires
    ∙ ap (λ (name : Named). type_called name.text types) (sym (innermost-item c.args.wanted.now.ty.now item.ty.now (sym c.in-Some.ensures.ty))) in
    search (rules, the_lemmas, found)

pub coerce_value-returns-in-None : goal.coerce_value-returns-in-None
coerce_value-returns-in-None t c =
    answered _ _ _ (at-Array c.args.self.now.types.now c.args.value.now c.in-Array.items (subject_text c.args.subject.now) c.args.wanted.now.ty.now None c.in-Array.is (sym c.in-None.ensures.ty)) c.coerce_leaf.ensures

pub coerce_value-returns-in-Object : goal.coerce_value-returns-in-Object
coerce_value-returns-in-Object t c =
    let types = c.args.self.now.types.now in
    let d = subject_text c.args.subject.now in
    answered _ _ _ (at-Object types c.args.value.now c.in-Object.members d c.args.wanted.now.ty.now c.in-Object.is)
    (c.wrapped.ensures (object types (coerced types) c.in-Object.members d (named_type c.args.wanted.now.ty.now) c.args.value.now) c.coerce_object-made.ensures)

pub coerce_field-coerce_value-requires : goal.coerce_field-coerce_value-requires
coerce_field-coerce_value-requires t c =
    let low : size-Value c.in-Some.value.now ≤ most size-Value (values_of c.args.members.now) = lookup-within c.as_str-field_name.result.now c.args.members.now c.in-Some.value.now (sym c.in-Some.ensures) in
    search (rules, the_lemmas, low)

pub coerce_field-returns-in-Some : goal.coerce_field-returns-in-Some
coerce_field-returns-in-Some t c =
    let below = coerced c.args.self.now.types.now in
    let members = c.args.members.now in
    let field = c.args.field.now in
    let value = c.in-Some.value.now in
    answered _ _ _ (field-given below members c.args.name.now field value (ap (λ key. lookup (bytes_eq key) members) (sym c.as_str-field_name.ensures.text) ∙ sym c.in-Some.ensures))
    (c.given_value.ensures (below value (field_words c.args.name.now (field_name field)) field.ty) (rw c.new.ensures.ty at (rw c.as_str-field_name.ensures.text at c.coerce_value.ensures)))

pub coerce_field-returns-in-None : goal.coerce_field-returns-in-None
coerce_field-returns-in-None t c =
    let members = c.args.members.now in
    let field = c.args.field.now in
    answered _ _ _ (field-absent (coerced c.args.self.now.types.now) members c.args.name.now field (ap (λ key. lookup (bytes_eq key) members) (sym c.as_str-field_name.ensures.text) ∙ sym c.in-None.ensures))
    (rw c.as_str-field_name.ensures.text at c.not_given.ensures)

pub coerce_fields-returns-in-Err : goal.coerce_fields-returns-in-Err
coerce_fields-returns-in-Err t c =
    let value = field_value (coerced c.args.self.now.types.now) c.args.members.now c.args.name.now in
    let items = c.as_slice-field-items.result.now in
    let field = c.field-item.result in
    stops (value field) _ c.in-Err.refused
    (λ fault failed. ap (mapped Object) (sym {a = filled value field_name c.loop-field.made (drop c.loop-field.field-index items)} c.loop-field.invariant ∙ filled-stop value field_name c.loop-field.made items c.loop-field.field-index field fault (omega arith) c.field-item.is failed))
    c.in-Err.ensures

pub coerce_fields-loop-field-preserved : goal.coerce_fields-loop-field-preserved
coerce_fields-loop-field-preserved t c =
    let value = field_value (coerced c.args.self.now.types.now) c.args.members.now c.args.name.now in
    let items = c.as_slice-field-items.result.now in
    let field = c.field-item.result in
    let i = c.loop-field.field-index in
    ap (λ made. filled value field_name made (drop (i + 1) items)) (c.in_ok-put-in-Ok.ensures ∙ ap (λ key. with_value c.loop-field.made key c.in-Ok.found) c.as_str.ensures.text)
    ∙ sym (filled-next value field_name c.loop-field.made items i field c.in-Ok.found (omega arith) c.field-item.is c.in-Ok.ensures)
    ∙ c.loop-field.invariant
