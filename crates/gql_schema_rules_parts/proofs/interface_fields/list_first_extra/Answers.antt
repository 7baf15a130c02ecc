use Rattle.std.proofs.Common.{◌++◌, [], is_some, take, cond, sym, ap, ◌∙◌}
use Rattle.std.proofs.lemmas.List.{append-nil}
use Rattle.gql_schema_rules_parts.proofs.WantedArguments.{not-true, not-false}
use Rattle.gql_schema_rules_parts.specs.Arguments.{argument_called}
use Rattle.gql_schema_rules_parts.specs.ExtraRequiredImplementationFieldArgument.{extra_required_implementation_field_argument}
use Rattle.gql_schema_rules_parts.proofs.interface_fields.list_first_extra.Goals as goal

pub returns-then-not-is_first : goal.returns-then-not-is_first
returns-then-not-is_first c =
    let argument = c.args.argument.now in
    let second = not-false (is_some (argument_called (take c.args.at c.args.all.now) argument.name.text)) (sym c.is_first.ensures ∙ c.if-not-is_first.true) in
    sym (append-nil c.args.faults.now)
    ∙ ap (λ t. c.args.faults.now ++ cond t [] (extra_required_implementation_field_argument c.args.ty.now c.args.interface.now c.args.wanted.now c.args.field.now argument)) (sym second)

pub returns : goal.returns
returns c =
    let argument = c.args.argument.now in
    let first = not-true (is_some (argument_called (take c.args.at c.args.all.now) argument.name.text)) (sym c.is_first.ensures ∙ c.if-not-is_first.false) in
    c.in_ok-list_extra_required_implementation_field_argument.ensures
    ∙ ap (λ t. c.args.faults.now ++ cond t [] (extra_required_implementation_field_argument c.args.ty.now c.args.interface.now c.args.wanted.now c.args.field.now argument)) (sym first)
