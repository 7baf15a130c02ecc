use Rattle.std.proofs.Common.{◌++◌, [], is_some, take, cond, sym, ap, ◌∙◌}
use Rattle.std.proofs.lemmas.List.{append-nil}
use Rattle.gql_schema_rules_parts.proofs.WantedArguments.{not-true, not-false}
use Rattle.gql_schema_rules_parts.specs.Arguments.{argument_called}
use Rattle.gql_schema_rules_parts.specs.InterfaceRules.{wanted_argument_faults}
use Rattle.gql_schema_rules_parts.proofs.interface_fields.list_first_wanted.Goals as goal

pub returns-then-not-is_first : goal.returns-then-not-is_first
returns-then-not-is_first c =
    let wanted = c.args.wanted.now in
    let second = not-false (is_some (argument_called (take c.args.at c.args.all.now) wanted.name.text)) (sym c.is_first.ensures ∙ c.if-not-is_first.true) in
    sym (append-nil c.args.faults.now)
    ∙ ap (λ t. c.args.faults.now ++ cond t [] (wanted_argument_faults c.args.types.now c.args.ty.now c.args.interface.now c.args.field.now [] wanted)) (sym second)

pub returns : goal.returns
returns c =
    let wanted = c.args.wanted.now in
    let first = not-true (is_some (argument_called (take c.args.at c.args.all.now) wanted.name.text)) (sym c.is_first.ensures ∙ c.if-not-is_first.false) in
    c.in_ok-list_wanted_argument.ensures
    ∙ ap (λ t. c.args.faults.now ++ cond t [] (wanted_argument_faults c.args.types.now c.args.ty.now c.args.interface.now c.args.field.now [] wanted)) (sym first)
