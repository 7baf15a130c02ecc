use Rattle.std.proofs.Common.{◌++◌, None, [], sym, ap, ◌∙◌}
use Rattle.std.specs.List.{flat_map}
use Rattle.std.proofs.lemmas.List.{append-nil}
use Rattle.std.proofs.lemmas.Result.{on_ok_weaker}
use Rattle.gql_rules_values.specs.Literals.{literal_faults}
use Rattle.gql_rules_values.specs.UniqueInputValue.{unique_keys}
use Rattle.gql_rules_values.proofs.Nodes.{joined, alone_listed, at-List, at-Object, at-Null, at-Variable, at-Int, at-Float, at-String, at-Boolean, at-Enum}
use Rattle.gql_rules_values.proofs.literals.+untyped.Goals as goal

pub list_untyped-returns-in-Null : goal.list_untyped-returns-in-Null
list_untyped-returns-in-Null t c =
    let literal = c.args.literal.now in
    alone_listed c.args.faults.now c.list_unique_keys.new.faults (unique_keys literal) (literal_faults c.args.defined c.args.types.now None literal) c.in_ok-list_unique_keys.ensures
    (at-Null c.args.defined c.args.types.now None literal c.in-Null.is ∙ append-nil (unique_keys literal))

pub list_untyped-returns-in-Variable : goal.list_untyped-returns-in-Variable
list_untyped-returns-in-Variable t c =
    let literal = c.args.literal.now in
    alone_listed c.args.faults.now c.list_unique_keys.new.faults (unique_keys literal) (literal_faults c.args.defined c.args.types.now None literal) c.in_ok-list_unique_keys.ensures
    (at-Variable c.args.defined c.args.types.now c.in-Variable.field-0 None literal c.in-Variable.is ∙ append-nil (unique_keys literal))

pub list_untyped-returns-in-Int : goal.list_untyped-returns-in-Int
list_untyped-returns-in-Int t c =
    let literal = c.args.literal.now in
    alone_listed c.args.faults.now c.list_unique_keys.new.faults (unique_keys literal) (literal_faults c.args.defined c.args.types.now None literal) c.in_ok-list_unique_keys.ensures
    (at-Int c.args.defined c.args.types.now c.in-Int.field-0 None literal c.in-Int.is ∙ append-nil (unique_keys literal))

pub list_untyped-returns-in-Float : goal.list_untyped-returns-in-Float
list_untyped-returns-in-Float t c =
    let literal = c.args.literal.now in
    alone_listed c.args.faults.now c.list_unique_keys.new.faults (unique_keys literal) (literal_faults c.args.defined c.args.types.now None literal) c.in_ok-list_unique_keys.ensures
    (at-Float c.args.defined c.args.types.now c.in-Float.field-0 None literal c.in-Float.is ∙ append-nil (unique_keys literal))

pub list_untyped-returns-in-String : goal.list_untyped-returns-in-String
list_untyped-returns-in-String t c =
    let literal = c.args.literal.now in
    alone_listed c.args.faults.now c.list_unique_keys.new.faults (unique_keys literal) (literal_faults c.args.defined c.args.types.now None literal) c.in_ok-list_unique_keys.ensures
    (at-String c.args.defined c.args.types.now c.in-String.field-0 None literal c.in-String.is ∙ append-nil (unique_keys literal))

pub list_untyped-returns-in-Boolean : goal.list_untyped-returns-in-Boolean
list_untyped-returns-in-Boolean t c =
    let literal = c.args.literal.now in
    alone_listed c.args.faults.now c.list_unique_keys.new.faults (unique_keys literal) (literal_faults c.args.defined c.args.types.now None literal) c.in_ok-list_unique_keys.ensures
    (at-Boolean c.args.defined c.args.types.now c.in-Boolean.field-0 None literal c.in-Boolean.is ∙ append-nil (unique_keys literal))

pub list_untyped-returns-in-Enum : goal.list_untyped-returns-in-Enum
list_untyped-returns-in-Enum t c =
    let literal = c.args.literal.now in
    alone_listed c.args.faults.now c.list_unique_keys.new.faults (unique_keys literal) (literal_faults c.args.defined c.args.types.now None literal) c.in_ok-list_unique_keys.ensures
    (at-Enum c.args.defined c.args.types.now c.in-Enum.field-0 None literal c.in-Enum.is ∙ append-nil (unique_keys literal))

pub list_untyped-returns-in-List : goal.list_untyped-returns-in-List
list_untyped-returns-in-List t c =
    let literal = c.args.literal.now in
    on_ok_weaker c.list_untyped_items.result
    (joined c.args.faults.now c.list_unique_keys.new.faults c.list_untyped_items.new.faults (unique_keys literal ++ []) (flat_map (literal_faults c.args.defined c.args.types.now None) c.in-List.items)
    (literal_faults c.args.defined c.args.types.now None literal) (c.in_ok-list_unique_keys.ensures ∙ ap (λ l. c.args.faults.now ++ l) (sym (append-nil (unique_keys literal))))
    (at-List c.args.defined c.args.types.now None literal c.in-List.items c.in-List.is))
    c.list_untyped_items.ensures

pub list_untyped-returns-in-Object : goal.list_untyped-returns-in-Object
list_untyped-returns-in-Object t c =
    let literal = c.args.literal.now in
    on_ok_weaker c.list_untyped_members.result
    (joined c.args.faults.now c.list_unique_keys.new.faults c.list_untyped_members.new.faults (unique_keys literal ++ []) (flat_map (λ member. literal_faults c.args.defined c.args.types.now None member.1) c.in-Object.members)
    (literal_faults c.args.defined c.args.types.now None literal) (c.in_ok-list_unique_keys.ensures ∙ ap (λ l. c.args.faults.now ++ l) (sym (append-nil (unique_keys literal))))
    (at-Object c.args.defined c.args.types.now None literal c.in-Object.members c.in-Object.is))
    c.list_untyped_members.ensures
