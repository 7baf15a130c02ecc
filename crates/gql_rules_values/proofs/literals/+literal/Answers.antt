use Rattle.std.proofs.Common.{◌++◌, Some, None, sym, ap, ◌∙◌}
use Rattle.std.specs.List.{flat_map}
use Rattle.std.proofs.lemmas.Result.{on_ok_weaker}
use Rattle.gql_rules_values.specs.Literals.{node_faults, literal_faults}
use Rattle.gql_rules_values.specs.Typed.{member_type}
use Rattle.gql_rules_values.proofs.Nodes.{joined, alone_listed, at-List, at-Object, at-Null, at-Variable, at-Int, at-Float, at-String, at-Boolean, at-Enum}
use Rattle.gql_rules_values.proofs.literals.+literal.Goals as goal

pub list_literal-returns-in-Null : goal.list_literal-returns-in-Null
list_literal-returns-in-Null t c =
    let literal = c.args.literal.now in
    alone_listed c.args.faults.now c.list_node.new.faults (node_faults c.args.defined c.args.types.now (record { ty = Some c.args.ty.now; literal = literal })) (literal_faults c.args.defined c.args.types.now (Some c.args.ty.now) literal)
    c.in_ok-list_node.ensures (at-Null c.args.defined c.args.types.now (Some c.args.ty.now) literal c.in-Null.is)

pub list_literal-returns-in-Variable : goal.list_literal-returns-in-Variable
list_literal-returns-in-Variable t c =
    let literal = c.args.literal.now in
    alone_listed c.args.faults.now c.list_node.new.faults (node_faults c.args.defined c.args.types.now (record { ty = Some c.args.ty.now; literal = literal })) (literal_faults c.args.defined c.args.types.now (Some c.args.ty.now) literal)
    c.in_ok-list_node.ensures (at-Variable c.args.defined c.args.types.now c.in-Variable.field-0 (Some c.args.ty.now) literal c.in-Variable.is)

pub list_literal-returns-in-Int : goal.list_literal-returns-in-Int
list_literal-returns-in-Int t c =
    let literal = c.args.literal.now in
    alone_listed c.args.faults.now c.list_node.new.faults (node_faults c.args.defined c.args.types.now (record { ty = Some c.args.ty.now; literal = literal })) (literal_faults c.args.defined c.args.types.now (Some c.args.ty.now) literal)
    c.in_ok-list_node.ensures (at-Int c.args.defined c.args.types.now c.in-Int.field-0 (Some c.args.ty.now) literal c.in-Int.is)

pub list_literal-returns-in-Float : goal.list_literal-returns-in-Float
list_literal-returns-in-Float t c =
    let literal = c.args.literal.now in
    alone_listed c.args.faults.now c.list_node.new.faults (node_faults c.args.defined c.args.types.now (record { ty = Some c.args.ty.now; literal = literal })) (literal_faults c.args.defined c.args.types.now (Some c.args.ty.now) literal)
    c.in_ok-list_node.ensures (at-Float c.args.defined c.args.types.now c.in-Float.field-0 (Some c.args.ty.now) literal c.in-Float.is)

pub list_literal-returns-in-String : goal.list_literal-returns-in-String
list_literal-returns-in-String t c =
    let literal = c.args.literal.now in
    alone_listed c.args.faults.now c.list_node.new.faults (node_faults c.args.defined c.args.types.now (record { ty = Some c.args.ty.now; literal = literal })) (literal_faults c.args.defined c.args.types.now (Some c.args.ty.now) literal)
    c.in_ok-list_node.ensures (at-String c.args.defined c.args.types.now c.in-String.field-0 (Some c.args.ty.now) literal c.in-String.is)

pub list_literal-returns-in-Boolean : goal.list_literal-returns-in-Boolean
list_literal-returns-in-Boolean t c =
    let literal = c.args.literal.now in
    alone_listed c.args.faults.now c.list_node.new.faults (node_faults c.args.defined c.args.types.now (record { ty = Some c.args.ty.now; literal = literal })) (literal_faults c.args.defined c.args.types.now (Some c.args.ty.now) literal)
    c.in_ok-list_node.ensures (at-Boolean c.args.defined c.args.types.now c.in-Boolean.field-0 (Some c.args.ty.now) literal c.in-Boolean.is)

pub list_literal-returns-in-Enum : goal.list_literal-returns-in-Enum
list_literal-returns-in-Enum t c =
    let literal = c.args.literal.now in
    alone_listed c.args.faults.now c.list_node.new.faults (node_faults c.args.defined c.args.types.now (record { ty = Some c.args.ty.now; literal = literal })) (literal_faults c.args.defined c.args.types.now (Some c.args.ty.now) literal)
    c.in_ok-list_node.ensures (at-Enum c.args.defined c.args.types.now c.in-Enum.field-0 (Some c.args.ty.now) literal c.in-Enum.is)

pub list_literal-returns-in-Some : goal.list_literal-returns-in-Some
list_literal-returns-in-Some t c =
    let literal = c.args.literal.now in
    on_ok_weaker c.list_items.result
    (joined c.args.faults.now c.list_node.new.faults c.list_items.new.faults (node_faults c.args.defined c.args.types.now (record { ty = Some c.args.ty.now; literal = literal }))
    (flat_map (literal_faults c.args.defined c.args.types.now (Some c.in-Some.item.now)) c.in-List.items) (literal_faults c.args.defined c.args.types.now (Some c.args.ty.now) literal) c.in_ok-list_node.ensures
    (at-List c.args.defined c.args.types.now (Some c.args.ty.now) literal c.in-List.items c.in-List.is
    ∙ ap (λ o. node_faults c.args.defined c.args.types.now (record { ty = Some c.args.ty.now; literal = literal }) ++ flat_map (literal_faults c.args.defined c.args.types.now o) c.in-List.items) (sym c.in-Some.ensures)))
    c.list_items.ensures

pub list_literal-returns-in-None : goal.list_literal-returns-in-None
list_literal-returns-in-None t c =
    let literal = c.args.literal.now in
    on_ok_weaker c.list_untyped_items.result
    (joined c.args.faults.now c.list_node.new.faults c.list_untyped_items.new.faults (node_faults c.args.defined c.args.types.now (record { ty = Some c.args.ty.now; literal = literal }))
    (flat_map (literal_faults c.args.defined c.args.types.now (None)) c.in-List.items) (literal_faults c.args.defined c.args.types.now (Some c.args.ty.now) literal) c.in_ok-list_node.ensures
    (at-List c.args.defined c.args.types.now (Some c.args.ty.now) literal c.in-List.items c.in-List.is
    ∙ ap (λ o. node_faults c.args.defined c.args.types.now (record { ty = Some c.args.ty.now; literal = literal }) ++ flat_map (literal_faults c.args.defined c.args.types.now o) c.in-List.items) (sym c.in-None.ensures)))
    c.list_untyped_items.ensures

pub list_literal-returns-in-Object : goal.list_literal-returns-in-Object
list_literal-returns-in-Object t c =
    let literal = c.args.literal.now in
    on_ok_weaker c.list_members.result
    (joined c.args.faults.now c.list_node.new.faults c.list_members.new.faults (node_faults c.args.defined c.args.types.now (record { ty = Some c.args.ty.now; literal = literal }))
    (flat_map (λ member. literal_faults c.args.defined c.args.types.now (member_type c.args.types.now member.0.text c.args.ty.now) member.1) c.in-Object.members)
    (literal_faults c.args.defined c.args.types.now (Some c.args.ty.now) literal) c.in_ok-list_node.ensures
    (at-Object c.args.defined c.args.types.now (Some c.args.ty.now) literal c.in-Object.members c.in-Object.is))
    c.list_members.ensures
