use Rattle.std.proofs.Common.{◌∙◌, sym}
use Rattle.gql_grammar.specs.declared.rule.Rule.TheVariants.{ConstValue}
use Rattle.gql_client_schema.specs.Constants.{limits}
use Rattle.gql_client_schema.proofs.ReadConstant.{error_none, no_error, nothing_none, constant_read}
use Rattle.gql_client_schema.proofs.constant.printed_constant.Goals as goal

pub returns-then-is_some : goal.returns-then-is_some
returns-then-is_some c =
    error_none c.args.text.now c.in_ok-parsed.parsed c.in_ok-parsed.ensures.parse c.in_ok-parsed.ensures.accepts (sym c.is_some.ensures ∙ c.if-is_some.true)

pub returns-in-Some : goal.returns-in-Some
returns-in-Some c =
    let text = c.args.text.now in
    let parsed = c.in_ok-parsed.parsed in
    let parse = c.in_ok-parsed.ensures.parse in
    let none = no_error parsed.error (sym c.is_some.ensures ∙ c.if-is_some.false) in
    let trees = c.parses_are_trees.ensures in
    constant_read text parsed parse (trees.children ConstValue text limits parsed parse none) (trees.kind ConstValue text limits parsed parse)
    c.texts_have_one_tree.ensures.tree c.texts_have_one_tree.ensures.ends none c.in-Some.value c.in_ok-print_value-in-Some.field-0
    (sym c.in_ok-value.ensures ∙ c.in-Some.is) c.in_ok-print_value-in-Some.ensures

pub returns : goal.returns
returns c =
    let text = c.args.text.now in
    let parsed = c.in_ok-parsed.parsed in
    let parse = c.in_ok-parsed.ensures.parse in
    let none = no_error parsed.error (sym c.is_some.ensures ∙ c.if-is_some.false) in
    let trees = c.parses_are_trees.ensures in
    nothing_none text parsed parse (trees.children ConstValue text limits parsed parse none) (trees.kind ConstValue text limits parsed parse)
    c.texts_have_one_tree.ensures.tree c.texts_have_one_tree.ensures.ends (sym c.in_ok-value.ensures ∙ c.in-None.is)
