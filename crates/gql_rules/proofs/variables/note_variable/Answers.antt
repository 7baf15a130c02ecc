use Rattle.std.proofs.Common.{position, sym, ap, ◌∙◌}
use Rattle.std.proofs.lemmas.Result.{on_ok_weaker}
use Rattle.gql_rules.proofs.Known.{one_there, one_more}
use Rattle.gql_rules.proofs.variables.note_variable.Goals as goal
use Rattle.gql_rules.specs.bridge.Operations.{own_name, definitions_of}
use Rattle.gql_rules.specs.declared.variables.Variable.{Variable}
use Rattle.gql_schema_types.proofs.Lookups.{missing}
use Rattle.gql_schema_types.specs.Entries.{is_called, entry}

pub add-requires : goal.add-requires
add-requires c =
    ap (λ n. entry own_name n c.args.table.now) (sym c.as_str.ensures.text)
    ∙ missing (is_called own_name c.as_str.result.now) c.args.table.now (sym c.in-None.ensures)

pub returns-in-Some : goal.returns-in-Some
returns-in-Some c =
    one_there c.args.definition.now c.args.table.now c.in-Some.field-0
    (ap (λ n. position (is_called own_name n) c.args.table.now) (sym c.as_str.ensures.text) ∙ sym c.in-Some.ensures)

pub returns-in-None : goal.returns-in-None
returns-in-None c =
    let variable : Variable = record { definition = c.args.definition } in
    on_ok_weaker c.add.result
    (λ is. ap definitions_of is
    ∙ one_more variable c.args.table.now (ap (λ n. position (is_called own_name n) c.args.table.now) (sym c.as_str.ensures.text) ∙ sym c.in-None.ensures))
    c.add.ensures
