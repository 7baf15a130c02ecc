use Rattle.std.proofs.Common.{List, [], ◌++◌, Option, sym, ap, ◌∙◌}
use Rattle.jb_tree.specs.declared.value.Value.TheVariants as json
use Rattle.jb_print.specs.Compact.{compact}
use Rattle.gql_response.specs.Response.{data_value}
use Rattle.gql_resolvers.specs.Execute.{Member}
use Rattle.gql_exec.specs.bridge.Written.{IsOpenObject}
use Rattle.gql_exec.proofs.Outputs.{members-written, none-written}
use Rattle.gql_exec.proofs.written_response.written.Goals as goal
use Rattle.gql_exec.proofs.written_response.written.Goals.{in-Some+in_ok-end_object-in-Some, in-None+in_ok-value-in-None}

pub returns-clause-data : goal.returns-clause-data
returns-clause-data c = λ found are. c.into_text.ensures ∙ elim c.match-members.branch [
  | in-Some+in_ok-end_object-in-Some w ↦
      let made = members-written IsOpenObject [] c.args.out c.args.executed.members found are w.in-Some.object w.in-Some.is in
      w.out-is ∙ w.in_ok-end_object-in-Some.ensures [] made.0 made.1 ∙ ap (λ (o : Option (List Member)). compact (data_value o)) (sym made.2)
  | in-None+in_ok-value-in-None w ↦
      let made = none-written IsOpenObject [] c.args.out c.args.executed.members found are w.in-None.is in
      w.out-is ∙ w.in_ok-value-in-None.ensures ∙ ap (λ t. t ++ compact json.Null) made.0 ∙ ap (λ (o : Option (List Member)). compact (data_value o)) (sym made.1)
]
