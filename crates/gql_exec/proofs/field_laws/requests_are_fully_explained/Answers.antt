use Rattle.gql_exec.proofs.Skipless.{reaches-none, fully-explained, request-never}
use Rattle.gql_exec.proofs.field_laws.requests_are_fully_explained.Goals as goal

pub returns : goal.returns
returns types c = record {
  reached = λ r never root initial sets. reaches-none r never root initial sets;
  explained = λ r never root initial selections response h. fully-explained r never root initial selections response h;
  request = λ introspection schema document variables of resolves never. request-never introspection schema document variables of resolves never;
}
