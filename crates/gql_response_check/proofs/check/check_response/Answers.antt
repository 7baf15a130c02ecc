use Rattle.std.proofs.Common.{rules}
use Rattle.gql_response.specs.Reading.{response_read}
use Rattle.gql_response_check.proofs.Verdicts.{verdict-alone, verdict-fault, verdict-introspected}
use Rattle.gql_response_check.proofs.check.check_response.Goals as goal

pub returns-in-Err-Fault : goal.returns-in-Err-Fault
returns-in-Err-Fault g c =
    record {
      verdict = verdict-fault c.args.schema.now c.args.document.now c.args.operation.now c.args.variables.now g.O.ObjectValue.type_of g.O.ObjectValue.resolves (g.O.ObjectValue.seen c.args.root.now)
          (response_read c.args.response.now) c.args.introspection _ c.requires.root (search rules);
    }

pub returns-then-introspection : goal.returns-then-introspection
returns-then-introspection g c =
    record {
      verdict = verdict-introspected c.args.schema.now c.args.document.now c.args.operation.now c.args.variables.now g.O.ObjectValue.type_of g.O.ObjectValue.resolves (g.O.ObjectValue.seen c.args.root.now)
          (response_read c.args.response.now) c.check.result c.in-Ok.response (search rules) c.args.introspection _ (search rules) c.root-root.ensures c.check.ensures;
    }

pub returns : goal.returns
returns g c =
    record {
      verdict = verdict-alone c.args.schema.now c.args.document.now c.args.operation.now c.args.variables.now g.O.ObjectValue.type_of g.O.ObjectValue.resolves (g.O.ObjectValue.seen c.args.root.now)
          (response_read c.args.response.now) c.check-else-introspection.result c.in-Ok.response (search rules) c.args.introspection (search rules) c.check-else-introspection.ensures;
    }
