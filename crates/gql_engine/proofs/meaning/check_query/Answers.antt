use Rattle.std.proofs.Common.{ℕ, List, subst, sym}
use Rattle.gql_engine.specs.Meant.{IsNoDocument}
use Rattle.gql_engine.proofs.meaning.check_query.Goals as goal

pub returns-in-Err-Fault-clause-refused : goal.returns-in-Err-Fault-clause-refused
returns-in-Err-Fault-clause-refused c = λ wanted schema_is query_is.
    subst (λ (text : List ℕ). IsNoDocument text wanted.query c.in-Err-Fault.list) (sym schema_is)
    (subst (λ (text : List ℕ). IsNoDocument c.args.service.now text c.in-Err-Fault.list) (sym query_is) (rw c.in-Err-Fault.field-0-is at c.in-Err-Fault.ensures))
