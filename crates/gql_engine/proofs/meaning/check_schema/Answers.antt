use Rattle.std.proofs.Common.{ℕ, List, subst, sym}
use Rattle.gql_parser.specs.SchemaFaults.{SchemaFaults}
use Rattle.gql_engine.proofs.meaning.check_schema.Goals as goal

pub returns-in-Err-Fault-clause-refused : goal.returns-in-Err-Fault-clause-refused
returns-in-Err-Fault-clause-refused c = λ wanted is.
    subst (λ (text : List ℕ). SchemaFaults text c.in-Err-Fault.list) (sym is) (rw c.in-Err-Fault.field-0-is at c.in-Err-Fault.ensures)
