use Rattle.gql_client_schema.proofs.Lines.{made_ends, refusal_ends}
use Rattle.gql_client_schema.proofs.reply.PrintingCommand.reply.Goals as goal

pub output-requires : goal.output-requires
output-requires c = made_ends c.args.bytes.now c.in-Ok.made c.in-Ok.ensures.made

pub refusal-requires : goal.refusal-requires
refusal-requires c = refusal_ends c.args.bytes.now c.in-Err-Fault.fault (rw c.in-Err-Fault.field-0-is at c.in-Err-Fault.ensures.refused)
