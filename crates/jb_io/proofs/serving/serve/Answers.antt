-- The run for the command that was asked for.
use Rattle.jb_io.proofs.serving.serve.Goals as goal

pub returns-in-Some : goal.returns-in-Some
returns-in-Some g c = rw c.in-Some.is (c.serve_command.ensures c.args.usage.now)
