use Rattle.std.proofs.Common.{◌++◌}
use Rattle.gql_cst.specs.bridge.Machine.{node_of}
use Rattle.gql_cst.specs.Sentences.{root_kind}
use Rattle.gql_cst.proofs.check.check.Goals as goal

pub returns : goal.returns
returns c = let m = c.in_ok-error.ensures in record { tree = node_of (root_kind c.args.start) (m.trees ++ m.waiting); reports = m.reports }
