use Rattle.std.proofs.Common.{[], sym}
use Rattle.std.proofs.lemmas.List.{append-nil}
use Rattle.gql_rules_merging.proofs.ToldPairs.{none_told}
use Rattle.gql_rules_merging.specs.bridge.Gathering.{numbered_of}
use Rattle.gql_rules_merging.proofs.field_selection_merging.list_numbered.Goals as goal

pub returns-then-branch : goal.returns-then-branch
returns-then-branch c =
    ([], none_told c.args.types.now (numbered_of c.args.numbered.now) (c.in_ok-none_breaks.ensures c.if-branch.true), sym (append-nil c.args.faults.now))
