use Rattle.std.proofs.Common.{true, false, None, ◌∙◌}
use Rattle.gql_rules.proofs.Members.{chosen}
use Rattle.gql_rules.proofs.uses.Place.one_of_literal.Goals as goal
use Rattle.gql_rules.specs.Uses.{one_of_wanted, value_uses}
use Rattle.gql_rules.specs.bridge.Views.{place_of}

pub returns-then-has_one_key : goal.returns-then-has_one_key
returns-then-has_one_key c =
    let types = c.args.types.now in
    c.one_of_wanted.ensures
    ∙ chosen (value_uses types) c.args.members.now (one_of_wanted types (place_of c.args.self.now)) None c.has_one_key.result true
    c.has_one_key.ensures c.if-has_one_key.true

pub returns-else-has_one_key : goal.returns-else-has_one_key
returns-else-has_one_key c =
    let types = c.args.types.now in
    chosen (value_uses types) c.args.members.now (one_of_wanted types (place_of c.args.self.now)) None c.has_one_key.result false
    c.has_one_key.ensures c.if-has_one_key.false
