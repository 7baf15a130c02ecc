use Rattle.std.proofs.Common.{rules}
use Rattle.std.proofs.lemmas.Result.{on_ok_weaker}
use Rattle.gql_collect.specs.Grouping.{groups_seen}
use Rattle.gql_collect.proofs.Put.{put-extended, keys-kept, put-begun, key-missing}
use Rattle.gql_collect.proofs.grouping.put.Goals as goal

pub begin-requires : goal.begin-requires
begin-requires c = key-missing c.args.field.now c.args.keys.now (search rules)

pub returns-in-Some-clause-groups : goal.returns-in-Some-clause-groups
returns-in-Some-clause-groups c =
    on_ok_weaker c.extend.result
    (put-extended c.args.field c.args.keys.now c.args.groups.now c.extend.new.groups c.in-Some.number c.requires (search rules))
    c.extend.ensures

pub returns-in-Some-clause-keys : goal.returns-in-Some-clause-keys
returns-in-Some-clause-keys c =
    on_ok_weaker c.extend.result (keys-kept c.args.field c.args.keys.now c.args.groups.now c.extend.new.groups c.in-Some.number c.requires) c.extend.ensures

pub returns-in-None-clause-groups : goal.returns-in-None-clause-groups
returns-in-None-clause-groups c =
    on_ok_weaker c.begin.result
    (put-begun c.args.field.now c.args.keys.now (groups_seen c.args.groups.now) (groups_seen c.begin.new.groups) c.requires (search rules))
    c.begin.ensures.groups
