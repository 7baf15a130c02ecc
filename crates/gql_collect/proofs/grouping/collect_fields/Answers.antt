use Rattle.std.proofs.Common.{◌++◌, ◌∙◌, ap}
use Rattle.gql_collect.specs.Collected.{setting, sets_of}
use Rattle.gql_collect.specs.Grouping.{groups_seen}
use Rattle.gql_collect.specs.Groups.{is_defined}
use Rattle.gql_collect.specs.Standing.{fields_in_all, fields_in_fragments}
use Rattle.gql_collect.specs.Walk.{fields_of}
use Rattle.gql_document_types.specs.Spreads.{spread_graph}
use Rattle.gql_collect.proofs.Acyclic.{spreads-ranked}
use Rattle.gql_collect.proofs.GroupFacts.{collected-same}
use Rattle.gql_collect.proofs.Once.{groups-once}
use Rattle.gql_collect.proofs.grouping.collect_fields.Goals as goal

pub selected_fields-requires : goal.selected_fields-requires
selected_fields-requires g c =
    let all = c.args.document.now.fragments in
    let ranked = c.acyclic_graphs_have_ranks.ensures (spread_graph all) c.requires in
    (ranked.0, spreads-ranked all ranked.0 ranked.1)

pub returns-clause-groups : goal.returns-clause-groups
returns-clause-groups g c =
    let s = setting c.args.document.now.fragments c.args.schema.now c.args.object_type.now c.args.variables.now in
    collected-same s (sets_of c.args.pieces.now) (fields_of c.in_ok-fields.fields) (groups_seen c.in_ok-groups.groups) (groups_seen c.of.result)
    c.in_ok-fields.ensures.fields c.in_ok-groups.ensures (ap groups_seen c.of.ensures ∙ c.in_ok-kept.ensures)

pub returns-clause-once : goal.returns-clause-once
returns-clause-once g c =
    groups-once (is_defined c.args.schema.now c.args.object_type.now) (fields_of c.in_ok-fields.fields)
    (fields_in_all (sets_of c.args.pieces.now) ++ fields_in_fragments c.args.document.now.fragments) (groups_seen c.in_ok-groups.groups) (groups_seen c.of.result)
    c.in_ok-fields.ensures.once c.in_ok-groups.ensures (ap groups_seen c.of.ensures ∙ c.in_ok-kept.ensures)

pub returns-clause-counted : goal.returns-clause-counted
returns-clause-counted g c = c.in_ok-fields.ensures.counted
