use Rattle.std.proofs.Common.{◌≡◌, ◌+◌, ◌*◌, drop, length}
use Rattle.std.specs.Option.{option_copied}
use Rattle.gql_collect.specs.Plan.{fields_in, groups_in}
use Rattle.gql_collect.specs.bridge.Plan.{AreNodes, HaveNodes, sets_below}
use Rattle.gql_resolvers.specs.Meaning.{meanings_by}
use Rattle.gql_resolvers.proofs.Height.{height}
use Rattle.gql_exec.specs.bridge.Planning.{ground_in}
use Rattle.gql_exec.specs.bridge.Executing.{world_of}
use Rattle.gql_exec.specs.Trails.{group_of}
use Rattle.gql_exec.specs.bridge.Trails.{spot_of, trail_of}
use Rattle.gql_exec.proofs.Heights.{top}
use Rattle.gql_exec.proofs.Measures.{schema_in, fragments_in, room, measure, deepest}
use Rattle.gql_exec.proofs.Views.{views}
use Rattle.gql_checker_laws.specs.Walked.{IsVisiting, IsWalking}
use Rattle.gql_response_check.specs.bridge.Views.{claims_of, findings_of}
use Rattle.gql_response_check.proofs.walk.Checking.+check.Given as goal

abbrev pub decreases-check_parts : goal.decreases-check_parts
decreases-check_parts g l = room l.self.now.executing * deepest (fragments_in l.self.now.executing) (groups_in l.parts.now)

abbrev pub decreases-check_field : goal.decreases-check_field
decreases-check_field g l = measure l.self.now.executing (group_of l.field.now.group).pieces (4 * top (schema_in l.self.now.executing) + 7)

abbrev pub decreases-check_value : goal.decreases-check_value
decreases-check_value g l = measure l.self.now.executing (group_of l.place.now.group.now).pieces (4 * height l.place.now.ty.now + 3)

abbrev pub decreases-check_object : goal.decreases-check_object
decreases-check_object g l = measure l.self.now.executing (group_of l.place.now.group.now).pieces 2

abbrev pub decreases-check_typed : goal.decreases-check_typed
decreases-check_typed g l = measure l.self.now.executing (group_of l.place.now.group.now).pieces 1

abbrev pub decreases-check_list : goal.decreases-check_list
decreases-check_list g l = measure l.self.now.executing (group_of l.place.now.group.now).pieces (4 * height l.place.now.ty.now + 2)

abbrev pub decreases-check_items : goal.decreases-check_items
decreases-check_items g l = measure l.self.now.executing (group_of l.place.now.group.now).pieces (4 * height l.place.now.ty.now + 1)

abbrev pub decreases-check_item : goal.decreases-check_item
decreases-check_item g l = measure l.self.now.executing (group_of l.list.now.group.now).pieces (4 * height l.list.now.ty.now)

abbrev pub invariant-check_parts-loop-number : goal.invariant-check_parts-loop-number
invariant-check_parts-loop-number g l =
    record {
      same : fields_in l.parts ≡ fields_in l.fn.parts;
      planned : HaveNodes (ground_in l.self.executing) l.parts;
      visiting : IsVisiting (world_of l.self.executing g.O.ObjectValue.type_of g.O.ObjectValue.resolves) l.object_type (g.O.ObjectValue.seen l.object)
          (trail_of l.path) (option_copied l.members) (claims_of l.claims) l.passes (findings_of l.findings) (findings_of l.fn.findings) l.number
          (views (drop l.number (groups_in l.fn.parts))) (views (groups_in l.fn.parts));
    }

abbrev pub invariant-check_items-loop-item : goal.invariant-check_items-loop-item
invariant-check_items-loop-item g l =
    record {
      counted : l.index + length l.item-iterator ≡ length l.fn.items;
      planned : AreNodes (ground_in l.self.executing) (sets_below l.place.group.now) l.nodes;
      walking : IsWalking (world_of l.self.executing g.O.ObjectValue.type_of g.O.ObjectValue.resolves) (spot_of l.place) (option_copied l.values)
          (claims_of l.claims) l.passes (findings_of l.findings) (findings_of l.fn.findings) l.index
          (meanings_by g.O.ObjectValue.seen l.item-iterator) (meanings_by g.O.ObjectValue.seen l.fn.items);
    }
