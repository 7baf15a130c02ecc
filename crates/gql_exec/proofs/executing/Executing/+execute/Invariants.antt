use Rattle.std.proofs.Common.{◌≡◌, ◌+◌, ◌*◌, List, drop, length}
use Rattle.jb_tree.specs.declared.value.Value.{Value}
use Rattle.gql_resolvers.specs.Execute.{Member}
use Rattle.gql_resolvers.specs.Types.{item_type}
use Rattle.gql_collect.specs.Plan.{fields_in, groups_in}
use Rattle.gql_collect.specs.bridge.Plan.{AreNodes, HaveNodes, sets_below}
use Rattle.gql_collect.specs.bridge.Ways.{Turn}
use Rattle.gql_resolvers.specs.Meaning.{meanings_by}
use Rattle.gql_resolvers.proofs.Height.{height}
use Rattle.gql_exec.specs.bridge.Planning.{ground_in}
use Rattle.gql_exec.specs.bridge.Executing.{world_of}
use Rattle.gql_exec.specs.bridge.Looks.{NodesGrow, PartsGrow}
use Rattle.gql_exec.specs.Opened.{AnyGives}
use Rattle.gql_exec.specs.bridge.Opened.{OpensBy, Turns}
use Rattle.gql_exec.specs.Trails.{group_of}
use Rattle.gql_exec.specs.bridge.Trails.{spot_of, trail_of}
use Rattle.gql_exec.proofs.Groups.{IsExecuting}
use Rattle.gql_exec.proofs.Heights.{top}
use Rattle.gql_exec.proofs.Items.{IsCompleting}
use Rattle.gql_exec.proofs.Measures.{schema_in, fragments_in, room, measure, deepest}
use Rattle.gql_exec.proofs.Views.{views}
use Rattle.gql_exec.proofs.executing.Executing.+execute.Given as goal

abbrev pub decreases-execute_parts : goal.decreases-execute_parts
decreases-execute_parts g l = room l.self.now * deepest (fragments_in l.self.now) (groups_in l.parts.now)

abbrev pub decreases-execute_field : goal.decreases-execute_field
decreases-execute_field g l = measure l.self.now (group_of l.field.now.group).pieces (4 * top (schema_in l.self.now) + 7)

abbrev pub decreases-complete_value : goal.decreases-complete_value
decreases-complete_value g l = measure l.self.now (group_of l.place.now.group.now).pieces (4 * height l.place.now.ty.now + 3)

abbrev pub decreases-complete_object : goal.decreases-complete_object
decreases-complete_object g l = measure l.self.now (group_of l.place.now.group.now).pieces 2

abbrev pub decreases-execute_object : goal.decreases-execute_object
decreases-execute_object g l = measure l.self.now (group_of l.place.now.group.now).pieces 1

abbrev pub decreases-complete_list : goal.decreases-complete_list
decreases-complete_list g l = measure l.self.now (group_of l.place.now.group.now).pieces (4 * height l.place.now.ty.now + 2)

abbrev pub decreases-complete_items : goal.decreases-complete_items
decreases-complete_items g l = measure l.self.now (group_of l.place.now.group.now).pieces (4 * height l.place.now.ty.now + 1)

abbrev pub decreases-complete_item : goal.decreases-complete_item
decreases-complete_item g l = measure l.self.now (group_of l.list.now.group.now).pieces (4 * height l.list.now.ty.now)

abbrev pub invariant-execute_parts-loop-number : goal.invariant-execute_parts-loop-number
invariant-execute_parts-loop-number g l =
    record {
      same : fields_in l.parts ≡ fields_in l.fn.parts;
      planned : HaveNodes (ground_in l.self) l.parts;
      grows : PartsGrow l.self l.fn.steps l.steps l.fn.parts l.parts
          (OpensBy (world_of l.self g.O.ObjectValue.type_of g.O.ObjectValue.resolves) (views (groups_in l.fn.parts)) l.object_type (g.O.ObjectValue.seen l.object));
      so_far : (members : List Member) × g.M.Output.are_members l.fn.out l.out l.members members
          × IsExecuting (world_of l.self g.O.ObjectValue.type_of g.O.ObjectValue.resolves) l.object_type (g.O.ObjectValue.seen l.object) (trail_of l.path)
          members l.errors l.fn.errors (views (drop l.number (groups_in l.fn.parts))) (views (groups_in l.fn.parts));
    }

abbrev pub invariant-complete_items-loop-item : goal.invariant-complete_items-loop-item
invariant-complete_items-loop-item g l =
    record {
      counted : l.index + length l.item-iterator ≡ length l.fn.items;
      planned : AreNodes (ground_in l.self) (sets_below l.place.group.now) l.nodes;
      grows : NodesGrow l.self l.fn.steps l.steps l.fn.nodes l.nodes (λ turn.
          let w = world_of l.self g.O.ObjectValue.type_of g.O.ObjectValue.resolves in
          AnyGives w (Turns w (sets_below l.place.group.now) turn) (item_type l.place.ty.now) (meanings_by g.O.ObjectValue.seen l.fn.items));
      among : (turn : Turn) →
          let w = world_of l.self g.O.ObjectValue.type_of g.O.ObjectValue.resolves in
          AnyGives w (Turns w (sets_below l.place.group.now) turn) (item_type l.place.ty.now) (meanings_by g.O.ObjectValue.seen l.item-iterator)
          → AnyGives w (Turns w (sets_below l.place.group.now) turn) (item_type l.place.ty.now) (meanings_by g.O.ObjectValue.seen l.fn.items);
      so_far : (values : List Value) × g.M.Output.are_items l.fn.out l.out l.list values
          × IsCompleting (world_of l.self g.O.ObjectValue.type_of g.O.ObjectValue.resolves) (spot_of l.place)
          values l.errors l.fn.errors l.index (meanings_by g.O.ObjectValue.seen l.item-iterator) (meanings_by g.O.ObjectValue.seen l.fn.items);
    }
