use Rattle.std.proofs.Common.{◌+◌, ◌*◌, ◌≤◌, length}
use Rattle.jb_read.specs.Values.{item_at, member_at, array_at, object_at, value_at}
use Rattle.jb_read.proofs.Turns.{Goes}
use Rattle.jb_read.proofs.value.+value.Given as goal

-- the levels that may still be opened, and in one level an array above its items above their values
abbrev pub decreases-read_value : goal.decreases-read_value
decreases-read_value l = 3 * l.depth

abbrev pub decreases-read_item : goal.decreases-read_item
decreases-read_item l = 3 * l.depth + 1

abbrev pub decreases-read_member : goal.decreases-read_member
decreases-read_member l = 3 * l.depth + 1

abbrev pub decreases-read_array : goal.decreases-read_array
decreases-read_array l = 3 * l.depth + 2

abbrev pub decreases-read_object : goal.decreases-read_object
decreases-read_object l = 3 * l.depth + 2

abbrev pub invariant-read_array-loop-items : goal.invariant-read_array-loop-items
invariant-read_array-loop-items l = record {
  goes : Goes (item_at (value_at l.fn.depth)) l.items l.cursor (array_at (value_at l.fn.depth) l.fn.cursor);
  no_more : length l.cursor ≤ length l.fn.cursor;
}

abbrev pub decreases-read_array-loop-items : goal.decreases-read_array-loop-items
decreases-read_array-loop-items l = length l.cursor

abbrev pub invariant-read_object-loop-members : goal.invariant-read_object-loop-members
invariant-read_object-loop-members l = record {
  goes : Goes (member_at (value_at l.fn.depth)) l.members l.cursor (object_at (value_at l.fn.depth) l.fn.cursor);
  no_more : length l.cursor ≤ length l.fn.cursor;
}

abbrev pub decreases-read_object-loop-members : goal.decreases-read_object-loop-members
decreases-read_object-loop-members l = length l.cursor
