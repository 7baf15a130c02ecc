use Rattle.std.proofs.Common.{◌≡◌, ◌++◌, [], drop, option_map}
use Rattle.std.specs.Str.{bytes_eq}
use Rattle.indexmap.specs.IndexMap.{insert_all}
use Rattle.serde_json.specs.View.{items_view, members_view}
use Rattle.jb_from_json.specs.FromJson.{items_of, members_of}
use Rattle.jb_from_json.proofs.from_json.+taken.Given as goal

abbrev pub invariant-from_items-loop-item : goal.invariant-from_items-loop-item
invariant-from_items-loop-item l =
    items_of (items_view l.items.items) ≡ option_map (λ rest. l.made ++ rest) (items_of (items_view (drop l.item-index l.items.items)))

abbrev pub invariant-from_members-loop-key : goal.invariant-from_members-loop-key
invariant-from_members-loop-key l =
    option_map (insert_all bytes_eq []) (members_of (members_view l.members.entries)) ≡ option_map (insert_all bytes_eq l.made) (members_of (members_view l.key-iterator))
