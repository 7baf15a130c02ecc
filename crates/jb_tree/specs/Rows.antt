-- The types that a value holds, as the logic holds them, for the clauses on what a `&mut` lends.
use denote.RattleType.{RattleType}
use Rattle.jb_map.specs.contracts.pairs.Pairs as pairs
use Rattle.jb_text.specs.contracts.listed.Listed as listed
use Rattle.jb_tree.specs.contracts.value.Value.{the_row}

abbrev pub list_row : RattleType
list_row = listed.the_row the_row

abbrev pub map_row : RattleType
map_row = pairs.the_row the_row
