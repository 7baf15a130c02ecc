-- What is lent, as plain values.
use Rattle.std.specs.Prelude.{List, map}
use Rattle.std.specs.Option.{option_copied}
use Rattle.gql_rules.specs.bridge.Judged.{Judged}
use Rattle.gql_rules.specs.Uses as plain
use Rattle.gql_rules.specs.bridge.Uses as plain_bridge
use Rattle.gql_rules.specs.declared.judged.JudgedUse.{JudgedUse}
use Rattle.gql_rules.specs.declared.uses.Place.{Place}
use Rattle.gql_rules.specs.declared.uses.Use.{Use}

abbrev pub place_of : Place → plain.Place
place_of place = record {
  ty = option_copied place.ty;
  has_default = place.has_default;
  one_of = option_copied place.one_of;
  literal = plain_bridge.literal_place (option_copied place.literal);
}

abbrev pub use_of : Use → plain.Use
use_of used = record { name = used.name.now; place = place_of used.place; location = used.location }

abbrev pub uses_of : List Use → List plain.Use
uses_of uses = map use_of uses

abbrev pub judged_of : JudgedUse → Judged
judged_of it = record { used = use_of it.used; undefined = it.undefined; variable = option_copied it.variable; nullable = it.nullable }

abbrev pub row_of : List JudgedUse → List Judged
row_of row = map judged_of row

abbrev pub rows_of : List (List JudgedUse) → List (List Judged)
rows_of rows = map row_of rows
