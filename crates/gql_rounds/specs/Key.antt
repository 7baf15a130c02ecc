-- The text that the answer of a field is found by.
use Rattle.std.specs.Prelude.{ℕ, pos, List, ◌++◌, codes}
use Rattle.jb_print.specs.Compact.{compact}
use Rattle.jb_tree.specs.declared.value.Value.TheVariants as json
use Rattle.gql_resolvers.specs.Meaning.{Members}

-- the number of the object, the name of the field and its arguments, with a blank between them
abbrev pub key : ℕ → List ℕ → Members → List ℕ
key object field arguments = ((((compact (json.Number (pos object))) ++ codes " ") ++ field) ++ codes " ") ++ compact (json.Object arguments)
