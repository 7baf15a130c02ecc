-- Words that a resolver says what it gives with, most of them passed on.
use Rattle.std.specs.Prelude.{ℕ, ℤ, pos, negsuc, List, Option, Some, None, option_and_then}
use Rattle.std.specs.Map.{lookup}
use Rattle.std.specs.Str.{bytes_eq}
use Rattle.jb_tree.specs.Value.{string_text, whole_number}
use Rattle.gql_resolvers.specs.Meaning.{Members}
pub use Rattle.gql_resolvers.specs.Resolved.{Meaning, Meanings, gives_leaf, gives_object, gives_list, gives_skip, fails_with, no_answer, answer_then}
pub use Rattle.gql_resolvers.specs.Meaning.{Members, itself, meaning_by}
pub use Rattle.gql_resolvers.specs.Objects.{gives_objects}
pub use Rattle.gql_resolvers.specs.UnknownField.{unknown_field}
pub use Rattle.gql_resolvers.specs.declared.resolved_value.ResolvedValue.{ResolvedValue}
pub use Rattle.jb_tree.specs.declared.value.Value.TheVariants as json

-- the argument of this name, where it is a text
abbrev pub text_argument : List ℕ → Members → Option (List ℕ)
text_argument name arguments = option_and_then string_text (lookup (bytes_eq name) arguments)

-- where it is a whole number
abbrev pub number_argument : List ℕ → Members → Option ℤ
number_argument name arguments = option_and_then whole_number (lookup (bytes_eq name) arguments)

-- a whole number from zero up
abbrev pub natural : ℤ → Option ℕ
natural (pos n) = Some n
natural (negsuc n) = None
