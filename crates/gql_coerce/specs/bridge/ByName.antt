-- Parts of a field or of a literal found by name: many of them are kept by hash, few are gone through.
use Rattle.std.specs.Prelude.{◌≡◌, ℕ, List}
use Rattle.std.specs.Option.{option_copied}
use Rattle.std.specs.Str.{bytes_eq}
use Rattle.std.specs.Map.{lookup}
use Rattle.gql_ast_base.specs.declared.directive.Argument.{Argument}
use Rattle.gql_coerce.specs.declared.literal_members.LiteralMembers.{LiteralMembers}
use Rattle.gql_coerce.specs.declared.literal_members.LiteralMembers.TheVariants as members
use Rattle.gql_coerce.specs.declared.given_arguments.GivenArguments.{GivenArguments}
use Rattle.gql_coerce.specs.declared.given_arguments.GivenArguments.TheVariants as arguments
use Rattle.gql_coerce.specs.Arguments.{first_named}
use Rattle.gql_coerce.specs.LiteralValue.{Literals, last_named}

-- in it stands the last member of each name
abbrev pub FindsLast : LiteralMembers → Literals → Type 0
FindsLast (members.Few few) wanted = few.now ≡ wanted
FindsLast (members.Many found) wanted = (name : List ℕ) → option_copied (lookup (bytes_eq name) found) ≡ last_named name wanted

-- in it stands the first argument of each name
abbrev pub FindsFirst : GivenArguments → List Argument → Type 0
FindsFirst (arguments.Few few) wanted = few.now ≡ wanted
FindsFirst (arguments.Many found) wanted = (name : List ℕ) → option_copied (lookup (bytes_eq name) found) ≡ first_named name wanted
