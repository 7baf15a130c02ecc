-- Whether two kinds of nodes are one.
use Rattle.std.specs.Prelude.{Bool}
use denote.Enum.Bare.{sameb}
use Rattle.gql_cst.specs.SyntaxKind.{SyntaxKind}
use Rattle.gql_cst.specs.SyntaxKindContract.{the_type}

-- the kinds are one: what `==` answers of them
unfoldable pub is_kind : SyntaxKind → SyntaxKind → Bool
is_kind kind other = sameb the_type kind other
