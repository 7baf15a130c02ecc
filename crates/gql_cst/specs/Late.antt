-- Nodes that are made once all in them was read.
use Rattle.std.specs.Prelude.{Bool, true, false}
use Rattle.gql_grammar.specs.declared.syntax_kind.SyntaxKind.{SyntaxKind}
use Rattle.gql_grammar.specs.declared.syntax_kind.SyntaxKind.TheVariants as kind

-- The first words of a node of these kinds may begin nodes of other kinds too, so it is made once its last word is read.
abbrev pub is_late : SyntaxKind → Bool
is_late kind.Alias = true
is_late kind.FragmentSpread = true
is_late kind.InlineFragment = true
is_late kind.NonNullType = true
is_late kind.SchemaDefinition = true
is_late kind.ScalarTypeDefinition = true
is_late kind.ObjectTypeDefinition = true
is_late kind.InterfaceTypeDefinition = true
is_late kind.UnionTypeDefinition = true
is_late kind.EnumTypeDefinition = true
is_late kind.InputObjectTypeDefinition = true
is_late kind.DirectiveDefinition = true
is_late _ = false
