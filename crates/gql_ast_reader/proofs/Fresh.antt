-- A fresh row is what is kept of no trees.
use Rattle.std.proofs.Common.{◌≡◌, refl}
use Rattle.gql_source.specs.declared.file_id.FileId.{FileId}
use Rattle.gql_ast_base.specs.Forest.{nothing}
use Rattle.gql_ast_base.specs.SyntaxKind.{SyntaxKind}
use Rattle.gql_ast_base.specs.SyntaxKind.TheVariants as kind
use Rattle.gql_ast_base.specs.Parts.{Text}
use Rattle.gql_ast.specs.Schemas.{directive_locations}
use Rattle.gql_ast_reader.specs.bridge.Kept.{row_of}
use Rattle.gql_ast_reader.specs.bridge.Fresh.{fresh}

pub fresh-is : (text : Text) (file : FileId) (k : SyntaxKind) → fresh k ≡ row_of text file k nothing
unfolding directive_locations
fresh-is text file kind.Value = refl
fresh-is text file kind.Description = refl
fresh-is text file kind.Argument = refl
fresh-is text file kind.ObjectField = refl
fresh-is text file kind.DefaultValue = refl
fresh-is text file kind.Selection = refl
fresh-is text file kind.Definition = refl
fresh-is text file kind.Arguments = refl
fresh-is text file kind.Directives = refl
fresh-is text file kind.SelectionSet = refl
fresh-is text file kind.ListValue = refl
fresh-is text file kind.ObjectValue = refl
fresh-is text file kind.VariableDefinitions = refl
fresh-is text file kind.ArgumentsDefinition = refl
fresh-is text file kind.InputFieldsDefinition = refl
fresh-is text file kind.FieldsDefinition = refl
fresh-is text file kind.EnumValuesDefinition = refl
fresh-is text file kind.ImplementsInterfaces = refl
fresh-is text file kind.UnionMemberTypes = refl
fresh-is text file kind.Document = refl
fresh-is text file _ = refl
