-- The row of a node that has just begun.
use Rattle.std.specs.Prelude.{[], None}
use Rattle.gql_ast_base.specs.SyntaxKind.{SyntaxKind}
use Rattle.gql_ast_base.specs.SyntaxKind.TheVariants as kind
use Rattle.gql_ast_reader.specs.declared.row.Words.{Words}
use Rattle.gql_ast_reader.specs.declared.row.Roles.{Roles}
use Rattle.gql_ast_reader.specs.declared.row.Singles.{Singles}
use Rattle.gql_ast_reader.specs.declared.row.Groups.{Groups}
use Rattle.gql_ast_reader.specs.declared.row.Row.{Row}
use Rattle.gql_ast_reader.specs.declared.row.Own.{Own}
use Rattle.gql_ast_reader.specs.declared.row.Own.TheVariants as own

abbrev pub no_words : Words
no_words = record { one = None; two = None; three = None; locations = [] }

abbrev pub no_roles : Roles
no_roles = record {
  alias = None;
  fragment_name = None;
  type_condition = None;
  enum_value = None;
  variable = None;
  named_type = None;
}

abbrev pub no_singles : Singles
no_singles = record { operation = None; form = None; ty = None; default_value = None; description = None }

abbrev pub no_groups : Groups
no_groups = record {
  arguments = None;
  directives = None;
  selections = None;
  variables = None;
  inputs = None;
  input_fields = None;
  fields = None;
  enum_values = None;
  interfaces = None;
  members = None;
}

-- what only rows of the kind keep, before anything has come
abbrev pub fresh_own : SyntaxKind → Own
fresh_own kind.Value = own.Content None
fresh_own kind.Description = own.Text None
fresh_own kind.Argument = own.Value None
fresh_own kind.ObjectField = own.Value None
fresh_own kind.DefaultValue = own.Value None
fresh_own kind.Selection = own.Choice None
fresh_own kind.Definition = own.Defined None
fresh_own kind.Arguments = own.Arguments []
fresh_own kind.Directives = own.Directives []
fresh_own kind.SelectionSet = own.Selections []
fresh_own kind.ListValue = own.Values []
fresh_own kind.ObjectValue = own.Pairs []
fresh_own kind.VariableDefinitions = own.Variables []
fresh_own kind.ArgumentsDefinition = own.Inputs []
fresh_own kind.InputFieldsDefinition = own.Inputs []
fresh_own kind.FieldsDefinition = own.Fields []
fresh_own kind.EnumValuesDefinition = own.EnumValues []
fresh_own kind.ImplementsInterfaces = own.Names []
fresh_own kind.UnionMemberTypes = own.Names []
fresh_own kind.Document = own.Definitions []
fresh_own _ = own.Nothing

-- the row of a node of the kind that has just begun
abbrev pub fresh : SyntaxKind → Row
fresh k = record {
  words = no_words;
  roles = no_roles;
  singles = no_singles;
  groups = no_groups;
  root_operations = [];
  own = fresh_own k;
}
