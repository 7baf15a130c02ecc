-- Types that are the same but for the places that their names were read from.
use Rattle.std.specs.Prelude.{◌≡◌, ℕ, Bool, List, None}
use Rattle.gql_source.specs.declared.file_id.FileId.{FileId}
use Rattle.gql_ast_base.specs.Names.{Named, is_name}
use Rattle.gql_ast_laws.specs.Meant.{IsTypeOf}
use Rattle.gql_ast_base.specs.declared.type_ref.TypeRef.{TypeRef, fold-TypeRef, List as ListOf, NonNullList}
use Rattle.gql_ast_base.specs.declared.type_ref.TypeRef.TheOpen.{TypeRef-F}
use Rattle.gql_ast_base.specs.declared.type_ref.TypeRef.TheVariants.{Named as NamedType, NonNullNamed}

-- the name, from no place
abbrev pub from_nowhere : Named → Named
from_nowhere name = record { text = name.text; location = None }

abbrev pub unplaced_step : TypeRef-F TypeRef → TypeRef
unplaced_step (TypeRef-F.Named name) = NamedType (from_nowhere name)
unplaced_step (TypeRef-F.NonNullNamed name) = NonNullNamed (from_nowhere name)
unplaced_step (TypeRef-F.List item) = ListOf item
unplaced_step (TypeRef-F.NonNullList item) = NonNullList item

-- the type, its names from no place
abbrev pub unplaced : TypeRef → TypeRef
unplaced = fold-TypeRef TypeRef unplaced_step

abbrev pub names_step : TypeRef-F Bool → Bool
names_step (TypeRef-F.Named name) = is_name name.text
names_step (TypeRef-F.NonNullNamed name) = is_name name.text
names_step (TypeRef-F.List item) = item
names_step (TypeRef-F.NonNullList item) = item

-- the names of the type are names
abbrev pub has_names : TypeRef → Bool
has_names = fold-TypeRef Bool names_step

-- the text refers to the type, the places aside that its names were read from
pub record RefersTo (text : List ℕ) (file : FileId) (ty : TypeRef) : Type 0 where
  pub read : TypeRef
  pub is : IsTypeOf text file read
  pub same : unplaced read ≡ unplaced ty
