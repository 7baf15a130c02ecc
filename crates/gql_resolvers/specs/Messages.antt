-- The messages of completing.
use Rattle.std.specs.Prelude.{ℕ, List, ◌++◌, codes}
use Rattle.jb_tree.specs.declared.value.Value.{Value}
use Rattle.jb_print.specs.Compact.{compact}
use Rattle.gql_ast_base.specs.declared.type_ref.TypeRef.{TypeRef}
use Rattle.gql_ast.specs.TypeText.{type_text}

abbrev pub resolver_error : List ℕ → List ℕ
resolver_error text = codes "resolver error: " ++ text

abbrev pub null_at_non_null : TypeRef → List ℕ
null_at_non_null ty = codes "non-null type " ++ (type_text ty ++ codes " resolved to null")

abbrev pub list_at_other : TypeRef → List ℕ
list_at_other ty = codes "Non-list type " ++ (type_text ty ++ codes " resolved to a list")

abbrev pub other_at_list : TypeRef → List ℕ
other_at_list ty = codes "list type " ++ (type_text ty ++ codes " resolved to an object")

abbrev pub undefined_type : List ℕ → List ℕ
undefined_type T = codes "undefined type " ++ T

abbrev pub input_object_type : List ℕ → List ℕ
input_object_type T = codes "field with input object type " ++ T

abbrev pub leaf_at_composite : List ℕ → List ℕ
leaf_at_composite T = codes "resolver returned a leaf value but expected an object for type " ++ T

abbrev pub other_enum : Value → List ℕ → List ℕ
other_enum value T = codes "resolver returned " ++ (compact value ++ (codes ", expected enum " ++ T))

abbrev pub other_leaf : Value → List ℕ → List ℕ
other_leaf value T = codes "resolver returned " ++ (compact value ++ (codes ", expected " ++ T))

abbrev pub overflowing_leaf : Value → List ℕ
overflowing_leaf value = codes "resolver returned " ++ (compact value ++ codes " which overflows Int")

abbrev pub object_at_leaf : List ℕ → List ℕ → List ℕ
object_at_leaf found T = codes "resolver returned a an object of type " ++ (found ++ (codes ", expected " ++ T))

abbrev pub object_not_defined : List ℕ → List ℕ
object_not_defined found = codes "resolver returned an object of type " ++ (found ++ codes " not defined in the schema")

abbrev pub no_member : List ℕ → List ℕ → List ℕ
no_member found T = codes "resolver returned an object of type " ++ (found ++ (codes ", expected a member of union type " ++ T))

abbrev pub no_implementer : List ℕ → List ℕ → List ℕ
no_implementer found T = codes "resolver returned an object of type " ++ (found ++ (codes " which does not implement interface " ++ T))

abbrev pub other_object : List ℕ → List ℕ → List ℕ
other_object found T = codes "resolver returned an object of type " ++ (found ++ (codes ", expected " ++ T))
