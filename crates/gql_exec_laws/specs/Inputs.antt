-- A variable of lists of lists, and values that are given for it.
use Rattle.std.specs.Prelude.{ℕ, List, [], ◌∷◌, None, codes, pos}
use Rattle.jb_tree.specs.declared.value.Value.{Value}
use Rattle.jb_tree.specs.declared.value.Value.TheVariants as json
use Rattle.gql_ast_base.specs.declared.type_ref.TypeRef.TheVariants as ty
use Rattle.gql_ast.specs.declared.operation.VariableDefinition.{VariableDefinition}
use Rattle.gql_coerce.specs.Faults.{fault}
use Rattle.gql_coerce.specs.Inputs.{Coerced, NotCoerced}
use Rattle.gql_schema_types.specs.MetaFields.{named}
use Rattle.gql_exec_laws.specs.Examples.{int}
use Rattle.gql_exec_laws.specs.Parts.{scalar}

-- $v: [[Int]]
abbrev pub v : VariableDefinition
v = record { name = named (codes "v"); ty = ty.List (ty.List int); default_value = None; directives = []; location = None }

abbrev pub one : Value
one = json.Number (pos 1)

abbrev pub two : Value
two = json.Number (pos 2)

abbrev pub word : Value
word = json.String (codes "a")

abbrev pub list : List Value → Value
list values = json.Array values

-- a value that is given for it is coerced to the other
abbrev pub IsTakenAs : Value → Value → Type 0
IsTakenAs given made = Coerced (scalar (codes "Int") ∷ []) (v ∷ []) ((codes "v", given) ∷ []) ((codes "v", made) ∷ [])

-- a value that is given for it is refused with this message
abbrev pub IsRefused : Value → List ℕ → Type 0
IsRefused given message = NotCoerced (scalar (codes "Int") ∷ []) (v ∷ []) ((codes "v", given) ∷ []) (fault message)
