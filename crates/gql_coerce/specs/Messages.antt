-- The messages of coercion, where d says what a value is coerced for.
use Rattle.std.specs.Prelude.{ℕ, List, ◌++◌, codes}
use Rattle.gql_ast_base.specs.declared.type_ref.TypeRef.{TypeRef}
use Rattle.gql_ast.specs.TypeText.{type_text}

abbrev pub null_value : List ℕ → TypeRef → List ℕ
null_value d ty = codes "null value for " ++ (d ++ (codes " of non-null type " ++ type_text ty))

abbrev pub could_not_coerce : List ℕ → List ℕ → List ℕ → List ℕ
could_not_coerce d text T = codes "could not coerce " ++ (d ++ (codes ": " ++ (text ++ (codes " to type " ++ T))))

abbrev pub undefined_type : List ℕ → List ℕ → List ℕ
undefined_type T d = codes "undefined type " ++ (T ++ (codes " for " ++ d))

abbrev pub non_input_type : List ℕ → List ℕ → List ℕ
non_input_type T d = codes "non-input type " ++ (T ++ (codes " for " ++ (d ++ codes ".")))

abbrev pub unknown_key : List ℕ → List ℕ → List ℕ
unknown_key key T = codes "Input object has key " ++ (key ++ (codes " not in type " ++ T))

-- a one-of input object: section 3.10.1 of GraphQL September 2025
abbrev pub one_member : List ℕ → List ℕ
one_member T = codes "input object " ++ (T ++ codes " must have exactly one member")

abbrev pub null_member : List ℕ → List ℕ → List ℕ
null_member T f = codes "null value for member " ++ (T ++ (codes "." ++ (f ++ codes " of a one-of input object")))

abbrev pub missing_field : List ℕ → List ℕ → List ℕ
missing_field T f = codes "Missing value for non-null input object field " ++ (T ++ (codes "." ++ f))

abbrev pub missing_variable : List ℕ → List ℕ
missing_variable name = codes "missing value for non-null variable '" ++ (name ++ codes "'")

abbrev pub int_overflow : List ℕ → List ℕ
int_overflow d = codes "int value overflow in " ++ d

abbrev pub float_overflow : List ℕ → List ℕ
float_overflow d = codes "float value overflow in " ++ d

abbrev pub variable_in_default : List ℕ → List ℕ
variable_in_default d = codes "variable in default value of " ++ (d ++ codes ".")

abbrev pub null_literal : List ℕ → List ℕ
null_literal d = codes "null value for non-null " ++ d

abbrev pub null_variable : List ℕ → List ℕ
null_variable d = codes "null variable value for non-null " ++ d

abbrev pub absent_variable : List ℕ → List ℕ
absent_variable d = codes "missing variable for non-null " ++ d

abbrev pub unknown_literal_key : List ℕ → List ℕ → List ℕ
unknown_literal_key key T = codes "input object has key " ++ (key ++ (codes " not in type " ++ T))

abbrev pub null_argument : List ℕ → List ℕ
null_argument name = codes "null value for non-nullable argument " ++ name

abbrev pub missing_argument : List ℕ → List ℕ
missing_argument name = codes "missing value for required argument " ++ name
