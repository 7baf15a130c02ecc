-- Maps that are made of definitions: of variables, of arguments, of the fields of an input object.
use Rattle.std.specs.Prelude.{ℕ, List, [], ◌∷◌, Option, Some, None, Ok, Err, if◌then◌else◌}
use Rattle.std.specs.Str.{bytes_eq}
use Rattle.indexmap.specs.IndexMap.{insert_entry}
use Rattle.jb_tree.specs.declared.value.Value.{Value as JsonValue}
use Rattle.gql_ast_base.specs.declared.type_ref.TypeRef.{TypeRef}
use Rattle.gql_ast_base.specs.declared.value.Value.{Value}
use Rattle.gql_coerce.specs.declared.fault.CoercionFault.{CoercionFault}
use Rattle.gql_coerce.specs.Outcome.{Outcome, and_then, mapped}
use Rattle.gql_ast_base.specs.TypeParts.{is_non_null}
use Rattle.gql_coerce.specs.Translation.{translated}

abbrev pub Members : Type 0
Members = List (List ℕ × JsonValue)

-- the members with this value, where there is one
abbrev pub with_value : Members → List ℕ → Option JsonValue → Members
with_value members key None = members
with_value members key (Some value) = insert_entry bytes_eq members key value

-- one definition after another: the value of each that has one is put under its name. The first fault ends it
abbrev pub filled : {D : Type 0} → (D → Outcome (Option JsonValue)) → (D → List ℕ) → Members → List D → Outcome Members
filled value name members [] = Ok members
filled value name members (definition ∷ definitions) =
    and_then (value definition) (λ found. filled value name (with_value members (name definition) found) definitions)

abbrev pub absent : TypeRef → CoercionFault → Outcome (Option JsonValue)
absent ty missing = if is_non_null ty then Err missing else Ok None

-- what a definition has where no value is given: its default as it is written, else nothing, which a type that is not null refuses
abbrev pub not_given : List ℕ → TypeRef → Option Value → CoercionFault → Outcome (Option JsonValue)
not_given d ty (Some default) missing = mapped Some (translated d default)
not_given d ty None missing = absent ty missing
