-- Definitions under their names, of each name the first.
use Rattle.std.proofs.Common.{◌≡◌, ℕ, cond, if◌then◌else◌, Option, Some, None, is_some, List, [], ◌∷◌, ◌++◌, map, refl, sym, ap, ◌∙◌}
use Rattle.std.specs.Option.{option_map_or}
use Rattle.std.specs.Map.{lookup}
use Rattle.std.specs.Str.{bytes_eq}
use Rattle.std.proofs.lemmas.List.{map-append}
use Rattle.gql_schema_types.specs.Entries.{entry, put_new, repeat}
use Rattle.gql_schema_build.specs.DefinitionNames.{definition_name}
use Rattle.gql_schema_build.specs.Merged.{Types, named}
use Rattle.gql_schema_build.specs.bridge.Merged.{with_type}
use Rattle.gql_schema_build.specs.TypeDefinitionCollision.{second}
use Rattle.gql_schema_build.specs.bridge.TypeDefinitionCollision.{second_of}
use Rattle.gql_schema_build.specs.declared.type_definition.TypeDefinition.{TypeDefinition}

pub defined-entry : (name : List ℕ) (ds : List TypeDefinition) → lookup (bytes_eq name) (map named ds) ≡ entry definition_name name ds
defined-entry name [] = refl
defined-entry name (d ∷ ds) = ap (λ o. cond (bytes_eq name (definition_name d).text) (Some d) o) (defined-entry name ds)

-- one more definition
pub with_type-named : (types : Types) (seen : List TypeDefinition) (d : TypeDefinition) → types ≡ map named seen → with_type types d ≡ map named (put_new definition_name seen d)
with_type-named types seen d is =
    ap (λ ts. with_type ts d) is
    ∙ ap (λ o. if is_some o then map named seen else map named seen ++ named d ∷ []) (defined-entry (definition_name d).text seen)
    ∙ by_test (entry definition_name (definition_name d).text seen)
  where
    by_test : (o : Option TypeDefinition) → (if is_some o then map named seen else map named seen ++ named d ∷ []) ≡ map named (if is_some o then seen else seen ++ d ∷ [])
    by_test (Some first) = refl
    by_test None = sym (map-append named seen (d ∷ []))

pub second-named : (types : Types) (seen : List TypeDefinition) (d : TypeDefinition) → types ≡ map named seen
    → second_of types d ≡ map (λ (pair : TypeDefinition × TypeDefinition). second pair.0 pair.1) (repeat definition_name seen d)
second-named types seen d is =
    ap (λ ts. second_of ts d) is
    ∙ ap (λ o. option_map_or (λ first. second d first ∷ []) o []) (defined-entry (definition_name d).text seen)
    ∙ by_test (entry definition_name (definition_name d).text seen)
  where
    by_test : (o : Option TypeDefinition) → option_map_or (λ first. second d first ∷ []) o [] ≡ map (λ (pair : TypeDefinition × TypeDefinition). second pair.0 pair.1) (option_map_or (λ first. (d, first) ∷ []) o [])
    by_test (Some first) = refl
    by_test None = refl
