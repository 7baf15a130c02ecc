-- Of all types that are shown, those that are not built in.
use Rattle.std.proofs.Common.{◌≡◌, ℕ, Bool, true, false, not, ◌||◌, cond, if◌then◌else◌, Option, None, List, [], ◌∷◌, ◌++◌, map, refl, sym, ap, ◌∙◌}
use Rattle.std.specs.List.{AllByRecursion, filter}
use Rattle.gql_ast_base.specs.Names.{is_reserved}
use Rattle.gql_ast_base.specs.declared.value.Value.{Value}
use Rattle.gql_client_schema_laws.specs.Parts.{said_definition, said_type}
use Rattle.gql_client_schema_laws.specs.Shown.{is_interface, finished, unfinished, its_reference, implements, is_own_name}
use Rattle.gql_schema_build.specs.Built.{built}
use Rattle.gql_schema_build.specs.DefinitionNames.{definition_name}
use Rattle.gql_schema_build.specs.declared.type_definition.TypeDefinition.{TypeDefinition}
use Rattle.gql_schema_build.specs.declared.type_definition.TypeDefinition.TheVariants as definition
use Rattle.gql_schema_types.specs.declared.types.ExtendedType.{ExtendedType}
use Rattle.gql_schema_types.specs.declared.types.ExtendedType.TheVariants as type
use Rattle.gql_sdl.specs.Schemas.{is_scalar_name, is_built_in_scalar, is_built_in}
use Rattle.gql_sdl.specs.declared.shown.ShownType.{ShownType}
use Rattle.gql_sdl.specs.declared.shown.TypeKind.{TypeKind}
use Rattle.gql_sdl.specs.declared.shown.TypeKind.TheVariants as kind

-- ---- what is built in is so by name and kind

neither : (a b : Bool) → not (a || b) ≡ true → (a ≡ false) × (b ≡ false)
neither true b is = absurd cc
neither false true is = absurd cc
neither false false is = (refl, refl)

no_scalar : (k : TypeKind) (n : List ℕ) → is_scalar_name n ≡ false → is_built_in_scalar k n ≡ false
no_scalar kind.Scalar n is = is
no_scalar kind.Object n is = refl
no_scalar kind.Interface n is = refl
no_scalar kind.Union n is = refl
no_scalar kind.Enum n is = refl
no_scalar kind.InputObject n is = refl

pub not_built_in : (ty : ShownType) → is_own_name ty.name.text ≡ true → is_built_in ty ≡ false
not_built_in ty is =
    let both = neither (is_reserved ty.name.text) (is_scalar_name ty.name.text) is in
    ap (λ b. b || is_built_in_scalar ty.kind ty.name.text) both.0 ∙ no_scalar ty.kind ty.name.text both.1

pub no_own_name : (ty : ShownType) → is_built_in ty ≡ true → is_own_name ty.name.text ≡ false
no_own_name ty is = by_test (is_own_name ty.name.text) refl
  where
    by_test : (b : Bool) → is_own_name ty.name.text ≡ b → b ≡ false
    by_test true own = let both : true ≡ false = sym is ∙ not_built_in ty own in absurd cc
    by_test false own = refl

-- ---- names and kinds of what is said

module _ (why : Option Value) where
  pub built_said_name : (d : TypeDefinition) → (said_type why (built d)).name.text ≡ (definition_name d).text
  built_said_name (definition.Scalar d) = refl
  built_said_name (definition.Object d) = refl
  built_said_name (definition.Interface d) = refl
  built_said_name (definition.Union d) = refl
  built_said_name (definition.Enum d) = refl
  built_said_name (definition.InputObject d) = refl

  pub said_name : (d : TypeDefinition) → (said_definition why d).name.text ≡ (definition_name d).text
  said_name (definition.Scalar d) = refl
  said_name (definition.Object d) = refl
  said_name (definition.Interface d) = refl
  said_name (definition.Union d) = refl
  said_name (definition.Enum d) = refl
  said_name (definition.InputObject d) = refl

  pub same_built_in : (d : TypeDefinition) → is_built_in (said_type why (built d)) ≡ is_built_in (said_definition None d)
  same_built_in (definition.Scalar d) = refl
  same_built_in (definition.Object d) = refl
  same_built_in (definition.Interface d) = refl
  same_built_in (definition.Union d) = refl
  same_built_in (definition.Enum d) = refl
  same_built_in (definition.InputObject d) = refl

  pub said_unfinished : (t : ExtendedType) → unfinished (said_type why t) ≡ said_type why t
  said_unfinished (type.Scalar t) = refl
  said_unfinished (type.Object t) = refl
  said_unfinished (type.Interface t) = refl
  said_unfinished (type.Union t) = refl
  said_unfinished (type.Enum t) = refl
  said_unfinished (type.InputObject t) = refl

-- ---- finished types

finished_built_in : (all : List ShownType) (ty : ShownType) → is_built_in (finished all ty) ≡ is_built_in ty
finished_built_in all ty = by_test (is_interface ty.kind)
  where
    by_test : (b : Bool) → is_built_in (if b then record ty { possible_types = map its_reference (filter (implements ty.name.text) all) } else ty) ≡ is_built_in ty
    by_test true = refl
    by_test false = refl

abbrev with_all : List ShownType → ShownType → ShownType
with_all all ty = record ty { possible_types = map its_reference (filter (implements ty.name.text) all) }

pub unfinished_again : (all : List ShownType) (ty : ShownType) → unfinished (finished all ty) ≡ unfinished ty
unfinished_again all ty = by_test (is_interface ty.kind) refl
  where
    by_test : (b : Bool) → is_interface ty.kind ≡ b → unfinished (if b then with_all all ty else ty) ≡ unfinished ty
    by_test true is =
        ap (λ c. if c then record ty { possible_types = [] } else with_all all ty) is ∙ sym (ap (λ c. if c then record ty { possible_types = [] } else ty) is)
    by_test false is = refl

abbrev is_own : ShownType → Bool
is_own ty = not (is_built_in ty)

module _ (all : List ShownType) where
  own_alone : (own : List ShownType) → AllByRecursion (λ ty. is_built_in ty ≡ false) own → AllByRecursion (λ ty. unfinished ty ≡ ty) own
      → map unfinished (filter is_own (map (finished all) own)) ≡ own
  own_alone [] names said = refl
  own_alone (ty ∷ own) names said =
      let rest : List ShownType = filter is_own (map (finished all) own) in
      ap (λ b. map unfinished (cond (not b) (finished all ty ∷ rest) rest)) (finished_built_in all ty ∙ names.0)
      ∙ (λ i. (unfinished_again all ty ∙ said.0) i ∷ own_alone own names.1 said.1 i)

  pub own_of : (built_ins own : List ShownType) → AllByRecursion (λ ty. is_built_in ty ≡ true) built_ins → AllByRecursion (λ ty. is_built_in ty ≡ false) own
      → AllByRecursion (λ ty. unfinished ty ≡ ty) own → map unfinished (filter is_own (map (finished all) (built_ins ++ own))) ≡ own
  own_of [] own theirs names said = own_alone own names said
  own_of (ty ∷ built_ins) own theirs names said =
      let rest : List ShownType = filter is_own (map (finished all) (built_ins ++ own)) in
      ap (λ b. map unfinished (cond (not b) (finished all ty ∷ rest) rest)) (finished_built_in all ty ∙ theirs.0)
      ∙ own_of built_ins own theirs.1 names said
