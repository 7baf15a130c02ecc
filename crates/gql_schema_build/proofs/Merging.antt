-- Extensions one after the other, and each definition with its own.
use Rattle.std.proofs.Common.{◌≡◌, ℕ, Bool, true, false, cond, Option, Some, None, List, [], ◌∷◌, map, fold, refl, sym, ap, ◌∙◌, subst}
use Rattle.std.specs.Option.{option_map_or}
use Rattle.std.specs.List.{IsDistinct, AllByRecursion, filter}
use Rattle.std.specs.Map.{lookup, set_value}
use Rattle.std.specs.Str.{bytes_eq}
use Rattle.std.specs.Cmp.Lexicographic.{nat_list_eq_equiv}
use Rattle.std.proofs.lemmas.Slice.Eq.{bytes_eq-Decides}
use Rattle.gql_schema_types.specs.Entries.{texts, is_called}
use Rattle.gql_schema_build.specs.DefinitionNames.{definition_name}
use Rattle.gql_schema_build.specs.ExtensionNames.{extension_name}
use Rattle.gql_schema_build.specs.Extended.{extended}
use Rattle.gql_schema_build.specs.Merged.{Types, named}
use Rattle.gql_schema_build.specs.bridge.Merged.{with_extension}
use Rattle.gql_schema_build.specs.TypeTable.{all_extended}
use Rattle.gql_schema_build.specs.declared.type_definition.TypeDefinition.{TypeDefinition}
use Rattle.gql_schema_build.specs.declared.type_definition.TypeDefinition.TheVariants as type
use Rattle.gql_schema_build.specs.declared.type_extension.TypeExtension.{TypeExtension}
use Rattle.gql_schema_build.specs.declared.type_extension.TypeExtension.TheVariants as extension

-- an extension keeps the name
pub kept_name : (d : TypeDefinition) (e : TypeExtension) → definition_name (extended d e) ≡ definition_name d
kept_name (type.Scalar d) (extension.Scalar e) = refl
kept_name (type.Object d) (extension.Object e) = refl
kept_name (type.Interface d) (extension.Interface e) = refl
kept_name (type.Union d) (extension.Union e) = refl
kept_name (type.Enum d) (extension.Enum e) = refl
kept_name (type.InputObject d) (extension.InputObject e) = refl
kept_name d e = refl

abbrev name : TypeDefinition → List ℕ
name d = (definition_name d).text

abbrev target : TypeExtension → List ℕ
target e = (extension_name e).text

-- one extension at one definition
abbrev step : TypeExtension → TypeDefinition → TypeDefinition
step e d = cond (bytes_eq (name d) (target e)) (extended d e) d

step-name : (e : TypeExtension) (d : TypeDefinition) → definition_name (step e d) ≡ definition_name d
step-name e d = by_test (bytes_eq (name d) (target e))
  where
    by_test : (b : Bool) → definition_name (cond b (extended d e) d) ≡ definition_name d
    by_test true = kept_name d e
    by_test false = refl

pub map-map : {A B C : Type 0} (f : B → C) (g : A → B) (xs : List A) → map f (map g xs) ≡ map (λ x. f (g x)) xs
map-map f g [] = refl
map-map f g (x ∷ xs) = ap (λ l. f (g x) ∷ l) (map-map f g xs)

-- those of other names stay
others : (e : TypeExtension) (ds : List TypeDefinition) → AllByRecursion (λ k. bytes_eq (target e) k ≡ false) (texts definition_name ds) → map named ds ≡ map (λ d. named (step e d)) ds
others e [] apart = refl
others e (d ∷ ds) apart =
    let other : bytes_eq (name d) (target e) ≡ false = nat_list_eq_equiv.symm (name d) (target e) ∙ apart.0 in
    ap (λ l. named d ∷ l) (others e ds apart.1) ∙ ap (λ b. named (cond b (extended d e) d) ∷ map (λ d. named (step e d)) ds) (sym other)

abbrev at : Types → TypeExtension → Option TypeDefinition → Types
at types e found = option_map_or (λ d. set_value (bytes_eq (target e)) types (extended d e)) found types

after_other : (p : List ℕ × TypeDefinition) (types : Types) (e : TypeExtension) (found : Option TypeDefinition) → bytes_eq (target e) p.0 ≡ false → at (p ∷ types) e found ≡ p ∷ at types e found
after_other p types e None other = refl
after_other p types e (Some d) other = ap (λ b. cond b ((p.0, extended d e) ∷ types) (p ∷ set_value (bytes_eq (target e)) types (extended d e))) other

one : (e : TypeExtension) (ds : List TypeDefinition) → IsDistinct bytes_eq (texts definition_name ds) → with_extension (map named ds) e ≡ map (λ d. named (step e d)) ds
unfolding IsDistinct
one e [] distinct = refl
one e (d ∷ ds) distinct = by_test (bytes_eq (target e) (name d)) refl distinct.0 (one e ds distinct.1)
  where
    by_test : (b : Bool) → bytes_eq (target e) (name d) ≡ b → AllByRecursion (λ k. bytes_eq (name d) k ≡ false) (texts definition_name ds) → with_extension (map named ds) e ≡ map (λ d. named (step e d)) ds → with_extension (named d ∷ map named ds) e ≡ named (step e d) ∷ map (λ d. named (step e d)) ds
    by_test true is apart later =
        let same : target e ≡ name d = (bytes_eq-Decides (target e) (name d)).0 is in
        let own : bytes_eq (name d) (target e) ≡ true = nat_list_eq_equiv.symm (name d) (target e) ∙ is in
        ap (λ b. at (named d ∷ map named ds) e (cond b (Some d) (lookup (bytes_eq (target e)) (map named ds)))) is
        ∙ ap (λ b. cond b ((name d, extended d e) ∷ map named ds) (named d ∷ set_value (bytes_eq (target e)) (map named ds) (extended d e))) is
        ∙ ap (λ n. (n.text, extended d e) ∷ map named ds) (sym (kept_name d e))
        ∙ ap (λ l. named (extended d e) ∷ l) (others e ds (subst (λ n. AllByRecursion (λ k. bytes_eq n k ≡ false) (texts definition_name ds)) (sym same) apart))
        ∙ ap (λ b. named (cond b (extended d e) d) ∷ map (λ d. named (step e d)) ds) (sym own)
    by_test false is apart later =
        let other : bytes_eq (name d) (target e) ≡ false = nat_list_eq_equiv.symm (name d) (target e) ∙ is in
        ap (λ b. at (named d ∷ map named ds) e (cond b (Some d) (lookup (bytes_eq (target e)) (map named ds)))) is
        ∙ after_other (named d) (map named ds) e (lookup (bytes_eq (target e)) (map named ds)) is
        ∙ ap (λ l. named d ∷ l) later
        ∙ ap (λ b. named (cond b (extended d e) d) ∷ map (λ d. named (step e d)) ds) (sym other)

step-texts : (e : TypeExtension) (ds : List TypeDefinition) → texts definition_name (map (step e) ds) ≡ texts definition_name ds
step-texts e [] = refl
step-texts e (d ∷ ds) = λ i. (step-name e d i).text ∷ step-texts e ds i

one_more : (e : TypeExtension) (es : List TypeExtension) (d : TypeDefinition) → all_extended es (step e d) ≡ all_extended (e ∷ es) d
one_more e es d = by_test (bytes_eq (name d) (target e)) refl
  where
    by_test : (b : Bool) → bytes_eq (name d) (target e) ≡ b → all_extended es (step e d) ≡ all_extended (e ∷ es) d
    by_test true is =
        ap (λ b. all_extended es (cond b (extended d e) d)) is
        ∙ ap (λ n. fold extended (extended d e) (filter (is_called extension_name n.text) es)) (kept_name d e)
        ∙ ap (λ b. fold extended d (cond b (e ∷ filter (is_called extension_name (name d)) es) (filter (is_called extension_name (name d)) es))) (sym is)
    by_test false is =
        ap (λ b. all_extended es (cond b (extended d e) d)) is
        ∙ ap (λ b. fold extended d (cond b (e ∷ filter (is_called extension_name (name d)) es) (filter (is_called extension_name (name d)) es))) (sym is)

-- each definition has what its own extensions add
pub merged : (es : List TypeExtension) (ds : List TypeDefinition) → IsDistinct bytes_eq (texts definition_name ds) → fold with_extension (map named ds) es ≡ map (λ d. named (all_extended es d)) ds
merged [] ds distinct = refl
merged (e ∷ es) ds distinct =
    ap (λ ts. fold with_extension ts es) (one e ds distinct ∙ sym (map-map named (step e) ds))
    ∙ merged es (map (step e) ds) (subst (IsDistinct bytes_eq) (sym (step-texts e ds)) distinct)
    ∙ map-map (λ d. named (all_extended es d)) (step e) ds
    ∙ (λ i. map (λ d. named (one_more e es d i)) ds)
