-- The types of all definitions and extensions.
use Rattle.std.proofs.Common.{◌≡◌, List, [], ◌∷◌, ◌++◌, map, fold, refl, sym, ap, ◌∙◌, subst, append_assoc}
use Rattle.std.specs.List.{IsDistinct, filter, flat_map}
use Rattle.std.specs.Map.{values_of}
use Rattle.std.specs.Str.{bytes_eq}
use Rattle.gql_schema_types.specs.Entries.{texts, is_called, put}
use Rattle.gql_schema_build.specs.Built.{built, part_faults}
use Rattle.gql_schema_build.specs.DefinitionNames.{definition_name}
use Rattle.gql_schema_build.specs.ExtensionNames.{extension_name}
use Rattle.gql_schema_build.specs.Extended.{extended}
use Rattle.gql_schema_build.specs.Merged.{Types, named, firsts}
use Rattle.gql_schema_build.specs.bridge.Merged.{with_extension}
use Rattle.gql_schema_build.specs.OrphanTypeExtension.{orphan_type_extension}
use Rattle.gql_schema_build.specs.TypeDefinitionCollision.{type_definition_collisions}
use Rattle.gql_schema_build.specs.TypeExtensionKindMismatch.{type_extension_kind_mismatch}
use Rattle.gql_schema_types.specs.Types.{type_name}
use Rattle.gql_schema_build.specs.TypeTable.{all_extended, types, type_faults}
use Rattle.gql_schema_build.specs.declared.type_definition.TypeDefinition.{TypeDefinition}
use Rattle.gql_schema_build.specs.declared.type_definition.TypeDefinition.TheVariants as type
use Rattle.gql_schema_build.specs.declared.type_extension.TypeExtension.{TypeExtension}
use Rattle.gql_diag_messages.specs.declared.diagnostic_data.DiagnosticData.{DiagnosticData}
use Rattle.gql_schema_types.proofs.Joins.{joined-distinct, none-distinct, put-all}
use Rattle.gql_schema_build.proofs.Merging.{kept_name, map-map, merged}

pub built_name : (d : TypeDefinition) → type_name (built d) ≡ definition_name d
built_name (type.Scalar d) = refl
built_name (type.Object d) = refl
built_name (type.Interface d) = refl
built_name (type.Union d) = refl
built_name (type.Enum d) = refl
built_name (type.InputObject d) = refl

pub extended_name : (es : List TypeExtension) (d : TypeDefinition) → definition_name (fold extended d es) ≡ definition_name d
extended_name [] d = refl
extended_name (e ∷ es) d = extended_name es (extended d e) ∙ kept_name d e

whole_texts : (es : List TypeExtension) (fs : List TypeDefinition) → texts type_name (map (λ d. built (all_extended es d)) fs) ≡ texts definition_name fs
whole_texts es [] = refl
whole_texts es (d ∷ fs) = λ i. ((built_name (all_extended es d) ∙ extended_name (filter (is_called extension_name (definition_name d).text) es) d) i).text ∷ whole_texts es fs i

values_named : (f : TypeDefinition → TypeDefinition) (fs : List TypeDefinition) → values_of (map (λ d. named (f d)) fs) ≡ map f fs
values_named f [] = refl
values_named f (d ∷ fs) = ap (λ l. f d ∷ l) (values_named f fs)

flat_map-map : {A B C : Type 0} (f : B → List C) (g : A → B) (xs : List A) → flat_map f (map g xs) ≡ flat_map (λ x. f (g x)) xs
flat_map-map f g [] = refl
flat_map-map f g (x ∷ xs) = ap (λ l. f (g x) ++ l) (flat_map-map f g xs)

module _ (ds : List TypeDefinition) (es : List TypeExtension) (m : Types) (is : m ≡ fold with_extension (map named (firsts ds)) es) where
  distinct : IsDistinct bytes_eq (texts definition_name (firsts ds))
  distinct = joined-distinct definition_name [] ds (none-distinct definition_name)

  values : values_of m ≡ map (all_extended es) (firsts ds)
  values = ap values_of (is ∙ merged es (firsts ds) distinct) ∙ values_named (all_extended es) (firsts ds)

  pub whole : fold (put type_name) [] (map built (values_of m)) ≡ types ds es
  whole =
      ap (λ vs. fold (put type_name) [] (map built vs)) values ∙ ap (fold (put type_name) []) (map-map built (all_extended es) (firsts ds))
      ∙ put-all type_name [] (types ds es) (subst (IsDistinct bytes_eq) (sym (whole_texts es (firsts ds))) distinct)

  pub whole_faults : (old one two three new : List DiagnosticData) (ts : Types) → ts ≡ map named (firsts ds) → one ≡ old ++ type_definition_collisions ds
      → two ≡ one ++ flat_map (orphan_type_extension ts) es → three ≡ two ++ flat_map (type_extension_kind_mismatch ts) es
      → new ≡ three ++ flat_map part_faults (values_of m) → new ≡ old ++ type_faults ds es
  whole_faults old one two three new ts are p q r u =
      let C = type_definition_collisions ds in
      let O = flat_map (orphan_type_extension (map named (firsts ds))) es in
      let K = flat_map (type_extension_kind_mismatch (map named (firsts ds))) es in
      let F = flat_map (λ d. part_faults (all_extended es d)) (firsts ds) in
      let last : flat_map part_faults (values_of m) ≡ F = ap (flat_map part_faults) values ∙ flat_map-map part_faults (all_extended es) (firsts ds) in
      let orphans : two ≡ old ++ C ++ O = q ∙ ap (λ ts. one ++ flat_map (orphan_type_extension ts) es) are ∙ ap (λ l. l ++ O) p in
      let others : three ≡ old ++ C ++ O ++ K = r ∙ ap (λ ts. two ++ flat_map (type_extension_kind_mismatch ts) es) are ∙ ap (λ l. l ++ K) orphans in
      u ∙ ap (λ l. three ++ l) last ∙ ap (λ l. l ++ F) others
      ∙ ap (λ l. l ++ F) (append_assoc (old ++ C) O K) ∙ append_assoc (old ++ C) (O ++ K) F ∙ append_assoc old C (O ++ K ++ F)
