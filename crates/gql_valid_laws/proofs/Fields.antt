-- The input fields of a schema that a text means: where they stand, and their defaults.
use Rattle.std.proofs.Common.{◌≡◌, Bool, true, false, not, ◌==◌, ◌||◌, cond, if◌then◌else◌, Option, Some, None, is_some, List, [], ◌∷◌, ◌++◌, map, fold, refl, ap, ◌∙◌}
use Rattle.std.specs.List.{All, filter, list_any}
use Rattle.std.proofs.lemmas.List.Elements.{All-head, All-tail}
use Rattle.gql_source.specs.Span.{Span}
use Rattle.gql_source.specs.declared.file_id.FileId.{FileId}
use Rattle.gql_ast.specs.declared.definition.Definition.{Definition}
use Rattle.gql_ast.specs.declared.definition.Definition.TheVariants as definition
use Rattle.gql_ast_base.specs.Names.{Named}
use Rattle.gql_ast_laws.specs.Constants.{is_constant_default}
use Rattle.gql_ast_laws.specs.Defaults.{IsIn, IsConstantField, HasConstantDefaults}
use Rattle.gql_valid_laws.proofs.Each.{Each, each-of}
use Rattle.gql_ast.specs.declared.field_definition.InputValueDefinition.{InputValueDefinition}
use Rattle.gql_rules_values.specs.Written.{is_written}
use Rattle.gql_schema_build.specs.Built.{built}
use Rattle.gql_schema_build.specs.BuiltInScalarTypeRedefinition.{redefines, other, without_redefinitions}
use Rattle.gql_schema_build.specs.TypeSystems.{with_definition, with_definitions}
use Rattle.gql_schema_build.specs.TypeTable.{all_extended, types}
use Rattle.gql_schema_build.specs.declared.type_system.TypeSystem.{TypeSystem}
use Rattle.gql_valid_laws.proofs.BuiltInText.{is_input_object}
use Rattle.gql_schema_build.specs.DefinitionNames.{definition_name}
use Rattle.gql_schema_build.specs.Extended.{extended}
use Rattle.gql_schema_build.specs.ExtensionNames.{extension_name}
use Rattle.gql_schema_build.specs.Merged.{firsts}
use Rattle.gql_schema_build.specs.declared.type_definition.TypeDefinition.{TypeDefinition}
use Rattle.gql_schema_build.specs.declared.type_definition.TypeDefinition.TheVariants as type
use Rattle.gql_schema_build.specs.declared.type_extension.TypeExtension.{TypeExtension}
use Rattle.gql_schema_build.specs.declared.type_extension.TypeExtension.TheVariants as extension
use Rattle.gql_schema_build.specs.PartNames.{input_name}
use Rattle.gql_schema_types.specs.Entries.{is_called, entry, put_new, joined}
use Rattle.gql_schema_types.specs.declared.types.ExtendedType.{ExtendedType}
use Rattle.gql_schema_types.specs.declared.types.ExtendedType.TheVariants as made

-- a field that is not built in, with a constant default or none
pub record IsUsers (field : InputValueDefinition) : Type 0 where
  pub constant : is_constant_default field.default_value ≡ true
  pub written : is_written field.location ≡ true

abbrev pub OfDefinition : TypeDefinition → Type 0
OfDefinition (type.InputObject d) = Each IsUsers d.fields
OfDefinition _ = Unit {0}

abbrev pub OfExtension : TypeExtension → Type 0
OfExtension (extension.InputObject e) = Each IsUsers e.fields
OfExtension _ = Unit {0}

abbrev pub OfType : ExtendedType → Type 0
OfType (made.InputObject it) = Each IsUsers it.fields
OfType _ = Unit {0}

-- ---- lists

module _ {X : Type 0} (P : X → Type 0) where
  each-append : (xs ys : List X) → Each P xs → Each P ys → Each P (xs ++ ys)
  each-append [] ys h g = g
  each-append (x ∷ xs) ys h g = (h.0, each-append xs ys h.1 g)

  each-filter : (p : X → Bool) (xs : List X) → Each P xs → Each P (filter p xs)
  each-filter p [] h = tt
  each-filter p (x ∷ xs) h = by_test (p x) (each-filter p xs h.1)
    where
      by_test : (b : Bool) → Each P (filter p xs) → Each P (cond b (x ∷ filter p xs) (filter p xs))
      by_test true rest = (h.0, rest)
      by_test false rest = rest

  each-joined : (own : X → Named) (seen xs : List X) → Each P seen → Each P xs → Each P (joined own seen xs)
  each-joined own seen [] h g = h
  each-joined own seen (x ∷ xs) h g = each-joined own (put_new own seen x) xs (by_test (is_some (entry own (own x).text seen))) g.1
    where
      by_test : (b : Bool) → Each P (if b then seen else seen ++ x ∷ [])
      by_test true = h
      by_test false = each-append seen (x ∷ []) h (g.0, tt)

-- ---- from definitions to types

of-extended : (d : TypeDefinition) (e : TypeExtension) → OfDefinition d → OfExtension e → OfDefinition (extended d e)
of-extended (type.InputObject d) (extension.InputObject e) h g = each-append IsUsers d.fields e.fields h g
of-extended (type.Scalar d) (extension.Scalar e) h g = tt
of-extended (type.Object d) (extension.Object e) h g = tt
of-extended (type.Interface d) (extension.Interface e) h g = tt
of-extended (type.Union d) (extension.Union e) h g = tt
of-extended (type.Enum d) (extension.Enum e) h g = tt
of-extended d e h g = h

of-all : (es : List TypeExtension) (d : TypeDefinition) → Each OfExtension es → OfDefinition d → OfDefinition (fold extended d es)
of-all [] d g h = h
of-all (e ∷ es) d g h = of-all es (extended d e) g.1 (of-extended d e h g.0)

of-built : (d : TypeDefinition) → OfDefinition d → OfType (built d)
of-built (type.InputObject d) h = each-joined IsUsers input_name [] d.fields tt h
of-built (type.Scalar d) h = tt
of-built (type.Object d) h = tt
of-built (type.Interface d) h = tt
of-built (type.Union d) h = tt
of-built (type.Enum d) h = tt

of-firsts : (es : List TypeExtension) (ds : List TypeDefinition) → Each OfExtension es → Each OfDefinition ds → Each OfType (map (λ d. built (all_extended es d)) ds)
of-firsts es [] g h = tt
of-firsts es (d ∷ ds) g h = (
  of-built (all_extended es d) (of-all (filter (is_called extension_name (definition_name d).text) es) d (each-filter OfExtension (is_called extension_name (definition_name d).text) es g) h.0),
  of-firsts es ds g h.1,
)

of-others : (built_in ds : List TypeDefinition) → Each OfDefinition ds → Each OfDefinition (without_redefinitions built_in ds)
of-others built_in [] h = tt
of-others built_in (d ∷ ds) h = each-append OfDefinition (other built_in d) (without_redefinitions built_in ds) (by_test (redefines built_in d)) (of-others built_in ds h.1)
  where
    by_test : (b : Bool) → Each OfDefinition (if b then [] else d ∷ [])
    by_test true = tt
    by_test false = (h.0, tt)

pub of-types : (built_in ds : List TypeDefinition) (es : List TypeExtension) → Each OfDefinition built_in → Each OfDefinition ds → Each OfExtension es
    → Each OfType (types (built_in ++ without_redefinitions built_in ds) es)
of-types built_in ds es b h g =
    of-firsts es (firsts (built_in ++ without_redefinitions built_in ds)) g
    (each-joined OfDefinition definition_name [] (built_in ++ without_redefinitions built_in ds) tt
    (each-append OfDefinition built_in (without_redefinitions built_in ds) b (of-others built_in ds h)))

-- ---- from a text to definitions

pub record OfSystem (s : TypeSystem) : Type 0 where
  pub types : Each OfDefinition s.types
  pub extensions : Each OfExtension s.type_extensions

module _ (file : FileId) (user : (file.number == 1) ≡ false) where
  written : (place : Option Span) → IsIn file place → is_written place ≡ true
  written None h = refl
  written (Some span) h = ap (λ (f : FileId). not (f.number == 1)) h ∙ ap not user

  users : (fields : List InputValueDefinition) → Each (IsConstantField file) fields → Each IsUsers fields
  users [] h = tt
  users (field ∷ fields) h = (record { constant = h.0.constant; written = written field.location h.0.place }, users fields h.1)

  one : (s : TypeSystem) (d : Definition) → OfSystem s → HasConstantDefaults file d → OfSystem (with_definition s d)
  one s (definition.OperationDefinition it) h g = h
  one s (definition.FragmentDefinition it) h g = h
  one s (definition.SchemaDefinition it) h g = record { types = h.types; extensions = h.extensions }
  one s (definition.SchemaExtension it) h g = record { types = h.types; extensions = h.extensions }
  one s (definition.DirectiveDefinition it) h g = record { types = h.types; extensions = h.extensions }
  one s (definition.ScalarTypeDefinition it) h g = record { types = each-append OfDefinition s.types (type.Scalar it ∷ []) h.types (tt, tt); extensions = h.extensions }
  one s (definition.ObjectTypeDefinition it) h g = record { types = each-append OfDefinition s.types (type.Object it ∷ []) h.types (tt, tt); extensions = h.extensions }
  one s (definition.InterfaceTypeDefinition it) h g = record { types = each-append OfDefinition s.types (type.Interface it ∷ []) h.types (tt, tt); extensions = h.extensions }
  one s (definition.UnionTypeDefinition it) h g = record { types = each-append OfDefinition s.types (type.Union it ∷ []) h.types (tt, tt); extensions = h.extensions }
  one s (definition.EnumTypeDefinition it) h g = record { types = each-append OfDefinition s.types (type.Enum it ∷ []) h.types (tt, tt); extensions = h.extensions }
  one s (definition.InputObjectTypeDefinition it) h g = record {
    types = each-append OfDefinition s.types (type.InputObject it ∷ []) h.types (users it.fields (each-of (IsConstantField file) it.fields g), tt);
    extensions = h.extensions;
  }
  one s (definition.ScalarTypeExtension it) h g = record { types = h.types; extensions = each-append OfExtension s.type_extensions (extension.Scalar it ∷ []) h.extensions (tt, tt) }
  one s (definition.ObjectTypeExtension it) h g = record { types = h.types; extensions = each-append OfExtension s.type_extensions (extension.Object it ∷ []) h.extensions (tt, tt) }
  one s (definition.InterfaceTypeExtension it) h g = record { types = h.types; extensions = each-append OfExtension s.type_extensions (extension.Interface it ∷ []) h.extensions (tt, tt) }
  one s (definition.UnionTypeExtension it) h g = record { types = h.types; extensions = each-append OfExtension s.type_extensions (extension.Union it ∷ []) h.extensions (tt, tt) }
  one s (definition.EnumTypeExtension it) h g = record { types = h.types; extensions = each-append OfExtension s.type_extensions (extension.Enum it ∷ []) h.extensions (tt, tt) }
  one s (definition.InputObjectTypeExtension it) h g = record {
    types = h.types;
    extensions = each-append OfExtension s.type_extensions (extension.InputObject it ∷ []) h.extensions (users it.fields (each-of (IsConstantField file) it.fields g), tt);
  }

  pub of-definitions : (ds : List Definition) (s : TypeSystem) → OfSystem s → All (HasConstantDefaults file) ds → OfSystem (with_definitions s ds)
  of-definitions [] s h g = h
  of-definitions (d ∷ ds) s h g =
      of-definitions ds (with_definition s d) (one s d h (All-head (HasConstantDefaults file) d ds g)) (All-tail (HasConstantDefaults file) d ds g)

-- no input object is built in
pub of-built_in : (ds : List TypeDefinition) → list_any is_input_object ds ≡ false → Each OfDefinition ds
of-built_in [] none = tt
of-built_in (d ∷ ds) none = let both = neither (is_input_object d) (list_any is_input_object ds) none in (by_kind d both.0, of-built_in ds both.1)
  where
    neither : (a b : Bool) → (a || b) ≡ false → (a ≡ false) × (b ≡ false)
    neither true b h = absurd cc
    neither false b h = (refl, h)

    by_kind : (d : TypeDefinition) → is_input_object d ≡ false → OfDefinition d
    by_kind (type.InputObject it) h = absurd cc
    by_kind (type.Scalar it) h = tt
    by_kind (type.Object it) h = tt
    by_kind (type.Interface it) h = tt
    by_kind (type.Union it) h = tt
    by_kind (type.Enum it) h = tt
