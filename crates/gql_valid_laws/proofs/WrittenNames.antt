-- The interfaces that a schema's types list, and the members of its unions, are what users wrote.
use Rattle.std.proofs.Common.{◌≡◌, ℕ, Bool, true, false, not, ◌==◌, cond, if◌then◌else◌, Option, Some, None, is_some, List, [], ◌∷◌, ◌++◌, map, fold, refl, sym, ap, ◌∙◌, subst}
use Rattle.std.specs.List.{filter}
use Rattle.gql_source.specs.Span.{Span}
use Rattle.gql_source.specs.declared.file_id.FileId.{FileId}
use Rattle.gql_ast.specs.declared.definition.Definition.{Definition}
use Rattle.gql_ast.specs.declared.definition.Definition.TheVariants as definition
use Rattle.gql_ast.specs.declared.document.Document.{Document}
use Rattle.gql_ast_base.specs.Names.{Named}
use Rattle.gql_ast_laws.proofs.Kept.{Each}
use Rattle.gql_ast_laws.specs.Defaults.{IsIn}
use Rattle.gql_ast_laws.specs.Meant.{IsDocumentOf}
use Rattle.gql_parser.specs.BuiltInText.{built_in_text}
use Rattle.gql_parser.specs.Parsers.{its_file}
use Rattle.gql_parser.specs.SchemaText.{AreDefinitions, all_of, its_given}
use Rattle.gql_rules_values.specs.Written.{is_written}
use Rattle.gql_schema.proofs.Known.{SoundLaw, by_rows, is_built_in}
use Rattle.gql_schema.proofs.TypeRows.{type_rows}
use Rattle.gql_schema.specs.BuiltInSchema.{IsBuiltIn, built_in_file}
use Rattle.gql_schema.specs.Builders.{Taken, built as schema_of}
use Rattle.gql_schema.specs.Rows as rows
use Rattle.gql_schema.specs.bridge.Rows as rows_bridge
use Rattle.gql_schema.specs.declared.built_in_row.DefinitionRow.{DefinitionRow}
use Rattle.gql_schema.specs.declared.built_in_row.DefinitionRow.TheVariants as row
use Rattle.gql_schema.specs.declared.built_in_text.TheConstants.{BUILT_IN_TEXT}
use Rattle.gql_schema_build.specs.Built.{built}
use Rattle.gql_schema_build.specs.BuiltInScalarTypeRedefinition.{redefines, other, without_redefinitions}
use Rattle.gql_schema_build.specs.DefinitionNames.{definition_name}
use Rattle.gql_schema_build.specs.Extended.{extended}
use Rattle.gql_schema_build.specs.ExtensionNames.{extension_name}
use Rattle.gql_schema_build.specs.Faults.{itself}
use Rattle.gql_schema_build.specs.Merged.{firsts}
use Rattle.gql_schema_build.specs.TypeSystems.{with_definition, with_definitions, no_definitions}
use Rattle.gql_schema_build.specs.TypeTable.{all_extended, types}
use Rattle.gql_schema_build.specs.declared.built_in.BuiltIn.{BuiltIn}
use Rattle.gql_schema_build.specs.declared.type_definition.TypeDefinition.{TypeDefinition}
use Rattle.gql_schema_build.specs.declared.type_definition.TypeDefinition.TheVariants as type
use Rattle.gql_schema_build.specs.declared.type_extension.TypeExtension.{TypeExtension}
use Rattle.gql_schema_build.specs.declared.type_extension.TypeExtension.TheVariants as extension
use Rattle.gql_schema_build.specs.declared.type_system.TypeSystem.{TypeSystem}
use Rattle.gql_schema_types.specs.Entries.{is_called, entry, put_new, joined}
use Rattle.gql_schema_types.specs.declared.types.ExtendedType.{ExtendedType}
use Rattle.gql_schema_types.specs.declared.types.ExtendedType.TheVariants as made
use Rattle.gql_valid_laws.proofs.NamesIn.{IsNameIn, HasNamesIn, document-in}

abbrev pub IsWritten : Named → Type 0
IsWritten name = is_written name.location ≡ true

abbrev OfDefinition : TypeDefinition → Type 0
OfDefinition (type.Object d) = Each IsWritten d.implements_interfaces
OfDefinition (type.Interface d) = Each IsWritten d.implements_interfaces
OfDefinition (type.Union d) = Each IsWritten d.members
OfDefinition _ = Unit {0}

abbrev OfExtension : TypeExtension → Type 0
OfExtension (extension.Object e) = Each IsWritten e.implements_interfaces
OfExtension (extension.Interface e) = Each IsWritten e.implements_interfaces
OfExtension (extension.Union e) = Each IsWritten e.members
OfExtension _ = Unit {0}

abbrev pub NamesWritten : ExtendedType → Type 0
NamesWritten (made.Object it) = Each IsWritten it.implements_interfaces
NamesWritten (made.Interface it) = Each IsWritten it.implements_interfaces
NamesWritten (made.Union it) = Each IsWritten it.members
NamesWritten _ = Unit {0}

-- ---- lists

module _ {X : Type 0} (P : X → Type 0) where
  each-append : (xs ys : List X) → Each P xs → Each P ys → Each P (xs ++ ys)
  each-append [] ys h g = g
  each-append (x ∷ xs) ys h g = (h.0, each-append xs ys h.1 g)

  each-filter : (p : X → Bool) (xs : List X) → Each P xs → Each P (filter p xs)
  each-filter p [] h = tt
  each-filter p (x ∷ xs) h = by_test (p x) (each-filter p xs h.1)
    where
      by_test : (b : Bool) → Each P (filter p xs) → Each P (cond b (x ∷ filter p xs) (filter p xs))
      by_test true rest = (h.0, rest)
      by_test false rest = rest

  each-joined : (own : X → Named) (seen xs : List X) → Each P seen → Each P xs → Each P (joined own seen xs)
  each-joined own seen [] h g = h
  each-joined own seen (x ∷ xs) h g = each-joined own (put_new own seen x) xs (by_test (is_some (entry own (own x).text seen))) g.1
    where
      by_test : (b : Bool) → Each P (if b then seen else seen ++ x ∷ [])
      by_test true = h
      by_test false = each-append seen (x ∷ []) h (g.0, tt)

-- ---- from definitions to types

of-extended : (d : TypeDefinition) (e : TypeExtension) → OfDefinition d → OfExtension e → OfDefinition (extended d e)
of-extended (type.Object d) (extension.Object e) h g = each-append IsWritten d.implements_interfaces e.implements_interfaces h g
of-extended (type.Interface d) (extension.Interface e) h g = each-append IsWritten d.implements_interfaces e.implements_interfaces h g
of-extended (type.Union d) (extension.Union e) h g = each-append IsWritten d.members e.members h g
of-extended (type.Scalar d) (extension.Scalar e) h g = tt
of-extended (type.Enum d) (extension.Enum e) h g = tt
of-extended (type.InputObject d) (extension.InputObject e) h g = tt
of-extended d e h g = h

of-all : (es : List TypeExtension) (d : TypeDefinition) → Each OfExtension es → OfDefinition d → OfDefinition (fold extended d es)
of-all [] d g h = h
of-all (e ∷ es) d g h = of-all es (extended d e) g.1 (of-extended d e h g.0)

of-built : (d : TypeDefinition) → OfDefinition d → NamesWritten (built d)
of-built (type.Object d) h = each-joined IsWritten itself [] d.implements_interfaces tt h
of-built (type.Interface d) h = each-joined IsWritten itself [] d.implements_interfaces tt h
of-built (type.Union d) h = each-joined IsWritten itself [] d.members tt h
of-built (type.InputObject d) h = tt
of-built (type.Scalar d) h = tt
of-built (type.Enum d) h = tt

of-firsts : (es : List TypeExtension) (ds : List TypeDefinition) → Each OfExtension es → Each OfDefinition ds → Each NamesWritten (map (λ d. built (all_extended es d)) ds)
of-firsts es [] g h = tt
of-firsts es (d ∷ ds) g h = (
  of-built (all_extended es d) (of-all (filter (is_called extension_name (definition_name d).text) es) d (each-filter OfExtension (is_called extension_name (definition_name d).text) es g) h.0),
  of-firsts es ds g h.1,
)

of-others : (built_in ds : List TypeDefinition) → Each OfDefinition ds → Each OfDefinition (without_redefinitions built_in ds)
of-others built_in [] h = tt
of-others built_in (d ∷ ds) h = each-append OfDefinition (other built_in d) (without_redefinitions built_in ds) (by_test (redefines built_in d)) (of-others built_in ds h.1)
  where
    by_test : (b : Bool) → Each OfDefinition (if b then [] else d ∷ [])
    by_test true = tt
    by_test false = (h.0, tt)

of-types : (built_in ds : List TypeDefinition) (es : List TypeExtension) → Each OfDefinition built_in → Each OfDefinition ds → Each OfExtension es
    → Each NamesWritten (types (built_in ++ without_redefinitions built_in ds) es)
of-types built_in ds es b h g =
    of-firsts es (firsts (built_in ++ without_redefinitions built_in ds)) g
    (each-joined OfDefinition definition_name [] (built_in ++ without_redefinitions built_in ds) tt
    (each-append OfDefinition built_in (without_redefinitions built_in ds) b (of-others built_in ds h)))

-- ---- from a text to definitions

record OfSystem (s : TypeSystem) : Type 0 where
  types : Each OfDefinition s.types
  extensions : Each OfExtension s.type_extensions

module _ (file : FileId) (user : (file.number == 1) ≡ false) where
  written : (place : Option Span) → IsIn file place → is_written place ≡ true
  written None h = refl
  written (Some span) h = ap (λ (f : FileId). not (f.number == 1)) h ∙ ap not user

  theirs : (names : List Named) → Each (IsNameIn file) names → Each IsWritten names
  theirs [] h = tt
  theirs (name ∷ names) h = (written name.location h.0, theirs names h.1)

  typed : (s : TypeSystem) (d : TypeDefinition) → OfSystem s → OfDefinition d → Each OfDefinition (s.types ++ d ∷ [])
  typed s d h g = each-append OfDefinition s.types (d ∷ []) h.types (g, tt)

  more : (s : TypeSystem) (e : TypeExtension) → OfSystem s → OfExtension e → Each OfExtension (s.type_extensions ++ e ∷ [])
  more s e h g = each-append OfExtension s.type_extensions (e ∷ []) h.extensions (g, tt)

  one : (s : TypeSystem) (d : Definition) → OfSystem s → HasNamesIn file d → OfSystem (with_definition s d)
  one s (definition.OperationDefinition it) h g = h
  one s (definition.FragmentDefinition it) h g = h
  one s (definition.SchemaDefinition it) h g = record { types = h.types; extensions = h.extensions }
  one s (definition.SchemaExtension it) h g = record { types = h.types; extensions = h.extensions }
  one s (definition.DirectiveDefinition it) h g = record { types = h.types; extensions = h.extensions }
  one s (definition.ScalarTypeDefinition it) h g = record { types = typed s (type.Scalar it) h tt; extensions = h.extensions }
  one s (definition.ObjectTypeDefinition it) h g = record { types = typed s (type.Object it) h (theirs it.implements_interfaces g); extensions = h.extensions }
  one s (definition.InterfaceTypeDefinition it) h g = record { types = typed s (type.Interface it) h (theirs it.implements_interfaces g); extensions = h.extensions }
  one s (definition.UnionTypeDefinition it) h g = record { types = typed s (type.Union it) h (theirs it.members g); extensions = h.extensions }
  one s (definition.EnumTypeDefinition it) h g = record { types = typed s (type.Enum it) h tt; extensions = h.extensions }
  one s (definition.InputObjectTypeDefinition it) h g = record { types = typed s (type.InputObject it) h tt; extensions = h.extensions }
  one s (definition.ScalarTypeExtension it) h g = record { types = h.types; extensions = more s (extension.Scalar it) h tt }
  one s (definition.ObjectTypeExtension it) h g = record { types = h.types; extensions = more s (extension.Object it) h (theirs it.implements_interfaces g) }
  one s (definition.InterfaceTypeExtension it) h g = record { types = h.types; extensions = more s (extension.Interface it) h (theirs it.implements_interfaces g) }
  one s (definition.UnionTypeExtension it) h g = record { types = h.types; extensions = more s (extension.Union it) h (theirs it.members g) }
  one s (definition.EnumTypeExtension it) h g = record { types = h.types; extensions = more s (extension.Enum it) h tt }
  one s (definition.InputObjectTypeExtension it) h g = record { types = h.types; extensions = more s (extension.InputObject it) h tt }

  of-definitions : (ds : List Definition) (s : TypeSystem) → OfSystem s → Each (HasNamesIn file) ds → OfSystem (with_definitions s ds)
  of-definitions [] s h g = h
  of-definitions (d ∷ ds) s h g = of-definitions ds (with_definition s d) (one s d h g.0) g.1

-- ---- the built-in definitions list no interface, and have no union

abbrev its_text : List ℕ
its_text = BUILT_IN_TEXT.now

of-row : (d : DefinitionRow) → OfDefinition (rows_bridge.definition_of its_text built_in_file d)
unfolding rows.object_of rows.enum_of rows.scalar_of
of-row (row.Object it) = tt
of-row (row.Enum it) = tt
of-row (row.Scalar it) = tt

of-rows : (ds : List DefinitionRow) → Each OfDefinition (map (rows_bridge.definition_of its_text built_in_file) ds)
of-rows [] = tt
of-rows (d ∷ ds) = (of-row d, of-rows ds)

abbrev pub OneDocument : Type 0
OneDocument = (text : List ℕ) (file : FileId) (one other : List Definition) → IsDocumentOf text file one → IsDocumentOf text file other → one ≡ other

module _ (sound : SoundLaw) (law : OneDocument) where
  built-in-written : (built_in : BuiltIn) → IsBuiltIn built_in → Each OfDefinition built_in.types
  built-in-written built_in is =
      let other_text : IsBuiltIn by_rows = is_built_in sound in
      let same : is.definitions ≡ other_text.definitions = law built_in_text built_in_file is.definitions other_text.definitions is.text other_text.text in
      subst (Each OfDefinition)
      (sym (is.types ∙ ap (λ (ds : List Definition). (with_definitions no_definitions ds).types) same ∙ sym other_text.types))
      (of-rows type_rows)

  -- ---- of a text

  pub names-written : (text : List ℕ) (taken : Taken) → AreDefinitions text taken → Each NamesWritten (schema_of taken).types
  names-written text taken d =
      let given : Document = record { sources = its_file (its_given text); definitions = d.definitions } in
      let user : TypeSystem = (all_of d.built_in given).user in
      let system : OfSystem user =
      of-definitions (its_given text).file refl d.definitions no_definitions (record { types = tt; extensions = tt }) (document-in text (its_given text).file d.definitions d.mean) in
      subst (Each NamesWritten) (sym (ap (λ (t : Taken). (schema_of t).types) d.all))
      (of-types d.built_in.types user.types user.type_extensions (built-in-written d.built_in d.are_built_in) system.types system.extensions)
