-- Definitions that say what is shown of a schema build without a fault a schema of which the same is shown.
use Rattle.std.proofs.Common.{◌≡◌, ℕ, true, false, not, Option, Some, None, List, [], ◌∷◌, ◌++◌, map, fold, refl, sym, ap, ◌∙◌, subst}
use Rattle.std.specs.Prelude.{option_and_then, codes}
use Rattle.std.specs.List.{IsDistinct, AllByRecursion, filter, flat_map}
use Rattle.std.specs.Option.{option_map}
use Rattle.std.specs.Str.{bytes_eq}
use Rattle.std.proofs.lemmas.List.{map-append}
use Rattle.gql_ast_base.specs.declared.value.Value.{Value}
use Rattle.gql_ast.specs.declared.schema_definition.DirectiveDefinition.{DirectiveDefinition}
use Rattle.gql_ast_laws.specs.Printed.{from_nowhere}
use Rattle.gql_introspection.specs.Deprecation.{default_in, default_reason}
use Rattle.gql_client_schema_laws.specs.Parts.{said_definition, said_type, shown_directive}
use Rattle.gql_client_schema_laws.specs.Shown.{Shows, Says, IsOwn, HasBuiltInNames, finished, unfinished, all_finished, is_own_name}
use Rattle.gql_client_schema_laws.proofs.Names.{unmapped, none_repeats, stay_joined, distinct_of, all_new, all_put_distinct, texts_shown}
use Rattle.gql_client_schema_laws.proofs.Definitions.{type_text, directive_text, is_own_directive, built_unextended, faults_unextended, extended_type, own_texts, are_own, all_unfinished, are_built_in, not_own_names, kept_own, none_redefined, all_kept, from_nowhere_already, kept_description}
use Rattle.gql_client_schema_laws.proofs.Lists.{all_unmapped, flat_map_append, filter_none, filter_all, all_put_pass, distinct_both, entry_before}
use Rattle.gql_client_schema_laws.proofs.OwnTypes.{said_name, own_of}
use Rattle.gql_client_schema_laws.proofs.Parts.{HasDistinctParts, all_built_distinct, all_faultless, all_said_built}
use Rattle.gql_client_schema_laws.proofs.Roots.{texts_of, with_said, all_free as free_from, no_roots as no_texts, made, said_all, none_doubled, listed, listed_free}
use Rattle.gql_diag_messages.specs.declared.diagnostic_data.DiagnosticData.{DiagnosticData}
use Rattle.gql_client_schema_laws.proofs.Pairs.{empty_left, empty_right, all_mapped}
use Rattle.gql_schema_build.specs.Build as build
use Rattle.gql_schema_build.specs.Built.{built, part_faults}
use Rattle.gql_schema_build.specs.BuiltInScalarTypeRedefinition.{built_in_scalar_type_redefinitions, without_redefinitions}
use Rattle.gql_schema_build.specs.DefinitionNames.{definition_name}
use Rattle.gql_schema_build.specs.DirectiveDefinitionCollision.{directive_name, second_directive, directive_definition_collisions}
use Rattle.gql_schema_build.specs.Directives.{directives}
use Rattle.gql_schema_build.specs.Merged.{firsts}
use Rattle.gql_schema_build.specs.Roots.{with_root}
use Rattle.gql_schema_build.specs.SchemaDefinitions.{schema_definition, schema_faults}
use Rattle.gql_schema_build.specs.TypeDefinitionCollision.{second, type_definition_collisions}
use Rattle.gql_schema_build.specs.TypeTable.{all_extended, types, extension_faults, type_faults}
use Rattle.gql_schema_build.specs.declared.built_in.BuiltIn.{BuiltIn}
use Rattle.gql_schema_build.specs.declared.type_definition.TypeDefinition.{TypeDefinition}
use Rattle.gql_schema_build.specs.declared.type_extension.TypeExtension.{TypeExtension}
use Rattle.gql_schema_build.specs.declared.type_system.TypeSystem.{TypeSystem}
use Rattle.gql_schema_types.proofs.Joins.{none-distinct, put-all}
use Rattle.gql_schema_types.specs.Entries.{texts, entry, put, repeats}
use Rattle.gql_schema_types.specs.declared.schema.Schema.{Schema}
use Rattle.gql_schema_types.specs.declared.schema.SchemaDefinition.{SchemaDefinition}
use Rattle.gql_schema_types.specs.declared.types.ExtendedType.{ExtendedType}
use Rattle.gql_sdl.specs.Schemas.{is_directive_name, is_built_in}
use Rattle.gql_sdl.specs.declared.shown.ShownSchema.{ShownSchema}
use Rattle.gql_sdl.specs.declared.shown.ShownType.{ShownType}
use Rattle.gql_source.specs.File.{Files}

-- ---- directives

module _ (built_ins : List DirectiveDefinition) (names : AllByRecursion (λ d. is_directive_name (directive_name d).text ≡ true) built_ins) where
  -- the built-in ones, of each name the last
  abbrev pub table : List DirectiveDefinition
  table = fold (put directive_name) [] built_ins

  table_names : AllByRecursion (λ d. is_directive_name (directive_name d).text ≡ true) table
  table_names = all_put_pass directive_name is_directive_name [] built_ins tt names

  module _ (ds : List DirectiveDefinition) (own : AllByRecursion (λ d. is_directive_name (directive_name d).text ≡ false) ds)
      (distinct : IsDistinct bytes_eq (texts directive_name ds)) where
    pub behind_table : directives built_ins ds ≡ table ++ ds
    behind_table =
        ap (fold (put directive_name) table) (stay_joined directive_name [] ds distinct)
        ∙ put-all directive_name table ds
        (distinct_both directive_name is_directive_name table ds table_names own (all_put_distinct directive_name [] built_ins (none-distinct directive_name)) distinct)

    pub same_default : option_and_then default_in (entry directive_name (codes "deprecated") (directives built_ins ds))
        ≡ option_and_then default_in (entry directive_name (codes "deprecated") table)
    same_default =
        ap (λ l. option_and_then default_in (entry directive_name (codes "deprecated") l)) behind_table
        ∙ ap (option_and_then default_in) (entry_before directive_name is_directive_name (codes "deprecated") refl table ds own)

  module _ (why : Option Value) where
    table_left_out : (xs : List DirectiveDefinition) → AllByRecursion (λ d. is_directive_name (directive_name d).text ≡ true) xs
        → AllByRecursion (λ d. is_own_directive d ≡ false) (map (shown_directive why) xs)
    table_left_out [] all = tt
    table_left_out (x ∷ xs) all = (ap not all.0, table_left_out xs all.1)

    own_kept : (xs : List DirectiveDefinition) → AllByRecursion (λ d. is_directive_name (directive_name d).text ≡ false) xs
        → AllByRecursion (λ d. is_own_directive d ≡ true) (map (shown_directive why) xs)
    own_kept [] all = tt
    own_kept (x ∷ xs) all = (ap not all.0, own_kept xs all.1)

    pub own_alone : (ds : List DirectiveDefinition) → AllByRecursion (λ d. is_directive_name (directive_name d).text ≡ false) ds
        → filter is_own_directive (map (shown_directive why) (table ++ ds)) ≡ map (shown_directive why) ds
    own_alone ds own =
        ap (filter is_own_directive) (map-append (shown_directive why) table ds)
        ∙ filter_none is_own_directive (map (shown_directive why) table) (map (shown_directive why) ds) (table_left_out table table_names)
        ∙ filter_all is_own_directive (map (shown_directive why) ds) (own_kept ds own)

-- ---- the schema that is shown

module _ (sources : Files) (built_in : BuiltIn) (first : TypeSystem) (own : IsOwn first) (names : HasBuiltInNames built_in)
    (right : build.build_faults false built_in first ≡ []) where
  abbrev built_ins : List TypeDefinition
  built_ins = built_in.types

  abbrev theirs : List TypeDefinition
  theirs = without_redefinitions built_ins first.types

  abbrev es : List TypeExtension
  es = first.type_extensions

  abbrev schema : Schema
  schema = build.built sources false built_in first

  abbrev why : Option Value
  why = default_reason schema

  -- -- what it rests on that nothing is wrong

  abbrev collisions : List DiagnosticData
  collisions = directive_definition_collisions first.directives

  abbrev of_types : List DiagnosticData
  of_types = build.faults_of_types false built_in first

  abbrev of_schema : List DiagnosticData
  of_schema = schema_faults first.schemas first.schema_extensions (build.all_types false built_in first)

  types_right : type_faults (built_ins ++ theirs) es ≡ []
  types_right =
      empty_right (built_in_scalar_type_redefinitions built_ins first.types) (type_faults (built_ins ++ theirs) es)
      (empty_left of_types of_schema (empty_right collisions (of_types ++ of_schema) right))

  distinct_directives : IsDistinct bytes_eq (texts directive_name first.directives)
  distinct_directives =
      distinct_of directive_name [] first.directives (none-distinct directive_name)
      (unmapped second_directive (repeats directive_name [] first.directives) (empty_left collisions (of_types ++ of_schema) right))

  distinct_types : IsDistinct bytes_eq (texts definition_name (built_ins ++ theirs))
  distinct_types =
      distinct_of definition_name [] (built_ins ++ theirs) (none-distinct definition_name)
      (unmapped (λ pair. second pair.0 pair.1) (repeats definition_name [] (built_ins ++ theirs))
      (empty_left (type_definition_collisions (built_ins ++ theirs)) _ types_right))

  all_first : firsts (built_ins ++ theirs) ≡ built_ins ++ theirs
  all_first = stay_joined definition_name [] (built_ins ++ theirs) distinct_types

  unnamed : AllByRecursion (λ d. is_own_name (definition_name d).text ≡ false) built_ins
  unnamed = not_own_names built_ins names.types

  built_ins_right : flat_map part_faults built_ins ≡ []
  built_ins_right =
      let parts : flat_map (λ d. part_faults (all_extended es d)) (firsts (built_ins ++ theirs)) ≡ [] =
      empty_right (extension_faults (built_ins ++ theirs) es) _ (empty_right (type_definition_collisions (built_ins ++ theirs)) _ types_right) in
      sym (faults_unextended es own.type_extensions built_ins unnamed)
      ∙ empty_left _ (flat_map (λ d. part_faults (all_extended es d)) theirs)
      (sym (flat_map_append (λ d. part_faults (all_extended es d)) built_ins theirs)
      ∙ sym (ap (flat_map (λ d. part_faults (all_extended es d))) all_first) ∙ parts)

  its_types : types (built_ins ++ theirs) es ≡ map built built_ins ++ map (extended_type es) theirs
  its_types =
      ap (map (extended_type es)) all_first ∙ map-append (extended_type es) built_ins theirs
      ∙ ap (λ l. l ++ map (extended_type es) theirs) (built_unextended es own.type_extensions built_ins unnamed)

  -- -- what it says

  abbrev built_in_said : List ShownType
  built_in_said = map (said_type why) (map built built_ins)

  abbrev own_said : List ShownType
  own_said = map (said_type why) (map (extended_type es) theirs)

  its_said : map (said_type why) schema.types ≡ built_in_said ++ own_said
  its_said = ap (map (said_type why)) its_types ∙ map-append (said_type why) (map built built_ins) (map (extended_type es) theirs)

  alone : map unfinished (filter (λ ty. not (is_built_in ty)) (map (finished (built_in_said ++ own_said)) (built_in_said ++ own_said))) ≡ own_said
  alone =
      own_of (built_in_said ++ own_said) built_in_said own_said (are_built_in why built_ins names.types)
      (are_own es own.type_extensions why theirs (kept_own built_ins (λ d. is_own_name (definition_name d).text ≡ true) first.types own.types))
      (all_unfinished why (map (extended_type es) theirs))

  module _ (shown : ShownSchema) (shows : Shows schema shown) (user : TypeSystem) (says : Says why user shown) where
    abbrev us : List TypeDefinition
    us = user.types

    -- -- types

    said : map (said_definition why) us ≡ own_said
    said =
        says.types ∙ ap (λ l. map unfinished (filter (λ ty. not (is_built_in ty)) l)) (shows.types ∙ ap all_finished its_said) ∙ alone

    parts : AllByRecursion HasDistinctParts (map (said_definition why) us)
    parts = subst (AllByRecursion HasDistinctParts) (sym said) (all_built_distinct why (all_extended es) theirs)

    same_names : texts definition_name us ≡ texts definition_name theirs
    same_names =
        texts_shown definition_name (said_definition why) type_text (said_name why) us ∙ ap (map type_text) said ∙ own_texts es own.type_extensions why theirs

    distinct : IsDistinct bytes_eq (texts definition_name (built_ins ++ us))
    distinct =
        let name_of : TypeDefinition → List ℕ = λ d. (definition_name d).text in
        subst (IsDistinct bytes_eq)
        (map-append name_of built_ins theirs ∙ ap (λ l. texts definition_name built_ins ++ l) (sym same_names) ∙ sym (map-append name_of built_ins us))
        distinct_types

    new : AllByRecursion (λ d. entry definition_name (definition_name d).text built_ins ≡ None) us
    new = all_new definition_name built_ins us distinct

    considered : built_ins ++ without_redefinitions built_ins us ≡ built_ins ++ us
    considered = ap (λ l. built_ins ++ l) (all_kept built_ins us new)

    all_first_again : firsts (built_ins ++ us) ≡ built_ins ++ us
    all_first_again = stay_joined definition_name [] (built_ins ++ us) distinct

    pub types_again : build.all_types false built_in user ≡ map built built_ins ++ map built us
    types_again =
        ap (types (built_ins ++ without_redefinitions built_ins us)) says.no_type_extensions ∙ ap (λ l. types l []) considered
        ∙ ap (map built) all_first_again ∙ map-append built built_ins us

    said_again : map (said_type why) (build.all_types false built_in user) ≡ map (said_type why) schema.types
    said_again =
        ap (map (said_type why)) types_again ∙ map-append (said_type why) (map built built_ins) (map built us)
        ∙ ap (λ l. built_in_said ++ l) (all_said_built why us parts ∙ said) ∙ sym its_said

    types_right_again : type_faults (built_ins ++ without_redefinitions built_ins us) user.type_extensions ≡ []
    types_right_again =
        ap (type_faults (built_ins ++ without_redefinitions built_ins us)) says.no_type_extensions ∙ ap (λ l. type_faults l []) considered
        ∙ ap (λ l. map (λ pair. second pair.0 pair.1) l ++ flat_map part_faults (firsts (built_ins ++ us))) (none_repeats definition_name [] (built_ins ++ us) distinct)
        ∙ ap (flat_map part_faults) all_first_again ∙ flat_map_append part_faults built_ins us
        ∙ ap (λ l. l ++ flat_map part_faults us) built_ins_right ∙ all_faultless why us parts

    -- -- directives

    its_directives : directives built_in.directives first.directives ≡ table built_in.directives names.directives ++ first.directives
    its_directives = behind_table built_in.directives names.directives first.directives own.directives distinct_directives

    same_directives : map (shown_directive why) user.directives ≡ map (shown_directive why) first.directives
    same_directives =
        says.directives ∙ ap (filter is_own_directive) (shows.directives ∙ ap (map (shown_directive why)) its_directives)
        ∙ own_alone built_in.directives names.directives why first.directives own.directives

    same_directive_names : texts directive_name user.directives ≡ texts directive_name first.directives
    same_directive_names =
        texts_shown directive_name (shown_directive why) directive_text (λ d. refl) user.directives ∙ ap (map directive_text) same_directives
        ∙ sym (texts_shown directive_name (shown_directive why) directive_text (λ d. refl) first.directives)

    distinct_again : IsDistinct bytes_eq (texts directive_name user.directives)
    distinct_again = subst (IsDistinct bytes_eq) (sym same_directive_names) distinct_directives

    own_again : AllByRecursion (λ d. is_directive_name (directive_name d).text ≡ false) user.directives
    own_again =
        all_unmapped (λ n. is_directive_name n ≡ false) (λ d. (directive_name d).text) user.directives
        (subst (AllByRecursion (λ n. is_directive_name n ≡ false)) (sym same_directive_names)
        (all_mapped (λ n. is_directive_name n ≡ false) (λ d. (directive_name d).text) first.directives own.directives))

    pub directives_again : directives built_in.directives user.directives ≡ table built_in.directives names.directives ++ user.directives
    directives_again = behind_table built_in.directives names.directives user.directives own_again distinct_again

    shown_directives_again : shown.directives ≡ map (shown_directive why) (directives built_in.directives user.directives)
    shown_directives_again =
        shows.directives ∙ ap (map (shown_directive why)) its_directives
        ∙ map-append (shown_directive why) (table built_in.directives names.directives) first.directives
        ∙ ap (λ l. map (shown_directive why) (table built_in.directives names.directives) ++ l) (sym same_directives)
        ∙ sym (map-append (shown_directive why) (table built_in.directives names.directives) user.directives)
        ∙ ap (map (shown_directive why)) (sym directives_again)

    same_why : why ≡ option_and_then default_in (entry directive_name (codes "deprecated") (directives built_in.directives user.directives))
    same_why =
        same_default built_in.directives names.directives first.directives own.directives distinct_directives
        ∙ sym (same_default built_in.directives names.directives user.directives own_again distinct_again)

    -- -- roots

    abbrev no_roots : SchemaDefinition
    no_roots = record {
      description = says.schema.description;
      directives = says.schema.directives;
      query = None;
      mutation = None;
      subscription = None;
      location = says.schema.location;
    }

    abbrev with_roots : SchemaDefinition
    with_roots = fold with_root no_roots says.schema.root_operations

    pub definition_again : (ts : List ExtendedType) → schema_definition user.schemas user.schema_extensions ts ≡ with_roots
    definition_again ts =
        ap (λ schemas. schema_definition schemas user.schema_extensions ts) says.only
        ∙ ap (λ extensions. schema_definition (says.schema ∷ []) extensions ts) says.no_schema_extensions

    schema_right_again : (ts : List ExtendedType) → schema_faults user.schemas user.schema_extensions ts ≡ []
    schema_right_again ts =
        ap (λ schemas. schema_faults schemas user.schema_extensions ts) says.only
        ∙ ap (λ extensions. schema_faults (says.schema ∷ []) extensions ts) says.no_schema_extensions
        ∙ none_doubled no_roots says.schema.root_operations
        (ap (free_from no_texts) says.roots ∙ listed_free shown.query.text shown.mutation shown.subscription)

    roots_again : texts_of with_roots ≡ made shown.query.text shown.mutation shown.subscription
    roots_again =
        said_all no_roots says.schema.root_operations ∙ ap (fold with_said no_texts) says.roots ∙ listed shown.query.text shown.mutation shown.subscription

    -- -- all of it

    pub no_fault : build.build_faults false built_in user ≡ []
    no_fault =
        ap (λ l. map second_directive l ++ (build.faults_of_types false built_in user
        ++ schema_faults user.schemas user.schema_extensions (build.all_types false built_in user)))
        (none_repeats directive_name [] user.directives distinct_again)
        ∙ ap (λ l. (l ++ type_faults (built_ins ++ without_redefinitions built_ins us) user.type_extensions)
        ++ schema_faults user.schemas user.schema_extensions (build.all_types false built_in user)) (none_redefined built_ins us new)
        ∙ ap (λ l. l ++ schema_faults user.schemas user.schema_extensions (build.all_types false built_in user)) types_right_again
        ∙ schema_right_again (build.all_types false built_in user)

    pub shows_again : (files : Files) → Shows (build.built files false built_in user) shown
    shows_again files =
        let definition : schema_definition user.schemas user.schema_extensions (build.all_types false built_in user) ≡ with_roots =
        definition_again (build.all_types false built_in user) in
        record {
          description = sym says.description ∙ sym (kept_description no_roots says.schema.root_operations) ∙ ap (λ d. d.description) (sym definition);
          query =
              sym (from_nowhere_already (Some shown.query) schema.schema_definition.query shows.query)
              ∙ ap (λ t. t.query) (sym roots_again) ∙ ap (λ d. option_map from_nowhere d.query) (sym definition);
          mutation =
              sym (from_nowhere_already shown.mutation schema.schema_definition.mutation shows.mutation)
              ∙ ap (λ t. t.mutation) (sym roots_again) ∙ ap (λ d. option_map from_nowhere d.mutation) (sym definition);
          subscription =
              sym (from_nowhere_already shown.subscription schema.schema_definition.subscription shows.subscription)
              ∙ ap (λ t. t.subscription) (sym roots_again) ∙ ap (λ d. option_map from_nowhere d.subscription) (sym definition);
          types =
              shows.types ∙ ap all_finished (sym said_again)
              ∙ ap (λ w. all_finished (map (said_type w) (build.all_types false built_in user))) same_why;
          directives = shown_directives_again ∙ ap (λ w. map (shown_directive w) (directives built_in.directives user.directives)) same_why;
        }
