-- The fields of the built-in text: their names, and the types that they name.
use Rattle.std.proofs.Common.{rules, ◌≡◌, ℕ, Bool, true, false, not, ◌&&◌, List, [], ◌∷◌, map, refl, sym, ap, ◌∙◌, subst, inr}
use Rattle.std.specs.List.{list_all}
use Rattle.std.specs.Option.{option_map_or}
use Rattle.gql_ast.specs.declared.definition.Definition.{Definition}
use Rattle.gql_ast_base.specs.Names.{Named, is_reserved}
use Rattle.gql_ast_base.specs.TypeParts.{named_type}
use Rattle.gql_ast_base.specs.Types.{non_null, non_null_step}
use Rattle.gql_ast_base.specs.declared.type_ref.TypeRef.{out-TypeRef, the_lemmas}
use Rattle.gql_ast_base.specs.declared.type_ref.TypeRef.TheOpen.{TypeRef-F}
use Rattle.gql_ast_base.specs.declared.type_ref.TypeRef.TheVariants.{Named as NamedType, NonNullNamed, List as ListOf, NonNullList}
use Rattle.gql_ast_laws.proofs.Kept.{Each}
use Rattle.gql_parser.proofs.BuiltInText.{OneDocument}
use Rattle.gql_parser.proofs.SourcedFields.{is_core_name, core_names, IsSourced, OfDefinition}
use Rattle.gql_parser.specs.BuiltInText.{built_in_text}
use Rattle.gql_schema.proofs.Known.{SoundLaw, by_rows, is_built_in}
use Rattle.gql_schema.specs.BuiltInSchema.{IsBuiltIn, built_in_file}
use Rattle.gql_schema.specs.Rows as rows
use Rattle.gql_schema.specs.bridge.Rows as rows_bridge
use Rattle.gql_schema.specs.declared.built_in_row.DefinitionRow.{DefinitionRow}
use Rattle.gql_schema.specs.declared.built_in_row.DefinitionRow.TheVariants as row
use Rattle.gql_schema.specs.declared.built_in_row.FieldRow.{FieldRow}
use Rattle.gql_schema.specs.declared.built_in_row.TypeForm.{TypeForm}
use Rattle.gql_schema.specs.declared.built_in_row.TypeForm.TheVariants as form
use Rattle.gql_schema.proofs.TypeRows.{type_rows}
use Rattle.gql_schema.specs.declared.built_in_text.TheConstants.{BUILT_IN_TEXT}
use Rattle.gql_schema_build.specs.DefinitionNames.{definition_name}
use Rattle.gql_schema_build.specs.TypeSystems.{with_definitions, no_definitions}
use Rattle.gql_schema_build.specs.declared.built_in.BuiltIn.{BuiltIn}
use Rattle.gql_schema_build.specs.declared.type_definition.TypeDefinition.{TypeDefinition}
use Rattle.gql_schema_build.specs.declared.type_definition.TypeDefinition.TheVariants as type
use Rattle.gql_schema_types.specs.Entries.{entry}

-- ---- the name within a type of each form

named_required : (name : Named) → named_type (non_null (NamedType name)) ≡ name
named_required name =
    let out : out-TypeRef (NamedType name) ≡ TypeRef-F.Named name = search (rules, the_lemmas) in
    let strict : named_type (NonNullNamed name) ≡ name = search (rules, the_lemmas) in
    ap named_type (ap (non_null_step (NamedType name)) out) ∙ strict

named_required_list : (name : Named) → named_type (non_null (ListOf (non_null (NamedType name)))) ≡ name
named_required_list name =
    let inner = non_null (NamedType name) in
    let out : out-TypeRef (ListOf inner) ≡ TypeRef-F.List inner = search (rules, the_lemmas) in
    let strict : named_type (NonNullList inner) ≡ named_type inner = search (rules, the_lemmas) in
    ap named_type (ap (non_null_step (ListOf inner)) out) ∙ strict ∙ named_required name

formed-name : (f : TypeForm) (name : Named) → named_type (rows.formed f name) ≡ name
formed-name form.Plain name = search (rules, the_lemmas)
formed-name form.Required name = named_required name
formed-name form.List name =
    let inner = non_null (NamedType name) in
    let list : named_type (ListOf inner) ≡ named_type inner = search (rules, the_lemmas) in
    list ∙ named_required name
formed-name form.RequiredList name = named_required_list name

-- ---- the rows

abbrev its_text : List ℕ
its_text = BUILT_IN_TEXT.now

abbrev is_core_field : FieldRow → Bool
is_core_field field =
    not (is_reserved (rows.name_at its_text built_in_file field.name).text) && is_core_name (rows.name_at its_text built_in_file field.ty.1).text

abbrev is_core_row : DefinitionRow → Bool
is_core_row (row.Object it) = list_all is_core_field (rows.fields_at it.fields)
is_core_row _ = true

core_rows : list_all is_core_row type_rows ≡ true
unfolding rows.fields_at
core_rows = refl

both-true : (a b : Bool) → (a && b) ≡ true → (a ≡ true) × (b ≡ true)
both-true true true h = (refl, refl)
both-true true false h = absurd (cc)
both-true false b h = absurd (cc)

not-true : (b : Bool) → not b ≡ true → b ≡ false
not-true true h = absurd cc
not-true false h = refl

of-fields : (fields : List FieldRow) → list_all is_core_field fields ≡ true → Each IsSourced (map (rows.field_of its_text built_in_file) fields)
unfolding rows.field_of
of-fields [] all = tt
of-fields (field ∷ fields) all =
    let first = both-true (is_core_field field) (list_all is_core_field fields) all in
    let its = both-true (not (is_reserved (rows.name_at its_text built_in_file field.name).text)) (is_core_name (rows.name_at its_text built_in_file field.ty.1).text) first.0 in (
      inr (record {
        unreserved = not-true (is_reserved (rows.name_at its_text built_in_file field.name).text) its.0;
        core = ap (λ (n : Named). is_core_name n.text) (formed-name field.ty.0 (rows.name_at its_text built_in_file field.ty.1)) ∙ its.1;
      }),
      of-fields fields first.1,
    )

of-row : (d : DefinitionRow) → is_core_row d ≡ true → OfDefinition (rows_bridge.definition_of its_text built_in_file d)
unfolding rows.object_of rows.enum_of rows.scalar_of
of-row (row.Object it) core = of-fields (rows.fields_at it.fields) core
of-row (row.Enum it) core = tt
of-row (row.Scalar it) core = tt

of-rows : (ds : List DefinitionRow) → list_all is_core_row ds ≡ true → Each OfDefinition (map (rows_bridge.definition_of its_text built_in_file) ds)
of-rows [] all = tt
of-rows (d ∷ ds) all = let first = both-true (is_core_row d) (list_all is_core_row ds) all in (of-row d first.0, of-rows ds first.1)

-- ---- whatever the built-in definitions were read by

types-are : SoundLaw → OneDocument → (built_in : BuiltIn) → IsBuiltIn built_in → built_in.types ≡ by_rows.types
types-are sound law built_in is =
    let other : IsBuiltIn by_rows = is_built_in sound in
    let same : is.definitions ≡ other.definitions = law built_in_text built_in_file is.definitions other.definitions is.text other.text in
    is.types ∙ ap (λ (ds : List Definition). (with_definitions no_definitions ds).types) same ∙ sym other.types

pub built-in-sourced : SoundLaw → OneDocument → (built_in : BuiltIn) → IsBuiltIn built_in → Each OfDefinition built_in.types
built-in-sourced sound law built_in is = subst (Each OfDefinition) (sym (types-are sound law built_in is)) (of-rows type_rows core_rows)

-- ---- the types that are named are there, and none is an input object type

abbrev pub is_output_definition : TypeDefinition → Bool
is_output_definition (type.InputObject d) = false
is_output_definition _ = true

abbrev pub is_output_of : List TypeDefinition → List ℕ → Bool
is_output_of ds name = option_map_or is_output_definition (entry definition_name name ds) false

core_there : list_all (is_output_of by_rows.types) core_names ≡ true
unfolding rows.object_of rows.enum_of rows.scalar_of
core_there = refl

pub core-there : SoundLaw → OneDocument → (built_in : BuiltIn) → IsBuiltIn built_in → list_all (is_output_of built_in.types) core_names ≡ true
core-there sound law built_in is = ap (λ ds. list_all (is_output_of ds) core_names) (types-are sound law built_in is) ∙ core_there
