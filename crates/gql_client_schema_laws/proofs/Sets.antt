-- The groups of what the full query asks for, set by set.
use Rattle.std.proofs.Common.{◌≡◌, ℕ, true, ◌||◌, List, [], ◌∷◌, ◌++◌, is_some, codes, ap, ◌∙◌}
use Rattle.std.specs.Prelude.{length, ◌+◌}
use Rattle.std.specs.List.{AllByRecursion, filter}
use Rattle.std.specs.Str.{bytes_eq}
use Rattle.std.proofs.lemmas.List.{append-nil}
use Rattle.gql_ast_base.specs.Names.{Named}
use Rattle.gql_collect.specs.Applies.{applies, is_listed, has_member}
use Rattle.gql_collect.specs.Flat.{flat, body, when}
use Rattle.gql_collect.specs.Groups.{groups_of, is_defined}
use Rattle.gql_collect.specs.Setting.{Setting}
use Rattle.gql_client_schema_laws.proofs.Lists.{filter_all}
use Rattle.gql_document_types.specs.Ranks.{AreRanked}
use Rattle.gql_document_types.specs.declared.selection.Field.{Field}
use Rattle.gql_document_types.specs.declared.selection.FragmentSpread.{FragmentSpread}
use Rattle.gql_document_types.specs.declared.selection.Selection.{Selection}
use Rattle.gql_exec.specs.IntrospectedRequest.{partial_request}
use Rattle.gql_exec.specs.Thing.{Thing}
use Rattle.gql_exec.specs.Group.{Group, groups_from}
use Rattle.gql_exec.specs.Request.{Request}
use Rattle.gql_exec.specs.RequestWorld.{plain_world, setting_on}
use Rattle.gql_exec_laws.proofs.Collected.{flat-none, flat-field, flat-spread}
use Rattle.gql_client_schema_laws.specs.Asked.{Asked, asks_nothing, asks_field, asks_fragment, name_at, place}
use Rattle.gql_client_schema_laws.specs.FullQuery as full
use Rattle.gql_client_schema_laws.specs.Introspection.{FieldRow, HasField}
use Rattle.gql_client_schema_laws.specs.Selected.{definition_in, field_with, selected, full_fragments}
use Rattle.gql_client_schema_laws.proofs.Fits.{itself}
use Rattle.gql_resolvers.specs.World.{World}
use Rattle.gql_schema_types.specs.Types.{type_called}
use Rattle.gql_ast_base.specs.TypeParts.{named_type}
use Rattle.gql_schema_types.specs.Schemas.{field_of}
use Rattle.gql_schema_types.specs.declared.schema.Schema.{Schema}
use Rattle.gql_schema_types.specs.declared.types.ObjectType.{ObjectType}
use Rattle.gql_source.specs.File.{Files}

-- only fields are asked for, not what a fragment asks for
abbrev pub AreFields : Asked → Type 0
AreFields asks_nothing = Unit {0}
AreFields (asks_field start end name deprecated within rest) = AreFields rest
AreFields (asks_fragment start name rest) = ⊥

-- the group of one field
abbrev pub single : Field → Group
single f = record { first = f; pieces = f.selection_set.selections ∷ [] }

module _ (schema : Schema) (files : Files) (rank : ℕ → ℕ) (ranked : AreRanked (full_fragments schema) rank) where
  abbrev pub asking : Request (Thing (Unit {0}))
  asking = partial_request schema files (full_fragments schema) []

  abbrev pub w : World (Thing (Unit {0})) ObjectType Group (List (List Selection))
  w = plain_world asking

  abbrev pub setting : ObjectType → Setting
  setting U = setting_on asking U

  -- the fields that are asked for on a type
  abbrev pub fields_asked : Named → Asked → List Field
  fields_asked ty asks_nothing = []
  fields_asked ty (asks_field start end name deprecated within rest) =
      field_with schema ty start end name deprecated (selected schema (named_type (definition_in schema ty name).ty) within) ∷ fields_asked ty rest
  fields_asked ty (asks_fragment start name rest) = fields_asked ty rest

  flat-asked : (U : ObjectType) (ty : Named) (asked : Asked) → AreFields asked → flat (setting U) (selected schema ty asked) ≡ fields_asked ty asked
  flat-asked U ty asks_nothing are = flat-none (setting U)
  flat-asked U ty (asks_field start end name deprecated within rest) are =
      let f = field_with schema ty start end name deprecated (selected schema (named_type (definition_in schema ty name).ty) within) in
      flat-field (setting U) rank ranked f (selected schema ty rest) ∙ ap (λ l. f ∷ l) (flat-asked U ty rest are)
  flat-asked U ty (asks_fragment start name rest) are = absurd are

  -- the groups of a set whose fields are all defined
  pub groups-asked : (U : ObjectType) (ty : Named) (asked : Asked) → AreFields asked → AllByRecursion (λ g. is_defined schema U g ≡ true) (groups_of (fields_asked ty asked))
      → w.groups U (selected schema ty asked ∷ []) ≡ groups_from (groups_of (fields_asked ty asked))
  groups-asked U ty asked are defined =
      ap (λ fs. groups_from (filter (is_defined schema U) (groups_of fs))) (append-nil (flat (setting U) (selected schema ty asked)) ∙ flat-asked U ty asked are)
      ∙ ap groups_from (filter_all (is_defined schema U) (groups_of (fields_asked ty asked)) defined)

  -- a set that spreads one fragment has the groups of the fragment
  abbrev pub spread_at : ℕ → List ℕ → FragmentSpread
  spread_at start name = record { fragment_name = name_at (start + 3) name; directives = []; location = place start (start + 3 + length name) }

  pub groups-spread : (U : ObjectType) (ty : Named) (start : ℕ) (name : List ℕ) (sels : List Selection) → body (setting U) name ≡ sels
      → w.groups U (selected schema ty (asks_fragment start name asks_nothing) ∷ []) ≡ w.groups U (sels ∷ [])
  groups-spread U ty start name sels is =
      ap (λ fs. groups_from (filter (is_defined schema U) (groups_of fs)))
      (append-nil (flat (setting U) (selected schema ty (asks_fragment start name asks_nothing)))
      ∙ flat-spread (setting U) rank ranked (spread_at start name) []
      ∙ ap (λ l. flat (setting U) (body (setting U) name) ++ l) (flat-none (setting U))
      ∙ ap (λ l. flat (setting U) l ++ []) is)

  applied : (U : ObjectType) (condition : List ℕ) → U.name.text ≡ condition → (sels : List Selection) → when (applies schema.types U condition) sels ≡ sels
  applied U condition named sels =
      ap (λ b. when (b
      || (is_listed (type_called condition schema.types) condition U.implements_interfaces || has_member (type_called condition schema.types) U.name.text)) sels)
      (ap (bytes_eq condition) named ∙ itself schema condition)

  -- what stands in the three fragments
  pub type-body : (U : ObjectType) → U.name.text ≡ codes "__Type" → body (setting U) (codes "T") ≡ selected schema full.type_fragment.type_condition full.type_asked
  type-body U named = applied U (codes "__Type") named (selected schema full.type_fragment.type_condition full.type_asked)

  pub input-body : (U : ObjectType) → U.name.text ≡ codes "__InputValue" → body (setting U) (codes "V") ≡ selected schema full.input_fragment.type_condition full.input_asked
  input-body U named = applied U (codes "__InputValue") named (selected schema full.input_fragment.type_condition full.input_asked)

  pub reference-body : (U : ObjectType) → U.name.text ≡ codes "__Type" → body (setting U) (codes "R") ≡ selected schema full.reference_fragment.type_condition full.reference_asked
  reference-body U named = applied U (codes "__Type") named (selected schema full.reference_fragment.type_condition full.reference_asked)

  -- ---- a field is defined

  pub defined : (U : ObjectType) (T : List ℕ) → U.name.text ≡ T → (it : FieldRow) → HasField schema T it → is_some (field_of schema U.name.text it.name) ≡ true
  defined U T named it has = ap (λ t. is_some (field_of schema t it.name)) named ∙ ap is_some has.found
