-- What the full query builds against a schema.
use Rattle.std.proofs.Common.{rules, ◌≡◌, ℕ, ◌+◌, Bool, false, if◌then◌else◌, Option, Some, None, List, [], ◌∷◌, ◌++◌, map, refl, sym, ap, ap₂, ◌∙◌}
use Rattle.std.specs.Prelude.{length}
use Rattle.std.specs.List.{flat_map}
use Rattle.std.specs.Option.{option_map_or, unwrap_or}
use Rattle.gql_ast_base.specs.Names.{Named}
use Rattle.gql_ast_base.specs.TypeParts.{named_type}
use Rattle.gql_ast.specs.declared.field_definition.FieldDefinition.{FieldDefinition}
use Rattle.gql_ast.specs.declared.selection.Field.{Field as WrittenField}
use Rattle.gql_ast.specs.declared.selection.FragmentSpread.{FragmentSpread}
use Rattle.gql_ast.specs.declared.selection.Selection.{Selection as Written, the_lemmas}
use Rattle.gql_ast.specs.declared.selection.Selection.TheVariants as ast
use Rattle.gql_document.specs.BuiltSelections.{Makes, makes_of, field_step, field_made, is_selected_leaf, spread_of, built_set}
use Rattle.gql_document.specs.Nodes.{is_nonempty}
use Rattle.gql_document_types.specs.declared.selection.Selection.{Selection}
use Rattle.gql_document_types.specs.declared.selection.Selection.TheVariants as selection
use Rattle.gql_document_types.specs.declared.selection.SelectionSet.{SelectionSet}
use Rattle.gql_client_schema_laws.specs.Asked.{Asked, asks_nothing, asks_field, asks_fragment, name_at, place, arguments_at, written}
use Rattle.gql_client_schema_laws.specs.bridge.Built.{AreDefinedOn}
use Rattle.gql_client_schema_laws.specs.Selected.{definition_in, selected}
use Rattle.gql_schema_types.specs.MetaFields.{type_name_field}
use Rattle.gql_schema_types.specs.Schemas.{field_of}
use Rattle.gql_schema_types.specs.declared.schema.Schema.{Schema}

module _ (schema : Schema) where
  makes-field : (f : WrittenField) (ty : Named)
      → makes_of schema (ast.Field f) ty
      ≡ field_step schema (record {
        alias = f.alias;
        name = f.name;
        arguments = f.arguments;
        directives = f.directives;
        selection_set = map (makes_of schema) f.selection_set;
        location = f.location;
      }) ty
  makes-field f ty = search (rules, the_lemmas)

  makes-spread : (s : FragmentSpread) (ty : Named) → makes_of schema (ast.FragmentSpread s) ty ≡ spread_of s ∷ []
  makes-spread s ty = search (rules, the_lemmas)

  abbrev made_of : Named → List Written → List Selection
  made_of ty sels = flat_map (λ (makes : Makes). makes ty) (map (makes_of schema) sels)

  -- a field with this definition
  abbrev field_by : Named → ℕ → ℕ → List ℕ → Bool → (Named → List Selection) → FieldDefinition → Selection
  field_by ty start end name deprecated within definition = selection.Field (record {
    alias = None;
    name = name_at start name;
    arguments = arguments_at (start + length name + 1) deprecated;
    directives = [];
    selection_set = record { ty = named_type definition.ty; selections = within (named_type definition.ty) };
    location = place start end;
    definition = definition;
  })

  abbrev field_as_written : ℕ → ℕ → List ℕ → Bool → Asked → WrittenField
  field_as_written start end name deprecated within = record {
    alias = None;
    name = name_at start name;
    arguments = arguments_at (start + length name + 1) deprecated;
    directives = [];
    selection_set = written within;
    location = place start end;
  }

  abbrev made_by : ℕ → ℕ → List ℕ → Bool → Asked → Option FieldDefinition → List Selection
  made_by start end name deprecated within found =
      option_map_or (field_made schema (record {
        alias = None;
        name = name_at start name;
        arguments = arguments_at (start + length name + 1) deprecated;
        directives = [];
        selection_set = map (makes_of schema) (written within);
        location = place start end;
      })) found []

  one-built : (ty : Named) (start end : ℕ) (name : List ℕ) (deprecated : Bool) (within : Asked) (definition : FieldDefinition) → field_of schema ty.text name ≡ Some definition
      → is_selected_leaf schema definition (is_nonempty (map (makes_of schema) (written within))) ≡ false
      → made_of (named_type definition.ty) (written within) ≡ selected schema (named_type definition.ty) within
      → makes_of schema (ast.Field (field_as_written start end name deprecated within)) ty
      ≡ field_by ty start end name deprecated (λ t. selected schema t within) (definition_in schema ty name) ∷ []
  one-built ty start end name deprecated within definition found leaf below =
      makes-field (field_as_written start end name deprecated within) ty
      ∙ ap (made_by start end name deprecated within) found
      ∙ ap (λ b. if b then [] else field_by ty start end name deprecated (λ t. made_of t (written within)) definition ∷ []) leaf
      ∙ ap (λ (sels : List Selection). field_by ty start end name deprecated (λ t. sels) definition ∷ []) below
      ∙ sym (ap (λ o. field_by ty start end name deprecated (λ t. selected schema t within) (unwrap_or o type_name_field) ∷ []) found)

  pub selected-built : (ty : Named) (asked : Asked) → AreDefinedOn schema ty.text asked → made_of ty (written asked) ≡ selected schema ty asked
  selected-built ty asks_nothing defined = refl
  selected-built ty (asks_field start end name deprecated within rest) defined =
      ap₂ (λ (one more : List Selection). one ++ more)
      (one-built ty start end name deprecated within defined.0.0 defined.0.1 defined.0.2 (selected-built (named_type defined.0.0.ty) within defined.0.3))
      (selected-built ty rest defined.1)
  selected-built ty (asks_fragment start name rest) defined =
      ap₂ (λ (one more : List Selection). one ++ more)
      (makes-spread (record { fragment_name = name_at (start + 3) name; directives = []; location = place start (start + 3 + length name) }) ty) (selected-built ty rest defined)

  pub set-built : (ty : Named) (asked : Asked) → AreDefinedOn schema ty.text asked
      → built_set schema ty (written asked) ≡ (let set : SelectionSet = record { ty = ty; selections = selected schema ty asked } in set)
  set-built ty asked defined = ap (λ (sels : List Selection). let set : SelectionSet = record { ty = ty; selections = sels } in set) (selected-built ty asked defined)
