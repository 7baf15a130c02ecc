-- What is made of a set that spreads a fragment, and of references to types.
use Rattle.std.proofs.Common.{◌≡◌, ℕ, suc, true, Some, is_some, List, [], ◌∷◌, codes, ap, ◌∙◌}
use Rattle.gql_ast_base.specs.Names.{Named}
use Rattle.gql_ast_base.specs.TypeParts.{named_type}
use Rattle.gql_ast_base.specs.declared.type_ref.TypeRef.{TypeRef}
use Rattle.gql_ast_laws.specs.Printed.{unplaced}
use Rattle.gql_client_schema_laws.specs.Answer.{Pairs, kind_among, reference_pairs}
use Rattle.gql_collect.specs.Flat.{body}
use Rattle.gql_document_types.specs.declared.selection.Selection.{Selection}
use Rattle.gql_client_schema_laws.specs.Asked.{asks_nothing, asks_fragment}
use Rattle.gql_client_schema_laws.specs.FullQuery as full
use Rattle.gql_client_schema_laws.specs.Introspection.{HasIntrospection}
use Rattle.gql_client_schema_laws.proofs.Making.{SetMade, world, thing}
use Rattle.gql_client_schema_laws.proofs.MadeReferences.{raised, Referred, referred}
use Rattle.gql_client_schema_laws.proofs.Sets.{setting, groups-spread, reference-body}
use Rattle.gql_introspection.specs.Meta.{Meta, type_name_of}
use Rattle.gql_introspection.specs.NamedTypes.{type_meaning}
use Rattle.gql_resolvers.specs.Execute.{execute, groups_made}
use Rattle.gql_resolvers.specs.Resolved.{gives_object}
use Rattle.gql_client_schema_laws.specs.Given.{why}
use Rattle.gql_client_schema_laws.specs.Parts.{said_type}
use Rattle.gql_document_types.specs.Ranks.{AreRanked}
use Rattle.gql_client_schema_laws.specs.Selected.{full_fragments, selected}
use Rattle.gql_schema_types.specs.Types.{type_called, type_name}
use Rattle.gql_schema_types.specs.declared.schema.Schema.{Schema}
use Rattle.gql_schema_types.specs.declared.types.ExtendedType.{ExtendedType}
use Rattle.gql_schema_types.specs.declared.types.ObjectType.{ObjectType}
use Rattle.gql_sdl.specs.declared.shown.ShownType.{ShownType}
use Rattle.gql_source.specs.File.{Files}

module _ (schema : Schema) (files : Files) (rank : ℕ → ℕ) (ranked : AreRanked (full_fragments schema) rank) (known : HasIntrospection schema) where
  pub spread-made : (d : ℕ) (U : ObjectType) (object : Meta) (ty : Named) (start : ℕ) (name : List ℕ) (sels : List Selection) (pairs : Pairs)
      → body (setting schema files rank ranked U) name ≡ sels → SetMade schema files rank ranked known (suc d) U object (sels ∷ []) pairs
      → SetMade schema files rank ranked known (suc d) U object (selected schema ty (asks_fragment start name asks_nothing) ∷ []) pairs
  spread-made d U object ty start name sels pairs is made outer =
      ap (groups_made (world schema files rank ranked known) (execute (world schema files rank ranked known) d) U (thing schema files rank ranked known object) outer) (groups-spread schema files rank ranked U ty start name sels is) ∙ made outer

module _ (schema : Schema) (files : Files) (rank : ℕ → ℕ) (ranked : AreRanked (full_fragments schema) rank) (known : HasIntrospection schema) (types : List ShownType)
    (kinds : (name : List ℕ) (t : ExtendedType) → type_called name schema.types ≡ Some t → kind_among types name ≡ (said_type (why schema) t).kind)
    (names : (name : List ℕ) (t : ExtendedType) → type_called name schema.types ≡ Some t → (type_name t).text ≡ name) where
  -- the object that stands for a reference, and what is made of it where the fragment is spread
  pub record Stands (reference : TypeRef) : Type 0 where
    pub object : Meta
    pub stands : type_meaning schema reference ≡ gives_object object
    pub called : type_name_of object ≡ codes "__Type"
    pub made : (d : ℕ) (ty : Named) (start : ℕ)
        → SetMade schema files rank ranked known (raised 8 d) known.type_type.object object (selected schema ty (asks_fragment start (codes "R") asks_nothing) ∷ []) (reference_pairs types 8 (unplaced reference))

  pub stands-for : (reference : TypeRef) → is_some (type_called (named_type reference).text schema.types) ≡ true → Stands reference
  stands-for reference there =
      let all : Referred schema files rank ranked known types kinds names 8 reference = referred schema files rank ranked known types kinds names 8 reference there in record {
        object = all.object;
        stands = all.stands;
        called = all.called;
        made = λ d ty start.
            spread-made schema files rank ranked known (raised 7 d) known.type_type.object all.object ty start (codes "R") (selected schema full.reference_fragment.type_condition full.reference_asked)
            (reference_pairs types 8 (unplaced reference)) (reference-body schema files rank ranked known.type_type.object known.type_type.named) (all.made d 729 full.reference_fragment.type_condition);
      }
