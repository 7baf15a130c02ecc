-- Queries of the schema and how deep they go.
use Rattle.std.specs.Prelude.{ℕ, ◌+◌, List, [], ◌∷◌, Some, None, codes}
use Rattle.gql_ast_base.specs.declared.type_ref.TypeRef.{TypeRef}
use Rattle.gql_ast_base.specs.declared.type_ref.TypeRef.TheVariants as ty
use Rattle.gql_document_types.specs.declared.fragment.Fragment.{Fragment}
use Rattle.gql_document_types.specs.declared.selection.Selection.{Selection}
use Rattle.gql_document_types.specs.declared.selection.Selection.TheVariants as selection
use Rattle.gql_collect.specs.Nested.{Place}
use Rattle.gql_schema_types.specs.MetaFields.{named}
use Rattle.gql_exec_laws.specs.Parts.{plain, name_at, query_file, select}

abbrev pub type_name : TypeRef
type_name = ty.Named (named (codes "__Type"))

abbrev pub types_list : TypeRef
types_list = ty.List (ty.NonNullNamed (named (codes "__Type")))

abbrev pub fields_list : TypeRef
fields_list = ty.List (ty.NonNullNamed (named (codes "__Field")))

-- a place from an offset of the query on, of this length
abbrev pub place_at : ℕ → ℕ → Place
place_at offset many = Some (record { file_id = query_file; offset = offset; end_offset = offset + many })

-- `...F` from an offset on
abbrev pub spread_at : ℕ → Selection
spread_at offset = selection.FragmentSpread (record { fragment_name = name_at (offset + 3) (codes "F"); directives = []; location = place_at offset 4 })

-- fragment F on __Type, whose name and whose `fields`, `type` and `fields` stand there, of these selections
abbrev pub fragment_at : ℕ → ℕ → ℕ → ℕ → List Selection → Fragment
fragment_at name outer middle last within = record {
  name = name_at name (codes "F");
  selection_set = record {
    ty = named (codes "__Type");
    selections =
        select outer (plain (codes "fields") fields_list)
        (select middle (plain (codes "type") type_name) (select last (plain (codes "fields") fields_list) within ∷ []) ∷ []) ∷ [];
  };
  directives = [];
  location = None;
}

-- { __schema { types { .. } } }
abbrev pub of_types : List Selection → List Selection
of_types within =
    select 2 (plain (codes "__schema") (ty.NonNullNamed (named (codes "__Schema"))))
    (select 13 (plain (codes "types") (ty.NonNullList (ty.NonNullNamed (named (codes "__Type"))))) within ∷ []) ∷ []

abbrev pub text_name : ℕ → Selection
text_name offset = select offset (plain (codes "name") (ty.Named (named (codes "String")))) []

abbrev pub once : List Selection
once = of_types (spread_at 21 ∷ [])

-- { __schema { types { ...F } } } fragment F on __Type { fields { type { fields { name } } } }
abbrev pub two_deep : List Fragment
two_deep = fragment_at 41 55 64 71 (text_name 80 ∷ []) ∷ []

-- { __schema { types { ...F } } } fragment F on __Type { fields { type { fields { interfaces { name } } } } }
abbrev pub three_deep : List Fragment
three_deep = fragment_at 41 55 64 71 (select 80 (plain (codes "interfaces") types_list) (text_name 93 ∷ []) ∷ []) ∷ []

-- { __schema { types { ...F fields { type { ...F } } } } } fragment F on __Type { fields { type { fields { name } } } }
abbrev pub again : List Selection
again =
    of_types
    (spread_at 21 ∷ select 26 (plain (codes "fields") fields_list) (select 35 (plain (codes "type") type_name) (spread_at 42 ∷ []) ∷ []) ∷ [])

abbrev pub two_deep_again : List Fragment
two_deep_again = fragment_at 66 80 89 96 (text_name 105 ∷ []) ∷ []
