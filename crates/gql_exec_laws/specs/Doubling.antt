-- Fragments that double: each spreads the next one twice, so that the last stands many times where all are written out.
use Rattle.std.specs.Prelude.{ℕ, zero, suc, ◌+◌, List, [], ◌∷◌, ◌++◌, None, codes}
use Rattle.std.specs.Fmt.{decimal}
use Rattle.gql_ast_base.specs.Names.{Named}
use Rattle.gql_document_types.specs.declared.fragment.Fragment.{Fragment}
use Rattle.gql_document_types.specs.declared.selection.Selection.{Selection}
use Rattle.gql_document_types.specs.declared.selection.Selection.TheVariants as selection
use Rattle.gql_collect.specs.Sizes.{sets_size, fragments_size}
use Rattle.gql_schema_types.specs.MetaFields.{named}
use Rattle.gql_exec_laws.specs.Examples.{int}
use Rattle.gql_exec_laws.specs.Parts.{plain, select}

-- F1, F2 and so on
abbrev pub numbered : ℕ → Named
numbered k = named (codes "F" ++ decimal k)

abbrev pub spread : ℕ → Selection
spread k = selection.FragmentSpread (record { fragment_name = numbered k; directives = []; location = None })

abbrev pub on_query : ℕ → List Selection → Fragment
on_query k selections =
    record { name = numbered k; directives = []; selection_set = record { ty = named (codes "Query"); selections = selections }; location = None }

-- from the number k on: n fragments that spread the next one twice, and one that selects f
abbrev pub doubling : ℕ → ℕ → List Fragment
doubling zero k = on_query k (select 0 (plain (codes "f") int) [] ∷ []) ∷ []
doubling (suc n) k = on_query k (spread (suc k) ∷ spread (suc k) ∷ []) ∷ doubling n (suc k)

-- the looks that a collection takes at most, where so many fragments double: { ...F1 }
abbrev pub most_looks : ℕ → ℕ
most_looks n = sets_size ((spread 1 ∷ []) ∷ []) + fragments_size (doubling n 1)
