-- Distinct fragments make distinct fragments.
use Rattle.std.proofs.Common.{◌≡◌, ℕ, Bool, true, false, List, [], ◌∷◌, ◌++◌, fold, if◌then◌else◌}
use Rattle.std.specs.List.{IsDistinct, AllByRecursion}
use Rattle.std.specs.Str.{bytes_eq}
use Rattle.gql_ast.specs.declared.operation.FragmentDefinition.{FragmentDefinition}
use Rattle.gql_document_types.specs.RootFields.{fragment_name as built_name}
use Rattle.gql_schema_types.specs.Entries.{texts, put}
use Rattle.gql_schema_types.specs.declared.schema.Schema.{Schema}
use Rattle.gql_schema_types.proofs.Joins.{put-all}
use Rattle.gql_document.specs.Build.{built_fragments, fragment_on}
use Rattle.gql_document.specs.FragmentNameCollision.{fragment_name}
use Rattle.gql_document.specs.Nodes.{is_defined}

module _ (schema : Schema) where
  apart : (name : List ℕ) (fs : List FragmentDefinition) → AllByRecursion (λ k. bytes_eq name k ≡ false) (texts fragment_name fs)
      → AllByRecursion (λ k. bytes_eq name k ≡ false) (texts built_name (built_fragments schema fs))
  apart name [] all = all
  apart name (f ∷ fs) all = by_test (is_defined schema f.type_condition) (apart name fs all.1)
    where
      by_test : (b : Bool) → AllByRecursion (λ k. bytes_eq name k ≡ false) (texts built_name (built_fragments schema fs))
          → AllByRecursion (λ k. bytes_eq name k ≡ false) (texts built_name ((if b then fragment_on schema f ∷ [] else []) ++ built_fragments schema fs))
      by_test true rest = (all.0, rest)
      by_test false rest = rest

  distinct : (fs : List FragmentDefinition) → IsDistinct bytes_eq (texts fragment_name fs) → IsDistinct bytes_eq (texts built_name (built_fragments schema fs))
  unfolding IsDistinct
  distinct [] d = d
  distinct (f ∷ fs) d = by_test (is_defined schema f.type_condition) (apart f.name.text fs d.0) (distinct fs d.1)
    where
      by_test : (b : Bool) → AllByRecursion (λ k. bytes_eq f.name.text k ≡ false) (texts built_name (built_fragments schema fs))
          → IsDistinct bytes_eq (texts built_name (built_fragments schema fs))
          → IsDistinct bytes_eq (texts built_name ((if b then fragment_on schema f ∷ [] else []) ++ built_fragments schema fs))
      by_test true others rest = (others, rest)
      by_test false others rest = rest

  pub all_put : (fs : List FragmentDefinition) → IsDistinct bytes_eq (texts fragment_name fs) → fold (put built_name) [] (built_fragments schema fs) ≡ built_fragments schema fs
  all_put fs d = put-all built_name [] (built_fragments schema fs) (distinct fs d)
