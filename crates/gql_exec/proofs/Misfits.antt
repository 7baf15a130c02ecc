-- What is found wrong with an answer, told of the schema and the name that its caller knows.
use Rattle.std.proofs.Common.{◌≡◌, ℕ, Bool, true, false, List, Some, None, refl, ap, ◌∙◌}
use Rattle.gql_ast_base.specs.declared.type_ref.TypeRef.{TypeRef}
use Rattle.gql_schema_types.specs.Schemas.{object_of}
use Rattle.gql_schema_types.specs.declared.schema.Schema.{Schema}
use Rattle.gql_resolvers.specs.Fit.{list_misfit, object_misfit, unless, wrong}
use Rattle.gql_resolvers.specs.Lists.{is_list}
use Rattle.gql_resolvers.specs.Messages as message
use Rattle.gql_resolvers.specs.Resolved.{Misfit}

-- a list fits at lists' types alone
pub fits-list : (ty : TypeRef) → list_misfit ty ≡ None → is_list ty ≡ true
fits-list ty fits = by (is_list ty) (wrong (message.list_at_other ty)) fits
  where
    by : (b : Bool) (misfit : Misfit) → unless b misfit ≡ None → b ≡ true
    by true misfit e = refl
    by false misfit e = absurd (let f : Some misfit ≡ None = e in cc)

module _ (schema other : Schema) (found name : List ℕ) (same : schema ≡ other) (named : found ≡ name) where
  pub same-misfit : (ty : TypeRef) → object_misfit schema ty found ≡ object_misfit other ty name
  same-misfit ty = ap (λ (s : Schema). object_misfit s ty found) same ∙ ap (λ n. object_misfit other ty n) named

  pub same-object : object_of schema found ≡ object_of other name
  same-object = ap (λ (s : Schema). object_of s found) same ∙ ap (λ n. object_of other n) named
