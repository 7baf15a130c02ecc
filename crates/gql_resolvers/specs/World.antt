-- What an execution goes by, whatever documents and schemas are: section 6.3 of GraphQL October 2021.
use Rattle.std.specs.Prelude.{◌≡◌, ℕ, List, [], ◌∷◌, Option, None, true}
use Rattle.std.specs.List.{AllByRecursion}
use Rattle.jb_tree.specs.declared.value.Value.TheVariants as json
use Rattle.gql_source.specs.File.{Files}
use Rattle.gql_source.specs.Span.{Span}
use Rattle.gql_ast_base.specs.Names.{Named}
use Rattle.gql_ast_base.specs.declared.type_ref.TypeRef.{TypeRef}
use Rattle.gql_ast_base.specs.TypeParts.{is_non_null}
use Rattle.gql_resolvers.specs.Resolved.{Meaning, gives_leaf, gives_object, fails_with, Misfit, Outcome}

-- X: objects, the user's and the library's. T: object types. G: groups of fields with one response key. S: what is
-- selected below a group
pub record World (X T G S : Type 0) : Type 0 where
  -- the texts that places are looked up in
  pub sources : Files
  -- what is wrong with an answer at a type, its parts aside; none where it fits
  pub misfit : TypeRef → Meaning X → Option Misfit
  pub type_of : X → Option T
  -- the groups of a selection on an object type, in order
  pub groups : T → S → List G
  -- a group's response key, the place of its first field's name, and what is selected below it
  pub name_of : G → Named
  pub span_of : G → Option Span
  pub below : G → S
  -- the type of a group's field on an object type, and what comes of it on an object
  pub type_at : T → G → TypeRef
  pub asks : T → X → G → Outcome X

module _ {X T G S : Type 0} (w : World X T G S) where
  abbrev pub key_of : G → List ℕ
  key_of g = (w.name_of g).text

  abbrev pub DistinctKeys : List G → Type 0
  DistinctKeys [] = Unit {0}
  DistinctKeys (g ∷ gs) = AllByRecursion (λ h. ¬ (key_of g ≡ key_of h)) gs × DistinctKeys gs

  -- what the laws ask of a world
  pub record IsLawful : Type 0 where
    pub failure_misfits : (ty : TypeRef) (text : List ℕ) → ¬ (w.misfit ty (fails_with text) ≡ None)
    pub object_typed : (ty : TypeRef) (x : X) → w.misfit ty (gives_object x) ≡ None → ¬ (w.type_of x ≡ None)
    pub null_misfits : (ty : TypeRef) → is_non_null ty ≡ true → ¬ (w.misfit ty (gives_leaf json.Null) ≡ None)
    pub distinct_keys : (U : T) (s : S) → DistinctKeys (w.groups U s)
