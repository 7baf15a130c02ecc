-- The objects that an execution reaches, level by level from its root: sections 6.3 and 6.4 of GraphQL October 2021.
use Rattle.std.specs.Prelude.{ℕ, zero, suc, List, [], ◌∷◌, ◌++◌, Option, Some, None}
use Rattle.std.specs.List.{flat_map}
use Rattle.gql_resolvers.specs.Resolved.{Meaning, Meanings, gives_leaf, gives_object, gives_list, gives_skip, fails_with, no_answer, answer_then}
use Rattle.gql_resolvers.specs.Resolved.{Misfit, Outcome, answered, refused}
use Rattle.gql_resolvers.specs.Types.{item_type}
use Rattle.gql_resolvers.specs.World.{World}
use Rattle.gql_ast_base.specs.declared.type_ref.TypeRef.{TypeRef}

-- an object that is reached, as which type, and what is selected on it
pub record Stand (X T S : Type 0) : Type 0 where
  pub type : T
  pub object : X
  pub selection : S

abbrev pub if_fits : {A : Type 0} → Option Misfit → List A → List A
if_fits None given = given
if_fits (Some misfit) given = []

abbrev pub typed : {X T S : Type 0} → S → X → Option T → List (Stand X T S)
typed s x (Some U) = record { type = U; object = x; selection = s } ∷ []
typed s x None = []

module _ {X T G S : Type 0} (w : World X T G S) where
  abbrev mutual
    -- the objects that an answer gives at a type, itself or as items of lists, as far as it fits, each with this selection
    pub given : S → TypeRef → Meaning X → List (Stand X T S)
    given s ty (gives_object x) = if_fits (w.misfit ty (gives_object x)) (typed s x (w.type_of x))
    given s ty (gives_list ms) = if_fits (w.misfit ty (gives_list ms)) (all_given s (item_type ty) ms)
    given s ty (gives_leaf v) = []
    given s ty gives_skip = []
    given s ty (fails_with text) = []

    pub all_given : S → TypeRef → Meanings X → List (Stand X T S)
    all_given s ty no_answer = []
    all_given s ty (answer_then m ms) = given s ty m ++ all_given s ty ms

  abbrev pub brought : S → TypeRef → Outcome X → List (Stand X T S)
  brought s ty (answered m) = given s ty m
  brought s ty (refused fault) = []

  -- those that a group's field brings
  abbrev pub below_group : T → X → G → List (Stand X T S)
  below_group U x g = brought (w.below g) (w.type_at U g) (w.asks U x g)

  abbrev pub below_groups : T → X → List G → List (Stand X T S)
  below_groups U x gs = flat_map (below_group U x) gs

  -- those directly below an object
  abbrev pub below_stand : Stand X T S → List (Stand X T S)
  below_stand at = below_groups at.type at.object (w.groups at.type at.selection)

  abbrev pub below_stands : List (Stand X T S) → List (Stand X T S)
  below_stands stands = flat_map below_stand stands

  -- those so many levels below the root
  abbrev pub level : Stand X T S → ℕ → List (Stand X T S)
  level root zero = root ∷ []
  level root (suc n) = below_stands (level root n)
