-- The ways that an execution opens: from an object, by response keys, to objects that fit their places; where a list is on the way,
-- to any of its items. Sections 6.3 and 6.4 of GraphQL October 2021.
use Rattle.std.specs.Prelude.{◌≡◌, ◌⊎◌, ℕ, List, [], ◌∷◌, None, Some}
use Rattle.gql_ast_base.specs.declared.type_ref.TypeRef.{TypeRef}
use Rattle.gql_resolvers.specs.Resolved.{Meaning, Meanings, gives_leaf, gives_object, gives_list, gives_skip, fails_with, no_answer, answer_then}
use Rattle.gql_resolvers.specs.Resolved.{Outcome, answered, refused}
use Rattle.gql_resolvers.specs.Types.{item_type}
use Rattle.gql_resolvers.specs.World.{World, key_of}

-- the response keys on the way, each with the type of the object that it leads to
abbrev pub Way : Type 0 → Type 0
Way T = List (List ℕ × T)

abbrev pub AnyGroup : {G : Type 0} → (G → Type 0) → List G → Type 0
AnyGroup P [] = ⊥
AnyGroup P (g ∷ gs) = P g ⊎ AnyGroup P gs

module _ {X T G S : Type 0} (w : World X T G S) where
  abbrev mutual
    -- an answer that fits gives an object of which this holds, itself or as an item
    pub Gives : (X → Type 0) → TypeRef → Meaning X → Type 0
    Gives P ty (gives_object x) = (w.misfit ty (gives_object x) ≡ None) × P x
    Gives P ty (gives_list ms) = (w.misfit ty (gives_list ms) ≡ None) × AnyGives P (item_type ty) ms
    Gives P ty (gives_leaf v) = ⊥
    Gives P ty gives_skip = ⊥
    Gives P ty (fails_with text) = ⊥

    pub AnyGives : (X → Type 0) → TypeRef → Meanings X → Type 0
    AnyGives P ty no_answer = ⊥
    AnyGives P ty (answer_then m ms) = Gives P ty m ⊎ AnyGives P ty ms

  abbrev pub Brings : (X → Type 0) → TypeRef → Outcome X → Type 0
  Brings P ty (answered m) = Gives P ty m
  Brings P ty (refused fault) = ⊥

  -- the first key is that of a group, whose field brings an object of the first type from which the rest of the way is opened
  abbrev pub Opens : Way T → T → X → S → Type 0
  Opens [] U x s = Unit {0}
  Opens (step ∷ way) U x s =
      AnyGroup (λ g.
      (key_of w g ≡ step.0) × Brings (λ y. (w.type_of y ≡ Some step.1) × Opens way step.1 y (w.below g)) (w.type_at U g) (w.asks U x g)
      ) (w.groups U s)
