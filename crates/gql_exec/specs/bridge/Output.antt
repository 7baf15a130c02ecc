-- What is made in an output: of a place, and of the members of an object.
use Rattle.std.specs.Prelude.{◌≡◌, List, [], ◌∷◌, Option, Some, None}
use Rattle.jb_tree.specs.declared.value.Value.{Value}
use Rattle.gql_resolvers.specs.Execute.{Member}
use Rattle.gql_exec.specs.declared.completed.Completed.{Completed}
use Rattle.gql_exec.specs.declared.completed.Completed.TheVariants as completed

-- these are found, and of them this holds
pub record Finds {A : Type 0} (Are Hold : Option (List A) → Type 0) : Type 0 where
  pub found : Option (List A)
  pub are : Are found
  pub hold : Hold found

-- a value is made between two states of an output; where the place is left out or a null passes on, the output is as it was
abbrev pub IsWritten : {S V : Type 0} → (S → S → V → Value → Type 0) → S → S → Completed V → Option (List Value) → Type 0
IsWritten is_made before after (completed.Value made) found = (value : Value) × is_made before after made value × (found ≡ Some (value ∷ []))
IsWritten is_made before after completed.LeftOut found = (after ≡ before) × (found ≡ Some [])
IsWritten is_made before after completed.NullPasses found = (after ≡ before) × (found ≡ None)

-- the members of an object are being made since the first state; where a null passes on, the output is as it was
abbrev pub AreWritten : {S V : Type 0} → (S → S → V → List Member → Type 0) → S → S → Option V → Option (List Member) → Type 0
AreWritten are_members before after (Some object) found = (members : List Member) × are_members before after object members × (found ≡ Some members)
AreWritten are_members before after None found = (after ≡ before) × (found ≡ None)
