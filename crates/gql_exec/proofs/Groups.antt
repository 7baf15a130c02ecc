-- How far an execution of groups has come.
use Rattle.std.proofs.Common.{◌≡◌, ℕ, List, [], ◌∷◌, ◌++◌, Option, Some, None, option_map, refl, sym, ap, ◌∙◌, subst}
use Rattle.std.proofs.lemmas.List.{append-nil}
use Rattle.jb_tree.specs.declared.value.Value.{Value}
use Rattle.gql_document_types.specs.declared.selection.Selection.{Selection}
use Rattle.gql_response.specs.declared.graphql_error.GraphQLError.{GraphQLError}
use Rattle.gql_schema_types.specs.declared.types.ObjectType.{ObjectType}
use Rattle.gql_resolvers.specs.Depth.{AllGroups, Suffices}
use Rattle.gql_resolvers.specs.Execute.{Made, Member, keyed, with_key, field_made, groups_made, execute}
use Rattle.gql_resolvers.specs.Spot.{field_spot}
use Rattle.gql_resolvers.specs.Trail.{Trail}
use Rattle.gql_resolvers.specs.World.{World, key_of, DistinctKeys}
use Rattle.gql_exec.specs.Group.{Group}
use Rattle.gql_exec.specs.Runs.{RunsAs}
use Rattle.gql_exec.specs.Executed.{IsEnough}
use Rattle.gql_exec.specs.bridge.Executed.{IsMade, MakesBelow, Executes, ExecutesGroups}
use Rattle.gql_exec.proofs.Completing.{made-as}
use Rattle.gql_exec.proofs.Keys.{AreNew, new-begun, new-more, new-less}
use Rattle.gql_exec.proofs.ExecutionSteps.{IsOnWay, begun, goes_on, stops, ends}

keyed-made : (k : List ℕ) (found : Option (List Value)) (before after : List GraphQLError) (made : Made Value) → IsMade found before after made
    → IsMade (option_map (λ vs. keyed k vs) found) before after (with_key k made)
keyed-made k found before after made it = record { is = ap (option_map (λ vs. keyed k vs)) it.is; listed = it.listed }

module _ {X : Type 0} (w : World X ObjectType Group (List (List Selection))) (U : ObjectType) (x : X) (outer : Trail) where
  abbrev made_at : ℕ → List Group → Made Member
  made_at depth gs = groups_made w (execute w depth) U x outer gs

  abbrev first_at : ℕ → Group → Made Value
  first_at depth g = field_made w (execute w depth) (field_spot w U outer g) (w.asks U x g)

  -- the members so far, the groups that are left, and all
  pub record IsExecuting (members : List Member) (errors before : List GraphQLError) (left all : List Group) : Type 0 where
    pub new : AreNew w members left
    pub enough : (depth : ℕ) → AllGroups w (IsEnough w depth) all → AllGroups w (IsEnough w depth) left
    pub way : (depth : ℕ) → AllGroups w (IsEnough w depth) all → IsOnWay members errors before (made_at depth left) (made_at depth all)

  pub executing-begun : (before : List GraphQLError) (all left : List Group) → left ≡ all → DistinctKeys w all → IsExecuting [] before before left all
  executing-begun before all left is apart =
      subst (λ l. IsExecuting [] before before l all) (sym is)
      (record { new = new-begun w all apart; enough = λ depth all. all; way = λ depth enough. begun before (made_at depth all) })

  -- one group further, with a value
  pub executing-more : (members more : List Member) (errors before after : List GraphQLError) (left all rest : List Group) (g : Group) (key : List ℕ) (value : Value)
      (found : Option (List Value)) → found ≡ Some (value ∷ []) → left ≡ g ∷ rest → key ≡ key_of w g → more ≡ members ++ (key, value) ∷ []
      → MakesBelow w g found errors after (λ run. field_made w run (field_spot w U outer g) (w.asks U x g))
      → IsExecuting members errors before left all → IsExecuting more after before rest all
  executing-more members more errors before after left all rest g key value found gives is named added makes so_far =
      let here : IsExecuting members errors before (g ∷ rest) all = subst (λ l. IsExecuting members errors before l all) is so_far in
      record {
        new = new-more w members more (key, value) g rest named added here.new;
        enough = λ depth enough. (here.enough depth enough).1;
        way = λ depth enough.
            let made = keyed-made (key_of w g) found errors after (first_at depth g) (makes depth (here.enough depth enough).0) in
            let some : IsMade (Some ((key_of w g, value) ∷ [])) errors after (with_key (key_of w g) (first_at depth g)) =
            made-as _ _ errors after _ _ (ap (option_map (λ vs. keyed (key_of w g) vs)) gives) refl made in
            goes_on members more ((key_of w g, value) ∷ []) errors before after (with_key (key_of w g) (first_at depth g)) (made_at depth rest)
            (made_at depth (g ∷ rest)) (made_at depth all) refl (here.way depth enough) some (added ∙ ap (λ k. members ++ (k, value) ∷ []) named);
      }

  -- one group further that is left out
  pub executing-less : (members : List Member) (errors before after : List GraphQLError) (left all rest : List Group) (g : Group) (found : Option (List Value))
      → found ≡ Some [] → left ≡ g ∷ rest → MakesBelow w g found errors after (λ run. field_made w run (field_spot w U outer g) (w.asks U x g))
      → IsExecuting members errors before left all → IsExecuting members after before rest all
  executing-less members errors before after left all rest g found gives is makes so_far =
      let here : IsExecuting members errors before (g ∷ rest) all = subst (λ l. IsExecuting members errors before l all) is so_far in
      record {
        new = new-less w members g rest here.new;
        enough = λ depth enough. (here.enough depth enough).1;
        way = λ depth enough.
            let made = keyed-made (key_of w g) found errors after (first_at depth g) (makes depth (here.enough depth enough).0) in
            let none : IsMade (Some []) errors after (with_key (key_of w g) (first_at depth g)) =
            made-as _ _ errors after _ _ (ap (option_map (λ vs. keyed (key_of w g) vs)) gives) refl made in
            goes_on members members [] errors before after (with_key (key_of w g) (first_at depth g)) (made_at depth rest)
            (made_at depth (g ∷ rest)) (made_at depth all) refl (here.way depth enough) none (sym (append-nil members));
      }

  -- a null that is passed on ends the set
  pub executing-stops : (members : List Member) (errors before after : List GraphQLError) (left all rest : List Group) (g : Group) (found : Option (List Value))
      → found ≡ None → left ≡ g ∷ rest → MakesBelow w g found errors after (λ run. field_made w run (field_spot w U outer g) (w.asks U x g))
      → IsExecuting members errors before left all → ExecutesGroups w U x outer all None before after
  executing-stops members errors before after left all rest g found gives is makes so_far d enough =
      let here : IsExecuting members errors before (g ∷ rest) all = subst (λ l. IsExecuting members errors before l all) is so_far in
      let made = keyed-made (key_of w g) found errors after (first_at d g) (makes d (here.enough d enough).0) in
      let null : IsMade None errors after (with_key (key_of w g) (first_at d g)) =
      made-as _ _ errors after _ _ (ap (option_map (λ vs. keyed (key_of w g) vs)) gives) refl made in
      stops members errors before after (with_key (key_of w g) (first_at d g)) (made_at d rest) (made_at d (g ∷ rest)) (made_at d all) refl (here.way d enough) null

  -- no group is left
  pub executing-ends : (members : List Member) (errors before : List GraphQLError) (left all : List Group) → left ≡ []
      → IsExecuting members errors before left all → ExecutesGroups w U x outer all (Some members) before errors
  executing-ends members errors before left all is so_far d enough =
      let here : IsExecuting members errors before [] all = subst (λ l. IsExecuting members errors before l all) is so_far in
      ends members errors before (made_at d []) (made_at d all) refl (here.way d enough)

  -- selection sets are executed as their groups are
  pub executed-sets : (sets : List (List Selection)) (all : List Group) (found : Option (List Member)) (before after : List GraphQLError)
      → ((depth : ℕ) → Suffices w depth U sets → RunsAs w depth U sets all) → ExecutesGroups w U x outer all found before after
      → Executes w U x outer sets found before after
  executed-sets sets all found before after runs executes depth suffices =
      let as_groups = runs depth suffices in
      made-as found found before after (made_at as_groups.depth all) _ refl (sym (as_groups.runs x outer)) (executes as_groups.depth as_groups.enough)
