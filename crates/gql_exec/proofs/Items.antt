-- How far the items of a list have been completed.
use Rattle.std.proofs.Common.{◌≡◌, ℕ, ◌+◌, List, [], ◌∷◌, ◌++◌, Option, Some, None, refl, sym, subst}
use Rattle.jb_tree.specs.declared.value.Value.{Value}
use Rattle.jb_tree.specs.declared.value.Value.TheVariants as json
use Rattle.gql_document_types.specs.declared.selection.Selection.{Selection}
use Rattle.gql_response.specs.declared.graphql_error.GraphQLError.{GraphQLError}
use Rattle.gql_schema_types.specs.declared.types.ObjectType.{ObjectType}
use Rattle.gql_resolvers.specs.Execute.{Made, Below, null_or_pass, items_made, one_array, settled, completed, execute}
use Rattle.gql_resolvers.specs.Resolved.{Meaning, Meanings, no_answer, answer_then}
use Rattle.gql_resolvers.specs.Spot.{Spot, item_spot}
use Rattle.gql_ast_base.specs.TypeParts.{is_non_null}
use Rattle.gql_resolvers.specs.World.{World}
use Rattle.gql_exec.specs.Group.{Group}
use Rattle.gql_exec.specs.Executed.{IsEnough}
use Rattle.gql_exec.specs.bridge.Executed.{MakesBelow}
use Rattle.gql_exec.proofs.Completing.{made-as, array-some, array-none}
use Rattle.gql_exec.proofs.ExecutionSteps.{IsOnWay, begun, goes_on, stops, ends}

module _ {X : Type 0} (w : World X ObjectType Group (List (List Selection))) (list : Spot Group) where
  abbrev pub item_made : Below w → ℕ → Meaning X → Made Value
  item_made run i m = completed w run (item_spot list i) m

  abbrev made_at : ℕ → ℕ → Meanings X → Made Value
  made_at depth i ms = items_made w (execute w depth) list i ms

  -- the values so far, the answers that are left, and all
  pub record IsCompleting (values : List Value) (errors before : List GraphQLError) (i : ℕ) (left all : Meanings X) : Type 0 where
    pub way : (depth : ℕ) → IsEnough w depth list.group → IsOnWay values errors before (made_at depth i left) (made_at depth 0 all)

  pub completing-begun : (before : List GraphQLError) (left all : Meanings X) → left ≡ all → IsCompleting [] before before 0 left all
  completing-begun before left all is =
      subst (λ l. IsCompleting [] before before 0 l all) (sym is) (record { way = λ depth enough. begun before (made_at depth 0 all) })

  pub completing-more : (values more vs : List Value) (errors before after : List GraphQLError) (i : ℕ) (left rest all : Meanings X) (m : Meaning X) (found : Option (List Value))
      → found ≡ Some vs → left ≡ answer_then m rest → more ≡ values ++ vs → MakesBelow w list.group found errors after (λ run. item_made run i m)
      → IsCompleting values errors before i left all → IsCompleting more after before (i + 1) rest all
  completing-more values more vs errors before after i left rest all m found gives is added makes so_far =
      let here : IsCompleting values errors before i (answer_then m rest) all = subst (λ l. IsCompleting values errors before i l all) is so_far in
      record {
        way = λ depth enough.
            goes_on values more vs errors before after (item_made (execute w depth) i m) (made_at depth (i + 1) rest) (made_at depth i (answer_then m rest)) (made_at depth 0 all) refl
            (here.way depth enough) (made-as _ _ errors after _ _ gives refl (makes depth enough)) added;
      }

  pub completing-stops : (values : List Value) (errors before after : List GraphQLError) (i : ℕ) (left rest all : Meanings X) (m : Meaning X) (found : Option (List Value))
      → found ≡ None → left ≡ answer_then m rest → MakesBelow w list.group found errors after (λ run. item_made run i m)
      → IsCompleting values errors before i left all
      → MakesBelow w list.group (null_or_pass (is_non_null list.type)) before after (λ run. settled list (one_array (items_made w run list 0 all)))
  completing-stops values errors before after i left rest all m found gives is makes so_far depth enough =
      let here : IsCompleting values errors before i (answer_then m rest) all = subst (λ l. IsCompleting values errors before i l all) is so_far in
      array-none list before after (made_at depth 0 all)
      (stops values errors before after (item_made (execute w depth) i m) (made_at depth (i + 1) rest) (made_at depth i (answer_then m rest)) (made_at depth 0 all) refl
      (here.way depth enough) (made-as _ _ errors after _ _ gives refl (makes depth enough)))

  pub completing-ends : (values : List Value) (errors before : List GraphQLError) (i : ℕ) (left all : Meanings X) → left ≡ no_answer → IsCompleting values errors before i left all
      → MakesBelow w list.group (Some (json.Array values ∷ [])) before errors (λ run. settled list (one_array (items_made w run list 0 all)))
  completing-ends values errors before i left all is so_far depth enough =
      let here : IsCompleting values errors before i no_answer all = subst (λ l. IsCompleting values errors before i l all) is so_far in
      array-some list values before errors (made_at depth 0 all)
      (ends values errors before (made_at depth i no_answer) (made_at depth 0 all) refl (here.way depth enough))
