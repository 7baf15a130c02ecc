-- Members that are put in turn, from some place of an object on.
use Rattle.std.proofs.Common.{◌≡◌, ℕ, ◌+◌, List, ◌∷◌, drop, Result, Ok, Err, Option, Some, sym, ◌∙◌, ap, subst}
use Rattle.std.specs.List.{slice_get}
use Rattle.std.specs.Map.{keys_of, values_of}
use Rattle.jb_text.specs.declared.refused.Refused.{Refused}
use Rattle.jb_text.specs.declared.refused.Refused.TheVariants.{Fault, Memory}
use Rattle.jb_tree.specs.declared.value.Value.{Value}
use Rattle.jb_shape.specs.declared.shape_error.ShapeError.{ShapeError}
use Rattle.jb_shape.specs.Outcome.{Answers, and_then}
use Rattle.jb_print.proofs.Trees.{drop-member}
use Rattle.gql_response.specs.Response.{Member}
use Rattle.jb_shape.specs.Scalars.{of_kind}
use Rattle.jb_tree.specs.Value.{object_members}
use Rattle.gql_response.specs.Puts.{in_turn, parts_of, Puts}

module _ {P : Type 0} (put : P → Member → Result P ShapeError) where
  pub step : (before after : P) (members : List Member) (index : ℕ) (key : List ℕ) (value : Value) → slice_get (keys_of members) index ≡ Some key → slice_get (values_of members) index ≡ Some value
      → put before (key, value) ≡ Ok after → in_turn put before (drop index members) ≡ in_turn put after (drop (index + 1) members)
  step before after members index key value k v h =
      ap (in_turn put before) (drop-member members index key value k v) ∙ ap (λ r. and_then r (λ more. in_turn put more (drop (index + 1) members))) h

  refused_by : (e : Refused ShapeError) (before after : P) (member : Member) (members : List Member) → Puts (put before member) (Err e) after → Answers (in_turn put before (member ∷ members)) (Err e)
  refused_by (Fault cause) before after member members h = ap (λ r. and_then r (λ more. in_turn put more members)) h
  refused_by Memory before after member members h = tt

  pub refuses : (e : Refused ShapeError) (before after : P) (members : List Member) (index : ℕ) (key : List ℕ) (value : Value) → slice_get (keys_of members) index ≡ Some key → slice_get (values_of members) index ≡ Some value
      → Puts (put before (key, value)) (Err e) after → Answers (in_turn put before (drop index members)) (Err e)
  refuses e before after members index key value k v h =
      let Q : Result P ShapeError → Type 0 = λ r. Answers r (Err e) in
      subst Q (ap (in_turn put before) (sym (drop-member members index key value k v))) (refused_by e before after (key, value) (drop (index + 1) members) h)

  pub parts-found : (none : P) (value : Value) (members : List Member) → Some members ≡ object_members value → parts_of put none value ≡ in_turn put none members
  parts-found none value members found = ap (λ (o : Option (List Member)). and_then (of_kind o) (in_turn put none)) (sym found)
