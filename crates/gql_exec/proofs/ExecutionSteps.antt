-- How far a loop that makes values has come, and a step of it.
use Rattle.std.proofs.Common.{◌≡◌, List, [], ◌++◌, Option, Some, None, refl, sym, ap, ◌∙◌, append_assoc}
use Rattle.std.proofs.lemmas.List.{append-nil}
use Rattle.gql_response.specs.declared.graphql_error.GraphQLError.{GraphQLError}
use Rattle.gql_resolvers.specs.Execute.{Made, front_of, then_rest_of, then_rest}
use Rattle.gql_exec.specs.bridge.Executed.{IsMade}

-- what is found so far and the errors that are listed, with what is left to make, are all that is made
pub record IsOnWay {A : Type 0} (found : List A) (errors before : List GraphQLError) (left all : Made A) : Type 0 where
  pub so_far : front_of found left.0 ≡ all.0
  pub listed : errors ++ left.1 ≡ before ++ all.1

module _ {A : Type 0} where
  front-nothing : (o : Option (List A)) → front_of [] o ≡ o
  front-nothing None = refl
  front-nothing (Some xs) = refl

  front-more : (xs ys : List A) (o : Option (List A)) → front_of (xs ++ ys) o ≡ front_of xs (front_of ys o)
  front-more xs ys None = refl
  front-more xs ys (Some zs) = ap Some (append_assoc xs ys zs)

  pub begun : (before : List GraphQLError) (all : Made A) → IsOnWay [] before before all all
  begun before all = record { so_far = front-nothing all.0; listed = refl }

  -- what is left begins with what makes these
  pub goes_on : (found more xs : List A) (errors before after : List GraphQLError) (first rest left all : Made A) → left ≡ then_rest first rest
      → IsOnWay found errors before left all → IsMade (Some xs) errors after first → more ≡ found ++ xs → IsOnWay more after before rest all
  goes_on found more xs errors before after first rest left all is way made added =
      let same : left ≡ (front_of xs rest.0, first.1 ++ rest.1) = is ∙ ap (λ o. then_rest_of o first.1 rest) (sym made.is) in
      record {
        so_far = ap (λ l. front_of l rest.0) added ∙ front-more found xs rest.0 ∙ sym (ap (λ (m : Made A). front_of found m.0) same) ∙ way.so_far;
        listed = ap (λ l. l ++ rest.1) made.listed ∙ append_assoc errors first.1 rest.1 ∙ sym (ap (λ (m : Made A). errors ++ m.1) same) ∙ way.listed;
      }

  -- what is left begins with a null that is passed on
  pub stops : (found : List A) (errors before after : List GraphQLError) (first rest left all : Made A) → left ≡ then_rest first rest
      → IsOnWay found errors before left all → IsMade None errors after first → IsMade None before after all
  stops found errors before after first rest left all is way made =
      let same : left ≡ (None, first.1) = is ∙ ap (λ o. then_rest_of o first.1 rest) (sym made.is) in
      record {
        is = sym (ap (λ (m : Made A). front_of found m.0) same) ∙ way.so_far;
        listed = made.listed ∙ sym (ap (λ (m : Made A). errors ++ m.1) same) ∙ way.listed;
      }

  -- nothing is left
  pub ends : (found : List A) (errors before : List GraphQLError) (left all : Made A) → left ≡ (Some [], []) → IsOnWay found errors before left all
      → IsMade (Some found) before errors all
  ends found errors before left all is way = record {
    is = sym (ap Some (append-nil found)) ∙ sym (ap (λ (m : Made A). front_of found m.0) is) ∙ way.so_far;
    listed = sym (append-nil errors) ∙ sym (ap (λ (m : Made A). errors ++ m.1) is) ∙ way.listed;
  }
