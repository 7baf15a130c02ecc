-- Errors that are put into lists by key, and what is left under the other keys where that of one is taken out.
use Rattle.std.proofs.Common.{rules, ◌≡◌, ℕ, Bool, true, false, cond, Option, Some, None, IsSome, unwrap_or, List, [], ◌∷◌, ◌++◌, refl, sym, ap, ◌∙◌, subst, append_assoc, append-nil}
use Rattle.std.specs.Map.{lookup, set_value}
use Rattle.std.specs.Option.{option_map_or, option_or}
use Rattle.std.specs.Str.{bytes_eq}
use Rattle.std.specs.Cmp.Lexicographic.{nat_list_eq_equiv}
use Rattle.std.proofs.lemmas.Map.{lookup-set_value}
use Rattle.jb_tree.specs.declared.value.Value.{Value}
use Rattle.jb_tree.specs.declared.value.Value.TheVariants as json
use Rattle.gql_collect.proofs.Keys.{text-same}
use Rattle.gql_resolvers.specs.Execute.{Member}
use Rattle.gql_response.specs.declared.graphql_error.GraphQLError.{GraphQLError}
use Rattle.gql_response.specs.declared.path.ResponseDataPathSegment.TheVariants.{Field, ListIndex}
use Rattle.gql_resolvers.specs.Trail.{Segment}
use Rattle.gql_gateway.specs.Joined.{begins_with, errors_under}
use Rattle.gql_gateway.specs.bridge.Joined.{first_key}
use Rattle.gql_gateway.specs.bridge.Sides.{Lists, listed_at, with_error, filed_by, with_filed, without_list, without_value}
use Rattle.gql_gateway.proofs.Rows.{under-both}

module _ {X : Type 0} where
  pub lookup-last : (q k : List ℕ) (w : X) (es : List (List ℕ × X))
      → lookup (bytes_eq q) (es ++ (k, w) ∷ []) ≡ option_or (lookup (bytes_eq q) es) (cond (bytes_eq q k) (Some w) None)
  lookup-last q k w [] = refl
  lookup-last q k w (e ∷ es) = by (bytes_eq q e.0) (lookup-last q k w es)
    where
      by : (b : Bool) → lookup (bytes_eq q) (es ++ (k, w) ∷ []) ≡ option_or (lookup (bytes_eq q) es) (cond (bytes_eq q k) (Some w) None)
          → cond b (Some e.1) (lookup (bytes_eq q) (es ++ (k, w) ∷ []))
          ≡ option_or (cond b (Some e.1) (lookup (bytes_eq q) es)) (cond (bytes_eq q k) (Some w) None)
      by true later = refl
      by false later = later

  -- a value that is written under another key
  set-other : (q k : List ℕ) (w : X) (es : List (List ℕ × X)) → bytes_eq q k ≡ false → lookup (bytes_eq q) (set_value (bytes_eq k) es w) ≡ lookup (bytes_eq q) es
  set-other q k w [] other = refl
  set-other q k w (e ∷ es) other = by (bytes_eq k e.0) refl (set-other q k w es other)
    where
      by : (b : Bool) → bytes_eq k e.0 ≡ b → lookup (bytes_eq q) (set_value (bytes_eq k) es w) ≡ lookup (bytes_eq q) es
          → lookup (bytes_eq q) (cond b ((e.0, w) ∷ es) (e ∷ set_value (bytes_eq k) es w)) ≡ lookup (bytes_eq q) (e ∷ es)
      by true is later =
          let differs : bytes_eq q e.0 ≡ false = ap (bytes_eq q) (sym (text-same k e.0 is)) ∙ other in
          ap (λ b. cond b (Some w) (lookup (bytes_eq q) es)) differs ∙ sym (ap (λ b. cond b (Some e.1) (lookup (bytes_eq q) es)) differs)
      by false is later = ap (λ o. cond (bytes_eq q e.0) (Some e.1) o) later

-- ---- what is taken out

pub values-stay : (q k : List ℕ) (members : List Member) → bytes_eq q k ≡ false → lookup (bytes_eq q) (without_value k members) ≡ lookup (bytes_eq q) members
values-stay q k members other = by (lookup (bytes_eq k) members)
  where
    by : (o : Option Value) → lookup (bytes_eq q) (option_map_or (λ v. set_value (bytes_eq k) members json.Null) o members) ≡ lookup (bytes_eq q) members
    by None = refl
    by (Some v) = set-other q k json.Null members other

pub lists-stay : (q k : List ℕ) (under : Lists) → bytes_eq q k ≡ false → listed_at (without_list k under) q ≡ listed_at under q
lists-stay q k under other = by (lookup (bytes_eq k) under)
  where
    by : (o : Option (List GraphQLError)) → listed_at (option_map_or (λ list. set_value (bytes_eq k) under []) o under) q ≡ listed_at under q
    by None = refl
    by (Some list) = ap (λ (o : Option (List GraphQLError)). unwrap_or o []) (set-other q k [] under other)

-- ---- what is put in

new-list : (e : GraphQLError) (o : Option (List GraphQLError)) (b : Bool) → (b ≡ true → o ≡ None)
    → unwrap_or (option_or o (cond b (Some (e ∷ [])) None)) [] ≡ unwrap_or o [] ++ cond b (e ∷ []) []
new-list e None true none = refl
new-list e None false none = refl
new-list e (Some list) true none = let is : Some list ≡ None = none refl in absurd cc
new-list e (Some list) false none = sym (append-nil list)

known-list : (e : GraphQLError) (list : List GraphQLError) (o : Option (List GraphQLError)) (b : Bool) → (b ≡ true → o ≡ Some list)
    → unwrap_or (cond b (Some (list ++ e ∷ [])) o) [] ≡ unwrap_or o [] ++ cond b (e ∷ []) []
known-list e list o true is = ap (λ (p : Option (List GraphQLError)). unwrap_or p [] ++ e ∷ []) (sym (is refl))
known-list e list o false is = sym (append-nil (unwrap_or o []))

error-listed : (q k : List ℕ) (e : GraphQLError) (under : Lists) → listed_at (with_error k e under) q ≡ listed_at under q ++ cond (bytes_eq q k) (e ∷ []) []
error-listed q k e under = by (lookup (bytes_eq k) under) refl
  where
    by : (o : Option (List GraphQLError)) → lookup (bytes_eq k) under ≡ o
        → listed_at (option_map_or (λ list. set_value (bytes_eq k) under (list ++ e ∷ [])) o (under ++ (k, e ∷ []) ∷ [])) q
        ≡ listed_at under q ++ cond (bytes_eq q k) (e ∷ []) []
    by None is =
        ap (λ (o : Option (List GraphQLError)). unwrap_or o []) (lookup-last q k (e ∷ []) under)
        ∙ new-list e (lookup (bytes_eq q) under) (bytes_eq q k) (λ same. ap (λ t. lookup (bytes_eq t) under) (text-same q k same) ∙ is)
    by (Some list) is =
        let there : IsSome (lookup (bytes_eq k) under) = subst IsSome (sym is) (search rules) in
        ap (λ (o : Option (List GraphQLError)). unwrap_or o [])
        (lookup-set_value nat_list_eq_equiv (bytes_eq k) (λ x y same. ap (λ t. bytes_eq t y) (text-same k x same)) q (list ++ e ∷ []) under there
        ∙ ap (λ b. cond b (Some (list ++ e ∷ [])) (lookup (bytes_eq q) under)) (nat_list_eq_equiv.symm k q))
        ∙ known-list e list (lookup (bytes_eq q) under) (bytes_eq q k) (λ same. ap (λ t. lookup (bytes_eq t) under) (text-same q k same) ∙ is)

filed-listed : (q : List ℕ) (e : GraphQLError) (under : Lists) → listed_at (with_filed e under) q ≡ listed_at under q ++ errors_under q (e ∷ [])
filed-listed q e under = by e.path
  where
    by : (path : List Segment) → listed_at (filed_by (first_key path) e under) q ≡ listed_at under q ++ cond (begins_with q path) (e ∷ []) []
    by [] = sym (append-nil (listed_at under q))
    by (Field name ∷ path) = error-listed q name.text e under
    by (ListIndex index ∷ path) = sym (append-nil (listed_at under q))

-- the lists with those that are left to be put in are those of all
abbrev pub AreFiled : Lists → List GraphQLError → List GraphQLError → Type 0
AreFiled under left all = (q : List ℕ) → listed_at under q ++ errors_under q left ≡ errors_under q all

pub filed-next : (under under' : Lists) (e : GraphQLError) (left rest all : List GraphQLError) → left ≡ e ∷ rest → under' ≡ with_filed e under
    → AreFiled under left all → AreFiled under' rest all
filed-next under under' e left rest all is made filed q =
    ap (λ (u : Lists). listed_at u q ++ errors_under q rest) made
    ∙ ap (λ (l : List GraphQLError). l ++ errors_under q rest) (filed-listed q e under)
    ∙ append_assoc (listed_at under q) (errors_under q (e ∷ [])) (errors_under q rest)
    ∙ ap (λ (l : List GraphQLError). listed_at under q ++ l) (sym (under-both q (e ∷ []) rest))
    ∙ ap (λ (l : List GraphQLError). listed_at under q ++ errors_under q l) (sym is)
    ∙ filed q

pub filed-end : (under : Lists) (left all : List GraphQLError) → left ≡ [] → AreFiled under left all → (q : List ℕ) → listed_at under q ≡ errors_under q all
filed-end under left all is filed q =
    sym (append-nil (listed_at under q)) ∙ ap (λ (l : List GraphQLError). listed_at under q ++ errors_under q l) (sym is) ∙ filed q
