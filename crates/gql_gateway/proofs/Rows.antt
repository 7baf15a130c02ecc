-- What is made of the keys of a root, by one execution and by two: the two joined are the one.
use Rattle.std.proofs.Common.{◌≡◌, ℕ, ◌+◌, Bool, true, false, cond, ◌||◌, if◌then◌else◌, List, [], ◌∷◌, ◌++◌, map, Option, Some, None, Result, Ok, Err, option_map, refl, sym, ap, ap₂, ◌∙◌, subst, append_assoc, append-nil}
use Rattle.std.specs.List.{AllByRecursion, filter}
use Rattle.std.specs.Map.{lookup}
use Rattle.std.specs.Str.{bytes_eq}
use Rattle.std.proofs.lemmas.List.Elements.{filter-append}
use Rattle.jb_tree.specs.declared.value.Value.{Value}
use Rattle.gql_ast_base.specs.Names.{Named}
use Rattle.gql_collect.proofs.Keys.{text-same, text-itself}
use Rattle.gql_resolvers.specs.Execute.{Made, Member, then_rest, then_rest_of, with_key, keyed}
use Rattle.gql_resolvers.specs.Trail.{Segment}
use Rattle.gql_response.specs.declared.execution_response.ExecutionResponse.{ExecutionResponse}
use Rattle.gql_response.specs.declared.graphql_error.GraphQLError.{GraphQLError}
use Rattle.gql_response.specs.declared.path.ResponseDataPathSegment.TheVariants.{Field, ListIndex}
use Rattle.gql_gateway.specs.Joined.{IsOther, AreApart, of_key, begins_with, errors_under, joined_errors, with_value, with_member, joined_members, with_errors, joined_roots, joined}
use Rattle.gql_gateway.specs.declared.root_key.RootKey.{RootKey}
use Rattle.gql_gateway.proofs.Paths.{Begins}

-- a key, what one execution makes of it, and what the execution makes that tells of the schema alone
pub record Row : Type 0 where
  pub key : RootKey
  pub made : Made Value
  pub other : Made Value

abbrev pub row_key : Row → RootKey
row_key row = row.key

abbrev pub keys_in : List Row → List RootKey
keys_in rows = map row_key rows

-- what the one makes of all
abbrev pub whole : List Row → Made Member
whole [] = (Some [], [])
whole (row ∷ rows) = then_rest (with_key row.key.name.text row.made) (whole rows)

-- what the execution makes that tells of the schema alone
abbrev pub told : List Row → Made Member
told [] = (Some [], [])
told (row ∷ rows) = then_rest (with_key row.key.name.text row.other) (told rows)

-- and what is made of the other keys alone
abbrev pub asked : List Row → Made Member
asked [] = (Some [], [])
asked (row ∷ rows) = if row.key.here then asked rows else then_rest (with_key row.key.name.text row.made) (asked rows)

pub record IsRow (row : Row) : Type 0 where
  pub begins : AllByRecursion (Begins row.key.name.text) row.made.1
  pub other_begins : AllByRecursion (Begins row.key.name.text) row.other.1
  pub same : row.key.here ≡ true → row.other ≡ row.made
  pub passes : (vs : List Value) → row.made.0 ≡ Some vs → (us : List Value) × (row.other.0 ≡ Some us)
  pub one : (vs : List Value) → row.made.0 ≡ Some vs → (v : Value) × (vs ≡ v ∷ [])

-- ---- keys

pub apart : (a b : List ℕ) → ¬ (a ≡ b) → bytes_eq a b ≡ false
apart a b different = by (bytes_eq a b) refl
  where
    by : (e : Bool) → bytes_eq a b ≡ e → e ≡ false
    by true is = absurd (different (text-same a b is))
    by false is = refl

-- members of another key are passed over
pass-over : (q k : List ℕ) (vs : List Value) (ms : List Member) → ¬ (k ≡ q) → lookup (bytes_eq q) (keyed k vs ++ ms) ≡ lookup (bytes_eq q) ms
pass-over q k [] ms different = refl
pass-over q k (v ∷ vs) ms different =
    ap (λ b. cond b (Some v) (lookup (bytes_eq q) (keyed k vs ++ ms))) (apart q k (λ e. different (sym e))) ∙ pass-over q k vs ms different

-- a path begins with one key
one-beginning : (k q : List ℕ) (path : List Segment) → begins_with k path ≡ true → ¬ (k ≡ q) → begins_with q path ≡ false
one-beginning k q [] is different = refl
one-beginning k q (Field name ∷ path) is different = apart q name.text (λ e. different (text-same k name.text is ∙ sym e))
one-beginning k q (ListIndex i ∷ path) is different = refl

-- ---- errors

all-under : (k : List ℕ) (es : List GraphQLError) → AllByRecursion (Begins k) es → errors_under k es ≡ es
all-under k [] begins = refl
all-under k (e ∷ es) begins = ap (λ b. cond b (e ∷ errors_under k es) (errors_under k es)) begins.0 ∙ ap (λ l. e ∷ l) (all-under k es begins.1)

none-under : (k q : List ℕ) (es : List GraphQLError) → AllByRecursion (Begins k) es → ¬ (k ≡ q) → errors_under q es ≡ []
none-under k q [] begins different = refl
none-under k q (e ∷ es) begins different =
    ap (λ b. cond b (e ∷ errors_under q es) (errors_under q es)) (one-beginning k q e.path begins.0 different) ∙ none-under k q es begins.1 different

pub under-both : (q : List ℕ) (es fs : List GraphQLError) → errors_under q (es ++ fs) ≡ errors_under q es ++ errors_under q fs
under-both q es fs = filter-append (λ (error : GraphQLError). begins_with q error.path) es fs

-- errors of another key are passed over
under-rest : (k q : List ℕ) (es fs : List GraphQLError) → AllByRecursion (Begins k) es → ¬ (k ≡ q) → errors_under q (es ++ fs) ≡ errors_under q fs
under-rest k q es fs begins different = under-both q es fs ∙ ap (λ l. l ++ errors_under q fs) (none-under k q es begins different)

errors-rest : (k : List ℕ) (keys : List RootKey) → AllByRecursion (IsOther k) keys → (here there es fs : List GraphQLError)
    → AllByRecursion (Begins k) here → AllByRecursion (Begins k) there → joined_errors keys (here ++ es) (there ++ fs) ≡ joined_errors keys es fs
errors-rest k [] others here there es fs begins begin = refl
errors-rest k (key ∷ keys) others here there es fs begins begin =
    ap₂ (λ (a b : List GraphQLError). a ++ b) (by key.here) (errors-rest k keys others.1 here there es fs begins begin)
  where
    by : (b : Bool) → errors_under key.name.text (if b then here ++ es else there ++ fs) ≡ errors_under key.name.text (if b then es else fs)
    by true = under-rest k key.name.text here es begins others.0
    by false = under-rest k key.name.text there fs begin others.0

-- ---- members

members-rest : (k : List ℕ) (keys : List RootKey) → AllByRecursion (IsOther k) keys → (us vs : List Value) (ms ns : List Member)
    → joined_members keys (keyed k us ++ ms) (keyed k vs ++ ns) ≡ joined_members keys ms ns
members-rest k [] others us vs ms ns = refl
members-rest k (key ∷ keys) others us vs ms ns =
    ap₂ (λ (o : Option Value) (r : Result (List Member) Named). with_member key o r) (by key.here) (members-rest k keys others.1 us vs ms ns)
  where
    by : (b : Bool) → lookup (bytes_eq key.name.text) (if b then keyed k us ++ ms else keyed k vs ++ ns) ≡ lookup (bytes_eq key.name.text) (if b then ms else ns)
    by true = pass-over key.name.text k us ms others.0
    by false = pass-over key.name.text k vs ns others.0

here-found : (k : List ℕ) (v : Value) (ms : List Member) → lookup (bytes_eq k) ((k, v) ∷ ms) ≡ Some v
here-found k v ms = ap (λ b. cond b (Some v) (lookup (bytes_eq k) ms)) (text-itself k)

-- ---- what is made first, and the rest

front-some : {A : Type 0} (xs : List A) (o : Option (List A)) (all : List A) → (then_rest_of (Some xs) [] (o, [])).0 ≡ Some all
    → (ys : List A) × (o ≡ Some ys) × (all ≡ xs ++ ys)
front-some xs None all is = absurd (let e : None ≡ Some all = is in cc)
front-some xs (Some ys) all is = (ys, refl, (let e : Some (xs ++ ys) ≡ Some all = is in let s : xs ++ ys ≡ all = cc in sym s))

record Both {A : Type 0} (first rest : Option (List A)) (all : List A) : Type 0 where
  pub xs : List A
  pub ys : List A
  pub front : first ≡ Some xs
  pub behind : rest ≡ Some ys
  pub is : all ≡ xs ++ ys

then-both : {A : Type 0} (first rest : Made A) (all : List A) → (then_rest_of first.0 first.1 rest).0 ≡ Some all → Both first.0 rest.0 all
then-both {A = A} first rest all is = by first.0 is
  where
    by : (o : Option (List A)) → (then_rest_of o first.1 rest).0 ≡ Some all → Both o rest.0 all
    by None e = absurd (let f : None ≡ Some all = e in cc)
    by (Some us) e = let found = front-some us rest.0 all e in record { xs = us; ys = found.0; front = refl; behind = found.1; is = found.2 }

key-some : (k : List ℕ) (made : Made Value) (xs : List Member) → (with_key k made).0 ≡ Some xs → (vs : List Value) × (made.0 ≡ Some vs) × (xs ≡ keyed k vs)
key-some k made xs is = by made.0 is
  where
    by : (o : Option (List Value)) → option_map (λ vs. keyed k vs) o ≡ Some xs → (vs : List Value) × (o ≡ Some vs) × (xs ≡ keyed k vs)
    by None e = absurd (let f : None ≡ Some xs = e in cc)
    by (Some vs) e = (vs, refl, (let f : Some (keyed k vs) ≡ Some xs = e in let s : keyed k vs ≡ xs = cc in sym s))

-- a key's values, and then the rest
made-then : (k : List ℕ) (made : Made Value) (rest : Made Member) (vs : List Value) (ms : List Member) → made.0 ≡ Some vs → rest.0 ≡ Some ms
    → then_rest (with_key k made) rest ≡ (Some (keyed k vs ++ ms), made.1 ++ rest.1)
made-then k made rest vs ms is si =
    ap (λ o. then_rest_of (option_map (λ vs. keyed k vs) o) made.1 rest) is
    ∙ ap (λ (o : Option (List Member)). then_rest_of (Some (keyed k vs)) made.1 (o, rest.1)) si

-- ---- the two joined are the one

pub record IsJoined (rows : List Row) (members : List Member) : Type 0 where
  pub ms : List Member
  pub ns : List Member
  pub told_is : (told rows).0 ≡ Some ms
  pub asked_is : (asked rows).0 ≡ Some ns
  pub members_are : joined_members (keys_in rows) ms ns ≡ Ok members
  pub errors_are : joined_errors (keys_in rows) (told rows).1 (asked rows).1 ≡ (whole rows).1
  pub told_others : (k : List ℕ) → AllByRecursion (IsOther k) (keys_in rows) → errors_under k (told rows).1 ≡ []
  pub asked_others : (k : List ℕ) → AllByRecursion (IsOther k) (keys_in rows) → errors_under k (asked rows).1 ≡ []

module _ (row : Row) (rows : List Row) (is_row : IsRow row) (others : AllByRecursion (IsOther row.key.name.text) (keys_in rows)) (rest : List Member) (it : IsJoined rows rest)
    (v : Value) (one : row.made.0 ≡ Some (v ∷ [])) (whole_rest : (whole rows).0 ≡ Some rest) where
  abbrev k : List ℕ
  k = row.key.name.text

  -- what stands under the key, and what passes over it
  at-key : (here : Bool) → row.key.here ≡ here → (us vs : List Value) → (if here then keyed k us ++ it.ms else keyed k vs ++ it.ns) ≡ (k, v) ∷ (if here then it.ms else it.ns)
      → joined_members (row.key ∷ keys_in rows) (keyed k us ++ it.ms) (keyed k vs ++ it.ns) ≡ Ok ((k, v) ∷ rest)
  at-key here is us vs front =
      ap (λ b. with_member row.key (lookup (bytes_eq k) (if b then keyed k us ++ it.ms else keyed k vs ++ it.ns)) (joined_members (keys_in rows) (keyed k us ++ it.ms) (keyed k vs ++ it.ns))) is
      ∙ ap (λ (l : List Member). with_member row.key (lookup (bytes_eq k) l) (joined_members (keys_in rows) (keyed k us ++ it.ms) (keyed k vs ++ it.ns))) front
      ∙ ap (λ o. with_member row.key o (joined_members (keys_in rows) (keyed k us ++ it.ms) (keyed k vs ++ it.ns))) (here-found k v (if here then it.ms else it.ns))
      ∙ ap (with_value row.key v) (members-rest k (keys_in rows) others us vs it.ms it.ns ∙ it.members_are)

  -- errors under the key, and behind them those of the others
  errors-at : (here : Bool) → row.key.here ≡ here → (es fs : List GraphQLError) → AllByRecursion (Begins k) es → AllByRecursion (Begins k) fs
      → errors_under k (if here then es ++ (told rows).1 else fs ++ (asked rows).1) ≡ row.made.1
      → joined_errors (row.key ∷ keys_in rows) (es ++ (told rows).1) (fs ++ (asked rows).1) ≡ row.made.1 ++ (whole rows).1
  errors-at here is es fs begins begin first =
      ap (λ b. errors_under k (if b then es ++ (told rows).1 else fs ++ (asked rows).1) ++ joined_errors (keys_in rows) (es ++ (told rows).1) (fs ++ (asked rows).1)) is
      ∙ ap (λ (l : List GraphQLError). l ++ joined_errors (keys_in rows) (es ++ (told rows).1) (fs ++ (asked rows).1)) first
      ∙ ap (λ (l : List GraphQLError). row.made.1 ++ l) (errors-rest k (keys_in rows) others es fs (told rows).1 (asked rows).1 begins begin ∙ it.errors_are)

  -- those of the key alone
  under-key : (es fs : List GraphQLError) → AllByRecursion (Begins k) es → errors_under k fs ≡ [] → errors_under k (es ++ fs) ≡ es
  under-key es fs begins none =
      under-both k es fs ∙ ap (λ (l : List GraphQLError). errors_under k es ++ l) none ∙ append-nil (errors_under k es) ∙ all-under k es begins

  none-more : (q : List ℕ) → IsOther q row.key → (es fs : List GraphQLError) → AllByRecursion (Begins k) es → errors_under q fs ≡ [] → errors_under q (es ++ fs) ≡ []
  none-more q other es fs begins none = under-rest k q es fs begins (λ e. other (sym e)) ∙ none

  abbrev whole_is : then_rest (with_key k row.made) (whole rows) ≡ (Some ((k, v) ∷ rest), row.made.1 ++ (whole rows).1)
  whole_is = made-then k row.made (whole rows) (v ∷ []) rest one whole_rest

  -- a key that is answered here
  joined-here : row.key.here ≡ true → IsJoined (row ∷ rows) ((k, v) ∷ rest)
  joined-here here =
      let told_now : told (row ∷ rows) ≡ (Some ((k, v) ∷ it.ms), row.made.1 ++ (told rows).1) =
      ap (λ (m : Made Value). then_rest (with_key k m) (told rows)) (is_row.same here) ∙ made-then k row.made (told rows) (v ∷ []) it.ms one it.told_is in
      let asked_now : asked (row ∷ rows) ≡ asked rows = ap (λ b. if b then asked rows else then_rest (with_key k row.made) (asked rows)) here in
      record {
        ms = (k, v) ∷ it.ms;
        ns = it.ns;
        told_is = ap (λ (m : Made Member). m.0) told_now;
        asked_is = ap (λ (m : Made Member). m.0) asked_now ∙ it.asked_is;
        members_are = at-key true here (v ∷ []) [] refl;
        errors_are =
            ap₂ (λ (a b : Made Member). joined_errors (row.key ∷ keys_in rows) a.1 b.1) told_now asked_now
            ∙ errors-at true here row.made.1 [] is_row.begins tt (under-key row.made.1 (told rows).1 is_row.begins (it.told_others k others))
            ∙ sym (ap (λ (m : Made Member). m.1) whole_is);
        told_others = λ q other. ap (λ (m : Made Member). errors_under q m.1) told_now ∙ none-more q other.0 row.made.1 (told rows).1 is_row.begins (it.told_others q other.1);
        asked_others = λ q other. ap (λ (m : Made Member). errors_under q m.1) asked_now ∙ it.asked_others q other.1;
      }

  -- and one that is asked of the other
  joined-there : row.key.here ≡ false → IsJoined (row ∷ rows) ((k, v) ∷ rest)
  joined-there here =
      let left = is_row.passes (v ∷ []) one in
      let told_now : told (row ∷ rows) ≡ (Some (keyed k left.0 ++ it.ms), row.other.1 ++ (told rows).1) = made-then k row.other (told rows) left.0 it.ms left.1 it.told_is in
      let asked_now : asked (row ∷ rows) ≡ (Some ((k, v) ∷ it.ns), row.made.1 ++ (asked rows).1) =
      ap (λ b. if b then asked rows else then_rest (with_key k row.made) (asked rows)) here ∙ made-then k row.made (asked rows) (v ∷ []) it.ns one it.asked_is in
      record {
        ms = keyed k left.0 ++ it.ms;
        ns = (k, v) ∷ it.ns;
        told_is = ap (λ (m : Made Member). m.0) told_now;
        asked_is = ap (λ (m : Made Member). m.0) asked_now;
        members_are = at-key false here left.0 (v ∷ []) refl;
        errors_are =
            ap₂ (λ (a b : Made Member). joined_errors (row.key ∷ keys_in rows) a.1 b.1) told_now asked_now
            ∙ errors-at false here row.other.1 row.made.1 is_row.other_begins is_row.begins (under-key row.made.1 (asked rows).1 is_row.begins (it.asked_others k others))
            ∙ sym (ap (λ (m : Made Member). m.1) whole_is);
        told_others = λ q other. ap (λ (m : Made Member). errors_under q m.1) told_now ∙ none-more q other.0 row.other.1 (told rows).1 is_row.other_begins (it.told_others q other.1);
        asked_others = λ q other. ap (λ (m : Made Member). errors_under q m.1) asked_now ∙ none-more q other.0 row.made.1 (asked rows).1 is_row.begins (it.asked_others q other.1);
      }

  joined-one : (here : Bool) → row.key.here ≡ here → IsJoined (row ∷ rows) ((k, v) ∷ rest)
  joined-one true here = joined-here here
  joined-one false here = joined-there here

pub joined-rows : (rows : List Row) → AllByRecursion IsRow rows → AreApart (keys_in rows) → (members : List Member) → (whole rows).0 ≡ Some members → IsJoined rows members
joined-rows [] each distinct members is =
    let same : [] ≡ members = (let e : Some [] ≡ Some members = is in cc) in
    subst (IsJoined []) same (record {
      ms = [];
      ns = [];
      told_is = refl;
      asked_is = refl;
      members_are = refl;
      errors_are = refl;
      told_others = λ k other. refl;
      asked_others = λ k other. refl;
    })
joined-rows (row ∷ rows) each distinct members is =
    let parts = then-both (with_key row.key.name.text row.made) (whole rows) members is in
    let values = key-some row.key.name.text row.made parts.xs parts.front in
    let one = each.0.one values.0 values.1 in
    let rest = joined-rows rows each.1 distinct.1 parts.ys parts.behind in
    let all : (row.key.name.text, one.0) ∷ parts.ys ≡ members =
    sym (parts.is ∙ ap (λ (l : List Member). l ++ parts.ys) (values.2 ∙ ap (keyed row.key.name.text) one.1)) in
    subst (IsJoined (row ∷ rows)) all (joined-one row rows each.0 distinct.0 parts.ys rest one.0 (values.1 ∙ ap Some one.1) parts.behind row.key.here refl)

-- as responses
pub joined-responses : (rows : List Row) → AllByRecursion IsRow rows → AreApart (keys_in rows) → (members : List Member) → (whole rows).0 ≡ Some members
    → joined (keys_in rows) (record { errors = (told rows).1; root = (told rows).0 }) (record { errors = (asked rows).1; root = (asked rows).0 })
    ≡ Ok (record { errors = (whole rows).1; root = (whole rows).0 })
joined-responses rows each distinct members is =
    let it = joined-rows rows each distinct members is in
    ap₂ (λ (a b : Option (List Member)). joined_roots (keys_in rows) (told rows).1 (asked rows).1 a b) it.told_is it.asked_is
    ∙ ap₂ (λ (es : List GraphQLError) (ms : Result (List Member) Named). with_errors es ms) it.errors_are it.members_are
    ∙ ap (λ (o : Option (List Member)). let r : ExecutionResponse = record { errors = (whole rows).1; root = o } in let answer : Result ExecutionResponse Named = Ok r in answer) (sym is)

-- ---- nothing is missing

abbrev pub IsKept : Row → Type 0
IsKept row = row.key.here ≡ false → (vs : List Value) → row.made.0 ≡ Some vs → (v : Value) × (vs ≡ v ∷ [])

abbrev Found : Result (List Member) Named → Type 0
Found r = (members : List Member) × (r ≡ Ok members)

-- a key that is answered here is found, or left out
found-here : (key : RootKey) → key.here ≡ true → (o : Option Value) (r : Result (List Member) Named) → Found r → Found (with_member key o r)
found-here key here (Some v) r it = ((key.name.text, v) ∷ it.0, ap (with_value key v) it.1)
found-here key here None r it = (it.0, ap (λ b. if b then r else Err key.name) here ∙ it.1)

-- where the other keys have data, each of them has its value there, whatever is answered here
pub all-found : (rows : List Row) → AllByRecursion IsKept rows → AreApart (keys_in rows) → (ms ns : List Member) → (asked rows).0 ≡ Some ns
    → Found (joined_members (keys_in rows) ms ns)
all-found [] each distinct ms ns is = ([], refl)
all-found (row ∷ rows) each distinct ms ns is = by row.key.here refl (λ os ps e. all-found rows each.1 distinct.1 os ps e)
  where
    by : (here : Bool) → row.key.here ≡ here → ((os ps : List Member) → (asked rows).0 ≡ Some ps → Found (joined_members (keys_in rows) os ps))
        → Found (joined_members (keys_in (row ∷ rows)) ms ns)
    by true here behind_found =
        let behind : (asked rows).0 ≡ Some ns = ap (λ b. (if b then asked rows else then_rest (with_key row.key.name.text row.made) (asked rows)).0) (sym here) ∙ is in
        found-here row.key here (lookup (bytes_eq row.key.name.text) (of_key row.key ms ns)) (joined_members (keys_in rows) ms ns)
        (behind_found ms ns behind)
    by false here behind_found =
        let k = row.key.name.text in
        let all : (then_rest (with_key k row.made) (asked rows)).0 ≡ Some ns = ap (λ b. (if b then asked rows else then_rest (with_key k row.made) (asked rows)).0) (sym here) ∙ is in
        let parts = then-both (with_key k row.made) (asked rows) ns all in
        let values = key-some k row.made parts.xs parts.front in
        let one = each.0 here values.0 values.1 in
        let ns_are : ns ≡ (k, one.0) ∷ parts.ys = parts.is ∙ ap (λ (l : List Member). l ++ parts.ys) (values.2 ∙ ap (keyed k) one.1) in
        let rest = behind_found ms parts.ys parts.behind in
        subst (λ (l : List Member). Found (joined_members (keys_in (row ∷ rows)) ms l)) (sym ns_are) (
          (k, one.0) ∷ rest.0,
          ap (λ b. with_member row.key (lookup (bytes_eq k) (if b then ms else (k, one.0) ∷ parts.ys)) (joined_members (keys_in rows) ms ((k, one.0) ∷ parts.ys))) here
              ∙ ap (λ o. with_member row.key o (joined_members (keys_in rows) ms ((k, one.0) ∷ parts.ys))) (here-found k one.0 parts.ys)
              ∙ ap (with_value row.key one.0) (members-rest k (keys_in rows) distinct.0 [] (one.0 ∷ []) ms parts.ys ∙ rest.1),
        )

pub none-lacking : (rows : List Row) → AllByRecursion IsKept rows → AreApart (keys_in rows) → (here : ExecutionResponse) (lacking : Named)
    → joined (keys_in rows) here (record { errors = (asked rows).1; root = (asked rows).0 }) ≡ Err lacking → ⊥
none-lacking rows each distinct here lacking is = by here.root (asked rows).0 refl is
  where
    by : (ms ns : Option (List Member)) → (asked rows).0 ≡ ns → joined_roots (keys_in rows) here.errors (asked rows).1 ms ns ≡ Err lacking → ⊥
    by (Some ms) (Some ns) has e =
        let it = all-found rows each distinct ms ns has in
        let found : with_errors (joined_errors (keys_in rows) here.errors (asked rows).1) (joined_members (keys_in rows) ms ns)
        ≡ Ok (record { errors = joined_errors (keys_in rows) here.errors (asked rows).1; root = Some it.0 }) =
        ap (with_errors (joined_errors (keys_in rows) here.errors (asked rows).1)) it.1 in
        let no : Ok (record { errors = joined_errors (keys_in rows) here.errors (asked rows).1; root = Some it.0 }) ≡ Err lacking = sym found ∙ e in
        cc
    by None ns has e = cc
    by (Some ms) None has e = cc
