-- Two responses that are joined key by key.
use Rattle.std.proofs.Common.{◌≡◌, ◌⊎◌, ℕ, Bool, true, false, cond, if◌then◌else◌, Option, Some, None, List, [], ◌∷◌, ◌++◌, Result, Ok, Err, IsErrAnd, refl, sym, ap, ap₂, ◌∙◌, subst, append_assoc, append-nil, inl, inr}
use Rattle.std.specs.List.{AllByRecursion}
use Rattle.std.specs.Map.{lookup}
use Rattle.std.specs.Option.{option_or}
use Rattle.std.specs.Str.{bytes_eq}
use Rattle.jb_text.specs.declared.refused.Refused.{Refused}
use Rattle.jb_text.specs.declared.refused.Refused.TheVariants.{Fault, Memory}
use Rattle.jb_tree.specs.declared.value.Value.{Value}
use Rattle.gql_ast_base.specs.Names.{Named}
use Rattle.gql_resolvers.specs.Execute.{Member}
use Rattle.gql_response.specs.declared.execution_response.ExecutionResponse.{ExecutionResponse}
use Rattle.gql_response.specs.declared.graphql_error.GraphQLError.{GraphQLError}
use Rattle.gql_gateway.specs.Joined.{Gives, IsOther, of_key, errors_under, joined_errors, with_value, with_member, joined_members, with_errors, joined_roots}
use Rattle.gql_gateway.specs.bridge.Joining.{AreAbsent, IsAddedOf, added_member}
use Rattle.gql_gateway.specs.bridge.Sides.{IsSideOf, listed_at, without_key}
use Rattle.gql_gateway.specs.declared.joining.Joined.{Joined}
use Rattle.gql_gateway.specs.declared.root_key.RootKey.{RootKey}
use Rattle.gql_gateway.specs.declared.side.Side.{Side}
use Rattle.gql_gateway.proofs.Filing.{lookup-last, values-stay, lists-stay}
use Rattle.gql_gateway.proofs.Rows.{apart}

-- ---- what stays there

-- a side has still all of a key
abbrev pub Has : List Member → List GraphQLError → Side → RootKey → Type 0
Has members errors side key =
    (lookup (bytes_eq key.name.text) side.members ≡ lookup (bytes_eq key.name.text) members)
    × (listed_at side.errors key.name.text ≡ errors_under key.name.text errors)

abbrev pub HasAll : List Member → List GraphQLError → Side → List RootKey → Type 0
HasAll members errors side keys = AllByRecursion (Has members errors side) keys

pub has-first : (ms : List Member) (es : List GraphQLError) (side : Side) → IsSideOf ms es side → (keys : List RootKey) → HasAll ms es side keys
has-first ms es side is [] = tt
has-first ms es side is (key ∷ keys) =
    ((ap (lookup (bytes_eq key.name.text)) is.members_are, is.errors_are key.name.text), has-first ms es side is keys)

differs : (k : List ℕ) (key : RootKey) → IsOther k key → bytes_eq key.name.text k ≡ false
differs k key other = apart key.name.text k (λ e. other (sym e))

has-without : (k : List ℕ) (ms : List Member) (es : List GraphQLError) (side : Side) (keys : List RootKey) → AllByRecursion (IsOther k) keys
    → HasAll ms es side keys → HasAll ms es (without_key k side) keys
has-without k ms es side [] others has = tt
has-without k ms es side (key ∷ keys) others has = (
  (
    values-stay key.name.text k side.members (differs k key others.0) ∙ has.0.0,
    lists-stay key.name.text k side.errors (differs k key others.0) ∙ has.0.1,
  ),
  has-without k ms es side keys others.1 has.1,
)

has-next : (k : List ℕ) (ms : List Member) (es : List GraphQLError) (side side' : Side) → (side' ≡ side) ⊎ (side' ≡ without_key k side)
    → (keys : List RootKey) → AllByRecursion (IsOther k) keys → HasAll ms es side keys → HasAll ms es side' keys
has-next k ms es side side' (inl is) keys others has = subst (λ (s : Side). HasAll ms es s keys) (sym is) has
has-next k ms es side side' (inr is) keys others has =
    subst (λ (s : Side). HasAll ms es s keys) (sym is) (has-without k ms es side keys others has)

-- ---- what is not there yet

absent-with : (k : List ℕ) (v : Value) (members : List Member) (keys : List RootKey) → AllByRecursion (IsOther k) keys → AreAbsent keys members
    → AreAbsent keys (members ++ (k, v) ∷ [])
absent-with k v members [] others absent = tt
absent-with k v members (key ∷ keys) others absent = (
  lookup-last key.name.text k v members
      ∙ ap₂ (λ (o : Option Value) (b : Bool). option_or o (cond b (Some v) None)) absent.0 (differs k key others.0),
  absent-with k v members keys others.1 absent.1,
)

pub absent-next : (key : RootKey) (o : Option Value) (members members' : List Member) → added_member key o members ≡ Ok members'
    → (keys : List RootKey) → AllByRecursion (IsOther key.name.text) keys → AreAbsent keys members → AreAbsent keys members'
absent-next key (Some v) members members' is keys others absent =
    let same : members ++ (key.name.text, v) ∷ [] ≡ members' = (let e : Ok (members ++ (key.name.text, v) ∷ []) ≡ Ok members' = is in cc) in
    subst (AreAbsent keys) same (absent-with key.name.text v members keys others absent)
absent-next key None members members' is keys others absent = by key.here is
  where
    by : (b : Bool) → (if b then Ok members else Err key.name) ≡ Ok members' → AreAbsent keys members'
    by true e = let same : members ≡ members' = cc in subst (AreAbsent keys) same absent
    by false e = absurd cc

pub nothing-there : (keys : List RootKey) → AreAbsent keys []
nothing-there [] = tt
nothing-there (key ∷ keys) = (refl, nothing-there keys)

-- ---- members

-- members that stand before those of the keys that are left
abbrev pub behind : List Member → Result (List Member) Named → Result (List Member) Named
behind members (Ok rest) = Ok (members ++ rest)
behind members (Err lacking) = Err lacking

behind-with : (key : RootKey) (v : Value) (members : List Member) (rest : Result (List Member) Named)
    → behind (members ++ (key.name.text, v) ∷ []) rest ≡ behind members (with_value key v rest)
behind-with key v members (Ok rest) = ap Ok (append_assoc members ((key.name.text, v) ∷ []) rest)
behind-with key v members (Err lacking) = refl

behind-added : (key : RootKey) (o : Option Value) (members members' : List Member) (rest : Result (List Member) Named)
    → added_member key o members ≡ Ok members' → behind members' rest ≡ behind members (with_member key o rest)
behind-added key (Some v) members members' rest is =
    let same : members' ≡ members ++ (key.name.text, v) ∷ [] = (let e : Ok (members ++ (key.name.text, v) ∷ []) ≡ Ok members' = is in cc) in
    ap (λ l. behind l rest) same ∙ behind-with key v members rest
behind-added key None members members' rest is = by key.here refl is
  where
    by : (b : Bool) → key.here ≡ b → (if b then Ok members else Err key.name) ≡ Ok members' → behind members' rest ≡ behind members (if key.here then rest else Err key.name)
    by true here e =
        let same : members' ≡ members = cc in
        ap (λ l. behind l rest) same ∙ ap (λ b. behind members (if b then rest else Err key.name)) (sym here)
    by false here e = absurd cc

behind-lacking : (key : RootKey) (o : Option Value) (members : List Member) (rest : Result (List Member) Named) (lacking : Named)
    → added_member key o members ≡ Err lacking → behind members (with_member key o rest) ≡ Err lacking
behind-lacking key (Some v) members rest lacking is = absurd (let e : Ok (members ++ (key.name.text, v) ∷ []) ≡ Err lacking = is in cc)
behind-lacking key None members rest lacking is = by key.here refl is
  where
    by : (b : Bool) → key.here ≡ b → (if b then Ok members else Err key.name) ≡ Err lacking → behind members (if key.here then rest else Err key.name) ≡ Err lacking
    by true here e = absurd (let f : Ok members ≡ Err lacking = e in cc)
    by false here e =
        let same : Err key.name ≡ Err lacking = e in
        ap (λ b. behind members (if b then rest else Err key.name)) here ∙ same

-- ---- so far

pub record IsSoFar (keys left : List RootKey) (here there : Side) (out : Joined) (ms ns : List Member) (es fs : List GraphQLError) : Type 0 where
  pub here_has : HasAll ms es here left
  pub there_has : HasAll ns fs there left
  pub members : behind out.members (joined_members left ms ns) ≡ joined_members keys ms ns
  pub errors : out.errors ++ joined_errors left es fs ≡ joined_errors keys es fs

module _ (keys : List RootKey) (ms ns : List Member) (es fs : List GraphQLError) where
  pub so-first : (here there : Side) (out : Joined) → IsSideOf ms es here → IsSideOf ns fs there → out.members ≡ [] → out.errors ≡ []
      → IsSoFar keys keys here there out ms ns es fs
  so-first here there out is_here is_there no_members no_errors = record {
    here_has = has-first ms es here is_here keys;
    there_has = has-first ns fs there is_there keys;
    members = ap (λ l. behind l (joined_members keys ms ns)) no_members ∙ nothing-before (joined_members keys ms ns);
    errors = ap (λ (l : List GraphQLError). l ++ joined_errors keys es fs) no_errors;
  }
    where
      nothing-before : (r : Result (List Member) Named) → behind [] r ≡ r
      nothing-before (Ok rest) = refl
      nothing-before (Err lacking) = refl

  module _ (key : RootKey) (left : List RootKey) (here there : Side) (out : Joined) (so_far : IsSoFar keys (key ∷ left) here there out ms ns es fs) where
    value-at : lookup (bytes_eq key.name.text) (of_key key here there).members ≡ lookup (bytes_eq key.name.text) (of_key key ms ns)
    value-at = by key.here
      where
        by : (b : Bool) → lookup (bytes_eq key.name.text) (if b then here else there).members ≡ lookup (bytes_eq key.name.text) (if b then ms else ns)
        by true = so_far.here_has.0.0
        by false = so_far.there_has.0.0

    errors-at : listed_at (of_key key here there).errors key.name.text ≡ errors_under key.name.text (of_key key es fs)
    errors-at = by key.here
      where
        by : (b : Bool) → listed_at (if b then here else there).errors key.name.text ≡ errors_under key.name.text (if b then es else fs)
        by true = so_far.here_has.0.1
        by false = so_far.there_has.0.1

    pub so-next : (here' there' : Side) (out' : Joined) → AllByRecursion (IsOther key.name.text) left
        → added_member key (lookup (bytes_eq key.name.text) (of_key key here there).members) out.members ≡ Ok out'.members
        → out'.errors ≡ out.errors ++ listed_at (of_key key here there).errors key.name.text
        → (here' ≡ here) ⊎ (here' ≡ without_key key.name.text here)
        → (there' ≡ there) ⊎ (there' ≡ without_key key.name.text there)
        → IsSoFar keys left here' there' out' ms ns es fs
    so-next here' there' out' others added more here_left there_left = record {
      here_has = has-next key.name.text ms es here here' here_left left others so_far.here_has.1;
      there_has = has-next key.name.text ns fs there there' there_left left others so_far.there_has.1;
      members =
          behind-added key (lookup (bytes_eq key.name.text) (of_key key ms ns)) out.members out'.members (joined_members left ms ns)
          (ap (λ o. added_member key o out.members) (sym value-at) ∙ added)
          ∙ so_far.members;
      errors =
          ap (λ (l : List GraphQLError). l ++ joined_errors left es fs) (more ∙ ap (λ (l : List GraphQLError). out.errors ++ l) errors-at)
          ∙ append_assoc out.errors (errors_under key.name.text (of_key key es fs)) (joined_errors left es fs)
          ∙ so_far.errors;
    }

    so-lacking : (lacking : Named) → added_member key (lookup (bytes_eq key.name.text) (of_key key here there).members) out.members ≡ Err lacking
        → joined_roots keys es fs (Some ms) (Some ns) ≡ Err lacking
    so-lacking lacking is =
        ap (with_errors (joined_errors keys es fs))
        (sym so_far.members
        ∙ behind-lacking key (lookup (bytes_eq key.name.text) (of_key key ms ns)) out.members (joined_members left ms ns) lacking
        (ap (λ o. added_member key o out.members) (sym value-at) ∙ is))

    -- where a key is not added, the join is refused so
    pub so-refused : (here' there' : Side) (out' : Joined) (refused : Refused Named) (answer : Result ExecutionResponse (Refused Named))
        → IsErrAnd answer (λ e. e ≡ refused) → IsAddedOf key here here' there there' out out' (Err refused)
        → Gives (joined_roots keys es fs (Some ms) (Some ns)) answer
    so-refused here' there' out' refused (Ok response) is added = absurd is
    so-refused here' there' out' refused (Err why) is added =
        by why (subst (λ (r : Refused Named). IsAddedOf key here here' there there' out out' (Err r)) (sym is) added)
      where
        by : (why : Refused Named) → IsAddedOf key here here' there there' out out' (Err why)
            → Gives (joined_roots keys es fs (Some ms) (Some ns)) (Err why)
        by (Fault lacking) why_is = so-lacking lacking why_is
        by Memory why_is = tt

  pub so-end : (here there : Side) (out : Joined) → IsSoFar keys [] here there out ms ns es fs
      → joined_roots keys es fs (Some ms) (Some ns) ≡ Ok (record { errors = out.errors; root = Some out.members })
  so-end here there out so_far =
      ap₂ (λ (errors : List GraphQLError) (members : Result (List Member) Named). with_errors errors members)
      (sym so_far.errors ∙ append-nil out.errors)
      (sym so_far.members ∙ ap Ok (append-nil out.members))
