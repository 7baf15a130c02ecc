-- Where each operation type has a root type of its own in a schema, it is so in another of which the same is shown.
use Rattle.std.proofs.Common.{◌≡◌, ℕ, Bool, true, false, ◌&&◌, if◌then◌else◌, Option, Some, None, List, [], ◌∷◌, ◌++◌, refl, sym, ap, ◌∙◌}
use Rattle.std.specs.Option.{option_map, option_map_or}
use Rattle.std.specs.Str.{bytes_eq}
use Rattle.std.specs.Cmp.Lexicographic.{nat_list_eq_equiv}
use Rattle.std.proofs.lemmas.Slice.Eq.{bytes_eq-Decides}
use Rattle.gql_ast_base.specs.Names.{Named}
use Rattle.gql_ast_base.specs.declared.operation_type.OperationType.{OperationType}
use Rattle.gql_ast_base.specs.declared.operation_type.OperationType.TheVariants.{Query, Mutation, Subscription}
use Rattle.gql_ast_laws.specs.Printed.{from_nowhere}
use Rattle.gql_client_schema_laws.specs.Shown.{Shows}
use Rattle.gql_client_schema_laws.proofs.LookUps.{found_alike}
use Rattle.gql_diag_messages.specs.declared.diagnostic_data.DiagnosticData.{DiagnosticData}
use Rattle.gql_schema_rules_parts.specs.DuplicateRootOperationType.{comes_first, second, ordered, duplicate, duplicates, duplicate_root_operation_type}
use Rattle.gql_rules_values.specs.Known.{is_known}
use Rattle.gql_client_schema_laws.proofs.Pairs.{empty_left, empty_right}
use Rattle.gql_schema_types.specs.Schemas.{root_of}
use Rattle.gql_schema_types.specs.declared.schema.Schema.{Schema}
use Rattle.gql_schema_types.specs.declared.schema.SchemaDefinition.{SchemaDefinition}
use Rattle.gql_schema_types.specs.declared.types.ExtendedType.{ExtendedType}
use Rattle.gql_sdl.specs.declared.shown.ShownSchema.{ShownSchema}

-- both are there, the later one is known, and they have one name
pub clash : (List ℕ → Bool) → Option Named → Option Named → Bool
clash known None b = false
clash known (Some a) None = false
clash known (Some a) (Some b) = known b.text && bytes_eq b.text a.text

and_false : (b : Bool) → (b && false) ≡ false
and_false true = refl
and_false false = refl

same_clash : (known : List ℕ → Bool) (a b : Option Named) → clash known a b ≡ clash known b a
unfolding clash
same_clash known None None = refl
same_clash known None (Some b) = refl
same_clash known (Some a) None = refl
same_clash known (Some a) (Some b) = by_test (bytes_eq b.text a.text) refl
  where
    by_test : (c : Bool) → bytes_eq b.text a.text ≡ c → (known b.text && bytes_eq b.text a.text) ≡ (known a.text && bytes_eq a.text b.text)
    by_test true is =
        let same : b.text ≡ a.text = (bytes_eq-Decides b.text a.text).0 is in
        λ i. known (same i) && nat_list_eq_equiv.symm b.text a.text i
    by_test false is =
        let other : bytes_eq a.text b.text ≡ false = nat_list_eq_equiv.symm a.text b.text ∙ is in
        ap (λ c. known b.text && c) is ∙ and_false (known b.text) ∙ sym (ap (λ c. known a.text && c) other ∙ and_false (known a.text))

module _ (types : List ExtendedType) (d : SchemaDefinition) where
  abbrev clashes : OperationType → OperationType → Bool
  clashes a b = clash (is_known types) (root_of a d) (root_of b d)

  abbrev Apart : OperationType → OperationType → Type 0
  Apart a b = clashes a b ≡ false

  back : (a b : OperationType) → Apart a b → Apart b a
  back a b apart = same_clash (is_known types) (root_of b d) (root_of a d) ∙ apart

  -- ---- one before

  one_before : (ra rb : Option Named) → List DiagnosticData
  one_before ra rb =
      option_map_or (λ (name : Named). if is_known types name.text
      then second name (if option_map_or (λ (root : Named). bytes_eq name.text root.text) ra false then ra else None) else []) rb []

  two_before : (ra rb rc : Option Named) → List DiagnosticData
  two_before ra rb rc =
      option_map_or (λ (name : Named). if is_known types name.text
      then second name (if option_map_or (λ (root : Named). bytes_eq name.text root.text) ra false then ra
      else (if option_map_or (λ (root : Named). bytes_eq name.text root.text) rb false then rb else None)) else []) rc []

  told_apart : (ra rb : Option Named) → one_before ra rb ≡ [] → clash (is_known types) ra rb ≡ false
  unfolding clash one_before
  told_apart None rb none = refl
  told_apart (Some a) None none = refl
  told_apart (Some a) (Some b) none = by_test (is_known types b.text) (bytes_eq b.text a.text) none
    where
      by_test : (k c : Bool) → (if k then second b (if c then Some a else None) else []) ≡ [] → (k && c) ≡ false
      by_test true true none = absurd cc
      by_test true false none = refl
      by_test false c none = refl

  apart_told : (ra rb : Option Named) → clash (is_known types) ra rb ≡ false → one_before ra rb ≡ []
  unfolding clash one_before
  apart_told None None apart = refl
  apart_told None (Some b) apart = by_test (is_known types b.text)
    where
      by_test : (k : Bool) → (if k then second b None else []) ≡ []
      by_test true = refl
      by_test false = refl
  apart_told (Some a) None apart = refl
  apart_told (Some a) (Some b) apart = by_test (is_known types b.text) (bytes_eq b.text a.text) apart
    where
      by_test : (k c : Bool) → (k && c) ≡ false → (if k then second b (if c then Some a else None) else []) ≡ []
      by_test true true apart = absurd cc
      by_test true false apart = refl
      by_test false c apart = refl

  -- ---- two before

  both_apart : (ra rb rc : Option Named) → two_before ra rb rc ≡ [] → (one_before ra rc ≡ []) × (one_before rb rc ≡ [])
  unfolding one_before two_before
  both_apart ra rb None none = (refl, refl)
  both_apart None None (Some c) none = (none, none)
  both_apart None (Some b) (Some c) none = by_test (is_known types c.text) (bytes_eq c.text b.text) none
    where
      by_test : (k t : Bool) → (if k then second c (if t then Some b else None) else []) ≡ []
          → ((if k then second c None else []) ≡ []) × ((if k then second c (if t then Some b else None) else []) ≡ [])
      by_test true true none = absurd cc
      by_test true false none = (refl, refl)
      by_test false t none = (refl, refl)
  both_apart (Some a) None (Some c) none = by_test (is_known types c.text) (bytes_eq c.text a.text) none
    where
      by_test : (k t : Bool) → (if k then second c (if t then Some a else None) else []) ≡ []
          → ((if k then second c (if t then Some a else None) else []) ≡ []) × ((if k then second c None else []) ≡ [])
      by_test true true none = absurd cc
      by_test true false none = (refl, refl)
      by_test false t none = (refl, refl)
  both_apart (Some a) (Some b) (Some c) none = by_test (is_known types c.text) (bytes_eq c.text a.text) (bytes_eq c.text b.text) none
    where
      by_test : (k s t : Bool) → (if k then second c (if s then Some a else (if t then Some b else None)) else []) ≡ []
          → ((if k then second c (if s then Some a else None) else []) ≡ []) × ((if k then second c (if t then Some b else None) else []) ≡ [])
      by_test true true t none = absurd cc
      by_test true false true none = absurd cc
      by_test true false false none = (refl, refl)
      by_test false s t none = (refl, refl)

  apart_both : (ra rb rc : Option Named) → one_before ra rc ≡ [] → one_before rb rc ≡ [] → two_before ra rb rc ≡ []
  unfolding one_before two_before
  apart_both ra rb None one two = refl
  apart_both None None (Some c) one two = one
  apart_both None (Some b) (Some c) one two = two
  apart_both (Some a) None (Some c) one two = one
  apart_both (Some a) (Some b) (Some c) one two = by_test (is_known types c.text) (bytes_eq c.text a.text) (bytes_eq c.text b.text) one two
    where
      by_test : (k s t : Bool) → (if k then second c (if s then Some a else None) else []) ≡ [] → (if k then second c (if t then Some b else None) else []) ≡ []
          → (if k then second c (if s then Some a else (if t then Some b else None)) else []) ≡ []
      by_test true true t one two = absurd cc
      by_test true false true one two = absurd cc
      by_test true false false one two = refl
      by_test false s t one two = refl

  -- ---- three in any order

  pub record Three (a b c : OperationType) : Type 0 where
    pub one : Apart a b
    pub two : Apart a c
    pub three : Apart b c

  three_of : (a b c : OperationType) → duplicates types d a b c ≡ [] → Three a b c
  unfolding one_before two_before
  three_of a b c none =
      let left : one_before (root_of a d) (root_of b d) ≡ [] = empty_left (duplicate types d b (a ∷ [])) (duplicate types d c (a ∷ b ∷ [])) none in
      let right : two_before (root_of a d) (root_of b d) (root_of c d) ≡ [] = empty_right (duplicate types d b (a ∷ [])) (duplicate types d c (a ∷ b ∷ [])) none in
      let both = both_apart (root_of a d) (root_of b d) (root_of c d) right in
      record {
        one = told_apart (root_of a d) (root_of b d) left;
        two = told_apart (root_of a d) (root_of c d) both.0;
        three = told_apart (root_of b d) (root_of c d) both.1;
      }

  of_three : (a b c : OperationType) → Three a b c → duplicates types d a b c ≡ []
  unfolding one_before two_before
  of_three a b c three =
      let left : one_before (root_of a d) (root_of b d) ≡ [] = apart_told (root_of a d) (root_of b d) three.one in
      let right : two_before (root_of a d) (root_of b d) (root_of c d) ≡ [] =
      apart_both (root_of a d) (root_of b d) (root_of c d) (apart_told (root_of a d) (root_of c d) three.two) (apart_told (root_of b d) (root_of c d) three.three) in
      ap (λ l. l ++ duplicate types d c (a ∷ b ∷ [])) left ∙ right

  -- the first two, the other way round
  turned : (a b c : OperationType) → Three a b c → Three b a c
  turned a b c three = record { one = back a b three.one; two = three.three; three = three.two }

  -- the last two
  turned_behind : (a b c : OperationType) → Three a b c → Three a c b
  turned_behind a b c three = record { one = three.two; two = three.one; three = back b c three.three }

  -- in the order of the text, as far as the last, the first and the middle step put them
  abbrev at_last : OperationType → OperationType × OperationType → List DiagnosticData
  at_last a pair = let z = ordered d a pair.0 in duplicates types d z.0 z.1 pair.1

  abbrev in_order : OperationType × OperationType → List DiagnosticData
  in_order pair = at_last pair.0 (ordered d pair.1 Subscription)

  last_three : (a b c : OperationType) → at_last a (b, c) ≡ [] → Three a b c
  last_three a b c none = by_test (comes_first (root_of b d) (root_of a d)) none
    where
      by_test : (t : Bool) → (let z : OperationType × OperationType = if t then (b, a) else (a, b) in duplicates types d z.0 z.1 c) ≡ [] → Three a b c
      by_test true none = turned b a c (three_of b a c none)
      by_test false none = three_of a b c none

  three_last : (a b c : OperationType) → Three a b c → at_last a (b, c) ≡ []
  three_last a b c three = by_test (comes_first (root_of b d) (root_of a d))
    where
      by_test : (t : Bool) → (let z : OperationType × OperationType = if t then (b, a) else (a, b) in duplicates types d z.0 z.1 c) ≡ []
      by_test true = of_three b a c (turned a b c three)
      by_test false = of_three a b c three

  order_three : (a b : OperationType) → in_order (a, b) ≡ [] → Three a b Subscription
  order_three a b none = by_test (comes_first (root_of Subscription d) (root_of b d)) none
    where
      by_test : (t : Bool) → at_last a (if t then (Subscription, b) else (b, Subscription)) ≡ [] → Three a b Subscription
      by_test true none = turned_behind a Subscription b (last_three a Subscription b none)
      by_test false none = last_three a b Subscription none

  three_order : (a b : OperationType) → Three a b Subscription → in_order (a, b) ≡ []
  three_order a b three = by_test (comes_first (root_of Subscription d) (root_of b d))
    where
      by_test : (t : Bool) → at_last a (if t then (Subscription, b) else (b, Subscription)) ≡ []
      by_test true = three_last a Subscription b (turned_behind a b Subscription three)
      by_test false = three_last a b Subscription three

  pub all_apart : duplicate_root_operation_type types d ≡ [] → Three Query Mutation Subscription
  all_apart none = by_test (comes_first (root_of Mutation d) (root_of Query d)) none
    where
      by_test : (t : Bool) → in_order (if t then (Mutation, Query) else (Query, Mutation)) ≡ [] → Three Query Mutation Subscription
      by_test true none = turned Mutation Query Subscription (order_three Mutation Query none)
      by_test false none = order_three Query Mutation none

  pub apart_all : Three Query Mutation Subscription → duplicate_root_operation_type types d ≡ []
  apart_all three = by_test (comes_first (root_of Mutation d) (root_of Query d))
    where
      by_test : (t : Bool) → in_order (if t then (Mutation, Query) else (Query, Mutation)) ≡ []
      by_test true = three_order Mutation Query (turned Query Mutation Subscription three)
      by_test false = three_order Query Mutation three

-- ---- two schemas

placeless_clash : (known : List ℕ → Bool) (a b : Option Named) → clash known a b ≡ clash known (option_map from_nowhere a) (option_map from_nowhere b)
unfolding clash
placeless_clash known None b = refl
placeless_clash known (Some a) None = refl
placeless_clash known (Some a) (Some b) = refl

alike_clash : (known other : List ℕ → Bool) → ((name : List ℕ) → known name ≡ other name) → (a b : Option Named) → clash known a b ≡ clash other a b
unfolding clash
alike_clash known other same None b = refl
alike_clash known other same (Some a) None = refl
alike_clash known other same (Some a) (Some b) = ap (λ c. c && bytes_eq b.text a.text) (same b.text)

module _ (schema other : Schema) (shown : ShownSchema) (one : Shows schema shown) (two : Shows other shown) where
  abbrev root : Schema → OperationType → Option Named
  root s operation = option_map from_nowhere (root_of operation s.schema_definition)

  same_root : (operation : OperationType) → root schema operation ≡ root other operation
  same_root Query = sym one.query ∙ two.query
  same_root Mutation = sym one.mutation ∙ two.mutation
  same_root Subscription = sym one.subscription ∙ two.subscription

  apart_again : (a b : OperationType) → Apart schema.types schema.schema_definition a b → Apart other.types other.schema_definition a b
  apart_again a b apart =
      placeless_clash (is_known other.types) (root_of a other.schema_definition) (root_of b other.schema_definition)
      ∙ sym (λ i. clash (is_known other.types) (same_root a i) (same_root b i))
      ∙ sym (alike_clash (is_known schema.types) (is_known other.types) (λ name. (found_alike schema other shown one two name).known) (root schema a) (root schema b))
      ∙ sym (placeless_clash (is_known schema.types) (root_of a schema.schema_definition) (root_of b schema.schema_definition)) ∙ apart

pub none_doubled_again : (schema other : Schema) (shown : ShownSchema) → Shows schema shown → Shows other shown
    → duplicate_root_operation_type schema.types schema.schema_definition ≡ [] → duplicate_root_operation_type other.types other.schema_definition ≡ []
none_doubled_again schema other shown one two none =
    let three = all_apart schema.types schema.schema_definition none in
    let again = apart_again schema other shown one two in
    apart_all other.types other.schema_definition
    (record { one = again Query Mutation three.one; two = again Query Subscription three.two; three = again Mutation Subscription three.three })
