-- What is the same as something that is the same as a third is the same as the third: values, whatever the order of keys, and arguments.
use Rattle.std.proofs.Common.{◌≡◌, ℕ, zero, suc, ◌≤◌, ◌<◌, ◌+◌, max, Bool, true, false, cond, ◌&&◌, ◌==◌, Option, Some, None, List, [], ◌∷◌, map, length, inl, inr, refl, sym, ap, ◌∙◌, subst, rules, arith}
use Rattle.std.specs.List.{Contains, find, list_all}
use Rattle.std.specs.Option.{option_map_or}
use Rattle.std.specs.Str.{bytes_eq}
use Rattle.std.proofs.lemmas.Bool.{eqb-true, eq-eqb}
use Rattle.std.proofs.lemmas.List.Elements.{Contains-append_right}
use Rattle.gql_ast_base.specs.Names.{Named}
use Rattle.gql_ast_base.specs.declared.directive.Argument.{Argument}
use Rattle.gql_ast_base.specs.declared.value.Value.{Value}
use Rattle.gql_ast_base.specs.declared.value.ValueKind.{ValueKind, roll-ValueKind, out-ValueKind, fold-ValueKind, Null as NullKind, Variable, Int, Float, String as StringKind, Boolean, Enum, List as ListKind, Object as ObjectKind, the_lemmas}
use Rattle.gql_ast_base.specs.declared.value.ValueKind.TheOpen.{ValueKind-F, Value-F}
use Rattle.gql_graph.proofs.Flooded.{Contains-cons_cases, none_contained}
use Rattle.gql_rules_merging.proofs.Truths.{both_true, one_text, beq-true, all_at}
use Rattle.gql_rules_merging.specs.ConflictingFieldArgument.{same_arguments, is_given}
use Rattle.gql_rules_merging.specs.SameValue.{KindTest, ValueTest, same_items, is_among, same_members, same_level, same_kind, same_value}
use Rattle.gql_rules_merging.specs.bridge.Tests.{member_test}

-- ---- how deep a value is

abbrev greatest : List ℕ → ℕ
greatest [] = 0
greatest (n ∷ ns) = max n (greatest ns)

abbrev greatest_member : List (Named × ℕ) → ℕ
greatest_member [] = 0
greatest_member (member ∷ members) = max member.1 (greatest_member members)

abbrev kind_depth : ValueKind-F ℕ ℕ → ℕ
kind_depth (ValueKind-F.List depths) = greatest depths + 1
kind_depth (ValueKind-F.Object members) = greatest_member members + 1
kind_depth _ = 0

abbrev value_depth : Value-F ℕ ℕ → ℕ
value_depth value = value.kind

unfoldable depth_of : ValueKind → ℕ
depth_of = fold-ValueKind ℕ ℕ kind_depth value_depth

abbrev depth : Value → ℕ
depth value = depth_of value.kind

abbrev weighed : Named × Value → Named × ℕ
weighed member = (member.0, depth member.1)

-- ---- one level of a value, with tests in the place of the values inside

abbrev Level : Type 0
Level = ValueKind-F ValueKind Value

abbrev tested : Level → ValueKind-F KindTest ValueTest
tested ValueKind-F.Null = ValueKind-F.Null
tested (ValueKind-F.Variable name) = ValueKind-F.Variable name
tested (ValueKind-F.Int number) = ValueKind-F.Int number
tested (ValueKind-F.Float number) = ValueKind-F.Float number
tested (ValueKind-F.String text) = ValueKind-F.String text
tested (ValueKind-F.Boolean truth) = ValueKind-F.Boolean truth
tested (ValueKind-F.Enum name) = ValueKind-F.Enum name
tested (ValueKind-F.List items) = ValueKind-F.List (map same_value items)
tested (ValueKind-F.Object members) = ValueKind-F.Object (map member_test members)

module _ (other : ValueKind) where
  same-Null : same_kind NullKind other ≡ same_level ValueKind-F.Null (out-ValueKind other)
  same-Null = search (rules, the_lemmas)

  same-Variable : (name : Named) → same_kind (Variable name) other ≡ same_level (ValueKind-F.Variable name) (out-ValueKind other)
  same-Variable name = search (rules, the_lemmas)

  same-Int : (number : List ℕ) → same_kind (Int number) other ≡ same_level (ValueKind-F.Int number) (out-ValueKind other)
  same-Int number = search (rules, the_lemmas)

  same-Float : (number : List ℕ) → same_kind (Float number) other ≡ same_level (ValueKind-F.Float number) (out-ValueKind other)
  same-Float number = search (rules, the_lemmas)

  same-String : (text : List ℕ) → same_kind (StringKind text) other ≡ same_level (ValueKind-F.String text) (out-ValueKind other)
  same-String text = search (rules, the_lemmas)

  same-Boolean : (truth : Bool) → same_kind (Boolean truth) other ≡ same_level (ValueKind-F.Boolean truth) (out-ValueKind other)
  same-Boolean truth = search (rules, the_lemmas)

  same-Enum : (name : Named) → same_kind (Enum name) other ≡ same_level (ValueKind-F.Enum name) (out-ValueKind other)
  same-Enum name = search (rules, the_lemmas)

  same-List : (items : List Value) → same_kind (ListKind items) other ≡ same_level (ValueKind-F.List (map same_value items)) (out-ValueKind other)
  same-List items = search (rules, the_lemmas)

  same-Object : (members : List (Named × Value)) → same_kind (ObjectKind members) other ≡ same_level (ValueKind-F.Object (map member_test members)) (out-ValueKind other)
  same-Object members = search (rules, the_lemmas)

abbrev closed : Level → ValueKind
closed ValueKind-F.Null = NullKind
closed (ValueKind-F.Variable name) = Variable name
closed (ValueKind-F.Int number) = Int number
closed (ValueKind-F.Float number) = Float number
closed (ValueKind-F.String text) = StringKind text
closed (ValueKind-F.Boolean truth) = Boolean truth
closed (ValueKind-F.Enum name) = Enum name
closed (ValueKind-F.List items) = ListKind items
closed (ValueKind-F.Object members) = ObjectKind members

rolled : (x : Level) → roll-ValueKind x ≡ closed x
rolled ValueKind-F.Null = search (rules, the_lemmas)
rolled (ValueKind-F.Variable name) = search (rules, the_lemmas)
rolled (ValueKind-F.Int number) = search (rules, the_lemmas)
rolled (ValueKind-F.Float number) = search (rules, the_lemmas)
rolled (ValueKind-F.String text) = search (rules, the_lemmas)
rolled (ValueKind-F.Boolean truth) = search (rules, the_lemmas)
rolled (ValueKind-F.Enum name) = search (rules, the_lemmas)
rolled (ValueKind-F.List items) = search (rules, the_lemmas)
rolled (ValueKind-F.Object members) = search (rules, the_lemmas)

opened : (kind : ValueKind) → closed (out-ValueKind kind) ≡ kind
opened kind = let again : roll-ValueKind (out-ValueKind kind) ≡ kind = search (rules, the_lemmas) in sym (rolled (out-ValueKind kind)) ∙ again

closed_same : (x : Level) (other : ValueKind) → same_kind (closed x) other ≡ same_level (tested x) (out-ValueKind other)
closed_same ValueKind-F.Null other = same-Null other
closed_same (ValueKind-F.Variable name) other = same-Variable other name
closed_same (ValueKind-F.Int number) other = same-Int other number
closed_same (ValueKind-F.Float number) other = same-Float other number
closed_same (ValueKind-F.String text) other = same-String other text
closed_same (ValueKind-F.Boolean truth) other = same-Boolean other truth
closed_same (ValueKind-F.Enum name) other = same-Enum other name
closed_same (ValueKind-F.List items) other = same-List other items
closed_same (ValueKind-F.Object members) other = same-Object other members

level_same : (kind other : ValueKind) → same_kind kind other ≡ same_level (tested (out-ValueKind kind)) (out-ValueKind other)
level_same kind other = ap (λ k. same_kind k other) (sym (opened kind)) ∙ closed_same (out-ValueKind kind) other

-- ---- things with names and values, as arguments and members are

both-true : (a b : Bool) → a ≡ true → b ≡ true → (a && b) ≡ true
both-true true true a b = refl
both-true true false a b = b
both-true false b a c = a

length_map : {A B : Type 0} (f : A → B) (xs : List A) → length (map f xs) ≡ length xs
length_map f [] = refl
length_map f (x ∷ xs) = ap suc (length_map f xs)

all_mapped : {A B : Type 0} (test : B → Bool) (f : A → B) (xs : List A) → list_all test (map f xs) ≡ list_all (λ x. test (f x)) xs
all_mapped test f [] = refl
all_mapped test f (x ∷ xs) = ap (λ t. test (f x) && t) (all_mapped test f xs)

-- what is found is there and passes the test
found : {A : Type 0} (test : A → Bool) (xs : List A) (x : A) → find test xs ≡ Some x → Contains xs x × (test x ≡ true)
found test [] x is = absurd cc
found test (y ∷ ys) x is = by_test (λ later. found test ys x later) (test y) refl is
  where
    by_test : (find test ys ≡ Some x → Contains ys x × (test x ≡ true)) → (t : Bool) → test y ≡ t → cond t (Some y) (find test ys) ≡ Some x → Contains (y ∷ ys) x × (test x ≡ true)
    by_test further true e is =
        let same : y ≡ x = (let h : Some y ≡ Some x = is in cc) in
        (subst (Contains (y ∷ ys)) same (0, omega arith, refl), ap test (sym same) ∙ e)
    by_test further false e is = let rest = further is in (Contains-append_right (y ∷ []) ys x rest.0, rest.1)

module _ {A : Type 0} (name_of : A → List ℕ) (value_of : A → Value) where
  -- the first of these that has the name
  abbrev called : List A → List ℕ → Option A
  called others name = find (λ other. bytes_eq name (name_of other)) others

  -- it has the value of the first of its name
  abbrev given : List A → A → Bool
  given others x = option_map_or (λ other. same_value (value_of x) (value_of other)) (called others (name_of x)) false

  given_on : (ys zs : List A) (x : A) → ((b c : Value) → same_value (value_of x) b ≡ true → same_value b c ≡ true → same_value (value_of x) c ≡ true)
      → given ys x ≡ true → list_all (given zs) ys ≡ true → given zs x ≡ true
  given_on ys zs x values one two = by_second (called ys (name_of x)) refl one
    where
      by_third : (y : A) → same_value (value_of x) (value_of y) ≡ true → (o : Option A) → called zs (name_of x) ≡ o
          → option_map_or (λ other. same_value (value_of y) (value_of other)) o false ≡ true → option_map_or (λ other. same_value (value_of x) (value_of other)) o false ≡ true
      by_third y same None at is = absurd cc
      by_third y same (Some z) at is = values (value_of y) (value_of z) same is

      by_second : (o : Option A) → called ys (name_of x) ≡ o → option_map_or (λ other. same_value (value_of x) (value_of other)) o false ≡ true → given zs x ≡ true
      by_second None at is = absurd cc
      by_second (Some y) at is =
          let there = found (λ other. bytes_eq (name_of x) (name_of other)) ys y at in
          let name = one_text (name_of x) (name_of y) there.1 in
          by_third y is (called zs (name_of x)) refl
          (ap (λ n. option_map_or (λ other. same_value (value_of y) (value_of other)) (called zs n) false) name ∙ all_at (given zs) ys y two there.0)

  all_given_on : (xs ys zs : List A)
      → ((x : A) → Contains xs x → (b c : Value) → same_value (value_of x) b ≡ true → same_value b c ≡ true → same_value (value_of x) c ≡ true)
      → list_all (given ys) xs ≡ true → list_all (given zs) ys ≡ true → list_all (given zs) xs ≡ true
  all_given_on [] ys zs values one two = refl
  all_given_on (x ∷ xs) ys zs values one two =
      let parts = both_true (given ys x) (list_all (given ys) xs) one in
      both-true (given zs x) (list_all (given zs) xs) (given_on ys zs x (values x (0, omega arith, refl)) parts.0 two)
      (all_given_on xs ys zs (λ y c. values y (Contains-append_right (x ∷ []) xs y c)) parts.1 two)

-- ---- values

text_on : (xs ys zs : List ℕ) → bytes_eq xs ys ≡ true → bytes_eq ys zs ≡ true → bytes_eq xs zs ≡ true
text_on xs ys zs one two = ap (λ l. bytes_eq l zs) (one_text xs ys one) ∙ two

-- the same values in the place of values of less than a depth
abbrev IsOn : ℕ → Type 0
IsOn n = (a b c : Value) → depth a < n → same_value a b ≡ true → same_value b c ≡ true → same_value a c ≡ true

items_on : (n : ℕ) → IsOn n → (xs ys zs : List Value) → greatest (map depth xs) < n → same_items (map same_value xs) ys ≡ true → same_items (map same_value ys) zs ≡ true
    → same_items (map same_value xs) zs ≡ true
items_on n on [] [] [] small one two = refl
items_on n on (x ∷ xs) (y ∷ ys) (z ∷ zs) small one two =
    let first = both_true (same_value x y) (same_items (map same_value xs) ys) one in
    let second = both_true (same_value y z) (same_items (map same_value ys) zs) two in
    both-true (same_value x z) (same_items (map same_value xs) zs) (on x y z (omega (arith, small)) first.0 second.0)
    (items_on n on xs ys zs (omega (arith, small)) first.1 second.1)
items_on n on _ _ _ small one two = absurd cc

member_depth : (members : List (Named × Value)) (member : Named × Value) → Contains members member → depth member.1 ≤ greatest_member (map weighed members)
member_depth [] member c = absurd (none_contained member c)
member_depth (m ∷ ms) member c = elim (Contains-cons_cases m ms member c) [
  | inl e ↦ omega (arith, ap (λ (p : Named × Value). depth p.1) e)
  | inr later ↦ omega (arith, member_depth ms member later)
]

abbrev name_text : Named × Value → List ℕ
name_text member = member.0.text

abbrev member_value : Named × Value → Value
member_value member = member.1

members_on : (n : ℕ) → IsOn n → (xs ys zs : List (Named × Value)) → greatest_member (map weighed xs) < n → same_members (map member_test xs) ys ≡ true
    → same_members (map member_test ys) zs ≡ true → same_members (map member_test xs) zs ≡ true
members_on n on xs ys zs small one two =
    let first = both_true (length (map member_test xs) == length ys) (list_all (is_among ys) (map member_test xs)) one in
    let second = both_true (length (map member_test ys) == length zs) (list_all (is_among zs) (map member_test ys)) two in
    let many : length (map member_test xs) ≡ length zs = eqb-true (length (map member_test xs)) (length ys) first.0 ∙ sym (length_map member_test ys)
    ∙ eqb-true (length (map member_test ys)) (length zs) second.0 in
    both-true (length (map member_test xs) == length zs) (list_all (is_among zs) (map member_test xs)) (eq-eqb (length (map member_test xs)) (length zs) many)
    (all_mapped (is_among zs) member_test xs
    ∙ all_given_on name_text member_value xs ys zs (λ x c a b. on x.1 a b (omega (arith, small, member_depth xs x c)))
    (sym (all_mapped (is_among ys) member_test xs) ∙ first.1) (sym (all_mapped (is_among zs) member_test ys) ∙ second.1))

abbrev level_depth : Level → ℕ
level_depth (ValueKind-F.List items) = greatest (map depth items) + 1
level_depth (ValueKind-F.Object members) = greatest_member (map weighed members) + 1
level_depth _ = 0

level_on : (n : ℕ) → IsOn n → (x y z : Level) → level_depth x < suc n → same_level (tested x) y ≡ true → same_level (tested y) z ≡ true → same_level (tested x) z ≡ true
level_on n on ValueKind-F.Null ValueKind-F.Null z small one two = two
level_on n on (ValueKind-F.Variable a) (ValueKind-F.Variable b) z small one two = of_variables z two
  where
    of_variables : (z : Level) → same_level (ValueKind-F.Variable b) z ≡ true → same_level (ValueKind-F.Variable a) z ≡ true
    of_variables (ValueKind-F.Variable c) two = text_on a.text b.text c.text one two
    of_variables _ two = absurd cc
level_on n on (ValueKind-F.Int a) (ValueKind-F.Int b) z small one two = ap (λ t. same_level (ValueKind-F.Int t) z) (one_text a b one) ∙ two
level_on n on (ValueKind-F.Float a) (ValueKind-F.Float b) z small one two = ap (λ t. same_level (ValueKind-F.Float t) z) (one_text a b one) ∙ two
level_on n on (ValueKind-F.String a) (ValueKind-F.String b) z small one two = ap (λ t. same_level (ValueKind-F.String t) z) (one_text a b one) ∙ two
level_on n on (ValueKind-F.Boolean a) (ValueKind-F.Boolean b) z small one two = ap (λ t. same_level (ValueKind-F.Boolean t) z) (beq-true a b one) ∙ two
level_on n on (ValueKind-F.Enum a) (ValueKind-F.Enum b) z small one two = of_enums z two
  where
    of_enums : (z : Level) → same_level (ValueKind-F.Enum b) z ≡ true → same_level (ValueKind-F.Enum a) z ≡ true
    of_enums (ValueKind-F.Enum c) two = text_on a.text b.text c.text one two
    of_enums _ two = absurd cc
level_on n on (ValueKind-F.List xs) (ValueKind-F.List ys) z small one two = of_lists z two
  where
    of_lists : (z : Level) → same_level (ValueKind-F.List (map same_value ys)) z ≡ true → same_level (ValueKind-F.List (map same_value xs)) z ≡ true
    of_lists (ValueKind-F.List zs) two = items_on n on xs ys zs (omega (arith, small)) one two
    of_lists _ two = absurd cc
level_on n on (ValueKind-F.Object xs) (ValueKind-F.Object ys) z small one two = of_objects z two
  where
    of_objects : (z : Level) → same_level (ValueKind-F.Object (map member_test ys)) z ≡ true → same_level (ValueKind-F.Object (map member_test xs)) z ≡ true
    of_objects (ValueKind-F.Object zs) two = members_on n on xs ys zs (omega (arith, small)) one two
    of_objects _ two = absurd cc
level_on n on _ _ z small one two = absurd cc

closed_depth : (x : Level) → depth_of (closed x) ≡ level_depth x
unfolding depth_of
closed_depth ValueKind-F.Null = search (rules, the_lemmas)
closed_depth (ValueKind-F.Variable name) = search (rules, the_lemmas)
closed_depth (ValueKind-F.Int number) = search (rules, the_lemmas)
closed_depth (ValueKind-F.Float number) = search (rules, the_lemmas)
closed_depth (ValueKind-F.String text) = search (rules, the_lemmas)
closed_depth (ValueKind-F.Boolean truth) = search (rules, the_lemmas)
closed_depth (ValueKind-F.Enum name) = search (rules, the_lemmas)
closed_depth (ValueKind-F.List items) = search (rules, the_lemmas)
closed_depth (ValueKind-F.Object members) = search (rules, the_lemmas)

within_depth : (n : ℕ) → IsOn n
within_depth zero a b c small one two = absurd (omega (arith, small))
within_depth (suc n) a b c small one two =
    let below : level_depth (out-ValueKind a.kind) < suc n = omega (arith, small, sym (closed_depth (out-ValueKind a.kind)) ∙ ap depth_of (opened a.kind)) in
    level_same a.kind c.kind
    ∙ level_on n (within_depth n) (out-ValueKind a.kind) (out-ValueKind b.kind) (out-ValueKind c.kind) below (sym (level_same a.kind b.kind) ∙ one) (sym (level_same b.kind c.kind) ∙ two)

value_on : (a b c : Value) → same_value a b ≡ true → same_value b c ≡ true → same_value a c ≡ true
value_on a b c one two = within_depth (suc (depth a)) a b c (omega arith) one two

-- ---- arguments

abbrev argument_text : Argument → List ℕ
argument_text argument = argument.name.text

abbrev argument_value : Argument → Value
argument_value argument = argument.value

pub arguments_on : (xs ys zs : List Argument) → same_arguments xs ys ≡ true → same_arguments ys zs ≡ true → same_arguments xs zs ≡ true
arguments_on xs ys zs one two =
    let first = both_true (length xs == length ys) (list_all (is_given ys) xs) one in
    let second = both_true (length ys == length zs) (list_all (is_given zs) ys) two in
    both-true (length xs == length zs) (list_all (is_given zs) xs)
    (eq-eqb (length xs) (length zs) (eqb-true (length xs) (length ys) first.0 ∙ eqb-true (length ys) (length zs) second.0))
    (all_given_on argument_text argument_value xs ys zs (λ x c. value_on x.value) first.1 second.1)
