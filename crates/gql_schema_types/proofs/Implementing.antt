-- Types that implement interfaces, found one after the other.
use Rattle.std.proofs.Common.{rules, ◌≡◌, ℕ, zero, suc, ◌-◌, Bool, true, false, cond, ◌&&◌, ◌||◌, Option, Some, None, IsSome, unwrap_or, List, [], ◌∷◌, ◌++◌, length, map, fold, slice_get, get_or, take, ◌+◌, ◌<◌, refl, sym, ap, ◌∙◌, subst, arith, length-append}
use Rattle.std.specs.List.{AllByRecursion, IsDistinct, filter, list_any}
use Rattle.std.specs.Map.{lookup, set_value}
use Rattle.std.specs.Option.{option_map_or, option_or}
use Rattle.std.specs.Str.{bytes_eq}
use Rattle.std.specs.Cmp.Lexicographic.{nat_list_eq_equiv}
use Rattle.std.proofs.lemmas.List.{map-append, append-nil, take-map, take_more}
use Rattle.std.proofs.lemmas.List.Elements.{filter-append}
use Rattle.std.proofs.lemmas.List.Folds.{list_any-append}
use Rattle.std.proofs.lemmas.Map.{lookup-set_value}
use Rattle.std.proofs.lemmas.Slice.Eq.{bytes_eq-Decides}
use Rattle.gql_ast_base.specs.Names.{Named}
use Rattle.gql_schema_types.specs.Entries.{texts}
use Rattle.gql_schema_types.specs.Implementers.{Found, implements, is_object, is_interface, implementers_in, implementers_of}
use Rattle.gql_schema_types.specs.bridge.Implementers.{is_last, with_last, no_implementers, with_implementer, with_listing}
use Rattle.gql_schema_types.specs.Types.{type_name, interfaces_of}
use Rattle.gql_schema_types.proofs.Indexed.{absent_from_position}
use Rattle.gql_schema_types.proofs.Lookups.{new_text}
use Rattle.gql_schema_types.specs.declared.implementers.Implementers.{Implementers}
use Rattle.gql_schema_types.specs.declared.types.ExtendedType.{ExtendedType}
use Rattle.gql_schema_types.specs.declared.types.ExtendedType.TheVariants as type

-- what is found at a name
abbrev once : ExtendedType → Option Implementers → Option Implementers
once ty o = Some (with_implementer ty (unwrap_or o no_implementers))

abbrev stepped : ExtendedType → List ℕ → Option Implementers → Named → Option Implementers
stepped ty q o interface = cond (bytes_eq q interface.text) (once ty o) o

lookup-last : (q k : List ℕ) (w : Implementers) (found : Found) → lookup (bytes_eq q) (found ++ (k, w) ∷ []) ≡ option_or (lookup (bytes_eq q) found) (cond (bytes_eq q k) (Some w) None)
lookup-last q k w [] = refl
lookup-last q k w (p ∷ found) = by_test (bytes_eq q p.0) (lookup-last q k w found)
  where
    by_test : (b : Bool) → lookup (bytes_eq q) (found ++ (k, w) ∷ []) ≡ option_or (lookup (bytes_eq q) found) (cond (bytes_eq q k) (Some w) None)
        → cond b (Some p.1) (lookup (bytes_eq q) (found ++ (k, w) ∷ [])) ≡ option_or (cond b (Some p.1) (lookup (bytes_eq q) found)) (cond (bytes_eq q k) (Some w) None)
    by_test true later = refl
    by_test false later = later

at_new : (ty : ExtendedType) (o : Option Implementers) (b : Bool) → (b ≡ true → o ≡ None)
    → option_or o (cond b (Some (with_implementer ty no_implementers)) None) ≡ cond b (once ty o) o
at_new ty None true none = refl
at_new ty (Some x) true none = let e : Some x ≡ None = none refl in absurd cc
at_new ty None false none = refl
at_new ty (Some x) false none = refl

at_known : (ty : ExtendedType) (known : Implementers) (o : Option Implementers) (b : Bool) → (b ≡ true → o ≡ Some known)
    → cond b (Some (with_implementer ty known)) o ≡ cond b (once ty o) o
at_known ty known o true is = ap (λ p. Some (with_implementer ty (unwrap_or p no_implementers))) (sym (is refl))
at_known ty known o false is = refl

lookup-listing : (ty : ExtendedType) (found : Found) (i : Named) (q : List ℕ) → lookup (bytes_eq q) (with_listing ty found i) ≡ stepped ty q (lookup (bytes_eq q) found) i
lookup-listing ty found i q = by_found (lookup (bytes_eq i.text) found) refl
  where
    by_found : (o : Option Implementers) → lookup (bytes_eq i.text) found ≡ o
        → lookup (bytes_eq q) (option_map_or (λ known. set_value (bytes_eq i.text) found (with_implementer ty known)) o (found ++ (i.text, with_implementer ty no_implementers) ∷ []))
        ≡ stepped ty q (lookup (bytes_eq q) found) i
    by_found None is =
        lookup-last q i.text (with_implementer ty no_implementers) found
        ∙ at_new ty (lookup (bytes_eq q) found) (bytes_eq q i.text) (λ same. ap (λ k. lookup (bytes_eq k) found) ((bytes_eq-Decides q i.text).0 same) ∙ is)
    by_found (Some known) is =
        let there : IsSome (lookup (bytes_eq i.text) found) = subst IsSome (sym is) (search rules) in
        lookup-set_value nat_list_eq_equiv (bytes_eq i.text) (λ x y same. ap (λ k. bytes_eq k y) ((bytes_eq-Decides i.text x).0 same)) q (with_implementer ty known) found there
        ∙ ap (λ b. cond b (Some (with_implementer ty known)) (lookup (bytes_eq q) found)) (nat_list_eq_equiv.symm i.text q)
        ∙ at_known ty known (lookup (bytes_eq q) found) (bytes_eq q i.text) (λ same. ap (λ k. lookup (bytes_eq k) found) ((bytes_eq-Decides q i.text).0 same) ∙ is)

lookup-listings : (ty : ExtendedType) (is : List Named) (found : Found) (q : List ℕ) → lookup (bytes_eq q) (fold (with_listing ty) found is) ≡ fold (stepped ty q) (lookup (bytes_eq q) found) is
lookup-listings ty [] found q = refl
lookup-listings ty (i ∷ is) found q = lookup-listings ty is (with_listing ty found i) q ∙ ap (λ o. fold (stepped ty q) o is) (lookup-listing ty found i q)

or-true : (b : Bool) → (b || (true || false)) ≡ true
or-true true = refl
or-true false = refl

or-false : (b : Bool) → (b || (false || false)) ≡ b
or-false true = refl
or-false false = refl

-- ---- a name that is added again
last-get : (xs : List Named) (x : Named) → slice_get (xs ++ x ∷ []) (length xs) ≡ Some x
last-get [] x = refl
last-get (y ∷ xs) x = last-get xs x

last-is : (xs : List Named) (x : Named) → is_last x.text (xs ++ x ∷ []) ≡ true
last-is xs x =
    let at : length (xs ++ x ∷ []) - 1 ≡ length xs = omega (arith, length-append xs (x ∷ [])) in
    ap (λ k. option_map_or (λ (last : Named). bytes_eq x.text last.text) (slice_get (xs ++ x ∷ []) k) false) at
    ∙ ap (λ o. option_map_or (λ (last : Named). bytes_eq x.text last.text) o false) (last-get xs x)
    ∙ (bytes_eq-Decides x.text x.text).1 refl

last-again : (xs : List Named) (x : Named) → with_last (with_last xs x) x ≡ with_last xs x
last-again xs x = by_test (is_last x.text xs) refl
  where
    by_test : (b : Bool) → is_last x.text xs ≡ b → with_last (cond b xs (xs ++ x ∷ [])) x ≡ cond b xs (xs ++ x ∷ [])
    by_test true is = ap (λ b. cond b xs (xs ++ x ∷ [])) is
    by_test false is = ap (λ b. cond b (xs ++ x ∷ []) (xs ++ x ∷ [] ++ x ∷ [])) (last-is xs x)

again : (ty : ExtendedType) (x : Implementers) → with_implementer ty (with_implementer ty x) ≡ with_implementer ty x
again (type.Scalar it) x = refl
again (type.Object it) x = ap (λ names. record x { objects = names }) (last-again x.objects it.name)
again (type.Interface it) x = ap (λ names. record x { interfaces = names }) (last-again x.interfaces it.name)
again (type.Union it) x = refl
again (type.Enum it) x = refl
again (type.InputObject it) x = refl

stays : (ty : ExtendedType) (q : List ℕ) (o : Option Implementers) (is : List Named) → fold (stepped ty q) (once ty o) is ≡ once ty o
stays ty q o [] = refl
stays ty q o (i ∷ is) = ap (λ p. fold (stepped ty q) p is) (by_test (bytes_eq q i.text)) ∙ stays ty q o is
  where
    by_test : (b : Bool) → cond b (once ty (once ty o)) (once ty o) ≡ once ty o
    by_test true = ap Some (again ty (unwrap_or o no_implementers))
    by_test false = refl

folded : (ty : ExtendedType) (q : List ℕ) (o : Option Implementers) (is : List Named)
    → fold (stepped ty q) o is ≡ cond (list_any (λ (interface : Named). bytes_eq q interface.text) is) (once ty o) o
folded ty q o [] = refl
folded ty q o (i ∷ is) = by_test (bytes_eq q i.text) (folded ty q o is)
  where
    by_test : (b : Bool) → fold (stepped ty q) o is ≡ cond (list_any (λ (interface : Named). bytes_eq q interface.text) is) (once ty o) o
        → fold (stepped ty q) (cond b (once ty o) o) is ≡ cond (b || list_any (λ (interface : Named). bytes_eq q interface.text) is) (once ty o) o
    by_test true later = stays ty q o is
    by_test false later = later

-- ---- a type of a new name
abbrev Apart : List ℕ → List ExtendedType → Type 0
Apart q ts = AllByRecursion (λ k. bytes_eq q k ≡ false) (texts type_name ts)

abbrev NoneIs : List ℕ → List Named → Type 0
NoneIs q names = AllByRecursion (λ (n : Named). bytes_eq q n.text ≡ false) names

none-last : (q : List ℕ) (names : List Named) (k : ℕ) → NoneIs q names → option_map_or (λ (last : Named). bytes_eq q last.text) (slice_get names k) false ≡ false
none-last q [] k none = refl
none-last q (n ∷ names) zero none = none.0
none-last q (n ∷ names) (suc k) none = none-last q names k none.1

filtered-apart : (q : List ℕ) (p : ExtendedType → Bool) (ts : List ExtendedType) → Apart q ts → NoneIs q (map type_name (filter p ts))
filtered-apart q p [] apart = tt
filtered-apart q p (t ∷ ts) apart = by_test (p t) apart.0 (filtered-apart q p ts apart.1)
  where
    by_test : (b : Bool) → bytes_eq q (type_name t).text ≡ false → NoneIs q (map type_name (filter p ts)) → NoneIs q (map type_name (cond b (t ∷ filter p ts) (filter p ts)))
    by_test true here later = (here, later)
    by_test false here later = later

new-last : (p : ExtendedType → Bool) (ts : List ExtendedType) (n : Named) → Apart n.text ts → with_last (map type_name (filter p ts)) n ≡ map type_name (filter p ts) ++ n ∷ []
new-last p ts n apart =
    let names = map type_name (filter p ts) in
    ap (λ b. cond b names (names ++ n ∷ [])) (none-last n.text names (length names - 1) (filtered-apart n.text p ts apart))

filtered-more : (p : ExtendedType → Bool) (ts : List ExtendedType) (t : ExtendedType) → map type_name (filter p (ts ++ t ∷ [])) ≡ map type_name (filter p ts) ++ map type_name (filter p (t ∷ []))
filtered-more p ts t = ap (map type_name) (filter-append p ts (t ∷ [])) ∙ map-append type_name (filter p ts) (filter p (t ∷ []))

abbrev objects_by : List ℕ → ExtendedType → Bool
objects_by q t = is_object t && implements q t

abbrev interfaces_by : List ℕ → ExtendedType → Bool
interfaces_by q t = is_interface t && implements q t

abbrev both_with : List Named → List Named → Implementers
both_with os is = record { objects = os; interfaces = is }

-- what one type adds to each of the two lists
abbrev added : (ExtendedType → Bool) → Bool → Bool → List ExtendedType → ExtendedType → List Named
added p kind lists ts t = map type_name (filter p ts) ++ map type_name (cond (kind && lists) (t ∷ []) [])

more-in : (q : List ℕ) (ts : List ExtendedType) (t : ExtendedType)
    → implementers_in q (ts ++ t ∷ []) ≡ both_with (added (objects_by q) (is_object t) (implements q t) ts t) (added (interfaces_by q) (is_interface t) (implements q t) ts t)
more-in q ts t = λ i. both_with (filtered-more (objects_by q) ts t i) (filtered-more (interfaces_by q) ts t i)

listed-in : (q : List ℕ) (ts : List ExtendedType) (t : ExtendedType) → Apart (type_name t).text ts
    → both_with (added (objects_by q) (is_object t) true ts t) (added (interfaces_by q) (is_interface t) true ts t) ≡ with_implementer t (implementers_in q ts)
listed-in q ts (type.Object it) apart = λ i. both_with (sym (new-last (objects_by q) ts it.name apart) i) (append-nil (map type_name (filter (interfaces_by q) ts)) i)
listed-in q ts (type.Interface it) apart = λ i. both_with (append-nil (map type_name (filter (objects_by q) ts)) i) (sym (new-last (interfaces_by q) ts it.name apart) i)
listed-in q ts (type.Scalar it) apart = λ i. both_with (append-nil (map type_name (filter (objects_by q) ts)) i) (append-nil (map type_name (filter (interfaces_by q) ts)) i)
listed-in q ts (type.Union it) apart = λ i. both_with (append-nil (map type_name (filter (objects_by q) ts)) i) (append-nil (map type_name (filter (interfaces_by q) ts)) i)
listed-in q ts (type.Enum it) apart = λ i. both_with (append-nil (map type_name (filter (objects_by q) ts)) i) (append-nil (map type_name (filter (interfaces_by q) ts)) i)
listed-in q ts (type.InputObject it) apart = λ i. both_with (append-nil (map type_name (filter (objects_by q) ts)) i) (append-nil (map type_name (filter (interfaces_by q) ts)) i)

and-false : (b : Bool) → (b && false) ≡ false
and-false true = refl
and-false false = refl

unlisted-in : (q : List ℕ) (ts : List ExtendedType) (t : ExtendedType)
    → both_with (added (objects_by q) (is_object t) false ts t) (added (interfaces_by q) (is_interface t) false ts t) ≡ implementers_in q ts
unlisted-in q ts t =
    (λ i. both_with (map type_name (filter (objects_by q) ts) ++ map type_name (cond (and-false (is_object t) i) (t ∷ []) []))
    (map type_name (filter (interfaces_by q) ts) ++ map type_name (cond (and-false (is_interface t) i) (t ∷ []) [])))
    ∙ (λ i. both_with (append-nil (map type_name (filter (objects_by q) ts)) i) (append-nil (map type_name (filter (interfaces_by q) ts)) i))

-- no list where no type says so
none-filtered : (kind : ExtendedType → Bool) (q : List ℕ) (ts : List ExtendedType) → list_any (implements q) ts ≡ false → filter (λ t. kind t && implements q t) ts ≡ []
none-filtered kind q [] none = refl
none-filtered kind q (t ∷ ts) none = by_test (implements q t) none (none-filtered kind q ts)
  where
    by_test : (b : Bool) → (b || list_any (implements q) ts) ≡ false → (list_any (implements q) ts ≡ false → filter (λ t. kind t && implements q t) ts ≡ [])
        → cond (kind t && b) (t ∷ filter (λ t. kind t && implements q t) ts) (filter (λ t. kind t && implements q t) ts) ≡ []
    by_test true none later = absurd cc
    by_test false none later = ap (λ b. cond b (t ∷ filter (λ t. kind t && implements q t) ts) (filter (λ t. kind t && implements q t) ts)) (and-false (kind t)) ∙ later none

known-in : (q : List ℕ) (ts : List ExtendedType) → unwrap_or (implementers_of q ts) no_implementers ≡ implementers_in q ts
known-in q ts = by_test (list_any (implements q) ts) refl
  where
    by_test : (b : Bool) → list_any (implements q) ts ≡ b → unwrap_or (cond b (Some (implementers_in q ts)) None) no_implementers ≡ implementers_in q ts
    by_test true is = refl
    by_test false is = λ i. both_with (map type_name (sym (none-filtered is_object q ts is) i)) (map type_name (sym (none-filtered is_interface q ts is) i))

one_more : (q : List ℕ) (ts : List ExtendedType) (t : ExtendedType) → Apart (type_name t).text ts
    → cond (implements q t) (once t (implementers_of q ts)) (implementers_of q ts) ≡ implementers_of q (ts ++ t ∷ [])
one_more q ts t apart = by_test (implements q t) refl
  where
    by_test : (b : Bool) → implements q t ≡ b → cond b (once t (implementers_of q ts)) (implementers_of q ts) ≡ implementers_of q (ts ++ t ∷ [])
    by_test true is =
        ap (λ x. Some (with_implementer t x)) (known-in q ts)
        ∙ ap Some (sym (more-in q ts t ∙ ap (λ b. both_with (added (objects_by q) (is_object t) b ts t) (added (interfaces_by q) (is_interface t) b ts t)) is ∙ listed-in q ts t apart))
        ∙ ap (λ b. cond b (Some (implementers_in q (ts ++ t ∷ []))) None) (sym (list_any-append (implements q) ts (t ∷ []) ∙ ap (λ b. list_any (implements q) ts || (b || false)) is ∙ or-true (list_any (implements q) ts)))
    by_test false is =
        ap (λ x. cond (list_any (implements q) ts) (Some x) None)
        (sym (more-in q ts t ∙ ap (λ b. both_with (added (objects_by q) (is_object t) b ts t) (added (interfaces_by q) (is_interface t) b ts t)) is ∙ unlisted-in q ts t))
        ∙ ap (λ b. cond b (Some (implementers_in q (ts ++ t ∷ []))) None) (sym (list_any-append (implements q) ts (t ∷ []) ∙ ap (λ b. list_any (implements q) ts || (b || false)) is ∙ or-false (list_any (implements q) ts)))

-- what is found after one type more
pub found-more : (found : Found) (ts : List ExtendedType) (t : ExtendedType) (q : List ℕ) → Apart (type_name t).text ts
    → lookup (bytes_eq q) found ≡ implementers_of q ts → lookup (bytes_eq q) (fold (with_listing t) found (interfaces_of t)) ≡ implementers_of q (ts ++ t ∷ [])
found-more found ts t q apart is =
    lookup-listings t (interfaces_of t) found q ∙ folded t q (lookup (bytes_eq q) found) (interfaces_of t)
    ∙ ap (λ o. cond (implements q t) (once t o) o) is ∙ one_more q ts t apart

-- a type is of a new name among those before it
apart-before : (ts : List ExtendedType) (i : ℕ) (t : ExtendedType) → i < length ts → t ≡ get_or ts i t → IsDistinct bytes_eq (texts type_name ts)
    → Apart (type_name t).text (take i ts)
apart-before ts i t within is distinct =
    subst (AllByRecursion (λ k. bytes_eq (type_name t).text k ≡ false)) (take-map (λ t. (type_name t).text) i ts)
    (absent_from_position (bytes_eq (type_name t).text) (take i (texts type_name ts)) (new_text type_name ts i t within is distinct))

pub found-step : (found : Found) (ts : List ExtendedType) (i : ℕ) (t : ExtendedType) (q : List ℕ) → i < length ts → t ≡ get_or ts i t → IsDistinct bytes_eq (texts type_name ts)
    → lookup (bytes_eq q) found ≡ implementers_of q (take i ts) → lookup (bytes_eq q) (fold (with_listing t) found (interfaces_of t)) ≡ implementers_of q (take (i + 1) ts)
found-step found ts i t q within is distinct known =
    found-more found (take i ts) t q (apart-before ts i t within is distinct) known
    ∙ ap (implementers_of q) (ap (λ x. take i ts ++ x ∷ []) is ∙ sym (take_more ts i t within))
