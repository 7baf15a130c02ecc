-- Readings of values that are made: members, texts, lists.
use Rattle.std.proofs.Common.{◌≡◌, ℕ, Bool, true, false, if◌then◌else◌, Option, Some, None, ◌+◌, List, [], ◌∷◌, ◌++◌, map, refl, sym, ap, subst, rules, append_assoc}
use Rattle.std.specs.Prelude.{codes}
use Rattle.std.specs.List.{AllByRecursion}
use Rattle.std.specs.Map.{lookup}
use Rattle.std.specs.Str.{bytes_eq}
use Rattle.std.proofs.lemmas.List.{append-nil}
use Rattle.gql_ast_base.specs.Names.{Named}
use Rattle.gql_response.specs.declared.path.ResponseDataPathSegment.{ResponseDataPathSegment}
use Rattle.jb_tree.specs.Value.{members_at, items_at, text_at, truth_at, null_at, is_null}
use Rattle.jb_tree.specs.declared.value.Value.{Value, out-Value, the_lemmas}
use Rattle.jb_tree.specs.declared.value.Value.TheOpen.{Value-F}
use Rattle.jb_tree.specs.declared.value.Value.TheVariants as json
use Rattle.gql_client_schema_laws.specs.Answer.{Pairs, text_or_null, list_value, list_if}
use Rattle.gql_client_schema.specs.Members.{Members, right, in_object, read_list, read_list_or_null, or_null, there, required, there_or, spared, read_text, read_truth, name_of, read_name}
use Rattle.gql_client_schema_laws.specs.Proper.{IsName, AreOfKind}
use Rattle.gql_client_schema.specs.Reading.{Reading, gives, breaks, asks, and_then, mapped, both, under, item, member, Gives, read_items}

-- ---- steps

module _ {A B : Type 0} (f : A → Reading B) where
  pub then_gives : (m : Reading A) (a : A) (b : B) → Gives m a → Gives (f a) b → Gives (and_then m f) b
  then_gives (gives x) a b is h = subst (λ (y : A). Gives (f y) b) (sym is) h
  then_gives (breaks p) a b is h = absurd is
  then_gives (asks t p k) a b is h = (is.0, is.1, then_gives (k is.0) a b is.2 h)

pub under_gives : {A : Type 0} (step : ResponseDataPathSegment) (m : Reading A) (a : A) → Gives m a → Gives (under step m) a
under_gives step (gives x) a h = h
under_gives step (breaks p) a h = absurd h
under_gives step (asks t p k) a h = (h.0, h.1, under_gives step (k h.0) a h.2)

pub mapped_makes : {A B : Type 0} (make : A → B) (m : Reading A) (a : A) (b : B) → make a ≡ b → Gives m a → Gives (mapped make m) b
mapped_makes {A} make m a b is h = then_gives (λ (x : A). gives (make x)) m a b h is

pub both_give : {A B : Type 0} (m : Reading A) (n : Reading B) (a : A) (b : B) → Gives m a → Gives n b → Gives (both m n) (a, b)
both_give {A} {B} m n a b h k =
    then_gives (λ (x : A). and_then n (λ (y : B). gives (x, y))) m a (a, b) h (then_gives (λ (y : B). gives (a, y)) n b (a, b) k refl)

-- one step after another, and so on
pub chained : {A B C : Type 0} (m : Reading A) (f : A → Reading B) (g : B → Reading C) (c : C) → Gives (and_then m (λ a. and_then (f a) g)) c
    → Gives (and_then (and_then m f) g) c
chained (gives x) f g c h = h
chained (breaks p) f g c h = absurd h
chained (asks t p k) f g c h = (h.0, h.1, chained (k h.0) f g c h.2)

pub under_then : {A B : Type 0} (step : ResponseDataPathSegment) (m : Reading A) (f : A → Reading B) (b : B) → Gives (and_then m f) b → Gives (and_then (under step m) f) b
under_then step (gives x) f b h = h
under_then step (breaks p) f b h = absurd h
under_then step (asks t p k) f b h = (h.0, h.1, under_then step (k h.0) f b h.2)

pub goes_on : {A B : Type 0} (m : Reading A) (f g : A → Reading B) (b : B) → ((a : A) → Gives (f a) b → Gives (g a) b) → Gives (and_then m f) b → Gives (and_then m g) b
goes_on (gives x) f g b more h = more x h
goes_on (breaks p) f g b more h = absurd h
goes_on (asks t p k) f g b more h = (h.0, h.1, goes_on (k h.0) f g b more h.2)

-- ---- members

pub required_then : {A B : Type 0} (rule : Value → Reading A) (name : List ℕ) (members : Members) (value : Value) (f : A → Reading B) (b : B)
    → lookup (bytes_eq name) members ≡ Some value → Gives (and_then (rule value) f) b → Gives (and_then (required rule name members) f) b
required_then rule name members value f b is h =
    under_then (member name) (there rule (lookup (bytes_eq name) members)) f b (subst (λ o. Gives (and_then (there rule o) f) b) (sym is) h)

pub required_gives : {A : Type 0} (rule : Value → Reading A) (name : List ℕ) (members : Members) (value : Value) (a : A)
    → lookup (bytes_eq name) members ≡ Some value → Gives (rule value) a → Gives (required rule name members) a
required_gives rule name members value a is h =
    under_gives (member name) (there rule (lookup (bytes_eq name) members)) a (subst (λ o. Gives (there rule o) a) (sym is) h)

pub spared_gives : {A : Type 0} (rule : Value → Reading A) (absent : A) (name : List ℕ) (members : Members) (value : Value) (a : A)
    → lookup (bytes_eq name) members ≡ Some value → Gives (rule value) a → Gives (spared rule absent name members) a
spared_gives rule absent name members value a is h =
    under_gives (member name) (there_or rule absent (lookup (bytes_eq name) members)) a (subst (λ o. Gives (there_or rule absent o) a) (sym is) h)

-- ---- levels of values

out_null : out-Value json.Null ≡ Value-F.Null
out_null = search (rules, the_lemmas)

out_bool : (truth : Bool) → out-Value (json.Bool truth) ≡ Value-F.Bool truth
out_bool truth = search (rules, the_lemmas)

out_string : (text : List ℕ) → out-Value (json.String text) ≡ Value-F.String text
out_string text = search (rules, the_lemmas)

out_array : (values : List Value) → out-Value (json.Array values) ≡ Value-F.Array values
out_array values = search (rules, the_lemmas)

out_object : (pairs : Pairs) → out-Value (json.Object pairs) ≡ Value-F.Object pairs
out_object pairs = search (rules, the_lemmas)

pub in_object_gives : {A : Type 0} (rule : Members → Reading A) (pairs : Pairs) (a : A) → Gives (rule pairs) a → Gives (in_object rule (json.Object pairs)) a
in_object_gives rule pairs a h = subst (λ o. Gives (and_then (right o) rule) a) (sym (ap members_at (out_object pairs))) h

pub object_is_not_null : (pairs : Pairs) → is_null (json.Object pairs) ≡ false
object_is_not_null pairs = ap null_at (out_object pairs)

pub null_is_null : is_null json.Null ≡ true
null_is_null = ap null_at out_null

pub string_is_not_null : (text : List ℕ) → is_null (json.String text) ≡ false
string_is_not_null text = ap null_at (out_string text)

pub bool_is_not_null : (truth : Bool) → is_null (json.Bool truth) ≡ false
bool_is_not_null truth = ap null_at (out_bool truth)

pub text_gives : (text : List ℕ) → Gives (read_text (json.String text)) text
text_gives text = subst (λ o. Gives (right o) text) (sym (ap text_at (out_string text))) refl

pub truth_gives : (truth : Bool) → Gives (read_truth (json.Bool truth)) truth
truth_gives truth = subst (λ o. Gives (right o) truth) (sym (ap truth_at (out_bool truth))) refl

-- what is read of a text, and of what that is read as
pub text_then : {A B : Type 0} (next : List ℕ → Reading A) (f : A → Reading B) (text : List ℕ) (b : B) → Gives (and_then (next text) f) b
    → Gives (and_then (and_then (read_text (json.String text)) next) f) b
text_then next f text b h = subst (λ o. Gives (and_then (and_then (right o) next) f) b) (sym (ap text_at (out_string text))) h

-- ---- null or something else

pub null_gives : {A : Type 0} (rule : Value → Reading A) → Gives (or_null rule json.Null) None
null_gives rule = subst (λ b. Gives (if b then gives None else mapped Some (rule json.Null)) None) (sym null_is_null) refl

pub some_gives : {A : Type 0} (rule : Value → Reading A) (value : Value) (a : A) → is_null value ≡ false → Gives (rule value) a → Gives (or_null rule value) (Some a)
some_gives rule value a is h =
    subst (λ b. Gives (if b then gives None else mapped Some (rule value)) (Some a)) (sym is) (mapped_makes Some (rule value) a (Some a) refl h)

pub text_or_null_gives : (found : Option (List ℕ)) → Gives (or_null read_text (text_or_null found)) found
text_or_null_gives None = null_gives read_text
text_or_null_gives (Some text) = some_gives read_text (json.String text) text (ap null_at (out_string text)) (text_gives text)

-- ---- names

pub name_gives : (name : Named) → IsName name → Gives (read_name (json.String name.text)) name
name_gives name is =
    then_gives name_of (read_text (json.String name.text)) name.text name (text_gives name.text)
    (subst (λ b. Gives (if b then gives (record { text = name.text; location = None }) else breaks []) name) (sym is.0)
    (λ i. record { text = name.text; location = sym is.1 i }))

-- ---- lists

module _ {X : Type 0} (rule : Value → Reading X) (value_of : X → Value) where
  pub items_give : (index : ℕ) (done xs : List X) → AllByRecursion (λ x. Gives (rule (value_of x)) x) xs
      → Gives (read_items rule index done (map value_of xs)) (done ++ xs)
  items_give index done [] all = sym (append-nil done)
  items_give index done (x ∷ xs) all =
      then_gives (λ found. read_items rule (index + 1) (done ++ found ∷ []) (map value_of xs)) (under (item index) (rule (value_of x))) x (done ++ (x ∷ xs))
      (under_gives (item index) (rule (value_of x)) x all.0)
      (subst (Gives (read_items rule (index + 1) (done ++ x ∷ []) (map value_of xs))) (append_assoc done (x ∷ []) xs)
      (items_give (index + 1) (done ++ x ∷ []) xs all.1))

  pub list_gives : (xs : List X) → AllByRecursion (λ x. Gives (rule (value_of x)) x) xs → Gives (read_list rule (list_value value_of xs)) xs
  list_gives xs all =
      subst (λ o. Gives (and_then (right o) (read_items rule 0 [])) xs) (sym (ap items_at (out_array (map value_of xs)))) (items_give 0 [] xs all)

  pub list_or_null_gives : (has : Bool) (xs : List X) → AreOfKind has xs → AllByRecursion (λ x. Gives (rule (value_of x)) x) xs
      → Gives (read_list_or_null rule (list_if has value_of xs)) xs
  list_or_null_gives true xs of_kind all =
      subst (λ b. Gives (if b then gives [] else read_list rule (list_value value_of xs)) xs) (sym (ap null_at (out_array (map value_of xs)))) (list_gives xs all)
  list_or_null_gives false xs of_kind all =
      subst (λ b. Gives (if b then gives [] else read_list rule json.Null) xs) (sym null_is_null) (sym of_kind)

-- ---- heads

-- a name, and what is made of it
pub named_then : {H B : Type 0} (make : Named → H) (f : H → Reading B) (members : Members) (name : Named) (b : B) → IsName name
    → lookup (bytes_eq (codes "name")) members ≡ Some (json.String name.text) → Gives (f (make name)) b
    → Gives (and_then (mapped make (required read_name (codes "name") members)) f) b
named_then {H} make f members name b named is h =
    then_gives f (mapped make (required read_name (codes "name") members)) (make name) b
    (mapped_makes make (required read_name (codes "name") members) name (make name) refl
    (required_gives read_name (codes "name") members (json.String name.text) name is (name_gives name named))) h

-- no name
pub nameless_then : {H B : Type 0} (found : H) (f : H → Reading B) (members : Members) (b : B) → lookup (bytes_eq (codes "name")) members ≡ Some json.Null
    → Gives (f found) b → Gives (and_then (mapped (λ (name : Option (List ℕ)). found) (required (or_null read_text) (codes "name") members)) f) b
nameless_then found f members b is h =
    then_gives f (mapped (λ (name : Option (List ℕ)). found) (required (or_null read_text) (codes "name") members)) found b
    (mapped_makes (λ (name : Option (List ℕ)). found) (required (or_null read_text) (codes "name") members) None found refl
    (required_gives (or_null read_text) (codes "name") members json.Null None is (null_gives read_text))) h
