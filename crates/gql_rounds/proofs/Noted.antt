-- Asks that are noted each once.
use Rattle.std.proofs.Common.{◌≡◌, ℕ, Bool, true, false, if◌then◌else◌, List, [], ◌∷◌, ◌++◌, Some, None, is_some, cond, refl, ap, inl, inr}
use Rattle.std.specs.List.{AllByRecursion}
use Rattle.std.specs.Map.{lookup}
use Rattle.std.specs.Str.{bytes_eq}
use Rattle.std.proofs.lemmas.Slice.Eq.{bytes_eq-Decides}
use Rattle.gql_rounds.specs.Asked.{IsOneOf}
use Rattle.gql_rounds.specs.Table.{has_key, with_answer}
use Rattle.gql_rounds.specs.Wanted.{key_of}
use Rattle.gql_rounds.specs.bridge.Wanted.{all_noted, noted}
use Rattle.gql_rounds.specs.declared.ask.Ask.{Ask}

abbrev pub Entries : Type 0
Entries = List (List ℕ × Ask)

pub noted-append : (asks : Entries) (xs ys : List Ask) → all_noted asks (xs ++ ys) ≡ all_noted (all_noted asks xs) ys
noted-append asks [] ys = refl
noted-append asks (x ∷ xs) ys = noted-append (noted asks x) xs ys

-- ---- lists

pub all-append : {A : Type 0} (P : A → Type 0) (xs ys : List A) → AllByRecursion P xs → AllByRecursion P ys → AllByRecursion P (xs ++ ys)
all-append P [] ys one other = other
all-append P (x ∷ xs) ys one other = (one.0, all-append P xs ys one.1 other)

pub all-front : {A : Type 0} (P : A → Type 0) (xs ys : List A) → AllByRecursion P (xs ++ ys) → AllByRecursion P xs
all-front P [] ys all = tt
all-front P (x ∷ xs) ys all = (all.0, all-front P xs ys all.1)

pub all-back : {A : Type 0} (P : A → Type 0) (xs ys : List A) → AllByRecursion P (xs ++ ys) → AllByRecursion P ys
all-back P [] ys all = all
all-back P (x ∷ xs) ys all = all-back P xs ys all.1

pub all-weaker : {A : Type 0} (P Q : A → Type 0) → ((x : A) → P x → Q x) → (xs : List A) → AllByRecursion P xs → AllByRecursion Q xs
all-weaker P Q weaker [] all = tt
all-weaker P Q weaker (x ∷ xs) all = (weaker x all.0, all-weaker P Q weaker xs all.1)

-- each item is one of a list
pub all-own : {A : Type 0} (xs : List A) → AllByRecursion (λ x. IsOneOf x xs) xs
all-own [] = tt
all-own (x ∷ xs) = (inl refl, all-weaker (λ y. IsOneOf y xs) (λ y. IsOneOf y (x ∷ xs)) (λ y one. inr one) xs (all-own xs))

-- ---- keys

key-itself : (k : List ℕ) → bytes_eq k k ≡ true
key-itself k = (bytes_eq-Decides k k).1 refl

more-keys : {V : Type 0} (k : List ℕ) (es more : List (List ℕ × V)) → has_key k es ≡ true → has_key k (es ++ more) ≡ true
more-keys k [] more has = absurd (let e : false ≡ true = has in cc)
more-keys k (e ∷ es) more has = by (bytes_eq k e.0) has (more-keys k es more)
  where
    by : (b : Bool) → is_some (cond b (Some e.1) (lookup (bytes_eq k) es)) ≡ true → (has_key k es ≡ true → has_key k (es ++ more) ≡ true)
        → is_some (cond b (Some e.1) (lookup (bytes_eq k) (es ++ more))) ≡ true
    by true has rest = has
    by false has rest = rest has

last-key : {V : Type 0} (k : List ℕ) (v : V) (es : List (List ℕ × V)) → has_key k (es ++ (k, v) ∷ []) ≡ true
last-key k v [] = ap (λ b. is_some (cond b (Some v) None)) (key-itself k)
last-key k v (e ∷ es) = by (bytes_eq k e.0) (last-key k v es)
  where
    by : (b : Bool) → has_key k (es ++ (k, v) ∷ []) ≡ true → is_some (cond b (Some e.1) (lookup (bytes_eq k) (es ++ (k, v) ∷ []))) ≡ true
    by true rest = refl
    by false rest = rest

-- what was there stays, and what is added is there
pub kept-key : {V : Type 0} (k key : List ℕ) (v : V) (es : List (List ℕ × V)) → has_key k es ≡ true → has_key k (with_answer es key v) ≡ true
kept-key k key v es has = by (has_key key es)
  where
    by : (b : Bool) → has_key k (if b then es else es ++ (key, v) ∷ []) ≡ true
    by true = has
    by false = more-keys k es ((key, v) ∷ []) has

pub added-key : {V : Type 0} (key : List ℕ) (v : V) (es : List (List ℕ × V)) → has_key key (with_answer es key v) ≡ true
added-key key v es = by (has_key key es) refl
  where
    by : (b : Bool) → has_key key es ≡ b → has_key key (if b then es else es ++ (key, v) ∷ []) ≡ true
    by true here = here
    by false here = last-key key v es

pub kept-keys : (k : List ℕ) (asks : Entries) (xs : List Ask) → has_key k asks ≡ true → has_key k (all_noted asks xs) ≡ true
kept-keys k asks [] has = has
kept-keys k asks (x ∷ xs) has = kept-keys k (noted asks x) xs (kept-key k (key_of x) x asks has)

-- each is there once all are noted
pub all-there : (asks : Entries) (xs : List Ask) → AllByRecursion (λ (ask : Ask). has_key (key_of ask) (all_noted asks xs) ≡ true) xs
all-there asks [] = tt
all-there asks (x ∷ xs) = (kept-keys (key_of x) (noted asks x) xs (added-key (key_of x) x asks), all-there (noted asks x) xs)

-- what holds of each entry that is noted
pub all-entries : (P : List ℕ × Ask → Type 0) (asks : Entries) (xs : List Ask) → AllByRecursion P asks → AllByRecursion (λ (ask : Ask). P (key_of ask, ask)) xs
    → AllByRecursion P (all_noted asks xs)
all-entries P asks [] all news = all
all-entries P asks (x ∷ xs) all news = all-entries P (noted asks x) xs (by (has_key (key_of x) asks)) news.1
  where
    by : (b : Bool) → AllByRecursion P (if b then asks else asks ++ (key_of x, x) ∷ [])
    by true = all
    by false = all-append P asks ((key_of x, x) ∷ []) all (news.0, tt)

-- the value of a key that was there stays
lookup-more : {V : Type 0} (k : List ℕ) (es more : List (List ℕ × V)) → has_key k es ≡ true → lookup (bytes_eq k) (es ++ more) ≡ lookup (bytes_eq k) es
lookup-more k [] more has = absurd (let e : false ≡ true = has in cc)
lookup-more k (e ∷ es) more has = by (bytes_eq k e.0) has (lookup-more k es more)
  where
    by : (b : Bool) → is_some (cond b (Some e.1) (lookup (bytes_eq k) es)) ≡ true
        → (has_key k es ≡ true → lookup (bytes_eq k) (es ++ more) ≡ lookup (bytes_eq k) es)
        → cond b (Some e.1) (lookup (bytes_eq k) (es ++ more)) ≡ cond b (Some e.1) (lookup (bytes_eq k) es)
    by true has rest = refl
    by false has rest = rest has

pub kept-value : {V : Type 0} (k key : List ℕ) (v : V) (es : List (List ℕ × V)) → has_key k es ≡ true
    → lookup (bytes_eq k) (with_answer es key v) ≡ lookup (bytes_eq k) es
kept-value k key v es has = by (has_key key es)
  where
    by : (b : Bool) → lookup (bytes_eq k) (if b then es else es ++ (key, v) ∷ []) ≡ lookup (bytes_eq k) es
    by true = refl
    by false = lookup-more k es ((key, v) ∷ []) has
