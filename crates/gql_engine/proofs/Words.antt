-- Words ask for one task.
use Rattle.std.proofs.Common.{◌≡◌, ◌<◌, ◌≤◌, ℕ, List, [], ◌∷◌, length, get_or, map, codes, refl, ◌∙◌, sym, ap, subst, arith}
use Rattle.gql_engine.specs.declared.task.Task.{Task}
use Rattle.gql_engine.specs.declared.task.Task.TheVariants.{Request, SelfTest}
use Rattle.gql_engine.specs.declared.task.Wish.{Wish}
use Rattle.gql_engine.specs.declared.task.Wish.TheVariants.{Answer, Check}
use Rattle.gql_engine.specs.Task.{Asks, IsCount, by_name, by_count, name_of}

-- what kind of words ask for a task
abbrev pub Fits : List (List ℕ) → Task → Type 0
Fits words (Request wish) = words ≡ name_of wish ∷ []
Fits words (SelfTest n) = (word : List ℕ) × (words ≡ codes "selftest" ∷ word ∷ [])

pub fits : (words : List (List ℕ)) (task : Task) → Asks words task → Fits words task
fits words task (by_name wish) = refl
fits words task (by_count word n is) = (word, refl)

-- no words ask for what is wished of a request and for a self-test
pub not_both : (words : List (List ℕ)) (wish : Wish) (n : ℕ) → Asks words (Request wish) → Asks words (SelfTest n) → ⊥
not_both words wish n a b = let h : words ≡ name_of wish ∷ [] = fits words (Request wish) a in let k = (fits words (SelfTest n) b).1 in cc (h, k)

same_wishes : (a b : Wish) → name_of a ∷ [] ≡ name_of b ∷ [] → a ≡ b
same_wishes Answer Answer h = refl
same_wishes Answer Check h = cc h
same_wishes Check Answer h = cc h
same_wishes Check Check h = refl

-- nor for both wishes
pub one_wish : (words : List (List ℕ)) (a b : Wish) → Asks words (Request a) → Asks words (Request b) → a ≡ b
one_wish words a b h k = same_wishes a b (sym (fits words (Request a) h) ∙ fits words (Request b) k)

-- so the task is the one that is known to be asked for
pub same_task : (words : List (List ℕ)) (task : Task) (wish : Wish) → Asks words task → Asks words (Request wish) → task ≡ Request wish
same_task words (Request w) wish a b = ap Request (one_wish words w wish a b)
same_task words (SelfTest n) wish a b = absurd (not_both words wish n b a)

-- ---- the words that were looked at

pub one_word : {A : Type 0} (f : A → List ℕ) (xs : List A) (x : A) → 1 ≤ length xs → length xs < 2 → x ≡ get_or xs 0 x → map f xs ≡ f x ∷ []
one_word f [] x least below is = absurd (omega (arith, least))
one_word {A} f (y ∷ []) x least below is = ap (λ (z : A). f z ∷ []) (sym is)
one_word f (y ∷ z ∷ zs) x least below is = absurd (omega (arith, below))

pub two_words : {A : Type 0} (f : A → List ℕ) (xs : List A) (x y : A) → 2 ≤ length xs → length xs < 3 → x ≡ get_or xs 0 x → y ≡ get_or xs 1 y
    → map f xs ≡ f x ∷ f y ∷ []
two_words f [] x y least below is also = absurd (omega (arith, least))
two_words f (a ∷ []) x y least below is also = absurd (omega (arith, least))
two_words {A} f (a ∷ b ∷ []) x y least below is also = ap (λ (z : A). f z ∷ f b ∷ []) (sym is) ∙ ap (λ (z : A). f x ∷ f z ∷ []) (sym also)
two_words f (a ∷ b ∷ c ∷ cs) x y least below is also = absurd (omega (arith, below))

pub asks_by_name : (words : List (List ℕ)) (word : List ℕ) (wish : Wish) → words ≡ word ∷ [] → word ≡ name_of wish → Asks words (Request wish)
asks_by_name words word wish are is = subst (λ (ws : List (List ℕ)). Asks ws (Request wish)) (sym (are ∙ ap (λ (w : List ℕ). w ∷ []) is)) (by_name wish)

pub asks_by_count : (words : List (List ℕ)) (first word : List ℕ) (n : ℕ) → words ≡ first ∷ word ∷ [] → first ≡ codes "selftest" → IsCount word n
    → Asks words (SelfTest n)
asks_by_count words first word n are is count =
    subst (λ (ws : List (List ℕ)). Asks ws (SelfTest n)) (sym (are ∙ ap (λ (w : List ℕ). w ∷ word ∷ []) is)) (by_count word n count)
