-- Readings step by step.
use Rattle.std.proofs.Common.{◌≡◌, inl, inr, ℕ, Bool, true, false, if◌then◌else◌, Option, Some, None, ◌+◌, ◌<◌, List, [], ◌∷◌, ◌++◌, length, get_or, drop, Result, Ok, Err, refl, sym, ap, ◌∙◌, subst, add-one, drop-cons, suc, arith}
use Rattle.jb_text.specs.declared.refused.Refused.{Refused}
use Rattle.jb_text.specs.declared.refused.Refused.TheVariants.{Fault, Memory}
use Rattle.jb_tree.specs.declared.value.Value.{Value}
use Rattle.jb_tree.specs.Value.{is_null}
use Rattle.gql_client_schema.specs.Members.{or_null}
use Rattle.gql_response.specs.declared.path.ResponseDataPathSegment.{ResponseDataPathSegment}
use Rattle.gql_client_schema.specs.Reading.{Steps, Reading, gives, breaks, asks, and_then, mapped, both, under, item, Gives, Breaks, Answers, read_items}
use Rattle.gql_client_schema.specs.bridge.Reading.{IsPath}

module _ {A B : Type 0} (f : A → Reading B) where
  pub then_gives : (m : Reading A) (a : A) (b : B) → Gives m a → Gives (f a) b → Gives (and_then m f) b
  then_gives (gives x) a b is h = subst (λ (y : A). Gives (f y) b) (sym is) h
  then_gives (breaks p) a b is h = absurd is
  then_gives (asks t p k) a b is h = (is.0, is.1, then_gives (k is.0) a b is.2 h)

  pub then_breaks : (m : Reading A) (a : A) (p : Steps) → Gives m a → Breaks (f a) p → Breaks (and_then m f) p
  then_breaks (gives x) a p is h = subst (λ (y : A). Breaks (f y) p) (sym is) h
  then_breaks (breaks q) a p is h = absurd is
  then_breaks (asks t q k) a p is h = inr (is.0, is.1, then_breaks (k is.0) a p is.2 h)

  pub breaks_then : (m : Reading A) (p : Steps) → Breaks m p → Breaks (and_then m f) p
  breaks_then (gives x) p h = absurd h
  breaks_then (breaks q) p h = h
  breaks_then (asks t q k) p (inl h) = inl h
  breaks_then (asks t q k) p (inr h) = inr (h.0, h.1, breaks_then (k h.0) p h.2)

  -- what comes of what was read
  pub goes : (m : Reading A) (a : A) (r : Result B (Refused Steps)) → Gives m a → Answers (f a) r → Answers (and_then m f) r
  goes m a (Ok b) is h = then_gives m a b is h
  goes m a (Err (Fault p)) is h = then_breaks m a p is h
  goes m a (Err Memory) is h = tt

  -- and of what was not
  pub stops : (m : Reading A) (e : Refused Steps) → Answers m (Err e) → Answers (and_then m f) (Err e)
  stops m (Fault p) h = breaks_then m p h
  stops m Memory h = tt

module _ {A : Type 0} (step : ResponseDataPathSegment) where
  pub under_gives : (m : Reading A) (a : A) → Gives m a → Gives (under step m) a
  under_gives (gives x) a h = h
  under_gives (breaks p) a h = absurd h
  under_gives (asks t p k) a h = (h.0, h.1, under_gives (k h.0) a h.2)

  under_breaks : (m : Reading A) (p : Steps) → Breaks m p → Breaks (under step m) (step ∷ p)
  under_breaks (gives x) p h = absurd h
  under_breaks (breaks q) p h = ap (λ (l : Steps). step ∷ l) h
  under_breaks (asks t q k) p (inl h) = inl (h.0, ap (λ (l : Steps). step ∷ l) h.1)
  under_breaks (asks t q k) p (inr h) = inr (h.0, h.1, under_breaks (k h.0) p h.2)

  -- a path, one step further out
  pub under_path : (m : Reading A) (p : Steps) (e : Refused Steps) → Breaks m p → IsPath (step ∷ p) e → Answers (under step m) (Err e)
  under_path m p (Fault q) h is = subst (λ (l : Steps). Breaks (under step m) l) is (under_breaks m p h)
  under_path m p Memory h is = tt

-- the value itself
pub whole_breaks : (A : Type 0) (e : Refused Steps) → IsPath [] e → Answers {A = A} (breaks []) (Err e)
whole_breaks A (Fault q) is = is
whole_breaks A Memory is = tt

-- ---- items

-- what answers the later reading answers the whole one
abbrev pub Resumes : {A : Type 0} → Reading A → Reading A → Type 0
Resumes {A} later whole = (r : Result A (Refused Steps)) → Answers later r → Answers whole r

module _ {V A : Type 0} (rule : V → Reading A) where
  next_item : (values : List V) (i : ℕ) (v : V) → i < length values → v ≡ get_or values i v → drop i values ≡ v ∷ drop (i + 1) values
  next_item values i v within is = rw (add-one, drop-cons values i v) (ap (λ (w : V). w ∷ drop (suc i) values) (sym is))

  -- one item more is read
  pub item_more : (values : List V) (i : ℕ) (v : V) (done : List A) (x : A) (whole : Reading (List A)) → i < length values → v ≡ get_or values i v
      → Gives (under (item i) (rule v)) x → Resumes (read_items rule i done (drop i values)) whole
      → Resumes (read_items rule (i + 1) (done ++ x ∷ []) (drop (i + 1) values)) whole
  item_more values i v done x whole within is found h = λ r later.
      h r (subst (λ (rest : List V). Answers (read_items rule i done rest) r) (sym (next_item values i v within is))
      (goes (λ (y : A). read_items rule (i + 1) (done ++ y ∷ []) (drop (i + 1) values)) (under (item i) (rule v)) x r found later))

  -- one is not
  pub item_stops : (values : List V) (i : ℕ) (v : V) (done : List A) (e : Refused Steps) (whole : Reading (List A)) → i < length values → v ≡ get_or values i v
      → Answers (under (item i) (rule v)) (Err e) → Resumes (read_items rule i done (drop i values)) whole → Answers whole (Err e)
  item_stops values i v done e whole within is broken h =
      h (Err e) (subst (λ (rest : List V). Answers (read_items rule i done rest) (Err e)) (sym (next_item values i v within is))
      (stops (λ (y : A). read_items rule (i + 1) (done ++ y ∷ []) (drop (i + 1) values)) (under (item i) (rule v)) e broken))

-- ---- what is made of a reading

module _ {A B : Type 0} (make : A → B) where
  pub mapped_gives : (m : Reading A) (a : A) → Gives m a → Gives (mapped make m) (make a)
  mapped_gives m a h = then_gives (λ (x : A). gives (make x)) m a (make a) h refl

  pub mapped_makes : (m : Reading A) (a : A) (b : B) → b ≡ make a → Gives m a → Gives (mapped make m) b
  mapped_makes m a b is h = then_gives (λ (x : A). gives (make x)) m a b h (sym is)

  pub mapped_stops : (m : Reading A) (e : Refused Steps) → Answers m (Err e) → Answers (mapped make m) (Err e)
  mapped_stops m e h = stops (λ (x : A). gives (make x)) m e h

-- ---- a value that is not null

pub not_null : {A : Type 0} (rule : Value → Reading A) (value : Value) (r : Result (Option A) (Refused Steps)) → is_null value ≡ false
    → Answers (mapped Some (rule value)) r → Answers (or_null rule value) r
not_null {A} rule value r is h =
    subst (λ (b : Bool). Answers {A = Option A} (if b then gives None else mapped Some (rule value)) r) (sym is) h

-- ---- one thing and then another

module _ {A B : Type 0} (m : Reading A) (n : Reading B) where
  pub both_goes : (a : A) (r : Result (A × B) (Refused Steps)) → Gives m a → Answers (mapped (λ (b : B). (a, b)) n) r → Answers (both m n) r
  both_goes a r is h = goes (λ (x : A). mapped (λ (b : B). (x, b)) n) m a r is h

  pub both_stops : (e : Refused Steps) → Answers m (Err e) → Answers (both m n) (Err e)
  both_stops e h = stops (λ (x : A). mapped (λ (b : B). (x, b)) n) m e h
