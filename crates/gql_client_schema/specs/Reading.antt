-- What a JSON value is read as, or the first part of it that breaks a rule. Whether a text is a constant value of GraphQL's grammar is
-- asked on the way, so a reading is a value, a path, or a question and what comes of its answer.
use Rattle.std.specs.Prelude.{◌≡◌, ◌⊎◌, ℕ, List, [], ◌∷◌, ◌++◌, ◌+◌, None, Result, Ok, Err}
use Rattle.jb_text.specs.declared.refused.Refused.{Refused}
use Rattle.jb_text.specs.declared.refused.Refused.TheVariants.{Fault, Memory}
use Rattle.gql_response.specs.declared.path.ResponseDataPathSegment.{ResponseDataPathSegment}
use Rattle.gql_response.specs.declared.path.ResponseDataPathSegment.TheVariants.{Field, ListIndex}
use Rattle.gql_client_schema.specs.Constants.{IsConstant, IsNoConstant}

-- the steps from the whole to a part
abbrev pub Steps : Type 0
Steps = List ResponseDataPathSegment

-- the step into a member of an object, and into an item of a list
abbrev pub member : List ℕ → ResponseDataPathSegment
member name = Field (record { text = name; location = None })

abbrev pub item : ℕ → ResponseDataPathSegment
item index = ListIndex index

pub data Reading (A : Type 0) : Type 0 where
  -- this is what it is read as
  gives : A → Reading A
  -- this is the path to the first part that breaks a rule
  breaks : Steps → Reading A
  -- the text at the path has to be a constant value; the reading goes on with how that is printed
  asks : List ℕ → Steps → (List ℕ → Reading A) → Reading A

-- what is read next of what was read
abbrev pub and_then : {A B : Type 0} → Reading A → (A → Reading B) → Reading B
and_then (gives found) next = next found
and_then (breaks path) next = breaks path
and_then (asks text path rest) next = asks text path (λ printed. and_then (rest printed) next)

-- what a reading makes of it
abbrev pub mapped : {A B : Type 0} → (A → B) → Reading A → Reading B
mapped make reading = and_then reading (λ found. gives (make found))

-- one thing and then another
abbrev pub both : {A B : Type 0} → Reading A → Reading B → Reading (A × B)
both first second = and_then first (λ a. and_then second (λ b. gives (a, b)))

-- the same one step further in
abbrev pub under : {A : Type 0} → ResponseDataPathSegment → Reading A → Reading A
under step (gives found) = gives found
under step (breaks path) = breaks (step ∷ path)
under step (asks text path rest) = asks text (step ∷ path) (λ printed. under step (rest printed))

-- the reading comes to this value, where each text that is asked for is a constant value
abbrev pub Gives : {A : Type 0} → Reading A → A → Type 0
Gives (gives found) value = found ≡ value
Gives (breaks path) value = ⊥
Gives (asks text path rest) value = (printed : List ℕ) × IsConstant text printed × Gives (rest printed) value

-- the first part that breaks a rule, be it a text that is no constant value, stands there
abbrev pub Breaks : {A : Type 0} → Reading A → Steps → Type 0
Breaks (gives found) at = ⊥
Breaks (breaks path) at = path ≡ at
Breaks (asks text path rest) at =
    (IsNoConstant text × (path ≡ at)) ⊎ ((printed : List ℕ) × IsConstant text printed × Breaks (rest printed) at)

-- what is answered of a value that is read so; out of memory is free
abbrev pub Answers : {A : Type 0} → Reading A → Result A (Refused Steps) → Type 0
Answers reading (Ok found) = Gives reading found
Answers reading (Err (Fault path)) = Breaks reading path
Answers reading (Err Memory) = Unit {0}

-- each item in turn, from this one on, behind those that are read
abbrev pub read_items : {V A : Type 0} → (V → Reading A) → ℕ → List A → List V → Reading (List A)
read_items rule index done [] = gives done
read_items rule index done (value ∷ values) =
    and_then (under (item index) (rule value)) (λ found. read_items rule (index + 1) (done ++ found ∷ []) values)
