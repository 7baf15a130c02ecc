-- What is said, where it stands in a text: its parts, its names, and what its nodes stand for.
use Rattle.std.proofs.Common.{◌≡◌, ◌==◌, ℕ, zero, suc, ◌+◌, ◌-◌, ◌≤◌, Bool, true, false, if◌then◌else◌, List, [], ◌∷◌, ◌++◌, length, map, is_some, option_to_list, Option, Some, None, refl, sym, ap, ◌∙◌, subst, arith}
use Rattle.std.specs.Prelude.{nat_le, slice_get}
use Rattle.gql_source.specs.declared.file_id.FileId.{FileId}
use Rattle.gql_grammar.specs.declared.syntax_kind.SyntaxKind.{SyntaxKind}
use Rattle.gql_grammar.specs.declared.syntax_kind.SyntaxKind.TheVariants as kind
use Rattle.gql_cst.specs.Forest.{Forest, Plain, nothing}
use Rattle.gql_cst.specs.Leaves.{word, node, part_of}
use Rattle.gql_ast_base.specs.Kinds.{is_kind}
use Rattle.gql_ast_base.specs.Names.{Named, is_name}
use Rattle.gql_ast_base.specs.Parts.{head, first, gather, children_of, inside, piece, token_text, word as name_text, name_of, nth_name, nth_text, after_word}
use Rattle.gql_ast_laws.proofs.Blind.{tree}
use Rattle.gql_ast_laws.proofs.Inner.{here, later}
use Rattle.gql_ast_laws.proofs.Named.{nth_name-is, nth_text-is, no_text}
use Rattle.gql_ast_laws.proofs.TokenKinds.{kind_is, no_token}
use Rattle.gql_print_laws.specs.bridge.Said.{Text, Said, over, token, space, under, text_of, forest_at, Lexes}
use Rattle.gql_print_laws.proofs.Rest.{Rest, cut, boundary}
use Rattle.gql_print_laws.proofs.Laid.{piece_leaf, first_part, second_part}
use Rattle.gql_print_laws.specs.Meant.{name_text as text_in}

-- what stands in the first node of the kind
abbrev pub inside_said : SyntaxKind → Said → Said
inside_said k over = over
inside_said k (token t s) = inside_said k s
inside_said k (space t s) = inside_said k s
inside_said k (under j i s) = if is_kind j k then i else inside_said k s

-- what stands in each node of the kind
abbrev pub nodes_said : SyntaxKind → Said → List Said
nodes_said k over = []
nodes_said k (token t s) = nodes_said k s
nodes_said k (space t s) = nodes_said k s
nodes_said k (under j i s) = if is_kind j k then i ∷ nodes_said k s else nodes_said k s

-- the names among the tokens
abbrev pub names_said : Said → List Text
names_said over = []
names_said (token t s) = if is_name t then t ∷ names_said s else names_said s
names_said (space t s) = names_said s
names_said (under k i s) = names_said s

-- the name that a token is
abbrev pub word_in : Text → Option Text
word_in t = if is_name t then Some t else None

-- what stands behind the nth name
abbrev pub after_said : ℕ → Said → Said
after_said n over = over
after_said n (token t s) = if is_name t then (if n == 0 then s else after_said (n - 1) s) else after_said n s
after_said n (space t s) = after_said n s
after_said n (under k i s) = after_said n s

-- a token of the kind is no node
token_apart : (k : SyntaxKind) → part_of k ≡ node → is_kind kind.Token k ≡ false
token_apart k p = by_test (is_kind kind.Token k) refl where
  by_test : (b : Bool) → is_kind kind.Token k ≡ b → is_kind kind.Token k ≡ false
  by_test true e = let c : word ≡ node = ap part_of (kind_is kind.Token k e) ∙ p in absurd (cc)
  by_test false e = e

ignored_apart : (k : SyntaxKind) → part_of k ≡ node → is_kind kind.Ignored k ≡ false
ignored_apart k p = by_test (is_kind kind.Ignored k) refl where
  by_test : (b : Bool) → is_kind kind.Ignored k ≡ b → is_kind kind.Ignored k ≡ false
  by_test true e = let c = ap part_of (kind_is kind.Ignored k e) ∙ p in absurd (cc)
  by_test false e = e

-- the one of a list whose image is known
pub record Source {X Y : Type 0} (f : X → Y) (xs : List X) (n : ℕ) (y : Y) : Type 0 where
  pub found : X
  pub is : slice_get xs n ≡ Some found
  pub same : f found ≡ y

some_same : {X : Type 0} (x y : X) → Some x ≡ Some y → x ≡ y
some_same x y h = cc

pub source : {X Y : Type 0} (f : X → Y) (xs : List X) (n : ℕ) (y : Y) → slice_get (map f xs) n ≡ Some y → Source f xs n y
source f [] n y h = absurd (cc)
source f (x ∷ xs) zero y h = record { found = x; is = refl; same = some_same (f x) y h }
source f (x ∷ xs) (suc n) y h = let s = source f xs n y h in record { found = s.found; is = s.is; same = s.same }

module _ (text : Text) where
  -- it stands there, and something behind it
  pub record Stands (n : ℕ) (s : Said) : Type 0 where
    pub behind : Text
    pub rest : Rest text n (text_of s ++ behind)
    pub lexes : Lexes s behind

  pub past_token : (n : ℕ) (t : Text) (s : Said) → Stands n (token t s) → Stands (n + length t) s
  past_token n t s r = record { behind = r.behind; rest = second_part text n t (text_of s) r.behind r.rest; lexes = r.lexes.1 }

  pub past_space : (n : ℕ) (t : Text) (s : Said) → Stands n (space t s) → Stands (n + length t) s
  past_space n t s r = record { behind = r.behind; rest = second_part text n t (text_of s) r.behind r.rest; lexes = r.lexes.1 }

  pub down : (n : ℕ) (k : SyntaxKind) (i s : Said) → Stands n (under k i s) → Stands n i
  down n k i s r = record { behind = text_of s ++ r.behind; rest = first_part text n (text_of i) (text_of s) r.behind r.rest; lexes = r.lexes.1.0 }

  pub past_node : (n : ℕ) (k : SyntaxKind) (i s : Said) → Stands n (under k i s) → Stands (n + length (text_of i)) s
  past_node n k i s r = record { behind = r.behind; rest = second_part text n (text_of i) (text_of s) r.behind r.rest; lexes = r.lexes.1.1 }

  abbrev pub leaf_tree : ℕ → Text → Plain
  leaf_tree n t = tree kind.Token n (n + length t) nothing

  pub token_stands : (n : ℕ) (t : Text) (s : Said) → Stands n (token t s) → token_text text (leaf_tree n t) ≡ Some t
  unfolding token_text piece is_kind
  token_stands n t s r =
      let rest = first_part text n t (text_of s) r.behind r.rest in
      let l = piece_leaf word text n t (text_of s ++ r.behind) rest r.lexes.0 in
      let le : n ≤ n + length t = omega arith in
      let order : nat_le n (n + length t) ≡ true = grind (arith, le) in
      rw (order, boundary text n l.starts_character, boundary text (n + length t) l.ends_character, cut text n t (text_of s ++ r.behind) rest) refl

  -- ---- the first node of a kind

  pub record Within (n : ℕ) (k : SyntaxKind) (s i : Said) : Type 0 where
    pub place : ℕ
    pub is : inside k (forest_at n s) ≡ forest_at place i
    pub stands : Stands place i

  pub within : (k : SyntaxKind) → part_of k ≡ node → (s : Said) (n : ℕ) → Stands n s → Within n k s (inside_said k s)
  within k p over n r = record { place = n; is = refl; stands = r }
  within k p (token t s) n r =
      let w = within k p s (n + length t) (past_token n t s r) in
      record { place = w.place; is = ap children_of (later k kind.Token n (n + length t) nothing (forest_at (n + length t) s) (token_apart k p)) ∙ w.is; stands = w.stands }
  within k p (space t s) n r =
      let w = within k p s (n + length t) (past_space n t s r) in
      record { place = w.place; is = ap children_of (later k kind.Ignored n (n + length t) nothing (forest_at (n + length t) s) (ignored_apart k p)) ∙ w.is; stands = w.stands }
  within k p (under j i s) n r =
      both (is_kind j k) refl (within k p s (n + length (text_of i)) (past_node n j i s r)) where
        both : (b : Bool) → is_kind j k ≡ b → Within (n + length (text_of i)) k s (inside_said k s) → Within n k (under j i s) (if b then i else inside_said k s)
        both true e w = record { place = n; is = ap children_of (here k j 0 0 (forest_at n i) (forest_at (n + length (text_of i)) s) e); stands = down n j i s r }
        both false e w = record { place = w.place; is = ap children_of (later k j 0 0 (forest_at n i) (forest_at (n + length (text_of i)) s) e) ∙ w.is; stands = w.stands }

  -- ---- names

  module _ (file : FileId) where
    leaf_name : (n : ℕ) (t : Text) (behind : List Named) → token_text text (leaf_tree n t) ≡ Some t → (b : Bool) → is_name t ≡ b
        → map text_in (option_to_list (name_of text file (leaf_tree n t)) ++ behind) ≡ (if b then t ∷ map text_in behind else map text_in behind)
    unfolding name_of name_text
    leaf_name n t behind e true h = rw (e, h) refl
    leaf_name n t behind e false h = rw (e, h) refl

    no_name : (k : SyntaxKind) (start end : ℕ) (children : Forest) → is_kind k kind.Token ≡ false → name_of text file (tree k start end children) ≡ None
    unfolding name_of
    no_name k start end children h = rw (no_text text k start end children h) refl

    ignored_name : (start end : ℕ) → name_of text file (tree kind.Ignored start end nothing) ≡ None
    unfolding name_of name_text token_text is_kind
    ignored_name start end = refl

    pub names : (s : Said) (n : ℕ) → Stands n s → map text_in (gather (name_of text file) (forest_at n s)) ≡ names_said s
    names over n r = refl
    names (token t s) n r =
        leaf_name n t (gather (name_of text file) (forest_at (n + length t) s)) (token_stands n t s r) (is_name t) refl
        ∙ ap (λ l. if is_name t then t ∷ l else l) (names s (n + length t) (past_token n t s r))
    names (space t s) n r =
        ap (λ o. map text_in (option_to_list o ++ gather (name_of text file) (forest_at (n + length t) s))) (ignored_name n (n + length t))
        ∙ names s (n + length t) (past_space n t s r)
    names (under k i s) n r =
        ap (λ o. map text_in (option_to_list o ++ gather (name_of text file) (forest_at (n + length (text_of i)) s))) (no_name k 0 0 (forest_at n i) (no_token k r.lexes.0))
        ∙ names s (n + length (text_of i)) (past_node n k i s r)

    pub record NameAt (n : ℕ) (s : Said) (at : ℕ) (t : Text) : Type 0 where
      pub found : Named
      pub is : nth_name text file at (forest_at n s) ≡ Some found
      pub same : found.text ≡ t

    pub name_at : (n : ℕ) (s : Said) → Stands n s → (at : ℕ) (t : Text) → slice_get (names_said s) at ≡ Some t → NameAt n s at t
    name_at n s r at t h =
        let f = source text_in (gather (name_of text file) (forest_at n s)) at t (ap (λ l. slice_get l at) (names s n r) ∙ h) in
        record { found = f.found; is = nth_name-is text file at (forest_at n s) ∙ f.is; same = f.same }

  -- ---- names by their texts, and what stands behind one

  word_at : (n : ℕ) (t : Text) → token_text text (leaf_tree n t) ≡ Some t → (b : Bool) → is_name t ≡ b → name_text text (leaf_tree n t) ≡ (if b then Some t else None)
  unfolding name_text
  word_at n t e true h = rw (e, h) refl
  word_at n t e false h = rw (e, h) refl

  pub word_stands : (n : ℕ) (t : Text) (s : Said) → Stands n (token t s) → name_text text (leaf_tree n t) ≡ word_in t
  word_stands n t s r = word_at n t (token_stands n t s r) (is_name t) refl

  no_word : (start end : ℕ) → name_text text (tree kind.Ignored start end nothing) ≡ None
  unfolding name_text token_text is_kind
  no_word start end = refl

  listed : (b : Bool) (t : Text) (behind : List Text) → option_to_list (if b then Some t else None) ++ behind ≡ (if b then t ∷ behind else behind)
  listed true t behind = refl
  listed false t behind = refl

  texts : (s : Said) (n : ℕ) → Stands n s → gather (name_text text) (forest_at n s) ≡ names_said s
  texts over n r = refl
  texts (token t s) n r =
      ap (λ o. option_to_list o ++ gather (name_text text) (forest_at (n + length t) s)) (word_stands n t s r)
      ∙ listed (is_name t) t (gather (name_text text) (forest_at (n + length t) s))
      ∙ ap (λ l. if is_name t then t ∷ l else l) (texts s (n + length t) (past_token n t s r))
  texts (space t s) n r =
      ap (λ o. option_to_list o ++ gather (name_text text) (forest_at (n + length t) s)) (no_word n (n + length t)) ∙ texts s (n + length t) (past_space n t s r)
  texts (under k i s) n r =
      ap (λ o. option_to_list o ++ gather (name_text text) (forest_at (n + length (text_of i)) s)) (no_text text k 0 0 (forest_at n i) (no_token k r.lexes.0))
      ∙ texts s (n + length (text_of i)) (past_node n k i s r)

  pub text_at : (n : ℕ) (s : Said) → Stands n s → (at : ℕ) → nth_text text at (forest_at n s) ≡ slice_get (names_said s) at
  text_at n s r at = nth_text-is text at (forest_at n s) ∙ ap (λ l. slice_get l at) (texts s n r)

  pub record Behind (at n : ℕ) (s i : Said) : Type 0 where
    pub place : ℕ
    pub is : after_word text at (forest_at n s) ≡ forest_at place i
    pub stands : Stands place i

  passed : (t : Plain) (at : ℕ) (rest : Forest) → name_text text t ≡ None
      → (if is_some (name_text text t) then (if at == 0 then rest else after_word text (at - 1) rest) else after_word text at rest) ≡ after_word text at rest
  passed t at rest e = rw e refl

  pub stands_behind : (s : Said) (n at : ℕ) → Stands n s → Behind at n s (after_said at s)
  stands_behind over n at r = record { place = n; is = refl; stands = r }
  stands_behind (token t s) n at r =
      both (is_name t) refl (at == 0) refl (stands_behind s (n + length t) (at - 1) (past_token n t s r)) (stands_behind s (n + length t) at (past_token n t s r)) where
        rest : Forest
        rest = forest_at (n + length t) s

        step : (b c : Bool) → is_name t ≡ b → (at == 0) ≡ c
            → after_word text at (forest_at n (token t s)) ≡ (if b then (if c then forest_at (n + length t) s else after_word text (at - 1) (forest_at (n + length t) s)) else after_word text at (forest_at (n + length t) s))
        step true true e f = let w = word_stands n t s r in rw w (rw (e, f) refl)
        step true false e f = let w = word_stands n t s r in rw w (rw (e, f) refl)
        step false c e f = let w = word_stands n t s r in rw w (rw e refl)

        both : (b : Bool) → is_name t ≡ b → (c : Bool) → (at == 0) ≡ c → Behind (at - 1) (n + length t) s (after_said (at - 1) s) → Behind at (n + length t) s (after_said at s)
            → Behind at n (token t s) (if b then (if c then s else after_said (at - 1) s) else after_said at s)
        both true e true f one other = record { place = n + length t; is = step true true e f; stands = past_token n t s r }
        both true e false f one other = record { place = one.place; is = step true false e f ∙ one.is; stands = one.stands }
        both false e c f one other = record { place = other.place; is = step false c e f ∙ other.is; stands = other.stands }
  stands_behind (space t s) n at r =
      let b = stands_behind s (n + length t) at (past_space n t s r) in
      record { place = b.place; is = passed (tree kind.Ignored n (n + length t) nothing) at (forest_at (n + length t) s) (no_word n (n + length t)) ∙ b.is; stands = b.stands }
  stands_behind (under k i s) n at r =
      let b = stands_behind s (n + length (text_of i)) at (past_node n k i s r) in
      record {
        place = b.place;
        is = passed (tree k 0 0 (forest_at n i)) at (forest_at (n + length (text_of i)) s) (no_text text k 0 0 (forest_at n i) (no_token k r.lexes.0)) ∙ b.is;
        stands = b.stands;
      }

-- ---- what nodes stand for

pub record Found {T V : Type 0} (f : Plain → Option T) (says : T → V) (t : Plain) (v : V) : Type 0 where
  pub found : T
  pub is : f t ≡ Some found
  pub same : says found ≡ v

module _ {T V : Type 0} (text : Text) (f : Plain → Option T) (says : T → V) (k : SyntaxKind) where
  -- a node of the kind stands for v, wherever it stands
  abbrev pub Means : Said → V → Type 0
  Means i v = (n : ℕ) → Stands text n i → Found f says (tree k 0 0 (forest_at n i)) v

  abbrev pub AllMean : List Said → List V → Type 0
  AllMean [] [] = Unit {0}
  AllMean [] (v ∷ vs) = ⊥
  AllMean (i ∷ is) [] = ⊥
  AllMean (i ∷ is) (v ∷ vs) = Means i v × AllMean is vs

  -- other trees stand for nothing
  abbrev pub Only : Type 0
  Only = (t : Plain) → is_kind t.kind k ≡ false → f t ≡ None

  found_first : (t : Plain) (v : V) (vs : List V) (rest : List T) → Found f says t v → map says rest ≡ vs → map says (option_to_list (f t) ++ rest) ≡ v ∷ vs
  found_first t v vs rest m h = ap (λ o. map says (option_to_list o ++ rest)) m.is ∙ ap (λ w. w ∷ map says rest) m.same ∙ ap (λ l. v ∷ l) h

  none_first : (t : Plain) (vs : List V) (rest : List T) → f t ≡ None → map says rest ≡ vs → map says (option_to_list (f t) ++ rest) ≡ vs
  none_first t vs rest e h = ap (λ o. map says (option_to_list o ++ rest)) e ∙ h

  pub gathered : Only → part_of k ≡ node → (s : Said) (n : ℕ) → Stands text n s → (vs : List V) → AllMean (nodes_said k s) vs → map says (gather f (forest_at n s)) ≡ vs
  gathered o p over n r [] h = refl
  gathered o p over n r (v ∷ vs) h = absurd h
  gathered o p (token t s) n r vs h =
      none_first (tree kind.Token n (n + length t) nothing) vs (gather f (forest_at (n + length t) s)) (o (tree kind.Token n (n + length t) nothing) (token_apart k p))
      (gathered o p s (n + length t) (past_token text n t s r) vs h)
  gathered o p (space t s) n r vs h =
      none_first (tree kind.Ignored n (n + length t) nothing) vs (gather f (forest_at (n + length t) s)) (o (tree kind.Ignored n (n + length t) nothing) (ignored_apart k p))
      (gathered o p s (n + length t) (past_space text n t s r) vs h)
  gathered o p (under j i s) n r vs h =
      both (is_kind j k) refl vs h (gathered o p s (n + length (text_of i)) (past_node text n j i s r)) where
        at : ℕ
        at = n + length (text_of i)

        both : (b : Bool) → is_kind j k ≡ b → (vs : List V) → AllMean (if b then i ∷ nodes_said k s else nodes_said k s) vs
            → ((ws : List V) → AllMean (nodes_said k s) ws → map says (gather f (forest_at (n + length (text_of i)) s)) ≡ ws)
            → map says (gather f (forest_at n (under j i s))) ≡ vs
        both true e [] h more = absurd h
        both true e (v ∷ vs) h more =
            found_first (tree j 0 0 (forest_at n i)) v vs (gather f (forest_at (n + length (text_of i)) s))
            (subst (λ l. Found f says (tree l 0 0 (forest_at n i)) v) (sym (kind_is j k e)) (h.0 n (down text n j i s r))) (more vs h.1)
        both false e vs h more = none_first (tree j 0 0 (forest_at n i)) vs (gather f (forest_at (n + length (text_of i)) s)) (o (tree j 0 0 (forest_at n i)) e) (more vs h)

  -- the nodes within the first node of another kind
  pub inside_gathered : Only → part_of k ≡ node → (outer : SyntaxKind) → part_of outer ≡ node → (s : Said) (n : ℕ) → Stands text n s → (vs : List V)
      → AllMean (nodes_said k (inside_said outer s)) vs → map says (gather f (inside outer (forest_at n s))) ≡ vs
  inside_gathered o p outer q s n r vs h =
      let w = within text outer q s n r in
      ap (λ l. map says (gather f l)) w.is ∙ gathered o p (inside_said outer s) w.place w.stands vs h

  -- the first of what they stand for
  pub record First (row : Forest) (v : V) : Type 0 where
    pub found : T
    pub is : first f row ≡ Some found
    pub same : says found ≡ v

  head_same : (xs : List T) (x : T) (v : V) → map says (x ∷ xs) ≡ v ∷ [] → says x ≡ v
  head_same xs x v h = cc

  head_of : (xs : List T) (v : V) → map says xs ≡ v ∷ [] → (found : T) × (head xs ≡ Some found) × (says found ≡ v)
  head_of [] v h = absurd (cc)
  head_of (x ∷ xs) v h = (x, refl, head_same xs x v h)

  pub first_of : (row : Forest) (v : V) → map says (gather f row) ≡ v ∷ [] → First row v
  first_of row v h = let r = head_of (gather f row) v h in record { found = r.0; is = r.1; same = r.2 }
