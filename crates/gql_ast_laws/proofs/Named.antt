-- The names among the tokens of a row.
use Rattle.std.proofs.Common.{◌≡◌, ℕ, zero, suc, false, ◌++◌, option_to_list, Option, Some, None, refl, ◌∙◌, sym, ap}
use Rattle.std.specs.Prelude.{option_and_then, slice_get}
use Rattle.std.specs.Option.{option_map}
use Rattle.gql_source.specs.declared.file_id.FileId.{FileId}
use Rattle.gql_grammar.specs.declared.syntax_kind.SyntaxKind.{SyntaxKind}
use Rattle.gql_grammar.specs.declared.syntax_kind.SyntaxKind.TheVariants.{Token}
use Rattle.gql_cst.specs.Forest.{Forest, Plain, nothing, tree_then}
use Rattle.gql_cst.specs.Bare.{bare, TokensEnd}
use Rattle.gql_ast_base.specs.Names.{Named}
use Rattle.gql_ast_base.specs.Kinds.{is_kind}
use Rattle.gql_ast_base.specs.Parts.{Text, gather, location, token_text, word as name_text, name_of, word_leaf, nth_text, nth_name, nth_word}
use Rattle.gql_ast_laws.proofs.TokenKinds.{is_word_part, token_kind, word_is_token}
use Rattle.gql_ast_laws.proofs.Blind.{tree, BlindAt, Blind, none_at, token_at, then_at}
use Rattle.gql_ast_laws.proofs.Gathered.{gather_blind}
use Rattle.gql_ast_laws.proofs.Places.{location_token}

pub token_text-at : (text : Text) (kind : SyntaxKind) (start end : ℕ) (children : Forest) → BlindAt (token_text text) kind start end children
unfolding token_text
token_text-at text kind start end children = token_at _ _ refl none_at

pub name_text-at : (text : Text) (kind : SyntaxKind) (start end : ℕ) (children : Forest) → BlindAt (name_text text) kind start end children
unfolding name_text
name_text-at text kind start end children = then_at _ (token_text-at text kind start end children)

pub no_text : (text : Text) (kind : SyntaxKind) (start end : ℕ) (children : Forest) → is_kind kind Token ≡ false → name_text text (tree kind start end children) ≡ None
unfolding name_text token_text
no_text text kind start end children h = rw h refl

no_name : (text : Text) (file : FileId) (kind : SyntaxKind) (start end : ℕ) (children : Forest) → is_kind kind Token ≡ false → name_of text file (tree kind start end children) ≡ None
unfolding name_of
no_name text file kind start end children h = rw (no_text text kind start end children h) refl

name_token : (text : Text) (file : FileId) (kind : SyntaxKind) (start end : ℕ) (children : Forest) → Token ≡ kind
    → name_of text file (tree kind start end nothing) ≡ name_of text file (tree kind start end children)
unfolding name_of
name_token text file kind start end children h =
    rw (← h) (rw ((name_text-at text Token start end children).as_word refl, location_token file start end children) refl)

pub name_of-blind : (text : Text) (file : FileId) → Blind (name_of text file)
name_of-blind text file = record {
  at = λ kind start end children h. record {
    as_node = λ p. let none : is_kind kind Token ≡ false = token_kind kind ∙ ap is_word_part p in
        no_name text file kind 0 0 (bare children) none ∙ sym (no_name text file kind start end children none);
    as_word = λ p. name_token text file kind start end children (word_is_token kind p);
    as_ignored = λ p. no_name text file kind start end children (token_kind kind ∙ ap is_word_part p);
  };
}

pub name_text-blind : (text : Text) → Blind (name_text text)
name_text-blind text = record { at = λ kind start end children h. name_text-at text kind start end children }

-- what is made of the nth name is the nth of what is made of them
nth_step : {T : Type 0} (text : Text) (f : Plain → Option T) (g : Text → T) (t : Plain) (rest : Forest) (o : Option Text) (n : ℕ) → name_text text t ≡ o → f t ≡ option_map g o
    → ((m : ℕ) → option_and_then f (slice_get (gather (word_leaf text) rest) m) ≡ slice_get (gather f rest) m)
    → option_and_then f (slice_get (option_to_list (word_leaf text t) ++ gather (word_leaf text) rest) n) ≡ slice_get (option_to_list (f t) ++ gather f rest) n
nth_step text f g t rest None n h e r = rw (h, e) (r n)
nth_step text f g t rest (Some x) zero h e r = rw h (e ∙ sym (ap (λ l. slice_get l 0) (ap (λ o. option_to_list o ++ gather f rest) e)))
nth_step text f g t rest (Some x) (suc n) h e r = rw (h, e) (r n)

nth_is : {T : Type 0} (text : Text) (f : Plain → Option T) (g : Plain → Text → T) → ((t : Plain) → f t ≡ option_map (g t) (name_text text t))
    → (row : Forest) (n : ℕ) → option_and_then f (nth_word text n row) ≡ slice_get (gather f row) n
nth_is text f g e nothing n = refl
nth_is text f g e (tree_then kind start end children rest) n =
    let t = tree kind start end children in
    nth_step text f (g t) t rest (name_text text t) n refl (e t) (nth_is text f g e rest)

map_same : {T : Type 0} (o : Option T) → o ≡ option_map (λ x. x) o
map_same None = refl
map_same (Some x) = refl

pub nth_text-is : (text : Text) (n : ℕ) (row : Forest) → nth_text text n row ≡ slice_get (gather (name_text text) row) n
nth_text-is text n row = nth_is text (name_text text) (λ t x. x) (λ t. map_same (name_text text t)) row n

pub nth_text-bare : (text : Text) (n : ℕ) (row : Forest) → TokensEnd row → nth_text text n (bare row) ≡ nth_text text n row
nth_text-bare text n row h =
    nth_is text (name_text text) (λ t x. x) (λ t. map_same (name_text text t)) (bare row) n
    ∙ ap (λ l. slice_get l n) (gather_blind (name_text-blind text) row h)
    ∙ sym (nth_is text (name_text text) (λ t x. x) (λ t. map_same (name_text text t)) row n)

named : FileId → Plain → Text → Named
named file t x = record { text = x; location = location file t }

name_is : (text : Text) (file : FileId) (t : Plain) → name_of text file t ≡ option_map (named file t) (name_text text t)
unfolding name_of named
name_is text file t = refl

pub nth_name-bare : (text : Text) (file : FileId) (n : ℕ) (row : Forest) → TokensEnd row → nth_name text file n (bare row) ≡ nth_name text file n row
unfolding nth_name
nth_name-bare text file n row h =
    nth_is text (name_of text file) (named file) (name_is text file) (bare row) n
    ∙ ap (λ l. slice_get l n) (gather_blind (name_of-blind text file) row h)
    ∙ sym (nth_is text (name_of text file) (named file) (name_is text file) row n)

pub nth_name-is : (text : Text) (file : FileId) (n : ℕ) (row : Forest) → nth_name text file n row ≡ slice_get (gather (name_of text file) row) n
unfolding nth_name
nth_name-is text file n row = nth_is text (name_of text file) (named file) (name_is text file) row n
