-- Definitions of schemas and directives are blind to ignored tokens.
use Rattle.std.proofs.Common.{◌≡◌, ℕ, ◌-◌, Bool, true, false, if◌then◌else◌, None, refl, ◌∙◌, sym, ap}
use Rattle.std.specs.Prelude.{◌==◌, is_some}
use Rattle.gql_source.specs.declared.file_id.FileId.{FileId}
use Rattle.gql_grammar.specs.declared.syntax_kind.SyntaxKind.{SyntaxKind}
use Rattle.gql_grammar.specs.declared.syntax_kind.SyntaxKind.TheVariants as kind
use Rattle.gql_cst.specs.Forest.{Forest, nothing, tree_then}
use Rattle.gql_cst.specs.Leaves.{Part, word, ignored, node, part_of}
use Rattle.gql_cst.specs.Bare.{bare_then, bare, TokensEnd}
use Rattle.gql_ast_base.specs.Kinds.{is_kind}
use Rattle.gql_ast_base.specs.Parts.{Text, gather, word as name_text, after_word}
use Rattle.gql_ast.specs.Schemas.{location_word, directive_location_of, directive_locations, root_operations, schema_of, directive_definition_of}
use Rattle.gql_ast_base.specs.OperationTypes.{root_operation_of}
use Rattle.gql_ast_laws.proofs.TokenKinds.{is_word_part, token_kind}
use Rattle.gql_ast_laws.proofs.Blind.{tree, Blind, none_at, choice_at, then_at}
use Rattle.gql_ast_laws.proofs.Gathered.{gather_blind}
use Rattle.gql_ast_laws.proofs.Named.{name_text-at, no_text, nth_text-bare, nth_name-bare}
use Rattle.gql_ast_laws.proofs.Places.{location_bare}
use Rattle.gql_ast_laws.proofs.TypeMeaning.{named_type_in-bare}
use Rattle.gql_ast_laws.proofs.DirectiveMeaning.{description-bare, directives-bare}
use Rattle.gql_ast_laws.proofs.OperationMeaning.{operation_type-bare}
use Rattle.gql_ast_laws.proofs.FieldMeaning.{argument_definitions-bare}

-- ---- the trees after a name

passed : (text : Text) (n : ℕ) (k : SyntaxKind) (start end : ℕ) (children rest : Forest) → name_text text (tree k start end children) ≡ None
    → after_word text n (tree_then k start end children rest) ≡ after_word text n rest
passed text n k start end children rest e = rw e refl

chosen : (a b : Bool) (x x2 y y2 z z2 : Forest) → x ≡ bare x2 → y ≡ bare y2 → z ≡ bare z2
    → (if a then (if b then x else y) else z) ≡ bare (if a then (if b then x2 else y2) else z2)
chosen true true x x2 y y2 z z2 p q r = p
chosen true false x x2 y y2 z z2 p q r = q
chosen false b x x2 y y2 z z2 p q r = r

met : (text : Text) (n : ℕ) (k : SyntaxKind) (start end : ℕ) (children other rest after : Forest) → name_text text (tree k start end other) ≡ name_text text (tree k start end children)
    → after ≡ bare rest → ((m : ℕ) → after_word text m after ≡ bare (after_word text m rest))
    → after_word text n (tree_then k start end other after) ≡ bare (after_word text n (tree_then k start end children rest))
met text n k start end children other rest after e a r =
    rw e (chosen (is_some (name_text text (tree k start end children))) (n == 0) after rest (after_word text (n - 1) after) (after_word text (n - 1) rest) (after_word text n after) (after_word text n rest) a (r (n - 1)) (r n))

after_word_then : (text : Text) (n : ℕ) (part : Part) (k : SyntaxKind) (start end : ℕ) (children rest : Forest) → is_kind k kind.Token ≡ is_word_part part
    → (part ≡ word → name_text text (tree k start end nothing) ≡ name_text text (tree k start end children))
    → ((m : ℕ) → after_word text m (bare rest) ≡ bare (after_word text m rest))
    → after_word text n (bare_then part k start end (bare children) (bare rest)) ≡ bare (after_word text n (tree_then k start end children rest))
after_word_then text n word k start end children rest e w r = met text n k start end children nothing rest (bare rest) (w refl) refl r
after_word_then text n ignored k start end children rest e w r = r n ∙ sym (ap bare (passed text n k start end children rest (no_text text k start end children e)))
after_word_then text n node k start end children rest e w r =
    passed text n k 0 0 (bare children) (bare rest) (no_text text k 0 0 (bare children) e) ∙ r n
    ∙ sym (ap bare (passed text n k start end children rest (no_text text k start end children e)))

after_word_bare : (text : Text) (row : Forest) (n : ℕ) → after_word text n (bare row) ≡ bare (after_word text n row)
after_word_bare text nothing n = refl
after_word_bare text (tree_then k start end children rest) n =
    after_word_then text n (part_of k) k start end children rest (token_kind k) (name_text-at text k start end children).as_word (after_word_bare text rest)

chosen_ends : (a b : Bool) (x y z : Forest) → TokensEnd x → TokensEnd y → TokensEnd z → TokensEnd (if a then (if b then x else y) else z)
chosen_ends true true x y z p q r = p
chosen_ends true false x y z p q r = q
chosen_ends false b x y z p q r = r

after_word_ends : (text : Text) (row : Forest) (n : ℕ) → TokensEnd row → TokensEnd (after_word text n row)
after_word_ends text nothing n h = tt
after_word_ends text (tree_then k start end children rest) n h =
    chosen_ends (is_some (name_text text (tree k start end children))) (n == 0) rest (after_word text (n - 1) rest) (after_word text n rest)
    h.1 (after_word_ends text rest (n - 1) h.1) (after_word_ends text rest n h.1)

-- ---- the places of a directive

location-blind : (text : Text) → Blind (directive_location_of text)
unfolding directive_location_of
location-blind text = record { at = λ k start end children h. then_at location_word (name_text-at text k start end children) }

locations-bare : (text : Text) (row : Forest) → TokensEnd row → directive_locations text (bare row) ≡ directive_locations text row
unfolding directive_locations
locations-bare text row h =
    ap (λ f. gather (directive_location_of text) f) (after_word_bare text row 1)
    ∙ gather_blind (location-blind text) (after_word text 1 row) (after_word_ends text row 1 h)

module _ (text : Text) (file : FileId) where
  root_operation-blind : Blind (root_operation_of text file)
  unfolding root_operation_of
  root_operation-blind = record {
    at = λ k start end children h. choice_at _ _ kind.RootOperationTypeDefinition refl h
        (λ i. rw (named_type_in-bare text file children i, operation_type-bare text children i) refl) none_at;
  }

  pub root_operations-bare : (row : Forest) → TokensEnd row → root_operations text file (bare row) ≡ root_operations text file row
  unfolding root_operations
  root_operations-bare row h = gather_blind root_operation-blind row h

  pub schema-blind : Blind (schema_of text file)
  unfolding schema_of
  schema-blind = record {
    at = λ k start end children h. choice_at _ _ kind.SchemaDefinition refl h
        (λ i. rw (description-bare text children i, directives-bare text file children i, root_operations-bare children i, location_bare file kind.SchemaDefinition start end children refl i) refl) none_at;
  }

  pub directive_definition-blind : Blind (directive_definition_of text file)
  unfolding directive_definition_of
  directive_definition-blind = record {
    at = λ k start end children h. choice_at _ _ kind.DirectiveDefinition refl h
        (λ i. rw (nth_name-bare text file 1 children i, description-bare text children i, argument_definitions-bare text file children i, nth_text-bare text 2 children i, locations-bare text children i, location_bare file kind.DirectiveDefinition start end children refl i) refl) none_at;
  }
