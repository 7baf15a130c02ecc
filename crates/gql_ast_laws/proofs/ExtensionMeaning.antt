-- Extensions are blind to ignored tokens.
use Rattle.std.proofs.Common.{◌≡◌, ℕ, Bool, true, false, ◌&&◌, if◌then◌else◌, Option, None, refl, ◌∙◌, sym, ap}
use Rattle.std.specs.Prelude.{codes}
use Rattle.gql_source.specs.declared.file_id.FileId.{FileId}
use Rattle.gql_grammar.specs.declared.syntax_kind.SyntaxKind.{SyntaxKind}
use Rattle.gql_grammar.specs.declared.syntax_kind.SyntaxKind.TheVariants as kind
use Rattle.gql_cst.specs.Forest.{Forest, Plain}
use Rattle.gql_cst.specs.Bare.{bare, TokensEnd}
use Rattle.gql_ast_base.specs.Kinds.{is_kind}
use Rattle.gql_ast.specs.Extensions.{extends, schema_extension_of, scalar_extension_of, object_extension_of, interface_extension_of, union_extension_of, enum_extension_of, input_object_extension_of}
use Rattle.gql_ast_base.specs.Parts.{Text, is_word, nth_text}
use Rattle.gql_ast_laws.proofs.Blind.{tree, EndsAt, BlindAt, Blind, none_at, choice_at}
use Rattle.gql_ast_laws.proofs.Named.{nth_text-bare, nth_name-bare}
use Rattle.gql_ast_laws.proofs.Places.{location_bare}
use Rattle.gql_ast_laws.proofs.DirectiveMeaning.{directives-bare}
use Rattle.gql_ast_laws.proofs.FieldMeaning.{fields-bare, input_fields-bare, enum_values-bare}
use Rattle.gql_ast_laws.proofs.DefinitionMeaning.{interfaces-bare, members-bare}
use Rattle.gql_ast_laws.proofs.SchemaMeaning.{root_operations-bare}

-- what is blind is so under any other name
same_at : {T : Type 0} (f g : Plain → Option T) {k : SyntaxKind} {start end : ℕ} {children : Forest} → ((t : Plain) → f t ≡ g t) → BlindAt g k start end children → BlindAt f k start end children
same_at f g e b = record {
  as_node = λ h. e _ ∙ b.as_node h ∙ sym (e _);
  as_word = λ h. e _ ∙ b.as_word h ∙ sym (e _);
  as_ignored = λ h. e _ ∙ b.as_ignored h;
}

split : {T : Type 0} (a b : Bool) (o : Option T) → (if a && b then o else None) ≡ (if a then (if b then o else None) else None)
split true b o = refl
split false b o = refl

-- of an extension whose second word is this one f tells, and nothing of any other tree
extends_at : {T : Type 0} (f : Plain → Option T) (text found : Text) (k : SyntaxKind) (start end : ℕ) (children : Forest) → EndsAt k children
    → (TokensEnd children → f (tree kind.Extension 0 0 (bare children)) ≡ f (tree kind.Extension start end children))
    → BlindAt (λ t. if extends text found t then f t else None) k start end children
unfolding extends
extends_at f text found k start end children h inner =
    same_at (λ t. if is_kind t.kind kind.Extension && is_word (nth_text text 1 t.children) found then f t else None)
    (λ t. if is_kind t.kind kind.Extension then (if is_word (nth_text text 1 t.children) found then f t else None) else None)
    (λ t. split (is_kind t.kind kind.Extension) (is_word (nth_text text 1 t.children) found) (f t))
    (choice_at (λ t. if is_word (nth_text text 1 t.children) found then f t else None) (λ t. None) kind.Extension refl h
    (λ i. ap (λ o. if is_word o found then f (tree kind.Extension 0 0 (bare children)) else None) (nth_text-bare text 1 children i)
    ∙ ap (λ o. if is_word (nth_text text 1 children) found then o else None) (inner i)) none_at)

module _ (text : Text) (file : FileId) where
  pub schema-blind : Blind (schema_extension_of text file)
  unfolding schema_extension_of
  schema-blind = record {
    at = λ k start end children h. extends_at _ text (codes "schema") k start end children h
        (λ i. rw (directives-bare text file children i, root_operations-bare text file children i, location_bare file kind.Extension start end children refl i) refl);
  }

  pub scalar-blind : Blind (scalar_extension_of text file)
  unfolding scalar_extension_of
  scalar-blind = record {
    at = λ k start end children h. extends_at _ text (codes "scalar") k start end children h
        (λ i. rw (nth_name-bare text file 2 children i, directives-bare text file children i, location_bare file kind.Extension start end children refl i) refl);
  }

  pub object-blind : Blind (object_extension_of text file)
  unfolding object_extension_of
  object-blind = record {
    at = λ k start end children h. extends_at _ text (codes "type") k start end children h
        (λ i. rw (nth_name-bare text file 2 children i, interfaces-bare text file children i, directives-bare text file children i, fields-bare text file children i, location_bare file kind.Extension start end children refl i) refl);
  }

  pub interface-blind : Blind (interface_extension_of text file)
  unfolding interface_extension_of
  interface-blind = record {
    at = λ k start end children h. extends_at _ text (codes "interface") k start end children h
        (λ i. rw (nth_name-bare text file 2 children i, interfaces-bare text file children i, directives-bare text file children i, fields-bare text file children i, location_bare file kind.Extension start end children refl i) refl);
  }

  pub union-blind : Blind (union_extension_of text file)
  unfolding union_extension_of
  union-blind = record {
    at = λ k start end children h. extends_at _ text (codes "union") k start end children h
        (λ i. rw (nth_name-bare text file 2 children i, directives-bare text file children i, members-bare text file children i, location_bare file kind.Extension start end children refl i) refl);
  }

  pub enum-blind : Blind (enum_extension_of text file)
  unfolding enum_extension_of
  enum-blind = record {
    at = λ k start end children h. extends_at _ text (codes "enum") k start end children h
        (λ i. rw (nth_name-bare text file 2 children i, directives-bare text file children i, enum_values-bare text file children i, location_bare file kind.Extension start end children refl i) refl);
  }

  pub input_object-blind : Blind (input_object_extension_of text file)
  unfolding input_object_extension_of
  input_object-blind = record {
    at = λ k start end children h. extends_at _ text (codes "input") k start end children h
        (λ i. rw (nth_name-bare text file 2 children i, directives-bare text file children i, input_fields-bare text file children i, location_bare file kind.Extension start end children refl i) refl);
  }
