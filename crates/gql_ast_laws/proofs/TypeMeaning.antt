-- References to types are blind to ignored tokens.
use Rattle.std.proofs.Common.{◌≡◌, ℕ, ◌++◌, option_to_list, refl, ◌∙◌, sym, ap}
use Rattle.std.specs.Option.{option_map}
use Rattle.gql_source.specs.declared.file_id.FileId.{FileId}
use Rattle.gql_grammar.specs.declared.syntax_kind.SyntaxKind.{SyntaxKind}
use Rattle.gql_grammar.specs.declared.syntax_kind.SyntaxKind.TheVariants as kind
use Rattle.gql_cst.specs.Forest.{Forest, nothing, tree_then}
use Rattle.gql_cst.specs.Bare.{bare, TokensEnd}
use Rattle.gql_ast_base.specs.declared.type_ref.TypeRef.{List as ListOf}
use Rattle.gql_ast_base.specs.declared.type_ref.TypeRef.TheVariants.{Named as NamedType}
use Rattle.gql_ast_base.specs.Parts.{Text, head, gather, nth_name}
use Rattle.gql_ast_base.specs.Types.{non_null, form_step, type_step, types, forms, type_of}
use Rattle.gql_ast_base.specs.bridge.Types.{form_of}
use Rattle.gql_ast_base.specs.NamedTypes.{named_type_in, named_type_of}
use Rattle.gql_ast_laws.proofs.Blind.{EndsAt, BlindAt, Blind, none_at, choice_at}
use Rattle.gql_ast_laws.proofs.Gathered.{gather_then}
use Rattle.gql_ast_laws.proofs.Inner.{inside_same}
use Rattle.gql_ast_laws.proofs.Named.{nth_name-bare}

module _ (text : Text) (file : FileId) where
  pub named_type_in-bare : (row : Forest) → TokensEnd row → named_type_in text file (bare row) ≡ named_type_in text file row
  unfolding named_type_in
  named_type_in-bare row h = inside_same (nth_name text file 0) (nth_name-bare text file 0) kind.NamedType refl row h

  pub named_type-blind : Blind (named_type_of text file)
  unfolding named_type_of
  named_type-blind = record { at = λ k start end children h. choice_at _ _ kind.NamedType refl h (nth_name-bare text file 0 children) none_at }

  form-at : (k : SyntaxKind) (start end : ℕ) (children : Forest) → EndsAt k children
      → (TokensEnd children → types text file (bare children) ≡ types text file children)
      → (TokensEnd children → forms text file (bare children) ≡ forms text file children)
      → BlindAt (form_of text file) k start end children
  unfolding form_step
  form-at k start end children h t f =
      choice_at _ _ kind.NamedType refl h (λ i. ap (λ o. option_map NamedType o) (nth_name-bare text file 0 children i))
      (choice_at _ _ kind.ListType refl h (λ i. ap (λ l. option_map ListOf (head l)) (t i))
      (choice_at _ _ kind.NonNullType refl h (λ i. ap (λ l. option_map non_null (head l)) (f i)) none_at))

  type-at : (k : SyntaxKind) (start end : ℕ) (children : Forest) → EndsAt k children
      → (TokensEnd children → forms text file (bare children) ≡ forms text file children)
      → BlindAt (type_of text file) k start end children
  unfolding type_step
  type-at k start end children h f = choice_at _ _ kind.TypeReference refl h (λ i. ap head (f i)) none_at

  types_are : (row : Forest) → types text file row ≡ gather (type_of text file) row
  types_are nothing = refl
  types_are (tree_then k start end children rest) = ap (λ l. option_to_list (type_of text file (record { kind = k; start = start; end = end; children = children })) ++ l) (types_are rest)

  forms_are : (row : Forest) → forms text file row ≡ gather (form_of text file) row
  forms_are nothing = refl
  forms_are (tree_then k start end children rest) = ap (λ l. option_to_list (form_of text file (record { kind = k; start = start; end = end; children = children })) ++ l) (forms_are rest)

  record Same (row : Forest) : Type 0 where
    types_same : types text file (bare row) ≡ types text file row
    forms_same : forms text file (bare row) ≡ forms text file row

  same : (row : Forest) → TokensEnd row → Same row
  same nothing h = record { types_same = refl; forms_same = refl }
  same (tree_then k start end children rest) h =
      let below = same children in
      let behind = same rest h.1 in
      let row = tree_then k start end children rest in
      record {
        types_same = types_are (bare row)
            ∙ gather_then k start end children rest (type-at k start end children h.0 (λ i. (below i).forms_same)) (sym (types_are (bare rest)) ∙ behind.types_same ∙ types_are rest)
            ∙ sym (types_are row);
        forms_same = forms_are (bare row)
            ∙ gather_then k start end children rest (form-at k start end children h.0 (λ i. (below i).types_same) (λ i. (below i).forms_same)) (sym (forms_are (bare rest)) ∙ behind.forms_same ∙ forms_are rest)
            ∙ sym (forms_are row);
      }

  pub type-blind : Blind (type_of text file)
  type-blind = record { at = λ k start end children h. type-at k start end children h (λ i. (same children i).forms_same) }
