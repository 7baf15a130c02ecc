-- Values are blind to ignored tokens.
use Rattle.std.proofs.Common.{◌≡◌, ℕ, ◌++◌, option_to_list, Some, refl, ◌∙◌, sym, ap}
use Rattle.std.specs.Prelude.{option_and_then}
use Rattle.std.specs.Option.{option_map}
use Rattle.gql_source.specs.declared.file_id.FileId.{FileId}
use Rattle.gql_grammar.specs.declared.syntax_kind.SyntaxKind.{SyntaxKind}
use Rattle.gql_grammar.specs.declared.syntax_kind.SyntaxKind.TheVariants as kind
use Rattle.gql_cst.specs.Forest.{Forest, nothing, tree_then}
use Rattle.gql_cst.specs.Bare.{bare, TokensEnd}
use Rattle.gql_ast_base.specs.declared.value.ValueKind.{List as ListKind, Object as ObjectKind}
use Rattle.gql_ast_base.specs.declared.value.ValueKind.TheVariants.{Variable, Boolean, Enum}
use Rattle.gql_ast_base.specs.Values.{literal, truth, simple_content, content_step, member_step, value_step, values, contents, members, value_of}
use Rattle.gql_ast_base.specs.bridge.Values.{content_of, member_of}
use Rattle.gql_ast_base.specs.Parts.{Text, gather}
use Rattle.gql_ast_laws.proofs.Blind.{EndsAt, BlindAt, Blind, none_at, token_at, choice_at}
use Rattle.gql_ast_laws.proofs.Gathered.{gather_then}
use Rattle.gql_ast_laws.proofs.Named.{token_text-at, nth_text-bare, nth_name-bare}
use Rattle.gql_ast_laws.proofs.Places.{location_bare}

module _ (text : Text) (file : FileId) where
  simple-at : (k : SyntaxKind) (start end : ℕ) (children : Forest) → EndsAt k children → BlindAt (simple_content text file) k start end children
  unfolding simple_content
  simple-at k start end children h =
      token_at _ _ (ap (λ o. option_and_then literal o) ((token_text-at text kind.Token start end children).as_word refl))
      (choice_at _ _ kind.Variable refl h (λ i. ap (λ o. option_map Variable o) (nth_name-bare text file 0 children i))
      (choice_at _ _ kind.BooleanValue refl h (λ i. ap (λ o. option_map Boolean (option_and_then truth o)) (nth_text-bare text 0 children i))
      (choice_at _ _ kind.NullValue refl h (λ i. refl)
      (choice_at _ _ kind.EnumValue refl h (λ i. ap (λ o. option_map Enum o) (nth_name-bare text file 0 children i)) none_at))))

  content-at : (k : SyntaxKind) (start end : ℕ) (children : Forest) → EndsAt k children
      → (TokensEnd children → values text file (bare children) ≡ values text file children)
      → (TokensEnd children → members text file (bare children) ≡ members text file children)
      → BlindAt (content_of text file) k start end children
  unfolding content_step
  content-at k start end children h v m =
      choice_at _ _ kind.ListValue refl h (λ i. ap (λ l. Some (ListKind l)) (v i))
      (choice_at _ _ kind.ObjectValue refl h (λ i. ap (λ l. Some (ObjectKind l)) (m i)) (simple-at k start end children h))

  member-at : (k : SyntaxKind) (start end : ℕ) (children : Forest) → EndsAt k children
      → (TokensEnd children → values text file (bare children) ≡ values text file children)
      → BlindAt (member_of text file) k start end children
  unfolding member_step
  member-at k start end children h v =
      choice_at _ _ kind.ObjectField refl h (λ i. rw (nth_name-bare text file 0 children i, v i) refl) none_at

  value-at : (k : SyntaxKind) (start end : ℕ) (children : Forest) → EndsAt k children
      → (TokensEnd children → contents text file (bare children) ≡ contents text file children)
      → BlindAt (value_of text file) k start end children
  unfolding value_step
  value-at k start end children h c =
      choice_at _ _ kind.Value refl h (λ i. rw (location_bare file kind.Value start end children refl i, c i) refl) none_at

  values_are : (row : Forest) → values text file row ≡ gather (value_of text file) row
  values_are nothing = refl
  values_are (tree_then k start end children rest) = ap (λ l. option_to_list (value_of text file (record { kind = k; start = start; end = end; children = children })) ++ l) (values_are rest)

  contents_are : (row : Forest) → contents text file row ≡ gather (content_of text file) row
  contents_are nothing = refl
  contents_are (tree_then k start end children rest) = ap (λ l. option_to_list (content_of text file (record { kind = k; start = start; end = end; children = children })) ++ l) (contents_are rest)

  members_are : (row : Forest) → members text file row ≡ gather (member_of text file) row
  members_are nothing = refl
  members_are (tree_then k start end children rest) = ap (λ l. option_to_list (member_of text file (record { kind = k; start = start; end = end; children = children })) ++ l) (members_are rest)

  record Same (row : Forest) : Type 0 where
    values_same : values text file (bare row) ≡ values text file row
    contents_same : contents text file (bare row) ≡ contents text file row
    members_same : members text file (bare row) ≡ members text file row

  same : (row : Forest) → TokensEnd row → Same row
  same nothing h = record { values_same = refl; contents_same = refl; members_same = refl }
  same (tree_then k start end children rest) h =
      let below = same children in
      let behind = same rest h.1 in
      let row = tree_then k start end children rest in
      record {
        values_same = values_are (bare row)
            ∙ gather_then k start end children rest (value-at k start end children h.0 (λ i. (below i).contents_same)) (sym (values_are (bare rest)) ∙ behind.values_same ∙ values_are rest)
            ∙ sym (values_are row);
        contents_same = contents_are (bare row)
            ∙ gather_then k start end children rest (content-at k start end children h.0 (λ i. (below i).values_same) (λ i. (below i).members_same)) (sym (contents_are (bare rest)) ∙ behind.contents_same ∙ contents_are rest)
            ∙ sym (contents_are row);
        members_same = members_are (bare row)
            ∙ gather_then k start end children rest (member-at k start end children h.0 (λ i. (below i).values_same)) (sym (members_are (bare rest)) ∙ behind.members_same ∙ members_are rest)
            ∙ sym (members_are row);
      }

  pub value-blind : Blind (value_of text file)
  value-blind = record { at = λ k start end children h. value-at k start end children h (λ i. (same children i).contents_same) }
