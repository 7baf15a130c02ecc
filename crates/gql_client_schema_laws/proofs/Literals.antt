-- Where nothing is wrong with a literal, nothing is with the same literal in a schema that is told again.
use Rattle.std.proofs.Common.{◌≡◌, ℕ, Option, Some, None, List, [], ◌∷◌, map, refl, sym, ap, ◌∙◌}
use Rattle.std.specs.Prelude.{option_and_then}
use Rattle.std.specs.List.{flat_map}
use Rattle.std.specs.Option.{option_map, option_map_or}
use Rattle.gql_ast_base.specs.Names.{Named}
use Rattle.gql_ast_base.specs.TypeParts.{named_type, item_type}
use Rattle.gql_ast_base.specs.declared.type_ref.TypeRef.{TypeRef}
use Rattle.gql_ast_base.specs.declared.value.Value.{Value}
use Rattle.gql_ast_base.specs.declared.value.ValueKind.TheOpen.{ValueKind-F}
use Rattle.gql_ast.specs.declared.field_definition.InputValueDefinition.{InputValueDefinition}
use Rattle.gql_ast_laws.specs.Printed.{unplaced}
use Rattle.gql_diag_messages.specs.declared.diagnostic_data.DiagnosticData.{DiagnosticData}
use Rattle.gql_print_laws.specs.Literal as lit
use Rattle.gql_print_laws.specs.Literal.{Literal, Literals, no_literal, literal_then, Pairs, no_pair, pair_then, literals_of, pairs_of, literal_in}
use Rattle.gql_rules_values.specs.Known.{is_known}
use Rattle.gql_rules_values.specs.Literals.{at_type, at_defined, node_faults, literal_faults}
use Rattle.gql_rules_values.specs.Typed.{Typed, field_type, member_type}
use Rattle.gql_rules_values.specs.UndefinedInputValue.{input_name}
use Rattle.gql_rules_values.specs.UniqueInputValue.{unique_keys}
use Rattle.gql_rules_values.specs.declared.known.Defined.TheVariants.{TypesAndScalars}
use Rattle.gql_rules_values.proofs.Nodes.{at-List, at-Object, at-Null, at-Variable, at-Int, at-Float, at-String, at-Boolean, at-Enum}
use Rattle.gql_client_schema_laws.specs.Pairs.{Paired}
use Rattle.gql_client_schema_laws.specs.bridge.Pairs.{Both}
use Rattle.gql_client_schema_laws.specs.Retold.{IsRetoldInputField, IsRetoldType}
use Rattle.gql_client_schema_laws.proofs.Found.{by_kind, found_as, known_alike}
use Rattle.gql_client_schema_laws.proofs.Tops.{top_of, kind_is, seen}
use Rattle.gql_client_schema_laws.proofs.Pairs.{joined_alike, if_alike}
use Rattle.gql_client_schema_laws.proofs.References.{item_alike, name_alike}
use Rattle.gql_client_schema_laws.proofs.ValueRules.{input_found, at_type_alike, unique_alike}
use Rattle.gql_schema_types.specs.Entries.{entry}
use Rattle.gql_schema_types.specs.Types.{type_called}
use Rattle.gql_schema_types.specs.declared.types.ExtendedType.{ExtendedType}

-- the same type is wanted, or none
abbrev pub SameWanted : Option TypeRef → Option TypeRef → Type 0
SameWanted ty again = option_map unplaced ty ≡ option_map unplaced again

same_items : (ty again : Option TypeRef) → SameWanted ty again → SameWanted (option_and_then item_type ty) (option_and_then item_type again)
same_items None None same = refl
same_items (Some ty) (Some again) same = let is : unplaced ty ≡ unplaced again = cc in item_alike ty again is
same_items None (Some again) same = absurd cc
same_items (Some ty) None same = absurd cc

both_types : (o p : Option InputValueDefinition) → Both IsRetoldInputField o p
    → SameWanted (option_map (λ (field : InputValueDefinition). field.ty) o) (option_map (λ (field : InputValueDefinition). field.ty) p)
both_types None None both = refl
both_types (Some x) (Some y) both = ap Some both.input.ty
both_types None (Some y) both = absurd both
both_types (Some x) None both = absurd both

module _ (types others : List ExtendedType) (pairs : Paired IsRetoldType types others) where
  fields_at : (one other : List ℕ) → one ≡ other → (t u : ExtendedType) → IsRetoldType t u → SameWanted (field_type one t) (field_type other u)
  fields_at one other same =
      by_kind (λ t u. SameWanted (field_type one t) (field_type other u)) (λ t u is. refl) (λ t u is. refl) (λ t u is. refl) (λ t u is. refl) (λ t u is. refl)
      (λ t u is. both_types (entry input_name one t.fields) (entry input_name other u.fields) (input_found one other t.fields u.fields same is.fields))

  fields_within : (one other : List ℕ) → one ≡ other → (o p : Option ExtendedType) → Both IsRetoldType o p
      → SameWanted (option_and_then (field_type one) o) (option_and_then (field_type other) p)
  fields_within one other same None None both = refl
  fields_within one other same (Some t) (Some u) both = fields_at one other same t u both
  fields_within one other same None (Some u) both = absurd both
  fields_within one other same (Some t) None both = absurd both

  same_member : (ty again : Option TypeRef) → SameWanted ty again → (one other : List ℕ) → one ≡ other
      → SameWanted (option_and_then (member_type types one) ty) (option_and_then (member_type others other) again)
  same_member None None same one other is = refl
  same_member (Some ty) (Some again) same one other is =
      let e : unplaced ty ≡ unplaced again = cc in
      fields_within one other is (type_called (named_type ty).text types) (type_called (named_type again).text others)
      (found_as types others pairs (named_type ty).text (named_type again).text (name_alike ty again e))
  same_member None (Some again) same one other is = absurd cc
  same_member (Some ty) None same one other is = absurd cc

  abbrev faults : Option TypeRef → Value → List DiagnosticData
  faults ty v = literal_faults TypesAndScalars types ty v

  abbrev faults_again : Option TypeRef → Value → List DiagnosticData
  faults_again ty v = literal_faults TypesAndScalars others ty v

  abbrev node : Option TypeRef → Value → Typed
  node ty v = record { ty = ty; literal = v }

  module _ (v w : Value) (l : Literal) (one : literal_in v ≡ l) (two : literal_in w ≡ l) where
    wanted_alike : (ty again : Option TypeRef) → SameWanted ty again
        → option_map_or (at_defined TypesAndScalars types v) ty [] ≡ [] → option_map_or (at_defined TypesAndScalars others w) again [] ≡ []
    wanted_alike None None same none = refl
    wanted_alike (Some ty) (Some again) same none =
        let e : unplaced ty ≡ unplaced again = cc in
        if_alike (is_known types (named_type ty).text) (is_known others (named_type again).text) (at_type types v ty) (at_type others w again)
        (known_alike types others pairs (named_type ty).text (named_type again).text (name_alike ty again e))
        (at_type_alike types others pairs ty again e v w l (top_of v l one) (top_of w l two)) none
    wanted_alike None (Some again) same none = absurd cc
    wanted_alike (Some ty) None same none = absurd cc

    node_alike : (ty again : Option TypeRef) → SameWanted ty again
        → node_faults TypesAndScalars types (node ty v) ≡ [] → node_faults TypesAndScalars others (node again w) ≡ []
    node_alike ty again same =
        joined_alike (unique_keys v) (option_map_or (at_defined TypesAndScalars types v) ty []) (unique_keys w) (option_map_or (at_defined TypesAndScalars others w) again [])
        (unique_alike v w l (top_of v l one) (top_of w l two)) (wanted_alike ty again same)

    single : (ty again : Option TypeRef) → SameWanted ty again
        → faults ty v ≡ node_faults TypesAndScalars types (node ty v) → faults_again again w ≡ node_faults TypesAndScalars others (node again w)
        → faults ty v ≡ [] → faults_again again w ≡ []
    single ty again same is again_is none = again_is ∙ node_alike ty again same (sym is ∙ none)

  abbrev member_faults : (List ℕ → Option TypeRef) → Named × Value → List DiagnosticData
  member_faults type_of member = faults (type_of member.0.text) member.1

  abbrev member_again : (List ℕ → Option TypeRef) → Named × Value → List DiagnosticData
  member_again type_of member = faults_again (type_of member.0.text) member.1

  abbrev SameTypes : (List ℕ → Option TypeRef) → (List ℕ → Option TypeRef) → Type 0
  SameTypes f g = (one other : List ℕ) → one ≡ other → SameWanted (f one) (g other)

  mutual
    right : (l : Literal) (v w : Value) → literal_in v ≡ l → literal_in w ≡ l → (ty again : Option TypeRef) → SameWanted ty again
        → faults ty v ≡ [] → faults_again again w ≡ []
    right lit.null v w one two ty again same none =
        single v w lit.null one two ty again same (at-Null TypesAndScalars types ty v (kind_is v ValueKind-F.Null (top_of v lit.null one)))
        (at-Null TypesAndScalars others again w (kind_is w ValueKind-F.Null (top_of w lit.null two))) none
    right (lit.variable t) v w one two ty again same none =
        let x = top_of v (lit.variable t) one in
        let y = top_of w (lit.variable t) two in
        single v w (lit.variable t) one two ty again same (at-Variable TypesAndScalars types x.0 ty v (kind_is v (ValueKind-F.Variable x.0) x.1))
        (at-Variable TypesAndScalars others y.0 again w (kind_is w (ValueKind-F.Variable y.0) y.1)) none
    right (lit.int t) v w one two ty again same none =
        single v w (lit.int t) one two ty again same (at-Int TypesAndScalars types t ty v (kind_is v (ValueKind-F.Int t) (top_of v (lit.int t) one)))
        (at-Int TypesAndScalars others t again w (kind_is w (ValueKind-F.Int t) (top_of w (lit.int t) two))) none
    right (lit.float t) v w one two ty again same none =
        single v w (lit.float t) one two ty again same (at-Float TypesAndScalars types t ty v (kind_is v (ValueKind-F.Float t) (top_of v (lit.float t) one)))
        (at-Float TypesAndScalars others t again w (kind_is w (ValueKind-F.Float t) (top_of w (lit.float t) two))) none
    right (lit.string t) v w one two ty again same none =
        single v w (lit.string t) one two ty again same (at-String TypesAndScalars types t ty v (kind_is v (ValueKind-F.String t) (top_of v (lit.string t) one)))
        (at-String TypesAndScalars others t again w (kind_is w (ValueKind-F.String t) (top_of w (lit.string t) two))) none
    right (lit.truth b) v w one two ty again same none =
        single v w (lit.truth b) one two ty again same (at-Boolean TypesAndScalars types b ty v (kind_is v (ValueKind-F.Boolean b) (top_of v (lit.truth b) one)))
        (at-Boolean TypesAndScalars others b again w (kind_is w (ValueKind-F.Boolean b) (top_of w (lit.truth b) two))) none
    right (lit.name t) v w one two ty again same none =
        let x = top_of v (lit.name t) one in
        let y = top_of w (lit.name t) two in
        single v w (lit.name t) one two ty again same (at-Enum TypesAndScalars types x.0 ty v (kind_is v (ValueKind-F.Enum x.0) x.1))
        (at-Enum TypesAndScalars others y.0 again w (kind_is w (ValueKind-F.Enum y.0) y.1)) none
    right (lit.list ls) v w one two ty again same none =
        let x = top_of v (lit.list ls) one in
        let y = top_of w (lit.list ls) two in
        at-List TypesAndScalars others again w y.0 (kind_is w (ValueKind-F.List y.0) y.1)
        ∙ joined_alike (node_faults TypesAndScalars types (node ty v)) (flat_map (faults (option_and_then item_type ty)) x.0)
        (node_faults TypesAndScalars others (node again w)) (flat_map (faults_again (option_and_then item_type again)) y.0)
        (node_alike v w (lit.list ls) one two ty again same)
        (items_right ls x.0 y.0 x.2 y.2 (option_and_then item_type ty) (option_and_then item_type again) (same_items ty again same))
        (sym (at-List TypesAndScalars types ty v x.0 (kind_is v (ValueKind-F.List x.0) x.1)) ∙ none)
    right (lit.object ps) v w one two ty again same none =
        let x = top_of v (lit.object ps) one in
        let y = top_of w (lit.object ps) two in
        let f = λ (key : List ℕ). option_and_then (member_type types key) ty in
        let g = λ (key : List ℕ). option_and_then (member_type others key) again in
        at-Object TypesAndScalars others again w y.0 (kind_is w (ValueKind-F.Object y.0) y.1)
        ∙ joined_alike (node_faults TypesAndScalars types (node ty v)) (flat_map (member_faults f) x.0)
        (node_faults TypesAndScalars others (node again w)) (flat_map (member_again g) y.0)
        (node_alike v w (lit.object ps) one two ty again same)
        (pairs_right ps x.0 y.0 x.2 y.2 f g (same_member ty again same))
        (sym (at-Object TypesAndScalars types ty v x.0 (kind_is v (ValueKind-F.Object x.0) x.1)) ∙ none)

    items_right : (ls : Literals) (xs ys : List Value) → literals_of (map literal_in xs) ≡ ls → literals_of (map literal_in ys) ≡ ls
        → (ty again : Option TypeRef) → SameWanted ty again → flat_map (faults ty) xs ≡ [] → flat_map (faults_again again) ys ≡ []
    items_right no_literal xs [] one two ty again same none = refl
    items_right no_literal xs (y ∷ ys) one two ty again same none = absurd cc
    items_right (literal_then l ls) (x ∷ xs) (y ∷ ys) one two ty again same none =
        let here : literal_in x ≡ l = cc in
        let here_again : literal_in y ≡ l = cc in
        let later : literals_of (map literal_in xs) ≡ ls = cc in
        let later_again : literals_of (map literal_in ys) ≡ ls = cc in
        joined_alike (faults ty x) (flat_map (faults ty) xs) (faults_again again y) (flat_map (faults_again again) ys)
        (right l x y here here_again ty again same) (items_right ls xs ys later later_again ty again same) none
    items_right (literal_then l ls) [] ys one two ty again same none = absurd cc
    items_right (literal_then l ls) (x ∷ xs) [] one two ty again same none = absurd cc

    pairs_right : (ps : Pairs) (xs ys : List (Named × Value)) → pairs_of (map seen xs) ≡ ps → pairs_of (map seen ys) ≡ ps
        → (f g : List ℕ → Option TypeRef) → SameTypes f g → flat_map (member_faults f) xs ≡ [] → flat_map (member_again g) ys ≡ []
    pairs_right no_pair xs [] one two f g same none = refl
    pairs_right no_pair xs (y ∷ ys) one two f g same none = absurd cc
    pairs_right (pair_then k l ps) (x ∷ xs) (y ∷ ys) one two f g same none =
        let key : x.0.text ≡ y.0.text = cc in
        let here : literal_in x.1 ≡ l = cc in
        let here_again : literal_in y.1 ≡ l = cc in
        let later : pairs_of (map seen xs) ≡ ps = cc in
        let later_again : pairs_of (map seen ys) ≡ ps = cc in
        joined_alike (member_faults f x) (flat_map (member_faults f) xs) (member_again g y) (flat_map (member_again g) ys)
        (right l x.1 y.1 here here_again (f x.0.text) (g y.0.text) (same x.0.text y.0.text key)) (pairs_right ps xs ys later later_again f g same) none
    pairs_right (pair_then k l ps) [] ys one two f g same none = absurd cc
    pairs_right (pair_then k l ps) (x ∷ xs) [] one two f g same none = absurd cc

  pub literal_alike : (v w : Value) → literal_in v ≡ literal_in w → (ty again : Option TypeRef) → SameWanted ty again → faults ty v ≡ [] → faults_again again w ≡ []
  literal_alike v w is ty again same none = right (literal_in w) v w is refl ty again same none
