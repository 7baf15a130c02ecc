-- References to types.
use Rattle.std.proofs.Common.{◌≡◌, ℕ, ◌+◌, true, List, [], ◌∷◌, ◌++◌, length, Some, None, refl, sym, ap, ◌∙◌, subst, rules, append_assoc, append-nil, suc, ◌≤◌, arith}
use Rattle.std.specs.Prelude.{codes, slice_get}
use Rattle.gql_source.specs.declared.file_id.FileId.{FileId}
use Rattle.gql_grammar.specs.declared.word.Word.{Word}
use Rattle.gql_grammar.specs.declared.symbol.Symbol.{Symbol}
use Rattle.gql_grammar.specs.declared.symbol.Symbol.TheVariants.{One}
use Rattle.gql_grammar.specs.declared.rule.Rule.TheVariants as rule
use Rattle.gql_grammar.specs.declared.syntax_kind.SyntaxKind.TheVariants as kind
use Rattle.gql_grammar.specs.Grammar.{declared}
use Rattle.gql_grammar.specs.Sentence.{IsOneOf, here, there}
use Rattle.gql_cst.specs.Forest.{Forest, nothing, tree_then}
use Rattle.gql_ast.specs.TypeText.{type_text}
use Rattle.gql_ast_base.specs.Kinds.{is_kind}
use Rattle.gql_ast_base.specs.Names.{Named, is_name}
use Rattle.gql_ast_base.specs.Parts.{head, nth_name}
use Rattle.gql_ast_base.specs.Types.{non_null, form_step, type_step, forms, type_of}
use Rattle.gql_ast_base.specs.declared.type_ref.TypeRef.{TypeRef, roll-TypeRef, List as ListOf, NonNullList, the_lemmas}
use Rattle.gql_ast_base.specs.declared.type_ref.TypeRef.TheFolds.{ind-TypeRef, map-TypeRef}
use Rattle.gql_ast_base.specs.declared.type_ref.TypeRef.TheOpen.{TypeRef-F}
use Rattle.gql_ast_base.specs.declared.type_ref.TypeRef.TheVariants.{Named as NamedType, NonNullNamed}
use Rattle.gql_ast_laws.specs.Printed.{has_names, unplaced}
use Rattle.gql_ast_laws.proofs.Blind.{tree}
use Rattle.gql_ast_laws.proofs.Levels.{unplaced-Named, unplaced-NonNullNamed, unplaced-List, unplaced-NonNullList}
use Rattle.gql_print_laws.specs.bridge.Said.{Text, Said, over, token, under, text_of, forest_at}
use Rattle.gql_print_laws.specs.bridge.Written.{Ends}
use Rattle.gql_print_laws.proofs.Named.{name_is_name}
use Rattle.gql_print_laws.specs.Depth.{most_levels, type_depth}
use Rattle.gql_print_laws.specs.Forms.{Form}
use Rattle.gql_print_laws.proofs.Depths.{depth_said}
use Rattle.gql_print_laws.proofs.Grammar.{FitsTo, no_symbol, one_token, one_node, one_group}
use Rattle.gql_print_laws.proofs.Reading.{From, after_over, bang, bracket_open, bracket_close, mark_after, mark_from_from, name_from, node_from}
use Rattle.gql_print_laws.proofs.Standing.{Only, Stands, past_token, down, names_said, name_at}
use Rattle.gql_print_laws.proofs.Printed.{Printed}

abbrev pub type_form : Form TypeRef TypeRef TypeRef
type_form = record { rule = rule.TypeReference; kind = kind.TypeReference; written = type_text; meant = type_of; says = unplaced; told = unplaced }

-- ---- one level of the texts, and of their names

text-Named : (name : Named) → type_text (NamedType name) ≡ name.text
text-Named name = search (rules, the_lemmas)

text-NonNullNamed : (name : Named) → type_text (NonNullNamed name) ≡ name.text ++ (33 ∷ [])
text-NonNullNamed name = search (rules, the_lemmas)

text-List : (item : TypeRef) → type_text (ListOf item) ≡ 91 ∷ (type_text item ++ (93 ∷ []))
text-List item = search (rules, the_lemmas)

text-NonNullList : (item : TypeRef) → type_text (NonNullList item) ≡ 91 ∷ (type_text item ++ (93 ∷ 33 ∷ []))
text-NonNullList item = search (rules, the_lemmas)

names-Named : (name : Named) → has_names (NamedType name) ≡ is_name name.text
names-Named name = search (rules, the_lemmas)

names-NonNullNamed : (name : Named) → has_names (NonNullNamed name) ≡ is_name name.text
names-NonNullNamed name = search (rules, the_lemmas)

names-List : (item : TypeRef) → has_names (ListOf item) ≡ has_names item
names-List item = search (rules, the_lemmas)

names-NonNullList : (item : TypeRef) → has_names (NonNullList item) ≡ has_names item
names-NonNullList item = search (rules, the_lemmas)

non_null-Named : (name : Named) → non_null (NamedType name) ≡ NonNullNamed name
non_null-Named name = search (rules, the_lemmas)

non_null-List : (item : TypeRef) → non_null (ListOf item) ≡ NonNullList item
non_null-List item = search (rules, the_lemmas)

depth-List : (item : TypeRef) → type_depth (ListOf item) ≡ suc (type_depth item)
depth-List item = search (rules, the_lemmas)

depth-NonNullList : (item : TypeRef) → type_depth (NonNullList item) ≡ suc (type_depth item)
depth-NonNullList item = search (rules, the_lemmas)

-- ---- what the trees stand for

module _ (text : Text) (file : FileId) where
  -- the trees under a reference refer to the type, the places of its names aside
  pub record Refers (f : Forest) (ty : TypeRef) : Type 0 where
    pub found : TypeRef
    pub is : head (forms text file f) ≡ Some found
    pub same : unplaced found ≡ unplaced ty

  named_is : (f rest : Forest) (name : Named) → nth_name text file 0 f ≡ Some name → head (forms text file (tree_then kind.NamedType 0 0 f rest)) ≡ Some (NamedType name)
  unfolding form_step is_kind
  named_is f rest name e = rw e refl

  not_null : (f : Forest) (ty : TypeRef) → head (forms text file f) ≡ Some ty → head (forms text file (tree_then kind.NonNullType 0 0 f nothing)) ≡ Some (non_null ty)
  unfolding form_step is_kind
  not_null f ty e = rw e refl

  list_is : (n e : ℕ) (item behind rest : Forest) (ty : TypeRef) → head (forms text file item) ≡ Some ty
      → head (forms text file (tree_then kind.ListType 0 0 (tree_then kind.Token n e nothing (tree_then kind.TypeReference 0 0 item behind)) rest)) ≡ Some (ListOf ty)
  unfolding form_step type_step is_kind
  list_is n e item behind rest ty h = rw h refl

  first_name : (t : Text) → is_name t ≡ true → slice_get (names_said (token t over)) 0 ≡ Some t
  first_name t h = rw h refl

  pub named_refers : (n : ℕ) (t : Text) → is_name t ≡ true → Stands text n (token t over) → (rest : Forest)
      → (found : Named) × (head (forms text file (tree_then kind.NamedType 0 0 (forest_at n (token t over)) rest)) ≡ Some (NamedType found)) × (found.text ≡ t)
  named_refers n t h r rest =
      let a = name_at text file n (token t over) r 0 t (first_name t h) in
      (a.found, named_is (forest_at n (token t over)) rest a.found a.is, a.same)

-- how the type is said under its reference
record TypeSaid (ty : TypeRef) : Type 0 where
  said : Said
  text : text_of said ≡ type_text ty
  from : {rest : Text} → Ends rest → From said rest
  way : List Symbol
  one : IsOneOf way (declared rule.TypeReference)
  fits : {vs : List Word} → FitsTo way said vs
  depth : depth_said said ≤ type_depth ty
  means : (text : Text) (file : FileId) (n : ℕ) → Stands text n said → Refers text file (forest_at n said) ty

abbrev Says : TypeRef → Type 0
Says ty = has_names ty ≡ true → TypeSaid ty

twice : (t : Text) → (t ++ []) ++ [] ≡ t
twice t = append-nil (t ++ []) ∙ append-nil t

same_text : (one other : Named) → one.text ≡ other.text → unplaced (NamedType one) ≡ unplaced (NamedType other)
same_text one other e = unplaced-Named one ∙ ap (λ t. NamedType (record { text = t; location = None })) e ∙ sym (unplaced-Named other)

same_non_null : (one other : Named) → one.text ≡ other.text → unplaced (NonNullNamed one) ≡ unplaced (NonNullNamed other)
same_non_null one other e = unplaced-NonNullNamed one ∙ ap (λ t. NonNullNamed (record { text = t; location = None })) e ∙ sym (unplaced-NonNullNamed other)

says-Named : (name : Named) → Says (NamedType name)
says-Named name h =
    let n = sym (names-Named name) ∙ h in
    record {
      said = under kind.NamedType (token name.text over) over;
      text = twice name.text ∙ sym (text-Named name);
      from = λ e. node_from refl (name_from n (after_over e)) tt;
      way = One rule.NamedType ∷ [];
      one = here;
      fits = one_node rule.NamedType _ refl here (one_token (name_is_name name.text n) no_symbol) no_symbol;
      depth = omega arith;
      means = λ text file m r.
          let inner = down text m kind.NamedType (token name.text over) over r in
          let a = named_refers text file m name.text n inner nothing in
          record { found = NamedType a.0; is = a.1; same = same_text a.0 name a.2 };
    }

says-NonNullNamed : (name : Named) → Says (NonNullNamed name)
says-NonNullNamed name h =
    let n = sym (names-NonNullNamed name) ∙ h in
    let named = token name.text over in
    let inner = under kind.NamedType named (token (codes "!") over) in
    record {
      said = under kind.NonNullType inner over;
      text = append-nil ((name.text ++ []) ++ (33 ∷ [])) ∙ ap (λ t. t ++ (33 ∷ [])) (append-nil name.text) ∙ sym (text-NonNullNamed name);
      from = λ e. let b = mark_after bang (after_over e) in node_from refl (node_from refl (name_from n (after_over b.ends)) b.lexes) tt;
      way = One rule.NonNullType ∷ [];
      one = there (there here);
      fits = one_node rule.NonNullType _ refl here
          (one_group rule.TypeCore (One rule.NamedType ∷ []) refl here
          (one_node rule.NamedType _ refl here (one_token (name_is_name name.text n) no_symbol) (one_token refl no_symbol))) no_symbol;
      depth = omega arith;
      means = λ text file m r.
          let i = down text m kind.NonNullType inner over r in
          let t = down text m kind.NamedType named (token (codes "!") over) i in
          let a = named_refers text file m name.text n t (forest_at (m + length (text_of named)) (token (codes "!") over)) in
          record {
            found = NonNullNamed a.0;
            is = not_null text file (forest_at m inner) (NamedType a.0) a.1 ∙ ap (λ t. Some t) (non_null-Named a.0);
            same = same_non_null a.0 name a.2;
          };
    }

says-List : (item : TypeRef) → Says item → Says (ListOf item)
says-List item back h =
    let i = back (sym (names-List item) ∙ h) in
    let close = token (codes "]") over in
    let reference = under kind.TypeReference i.said close in
    let inner = token (codes "[") reference in
    record {
      said = under kind.ListType inner over;
      text = append-nil (91 ∷ (text_of i.said ++ (93 ∷ []))) ∙ ap (λ t. 91 ∷ (t ++ (93 ∷ []))) i.text ∙ sym (text-List item);
      from = λ e. let c = mark_after bracket_close (after_over e) in node_from refl (mark_from_from bracket_open (node_from refl (i.from c.ends) c.lexes)) tt;
      way = One rule.ListType ∷ [];
      one = there here;
      fits = one_node rule.ListType _ refl here (one_token refl (one_node rule.TypeReference i.way refl i.one i.fits (one_token refl no_symbol))) no_symbol;
      depth = let a = i.depth in let b = depth-List item in omega (arith, a, b);
      means = λ text file m r.
          let a = down text m kind.ListType inner over r in
          let b = past_token text m (codes "[") reference a in
          let at = m + length (codes "[") in
          let c = i.means text file at (down text at kind.TypeReference i.said close b) in
          record {
            found = ListOf c.found;
            is = list_is text file m at (forest_at at i.said) (forest_at (at + length (text_of i.said)) close) nothing c.found c.is;
            same = unplaced-List c.found ∙ ap (λ t. ListOf t) c.same ∙ sym (unplaced-List item);
          };
    }

says-NonNullList : (item : TypeRef) → Says item → Says (NonNullList item)
says-NonNullList item back h =
    let i = back (sym (names-NonNullList item) ∙ h) in
    let close = token (codes "]") over in
    let end = token (codes "!") over in
    let reference = under kind.TypeReference i.said close in
    let list = token (codes "[") reference in
    let inner = under kind.ListType list end in
    record {
      said = under kind.NonNullType inner over;
      text = append-nil ((91 ∷ (text_of i.said ++ (93 ∷ []))) ++ (33 ∷ []))
          ∙ ap (λ t. 91 ∷ t) (append_assoc (text_of i.said) (93 ∷ []) (33 ∷ [])) ∙ ap (λ t. 91 ∷ (t ++ (93 ∷ 33 ∷ []))) i.text ∙ sym (text-NonNullList item);
      from = λ e.
          let b = mark_after bang (after_over e) in
          let c = mark_after bracket_close (after_over b.ends) in
          node_from refl (node_from refl (mark_from_from bracket_open (node_from refl (i.from c.ends) c.lexes)) b.lexes) tt;
      way = One rule.NonNullType ∷ [];
      one = there (there here);
      fits = one_node rule.NonNullType _ refl here
          (one_group rule.TypeCore (One rule.ListType ∷ []) refl (there here)
          (one_node rule.ListType _ refl here (one_token refl (one_node rule.TypeReference i.way refl i.one i.fits (one_token refl no_symbol)))
          (one_token refl no_symbol))) no_symbol;
      depth = let a = i.depth in let b = depth-NonNullList item in omega (arith, a, b);
      means = λ text file m r.
          let a = down text m kind.NonNullType inner over r in
          let b = past_token text m (codes "[") reference (down text m kind.ListType list end a) in
          let at = m + length (codes "[") in
          let c = i.means text file at (down text at kind.TypeReference i.said close b) in
          record {
            found = NonNullList c.found;
            is = not_null text file (forest_at m inner) (ListOf c.found)
                (list_is text file m at (forest_at at i.said) (forest_at (at + length (text_of i.said)) close) (forest_at (m + length (text_of list)) end) c.found c.is)
                ∙ ap (λ t. Some t) (non_null-List c.found);
            same = unplaced-NonNullList c.found ∙ ap (λ t. NonNullList t) c.same ∙ sym (unplaced-NonNullList item);
          };
    }

abbrev Child : Type 0
Child = (ty : TypeRef) × Says ty

-- one level with the facts about what is inside left out
abbrev plain_level : TypeRef-F Child → TypeRef-F TypeRef
plain_level (TypeRef-F.Named name) = TypeRef-F.Named name
plain_level (TypeRef-F.NonNullNamed name) = TypeRef-F.NonNullNamed name
plain_level (TypeRef-F.List item) = TypeRef-F.List item.0
plain_level (TypeRef-F.NonNullList item) = TypeRef-F.NonNullList item.0

plain_map : (y : TypeRef-F Child) → map-TypeRef Child TypeRef (λ e. e.0) y ≡ plain_level y
plain_map (TypeRef-F.Named name) = refl
plain_map (TypeRef-F.NonNullNamed name) = refl
plain_map (TypeRef-F.List item) = refl
plain_map (TypeRef-F.NonNullList item) = refl

level_says : (y : TypeRef-F Child) → Says (roll-TypeRef (plain_level y))
unfolding roll-TypeRef denote.Hole.Carrier.roll
level_says (TypeRef-F.Named name) = says-Named name
level_says (TypeRef-F.NonNullNamed name) = says-NonNullNamed name
level_says (TypeRef-F.List item) = says-List item.0 item.1
level_says (TypeRef-F.NonNullList item) = says-NonNullList item.0 item.1

type_says : (ty : TypeRef) → Says ty
type_says = ind-TypeRef Says (λ x y is. subst (λ (w : TypeRef-F TypeRef). Says (roll-TypeRef w)) (sym (plain_map y) ∙ is) (level_says y))

type_is : (text : Text) (file : FileId) (f : Forest) (ty : TypeRef) → head (forms text file f) ≡ Some ty → type_of text file (tree kind.TypeReference 0 0 f) ≡ Some ty
unfolding type_step is_kind
type_is text file f ty h = h

pub only_type : (text : Text) (file : FileId) → Only text (type_of text file) unplaced kind.TypeReference
unfolding type_step
only_type text file t h = rw h refl

pub printed_type : (ty : TypeRef) → has_names ty ≡ true → type_depth ty ≤ most_levels → Printed type_form ty
printed_type ty h shallow =
    let s = type_says ty h in
    record {
      said = s.said;
      text = s.text;
      from = s.from;
      way = s.way;
      one = s.one;
      fits = s.fits;
      shallow = let a = s.depth in omega (arith, a, shallow);
      means = λ text file n r. let m = s.means text file n r in record { found = m.found; is = type_is text file (forest_at n s.said) m.found m.is; same = m.same };
    }
