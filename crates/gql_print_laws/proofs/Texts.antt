-- The text of a value is what its literal is written as.
use Rattle.std.proofs.Common.{◌≡◌, ℕ, zero, suc, ◌+◌, ◌<◌, max, Bool, true, false, List, [], ◌∷◌, ◌++◌, map, codes, refl, sym, ap, ◌∙◌, arith, rules, append_assoc, append-nil}
use Rattle.std.specs.List.{flat_map}
use Rattle.gql_ast_base.specs.Names.{Named}
use Rattle.gql_ast_base.specs.declared.value.Value.{Value}
use Rattle.gql_ast_base.specs.declared.value.ValueKind.{ValueKind, roll-ValueKind, out-ValueKind, fold-ValueKind, Null, Variable, Int, Float, String, Boolean, Enum, List as ListKind, Object as ObjectKind, the_lemmas}
use Rattle.gql_ast_base.specs.declared.value.ValueKind.TheOpen.{ValueKind-F, Value-F}
use Rattle.gql_print_laws.specs.Literal as lit
use Rattle.gql_print_laws.specs.Literal.{Literal, literals_of, pairs_of, literal_of, literal_in}
use Rattle.jb_print.specs.Quoted.{quoted}
use Rattle.gql_print_laws.specs.bridge.Said.{Text, text_of}
use Rattle.gql_print_laws.specs.bridge.Written.{content_said, items_said, more_items, pairs_said, more_pairs}
use Rattle.gql_ast.specs.ValueText.{separated, kind_text, value_text}
use Rattle.gql_ast.specs.bridge.ValueText.{member_text}
use Rattle.gql_print_laws.proofs.Meaning.{seen, literal-Null, literal-Int, literal-Float, literal-String, literal-Boolean, literal-Enum, literal-List, literal-Object}

abbrev written : Literal → Text
written l = text_of (content_said l)

abbrev IsSaid : ValueKind → Type 0
IsSaid kind = kind_text kind ≡ written (literal_of kind)

-- ---- how deep a value is

abbrev greatest : List ℕ → ℕ
greatest [] = 0
greatest (n ∷ ns) = max n (greatest ns)

abbrev greatest_member : List (Named × ℕ) → ℕ
greatest_member [] = 0
greatest_member (member ∷ members) = max member.1 (greatest_member members)

abbrev kind_depth : ValueKind-F ℕ ℕ → ℕ
kind_depth (ValueKind-F.List depths) = greatest depths + 1
kind_depth (ValueKind-F.Object members) = greatest_member members + 1
kind_depth _ = 0

abbrev value_depth : Value-F ℕ ℕ → ℕ
value_depth value = value.kind

depth_of : ValueKind → ℕ
depth_of = fold-ValueKind ℕ ℕ kind_depth value_depth

abbrev depth : Value → ℕ
depth value = depth_of value.kind

abbrev weighed : Named × Value → Named × ℕ
weighed member = (member.0, depth member.1)

depth-List : (items : List Value) → depth_of (ListKind items) ≡ greatest (map depth items) + 1
unfolding depth_of
depth-List items = search (rules, the_lemmas)

depth-Object : (members : List (Named × Value)) → depth_of (ObjectKind members) ≡ greatest_member (map weighed members) + 1
unfolding depth_of
depth-Object members = search (rules, the_lemmas)

-- ---- one level

text-List : (items : List Value) → kind_text (ListKind items) ≡ codes "[" ++ (separated (map value_text items) ++ codes "]")
text-List items = search (rules, the_lemmas)

abbrev pair_text : Named × List ℕ → List ℕ
pair_text pair = pair.0.text ++ codes ": " ++ pair.1

abbrev texts : List (Named × Value) → List (Named × List ℕ)
texts members = map (λ member. (member.0, value_text member.1)) members

text-Object : (members : List (Named × Value)) → kind_text (ObjectKind members) ≡ codes "{" ++ (separated (map pair_text (texts members)) ++ codes "}")
text-Object members = search (rules, the_lemmas)

text-Null : kind_text Null ≡ codes "null"
text-Null = search (rules, the_lemmas)

text-Variable : (name : Named) → kind_text (Variable name) ≡ codes "$" ++ name.text
text-Variable name = search (rules, the_lemmas)

literal-Variable : (name : Named) → literal_of (Variable name) ≡ lit.variable name.text
literal-Variable name = search (rules, the_lemmas)

text-Int : (t : Text) → kind_text (Int t) ≡ t
text-Int t = search (rules, the_lemmas)

text-Float : (t : Text) → kind_text (Float t) ≡ t
text-Float t = search (rules, the_lemmas)

text-String : (t : Text) → kind_text (String t) ≡ quoted t
text-String t = search (rules, the_lemmas)

text-true : kind_text (Boolean true) ≡ codes "true"
text-true = search (rules, the_lemmas)

text-false : kind_text (Boolean false) ≡ codes "false"
text-false = search (rules, the_lemmas)

text-Enum : (name : Named) → kind_text (Enum name) ≡ name.text
text-Enum name = search (rules, the_lemmas)

twice : (t : Text) → (t ++ []) ++ [] ≡ t
twice t = append-nil (t ++ []) ∙ append-nil t

module _ (n : ℕ) (inside : (kind : ValueKind) → depth_of kind < n → IsSaid kind) where
  later_items : (items : List Value) → greatest (map depth items) < n
      → flat_map (λ t. codes ", " ++ t) (map value_text items) ++ codes "]" ≡ text_of (more_items (literals_of (map literal_in items)))
  later_items [] small = refl
  later_items (item ∷ items) small =
      ap (λ t. codes ", " ++ t)
      (append_assoc (value_text item) (flat_map (λ t. codes ", " ++ t) (map value_text items)) (codes "]")
      ∙ ap (λ t. t ++ (flat_map (λ t. codes ", " ++ t) (map value_text items) ++ codes "]")) (inside item.kind (omega arith))
      ∙ ap (λ t. written (literal_in item) ++ t) (later_items items (omega arith)))

  all_items : (items : List Value) → greatest (map depth items) < n → separated (map value_text items) ++ codes "]" ≡ text_of (items_said (literals_of (map literal_in items)))
  all_items [] small = refl
  all_items (item ∷ items) small =
      append_assoc (value_text item) (flat_map (λ t. codes ", " ++ t) (map value_text items)) (codes "]")
      ∙ ap (λ t. t ++ (flat_map (λ t. codes ", " ++ t) (map value_text items) ++ codes "]")) (inside item.kind (omega arith))
      ∙ ap (λ t. written (literal_in item) ++ t) (later_items items (omega arith))

  abbrev pair_rest : List (Named × Value) → Text
  pair_rest members = flat_map (λ t. codes ", " ++ t) (map pair_text (texts members))

  one_pair : (member : Named × Value) (rest more : Text) → depth member.1 < n → rest ≡ more
      → (member.0.text ++ codes ": " ++ value_text member.1) ++ rest ≡ (member.0.text ++ (codes ": " ++ (written (literal_in member.1) ++ []))) ++ more
  one_pair member rest more small e =
      ap (λ t. t ++ rest) (append_assoc member.0.text (codes ": ") (value_text member.1))
      ∙ ap (λ t. (member.0.text ++ (codes ": " ++ t)) ++ rest) (inside member.1.kind small ∙ sym (append-nil (written (literal_in member.1))))
      ∙ ap (λ t. (member.0.text ++ (codes ": " ++ (written (literal_in member.1) ++ []))) ++ t) e

  later_pairs : (members : List (Named × Value)) → greatest_member (map weighed members) < n → pair_rest members ++ codes "}" ≡ text_of (more_pairs (pairs_of (map seen members)))
  later_pairs [] small = refl
  later_pairs (member ∷ members) small =
      ap (λ t. codes ", " ++ t)
      (append_assoc (member_text member) (pair_rest members) (codes "}")
      ∙ one_pair member (pair_rest members ++ codes "}") (text_of (more_pairs (pairs_of (map seen members)))) (omega arith) (later_pairs members (omega arith)))

  all_pairs : (members : List (Named × Value)) → greatest_member (map weighed members) < n → separated (map pair_text (texts members)) ++ codes "}" ≡ text_of (pairs_said (pairs_of (map seen members)))
  all_pairs [] small = refl
  all_pairs (member ∷ members) small =
      append_assoc (member_text member) (pair_rest members) (codes "}")
      ∙ one_pair member (pair_rest members ++ codes "}") (text_of (more_pairs (pairs_of (map seen members)))) (omega arith) (later_pairs members (omega arith))

  said-truth : (b : Bool) → IsSaid (Boolean b)
  said-truth true = text-true ∙ sym (ap written (literal-Boolean true))
  said-truth false = text-false ∙ sym (ap written (literal-Boolean false))

  said-List : (items : List Value) → depth_of (ListKind items) < suc n → IsSaid (ListKind items)
  said-List items small =
      text-List items ∙ ap (λ t. codes "[" ++ t) (all_items items (omega (arith, depth-List items)) ∙ sym (append-nil (text_of (items_said (literals_of (map literal_in items))))))
      ∙ sym (ap written (literal-List items))

  said-Object : (members : List (Named × Value)) → depth_of (ObjectKind members) < suc n → IsSaid (ObjectKind members)
  said-Object members small =
      text-Object members ∙ ap (λ t. codes "{" ++ t) (all_pairs members (omega (arith, depth-Object members)) ∙ sym (append-nil (text_of (pairs_said (pairs_of (map seen members))))))
      ∙ sym (ap written (literal-Object members))

  level : (x : ValueKind-F ValueKind Value) → depth_of (roll-ValueKind x) < suc n → IsSaid (roll-ValueKind x)
  level ValueKind-F.Null small = let same : roll-ValueKind ValueKind-F.Null ≡ Null = search (rules, the_lemmas) in
      ap kind_text same ∙ text-Null ∙ sym (ap written literal-Null) ∙ sym (ap (λ k. written (literal_of k)) same)
  level (ValueKind-F.Variable name) small = let same : roll-ValueKind (ValueKind-F.Variable name) ≡ Variable name = search (rules, the_lemmas) in
      ap kind_text same ∙ text-Variable name ∙ ap (λ t. codes "$" ++ t) (sym (twice name.text)) ∙ sym (ap written (literal-Variable name)) ∙ sym (ap (λ k. written (literal_of k)) same)
  level (ValueKind-F.Int t) small = let same : roll-ValueKind (ValueKind-F.Int t) ≡ Int t = search (rules, the_lemmas) in
      ap kind_text same ∙ text-Int t ∙ sym (append-nil t) ∙ sym (ap written (literal-Int t)) ∙ sym (ap (λ k. written (literal_of k)) same)
  level (ValueKind-F.Float t) small = let same : roll-ValueKind (ValueKind-F.Float t) ≡ Float t = search (rules, the_lemmas) in
      ap kind_text same ∙ text-Float t ∙ sym (append-nil t) ∙ sym (ap written (literal-Float t)) ∙ sym (ap (λ k. written (literal_of k)) same)
  level (ValueKind-F.String t) small = let same : roll-ValueKind (ValueKind-F.String t) ≡ String t = search (rules, the_lemmas) in
      ap kind_text same ∙ text-String t ∙ sym (append-nil (quoted t)) ∙ sym (ap written (literal-String t)) ∙ sym (ap (λ k. written (literal_of k)) same)
  level (ValueKind-F.Boolean b) small = let same : roll-ValueKind (ValueKind-F.Boolean b) ≡ Boolean b = search (rules, the_lemmas) in
      ap kind_text same ∙ said-truth b ∙ sym (ap (λ k. written (literal_of k)) same)
  level (ValueKind-F.Enum name) small = let same : roll-ValueKind (ValueKind-F.Enum name) ≡ Enum name = search (rules, the_lemmas) in
      ap kind_text same ∙ text-Enum name ∙ sym (twice name.text) ∙ sym (ap written (literal-Enum name)) ∙ sym (ap (λ k. written (literal_of k)) same)
  level (ValueKind-F.List items) small = let same : roll-ValueKind (ValueKind-F.List items) ≡ ListKind items = search (rules, the_lemmas) in
      ap kind_text same ∙ said-List items (let e = ap depth_of same in omega (arith, e, small)) ∙ sym (ap (λ k. written (literal_of k)) same)
  level (ValueKind-F.Object members) small = let same : roll-ValueKind (ValueKind-F.Object members) ≡ ObjectKind members = search (rules, the_lemmas) in
      ap kind_text same ∙ said-Object members (let e = ap depth_of same in omega (arith, e, small)) ∙ sym (ap (λ k. written (literal_of k)) same)

within : (n : ℕ) (kind : ValueKind) → depth_of kind < n → IsSaid kind
within zero kind small = absurd (omega arith)
within (suc n) kind small =
    let rolled : roll-ValueKind (out-ValueKind kind) ≡ kind = search (rules, the_lemmas) in
    let e = ap depth_of rolled in
    sym (ap kind_text rolled) ∙ level n (within n) (out-ValueKind kind) (omega (arith, e, small)) ∙ ap (λ k. written (literal_of k)) rolled

pub text_is_written : (kind : ValueKind) → kind_text kind ≡ written (literal_of kind)
text_is_written kind = within (suc (depth_of kind)) kind (omega arith)
