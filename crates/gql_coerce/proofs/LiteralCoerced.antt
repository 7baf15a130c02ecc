-- Coercion of a literal by its rule, level by level.
use Rattle.std.proofs.Common.{◌≡◌, ℕ, zero, suc, ◌≤◌, ◌<◌, ◌+◌, List, [], ◌∷◌, map, length, get_or, Option, Some, None, Bool, true, false, cond, if◌then◌else◌, refl, sym, ap, ◌∙◌, rules, arith}
use Rattle.std.specs.Str.{bytes_eq}
use Rattle.std.specs.Map.{lookup}
use Rattle.jb_tree.specs.declared.value.Value.{Object, Array}
use Rattle.gql_source.specs.Span.{Span}
use Rattle.gql_ast_base.specs.Names.{Named}
use Rattle.gql_ast_base.specs.declared.value.Value.{Value}
use Rattle.gql_ast_base.specs.declared.value.ValueKind.{ValueKind, roll-ValueKind, out-ValueKind, Null as NullKind, Variable, Int, Float, String as StringKind, Boolean, Enum, List as ListKind, Object as ObjectKind, the_lemmas}
use Rattle.gql_ast_base.specs.declared.value.ValueKind.TheOpen.{ValueKind-F}
use Rattle.gql_ast_base.specs.declared.type_ref.TypeRef.{TypeRef}
use Rattle.gql_ast.specs.declared.field_definition.InputValueDefinition.{InputValueDefinition}
use Rattle.gql_schema_types.specs.declared.types.ExtendedType.{ExtendedType}
use Rattle.gql_schema_types.specs.declared.types.InputObjectType.{InputObjectType}
use Rattle.gql_coerce.specs.Outcome.{mapped, all_of}
use Rattle.gql_coerce.specs.Faults.{fault_at}
use Rattle.gql_coerce.specs.Messages.{missing_field}
use Rattle.gql_coerce.specs.Subject.{field_words}
use Rattle.gql_ast_base.specs.TypeParts.{named_type, item_type}
use Rattle.gql_coerce.specs.Wrapped.{wrap}
use Rattle.gql_coerce.specs.Filled.{Members, not_given, filled}
use Rattle.gql_coerce.specs.InputTypes.{input_object_called, field_name}
use Rattle.gql_coerce.specs.LiteralValue.{Coercion, Literals, greatest, greatest_member, depth_of, depth, member_name, last_of, last_named, refused_at, literal_misfit, null_at, variable_at, literal_given, literal_field, literal_object, literal_leaf, literal_members_at, literal_members, literal_array, literal_level, literal_rule, literal_within, coerced_literal}

abbrev pub weighed : Named × Value → Named × ℕ
weighed member = (member.0, depth member.1)

roll-List : (literals : List Value) → depth_of (ListKind literals) ≡ greatest (map depth literals) + 1
unfolding depth_of
roll-List literals = search (rules, the_lemmas)

roll-Object : (members : Literals) → depth_of (ObjectKind members) ≡ greatest_member (map weighed members) + 1
unfolding depth_of
roll-Object members = search (rules, the_lemmas)

pub depth-List : (kind : ValueKind) (literals : List Value) → out-ValueKind kind ≡ ValueKind-F.List literals → depth_of kind ≡ greatest (map depth literals) + 1
depth-List kind literals is =
    let rolled : roll-ValueKind (out-ValueKind kind) ≡ kind = search (rules, the_lemmas) in
    let same : roll-ValueKind (ValueKind-F.List literals) ≡ ListKind literals = search (rules, the_lemmas) in
    ap depth_of (sym rolled ∙ ap roll-ValueKind is ∙ same) ∙ roll-List literals

pub depth-Object : (kind : ValueKind) (members : Literals) → out-ValueKind kind ≡ ValueKind-F.Object members → depth_of kind ≡ greatest_member (map weighed members) + 1
depth-Object kind members is =
    let rolled : roll-ValueKind (out-ValueKind kind) ≡ kind = search (rules, the_lemmas) in
    let same : roll-ValueKind (ValueKind-F.Object members) ≡ ObjectKind members = search (rules, the_lemmas) in
    ap depth_of (sym rolled ∙ ap roll-ValueKind is ∙ same) ∙ roll-Object members

pub list_depth : (kind : ValueKind) (literals : List Value) → kind ≡ ListKind literals → depth_of kind ≡ greatest (map depth literals) + 1
list_depth kind literals is = ap depth_of is ∙ roll-List literals

pub object_depth : (kind : ValueKind) (members : Literals) → kind ≡ ObjectKind members → depth_of kind ≡ greatest_member (map weighed members) + 1
object_depth kind members is = ap depth_of is ∙ roll-Object members

-- an item is no deeper than the deepest
pub item_depth : (literals : List Value) (i : ℕ) (x : Value) → i < length literals → x ≡ get_or literals i x → depth x ≤ greatest (map depth literals)
item_depth [] i x within is = absurd (omega arith)
item_depth (l ∷ ls) zero x within is = omega (arith, ap depth is)
item_depth (l ∷ ls) (suc i) x within is = omega (arith, item_depth ls i x (omega arith) is)

chosen_depth : (b : Bool) (member : Named × Value) (found : Option Value) (bound : ℕ) → depth member.1 ≤ bound → ((y : Value) → found ≡ Some y → depth y ≤ bound)
    → (y : Value) → cond b (Some member.1) found ≡ Some y → depth y ≤ bound
chosen_depth true member found bound small before y is = let same : member.1 ≡ y = cc in omega (arith, ap depth same)
chosen_depth false member found bound small before y is = before y is

last_depth : (name : List ℕ) (bound : ℕ) (members : Literals) (found : Option Value) (x : Value) → ((y : Value) → found ≡ Some y → depth y ≤ bound)
    → greatest_member (map weighed members) ≤ bound → last_of found name members ≡ Some x → depth x ≤ bound
last_depth name bound [] found x before below is = before x is
last_depth name bound (member ∷ members) found x before below is =
    last_depth name bound members (if bytes_eq name (member_name member) then Some member.1 else found) x
    (chosen_depth (bytes_eq name (member_name member)) member found bound (omega arith) before) (omega arith) is

pub last-within : (name : List ℕ) (members : Literals) (x : Value) → last_named name members ≡ Some x → depth x ≤ greatest_member (map weighed members)
last-within name members x is = last_depth name (greatest_member (map weighed members)) members None x (λ y none. cc) (omega arith) is

module _ (f g : Value → Coercion) (n : ℕ) (agree : (literal : Value) → depth literal < n → f literal ≡ g literal) where
  items-agree : (d : List ℕ) (item : TypeRef) (literals : List Value) → greatest (map depth literals) < n
      → map (λ (literal : Value). f literal d item) literals ≡ map (λ (literal : Value). g literal d item) literals
  items-agree d item [] small = refl
  items-agree d item (literal ∷ literals) small = λ i. agree literal (omega arith) i d item ∷ items-agree d item literals (omega arith) i

  found-agree : (place : Option Span) (T : List ℕ) (field : InputValueDefinition) (found : Option Value) → ((x : Value) → found ≡ Some x → depth x < n)
      → literal_given f found place T field ≡ literal_given g found place T field
  found-agree place T field None small = refl
  found-agree place T field (Some x) small = λ i. mapped Some (agree x (small x refl) i (field_words T (field_name field)) field.ty)

  field-agree : (place : Option Span) (members : Literals) (T : List ℕ) → greatest_member (map weighed members) < n → (field : InputValueDefinition)
      → literal_field f place members T field ≡ literal_field g place members T field
  field-agree place members T small field =
      let name = field_name field in
      found-agree place T field (last_named name members) (λ x is. omega (arith, last-within name members x is))

  object-agree : (env : Members) (place : Option Span) (T : List ℕ) (it : InputObjectType) (members : Literals) → greatest_member (map weighed members) < n
      → literal_object f env place T it members ≡ literal_object g env place T it members
  object-agree env place T it members small =
      λ i. refused_at place (literal_misfit env T it members) (mapped Object (filled (λ field. field-agree place members T small field i) field_name [] it.fields))

module _ (types : List ExtendedType) (env : Members) (f g : Value → Coercion) (n : ℕ) (agree : (literal : Value) → depth literal < n → f literal ≡ g literal) where
  array-agree : (found : Option TypeRef) (items : List Value) → greatest (map depth items) < n → (literal : Value) (d : List ℕ) (ty : TypeRef)
      → literal_array types env f found items literal d ty ≡ literal_array types env g found items literal d ty
  array-agree None items small literal d ty = refl
  array-agree (Some item) items small literal d ty = ap (λ outcomes. mapped Array (all_of outcomes)) (items-agree f g n agree d item items small)

  members-agree : (found : Option InputObjectType) (members : Literals) → greatest_member (map weighed members) < n → (d : List ℕ) (name : Named) (literal : Value)
      → literal_members_at types env f found members d name literal ≡ literal_members_at types env g found members d name literal
  members-agree None members small d name literal = refl
  members-agree (Some it) members small d name literal = object-agree f g n agree env literal.location name.text it members small

  level-agree : (kind : ValueKind) (x : ValueKind-F ValueKind Value) → out-ValueKind kind ≡ x → depth_of kind ≤ n → (literal : Value) → literal_level types env f x literal ≡ literal_level types env g x literal
  level-agree kind ValueKind-F.Null is small literal = refl
  level-agree kind (ValueKind-F.Variable name) is small literal = refl
  level-agree kind (ValueKind-F.Int text) is small literal = refl
  level-agree kind (ValueKind-F.Float text) is small literal = refl
  level-agree kind (ValueKind-F.String text) is small literal = refl
  level-agree kind (ValueKind-F.Boolean truth) is small literal = refl
  level-agree kind (ValueKind-F.Enum name) is small literal = refl
  level-agree kind (ValueKind-F.List items) is small literal = λ i d ty. array-agree (item_type ty) items (omega (arith, depth-List kind items is)) literal d ty i
  level-agree kind (ValueKind-F.Object members) is small literal =
      λ i d ty. mapped (wrap ty) (members-agree (input_object_called (named_type ty).text types) members (omega (arith, depth-Object kind members is)) d (named_type ty) literal i)

  rule-agree : (literal : Value) → depth literal ≤ n → literal_rule types env f literal ≡ literal_rule types env g literal
  rule-agree literal small =
      level-agree literal.kind (out-ValueKind literal.kind) refl small literal

module _ (types : List ExtendedType) (env : Members) where
  enough : (n m : ℕ) (literal : Value) → depth literal < n → depth literal < m → literal_within types env n literal ≡ literal_within types env m literal
  unfolding literal_within
  enough zero m literal a b = absurd (omega arith)
  enough (suc n) zero literal a b = absurd (omega arith)
  enough (suc n) (suc m) literal a b =
      rule-agree types env (literal_within types env n) (literal_within types env m) (depth literal) (λ inside small. enough n m inside (omega arith) (omega arith)) literal (omega arith)

  pub literal-by_rule : (literal : Value) → coerced_literal types env literal ≡ literal_rule types env (coerced_literal types env) literal
  unfolding literal_within coerced_literal
  literal-by_rule literal =
      rule-agree types env (literal_within types env (depth literal)) (coerced_literal types env) (depth literal)
      (λ inside small. enough (depth literal) (suc (depth inside)) inside small (omega arith)) literal (omega arith)

  at_kind : (x : ValueKind-F ValueKind Value) (literal : Value) (d : List ℕ) (ty : TypeRef) → out-ValueKind literal.kind ≡ x
      → coerced_literal types env literal d ty ≡ literal_level types env (coerced_literal types env) x literal d ty
  at_kind x literal d ty is =
      ap (λ (coercion : Coercion). coercion d ty) (literal-by_rule literal) ∙ ap (λ inside. literal_level types env (coerced_literal types env) inside literal d ty) is

  pub at-Null : (literal : Value) (d : List ℕ) (ty : TypeRef) → literal.kind ≡ NullKind → coerced_literal types env literal d ty ≡ null_at literal.location d ty
  at-Null literal d ty is = let opened : out-ValueKind NullKind ≡ ValueKind-F.Null = search (rules, the_lemmas) in at_kind ValueKind-F.Null literal d ty (ap out-ValueKind is ∙ opened)

  pub at-Variable : (literal : Value) (name : Named) (d : List ℕ) (ty : TypeRef) → literal.kind ≡ Variable name
      → coerced_literal types env literal d ty ≡ variable_at literal.location d ty (lookup (bytes_eq name.text) env)
  at-Variable literal name d ty is =
      let opened : out-ValueKind (Variable name) ≡ ValueKind-F.Variable name = search (rules, the_lemmas) in at_kind (ValueKind-F.Variable name) literal d ty (ap out-ValueKind is ∙ opened)

  abbrev pub Single : Value → List ℕ → TypeRef → Type 0
  Single literal d ty = coerced_literal types env literal d ty ≡ mapped (wrap ty) (literal_leaf types d (named_type ty) literal)

  pub at-Int : (literal : Value) (text : List ℕ) (d : List ℕ) (ty : TypeRef) → literal.kind ≡ Int text → Single literal d ty
  at-Int literal text d ty is = let opened : out-ValueKind (Int text) ≡ ValueKind-F.Int text = search (rules, the_lemmas) in at_kind (ValueKind-F.Int text) literal d ty (ap out-ValueKind is ∙ opened)

  pub at-Float : (literal : Value) (text : List ℕ) (d : List ℕ) (ty : TypeRef) → literal.kind ≡ Float text → Single literal d ty
  at-Float literal text d ty is = let opened : out-ValueKind (Float text) ≡ ValueKind-F.Float text = search (rules, the_lemmas) in at_kind (ValueKind-F.Float text) literal d ty (ap out-ValueKind is ∙ opened)

  pub at-String : (literal : Value) (text : List ℕ) (d : List ℕ) (ty : TypeRef) → literal.kind ≡ StringKind text → Single literal d ty
  at-String literal text d ty is = let opened : out-ValueKind (StringKind text) ≡ ValueKind-F.String text = search (rules, the_lemmas) in at_kind (ValueKind-F.String text) literal d ty (ap out-ValueKind is ∙ opened)

  pub at-Boolean : (literal : Value) (truth : Bool) (d : List ℕ) (ty : TypeRef) → literal.kind ≡ Boolean truth → Single literal d ty
  at-Boolean literal truth d ty is = let opened : out-ValueKind (Boolean truth) ≡ ValueKind-F.Boolean truth = search (rules, the_lemmas) in at_kind (ValueKind-F.Boolean truth) literal d ty (ap out-ValueKind is ∙ opened)

  pub at-Enum : (literal : Value) (name : Named) (d : List ℕ) (ty : TypeRef) → literal.kind ≡ Enum name → Single literal d ty
  at-Enum literal name d ty is = let opened : out-ValueKind (Enum name) ≡ ValueKind-F.Enum name = search (rules, the_lemmas) in at_kind (ValueKind-F.Enum name) literal d ty (ap out-ValueKind is ∙ opened)

  pub at-List : (literal : Value) (items : List Value) (d : List ℕ) (ty : TypeRef) (found : Option TypeRef) → literal.kind ≡ ListKind items → item_type ty ≡ found
      → coerced_literal types env literal d ty ≡ literal_array types env (coerced_literal types env) found items literal d ty
  at-List literal items d ty found is found_is =
      let opened : out-ValueKind (ListKind items) ≡ ValueKind-F.List items = search (rules, the_lemmas) in
      at_kind (ValueKind-F.List items) literal d ty (ap out-ValueKind is ∙ opened) ∙ ap (λ item. literal_array types env (coerced_literal types env) item items literal d ty) found_is

  pub at-Object : (literal : Value) (members : Literals) (d : List ℕ) (ty : TypeRef) → literal.kind ≡ ObjectKind members
      → coerced_literal types env literal d ty ≡ mapped (wrap ty) (literal_members types env (coerced_literal types env) members d (named_type ty) literal)
  at-Object literal members d ty is =
      let opened : out-ValueKind (ObjectKind members) ≡ ValueKind-F.Object members = search (rules, the_lemmas) in
      at_kind (ValueKind-F.Object members) literal d ty (ap out-ValueKind is ∙ opened)

  only_by_depth : (f : Value → Coercion) → ((literal : Value) → f literal ≡ literal_rule types env f literal) → (n : ℕ) (literal : Value) → depth literal < n
      → f literal ≡ coerced_literal types env literal
  only_by_depth f follows zero literal small = absurd (omega arith)
  only_by_depth f follows (suc n) literal small =
      follows literal
      ∙ rule-agree types env f (coerced_literal types env) (depth literal) (λ inside less. only_by_depth f follows n inside (omega arith)) literal (omega arith)
      ∙ sym (literal-by_rule literal)

  -- and nothing else follows it
  pub literal-only : (f : Value → Coercion) → ((literal : Value) → f literal ≡ literal_rule types env f literal) → (literal : Value) → f literal ≡ coerced_literal types env literal
  literal-only f follows literal = only_by_depth f follows (suc (depth literal)) literal (omega arith)

-- ---- A literal with members

-- ---- The value of a field

module _ (below : Value → Coercion) (place : Option Span) (members : Literals) (T : List ℕ) (field : InputValueDefinition) where
  pub field-given : (literal : Value) → last_named (field_name field) members ≡ Some literal
      → literal_field below place members T field ≡ mapped Some (below literal (field_words T (field_name field)) field.ty)
  field-given literal is = ap (λ found. literal_given below found place T field) is

  pub field-absent : last_named (field_name field) members ≡ None
      → literal_field below place members T field ≡ not_given (field_words T (field_name field)) field.ty field.default_value (fault_at place (missing_field T (field_name field)))
  field-absent is = ap (λ found. literal_given below found place T field) is
