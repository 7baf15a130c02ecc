-- Coercion of a value by its rule, level by level.
use Rattle.std.proofs.Common.{◌≡◌, ℕ, ℤ, zero, suc, ◌≤◌, ◌<◌, ◌+◌, max, List, [], ◌∷◌, map, Option, Some, None, Bool, true, false, cond, if◌then◌else◌, Ok, Err, refl, sym, ap, ◌∙◌, rules, arith}
use Rattle.std.specs.Str.{bytes_eq}
use Rattle.std.specs.Map.{lookup, keys_of, values_of}
use denote.Param.Weighed.{most}
use Rattle.jb_tree.specs.declared.value.Value.{Value, Null, Bool as Truth, Number, String, Array, Object, roll-Value, out-Value, size-Value, the_lemmas}
use Rattle.jb_tree.specs.declared.value.Value.TheOpen.{Value-F}
use Rattle.gql_ast_base.specs.Names.{Named}
use Rattle.gql_ast_base.specs.declared.type_ref.TypeRef.{TypeRef}
use Rattle.gql_ast.specs.declared.field_definition.InputValueDefinition.{InputValueDefinition}
use Rattle.gql_schema_types.specs.declared.types.ExtendedType.{ExtendedType}
use Rattle.gql_schema_types.specs.declared.types.InputObjectType.{InputObjectType}
use Rattle.gql_coerce.specs.Outcome.{mapped, all_of}
use Rattle.gql_coerce.specs.Faults.{fault}
use Rattle.gql_coerce.specs.Messages.{missing_field, null_value}
use Rattle.gql_coerce.specs.Subject.{field_words}
use Rattle.gql_ast_base.specs.TypeParts.{named_type, is_non_null, item_type}
use Rattle.gql_coerce.specs.Wrapped.{wrap}
use Rattle.gql_coerce.specs.Filled.{Members, not_given, filled}
use Rattle.gql_coerce.specs.InputTypes.{input_object_called, field_name}
use Rattle.gql_coerce.specs.InputValue.{Coercion, misfit, refused_or, places, field_given, field_value, input_object, object_at, leaf, object, array, level, rule, within, coerced}

-- ---- What is inside a value is smaller

most_by : (size : Value → ℕ) (b : Bool) (e : List ℕ × Value) (es : List (List ℕ × Value)) (found : Option Value) (x : Value)
    → (found ≡ Some x → size x ≤ most size (values_of es)) → cond b (Some e.1) found ≡ Some x → size x ≤ most size (values_of (e ∷ es))
most_by size true e es found x rest h = let same : e.1 ≡ x = cc in omega (arith, ap size same)
most_by size false e es found x rest h = omega (arith, rest h)

lookup-most : (size : Value → ℕ) (key : List ℕ) (es : List (List ℕ × Value)) (x : Value) → lookup (bytes_eq key) es ≡ Some x → size x ≤ most size (values_of es)
lookup-most size key [] x found = cc
lookup-most size key (e ∷ es) x found = most_by size (bytes_eq key e.0) e es (lookup (bytes_eq key) es) x (lookup-most size key es x) found

pub lookup-within : (key : List ℕ) (es : List (List ℕ × Value)) (x : Value) → lookup (bytes_eq key) es ≡ Some x → size-Value x ≤ most size-Value (values_of es)
lookup-within key es x found = lookup-most size-Value key es x found

size-Array : (values : List Value) → size-Value (roll-Value (Value-F.Array values)) ≡ most size-Value values + 1
size-Array values = search (rules, the_lemmas)

size-Object : (members : Members) → size-Value (roll-Value (Value-F.Object members)) ≡ max (most size-Value (values_of members)) 0 + 1
size-Object members = search (rules, the_lemmas)

-- ---- Two ways to coerce that agree on what is smaller agree by the rule

module _ (f g : Value → Coercion) (n : ℕ) (agree : (value : Value) → size-Value value < n → f value ≡ g value) where
  items-agree : (d : List ℕ) (item : TypeRef) (values : List Value) → most size-Value values < n
      → map (λ (value : Value). f value d item) values ≡ map (λ (value : Value). g value d item) values
  items-agree d item [] small = refl
  items-agree d item (value ∷ values) small = λ i. agree value (omega arith) i d item ∷ items-agree d item values (omega arith) i

  found-agree : (T : List ℕ) (field : InputValueDefinition) (found : Option Value) → ((x : Value) → found ≡ Some x → size-Value x < n)
      → field_given f found T field ≡ field_given g found T field
  found-agree T field None small = refl
  found-agree T field (Some x) small = λ i. mapped Some (agree x (small x refl) i (field_words T (field_name field)) field.ty)

  field-agree : (members : Members) (T : List ℕ) → most size-Value (values_of members) < n → (field : InputValueDefinition) → field_value f members T field ≡ field_value g members T field
  field-agree members T small field =
      let name = field_name field in
      found-agree T field (lookup (bytes_eq name) members) (λ x is. omega (arith, lookup-within name members x is))

  input-agree : (T : List ℕ) (it : InputObjectType) (members : Members) → most size-Value (values_of members) < n
      → input_object f T it members ≡ input_object g T it members
  input-agree T it members small =
      λ i. refused_or (misfit T it members) (mapped Object (filled (λ field. field-agree members T small field i) field_name (places (keys_of members)) it.fields))

module _ (types : List ExtendedType) (f g : Value → Coercion) (n : ℕ) (agree : (value : Value) → size-Value value < n → f value ≡ g value) where
  array-agree : (found : Option TypeRef) (items : List Value) → most size-Value items < n → (value : Value) (d : List ℕ) (ty : TypeRef)
      → array types f found items value d ty ≡ array types g found items value d ty
  array-agree None items small value d ty = refl
  array-agree (Some item) items small value d ty = ap (λ outcomes. mapped Array (all_of outcomes)) (items-agree f g n agree d item items small)

  object-agree : (found : Option InputObjectType) (members : Members) → most size-Value (values_of members) < n → (d : List ℕ) (name : Named) (value : Value)
      → object_at types f found members d name value ≡ object_at types g found members d name value
  object-agree None members small d name value = refl
  object-agree (Some it) members small d name value = input-agree f g n agree name.text it members small

  level-agree : (x : Value-F Value) → size-Value (roll-Value x) ≤ n → (value : Value) → level types f x value ≡ level types g x value
  level-agree Value-F.Null small value = refl
  level-agree (Value-F.Bool truth) small value = refl
  level-agree (Value-F.Number number) small value = refl
  level-agree (Value-F.String text) small value = refl
  level-agree (Value-F.Array items) small value = λ i d ty. array-agree (item_type ty) items (omega (arith, size-Array items)) value d ty i
  level-agree (Value-F.Object members) small value =
      λ i d ty. mapped (wrap ty) (object-agree (input_object_called (named_type ty).text types) members (omega (arith, size-Object members)) d (named_type ty) value i)

  rule-agree : (value : Value) → size-Value value ≤ n → rule types f value ≡ rule types g value
  rule-agree value small =
      let opened : roll-Value (out-Value value) ≡ value = search (rules, the_lemmas) in
      level-agree (out-Value value) (omega (arith, ap size-Value opened)) value

module _ (types : List ExtendedType) where
  enough : (n m : ℕ) (value : Value) → size-Value value < n → size-Value value < m → within types n value ≡ within types m value
  unfolding within
  enough zero m value a b = absurd (omega arith)
  enough (suc n) zero value a b = absurd (omega arith)
  enough (suc n) (suc m) value a b =
      rule-agree types (within types n) (within types m) (size-Value value) (λ inside small. enough n m inside (omega arith) (omega arith)) value (omega arith)

  -- the rule holds at each level
  pub coerced-by_rule : (value : Value) → coerced types value ≡ rule types (coerced types) value
  unfolding within coerced
  coerced-by_rule value =
      rule-agree types (within types (size-Value value)) (coerced types) (size-Value value)
      (λ inside small. enough (size-Value value) (suc (size-Value inside)) inside small (omega arith)) value (omega arith)

  -- ---- The same of each kind of value

  at_type : (x : Value-F Value) (value : Value) (d : List ℕ) (ty : TypeRef) → out-Value value ≡ x → coerced types value d ty ≡ level types (coerced types) x value d ty
  at_type x value d ty is =
      ap (λ (coercion : Coercion). coercion d ty) (coerced-by_rule value) ∙ ap (λ inside. level types (coerced types) inside value d ty) is

  pub at-Null : (value : Value) (d : List ℕ) (ty : TypeRef) → value ≡ Null → coerced types value d ty ≡ (if is_non_null ty then Err (fault (null_value d ty)) else Ok Null)
  at-Null value d ty is = let opened : out-Value Null ≡ Value-F.Null = search (rules, the_lemmas) in at_type Value-F.Null value d ty (ap out-Value is ∙ opened)

  pub at-Bool : (value : Value) (truth : Bool) (d : List ℕ) (ty : TypeRef) → value ≡ Truth truth → coerced types value d ty ≡ mapped (wrap ty) (leaf types d (named_type ty) value)
  at-Bool value truth d ty is = let opened : out-Value (Truth truth) ≡ Value-F.Bool truth = search (rules, the_lemmas) in at_type (Value-F.Bool truth) value d ty (ap out-Value is ∙ opened)

  pub at-Number : (value : Value) (number : ℤ) (d : List ℕ) (ty : TypeRef) → value ≡ Number number → coerced types value d ty ≡ mapped (wrap ty) (leaf types d (named_type ty) value)
  at-Number value number d ty is = let opened : out-Value (Number number) ≡ Value-F.Number number = search (rules, the_lemmas) in at_type (Value-F.Number number) value d ty (ap out-Value is ∙ opened)

  pub at-String : (value : Value) (text : List ℕ) (d : List ℕ) (ty : TypeRef) → value ≡ String text → coerced types value d ty ≡ mapped (wrap ty) (leaf types d (named_type ty) value)
  at-String value text d ty is = let opened : out-Value (String text) ≡ Value-F.String text = search (rules, the_lemmas) in at_type (Value-F.String text) value d ty (ap out-Value is ∙ opened)

  pub at-Array : (value : Value) (items : List Value) (d : List ℕ) (ty : TypeRef) (found : Option TypeRef) → value ≡ Array items → item_type ty ≡ found
      → coerced types value d ty ≡ array types (coerced types) found items value d ty
  at-Array value items d ty found is found_is =
      let opened : out-Value (Array items) ≡ Value-F.Array items = search (rules, the_lemmas) in
      at_type (Value-F.Array items) value d ty (ap out-Value is ∙ opened) ∙ ap (λ item. array types (coerced types) item items value d ty) found_is

  pub at-Object : (value : Value) (members : Members) (d : List ℕ) (ty : TypeRef) → value ≡ Object members
      → coerced types value d ty ≡ mapped (wrap ty) (object types (coerced types) members d (named_type ty) value)
  at-Object value members d ty is =
      let opened : out-Value (Object members) ≡ Value-F.Object members = search (rules, the_lemmas) in
      at_type (Value-F.Object members) value d ty (ap out-Value is ∙ opened)

  only_by_size : (f : Value → Coercion) → ((value : Value) → f value ≡ rule types f value) → (n : ℕ) (value : Value) → size-Value value < n → f value ≡ coerced types value
  only_by_size f follows zero value small = absurd (omega arith)
  only_by_size f follows (suc n) value small =
      follows value
      ∙ rule-agree types f (coerced types) (size-Value value) (λ inside less. only_by_size f follows n inside (omega arith)) value (omega arith)
      ∙ sym (coerced-by_rule value)

  -- and nothing else follows it
  pub coerced-only : (f : Value → Coercion) → ((value : Value) → f value ≡ rule types f value) → (value : Value) → f value ≡ coerced types value
  coerced-only f follows value = only_by_size f follows (suc (size-Value value)) value (omega arith)

-- ---- A value with members

-- ---- The value of a field

module _ (below : Value → Coercion) (members : Members) (T : List ℕ) (field : InputValueDefinition) where
  pub field-given : (value : Value) → lookup (bytes_eq (field_name field)) members ≡ Some value → field_value below members T field ≡ mapped Some (below value (field_words T (field_name field)) field.ty)
  field-given value is = ap (λ found. field_given below found T field) is

  pub field-absent : lookup (bytes_eq (field_name field)) members ≡ None
      → field_value below members T field ≡ not_given (field_words T (field_name field)) field.ty field.default_value (fault (missing_field T (field_name field)))
  field-absent is = ap (λ found. field_given below found T field) is
