-- The nodes of a literal, one level after another.
use Rattle.std.proofs.Common.{◌≡◌, ℕ, Bool, Option, List, [], ◌∷◌, ◌++◌, map, refl, sym, ap, ◌∙◌, append_assoc, rules}
use Rattle.std.specs.List.{flat_map}
use Rattle.std.specs.Option.{option_and_then}
use Rattle.std.proofs.lemmas.List.{append-nil}
use Rattle.gql_ast_base.specs.Names.{Named}
use Rattle.gql_ast_base.specs.declared.type_ref.TypeRef.{TypeRef}
use Rattle.gql_ast_base.specs.declared.value.Value.{Value}
use Rattle.gql_ast_base.specs.declared.value.ValueKind.{ValueKind, out-ValueKind, List as ListKind, Object as ObjectKind, the_lemmas}
use Rattle.gql_ast_base.specs.declared.value.ValueKind.TheVariants as kind
use Rattle.gql_diag_messages.specs.declared.diagnostic_data.DiagnosticData.{DiagnosticData}
use Rattle.gql_ast_base.specs.TypeParts.{item_type}
use Rattle.gql_rules_values.specs.declared.known.Defined.{Defined}
use Rattle.gql_rules_values.specs.Literals.{node_faults, literal_faults}
use Rattle.gql_rules_values.specs.Typed.{Typed, Nodes, typed, inside, items_level, members_level, items_of, members_of, of_items, of_members, member_type}
use Rattle.gql_schema_types.specs.declared.types.ExtendedType.{ExtendedType}

flat_map-append : {A B : Type 0} (f : A → List B) (xs ys : List A) → flat_map f (xs ++ ys) ≡ flat_map f xs ++ flat_map f ys
flat_map-append f [] ys = refl
flat_map-append f (x ∷ xs) ys = ap (λ l. f x ++ l) (flat_map-append f xs ys) ∙ sym (append_assoc (f x) (flat_map f xs) (flat_map f ys))

flat_map-twice : {A B C : Type 0} (f : B → List C) (g : A → List B) (xs : List A) → flat_map f (flat_map g xs) ≡ flat_map (λ x. flat_map f (g x)) xs
flat_map-twice f g [] = refl
flat_map-twice f g (x ∷ xs) = flat_map-append f (g x) (flat_map g xs) ∙ ap (λ l. flat_map f (g x) ++ l) (flat_map-twice f g xs)

module _ (defined : Defined) (types : List ExtendedType) where
  -- the nodes of one value, which is given again
  abbrev of_value : Value → Nodes
  of_value value ty literal = record { ty = ty; literal = literal } ∷ inside types value.kind ty literal

  unfolding_typed : (ty : Option TypeRef) (literal : Value) → typed types ty literal ≡ of_value literal ty literal
  unfolding typed
  unfolding_typed ty literal = refl

  inside-List : (items : List Value) (ty : Option TypeRef) (literal : Value) → inside types (ListKind items) ty literal ≡ of_items (map of_value items) (option_and_then item_type ty) (items_of literal)
  inside-List items ty literal = search (rules, the_lemmas)

  abbrev of_pairs : List (Named × Value) → List (Named × Nodes)
  of_pairs members = map (λ member. (member.0, of_value member.1)) members

  inside-Object : (members : List (Named × Value)) (ty : Option TypeRef) (literal : Value)
      → inside types (ObjectKind members) ty literal ≡ of_members (of_pairs members) (λ key. option_and_then (member_type types key) ty) (members_of literal)
  inside-Object members ty literal = search (rules, the_lemmas)

  items_nodes : (ty : Option TypeRef) (items : List Value) → of_items (map of_value items) ty items ≡ flat_map (typed types ty) items
  items_nodes ty [] = refl
  items_nodes ty (item ∷ items) = λ i. sym (unfolding_typed ty item) i ++ items_nodes ty items i

  members_nodes : (type_of : List ℕ → Option TypeRef) (members : List (Named × Value)) → of_members (of_pairs members) type_of members ≡ flat_map (λ member. typed types (type_of member.0.text) member.1) members
  members_nodes type_of [] = refl
  members_nodes type_of (member ∷ members) = λ i. sym (unfolding_typed (type_of member.0.text) member.1) i ++ members_nodes type_of members i

  items-List : (items : List Value) → items_level (out-ValueKind (ListKind items)) ≡ items
  items-List items = search (rules, the_lemmas)

  members-Object : (members : List (Named × Value)) → members_level (out-ValueKind (ObjectKind members)) ≡ members
  members-Object members = search (rules, the_lemmas)

  split : (ty : Option TypeRef) (literal : Value) (nodes : List Typed) → inside types literal.kind ty literal ≡ nodes
      → literal_faults defined types ty literal ≡ node_faults defined types (record { ty = ty; literal = literal }) ++ flat_map (node_faults defined types) nodes
  split ty literal nodes is = ap (flat_map (node_faults defined types)) (unfolding_typed ty literal) ∙ ap (λ l. node_faults defined types (record { ty = ty; literal = literal }) ++ flat_map (node_faults defined types) l) is

  -- what is wrong with a list: with itself, and with each item
  pub at-List : (ty : Option TypeRef) (literal : Value) (items : List Value) → literal.kind ≡ ListKind items
      → literal_faults defined types ty literal ≡ node_faults defined types (record { ty = ty; literal = literal }) ++ flat_map (literal_faults defined types (option_and_then item_type ty)) items
  at-List ty literal items is =
      let t = option_and_then item_type ty in
      let within : items_of literal ≡ items = ap (λ k. items_level (out-ValueKind k)) is ∙ items-List items in
      let nodes : inside types literal.kind ty literal ≡ flat_map (typed types t) items =
      ap (λ k. inside types k ty literal) is ∙ inside-List items ty literal ∙ ap (of_items (map of_value items) t) within ∙ items_nodes t items in
      split ty literal (flat_map (typed types t) items) nodes
      ∙ ap (λ l. node_faults defined types (record { ty = ty; literal = literal }) ++ l) (flat_map-twice (node_faults defined types) (typed types t) items)

  -- what is wrong with an object: with itself, and with the value of each pair
  pub at-Object : (ty : Option TypeRef) (literal : Value) (members : List (Named × Value)) → literal.kind ≡ ObjectKind members
      → literal_faults defined types ty literal
      ≡ node_faults defined types (record { ty = ty; literal = literal }) ++ flat_map (λ member. literal_faults defined types (option_and_then (member_type types member.0.text) ty) member.1) members
  at-Object ty literal members is =
      let f = λ (key : List ℕ). option_and_then (member_type types key) ty in
      let within : members_of literal ≡ members = ap (λ k. members_level (out-ValueKind k)) is ∙ members-Object members in
      let nodes : inside types literal.kind ty literal ≡ flat_map (λ (member : Named × Value). typed types (f member.0.text) member.1) members =
      ap (λ k. inside types k ty literal) is ∙ inside-Object members ty literal ∙ ap (of_members (of_pairs members) f) within ∙ members_nodes f members in
      split ty literal (flat_map (λ (member : Named × Value). typed types (f member.0.text) member.1) members) nodes
      ∙ ap (λ l. node_faults defined types (record { ty = ty; literal = literal }) ++ l) (flat_map-twice (node_faults defined types) (λ (member : Named × Value). typed types (f member.0.text) member.1) members)

  -- what is wrong with a value that has none inside
  abbrev Single : ValueKind → Type 0
  Single k = (ty : Option TypeRef) (literal : Value) → literal.kind ≡ k → literal_faults defined types ty literal ≡ node_faults defined types (record { ty = ty; literal = literal })

  alone : (k : ValueKind) → ((ty : Option TypeRef) (literal : Value) → inside types k ty literal ≡ []) → Single k
  alone k none ty literal is = split ty literal [] (ap (λ k. inside types k ty literal) is ∙ none ty literal) ∙ append-nil (node_faults defined types (record { ty = ty; literal = literal }))

  pub at-Null : Single kind.Null
  at-Null = alone kind.Null (λ ty literal. search (rules, the_lemmas))

  pub at-Variable : (name : Named) → Single (kind.Variable name)
  at-Variable name = alone (kind.Variable name) (λ ty literal. search (rules, the_lemmas))

  pub at-Int : (text : List ℕ) → Single (kind.Int text)
  at-Int text = alone (kind.Int text) (λ ty literal. search (rules, the_lemmas))

  pub at-Float : (text : List ℕ) → Single (kind.Float text)
  at-Float text = alone (kind.Float text) (λ ty literal. search (rules, the_lemmas))

  pub at-String : (text : List ℕ) → Single (kind.String text)
  at-String text = alone (kind.String text) (λ ty literal. search (rules, the_lemmas))

  pub at-Boolean : (truth : Bool) → Single (kind.Boolean truth)
  at-Boolean truth = alone (kind.Boolean truth) (λ ty literal. search (rules, the_lemmas))

  pub at-Enum : (name : Named) → Single (kind.Enum name)
  at-Enum name = alone (kind.Enum name) (λ ty literal. search (rules, the_lemmas))

-- what is listed for a node, and then for what is inside
pub joined : (old mid new node inner whole : List DiagnosticData) → mid ≡ old ++ node → whole ≡ node ++ inner → new ≡ mid ++ inner → new ≡ old ++ whole
joined old mid new node inner whole p q r = r ∙ ap (λ l. l ++ inner) p ∙ append_assoc old node inner ∙ ap (λ l. old ++ l) (sym q)

pub alone_listed : (old new node whole : List DiagnosticData) → new ≡ old ++ node → whole ≡ node → new ≡ old ++ whole
alone_listed old new node whole p q = p ∙ ap (λ l. old ++ l) (sym q)
