-- A definition of a sentence stands for one.
use Rattle.std.proofs.Common.{◌≡◌, ℕ, ◌≤◌, arith, Bool, true, false, List, length, is_some, Option, Some, None, refl, sym, ap, ◌∙◌, subst}
use Rattle.std.specs.Prelude.{option_and_then}
use Rattle.gql_source.specs.declared.file_id.FileId.{FileId}
use Rattle.gql_grammar.specs.declared.word.Word.{Word}
use Rattle.gql_grammar.specs.declared.symbol.Symbol.{Symbol}
use Rattle.gql_grammar.specs.declared.rule.Rule.TheVariants as rule
use Rattle.gql_grammar.specs.declared.syntax_kind.SyntaxKind.{SyntaxKind}
use Rattle.gql_grammar.specs.declared.syntax_kind.SyntaxKind.TheVariants as kind
use Rattle.gql_grammar.specs.Grammar.{declared}
use Rattle.gql_grammar.specs.Nodes.{IsAllowed, AllAllowed}
use Rattle.gql_grammar.specs.Row.{Row}
use Rattle.gql_grammar.specs.Sentence.{Fits, IsOneOf, here, there}
use Rattle.gql_cst.specs.Forest.{Forest, Plain, nothing, tree_then}
use Rattle.gql_cst.specs.Leaves.{node, part_of, leaves}
use Rattle.gql_cst.specs.Sentences.{shown}
use Rattle.gql_ast_base.specs.Kinds.{is_kind}
use Rattle.gql_ast_base.specs.Parts.{Text, gather, first as first_of, child, inside, nth_name}
use Rattle.gql_ast_base.specs.NamedTypes.{named_type_in}
use Rattle.gql_ast.specs.Operations.{operation_of, fragment_of}
use Rattle.gql_ast.specs.Selections.{type_condition}
use Rattle.gql_ast.specs.Definitions.{scalar_of, object_of, interface_of, union_of, enum_of, input_object_of}
use Rattle.gql_ast.specs.Schemas.{directive_definition_of, schema_of}
use Rattle.std.specs.Option.{option_map}
use Rattle.gql_ast.specs.declared.definition.Definition.{Definition}
use Rattle.gql_ast.specs.declared.definition.Definition.TheVariants as definition
use Rattle.gql_ast.specs.Documents.{executable_definition_of, schema_definition_of, type_definition_of, choice_of, definition_of}
use Rattle.gql_ast_laws.proofs.Blind.{tree as plain_tree}
use Rattle.gql_ast_laws.proofs.Inner.{both_ways, here as child_here, later as child_later}
use Rattle.gql_ast_laws.proofs.Shown.{AreSpelled, child-of, inside-is, name-at}
use Rattle.gql_ast_laws.proofs.Tops.{first, next, HasNode, tops, has-node}
use Rattle.gql_ast_laws.proofs.TypeFound.{some-map, head-first, head-rest}
use Rattle.gql_ast_laws.proofs.Ways.{made, only-names, only-node}
use Rattle.gql_ast_laws.proofs.ExtensionFound.{some-left, some-right, extension-found}

some-same : {A : Type 0} (x y : A) → Some x ≡ Some y → x ≡ y
some-same x y h = cc

some-then : {A B : Type 0} (f : A → Option B) (o : Option A) → is_some o ≡ true → ((x : A) → is_some (f x) ≡ true) → is_some (option_and_then f o) ≡ true
some-then f None h g = h
some-then f (Some x) h g = g x

-- what is made of the first tree of a kind
first-some : {T : Type 0} (f : Plain → Option T) (k : SyntaxKind) (row : Forest) (t : Plain) → child k row ≡ Some t → is_some (f t) ≡ true → is_some (first_of f row) ≡ true
first-some f k nothing t e h = absurd (cc)
first-some f k (tree_then kind start end children rest) t e h =
    let one = plain_tree kind start end children in
    both_ways (is_kind kind k)
    (λ q.
    let same : one ≡ t = some-same one t (sym (child_here k kind start end children rest q) ∙ e) in
    head-first (f one) (gather f rest) (ap (λ x. is_some (f x)) same ∙ h))
    (λ q. head-rest (f one) (gather f rest) (first-some f k rest t (sym (child_later k kind start end children rest q) ∙ e) h))

-- the kinds of nodes that define something
abbrev pub is_defining : SyntaxKind → Bool
is_defining kind.OperationDefinition = true
is_defining kind.FragmentDefinition = true
is_defining kind.SchemaDefinition = true
is_defining kind.DirectiveDefinition = true
is_defining kind.ScalarTypeDefinition = true
is_defining kind.ObjectTypeDefinition = true
is_defining kind.InterfaceTypeDefinition = true
is_defining kind.UnionTypeDefinition = true
is_defining kind.EnumTypeDefinition = true
is_defining kind.InputObjectTypeDefinition = true
is_defining kind.Extension = true
is_defining _ = false

defining-node : (k : SyntaxKind) → is_defining k ≡ true → part_of k ≡ node
defining-node kind.OperationDefinition h = refl
defining-node kind.FragmentDefinition h = refl
defining-node kind.SchemaDefinition h = refl
defining-node kind.DirectiveDefinition h = refl
defining-node kind.ScalarTypeDefinition h = refl
defining-node kind.ObjectTypeDefinition h = refl
defining-node kind.InterfaceTypeDefinition h = refl
defining-node kind.UnionTypeDefinition h = refl
defining-node kind.EnumTypeDefinition h = refl
defining-node kind.InputObjectTypeDefinition h = refl
defining-node kind.Extension h = refl
defining-node _ h = absurd (cc)

record HasDefinition (row : Row) : Type 0 where
  k : SyntaxKind
  defining : is_defining k ≡ true
  has : HasNode k row

definition-way : {ws vs : List Word} {row : Row} (way : List Symbol) → IsOneOf way (declared rule.Definition) → Fits way ws row vs → HasDefinition row
definition-way _ here f = record { k = kind.OperationDefinition; defining = refl; has = has-node rule.OperationDefinition kind.OperationDefinition refl f first }
definition-way _ (there here) f = record { k = kind.FragmentDefinition; defining = refl; has = has-node rule.FragmentDefinition kind.FragmentDefinition refl f first }
definition-way _ (there (there here)) f = record { k = kind.SchemaDefinition; defining = refl; has = has-node rule.SchemaDefinition kind.SchemaDefinition refl f first }
definition-way _ (there (there (there here))) f = record { k = kind.DirectiveDefinition; defining = refl; has = has-node rule.DirectiveDefinition kind.DirectiveDefinition refl f first }
definition-way _ (there (there (there (there here)))) f = record { k = kind.ScalarTypeDefinition; defining = refl; has = has-node rule.ScalarTypeDefinition kind.ScalarTypeDefinition refl f first }
definition-way _ (there (there (there (there (there here))))) f = record { k = kind.ObjectTypeDefinition; defining = refl; has = has-node rule.ObjectTypeDefinition kind.ObjectTypeDefinition refl f first }
definition-way _ (there (there (there (there (there (there here)))))) f = record { k = kind.InterfaceTypeDefinition; defining = refl; has = has-node rule.InterfaceTypeDefinition kind.InterfaceTypeDefinition refl f first }
definition-way _ (there (there (there (there (there (there (there here))))))) f = record { k = kind.UnionTypeDefinition; defining = refl; has = has-node rule.UnionTypeDefinition kind.UnionTypeDefinition refl f first }
definition-way _ (there (there (there (there (there (there (there (there here)))))))) f = record { k = kind.EnumTypeDefinition; defining = refl; has = has-node rule.EnumTypeDefinition kind.EnumTypeDefinition refl f first }
definition-way _ (there (there (there (there (there (there (there (there (there here))))))))) f = record { k = kind.InputObjectTypeDefinition; defining = refl; has = has-node rule.InputObjectTypeDefinition kind.InputObjectTypeDefinition refl f first }
definition-way _ (there (there (there (there (there (there (there (there (there (there here)))))))))) f = record { k = kind.Extension; defining = refl; has = has-node rule.Extension kind.Extension refl f first }
definition-way _ (there (there (there (there (there (there (there (there (there (there (there x))))))))))) f = elim x [ ]

module _ (text : Text) (file : FileId) where
  -- each way to define something
  abbrev as_operation : Plain → Option Definition
  as_operation t = option_map definition.OperationDefinition (operation_of text file t)

  abbrev as_directive : Plain → Option Definition
  as_directive t = option_map definition.DirectiveDefinition (directive_definition_of text file t)

  abbrev as_scalar : Plain → Option Definition
  as_scalar t = option_map definition.ScalarTypeDefinition (scalar_of text file t)

  abbrev as_object : Plain → Option Definition
  as_object t = option_map definition.ObjectTypeDefinition (object_of text file t)

  abbrev as_interface : Plain → Option Definition
  as_interface t = option_map definition.InterfaceTypeDefinition (interface_of text file t)

  abbrev as_union : Plain → Option Definition
  as_union t = option_map definition.UnionTypeDefinition (union_of text file t)

  abbrev as_enum : Plain → Option Definition
  as_enum t = option_map definition.EnumTypeDefinition (enum_of text file t)

  -- the name of the first named type in a row that has one
  type-named : (f : Forest) → AllAllowed (shown text f) → AreSpelled text (leaves f) → HasNode kind.NamedType (shown text f) → is_some (named_type_in text file f) ≡ true
  unfolding named_type_in
  type-named f a h has =
      let c = child-of text kind.NamedType refl f a h has in
      let m = made kind.NamedType (shown text c.found.children) refl c.allowed in
      rw (inside-is text kind.NamedType f c) (name-at text file 0 c.found.children c.spelled (only-names _ m.way m.one m.fits))

  condition-named : (f : Forest) → AllAllowed (shown text f) → AreSpelled text (leaves f) → HasNode kind.TypeCondition (shown text f) → is_some (type_condition text file f) ≡ true
  unfolding type_condition
  condition-named f a h has =
      let c = child-of text kind.TypeCondition refl f a h has in
      let m = made kind.TypeCondition (shown text c.found.children) refl c.allowed in
      rw (inside-is text kind.TypeCondition f c)
      (type-named c.found.children c.below c.spelled (only-node _ m.way rule.NamedType kind.NamedType refl (next first) m.one m.fits))

  fragment-named : (f : Forest) → AllAllowed (shown text f) → AreSpelled text (leaves f) → HasNode kind.FragmentName (shown text f) → is_some (nth_name text file 0 (inside kind.FragmentName f)) ≡ true
  fragment-named f a h has =
      let c = child-of text kind.FragmentName refl f a h has in
      let m = made kind.FragmentName (shown text c.found.children) refl c.allowed in
      rw (inside-is text kind.FragmentName f c) (name-at text file 0 c.found.children c.spelled (only-names _ m.way m.one m.fits))

  -- an operation has a selection set, whichever way it is written
  operation-set : {ws vs : List Word} {row : Row} (way : List Symbol) → IsOneOf way (declared rule.OperationDefinition) → Fits way ws row vs → HasNode kind.SelectionSet row
  operation-set _ here f = has-node rule.SelectionSet kind.SelectionSet refl f first
  operation-set _ (there here) f = has-node rule.SelectionSet kind.SelectionSet refl f (next (next (next (next first))))
  operation-set _ (there (there x)) f = elim x [ ]

  module _ (start end : ℕ) (children : Forest) (below : AllAllowed (shown text children)) (h : AreSpelled text (leaves children)) where
    operation-found : IsAllowed kind.OperationDefinition (shown text children) → is_some (operation_of text file (plain_tree kind.OperationDefinition start end children)) ≡ true
    unfolding operation_of is_kind
    operation-found a =
        let m = made kind.OperationDefinition (shown text children) refl a in
        let c = child-of text kind.SelectionSet refl children below h (operation-set m.way m.one m.fits) in
        some-map _ _ (ap is_some c.is)

    fragment-found : IsAllowed kind.FragmentDefinition (shown text children) → is_some (fragment_of text file (plain_tree kind.FragmentDefinition start end children)) ≡ true
    unfolding fragment_of is_kind
    fragment-found a =
        let m = made kind.FragmentDefinition (shown text children) refl a in
        let c = child-of text kind.SelectionSet refl children below h (only-node _ m.way rule.SelectionSet kind.SelectionSet refl (next (next (next (next first)))) m.one m.fits) in
        let name = fragment-named children below h (only-node _ m.way rule.FragmentName kind.FragmentName refl (next first) m.one m.fits) in
        let condition = condition-named children below h (only-node _ m.way rule.TypeCondition kind.TypeCondition refl (next (next first)) m.one m.fits) in
        some-then _ _ (ap is_some c.is) (λ set. some-then _ _ name (λ n. some-map _ _ condition))

    schema-found : is_some (schema_of text file (plain_tree kind.SchemaDefinition start end children)) ≡ true
    unfolding schema_of is_kind
    schema-found = refl

    directive-found : IsAllowed kind.DirectiveDefinition (shown text children) → is_some (directive_definition_of text file (plain_tree kind.DirectiveDefinition start end children)) ≡ true
    unfolding directive_definition_of is_kind
    directive-found a =
        let m = made kind.DirectiveDefinition (shown text children) refl a in
        some-map _ _ (name-at text file 1 children h (let n : 4 ≤ length (tops (shown text children)) = only-names _ m.way m.one m.fits in omega arith))

    scalar-found : IsAllowed kind.ScalarTypeDefinition (shown text children) → is_some (scalar_of text file (plain_tree kind.ScalarTypeDefinition start end children)) ≡ true
    unfolding scalar_of is_kind
    scalar-found a =
        let m = made kind.ScalarTypeDefinition (shown text children) refl a in
        some-map _ _ (name-at text file 1 children h (only-names _ m.way m.one m.fits))

    object-found : IsAllowed kind.ObjectTypeDefinition (shown text children) → is_some (object_of text file (plain_tree kind.ObjectTypeDefinition start end children)) ≡ true
    unfolding object_of is_kind
    object-found a =
        let m = made kind.ObjectTypeDefinition (shown text children) refl a in
        some-map _ _ (name-at text file 1 children h (only-names _ m.way m.one m.fits))

    interface-found : IsAllowed kind.InterfaceTypeDefinition (shown text children) → is_some (interface_of text file (plain_tree kind.InterfaceTypeDefinition start end children)) ≡ true
    unfolding interface_of is_kind
    interface-found a =
        let m = made kind.InterfaceTypeDefinition (shown text children) refl a in
        some-map _ _ (name-at text file 1 children h (only-names _ m.way m.one m.fits))

    union-found : IsAllowed kind.UnionTypeDefinition (shown text children) → is_some (union_of text file (plain_tree kind.UnionTypeDefinition start end children)) ≡ true
    unfolding union_of is_kind
    union-found a =
        let m = made kind.UnionTypeDefinition (shown text children) refl a in
        some-map _ _ (name-at text file 1 children h (only-names _ m.way m.one m.fits))

    enum-found : IsAllowed kind.EnumTypeDefinition (shown text children) → is_some (enum_of text file (plain_tree kind.EnumTypeDefinition start end children)) ≡ true
    unfolding enum_of is_kind
    enum-found a =
        let m = made kind.EnumTypeDefinition (shown text children) refl a in
        some-map _ _ (name-at text file 1 children h (only-names _ m.way m.one m.fits))

    input_object-found : IsAllowed kind.InputObjectTypeDefinition (shown text children) → is_some (input_object_of text file (plain_tree kind.InputObjectTypeDefinition start end children)) ≡ true
    unfolding input_object_of is_kind
    input_object-found a =
        let m = made kind.InputObjectTypeDefinition (shown text children) refl a in
        some-map _ _ (name-at text file 1 children h (only-names _ m.way m.one m.fits))

  chosen : (k : SyntaxKind) → is_defining k ≡ true → (start end : ℕ) (children : Forest) → IsAllowed k (shown text children) → AllAllowed (shown text children) → AreSpelled text (leaves children)
      → is_some (choice_of text file (plain_tree k start end children)) ≡ true
  unfolding choice_of executable_definition_of schema_definition_of type_definition_of
  chosen kind.OperationDefinition e start end children a below h =
      some-left (executable_definition_of text file (plain_tree kind.OperationDefinition start end children)) _
      (some-left (as_operation (plain_tree kind.OperationDefinition start end children)) _
      (some-map definition.OperationDefinition (operation_of text file (plain_tree kind.OperationDefinition start end children)) (operation-found start end children below h a)))
  chosen kind.FragmentDefinition e start end children a below h =
      some-left (executable_definition_of text file (plain_tree kind.FragmentDefinition start end children)) _
      (some-right (as_operation (plain_tree kind.FragmentDefinition start end children)) _
      (some-map definition.FragmentDefinition (fragment_of text file (plain_tree kind.FragmentDefinition start end children)) (fragment-found start end children below h a)))
  chosen kind.DirectiveDefinition e start end children a below h =
      some-right (executable_definition_of text file (plain_tree kind.DirectiveDefinition start end children)) _
      (some-left (schema_definition_of text file (plain_tree kind.DirectiveDefinition start end children)) _
      (some-left (as_directive (plain_tree kind.DirectiveDefinition start end children)) _
      (some-map definition.DirectiveDefinition (directive_definition_of text file (plain_tree kind.DirectiveDefinition start end children)) (directive-found start end children below h a))))
  chosen kind.SchemaDefinition e start end children a below h =
      some-right (executable_definition_of text file (plain_tree kind.SchemaDefinition start end children)) _
      (some-left (schema_definition_of text file (plain_tree kind.SchemaDefinition start end children)) _
      (some-right (as_directive (plain_tree kind.SchemaDefinition start end children)) _
      (some-map definition.SchemaDefinition (schema_of text file (plain_tree kind.SchemaDefinition start end children)) (schema-found start end children below h))))
  chosen kind.ScalarTypeDefinition e start end children a below h =
      some-right (executable_definition_of text file (plain_tree kind.ScalarTypeDefinition start end children)) _
      (some-right (schema_definition_of text file (plain_tree kind.ScalarTypeDefinition start end children)) _
      (some-left (type_definition_of text file (plain_tree kind.ScalarTypeDefinition start end children)) _
      (some-left (as_scalar (plain_tree kind.ScalarTypeDefinition start end children)) _
      (some-map definition.ScalarTypeDefinition (scalar_of text file (plain_tree kind.ScalarTypeDefinition start end children)) (scalar-found start end children below h a)))))
  chosen kind.ObjectTypeDefinition e start end children a below h =
      some-right (executable_definition_of text file (plain_tree kind.ObjectTypeDefinition start end children)) _
      (some-right (schema_definition_of text file (plain_tree kind.ObjectTypeDefinition start end children)) _
      (some-left (type_definition_of text file (plain_tree kind.ObjectTypeDefinition start end children)) _
      (some-right (as_scalar (plain_tree kind.ObjectTypeDefinition start end children)) _
      (some-left (as_object (plain_tree kind.ObjectTypeDefinition start end children)) _
      (some-map definition.ObjectTypeDefinition (object_of text file (plain_tree kind.ObjectTypeDefinition start end children)) (object-found start end children below h a))))))
  chosen kind.InterfaceTypeDefinition e start end children a below h =
      some-right (executable_definition_of text file (plain_tree kind.InterfaceTypeDefinition start end children)) _
      (some-right (schema_definition_of text file (plain_tree kind.InterfaceTypeDefinition start end children)) _
      (some-left (type_definition_of text file (plain_tree kind.InterfaceTypeDefinition start end children)) _
      (some-right (as_scalar (plain_tree kind.InterfaceTypeDefinition start end children)) _
      (some-right (as_object (plain_tree kind.InterfaceTypeDefinition start end children)) _
      (some-left (as_interface (plain_tree kind.InterfaceTypeDefinition start end children)) _
      (some-map definition.InterfaceTypeDefinition (interface_of text file (plain_tree kind.InterfaceTypeDefinition start end children)) (interface-found start end children below h a)))))))
  chosen kind.UnionTypeDefinition e start end children a below h =
      some-right (executable_definition_of text file (plain_tree kind.UnionTypeDefinition start end children)) _
      (some-right (schema_definition_of text file (plain_tree kind.UnionTypeDefinition start end children)) _
      (some-left (type_definition_of text file (plain_tree kind.UnionTypeDefinition start end children)) _
      (some-right (as_scalar (plain_tree kind.UnionTypeDefinition start end children)) _
      (some-right (as_object (plain_tree kind.UnionTypeDefinition start end children)) _
      (some-right (as_interface (plain_tree kind.UnionTypeDefinition start end children)) _
      (some-left (as_union (plain_tree kind.UnionTypeDefinition start end children)) _
      (some-map definition.UnionTypeDefinition (union_of text file (plain_tree kind.UnionTypeDefinition start end children)) (union-found start end children below h a))))))))
  chosen kind.EnumTypeDefinition e start end children a below h =
      some-right (executable_definition_of text file (plain_tree kind.EnumTypeDefinition start end children)) _
      (some-right (schema_definition_of text file (plain_tree kind.EnumTypeDefinition start end children)) _
      (some-left (type_definition_of text file (plain_tree kind.EnumTypeDefinition start end children)) _
      (some-right (as_scalar (plain_tree kind.EnumTypeDefinition start end children)) _
      (some-right (as_object (plain_tree kind.EnumTypeDefinition start end children)) _
      (some-right (as_interface (plain_tree kind.EnumTypeDefinition start end children)) _
      (some-right (as_union (plain_tree kind.EnumTypeDefinition start end children)) _
      (some-left (as_enum (plain_tree kind.EnumTypeDefinition start end children)) _
      (some-map definition.EnumTypeDefinition (enum_of text file (plain_tree kind.EnumTypeDefinition start end children)) (enum-found start end children below h a)))))))))
  chosen kind.InputObjectTypeDefinition e start end children a below h =
      some-right (executable_definition_of text file (plain_tree kind.InputObjectTypeDefinition start end children)) _
      (some-right (schema_definition_of text file (plain_tree kind.InputObjectTypeDefinition start end children)) _
      (some-left (type_definition_of text file (plain_tree kind.InputObjectTypeDefinition start end children)) _
      (some-right (as_scalar (plain_tree kind.InputObjectTypeDefinition start end children)) _
      (some-right (as_object (plain_tree kind.InputObjectTypeDefinition start end children)) _
      (some-right (as_interface (plain_tree kind.InputObjectTypeDefinition start end children)) _
      (some-right (as_union (plain_tree kind.InputObjectTypeDefinition start end children)) _
      (some-right (as_enum (plain_tree kind.InputObjectTypeDefinition start end children)) _
      (some-map definition.InputObjectTypeDefinition (input_object_of text file (plain_tree kind.InputObjectTypeDefinition start end children)) (input_object-found start end children below h a)))))))))
  chosen kind.Extension e start end children a below h =
      some-right (executable_definition_of text file (plain_tree kind.Extension start end children)) _
      (some-right (schema_definition_of text file (plain_tree kind.Extension start end children)) _
      (some-right (type_definition_of text file (plain_tree kind.Extension start end children)) _ (extension-found text file start end children below h a)))
  chosen _ e start end children a below h = absurd (cc)

  -- a definition has one of them
  pub definition-found : (start end : ℕ) (children : Forest) → IsAllowed kind.Definition (shown text children) → AllAllowed (shown text children) → AreSpelled text (leaves children)
      → is_some (definition_of text file (plain_tree kind.Definition start end children)) ≡ true
  unfolding definition_of is_kind
  definition-found start end children a below h =
      let m = made kind.Definition (shown text children) refl a in
      let d = definition-way m.way m.one m.fits in
      let c = child-of text d.k (defining-node d.k d.defining) children below h d.has in
      first-some (choice_of text file) d.k children c.found c.is
      (subst (λ k. is_some (choice_of text file (plain_tree k c.found.start c.found.end c.found.children)) ≡ true) (sym c.kind)
      (chosen d.k d.defining c.found.start c.found.end c.found.children c.allowed c.below c.spelled))
