-- Values, types and selections, one level at a time.
use Rattle.std.proofs.Common.{rules, ◌≡◌, ℕ, ℤ, List, ◌++◌, map, codes}
use Rattle.jb_tree.specs.declared.value.Value.{Value, out-Value, the_lemmas as value_lemmas}
use Rattle.jb_tree.specs.declared.value.Value.TheVariants as json
use Rattle.jb_tree.specs.declared.value.Value.TheOpen.{Value-F}
use Rattle.jb_tree.specs.Tree.{tree, null, number, text, array, object, trees_of, members_of}
use Rattle.gql_ast_base.specs.Names.{Named}
use Rattle.gql_ast.specs.TypeText.{type_text}
use Rattle.gql_ast_base.specs.declared.type_ref.TypeRef.{TypeRef, out-TypeRef, the_lemmas as type_lemmas}
use Rattle.gql_ast_base.specs.declared.type_ref.TypeRef.TheVariants as type
use Rattle.gql_ast_base.specs.declared.type_ref.TypeRef.TheOpen.{TypeRef-F}
use Rattle.gql_ast_base.specs.TypeParts.{named_type}
use Rattle.gql_document_types.specs.declared.selection.Field.{Field}
use Rattle.gql_document_types.specs.declared.selection.Selection.{the_lemmas as selection_lemmas}
use Rattle.gql_document_types.specs.declared.selection.Selection.TheVariants as selection
use Rattle.gql_collect.proofs.Views.{view-field, view-node}
use Rattle.gql_collect.specs.Sizes.{own}
use Rattle.gql_document_types.proofs.Variants.{out-field}

-- ---- selections

pub own-field : (f : Field) → own (selection.Field f) ≡ 1
own-field f = search (rules, selection_lemmas)

-- for the fields of sets, and for how deep they go
pub ruleset selected = (out-field, own-field)

pub ruleset nested = (view-field, view-node)

-- ---- types, and values at one level

pub out-null : out-Value json.Null ≡ Value-F.Null
out-null = search (rules, value_lemmas)

pub out-number : (z : ℤ) → out-Value (json.Number z) ≡ Value-F.Number z
out-number z = search (rules, value_lemmas)

pub out-named : (name : Named) → out-TypeRef (type.Named name) ≡ TypeRef-F.Named name
out-named name = search (rules, type_lemmas)

pub out-strict : (name : Named) → out-TypeRef (type.NonNullNamed name) ≡ TypeRef-F.NonNullNamed name
out-strict name = search (rules, type_lemmas)

pub out-list : (item : TypeRef) → out-TypeRef (type.List item) ≡ TypeRef-F.List item
out-list item = search (rules, type_lemmas)

pub named-named : (name : Named) → named_type (type.Named name) ≡ name
named-named name = search (rules, type_lemmas)

pub named-strict : (name : Named) → named_type (type.NonNullNamed name) ≡ name
named-strict name = search (rules, type_lemmas)

pub named-list : (item : TypeRef) → named_type (type.List item) ≡ named_type item
named-list item = search (rules, type_lemmas)

pub text-strict : (name : Named) → type_text (type.NonNullNamed name) ≡ name.text ++ codes "!"
text-strict name = search (rules, type_lemmas)

-- for what fits a type
pub ruleset fitting = (out-null, out-number, out-named, out-strict, out-list, named-named, named-strict, named-list, text-strict)

-- ---- values as trees

pub tree-null : tree json.Null ≡ null
tree-null = search (rules, value_lemmas)

pub tree-number : (z : ℤ) → tree (json.Number z) ≡ number z
tree-number z = search (rules, value_lemmas)

pub tree-text : (bytes : List ℕ) → tree (json.String bytes) ≡ text bytes
tree-text bytes = search (rules, value_lemmas)

pub tree-array : (values : List Value) → tree (json.Array values) ≡ array (trees_of (map tree values))
tree-array values = search (rules, value_lemmas)

pub tree-object : (members : List (List ℕ × Value)) → tree (json.Object members) ≡ object (members_of (map (λ m. (m.0, tree m.1)) members))
tree-object members = search (rules, value_lemmas)

-- for the text of a value
pub ruleset printing = (tree-null, tree-number, tree-text, tree-array, tree-object)
