-- What an extension is made of is what its row keeps.
use Rattle.std.proofs.Common.{◌≡◌, ℕ, Bool, true, false, if◌then◌else◌, Option, Some, None, refl, sym, ap, subst, ◌∙◌}
use Rattle.std.proofs.lemmas.Slice.Eq.{bytes_eq-Decides}
use Rattle.std.specs.Prelude.{codes}
use Rattle.std.specs.Option.{option_map}
use Rattle.std.specs.Str.{bytes_eq}
use Rattle.gql_source.specs.declared.file_id.FileId.{FileId}
use Rattle.gql_source.specs.Span.{Span}
use Rattle.gql_ast_base.specs.Forest.{Forest, Plain}
use Rattle.gql_ast_base.specs.SyntaxKind.TheVariants as kind
use Rattle.gql_ast_base.specs.Kinds.{is_kind}
use Rattle.gql_ast_base.specs.Parts.{Text, gather, or_else, is_word, nth_text, location, span, start_of, end_of}
use Rattle.gql_ast_base.specs.OperationTypes.{root_operation_of}
use Rattle.gql_ast.specs.Extensions.{extends, schema_extension_of, scalar_extension_of, object_extension_of, interface_extension_of}
use Rattle.gql_ast.specs.Extensions.{union_extension_of, enum_extension_of, input_object_extension_of}
use Rattle.gql_ast.specs.Definitions.{scalar_of, object_of, interface_of, union_of, enum_of, input_object_of}
use Rattle.gql_ast.specs.Operations.{operation_of, fragment_of}
use Rattle.gql_ast.specs.Schemas.{root_operations, directive_definition_of, schema_of}
use Rattle.gql_ast.specs.Documents.{extension_of, executable_definition_of, schema_definition_of, type_definition_of, choice_of}
use Rattle.gql_ast.specs.declared.definition.Definition.{Definition}
use Rattle.gql_ast.specs.declared.definition.Definition.TheVariants as definition
use Rattle.gql_ast_reader.specs.declared.row.Row.{Row}
use Rattle.gql_ast_reader.specs.bridge.Kept.{row_of}
use Rattle.gql_ast_reader.specs.bridge.Extending.{extension_made, schema_extension_made, scalar_extension_made, object_extension_made, interface_extension_made, union_extension_made, enum_extension_made, input_object_extension_made}
use Rattle.gql_ast_reader.proofs.Words.{nth-text-there}
use Rattle.gql_ast_reader.proofs.Finding.{nth-is, directives-are, input-fields-are, fields-are, enum-values-are, interfaces-are, members-are}

-- what is there where the word is this one
abbrev pub where_word : Option Text → Text → Option Definition → Option Definition
where_word word this made = if is_word word this then made else None

-- the first of seven
abbrev pub seven : (a b d e f g h : Option Definition) → Option Definition
seven a b d e f g h = or_else a (or_else b (or_else d (or_else e (or_else f (or_else g h)))))

only : {T : Type 0} (o : Option T) → or_else o None ≡ o
only None = refl
only (Some x) = refl

module _ (a b d e f g h : Option Definition) where
  -- of seven that each stand for one word
  abbrev pub one_of : Option Text → Option Definition
  one_of word = seven (where_word word (codes "schema") a) (where_word word (codes "scalar") b) (where_word word (codes "type") d) (where_word word (codes "interface") e) (where_word word (codes "union") f) (where_word word (codes "enum") g) (where_word word (codes "input") h)

  -- the same by one test behind the other
  abbrev pub by_tests : Option Text → Option Definition
  by_tests word = (if is_word word (codes "schema") then a else (if is_word word (codes "scalar") then b else (if is_word word (codes "type") then d else (if is_word word (codes "interface") then e else (if is_word word (codes "union") then f else (if is_word word (codes "enum") then g else (if is_word word (codes "input") then h else None)))))))

  from-6 : (token : Text) → (if bytes_eq token (codes "input") then h else None) ≡ (if bytes_eq token (codes "input") then h else None)
  from-6 token = refl

  at-5 : (token : Text) → token ≡ codes "enum" → (or_else (if bytes_eq token (codes "enum") then g else None) (if bytes_eq token (codes "input") then h else None)) ≡ g
  at-5 token is = subst (λ token. (or_else (if bytes_eq token (codes "enum") then g else None) (if bytes_eq token (codes "input") then h else None)) ≡ g) (sym is) (only g)

  from-5 : (token : Text) → (or_else (if bytes_eq token (codes "enum") then g else None) (if bytes_eq token (codes "input") then h else None)) ≡ (if bytes_eq token (codes "enum") then g else (if bytes_eq token (codes "input") then h else None))
  from-5 token =
      elim (bytes_eq token (codes "enum")) as (λ t. bytes_eq token (codes "enum") ≡ t → or_else (if t then g else None) (if bytes_eq token (codes "input") then h else None) ≡ (if t then g else (if bytes_eq token (codes "input") then h else None))) [
        | true ↦ λ is. sym (ap (λ t. or_else (if t then g else None) (if bytes_eq token (codes "input") then h else None)) is) ∙ at-5 token ((bytes_eq-Decides token (codes "enum")).0 is)
        | false ↦ λ is. from-6 token
      ] refl

  at-4 : (token : Text) → token ≡ codes "union" → (or_else (if bytes_eq token (codes "union") then f else None) (or_else (if bytes_eq token (codes "enum") then g else None) (if bytes_eq token (codes "input") then h else None))) ≡ f
  at-4 token is = subst (λ token. (or_else (if bytes_eq token (codes "union") then f else None) (or_else (if bytes_eq token (codes "enum") then g else None) (if bytes_eq token (codes "input") then h else None))) ≡ f) (sym is) (only f)

  from-4 : (token : Text) → (or_else (if bytes_eq token (codes "union") then f else None) (or_else (if bytes_eq token (codes "enum") then g else None) (if bytes_eq token (codes "input") then h else None))) ≡ (if bytes_eq token (codes "union") then f else (if bytes_eq token (codes "enum") then g else (if bytes_eq token (codes "input") then h else None)))
  from-4 token =
      elim (bytes_eq token (codes "union")) as (λ t. bytes_eq token (codes "union") ≡ t → or_else (if t then f else None) (or_else (if bytes_eq token (codes "enum") then g else None) (if bytes_eq token (codes "input") then h else None)) ≡ (if t then f else (if bytes_eq token (codes "enum") then g else (if bytes_eq token (codes "input") then h else None)))) [
        | true ↦ λ is. sym (ap (λ t. or_else (if t then f else None) (or_else (if bytes_eq token (codes "enum") then g else None) (if bytes_eq token (codes "input") then h else None))) is) ∙ at-4 token ((bytes_eq-Decides token (codes "union")).0 is)
        | false ↦ λ is. from-5 token
      ] refl

  at-3 : (token : Text) → token ≡ codes "interface" → (or_else (if bytes_eq token (codes "interface") then e else None) (or_else (if bytes_eq token (codes "union") then f else None) (or_else (if bytes_eq token (codes "enum") then g else None) (if bytes_eq token (codes "input") then h else None)))) ≡ e
  at-3 token is = subst (λ token. (or_else (if bytes_eq token (codes "interface") then e else None) (or_else (if bytes_eq token (codes "union") then f else None) (or_else (if bytes_eq token (codes "enum") then g else None) (if bytes_eq token (codes "input") then h else None)))) ≡ e) (sym is) (only e)

  from-3 : (token : Text) → (or_else (if bytes_eq token (codes "interface") then e else None) (or_else (if bytes_eq token (codes "union") then f else None) (or_else (if bytes_eq token (codes "enum") then g else None) (if bytes_eq token (codes "input") then h else None)))) ≡ (if bytes_eq token (codes "interface") then e else (if bytes_eq token (codes "union") then f else (if bytes_eq token (codes "enum") then g else (if bytes_eq token (codes "input") then h else None))))
  from-3 token =
      elim (bytes_eq token (codes "interface")) as (λ t. bytes_eq token (codes "interface") ≡ t → or_else (if t then e else None) (or_else (if bytes_eq token (codes "union") then f else None) (or_else (if bytes_eq token (codes "enum") then g else None) (if bytes_eq token (codes "input") then h else None))) ≡ (if t then e else (if bytes_eq token (codes "union") then f else (if bytes_eq token (codes "enum") then g else (if bytes_eq token (codes "input") then h else None))))) [
        | true ↦ λ is. sym (ap (λ t. or_else (if t then e else None) (or_else (if bytes_eq token (codes "union") then f else None) (or_else (if bytes_eq token (codes "enum") then g else None) (if bytes_eq token (codes "input") then h else None)))) is) ∙ at-3 token ((bytes_eq-Decides token (codes "interface")).0 is)
        | false ↦ λ is. from-4 token
      ] refl

  at-2 : (token : Text) → token ≡ codes "type" → (or_else (if bytes_eq token (codes "type") then d else None) (or_else (if bytes_eq token (codes "interface") then e else None) (or_else (if bytes_eq token (codes "union") then f else None) (or_else (if bytes_eq token (codes "enum") then g else None) (if bytes_eq token (codes "input") then h else None))))) ≡ d
  at-2 token is = subst (λ token. (or_else (if bytes_eq token (codes "type") then d else None) (or_else (if bytes_eq token (codes "interface") then e else None) (or_else (if bytes_eq token (codes "union") then f else None) (or_else (if bytes_eq token (codes "enum") then g else None) (if bytes_eq token (codes "input") then h else None))))) ≡ d) (sym is) (only d)

  from-2 : (token : Text) → (or_else (if bytes_eq token (codes "type") then d else None) (or_else (if bytes_eq token (codes "interface") then e else None) (or_else (if bytes_eq token (codes "union") then f else None) (or_else (if bytes_eq token (codes "enum") then g else None) (if bytes_eq token (codes "input") then h else None))))) ≡ (if bytes_eq token (codes "type") then d else (if bytes_eq token (codes "interface") then e else (if bytes_eq token (codes "union") then f else (if bytes_eq token (codes "enum") then g else (if bytes_eq token (codes "input") then h else None)))))
  from-2 token =
      elim (bytes_eq token (codes "type")) as (λ t. bytes_eq token (codes "type") ≡ t → or_else (if t then d else None) (or_else (if bytes_eq token (codes "interface") then e else None) (or_else (if bytes_eq token (codes "union") then f else None) (or_else (if bytes_eq token (codes "enum") then g else None) (if bytes_eq token (codes "input") then h else None)))) ≡ (if t then d else (if bytes_eq token (codes "interface") then e else (if bytes_eq token (codes "union") then f else (if bytes_eq token (codes "enum") then g else (if bytes_eq token (codes "input") then h else None)))))) [
        | true ↦ λ is. sym (ap (λ t. or_else (if t then d else None) (or_else (if bytes_eq token (codes "interface") then e else None) (or_else (if bytes_eq token (codes "union") then f else None) (or_else (if bytes_eq token (codes "enum") then g else None) (if bytes_eq token (codes "input") then h else None))))) is) ∙ at-2 token ((bytes_eq-Decides token (codes "type")).0 is)
        | false ↦ λ is. from-3 token
      ] refl

  at-1 : (token : Text) → token ≡ codes "scalar" → (or_else (if bytes_eq token (codes "scalar") then b else None) (or_else (if bytes_eq token (codes "type") then d else None) (or_else (if bytes_eq token (codes "interface") then e else None) (or_else (if bytes_eq token (codes "union") then f else None) (or_else (if bytes_eq token (codes "enum") then g else None) (if bytes_eq token (codes "input") then h else None)))))) ≡ b
  at-1 token is = subst (λ token. (or_else (if bytes_eq token (codes "scalar") then b else None) (or_else (if bytes_eq token (codes "type") then d else None) (or_else (if bytes_eq token (codes "interface") then e else None) (or_else (if bytes_eq token (codes "union") then f else None) (or_else (if bytes_eq token (codes "enum") then g else None) (if bytes_eq token (codes "input") then h else None)))))) ≡ b) (sym is) (only b)

  from-1 : (token : Text) → (or_else (if bytes_eq token (codes "scalar") then b else None) (or_else (if bytes_eq token (codes "type") then d else None) (or_else (if bytes_eq token (codes "interface") then e else None) (or_else (if bytes_eq token (codes "union") then f else None) (or_else (if bytes_eq token (codes "enum") then g else None) (if bytes_eq token (codes "input") then h else None)))))) ≡ (if bytes_eq token (codes "scalar") then b else (if bytes_eq token (codes "type") then d else (if bytes_eq token (codes "interface") then e else (if bytes_eq token (codes "union") then f else (if bytes_eq token (codes "enum") then g else (if bytes_eq token (codes "input") then h else None))))))
  from-1 token =
      elim (bytes_eq token (codes "scalar")) as (λ t. bytes_eq token (codes "scalar") ≡ t → or_else (if t then b else None) (or_else (if bytes_eq token (codes "type") then d else None) (or_else (if bytes_eq token (codes "interface") then e else None) (or_else (if bytes_eq token (codes "union") then f else None) (or_else (if bytes_eq token (codes "enum") then g else None) (if bytes_eq token (codes "input") then h else None))))) ≡ (if t then b else (if bytes_eq token (codes "type") then d else (if bytes_eq token (codes "interface") then e else (if bytes_eq token (codes "union") then f else (if bytes_eq token (codes "enum") then g else (if bytes_eq token (codes "input") then h else None))))))) [
        | true ↦ λ is. sym (ap (λ t. or_else (if t then b else None) (or_else (if bytes_eq token (codes "type") then d else None) (or_else (if bytes_eq token (codes "interface") then e else None) (or_else (if bytes_eq token (codes "union") then f else None) (or_else (if bytes_eq token (codes "enum") then g else None) (if bytes_eq token (codes "input") then h else None)))))) is) ∙ at-1 token ((bytes_eq-Decides token (codes "scalar")).0 is)
        | false ↦ λ is. from-2 token
      ] refl

  at-0 : (token : Text) → token ≡ codes "schema" → (or_else (if bytes_eq token (codes "schema") then a else None) (or_else (if bytes_eq token (codes "scalar") then b else None) (or_else (if bytes_eq token (codes "type") then d else None) (or_else (if bytes_eq token (codes "interface") then e else None) (or_else (if bytes_eq token (codes "union") then f else None) (or_else (if bytes_eq token (codes "enum") then g else None) (if bytes_eq token (codes "input") then h else None))))))) ≡ a
  at-0 token is = subst (λ token. (or_else (if bytes_eq token (codes "schema") then a else None) (or_else (if bytes_eq token (codes "scalar") then b else None) (or_else (if bytes_eq token (codes "type") then d else None) (or_else (if bytes_eq token (codes "interface") then e else None) (or_else (if bytes_eq token (codes "union") then f else None) (or_else (if bytes_eq token (codes "enum") then g else None) (if bytes_eq token (codes "input") then h else None))))))) ≡ a) (sym is) (only a)

  from-0 : (token : Text) → (or_else (if bytes_eq token (codes "schema") then a else None) (or_else (if bytes_eq token (codes "scalar") then b else None) (or_else (if bytes_eq token (codes "type") then d else None) (or_else (if bytes_eq token (codes "interface") then e else None) (or_else (if bytes_eq token (codes "union") then f else None) (or_else (if bytes_eq token (codes "enum") then g else None) (if bytes_eq token (codes "input") then h else None))))))) ≡ (if bytes_eq token (codes "schema") then a else (if bytes_eq token (codes "scalar") then b else (if bytes_eq token (codes "type") then d else (if bytes_eq token (codes "interface") then e else (if bytes_eq token (codes "union") then f else (if bytes_eq token (codes "enum") then g else (if bytes_eq token (codes "input") then h else None)))))))
  from-0 token =
      elim (bytes_eq token (codes "schema")) as (λ t. bytes_eq token (codes "schema") ≡ t → or_else (if t then a else None) (or_else (if bytes_eq token (codes "scalar") then b else None) (or_else (if bytes_eq token (codes "type") then d else None) (or_else (if bytes_eq token (codes "interface") then e else None) (or_else (if bytes_eq token (codes "union") then f else None) (or_else (if bytes_eq token (codes "enum") then g else None) (if bytes_eq token (codes "input") then h else None)))))) ≡ (if t then a else (if bytes_eq token (codes "scalar") then b else (if bytes_eq token (codes "type") then d else (if bytes_eq token (codes "interface") then e else (if bytes_eq token (codes "union") then f else (if bytes_eq token (codes "enum") then g else (if bytes_eq token (codes "input") then h else None)))))))) [
        | true ↦ λ is. sym (ap (λ t. or_else (if t then a else None) (or_else (if bytes_eq token (codes "scalar") then b else None) (or_else (if bytes_eq token (codes "type") then d else None) (or_else (if bytes_eq token (codes "interface") then e else None) (or_else (if bytes_eq token (codes "union") then f else None) (or_else (if bytes_eq token (codes "enum") then g else None) (if bytes_eq token (codes "input") then h else None))))))) is) ∙ at-0 token ((bytes_eq-Decides token (codes "schema")).0 is)
        | false ↦ λ is. from-1 token
      ] refl

  pub by-tests-is : (word : Option Text) → one_of word ≡ by_tests word
  by-tests-is None = refl
  by-tests-is (Some token) = from-0 token

-- where the second word is the one, the extension is that one
module _ (text : Text) (file : FileId) (start end : ℕ) (c : Forest) where
  abbrev tree : Plain
  tree = record { kind = kind.Extension; start = start; end = end; children = c }

  pub schema-extension-is : (if is_word (nth_text text 1 c) (codes "schema") then Some (schema_extension_made text file (row_of text file kind.Extension c) (span file (start_of c) (end_of c))) else None)
      ≡ schema_extension_of text file tree
  unfolding is_kind location schema_extension_of extends root_operations
  schema-extension-is = λ i. if is_word (nth_text text 1 c) (codes "schema") then Some (record {
    directives = directives-are text file c i;
    root_operations = gather (root_operation_of text file) c;
    location = span file (start_of c) (end_of c);
  }) else None

  pub scalar-extension-is : (if is_word (nth_text text 1 c) (codes "scalar") then scalar_extension_made text file (row_of text file kind.Extension c) (span file (start_of c) (end_of c)) else None)
      ≡ scalar_extension_of text file tree
  unfolding is_kind location scalar_extension_of extends
  scalar-extension-is = λ i. if is_word (nth_text text 1 c) (codes "scalar") then option_map (λ name. record { name = name; directives = directives-are text file c i; location = span file (start_of c) (end_of c) }) (nth-is text file 2 c i) else None

  pub object-extension-is : (if is_word (nth_text text 1 c) (codes "type") then object_extension_made text file (row_of text file kind.Extension c) (span file (start_of c) (end_of c)) else None)
      ≡ object_extension_of text file tree
  unfolding is_kind location object_extension_of extends
  object-extension-is = λ i. if is_word (nth_text text 1 c) (codes "type") then option_map (λ name. record { name = name; implements_interfaces = interfaces-are text file c i; directives = directives-are text file c i; fields = fields-are text file c i; location = span file (start_of c) (end_of c) }) (nth-is text file 2 c i) else None

  pub interface-extension-is : (if is_word (nth_text text 1 c) (codes "interface") then interface_extension_made text file (row_of text file kind.Extension c) (span file (start_of c) (end_of c)) else None)
      ≡ interface_extension_of text file tree
  unfolding is_kind location interface_extension_of extends
  interface-extension-is = λ i. if is_word (nth_text text 1 c) (codes "interface") then option_map (λ name. record { name = name; implements_interfaces = interfaces-are text file c i; directives = directives-are text file c i; fields = fields-are text file c i; location = span file (start_of c) (end_of c) }) (nth-is text file 2 c i) else None

  pub union-extension-is : (if is_word (nth_text text 1 c) (codes "union") then union_extension_made text file (row_of text file kind.Extension c) (span file (start_of c) (end_of c)) else None)
      ≡ union_extension_of text file tree
  unfolding is_kind location union_extension_of extends
  union-extension-is = λ i. if is_word (nth_text text 1 c) (codes "union") then option_map (λ name. record { name = name; directives = directives-are text file c i; members = members-are text file c i; location = span file (start_of c) (end_of c) }) (nth-is text file 2 c i) else None

  pub enum-extension-is : (if is_word (nth_text text 1 c) (codes "enum") then enum_extension_made text file (row_of text file kind.Extension c) (span file (start_of c) (end_of c)) else None)
      ≡ enum_extension_of text file tree
  unfolding is_kind location enum_extension_of extends
  enum-extension-is = λ i. if is_word (nth_text text 1 c) (codes "enum") then option_map (λ name. record { name = name; directives = directives-are text file c i; values = enum-values-are text file c i; location = span file (start_of c) (end_of c) }) (nth-is text file 2 c i) else None

  pub input-object-extension-is : (if is_word (nth_text text 1 c) (codes "input") then input_object_extension_made text file (row_of text file kind.Extension c) (span file (start_of c) (end_of c)) else None)
      ≡ input_object_extension_of text file tree
  unfolding is_kind location input_object_extension_of extends
  input-object-extension-is = λ i. if is_word (nth_text text 1 c) (codes "input") then option_map (λ name. record { name = name; directives = directives-are text file c i; fields = input-fields-are text file c i; location = span file (start_of c) (end_of c) }) (nth-is text file 2 c i) else None

  map-if : {S T : Type 0} (make : S → T) (t : Bool) (x : Option S) → option_map make (if t then x else None) ≡ (if t then option_map make x else None)
  map-if make true x = refl
  map-if make false x = refl

  abbrev second : Option Text
  second = nth_text text 1 c

  abbrev place : Option Span
  place = span file (start_of c) (end_of c)

  abbrev row : Row
  row = row_of text file kind.Extension c

  schema-extension-part : where_word second (codes "schema") (option_map definition.SchemaExtension (Some (schema_extension_made text file row place))) ≡ option_map definition.SchemaExtension (schema_extension_of text file tree)
  schema-extension-part = sym (map-if definition.SchemaExtension (is_word second (codes "schema")) (Some (schema_extension_made text file row place))) ∙ ap (option_map definition.SchemaExtension) schema-extension-is

  scalar-extension-part : where_word second (codes "scalar") (option_map definition.ScalarTypeExtension (scalar_extension_made text file row place)) ≡ option_map definition.ScalarTypeExtension (scalar_extension_of text file tree)
  scalar-extension-part = sym (map-if definition.ScalarTypeExtension (is_word second (codes "scalar")) (scalar_extension_made text file row place)) ∙ ap (option_map definition.ScalarTypeExtension) scalar-extension-is

  object-extension-part : where_word second (codes "type") (option_map definition.ObjectTypeExtension (object_extension_made text file row place)) ≡ option_map definition.ObjectTypeExtension (object_extension_of text file tree)
  object-extension-part = sym (map-if definition.ObjectTypeExtension (is_word second (codes "type")) (object_extension_made text file row place)) ∙ ap (option_map definition.ObjectTypeExtension) object-extension-is

  interface-extension-part : where_word second (codes "interface") (option_map definition.InterfaceTypeExtension (interface_extension_made text file row place)) ≡ option_map definition.InterfaceTypeExtension (interface_extension_of text file tree)
  interface-extension-part = sym (map-if definition.InterfaceTypeExtension (is_word second (codes "interface")) (interface_extension_made text file row place)) ∙ ap (option_map definition.InterfaceTypeExtension) interface-extension-is

  union-extension-part : where_word second (codes "union") (option_map definition.UnionTypeExtension (union_extension_made text file row place)) ≡ option_map definition.UnionTypeExtension (union_extension_of text file tree)
  union-extension-part = sym (map-if definition.UnionTypeExtension (is_word second (codes "union")) (union_extension_made text file row place)) ∙ ap (option_map definition.UnionTypeExtension) union-extension-is

  enum-extension-part : where_word second (codes "enum") (option_map definition.EnumTypeExtension (enum_extension_made text file row place)) ≡ option_map definition.EnumTypeExtension (enum_extension_of text file tree)
  enum-extension-part = sym (map-if definition.EnumTypeExtension (is_word second (codes "enum")) (enum_extension_made text file row place)) ∙ ap (option_map definition.EnumTypeExtension) enum-extension-is

  input-object-extension-part : where_word second (codes "input") (option_map definition.InputObjectTypeExtension (input_object_extension_made text file row place)) ≡ option_map definition.InputObjectTypeExtension (input_object_extension_of text file tree)
  input-object-extension-part = sym (map-if definition.InputObjectTypeExtension (is_word second (codes "input")) (input_object_extension_made text file row place)) ∙ ap (option_map definition.InputObjectTypeExtension) input-object-extension-is

  extension-parts : one_of (option_map definition.SchemaExtension (Some (schema_extension_made text file row place))) (option_map definition.ScalarTypeExtension (scalar_extension_made text file row place)) (option_map definition.ObjectTypeExtension (object_extension_made text file row place)) (option_map definition.InterfaceTypeExtension (interface_extension_made text file row place)) (option_map definition.UnionTypeExtension (union_extension_made text file row place)) (option_map definition.EnumTypeExtension (enum_extension_made text file row place)) (option_map definition.InputObjectTypeExtension (input_object_extension_made text file row place)) second ≡ extension_of text file tree
  unfolding extension_of
  extension-parts = λ i. seven (schema-extension-part i) (scalar-extension-part i) (object-extension-part i) (interface-extension-part i) (union-extension-part i) (enum-extension-part i) (input-object-extension-part i)

  choice-is : choice_of text file tree ≡ extension_of text file tree
  unfolding choice_of executable_definition_of schema_definition_of type_definition_of operation_of fragment_of directive_definition_of
      schema_of scalar_of object_of interface_of union_of enum_of input_object_of is_kind
  choice-is = refl

  -- an extension is what its row and its place make
  pub extension-is : extension_made text file (row_of text file kind.Extension c) (span file (start_of c) (end_of c)) ≡ choice_of text file tree
  extension-is =
      ap (by_tests (option_map definition.SchemaExtension (Some (schema_extension_made text file row place))) (option_map definition.ScalarTypeExtension (scalar_extension_made text file row place)) (option_map definition.ObjectTypeExtension (object_extension_made text file row place)) (option_map definition.InterfaceTypeExtension (interface_extension_made text file row place)) (option_map definition.UnionTypeExtension (union_extension_made text file row place)) (option_map definition.EnumTypeExtension (enum_extension_made text file row place)) (option_map definition.InputObjectTypeExtension (input_object_extension_made text file row place))) (sym (nth-text-there text 1 c))
      ∙ sym (by-tests-is (option_map definition.SchemaExtension (Some (schema_extension_made text file row place))) (option_map definition.ScalarTypeExtension (scalar_extension_made text file row place)) (option_map definition.ObjectTypeExtension (object_extension_made text file row place)) (option_map definition.InterfaceTypeExtension (interface_extension_made text file row place)) (option_map definition.UnionTypeExtension (union_extension_made text file row place)) (option_map definition.EnumTypeExtension (enum_extension_made text file row place)) (option_map definition.InputObjectTypeExtension (input_object_extension_made text file row place)) second)
      ∙ extension-parts ∙ sym choice-is
