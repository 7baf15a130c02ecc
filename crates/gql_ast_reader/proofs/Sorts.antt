-- What one tree is to each thing that a row keeps: nothing, or what its part says.
use Rattle.std.proofs.Common.{arith, ◌≡◌, ℕ, Bool, true, false, if◌then◌else◌, [], ◌∷◌, Option, Some, None, refl, sym, ap, ◌∙◌}
use Rattle.std.specs.Prelude.{◌||◌, ◌&&◌, ◌==◌, option_and_then}
use Rattle.std.specs.List.{list_all}
use Rattle.gql_cst.specs.Class.{is_name_start, is_name_continue, is_digit}
use Rattle.std.specs.Option.{option_map}
use Rattle.gql_source.specs.declared.file_id.FileId.{FileId}
use Rattle.gql_ast_base.specs.Forest.{Forest, Plain}
use Rattle.gql_ast_base.specs.SyntaxKind.{SyntaxKind}
use Rattle.gql_ast_base.specs.SyntaxKind.TheVariants as kind
use Rattle.gql_ast_base.specs.Kinds.{is_kind}
use Rattle.gql_ast_base.specs.Names.{Named, is_name}
use Rattle.gql_ast_base.specs.Parts.{Text, gather, first, of_kind, token_text, word}
use Rattle.gql_ast_base.specs.Directives.{argument_of, directive_of}
use Rattle.gql_ast_base.specs.Literals.{string_of, string_text, opens_string, opens_number}
use Rattle.gql_ast_base.specs.NamedTypes.{named_type_of}
use Rattle.gql_ast_base.specs.OperationTypes.{operation_type_of, root_operation_of}
use Rattle.gql_ast_base.specs.Types.{type_of, type_step, form_step}
use Rattle.gql_ast_base.specs.bridge.Types.{form_of}
use Rattle.gql_ast_base.specs.Values.{value_of, value_step, content_step, simple_content, member_step, literal, number_kind}
use Rattle.gql_ast_base.specs.bridge.Values.{content_of, member_of}
use Rattle.gql_ast_base.specs.declared.type_ref.TypeRef.TheVariants.{Named as NamedType}
use Rattle.gql_ast_base.specs.declared.value.ValueKind.TheVariants.{Variable, Enum, String}
use Rattle.gql_ast.specs.Selections as selections
use Rattle.gql_ast.specs.bridge.Selections as selections_bridge
use Rattle.gql_ast.specs.Selections.{selection_step, choice_step, field_step, spread_of, inline_step}
use Rattle.gql_ast.specs.Operations.{variable_of}
use Rattle.gql_ast.specs.Fields.{input_value_of, field_of, enum_value_of}
use Rattle.gql_ast_reader.specs.declared.place.Place.{Place}
use Rattle.gql_ast_reader.specs.declared.part.Part.{Part}
use Rattle.gql_ast_reader.specs.declared.part.Part.TheVariants as part
use Rattle.gql_ast_reader.specs.declared.row.Roles.{Roles}
use Rattle.gql_ast_reader.specs.declared.row.Singles.{Singles}
use Rattle.gql_ast_reader.specs.declared.row.Groups.{Groups}
use Rattle.gql_ast_reader.specs.bridge.Places.{place_of, text_at, first_word, word_place, token_is, token_part_at}
use Rattle.gql_ast_reader.specs.bridge.Standing.{in_first, joined, part_at}
use Rattle.gql_ast_reader.specs.bridge.Taking.{kept, roles_taken, groups_taken, singles_taken}
use Rattle.gql_ast_reader.specs.bridge.Taking.{word_part, root_operation_part, argument_part, directive_part, selection_part, value_part, pair_part, variable_part, input_part, field_part, enum_value_part, choice_part, name_part, content_part, text_part}
use Rattle.gql_ast_reader.proofs.Words.{nth-name-there}

-- with a part, if there is one
abbrev pub with_part : {T : Type 0} → (T → Part → T) → T → Option Part → T
with_part take x None = x
with_part take x (Some p) = take x p

-- a token is nothing, a name, or a number or a string
module _ {X : Type 0} (text : Text) (place : Place) (f : Option Part → X) (x : X)
    (none : f None ≡ x) (as_word : f (Some (part.Word place)) ≡ x) (as_literal : f (Some (part.Literal place)) ≡ x) where
  by-tests : (a b : Bool) → f (if a then Some (part.Word place) else if b then Some (part.Literal place) else None) ≡ x
  by-tests true b = as_word
  by-tests false true = as_literal
  by-tests false false = none

  by-text : (o : Option Text) → f (option_and_then (λ token. token_is token place) o) ≡ x
  by-text None = none
  by-text (Some token) = by-tests (is_name token) (opens_string token || opens_number token)

  pub token-case : f (token_part_at text place) ≡ x
  token-case = by-text (text_at text place)

-- a token that is a name is no number and no string
start-apart : (byte : ℕ) → is_name_start byte ≡ true → ((byte == 0x22) ≡ false) × ((is_digit byte || byte == 0x2D) ≡ false)
start-apart byte is = (grind arith, grind arith)

both-true : (a b : Bool) → (a && b) ≡ true → a ≡ true
both-true true b h = refl
both-true false b h = h

name-opens : (token : Text) → is_name token ≡ true → (opens_string token ≡ false) × (opens_number token ≡ false)
name-opens [] is = absurd (cc)
name-opens (first ∷ rest) is = start-apart first (both-true (is_name_start first) (list_all is_name_continue rest) is)

either-false : (a b : Bool) → (a || b) ≡ false → (a ≡ false) × (b ≡ false)
either-false true b h = absurd (cc)
either-false false b h = (refl, h)

neither : (token : Text) → (opens_string token ≡ false) × (opens_number token ≡ false) → literal token ≡ None
unfolding literal
neither token isnt =
    ap (λ b. if b then Some (String (string_text token)) else if opens_number token then Some (number_kind token) else None) isnt.0
    ∙ ap (λ b. if b then Some (number_kind token) else None) isnt.1

-- the characters of a token that is a string
abbrev pub string_in : Text → Option Text
string_in token = if opens_string token then Some (string_text token) else None

name-no-literal : (token : Text) → is_name token ≡ true → literal token ≡ None
name-no-literal token is = neither token (name-opens token is)

no-literal : (token : Text) → (opens_string token || opens_number token) ≡ false → literal token ≡ None
no-literal token isnt = neither token (either-false (opens_string token) (opens_number token) isnt)

name-no-string : (token : Text) → is_name token ≡ true → string_in token ≡ None
name-no-string token is = ap (λ b. if b then Some (string_text token) else None) (name-opens token is).0

no-string : (token : Text) → (opens_string token || opens_number token) ≡ false → string_in token ≡ None
no-string token isnt = ap (λ b. if b then Some (string_text token) else None) (either-false (opens_string token) (opens_number token) isnt).0

module _ (text : Text) (file : FileId) (start end : ℕ) (children : Forest) where
  abbrev tree : SyntaxKind → Plain
  tree k = record { kind = k; start = start; end = end; children = children }

  abbrev place : Place
  place = record { start = start; end = end }

  -- what is made of the children of a tree of the kind
  abbrev pub in_it : {T : Type 0} → SyntaxKind → (Forest → T) → Plain → Option T
  in_it k of t = option_map (λ found. of found.children) (of_kind k t)

  pub roles-at : (roles : Roles) (k : SyntaxKind) → (record {
    alias = kept roles.alias (in_it kind.Alias (first_word text) (tree k));
    fragment_name = kept roles.fragment_name (in_it kind.FragmentName (first_word text) (tree k));
    type_condition = kept roles.type_condition (in_it kind.TypeCondition (λ inner. joined (in_first kind.NamedType (first_word text) inner)) (tree k));
    enum_value = kept roles.enum_value (in_it kind.EnumValue (first_word text) (tree k));
    variable = kept roles.variable (in_it kind.Variable (first_word text) (tree k));
    named_type = kept roles.named_type (in_it kind.NamedType (first_word text) (tree k));
  }) ≡ with_part roles_taken roles (part_at text file k (tree k))
  unfolding is_kind
  roles-at roles kind.Token = sym (token-case text (place_of (tree kind.Token)) (with_part roles_taken roles) roles refl refl refl)
  roles-at roles _ = refl

  pub groups-at : (groups : Groups) (k : SyntaxKind) → (record {
    arguments = kept groups.arguments (in_it kind.Arguments (gather (argument_of text file)) (tree k));
    directives = kept groups.directives (in_it kind.Directives (gather (directive_of text file)) (tree k));
    selections = kept groups.selections (in_it kind.SelectionSet (gather (selections.selection_of text file)) (tree k));
    variables = kept groups.variables (in_it kind.VariableDefinitions (gather (variable_of text file)) (tree k));
    inputs = kept groups.inputs (in_it kind.ArgumentsDefinition (gather (input_value_of text file)) (tree k));
    input_fields = kept groups.input_fields (in_it kind.InputFieldsDefinition (gather (input_value_of text file)) (tree k));
    fields = kept groups.fields (in_it kind.FieldsDefinition (gather (field_of text file)) (tree k));
    enum_values = kept groups.enum_values (in_it kind.EnumValuesDefinition (gather (enum_value_of text file)) (tree k));
    interfaces = kept groups.interfaces (in_it kind.ImplementsInterfaces (gather (named_type_of text file)) (tree k));
    members = kept groups.members (in_it kind.UnionMemberTypes (gather (named_type_of text file)) (tree k));
  }) ≡ with_part groups_taken groups (part_at text file k (tree k))
  unfolding is_kind
  groups-at groups kind.Token = sym (token-case text (place_of (tree kind.Token)) (with_part groups_taken groups) groups refl refl refl)
  groups-at groups _ = refl

  -- the singles of a row with this tree behind the others
  abbrev pub singles_then : Singles → SyntaxKind → Singles
  singles_then singles k = record {
    operation = kept singles.operation (operation_type_of text (tree k));
    form = kept singles.form (form_of text file (tree k));
    ty = kept singles.ty (type_of text file (tree k));
    default_value = kept singles.default_value (in_it kind.DefaultValue (first (value_of text file)) (tree k));
    description = kept singles.description (in_it kind.Description (first (string_of text)) (tree k));
  }

  pub singles-at : (singles : Singles) (k : SyntaxKind) → singles_then singles k ≡ with_part (singles_taken text file) singles (part_at text file k (tree k))
  unfolding is_kind operation_type_of type_step form_step
  singles-at singles kind.Token = sym (token-case text (place_of (tree kind.Token)) (with_part (singles_taken text file) singles) singles refl refl refl)
  singles-at singles kind.NamedType =
      ap (λ (n : Option Named). let s : Singles = record singles { form = kept singles.form (option_map NamedType n) } in s) (nth-name-there text file 0 children)
  singles-at singles _ = refl

  pub root_operation-at : (k : SyntaxKind) → root_operation_of text file (tree k) ≡ option_and_then root_operation_part (part_at text file k (tree k))
  unfolding is_kind root_operation_of
  root_operation-at kind.Token = sym (token-case text (place_of (tree kind.Token)) (option_and_then root_operation_part) None refl refl refl)
  root_operation-at _ = refl

  pub argument-at : (k : SyntaxKind) → argument_of text file (tree k) ≡ option_and_then argument_part (part_at text file k (tree k))
  unfolding is_kind argument_of
  argument-at kind.Token = sym (token-case text (place_of (tree kind.Token)) (option_and_then argument_part) None refl refl refl)
  argument-at _ = refl

  pub directive-at : (k : SyntaxKind) → directive_of text file (tree k) ≡ option_and_then directive_part (part_at text file k (tree k))
  unfolding is_kind directive_of
  directive-at kind.Token = sym (token-case text (place_of (tree kind.Token)) (option_and_then directive_part) None refl refl refl)
  directive-at _ = refl

  pub selection-at : (k : SyntaxKind) → selections.selection_of text file (tree k) ≡ option_and_then selection_part (part_at text file k (tree k))
  unfolding is_kind selection_step
  selection-at kind.Token = sym (token-case text (place_of (tree kind.Token)) (option_and_then selection_part) None refl refl refl)
  selection-at _ = refl

  pub choice-at : (k : SyntaxKind) → selections_bridge.choice_of text file (tree k) ≡ option_and_then choice_part (part_at text file k (tree k))
  unfolding is_kind choice_step field_step spread_of inline_step
  choice-at kind.Token = sym (token-case text (place_of (tree kind.Token)) (option_and_then choice_part) None refl refl refl)
  choice-at _ = refl

  pub value-at : (k : SyntaxKind) → value_of text file (tree k) ≡ option_and_then value_part (part_at text file k (tree k))
  unfolding is_kind value_step
  value-at kind.Token = sym (token-case text (place_of (tree kind.Token)) (option_and_then value_part) None refl refl refl)
  value-at _ = refl

  pub pair-at : (k : SyntaxKind) → member_of text file (tree k) ≡ option_and_then pair_part (part_at text file k (tree k))
  unfolding is_kind member_step
  pair-at kind.Token = sym (token-case text (place_of (tree kind.Token)) (option_and_then pair_part) None refl refl refl)
  pair-at _ = refl

  pub variable-at : (k : SyntaxKind) → variable_of text file (tree k) ≡ option_and_then variable_part (part_at text file k (tree k))
  unfolding is_kind variable_of
  variable-at kind.Token = sym (token-case text (place_of (tree kind.Token)) (option_and_then variable_part) None refl refl refl)
  variable-at _ = refl

  pub input-at : (k : SyntaxKind) → input_value_of text file (tree k) ≡ option_and_then input_part (part_at text file k (tree k))
  unfolding is_kind input_value_of
  input-at kind.Token = sym (token-case text (place_of (tree kind.Token)) (option_and_then input_part) None refl refl refl)
  input-at _ = refl

  pub field-at : (k : SyntaxKind) → field_of text file (tree k) ≡ option_and_then field_part (part_at text file k (tree k))
  unfolding is_kind field_of
  field-at kind.Token = sym (token-case text (place_of (tree kind.Token)) (option_and_then field_part) None refl refl refl)
  field-at _ = refl

  pub enum_value-at : (k : SyntaxKind) → enum_value_of text file (tree k) ≡ option_and_then enum_value_part (part_at text file k (tree k))
  unfolding is_kind enum_value_of
  enum_value-at kind.Token = sym (token-case text (place_of (tree kind.Token)) (option_and_then enum_value_part) None refl refl refl)
  enum_value-at _ = refl

  pub name-at : (k : SyntaxKind) → named_type_of text file (tree k) ≡ option_and_then (name_part text file) (part_at text file k (tree k))
  unfolding is_kind named_type_of
  name-at kind.Token = sym (token-case text (place_of (tree kind.Token)) (option_and_then (name_part text file)) None refl refl refl)
  name-at kind.NamedType = nth-name-there text file 0 children
  name-at _ = refl

  -- ---- tokens that are numbers or strings

  token-content : (o : Option Text) → text_at text place ≡ o
      → option_and_then literal o ≡ option_and_then (content_part text file) (option_and_then (λ token. token_is token place) o)
  token-content None is = refl
  token-content (Some token) is = tests (is_name token) (opens_string token || opens_number token) (name-no-literal token) (no-literal token)
    where
      tests : (a b : Bool) → (a ≡ true → literal token ≡ None) → (b ≡ false → literal token ≡ None)
          → literal token ≡ option_and_then (content_part text file) (if a then Some (part.Word place) else if b then Some (part.Literal place) else None)
      tests true b named other = named refl
      tests false true named other = sym (ap (option_and_then literal) is)
      tests false false named other = other refl

  token-text : (o : Option Text) → text_at text place ≡ o
      → option_and_then string_in o ≡ option_and_then (text_part text) (option_and_then (λ token. token_is token place) o)
  token-text None is = refl
  token-text (Some token) is = tests (is_name token) (opens_string token || opens_number token) (name-no-string token) (no-string token)
    where
      tests : (a b : Bool) → (a ≡ true → string_in token ≡ None) → (b ≡ false → string_in token ≡ None)
          → string_in token ≡ option_and_then (text_part text) (if a then Some (part.Word place) else if b then Some (part.Literal place) else None)
      tests true b named other = named refl
      tests false true named other = sym (ap (option_and_then string_in) is)
      tests false false named other = other refl

  pub content-at : (k : SyntaxKind) → content_of text file (tree k) ≡ option_and_then (content_part text file) (part_at text file k (tree k))
  unfolding is_kind content_step simple_content token_text
  content-at kind.Token = token-content (text_at text place) refl
  content-at kind.Variable = ap (option_map Variable) (nth-name-there text file 0 children)
  content-at kind.EnumValue = ap (option_map Enum) (nth-name-there text file 0 children)
  content-at _ = refl

  pub text-at : (k : SyntaxKind) → string_of text (tree k) ≡ option_and_then (text_part text) (part_at text file k (tree k))
  unfolding is_kind token_text
  text-at kind.Token = token-text (text_at text place) refl
  text-at _ = refl

  -- ---- tokens that are names

  token-word : (o : Option Text) → option_map (λ _. place) (option_and_then (λ found. if is_name found then Some found else None) o)
      ≡ option_and_then word_part (option_and_then (λ token. token_is token place) o)
  token-word None = refl
  token-word (Some token) = tests (is_name token) (opens_string token || opens_number token)
    where
      tests : (a b : Bool) → option_map (λ (_ : Text). place) (if a then Some token else None)
          ≡ option_and_then word_part (if a then Some (part.Word place) else if b then Some (part.Literal place) else None)
      tests true b = refl
      tests false true = refl
      tests false false = refl

  pub word-at : (k : SyntaxKind) → word_place text (tree k) ≡ option_and_then word_part (part_at text file k (tree k))
  unfolding is_kind word token_text
  word-at kind.Token = token-word (text_at text place)
  word-at _ = refl
