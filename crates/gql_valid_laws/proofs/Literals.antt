-- The translation of a constant value is unmarked.
use Rattle.std.proofs.Common.{◌≡◌, ℕ, ℤ, zero, suc, ◌<◌, ◌+◌, List, [], ◌∷◌, map, Option, Some, None, Bool, true, false, Ok, Err, refl, sym, ap, ◌∙◌, subst, rules, arith}
use Rattle.std.specs.Str.{bytes_eq}
use Rattle.indexmap.specs.IndexMap.{insert_all}
use Rattle.jb_tree.specs.declared.value.Value.{Null as JsonNull, Bool as Truth, String as JsonString, Array, Object}
use Rattle.gql_source.specs.Span.{Span}
use Rattle.gql_ast_base.specs.Names.{Named}
use Rattle.gql_ast_base.specs.declared.value.Value.{Value}
use Rattle.gql_ast_base.specs.declared.value.ValueKind.{ValueKind, roll-ValueKind, out-ValueKind, Null as NullKind, Variable, Int, Float, String as StringKind, Boolean, Enum, List as ListKind, Object as ObjectKind, the_lemmas}
use Rattle.gql_ast_base.specs.declared.value.ValueKind.TheOpen.{ValueKind-F}
use Rattle.gql_coerce.specs.LiteralValue.{greatest, greatest_member, depth_of, depth}
use Rattle.gql_coerce.specs.Messages.{float_overflow}
use Rattle.gql_coerce.specs.Outcome.{Outcome, mapped, and_then, all_of}
use Rattle.gql_coerce.specs.Faults.{fault_at}
use Rattle.gql_coerce.specs.Translation.{number_or, whole_of, translated, translated_kind}
use Rattle.gql_coerce.specs.bridge.Translation.{translated_member}
use Rattle.gql_coerce.proofs.Translated.{translated-List, translated-Object}
use Rattle.gql_ast_laws.specs.Constants.{all_true, all_members_true, is_constant_kind, is_constant}
use Rattle.gql_ast_laws.proofs.Constants.{constant-Variable, constant-List, judged, constant-Object, both-true}
use Rattle.gql_valid_laws.specs.Unmarked.{IsUnmarked}

-- ---- outcomes

pub mapped-unmarked : {A B : Type 0} (f : A → B) (o : Outcome A) → IsUnmarked o → IsUnmarked (mapped f o)
mapped-unmarked f (Ok found) h = tt
mapped-unmarked f (Err fault) h = h

pub and_then-unmarked : {A B : Type 0} (o : Outcome A) (next : A → Outcome B) → IsUnmarked o → ((x : A) → IsUnmarked (next x)) → IsUnmarked (and_then o next)
and_then-unmarked (Ok found) next h later = later found
and_then-unmarked (Err fault) next h later = h

pub all_of-unmarked : {A : Type 0} (o : Outcome A) (os : List (Outcome A)) → IsUnmarked o → IsUnmarked (all_of os) → IsUnmarked (all_of (o ∷ os))
all_of-unmarked o os h rest = and_then-unmarked o (λ y. mapped (λ ys. y ∷ ys) (all_of os)) h (λ y. mapped-unmarked (λ ys. y ∷ ys) (all_of os) rest)

-- ---- kinds of values

module _ (kind : ValueKind) where
  opened : (x : ValueKind-F ValueKind Value) → out-ValueKind kind ≡ x → kind ≡ roll-ValueKind x
  opened x is = let rolled : roll-ValueKind (out-ValueKind kind) ≡ kind = search (rules, the_lemmas) in sym rolled ∙ ap roll-ValueKind is

  is_null : out-ValueKind kind ≡ ValueKind-F.Null → kind ≡ NullKind
  is_null is = opened ValueKind-F.Null is ∙ (let same : roll-ValueKind ValueKind-F.Null ≡ NullKind = search (rules, the_lemmas) in same)

  is_variable : (name : Named) → out-ValueKind kind ≡ ValueKind-F.Variable name → kind ≡ Variable name
  is_variable name is = opened (ValueKind-F.Variable name) is ∙ (let same : roll-ValueKind (ValueKind-F.Variable name) ≡ Variable name = search (rules, the_lemmas) in same)

  is_int : (text : List ℕ) → out-ValueKind kind ≡ ValueKind-F.Int text → kind ≡ Int text
  is_int text is = opened (ValueKind-F.Int text) is ∙ (let same : roll-ValueKind (ValueKind-F.Int text) ≡ Int text = search (rules, the_lemmas) in same)

  is_float : (text : List ℕ) → out-ValueKind kind ≡ ValueKind-F.Float text → kind ≡ Float text
  is_float text is = opened (ValueKind-F.Float text) is ∙ (let same : roll-ValueKind (ValueKind-F.Float text) ≡ Float text = search (rules, the_lemmas) in same)

  is_string : (text : List ℕ) → out-ValueKind kind ≡ ValueKind-F.String text → kind ≡ StringKind text
  is_string text is = opened (ValueKind-F.String text) is ∙ (let same : roll-ValueKind (ValueKind-F.String text) ≡ StringKind text = search (rules, the_lemmas) in same)

  is_boolean : (truth : Bool) → out-ValueKind kind ≡ ValueKind-F.Boolean truth → kind ≡ Boolean truth
  is_boolean truth is = opened (ValueKind-F.Boolean truth) is ∙ (let same : roll-ValueKind (ValueKind-F.Boolean truth) ≡ Boolean truth = search (rules, the_lemmas) in same)

  is_enum : (name : Named) → out-ValueKind kind ≡ ValueKind-F.Enum name → kind ≡ Enum name
  is_enum name is = opened (ValueKind-F.Enum name) is ∙ (let same : roll-ValueKind (ValueKind-F.Enum name) ≡ Enum name = search (rules, the_lemmas) in same)

  is_list : (items : List Value) → out-ValueKind kind ≡ ValueKind-F.List items → kind ≡ ListKind items
  is_list items is = opened (ValueKind-F.List items) is ∙ (let same : roll-ValueKind (ValueKind-F.List items) ≡ ListKind items = search (rules, the_lemmas) in same)

  is_object : (members : List (Named × Value)) → out-ValueKind kind ≡ ValueKind-F.Object members → kind ≡ ObjectKind members
  is_object members is = opened (ValueKind-F.Object members) is ∙ (let same : roll-ValueKind (ValueKind-F.Object members) ≡ ObjectKind members = search (rules, the_lemmas) in same)

-- ---- how deep values inside are

abbrev weighed : Named × Value → Named × ℕ
weighed member = (member.0, depth member.1)

depth-List : (items : List Value) → depth_of (ListKind items) ≡ greatest (map depth items) + 1
unfolding depth_of
depth-List items = search (rules, the_lemmas)

depth-Object : (members : List (Named × Value)) → depth_of (ObjectKind members) ≡ greatest_member (map weighed members) + 1
unfolding depth_of
depth-Object members = search (rules, the_lemmas)

-- ---- what a constant is translated to

module _ (d : List ℕ) where
  of_number : (o : Option ℤ) (place : Option Span) → IsUnmarked (number_or o d place)
  of_number (Some z) place = tt
  of_number None place = refl

  of_Null : (place : Option Span) → translated_kind d NullKind place ≡ Ok JsonNull
  of_Null place = search (rules, the_lemmas)

  of_Int : (text : List ℕ) (place : Option Span) → translated_kind d (Int text) place ≡ number_or (whole_of text) d place
  of_Int text place = search (rules, the_lemmas)

  of_Float : (text : List ℕ) (place : Option Span) → translated_kind d (Float text) place ≡ Err (fault_at place (float_overflow d))
  of_Float text place = search (rules, the_lemmas)

  of_String : (text : List ℕ) (place : Option Span) → translated_kind d (StringKind text) place ≡ Ok (JsonString text)
  of_String text place = search (rules, the_lemmas)

  of_Boolean : (truth : Bool) (place : Option Span) → translated_kind d (Boolean truth) place ≡ Ok (Truth truth)
  of_Boolean truth place = search (rules, the_lemmas)

  of_Enum : (name : Named) (place : Option Span) → translated_kind d (Enum name) place ≡ Ok (JsonString name.text)
  of_Enum name place = search (rules, the_lemmas)

  module _ (n : ℕ) (below : (value : Value) → depth value < n → is_constant value ≡ true → IsUnmarked (translated d value)) where
    of_items : (items : List Value) → greatest (map depth items) < n → all_true (map is_constant items) ≡ true → IsUnmarked (all_of (map (translated d) items))
    of_items [] small constant = tt
    of_items (item ∷ items) small constant =
        let both = both-true (is_constant item) (all_true (map is_constant items)) constant in
        all_of-unmarked (translated d item) (map (translated d) items) (below item (omega arith) both.0) (of_items items (omega arith) both.1)

    of_members : (members : List (Named × Value)) → greatest_member (map weighed members) < n → all_members_true (map judged members) ≡ true
        → IsUnmarked (all_of (map (translated_member d) members))
    of_members [] small constant = tt
    of_members (member ∷ members) small constant =
        let both = both-true (is_constant member.1) (all_members_true (map judged members)) constant in
        all_of-unmarked (translated_member d member) (map (translated_member d) members)
        (mapped-unmarked (λ value. (member.0.text, value)) (translated d member.1) (below member.1 (omega arith) both.0)) (of_members members (omega arith) both.1)

    of_kind : (kind : ValueKind) (x : ValueKind-F ValueKind Value) → out-ValueKind kind ≡ x → depth_of kind < suc n → is_constant_kind kind ≡ true
        → (place : Option Span) → IsUnmarked (translated_kind d kind place)
    of_kind kind ValueKind-F.Null is small constant place = subst IsUnmarked (sym (ap (λ k. translated_kind d k place) (is_null kind is) ∙ of_Null place)) tt
    of_kind kind (ValueKind-F.Variable name) is small constant place =
        let e : false ≡ true = sym (constant-Variable name) ∙ ap is_constant_kind (sym (is_variable kind name is)) ∙ constant in absurd cc
    of_kind kind (ValueKind-F.Int text) is small constant place =
        subst IsUnmarked (sym (ap (λ k. translated_kind d k place) (is_int kind text is) ∙ of_Int text place)) (of_number (whole_of text) place)
    of_kind kind (ValueKind-F.Float text) is small constant place =
        subst IsUnmarked (sym (ap (λ k. translated_kind d k place) (is_float kind text is) ∙ of_Float text place)) refl
    of_kind kind (ValueKind-F.String text) is small constant place =
        subst IsUnmarked (sym (ap (λ k. translated_kind d k place) (is_string kind text is) ∙ of_String text place)) tt
    of_kind kind (ValueKind-F.Boolean truth) is small constant place =
        subst IsUnmarked (sym (ap (λ k. translated_kind d k place) (is_boolean kind truth is) ∙ of_Boolean truth place)) tt
    of_kind kind (ValueKind-F.Enum name) is small constant place =
        subst IsUnmarked (sym (ap (λ k. translated_kind d k place) (is_enum kind name is) ∙ of_Enum name place)) tt
    of_kind kind (ValueKind-F.List items) is small constant place =
        let same = is_list kind items is in
        subst IsUnmarked (sym (translated-List d kind items place same))
        (mapped-unmarked Array (all_of (map (translated d) items))
        (of_items items (omega (arith, ap depth_of same, depth-List items)) (sym (constant-List items) ∙ ap is_constant_kind (sym same) ∙ constant)))
    of_kind kind (ValueKind-F.Object members) is small constant place =
        let same = is_object kind members is in
        subst IsUnmarked (sym (translated-Object d kind members place same))
        (mapped-unmarked (λ pairs. Object (insert_all bytes_eq [] pairs)) (all_of (map (translated_member d) members))
        (of_members members (omega (arith, ap depth_of same, depth-Object members)) (sym (constant-Object members) ∙ ap is_constant_kind (sym same) ∙ constant)))

  within_depth : (n : ℕ) (value : Value) → depth value < n → is_constant value ≡ true → IsUnmarked (translated d value)
  within_depth zero value small constant = absurd (omega arith)
  within_depth (suc n) value small constant = of_kind n (within_depth n) value.kind (out-ValueKind value.kind) refl small constant value.location

  pub constant-unmarked : (value : Value) → is_constant value ≡ true → IsUnmarked (translated d value)
  constant-unmarked value constant = within_depth (suc (depth value)) value (omega arith) constant
