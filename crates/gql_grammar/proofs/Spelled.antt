-- The words of names among those of their length.
use Rattle.std.proofs.Common.{◌≡◌, ℕ, ◌≤◌, Bool, true, false, ◌&&◌, ◌||◌, List, refl, ◌∙◌, sym, ap}
use Rattle.std.specs.Prelude.{length, if◌then◌else◌, ◌==◌, nat_le, codes}
use Rattle.std.specs.Str.{bytes_eq}
use Rattle.std.proofs.lemmas.Bool.{eq-eqb, le-leb}
use Rattle.std.proofs.lemmas.Slice.Eq.{bytes_eq-Decides}
use Rattle.gql_grammar.specs.declared.word.Word.{Word}
use Rattle.gql_grammar.specs.declared.word.Word.TheVariants.{FragmentWord, OnWord, NullWord, SchemaWord, ScalarWord, TypeWord, InterfaceWord, ImplementsWord, UnionWord, EnumWord, InputWord, DirectiveWord, RepeatableWord, ExtendWord, OperationWord, BooleanWord, LocationWord, OtherName}
use Rattle.gql_grammar.specs.Spelling.{keyword, word_of_name}
use Rattle.gql_grammar.specs.bridge.Lengths.{word_of_four, word_of_five, word_of_six, word_of_eight, word_of_nine, word_of_ten, word_of_long}

-- one test after the other
abbrev chain : (List ℕ → Bool) → Word
chain is =
    if is (codes "QUERY") then LocationWord
    else if is (codes "MUTATION") then LocationWord
    else if is (codes "SUBSCRIPTION") then LocationWord
    else if is (codes "FIELD") then LocationWord
    else if is (codes "FRAGMENT_DEFINITION") then LocationWord
    else if is (codes "FRAGMENT_SPREAD") then LocationWord
    else if is (codes "INLINE_FRAGMENT") then LocationWord
    else if is (codes "VARIABLE_DEFINITION") then LocationWord
    else if is (codes "SCHEMA") then LocationWord
    else if is (codes "SCALAR") then LocationWord
    else if is (codes "OBJECT") then LocationWord
    else if is (codes "FIELD_DEFINITION") then LocationWord
    else if is (codes "ARGUMENT_DEFINITION") then LocationWord
    else if is (codes "INTERFACE") then LocationWord
    else if is (codes "UNION") then LocationWord
    else if is (codes "ENUM") then LocationWord
    else if is (codes "ENUM_VALUE") then LocationWord
    else if is (codes "INPUT_OBJECT") then LocationWord
    else if is (codes "INPUT_FIELD_DEFINITION") then LocationWord
    else if is (codes "query") then OperationWord
    else if is (codes "mutation") then OperationWord
    else if is (codes "subscription") then OperationWord
    else if is (codes "true") then BooleanWord
    else if is (codes "false") then BooleanWord
    else if is (codes "fragment") then FragmentWord
    else if is (codes "on") then OnWord
    else if is (codes "null") then NullWord
    else if is (codes "schema") then SchemaWord
    else if is (codes "scalar") then ScalarWord
    else if is (codes "type") then TypeWord
    else if is (codes "interface") then InterfaceWord
    else if is (codes "implements") then ImplementsWord
    else if is (codes "union") then UnionWord
    else if is (codes "enum") then EnumWord
    else if is (codes "input") then InputWord
    else if is (codes "directive") then DirectiveWord
    else if is (codes "repeatable") then RepeatableWord
    else if is (codes "extend") then ExtendWord
    else OtherName

one_by_one : (e1 e2 e3 e4 e5 e6 e7 e8 t1 t2 t3 t4 t5 t6 t7 t8 t9 t10 t11 q m s t f : Bool) (k : Word) →
    (if (e1 || e2 || e3 || e4 || e5 || e6 || e7 || e8) || (t1 || t2 || t3 || t4 || t5 || t6 || t7 || t8 || t9 || t10 || t11) then LocationWord else if q || m || s then OperationWord else if t || f then BooleanWord else k)
    ≡ (if e1 then LocationWord else if e2 then LocationWord else if e3 then LocationWord else if e4 then LocationWord else if e5 then LocationWord else if e6 then LocationWord else if e7 then LocationWord else if e8 then LocationWord else if t1 then LocationWord else if t2 then LocationWord else if t3 then LocationWord else if t4 then LocationWord else if t5 then LocationWord else if t6 then LocationWord else if t7 then LocationWord else if t8 then LocationWord else if t9 then LocationWord else if t10 then LocationWord else if t11 then LocationWord else if q then OperationWord else if m then OperationWord else if s then OperationWord else if t then BooleanWord else if f then BooleanWord else k)
one_by_one true _ _ _ _ _ _ _ _ _ _ _ _ _ _ _ _ _ _ _ _ _ _ _ k = refl
one_by_one false true _ _ _ _ _ _ _ _ _ _ _ _ _ _ _ _ _ _ _ _ _ _ k = refl
one_by_one false false true _ _ _ _ _ _ _ _ _ _ _ _ _ _ _ _ _ _ _ _ _ k = refl
one_by_one false false false true _ _ _ _ _ _ _ _ _ _ _ _ _ _ _ _ _ _ _ _ k = refl
one_by_one false false false false true _ _ _ _ _ _ _ _ _ _ _ _ _ _ _ _ _ _ _ k = refl
one_by_one false false false false false true _ _ _ _ _ _ _ _ _ _ _ _ _ _ _ _ _ _ k = refl
one_by_one false false false false false false true _ _ _ _ _ _ _ _ _ _ _ _ _ _ _ _ _ k = refl
one_by_one false false false false false false false true _ _ _ _ _ _ _ _ _ _ _ _ _ _ _ _ k = refl
one_by_one false false false false false false false false true _ _ _ _ _ _ _ _ _ _ _ _ _ _ _ k = refl
one_by_one false false false false false false false false false true _ _ _ _ _ _ _ _ _ _ _ _ _ _ k = refl
one_by_one false false false false false false false false false false true _ _ _ _ _ _ _ _ _ _ _ _ _ k = refl
one_by_one false false false false false false false false false false false true _ _ _ _ _ _ _ _ _ _ _ _ k = refl
one_by_one false false false false false false false false false false false false true _ _ _ _ _ _ _ _ _ _ _ k = refl
one_by_one false false false false false false false false false false false false false true _ _ _ _ _ _ _ _ _ _ k = refl
one_by_one false false false false false false false false false false false false false false true _ _ _ _ _ _ _ _ _ k = refl
one_by_one false false false false false false false false false false false false false false false true _ _ _ _ _ _ _ _ k = refl
one_by_one false false false false false false false false false false false false false false false false true _ _ _ _ _ _ _ k = refl
one_by_one false false false false false false false false false false false false false false false false false true _ _ _ _ _ _ k = refl
one_by_one false false false false false false false false false false false false false false false false false false true _ _ _ _ _ k = refl
one_by_one false false false false false false false false false false false false false false false false false false false true _ _ _ _ k = refl
one_by_one false false false false false false false false false false false false false false false false false false false false true _ _ _ k = refl
one_by_one false false false false false false false false false false false false false false false false false false false false false true _ _ k = refl
one_by_one false false false false false false false false false false false false false false false false false false false false false false true _ k = refl
one_by_one false false false false false false false false false false false false false false false false false false false false false false false true k = refl
one_by_one false false false false false false false false false false false false false false false false false false false false false false false false k = refl

guarded : (b p : Bool) → (b ≡ true → p ≡ true) → b ≡ (p && b)
guarded true true h = refl
guarded true false h = sym (h refl)
guarded false true h = refl
guarded false false h = refl

-- a text that is the name has its length
fits : (p : ℕ → Bool) (name : List ℕ) → p (length name) ≡ true → (text : List ℕ) → bytes_eq name text ≡ (p (length text) && bytes_eq name text)
fits p name h text = guarded (bytes_eq name text) (p (length text)) (λ e. ap (λ z. p (length z)) (sym ((bytes_eq-Decides name text).0 e)) ∙ h)

chained : (p : ℕ → Bool) (name : List ℕ) → p (length name) ≡ true → word_of_name name ≡ chain (λ text. p (length text) && bytes_eq name text)
chained p name h =
    one_by_one
    (bytes_eq name (codes "QUERY"))
    (bytes_eq name (codes "MUTATION"))
    (bytes_eq name (codes "SUBSCRIPTION"))
    (bytes_eq name (codes "FIELD"))
    (bytes_eq name (codes "FRAGMENT_DEFINITION"))
    (bytes_eq name (codes "FRAGMENT_SPREAD"))
    (bytes_eq name (codes "INLINE_FRAGMENT"))
    (bytes_eq name (codes "VARIABLE_DEFINITION"))
    (bytes_eq name (codes "SCHEMA"))
    (bytes_eq name (codes "SCALAR"))
    (bytes_eq name (codes "OBJECT"))
    (bytes_eq name (codes "FIELD_DEFINITION"))
    (bytes_eq name (codes "ARGUMENT_DEFINITION"))
    (bytes_eq name (codes "INTERFACE"))
    (bytes_eq name (codes "UNION"))
    (bytes_eq name (codes "ENUM"))
    (bytes_eq name (codes "ENUM_VALUE"))
    (bytes_eq name (codes "INPUT_OBJECT"))
    (bytes_eq name (codes "INPUT_FIELD_DEFINITION"))
    (bytes_eq name (codes "query"))
    (bytes_eq name (codes "mutation"))
    (bytes_eq name (codes "subscription"))
    (bytes_eq name (codes "true"))
    (bytes_eq name (codes "false"))
    (keyword name)
    ∙ (λ i. chain (λ text. fits p name h text i))

at_length : (n : ℕ) (name : List ℕ) → length name ≡ n → word_of_name name ≡ chain (λ text. (length text == n) && bytes_eq name text)
at_length n name e = chained (λ k. k == n) name (eq-eqb (length name) n e)

pub is_four : (name : List ℕ) → length name ≡ 4 → word_of_four name ≡ word_of_name name
is_four name e = sym (at_length 4 name e)

pub is_five : (name : List ℕ) → length name ≡ 5 → word_of_five name ≡ word_of_name name
is_five name e = sym (at_length 5 name e)

pub is_six : (name : List ℕ) → length name ≡ 6 → word_of_six name ≡ word_of_name name
is_six name e = sym (at_length 6 name e)

pub is_eight : (name : List ℕ) → length name ≡ 8 → word_of_eight name ≡ word_of_name name
is_eight name e = sym (at_length 8 name e)

pub is_nine : (name : List ℕ) → length name ≡ 9 → word_of_nine name ≡ word_of_name name
is_nine name e = sym (at_length 9 name e)

pub is_ten : (name : List ℕ) → length name ≡ 10 → word_of_ten name ≡ word_of_name name
is_ten name e = sym (at_length 10 name e)

pub is_long : (name : List ℕ) → 12 ≤ length name → word_of_long name ≡ word_of_name name
is_long name h = sym (chained (λ k. nat_le 12 k) name (le-leb 12 (length name) h))
