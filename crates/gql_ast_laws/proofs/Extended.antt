-- The words that say what is extended, by their bytes.
use Rattle.std.proofs.Common.{◌≡◌, Bool, true, false, if◌then◌else◌, refl, sym, ap, ◌∙◌, subst}
use Rattle.std.specs.Prelude.{◌||◌, nat_le, codes}
use Rattle.std.specs.Str.{bytes_eq}
use Rattle.std.proofs.lemmas.Bool.{eqb-true}
use Rattle.gql_grammar.specs.declared.word.Word.{Word}
use Rattle.gql_grammar.specs.declared.word.Word.TheVariants.{OtherName, OperationWord, BooleanWord, LocationWord, FragmentWord, OnWord, NullWord, SchemaWord, ScalarWord, TypeWord, InterfaceWord, ImplementsWord, UnionWord, EnumWord, InputWord, DirectiveWord, RepeatableWord, ExtendWord}
use Rattle.gql_grammar.specs.Word.{number, is_same, is_name as names}
use Rattle.gql_grammar.specs.Spelling.{is_executable_location, is_type_system_location, keyword, word_of_name}
use Rattle.gql_cst.specs.Words.{word_of}
use Rattle.gql_ast_base.specs.Parts.{Text}
use Rattle.gql_ast_laws.proofs.Spelled.{name-word}

module _ (v : Word) where
  -- the one word is the other, or it is not
  record Is (w : Word) : Type 0 where
    is : is_same v w ≡ true

  record Differs (w : Word) : Type 0 where
    differs : is_same v w ≡ false

  -- the choice is the word, and what is chosen in the one case is not
  passed : (b : Bool) (x y : Word) → Is (if b then x else y) → Differs x → Is y
  passed true x y h n = absurd (let c : true ≡ false = sym h.is ∙ n.differs in cc)
  passed false x y h n = h

  -- or what is chosen in the other is not
  hit : (b : Bool) (x y : Word) → Is (if b then x else y) → Differs y → b ≡ true
  hit true x y h n = refl
  hit false x y h n = absurd (let c : true ≡ false = sym h.is ∙ n.differs in cc)

  -- neither is
  missed : (b : Bool) (x y : Word) → Differs x → Differs y → Differs (if b then x else y)
  missed true x y p q = p
  missed false x y p q = q

  apart : (w : Word) → is_same v w ≡ false → Differs w
  apart w h = record { differs = h }

  -- a word that is a name is that of a name
  named : (found : Text) → names v ≡ true → is_same v (word_of found) ≡ true → Is (word_of_name found)
  named found n h =
      let same = eqb-true (number v) (number (word_of found)) h in
      record { is = sym (ap (λ w. is_same v w) (name-word found (subst (λ k. nat_le (number OtherName) k ≡ true) same n))) ∙ h }

  -- and that is one of a keyword
  to_keyword : (found : Text) → Is (word_of_name found) → Differs LocationWord → Differs OperationWord → Differs BooleanWord → Is (keyword found)
  to_keyword found h p q r =
      passed (bytes_eq found (codes "true") || bytes_eq found (codes "false")) BooleanWord _
      (passed (bytes_eq found (codes "query") || bytes_eq found (codes "mutation") || bytes_eq found (codes "subscription")) OperationWord _
      (passed (is_executable_location found || is_type_system_location found) LocationWord _ h p) q) r

keyword-schema : (n : Text) → Is SchemaWord (keyword n) → bytes_eq n (codes "schema") ≡ true
keyword-schema n h = hit SchemaWord (bytes_eq n (codes "schema")) SchemaWord _ (passed SchemaWord (bytes_eq n (codes "null")) NullWord _ (passed SchemaWord (bytes_eq n (codes "on")) OnWord _ (passed SchemaWord (bytes_eq n (codes "fragment")) FragmentWord _ h (apart SchemaWord _ refl)) (apart SchemaWord _ refl)) (apart SchemaWord _ refl)) (missed SchemaWord (bytes_eq n (codes "scalar")) ScalarWord _ (apart SchemaWord _ refl) (missed SchemaWord (bytes_eq n (codes "type")) TypeWord _ (apart SchemaWord _ refl) (missed SchemaWord (bytes_eq n (codes "interface")) InterfaceWord _ (apart SchemaWord _ refl) (missed SchemaWord (bytes_eq n (codes "implements")) ImplementsWord _ (apart SchemaWord _ refl) (missed SchemaWord (bytes_eq n (codes "union")) UnionWord _ (apart SchemaWord _ refl) (missed SchemaWord (bytes_eq n (codes "enum")) EnumWord _ (apart SchemaWord _ refl) (missed SchemaWord (bytes_eq n (codes "input")) InputWord _ (apart SchemaWord _ refl) (missed SchemaWord (bytes_eq n (codes "directive")) DirectiveWord _ (apart SchemaWord _ refl) (missed SchemaWord (bytes_eq n (codes "repeatable")) RepeatableWord _ (apart SchemaWord _ refl) (missed SchemaWord (bytes_eq n (codes "extend")) ExtendWord _ (apart SchemaWord _ refl) (apart SchemaWord _ refl)))))))))))

pub word-schema : (found : Text) → is_same SchemaWord (word_of found) ≡ true → bytes_eq found (codes "schema") ≡ true
word-schema found h =
    keyword-schema found (to_keyword SchemaWord found (named SchemaWord found refl h) (apart SchemaWord _ refl) (apart SchemaWord _ refl) (apart SchemaWord _ refl))

keyword-scalar : (n : Text) → Is ScalarWord (keyword n) → bytes_eq n (codes "scalar") ≡ true
keyword-scalar n h = hit ScalarWord (bytes_eq n (codes "scalar")) ScalarWord _ (passed ScalarWord (bytes_eq n (codes "schema")) SchemaWord _ (passed ScalarWord (bytes_eq n (codes "null")) NullWord _ (passed ScalarWord (bytes_eq n (codes "on")) OnWord _ (passed ScalarWord (bytes_eq n (codes "fragment")) FragmentWord _ h (apart ScalarWord _ refl)) (apart ScalarWord _ refl)) (apart ScalarWord _ refl)) (apart ScalarWord _ refl)) (missed ScalarWord (bytes_eq n (codes "type")) TypeWord _ (apart ScalarWord _ refl) (missed ScalarWord (bytes_eq n (codes "interface")) InterfaceWord _ (apart ScalarWord _ refl) (missed ScalarWord (bytes_eq n (codes "implements")) ImplementsWord _ (apart ScalarWord _ refl) (missed ScalarWord (bytes_eq n (codes "union")) UnionWord _ (apart ScalarWord _ refl) (missed ScalarWord (bytes_eq n (codes "enum")) EnumWord _ (apart ScalarWord _ refl) (missed ScalarWord (bytes_eq n (codes "input")) InputWord _ (apart ScalarWord _ refl) (missed ScalarWord (bytes_eq n (codes "directive")) DirectiveWord _ (apart ScalarWord _ refl) (missed ScalarWord (bytes_eq n (codes "repeatable")) RepeatableWord _ (apart ScalarWord _ refl) (missed ScalarWord (bytes_eq n (codes "extend")) ExtendWord _ (apart ScalarWord _ refl) (apart ScalarWord _ refl))))))))))

pub word-scalar : (found : Text) → is_same ScalarWord (word_of found) ≡ true → bytes_eq found (codes "scalar") ≡ true
word-scalar found h =
    keyword-scalar found (to_keyword ScalarWord found (named ScalarWord found refl h) (apart ScalarWord _ refl) (apart ScalarWord _ refl) (apart ScalarWord _ refl))

keyword-type : (n : Text) → Is TypeWord (keyword n) → bytes_eq n (codes "type") ≡ true
keyword-type n h = hit TypeWord (bytes_eq n (codes "type")) TypeWord _ (passed TypeWord (bytes_eq n (codes "scalar")) ScalarWord _ (passed TypeWord (bytes_eq n (codes "schema")) SchemaWord _ (passed TypeWord (bytes_eq n (codes "null")) NullWord _ (passed TypeWord (bytes_eq n (codes "on")) OnWord _ (passed TypeWord (bytes_eq n (codes "fragment")) FragmentWord _ h (apart TypeWord _ refl)) (apart TypeWord _ refl)) (apart TypeWord _ refl)) (apart TypeWord _ refl)) (apart TypeWord _ refl)) (missed TypeWord (bytes_eq n (codes "interface")) InterfaceWord _ (apart TypeWord _ refl) (missed TypeWord (bytes_eq n (codes "implements")) ImplementsWord _ (apart TypeWord _ refl) (missed TypeWord (bytes_eq n (codes "union")) UnionWord _ (apart TypeWord _ refl) (missed TypeWord (bytes_eq n (codes "enum")) EnumWord _ (apart TypeWord _ refl) (missed TypeWord (bytes_eq n (codes "input")) InputWord _ (apart TypeWord _ refl) (missed TypeWord (bytes_eq n (codes "directive")) DirectiveWord _ (apart TypeWord _ refl) (missed TypeWord (bytes_eq n (codes "repeatable")) RepeatableWord _ (apart TypeWord _ refl) (missed TypeWord (bytes_eq n (codes "extend")) ExtendWord _ (apart TypeWord _ refl) (apart TypeWord _ refl)))))))))

pub word-type : (found : Text) → is_same TypeWord (word_of found) ≡ true → bytes_eq found (codes "type") ≡ true
word-type found h =
    keyword-type found (to_keyword TypeWord found (named TypeWord found refl h) (apart TypeWord _ refl) (apart TypeWord _ refl) (apart TypeWord _ refl))

keyword-interface : (n : Text) → Is InterfaceWord (keyword n) → bytes_eq n (codes "interface") ≡ true
keyword-interface n h = hit InterfaceWord (bytes_eq n (codes "interface")) InterfaceWord _ (passed InterfaceWord (bytes_eq n (codes "type")) TypeWord _ (passed InterfaceWord (bytes_eq n (codes "scalar")) ScalarWord _ (passed InterfaceWord (bytes_eq n (codes "schema")) SchemaWord _ (passed InterfaceWord (bytes_eq n (codes "null")) NullWord _ (passed InterfaceWord (bytes_eq n (codes "on")) OnWord _ (passed InterfaceWord (bytes_eq n (codes "fragment")) FragmentWord _ h (apart InterfaceWord _ refl)) (apart InterfaceWord _ refl)) (apart InterfaceWord _ refl)) (apart InterfaceWord _ refl)) (apart InterfaceWord _ refl)) (apart InterfaceWord _ refl)) (missed InterfaceWord (bytes_eq n (codes "implements")) ImplementsWord _ (apart InterfaceWord _ refl) (missed InterfaceWord (bytes_eq n (codes "union")) UnionWord _ (apart InterfaceWord _ refl) (missed InterfaceWord (bytes_eq n (codes "enum")) EnumWord _ (apart InterfaceWord _ refl) (missed InterfaceWord (bytes_eq n (codes "input")) InputWord _ (apart InterfaceWord _ refl) (missed InterfaceWord (bytes_eq n (codes "directive")) DirectiveWord _ (apart InterfaceWord _ refl) (missed InterfaceWord (bytes_eq n (codes "repeatable")) RepeatableWord _ (apart InterfaceWord _ refl) (missed InterfaceWord (bytes_eq n (codes "extend")) ExtendWord _ (apart InterfaceWord _ refl) (apart InterfaceWord _ refl))))))))

pub word-interface : (found : Text) → is_same InterfaceWord (word_of found) ≡ true → bytes_eq found (codes "interface") ≡ true
word-interface found h =
    keyword-interface found (to_keyword InterfaceWord found (named InterfaceWord found refl h) (apart InterfaceWord _ refl) (apart InterfaceWord _ refl) (apart InterfaceWord _ refl))

keyword-union : (n : Text) → Is UnionWord (keyword n) → bytes_eq n (codes "union") ≡ true
keyword-union n h = hit UnionWord (bytes_eq n (codes "union")) UnionWord _ (passed UnionWord (bytes_eq n (codes "implements")) ImplementsWord _ (passed UnionWord (bytes_eq n (codes "interface")) InterfaceWord _ (passed UnionWord (bytes_eq n (codes "type")) TypeWord _ (passed UnionWord (bytes_eq n (codes "scalar")) ScalarWord _ (passed UnionWord (bytes_eq n (codes "schema")) SchemaWord _ (passed UnionWord (bytes_eq n (codes "null")) NullWord _ (passed UnionWord (bytes_eq n (codes "on")) OnWord _ (passed UnionWord (bytes_eq n (codes "fragment")) FragmentWord _ h (apart UnionWord _ refl)) (apart UnionWord _ refl)) (apart UnionWord _ refl)) (apart UnionWord _ refl)) (apart UnionWord _ refl)) (apart UnionWord _ refl)) (apart UnionWord _ refl)) (apart UnionWord _ refl)) (missed UnionWord (bytes_eq n (codes "enum")) EnumWord _ (apart UnionWord _ refl) (missed UnionWord (bytes_eq n (codes "input")) InputWord _ (apart UnionWord _ refl) (missed UnionWord (bytes_eq n (codes "directive")) DirectiveWord _ (apart UnionWord _ refl) (missed UnionWord (bytes_eq n (codes "repeatable")) RepeatableWord _ (apart UnionWord _ refl) (missed UnionWord (bytes_eq n (codes "extend")) ExtendWord _ (apart UnionWord _ refl) (apart UnionWord _ refl))))))

pub word-union : (found : Text) → is_same UnionWord (word_of found) ≡ true → bytes_eq found (codes "union") ≡ true
word-union found h =
    keyword-union found (to_keyword UnionWord found (named UnionWord found refl h) (apart UnionWord _ refl) (apart UnionWord _ refl) (apart UnionWord _ refl))

keyword-enum : (n : Text) → Is EnumWord (keyword n) → bytes_eq n (codes "enum") ≡ true
keyword-enum n h = hit EnumWord (bytes_eq n (codes "enum")) EnumWord _ (passed EnumWord (bytes_eq n (codes "union")) UnionWord _ (passed EnumWord (bytes_eq n (codes "implements")) ImplementsWord _ (passed EnumWord (bytes_eq n (codes "interface")) InterfaceWord _ (passed EnumWord (bytes_eq n (codes "type")) TypeWord _ (passed EnumWord (bytes_eq n (codes "scalar")) ScalarWord _ (passed EnumWord (bytes_eq n (codes "schema")) SchemaWord _ (passed EnumWord (bytes_eq n (codes "null")) NullWord _ (passed EnumWord (bytes_eq n (codes "on")) OnWord _ (passed EnumWord (bytes_eq n (codes "fragment")) FragmentWord _ h (apart EnumWord _ refl)) (apart EnumWord _ refl)) (apart EnumWord _ refl)) (apart EnumWord _ refl)) (apart EnumWord _ refl)) (apart EnumWord _ refl)) (apart EnumWord _ refl)) (apart EnumWord _ refl)) (apart EnumWord _ refl)) (missed EnumWord (bytes_eq n (codes "input")) InputWord _ (apart EnumWord _ refl) (missed EnumWord (bytes_eq n (codes "directive")) DirectiveWord _ (apart EnumWord _ refl) (missed EnumWord (bytes_eq n (codes "repeatable")) RepeatableWord _ (apart EnumWord _ refl) (missed EnumWord (bytes_eq n (codes "extend")) ExtendWord _ (apart EnumWord _ refl) (apart EnumWord _ refl)))))

pub word-enum : (found : Text) → is_same EnumWord (word_of found) ≡ true → bytes_eq found (codes "enum") ≡ true
word-enum found h =
    keyword-enum found (to_keyword EnumWord found (named EnumWord found refl h) (apart EnumWord _ refl) (apart EnumWord _ refl) (apart EnumWord _ refl))

keyword-input : (n : Text) → Is InputWord (keyword n) → bytes_eq n (codes "input") ≡ true
keyword-input n h = hit InputWord (bytes_eq n (codes "input")) InputWord _ (passed InputWord (bytes_eq n (codes "enum")) EnumWord _ (passed InputWord (bytes_eq n (codes "union")) UnionWord _ (passed InputWord (bytes_eq n (codes "implements")) ImplementsWord _ (passed InputWord (bytes_eq n (codes "interface")) InterfaceWord _ (passed InputWord (bytes_eq n (codes "type")) TypeWord _ (passed InputWord (bytes_eq n (codes "scalar")) ScalarWord _ (passed InputWord (bytes_eq n (codes "schema")) SchemaWord _ (passed InputWord (bytes_eq n (codes "null")) NullWord _ (passed InputWord (bytes_eq n (codes "on")) OnWord _ (passed InputWord (bytes_eq n (codes "fragment")) FragmentWord _ h (apart InputWord _ refl)) (apart InputWord _ refl)) (apart InputWord _ refl)) (apart InputWord _ refl)) (apart InputWord _ refl)) (apart InputWord _ refl)) (apart InputWord _ refl)) (apart InputWord _ refl)) (apart InputWord _ refl)) (apart InputWord _ refl)) (missed InputWord (bytes_eq n (codes "directive")) DirectiveWord _ (apart InputWord _ refl) (missed InputWord (bytes_eq n (codes "repeatable")) RepeatableWord _ (apart InputWord _ refl) (missed InputWord (bytes_eq n (codes "extend")) ExtendWord _ (apart InputWord _ refl) (apart InputWord _ refl))))

pub word-input : (found : Text) → is_same InputWord (word_of found) ≡ true → bytes_eq found (codes "input") ≡ true
word-input found h =
    keyword-input found (to_keyword InputWord found (named InputWord found refl h) (apart InputWord _ refl) (apart InputWord _ refl) (apart InputWord _ refl))
