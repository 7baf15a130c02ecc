-- The text that a type is written as is read back as the type.
use Rattle.std.proofs.Common.{◌≡◌, ℕ, suc, ◌+◌, ◌<◌, true, List, [], ◌∷◌, ◌++◌, length, refl, sym, ap, ◌∙◌, subst, arith, rules, append_assoc, length-append}
use Rattle.std.specs.Prelude.{slice_index}
use Rattle.gql_source.specs.declared.file_id.FileId.{FileId}
use Rattle.gql_grammar.specs.declared.word.Word.TheVariants.{Bang, BracketOpen, BracketClose}
use Rattle.gql_grammar.specs.Word.{is_same}
use Rattle.gql_cst.specs.Words.{word_of}
use Rattle.gql_ast_base.specs.Names.{Named, is_name}
use Rattle.gql_ast_base.specs.Parts.{Text}
use Rattle.gql_ast_base.specs.declared.type_ref.TypeRef.{TypeRef, roll-TypeRef, List as ListOf, NonNullList, the_lemmas}
use Rattle.gql_ast_base.specs.declared.type_ref.TypeRef.TheFolds.{ind-TypeRef, map-TypeRef}
use Rattle.gql_ast_base.specs.declared.type_ref.TypeRef.TheOpen.{TypeRef-F}
use Rattle.gql_ast_base.specs.declared.type_ref.TypeRef.TheVariants.{Named as NamedType, NonNullNamed}
use Rattle.gql_ast.specs.TypeText.{type_text}
use Rattle.gql_ast_laws.specs.Printed.{has_names}
use Rattle.gql_ast_laws.proofs.Rest.{Rest, Follows, after, cut, name_low, mark_leaf}
use Rattle.gql_ast_laws.proofs.Levels.{Read, MarkAt, name_at, named, non_null_named, list, non_null_list}

-- ---- one level of the texts, and of their names

text-Named : (name : Named) → type_text (NamedType name) ≡ name.text
text-Named name = search (rules, the_lemmas)

text-NonNullNamed : (name : Named) → type_text (NonNullNamed name) ≡ name.text ++ (33 ∷ [])
text-NonNullNamed name = search (rules, the_lemmas)

text-List : (item : TypeRef) → type_text (ListOf item) ≡ 91 ∷ (type_text item ++ (93 ∷ []))
text-List item = search (rules, the_lemmas)

text-NonNullList : (item : TypeRef) → type_text (NonNullList item) ≡ 91 ∷ (type_text item ++ (93 ∷ 33 ∷ []))
text-NonNullList item = search (rules, the_lemmas)

names-Named : (name : Named) → has_names (NamedType name) ≡ is_name name.text
names-Named name = search (rules, the_lemmas)

names-NonNullNamed : (name : Named) → has_names (NonNullNamed name) ≡ is_name name.text
names-NonNullNamed name = search (rules, the_lemmas)

names-List : (item : TypeRef) → has_names (ListOf item) ≡ has_names item
names-List item = search (rules, the_lemmas)

names-NonNullList : (item : TypeRef) → has_names (NonNullList item) ≡ has_names item
names-NonNullList item = search (rules, the_lemmas)

-- ---- what follows a name or a mark

bang-follows : (rest : Text) → Follows (33 ∷ rest)
bang-follows rest = record { low = omega arith; stops = refl }

close-follows : (rest : Text) → Follows (93 ∷ rest)
close-follows rest = record { low = omega arith; stops = refl }

pub end-follows : Follows []
end-follows = record { low = omega arith; stops = refl }

module _ (text : Text) (file : FileId) where
  bang-at : (at : ℕ) (rest : Text) → Rest text at (33 ∷ rest) → slice_index rest 0 < 128 → MarkAt text file at Bang
  bang-at at rest h low = record {
    leaf = mark_leaf text at 33 rest h refl (omega arith) low;
    is = ap (λ l. is_same Bang (word_of l)) (cut text at (33 ∷ []) rest h);
  }

  open-at : (at : ℕ) (rest : Text) → Rest text at (91 ∷ rest) → slice_index rest 0 < 128 → MarkAt text file at BracketOpen
  open-at at rest h low = record {
    leaf = mark_leaf text at 91 rest h refl (omega arith) low;
    is = ap (λ l. is_same BracketOpen (word_of l)) (cut text at (91 ∷ []) rest h);
  }

  close-at : (at : ℕ) (rest : Text) → Rest text at (93 ∷ rest) → slice_index rest 0 < 128 → MarkAt text file at BracketClose
  close-at at rest h low = record {
    leaf = mark_leaf text at 93 rest h refl (omega arith) low;
    is = ap (λ l. is_same BracketClose (word_of l)) (cut text at (93 ∷ []) rest h);
  }

  -- the type's text begins with a character of one byte, and is read back wherever it stands
  pub record IsReadBack (ty : TypeRef) : Type 0 where
    pub low : (rest : Text) → slice_index (type_text ty ++ rest) 0 < 128
    pub at : (at : ℕ) (rest : Text) → Rest text at (type_text ty ++ rest) → Follows rest → Read text file at (at + length (type_text ty)) ty

  abbrev ReadsBack : TypeRef → Type 0
  ReadsBack ty = has_names ty ≡ true → IsReadBack ty

  abbrev low-by : Text → Text → Type 0
  low-by front rest = slice_index (front ++ rest) 0 < 128

  back-Named : (name : Named) → ReadsBack (NamedType name)
  back-Named name h =
      let n = sym (names-Named name) ∙ h in
      let e = text-Named name in
      record {
        low = λ rest. subst (λ l. low-by l rest) (sym e) (name_low name.text rest n);
        at = λ at rest r f. subst (λ l. Read text file at (at + length l) (NamedType name)) (sym e)
            (named text file at name (name_at text file at name.text rest (subst (λ l. Rest text at (l ++ rest)) e r) n f));
      }

  back-NonNullNamed : (name : Named) → ReadsBack (NonNullNamed name)
  back-NonNullNamed name h =
      let n = sym (names-NonNullNamed name) ∙ h in
      let e = text-NonNullNamed name in
      let joined = λ (rest : Text). ap (λ l. l ++ rest) e ∙ append_assoc name.text (33 ∷ []) rest in
      record {
        low = λ rest. subst (λ l. slice_index l 0 < 128) (sym (joined rest)) (name_low name.text (33 ∷ rest) n);
        at = λ at rest r f.
            let begins : Rest text at (name.text ++ (33 ∷ rest)) = subst (λ l. Rest text at l) (joined rest) r in
            let long : at + length name.text + 1 ≡ at + length (type_text (NonNullNamed name)) =
            let by : length (type_text (NonNullNamed name)) ≡ length name.text + 1 = ap length e ∙ length-append name.text (33 ∷ []) in omega (arith, by) in
            subst (λ k. Read text file at k (NonNullNamed name)) long
            (non_null_named text file at name (name_at text file at name.text (33 ∷ rest) begins n (bang-follows rest))
            (bang-at (at + length name.text) rest (after text at name.text (33 ∷ rest) begins) f.low));
      }

  back-List : (item : TypeRef) → ReadsBack item → ReadsBack (ListOf item)
  back-List item back h =
      let b = back (sym (names-List item) ∙ h) in
      let e = text-List item in
      let n = length (type_text item) in
      let joined = λ (rest : Text). ap (λ l. l ++ rest) e ∙ ap (λ l. 91 ∷ l) (append_assoc (type_text item) (93 ∷ []) rest) in
      record {
        low = λ rest. subst (λ l. slice_index l 0 < 128) (sym (joined rest)) (omega arith);
        at = λ at rest r f.
            let begins : Rest text at (91 ∷ (type_text item ++ (93 ∷ rest))) = subst (λ l. Rest text at l) (joined rest) r in
            let inside : Rest text (at + 1) (type_text item ++ (93 ∷ rest)) = after text at (91 ∷ []) (type_text item ++ (93 ∷ rest)) begins in
            let ends : Rest text (at + 1 + n) (93 ∷ rest) = after text (at + 1) (type_text item) (93 ∷ rest) inside in
            let long : at + 1 + n + 1 ≡ at + length (type_text (ListOf item)) =
            let by : length (type_text (ListOf item)) ≡ suc (n + 1) = ap length e ∙ ap suc (length-append (type_text item) (93 ∷ [])) in omega (arith, by) in
            subst (λ k. Read text file at k (ListOf item)) long
            (list text file at (at + 1 + n) item (b.at (at + 1) (93 ∷ rest) inside (close-follows rest))
            (open-at at (type_text item ++ (93 ∷ rest)) begins (b.low (93 ∷ rest))) (close-at (at + 1 + n) rest ends f.low));
      }

  back-NonNullList : (item : TypeRef) → ReadsBack item → ReadsBack (NonNullList item)
  back-NonNullList item back h =
      let b = back (sym (names-NonNullList item) ∙ h) in
      let e = text-NonNullList item in
      let n = length (type_text item) in
      let joined = λ (rest : Text). ap (λ l. l ++ rest) e ∙ ap (λ l. 91 ∷ l) (append_assoc (type_text item) (93 ∷ 33 ∷ []) rest) in
      record {
        low = λ rest. subst (λ l. slice_index l 0 < 128) (sym (joined rest)) (omega arith);
        at = λ at rest r f.
            let begins : Rest text at (91 ∷ (type_text item ++ (93 ∷ 33 ∷ rest))) = subst (λ l. Rest text at l) (joined rest) r in
            let inside : Rest text (at + 1) (type_text item ++ (93 ∷ 33 ∷ rest)) = after text at (91 ∷ []) (type_text item ++ (93 ∷ 33 ∷ rest)) begins in
            let ends : Rest text (at + 1 + n) (93 ∷ 33 ∷ rest) = after text (at + 1) (type_text item) (93 ∷ 33 ∷ rest) inside in
            let last : Rest text (at + 1 + n + 1) (33 ∷ rest) = after text (at + 1 + n) (93 ∷ []) (33 ∷ rest) ends in
            let long : at + 1 + n + 1 + 1 ≡ at + length (type_text (NonNullList item)) =
            let by : length (type_text (NonNullList item)) ≡ suc (n + 2) = ap length e ∙ ap suc (length-append (type_text item) (93 ∷ 33 ∷ [])) in omega (arith, by) in
            subst (λ k. Read text file at k (NonNullList item)) long
            (non_null_list text file at (at + 1 + n) item (b.at (at + 1) (93 ∷ 33 ∷ rest) inside (close-follows (33 ∷ rest)))
            (open-at at (type_text item ++ (93 ∷ 33 ∷ rest)) begins (b.low (93 ∷ 33 ∷ rest))) (close-at (at + 1 + n) (33 ∷ rest) ends (omega arith))
            (bang-at (at + 1 + n + 1) rest last f.low));
      }

  abbrev Child : Type 0
  Child = (ty : TypeRef) × ReadsBack ty

  -- one level with the facts about what is inside left out
  abbrev plain_level : TypeRef-F Child → TypeRef-F TypeRef
  plain_level (TypeRef-F.Named name) = TypeRef-F.Named name
  plain_level (TypeRef-F.NonNullNamed name) = TypeRef-F.NonNullNamed name
  plain_level (TypeRef-F.List item) = TypeRef-F.List item.0
  plain_level (TypeRef-F.NonNullList item) = TypeRef-F.NonNullList item.0

  plain_map : (y : TypeRef-F Child) → map-TypeRef Child TypeRef (λ e. e.0) y ≡ plain_level y
  plain_map (TypeRef-F.Named name) = refl
  plain_map (TypeRef-F.NonNullNamed name) = refl
  plain_map (TypeRef-F.List item) = refl
  plain_map (TypeRef-F.NonNullList item) = refl

  level_back : (y : TypeRef-F Child) → ReadsBack (roll-TypeRef (plain_level y))
  unfolding roll-TypeRef denote.Hole.Carrier.roll
  level_back (TypeRef-F.Named name) = back-Named name
  level_back (TypeRef-F.NonNullNamed name) = back-NonNullNamed name
  level_back (TypeRef-F.List item) = back-List item.0 item.1
  level_back (TypeRef-F.NonNullList item) = back-NonNullList item.0 item.1

  -- a type whose names are names is read back from its text, wherever that stands
  pub reads_back : (ty : TypeRef) → ReadsBack ty
  reads_back = ind-TypeRef ReadsBack (λ x y is. subst (λ (w : TypeRef-F TypeRef). ReadsBack (roll-TypeRef w)) (sym (plain_map y) ∙ is) (level_back y))
