-- The word of a name is a name.
use Rattle.std.proofs.Common.{◌≡◌, Bool, true, false, if◌then◌else◌, [], ◌∷◌, refl}
use Rattle.std.specs.Prelude.{◌||◌, codes, slice_index}
use Rattle.std.specs.Str.{bytes_eq}
use Rattle.gql_lexer.specs.Class.{is_name_start}
use Rattle.gql_grammar.specs.declared.word.Word.{Word}
use Rattle.gql_grammar.specs.declared.word.Word.TheVariants.{OperationWord, BooleanWord, LocationWord, OtherName, FragmentWord, OnWord, NullWord, SchemaWord, ScalarWord, TypeWord, InterfaceWord, ImplementsWord, UnionWord, EnumWord, InputWord, DirectiveWord, RepeatableWord, ExtendWord}
use Rattle.gql_grammar.specs.Word.{is_name as names}
use Rattle.gql_grammar.specs.Spelling.{is_executable_location, is_type_system_location, keyword, word_of_name}
use Rattle.gql_cst.specs.Words.{word_of}
use Rattle.gql_ast_base.specs.Names.{is_name}
use Rattle.gql_print_laws.specs.bridge.Said.{Text}
use Rattle.gql_print_laws.proofs.Rest.{name_begins}

record IsName (w : Word) : Type 0 where
  is : names w ≡ true

either : (b : Bool) (x y : Word) → IsName x → IsName y → IsName (if b then x else y)
either true x y p q = p
either false x y p q = q

a-name : (w : Word) → names w ≡ true → IsName w
a-name w h = record { is = h }

keyword-name : (n : Text) → IsName (keyword n)
keyword-name n =
    either (bytes_eq n (codes "fragment")) FragmentWord _ (a-name FragmentWord refl)
    (either (bytes_eq n (codes "on")) OnWord _ (a-name OnWord refl)
    (either (bytes_eq n (codes "null")) NullWord _ (a-name NullWord refl)
    (either (bytes_eq n (codes "schema")) SchemaWord _ (a-name SchemaWord refl)
    (either (bytes_eq n (codes "scalar")) ScalarWord _ (a-name ScalarWord refl)
    (either (bytes_eq n (codes "type")) TypeWord _ (a-name TypeWord refl)
    (either (bytes_eq n (codes "interface")) InterfaceWord _ (a-name InterfaceWord refl)
    (either (bytes_eq n (codes "implements")) ImplementsWord _ (a-name ImplementsWord refl)
    (either (bytes_eq n (codes "union")) UnionWord _ (a-name UnionWord refl)
    (either (bytes_eq n (codes "enum")) EnumWord _ (a-name EnumWord refl)
    (either (bytes_eq n (codes "input")) InputWord _ (a-name InputWord refl)
    (either (bytes_eq n (codes "directive")) DirectiveWord _ (a-name DirectiveWord refl)
    (either (bytes_eq n (codes "repeatable")) RepeatableWord _ (a-name RepeatableWord refl)
    (either (bytes_eq n (codes "extend")) ExtendWord _ (a-name ExtendWord refl) (a-name OtherName refl))))))))))))))

name-name : (n : Text) → IsName (word_of_name n)
name-name n =
    either (is_executable_location n || is_type_system_location n) LocationWord _ (a-name LocationWord refl)
    (either (bytes_eq n (codes "query") || bytes_eq n (codes "mutation") || bytes_eq n (codes "subscription")) OperationWord _ (a-name OperationWord refl)
    (either (bytes_eq n (codes "true") || bytes_eq n (codes "false")) BooleanWord _ (a-name BooleanWord refl) (keyword-name n)))

start_of : (name : Text) → is_name name ≡ true → is_name_start (slice_index name 0) ≡ true
start_of [] h = absurd (cc)
start_of (x ∷ xs) h = name_begins (x ∷ xs) [] h

pub name_is_name : (name : Text) → is_name name ≡ true → names (word_of name) ≡ true
name_is_name name h = let s = start_of name h in rw s (name-name name).is
