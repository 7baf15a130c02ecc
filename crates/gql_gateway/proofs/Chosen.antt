-- The operation that is chosen is one of the document's, and begins at an object type.
use Rattle.std.proofs.Common.{arith, ◌≡◌, ◌≢◌, ℕ, Bool, true, false, cond, List, [], ◌∷◌, Option, Some, None, is_some, refl, subst}
use Rattle.std.specs.List.{Contains, find}
use Rattle.std.proofs.lemmas.List.Elements.{All-contains, Contains-append_right}
use Rattle.gql_document_types.specs.ChosenOperation.{chosen, has_name}
use Rattle.gql_document_types.specs.declared.document.ExecutableDocument.{ExecutableDocument}
use Rattle.gql_document_types.specs.declared.operation.Operation.{Operation}
use Rattle.gql_parser.specs.Roots.{AreRootsObjects}
use Rattle.gql_parser.specs.Running.{AreOnRoots, IsOnRoot}
use Rattle.gql_schema_types.specs.Schemas.{object_of}
use Rattle.gql_schema_types.specs.declared.schema.Schema.{Schema}
use Rattle.gql_schema_types.specs.declared.types.ObjectType.{ObjectType}

at-front : {A : Type 0} (x : A) (xs : List A) → Contains (x ∷ xs) x
at-front x xs = (0, omega arith, refl)

found-among : {A : Type 0} (test : A → Bool) (xs : List A) (x : A) → find test xs ≡ Some x → Contains xs x
found-among test [] x is = absurd (let e : None ≡ Some x = is in cc)
found-among test (y ∷ ys) x is = by (test y) is (found-among test ys x)
  where
    by : (b : Bool) → cond b (Some y) (find test ys) ≡ Some x → (find test ys ≡ Some x → Contains ys x) → Contains (y ∷ ys) x
    by true e rest = subst (Contains (y ∷ ys)) (let g : Some y ≡ Some x = e in let same : y ≡ x = cc in same) (at-front y ys)
    by false e rest = Contains-append_right (y ∷ []) ys x (rest e)

pub chosen-among : (name : Option (List ℕ)) (operations : List Operation) (it : Operation) → chosen name operations ≡ Some it → Contains operations it
chosen-among (Some name) operations it is = found-among (has_name name) operations it is
chosen-among None [] it is = absurd (let e : None ≡ Some it = is in cc)
chosen-among None (only ∷ []) it is =
    subst (Contains (only ∷ [])) (let e : Some only ≡ Some it = is in let same : only ≡ it = cc in same) (at-front only [])
chosen-among None (first ∷ second ∷ others) it is = absurd (let e : None ≡ Some it = is in cc)

some-there : (found : Option ObjectType) → is_some found ≡ true → found ≢ None
some-there None some none = absurd (let e : false ≡ true = some in cc)
some-there (Some it) some none = let e : Some it ≡ None = none in cc

pub begins-at-object : (schema : Schema) (document : ExecutableDocument) (name : Option (List ℕ)) (it : Operation) → AreRootsObjects schema
    → AreOnRoots schema document → chosen name document.operations ≡ Some it → object_of schema it.selection_set.ty.text ≢ None
begins-at-object schema document name it roots on is =
    some-there (object_of schema it.selection_set.ty.text)
    (roots it.operation_type it.selection_set.ty (All-contains (IsOnRoot schema) document.operations it on (chosen-among name document.operations it is)))
