-- A chosen operation of a document that a text means begins at an object type.
use Rattle.std.proofs.Common.{◌≡◌, ℕ, Bool, true, false, cond, List, [], ◌∷◌, Option, Some, None, is_some, subst}
use Rattle.std.specs.List.{All, find}
use Rattle.std.proofs.lemmas.List.Elements.{All-head, All-tail}
use Rattle.gql_document_types.specs.ChosenOperation.{chosen, has_name}
use Rattle.gql_document_types.specs.declared.document.ExecutableDocument.{ExecutableDocument}
use Rattle.gql_document_types.specs.declared.operation.Operation.{Operation}
use Rattle.gql_parser.specs.Roots.{AreRootsObjects}
use Rattle.gql_parser.specs.Running.{AreOnRoots, IsOnRoot}
use Rattle.gql_schema_types.specs.Schemas.{object_of}
use Rattle.gql_schema_types.specs.declared.schema.Schema.{Schema}

by_test : {X : Type 0} (P : X → Type 0) (y x : X) (rest : Option X) (b : Bool) → P y → (rest ≡ Some x → P x) → cond b (Some y) rest ≡ Some x → P x
by_test P y x rest true p q h = subst P (let same : y ≡ x = cc in same) p
by_test P y x rest false p q h = q h

find_holds : {X : Type 0} (P : X → Type 0) (test : X → Bool) (xs : List X) (x : X) → All P xs → find test xs ≡ Some x → P x
find_holds P test [] x all h = absurd (let e : None ≡ Some x = h in cc)
find_holds P test (y ∷ ys) x all h = by_test P y x (find test ys) (test y) (All-head P y ys all) (find_holds P test ys x (All-tail P y ys all)) h

chosen_holds : (P : Operation → Type 0) (name : Option (List ℕ)) (operations : List Operation) (o : Operation) → All P operations → chosen name operations ≡ Some o → P o
chosen_holds P (Some name) operations o all h = find_holds P (has_name name) operations o all h
chosen_holds P None [] o all h = absurd (let e : None ≡ Some o = h in cc)
chosen_holds P None (only ∷ []) o all h = subst P (let e : Some only ≡ Some o = h in let same : only ≡ o = cc in same) (All-head P only [] all)
chosen_holds P None (first ∷ second ∷ others) o all h = absurd (let e : None ≡ Some o = h in cc)

pub rooted : (S : Schema) (Q : ExecutableDocument) (name : Option (List ℕ)) (o : Operation) → AreRootsObjects S → AreOnRoots S Q → chosen name Q.operations ≡ Some o
    → is_some (object_of S o.selection_set.ty.text) ≡ true
rooted S Q name o roots on h = roots o.operation_type o.selection_set.ty (chosen_holds (IsOnRoot S) name Q.operations o on h)
