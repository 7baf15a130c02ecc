-- What validation gives of an operation, so that a division changes nothing.
use Rattle.std.proofs.Common.{◌≡◌, ℕ, Bool, true, false, cond, ◌||◌, List, [], ◌∷◌, Option, Some, None, codes, refl, sym, ap, subst, ◌∙◌}
use Rattle.std.specs.List.{AllByRecursion, Contains, find}
use Rattle.std.specs.Option.{option_and_then}
use Rattle.std.specs.Str.{bytes_eq}
use Rattle.gql_collect.specs.Applies.{has_member, is_listed}
use Rattle.gql_collect.specs.Collected.{setting}
use Rattle.gql_collect.specs.Flat.{flat}
use Rattle.gql_collect.specs.Groups.{response_key}
use Rattle.gql_collect.specs.Kept.{Variables}
use Rattle.gql_document_types.specs.Spreads.{AreAcyclic}
use Rattle.gql_document_types.specs.declared.document.ExecutableDocument.{ExecutableDocument}
use Rattle.gql_document_types.specs.declared.operation.Operation.{Operation}
use Rattle.gql_document_types.specs.declared.selection.Field.{Field}
use Rattle.gql_exec.specs.Restricted.{HasNoOwn, is_meta_name}
use Rattle.gql_gateway.specs.Pure.{AreLike, IsLike}
use Rattle.gql_gateway.specs.Whole.{IsDivisible}
use Rattle.gql_parser.specs.DocumentText.{DocumentText}
use Rattle.gql_parser.specs.OutputFields.{HaveNoReservedFields}
use Rattle.gql_parser.specs.SchemaText.{SchemaText}
use Rattle.gql_valid_laws.specs.Covariant.{Stands}
use Rattle.gql_valid_laws.specs.Merge.{AreOfOneName, HaveOneName}
use Rattle.gql_schema_types.specs.Schemas.{object_of}
use Rattle.gql_schema_types.specs.Types.{as_object, type_called, type_name}
use Rattle.gql_schema_types.specs.declared.schema.Schema.{Schema}
use Rattle.gql_schema_types.specs.declared.types.ExtendedType.{ExtendedType}
use Rattle.gql_schema_types.specs.declared.types.ExtendedType.TheVariants as type
use Rattle.gql_schema_types.specs.declared.types.ObjectType.{ObjectType}
use Rattle.gql_engine.specs.Ready.{Ready}
use Rattle.gql_engine.specs.Wanted.{Wanted}
use Rattle.gql_gateway.proofs.Chosen.{chosen-among}

-- ---- an object type stands for what it is looked up as

found-has : {A : Type 0} (p : A → Bool) (xs : List A) (x : A) → find p xs ≡ Some x → p x ≡ true
found-has p [] x is = absurd (let e : None ≡ Some x = is in cc)
found-has p (y ∷ ys) x is = by (p y) refl is (found-has p ys x)
  where
    by : (b : Bool) → p y ≡ b → cond b (Some y) (find p ys) ≡ Some x → (find p ys ≡ Some x → p x ≡ true) → p x ≡ true
    by true here e rest = subst (λ z. p z ≡ true) (let g : Some y ≡ Some x = e in let same : y ≡ x = cc in same) here
    by false here e rest = rest e

or-first : (a b : Bool) → a ≡ true → (a || b) ≡ true
or-first true b is = refl
or-first false b is = absurd (let e : false ≡ true = is in cc)

stands : (schema : Schema) (name : List ℕ) (U : ObjectType) → object_of schema name ≡ Some U → Stands schema U name
stands schema name U is = by (type_called name schema.types) refl is
  where
    by : (o : Option ExtendedType) → type_called name schema.types ≡ o → option_and_then as_object o ≡ Some U → Stands schema U name
    by None at e = absurd (let g : None ≡ Some U = e in cc)
    by (Some (type.Object it)) at e =
        let same : it ≡ U = (let g : Some it ≡ Some U = e in cc) in
        or-first (bytes_eq name U.name.text)
        (is_listed (type_called name schema.types) name U.implements_interfaces || has_member (type_called name schema.types) U.name.text)
        (ap (λ (V : ObjectType). bytes_eq name V.name.text) (sym same)
        ∙ found-has (λ (t : ExtendedType). bytes_eq name (type_name t).text) schema.types (type.Object it) at)
    by (Some (type.Scalar it)) at e = absurd (let g : None ≡ Some U = e in cc)
    by (Some (type.Interface it)) at e = absurd (let g : None ≡ Some U = e in cc)
    by (Some (type.Union it)) at e = absurd (let g : None ≡ Some U = e in cc)
    by (Some (type.Enum it)) at e = absurd (let g : None ≡ Some U = e in cc)
    by (Some (type.InputObject it)) at e = absurd (let g : None ≡ Some U = e in cc)

-- ---- names of introspection

none-own : (schema : Schema) → HaveNoReservedFields schema → (U : ObjectType) → HasNoOwn schema U
none-own schema unreserved U ty called =
    (unreserved U.name.text (codes "__schema") ty called refl, unreserved U.name.text (codes "__type") ty called refl)

like-named : (f : Field) (gs : List Field) → AllByRecursion (λ g. response_key f ≡ response_key g → HaveOneName f g) gs → AllByRecursion (IsLike f) gs
like-named f [] one = tt
like-named f (g ∷ gs) one = ((λ same. ap is_meta_name (one.0 same)), like-named f gs one.1)

all-like-named : (fs gs : List Field) → AllByRecursion (λ f. AllByRecursion (λ g. response_key f ≡ response_key g → HaveOneName f g) gs) fs
    → AllByRecursion (λ one. AllByRecursion (IsLike one) gs) fs
all-like-named [] gs one = tt
all-like-named (f ∷ fs) gs one = (like-named f gs one.0, all-like-named fs gs one.1)

-- ---- of what is ready

pub record TextLaws : Type 0 where
  pub acyclic : (schema : Schema) (text : List ℕ) (document : ExecutableDocument) → DocumentText schema text document → AreAcyclic document.fragments
  pub unreserved : (text : List ℕ) (schema : Schema) → SchemaText text schema → HaveNoReservedFields schema
  pub one_name : (schema : Schema) (text : List ℕ) (document : ExecutableDocument) → DocumentText schema text document
      → (operation : Operation) → Contains document.operations operation → (T : ObjectType) → Stands schema T operation.selection_set.ty.text
      → (variables : Variables)
      → AreOfOneName (flat (record { fragments = document.fragments; schema = schema; object = T; variables = variables }) operation.selection_set.selections)

pub ready-divisible : TextLaws → (wanted : Wanted) (ready : Ready wanted)
    → IsDivisible ready.meant.schema ready.meant.document ready.operation ready.variables
ready-divisible laws wanted ready =
    let schema = ready.meant.schema in
    let document = ready.meant.document in
    let operation = ready.operation in
    let means = ready.meant.are.is_document in
    record {
      acyclic = laws.acyclic schema wanted.query document means;
      own = λ U is. none-own schema (laws.unreserved wanted.schema schema ready.meant.are.is_schema) U;
      pure = λ U is.
          let fields = flat (setting document.fragments schema U ready.variables) operation.selection_set.selections in
          all-like-named fields fields
          (laws.one_name schema wanted.query document means operation
          (chosen-among wanted.operation_name document.operations operation ready.is_chosen) U
          (stands schema operation.selection_set.ty.text U is) ready.variables);
    }
