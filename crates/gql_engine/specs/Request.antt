-- What a JSON value asks, where it is a request, and else why it is none.
use Rattle.std.specs.Prelude.{◌≡◌, ℕ, Bool, false, if◌then◌else◌, List, ◌++◌, Option, Some, IsSome}
use Rattle.std.specs.Prelude.{None, unwrap_or, Result, Ok, Err, codes}
use Rattle.std.specs.Option.{option_map, option_copied}
use Rattle.std.specs.Str.{bytes_eq}
use Rattle.std.specs.Map.{lookup}
use Rattle.jb_tree.specs.declared.value.Value.{Value}
use Rattle.jb_tree.specs.Value.{object_members, string_text, truth_value, is_null}
use Rattle.gql_engine.specs.declared.request_form.Member.{Member}
use Rattle.gql_engine.specs.declared.request_form.Member.TheVariants.{Schema, Query, OperationName, Variables, Introspection, Data, Response}
use Rattle.gql_engine.specs.declared.request_form.RequestFault.{RequestFault}
use Rattle.gql_engine.specs.declared.request_form.RequestFault.TheVariants.{NotObject, Missing, WrongKind}
use Rattle.gql_engine.specs.declared.request_form.RequestForm.{RequestForm}
use Rattle.gql_engine.specs.declared.request_form.RequestForm.TheVariants.{Plain, WithResponse}
use Rattle.gql_engine.specs.declared.request_form.Request.{Request}

abbrev pub Members : Type 0
Members = List (List ℕ × Value)

abbrev pub member_name : Member → List ℕ
member_name Schema = codes "schema"
member_name Query = codes "query"
member_name OperationName = codes "operationName"
member_name Variables = codes "variables"
member_name Introspection = codes "introspection"
member_name Data = codes "data"
member_name Response = codes "response"

-- what a request asks
pub record Asked : Type 0 where
  pub schema : List ℕ
  pub query : List ℕ
  pub operation_name : Option (List ℕ)
  pub variables : Option Members
  pub introspection : Bool
  pub root : Option Members
  pub response : Option (List ℕ)

-- a value of the kind that the member must have
abbrev pub of_kind : {A : Type 0} → Member → Option A → Result A RequestFault
of_kind member (Some found) = Ok found
of_kind member None = Err (WrongKind member)

-- a member that must be there
abbrev pub required_of : {A : Type 0} → (Value → Option A) → Member → Option Value → Result A RequestFault
required_of kind member (Some value) = of_kind member (kind value)
required_of kind member None = Err (Missing member)

abbrev pub required : {A : Type 0} → (Value → Option A) → Member → Members → Result A RequestFault
required kind member members = required_of kind member (lookup (bytes_eq (member_name member)) members)

-- a member that is there and isn't null
abbrev pub given_value : Option Value → Option Value
given_value (Some value) = if is_null value then None else Some value
given_value None = None

abbrev pub member_given : Member → Members → Option Value
member_given member members = given_value (lookup (bytes_eq (member_name member)) members)

abbrev pub optional_of : {A : Type 0} → (Value → Option A) → Member → Option Value → Result (Option A) RequestFault
optional_of kind member (Some value) = of_kind member (option_map Some (kind value))
optional_of kind member None = Ok None

-- a member that may be absent or null
abbrev pub optional : {A : Type 0} → (Value → Option A) → Member → Members → Result (Option A) RequestFault
optional kind member members = optional_of kind member (member_given member members)

infixl 10 ◌>>=◌
abbrev pub ◌>>=◌ : {A B : Type 0} → Result A RequestFault → (A → Result B RequestFault) → Result B RequestFault
(Ok found) >>= f = f found
(Err fault) >>= f = Err fault

-- the text of a response, which a request of the one form must have
abbrev pub response_in : RequestForm → Members → Result (Option (List ℕ)) RequestFault
response_in Plain members = Ok None
response_in WithResponse members = required string_text Response members >>= λ text. Ok (Some text)

-- the members, in the order in which they are checked
abbrev pub asked_by_members : RequestForm → Members → Result Asked RequestFault
asked_by_members form members =
    required string_text Schema members >>= λ s. required string_text Query members >>= λ q.
    optional string_text OperationName members >>= λ o. optional object_members Variables members >>= λ v.
    optional truth_value Introspection members >>= λ i. optional object_members Data members >>= λ d.
    response_in form members >>= λ r.
    Ok (record { schema = s; query = q; operation_name = o; variables = v; introspection = unwrap_or i false; root = d; response = r })

abbrev pub asked_by_kind : RequestForm → Option Members → Result Asked RequestFault
asked_by_kind form (Some members) = asked_by_members form members
asked_by_kind form None = Err NotObject

-- what a JSON value asks, or the first reason why it is no request of this form
abbrev pub asked : RequestForm → Value → Result Asked RequestFault
asked form value = asked_by_kind form (object_members value)

-- the text of a response is there where the form has one, and only there
abbrev pub IsResponseOf : RequestForm → Option (List ℕ) → Type 0
IsResponseOf Plain response = response ≡ None
IsResponseOf WithResponse response = IsSome response

abbrev pub HasForm : RequestForm → Asked → Type 0
HasForm form request = IsResponseOf form request.response

-- what a request that is read says
abbrev pub asked_in : Request → Asked
asked_in request = record {
  schema = request.schema.now;
  query = request.query.now;
  operation_name = option_copied request.operation_name;
  variables = option_copied request.variables;
  introspection = request.introspection;
  root = option_copied request.root;
  response = option_copied request.response;
}

abbrev pub IsAsked : Result Request RequestFault → Result Asked RequestFault → Type 0
IsAsked (Ok request) read = read ≡ Ok (asked_in request)
IsAsked (Err fault) read = read ≡ Err fault

-- the text of a refusal
abbrev pub fault_message : RequestFault → List ℕ
fault_message NotObject = codes "request: not an object"
fault_message (Missing member) = codes "request: member `" ++ (member_name member ++ codes "` is missing")
fault_message (WrongKind member) = codes "request: member `" ++ (member_name member ++ codes "` has a wrong kind")
