-- The arguments of the full query's fields are coerced.
use Rattle.std.proofs.Common.{rules, ◌≡◌, ℕ, Bool, true, false, ◌∷◌, [], Option, Some, Ok, List, codes, ap, ◌∙◌}
use Rattle.gql_ast_base.specs.Names.{Named}
use Rattle.gql_ast_base.specs.TypeParts.{named_type}
use Rattle.gql_ast_base.specs.declared.type_ref.TypeRef.{TypeRef, the_lemmas as type_lemmas}
use Rattle.gql_ast_base.specs.declared.type_ref.TypeRef.TheVariants as ref
use Rattle.gql_ast_base.specs.declared.value.Value.{Value}
use Rattle.gql_ast_base.specs.declared.value.ValueKind.{out-ValueKind, the_lemmas}
use Rattle.gql_ast_base.specs.declared.value.ValueKind.TheOpen.{ValueKind-F}
use Rattle.gql_ast_base.specs.declared.value.ValueKind.TheVariants as kind
use Rattle.gql_ast.specs.declared.field_definition.InputValueDefinition.{InputValueDefinition}
use Rattle.gql_coerce.specs.Arguments.{coerced_arguments, argument_value, argument_given, by_kind, first_named}
use Rattle.gql_coerce.specs.Filled.{Members, filled, with_value}
use Rattle.gql_coerce.specs.InputTypes.{field_name}
use Rattle.gql_coerce.specs.LiteralValue.{coerced_literal, literal_within, literal_level, at_type, depth}
use Rattle.gql_coerce.specs.Outcome.{Outcome, and_then, mapped, told_as}
use Rattle.gql_coerce.specs.Subject.{argument_words}
use Rattle.gql_coerce.specs.Told.{argument_fault}
use Rattle.gql_coerce.specs.Translation.{translated}
use Rattle.gql_coerce.specs.Wrapped.{wrap}
use Rattle.gql_client_schema_laws.specs.Asked.{arguments_at, deprecated_too}
use Rattle.gql_client_schema_laws.specs.Introspection.{Takes, HasScalar, plain, RefersAs}
use Rattle.gql_client_schema_laws.proofs.Fits.{its_name}
use Rattle.gql_schema_types.specs.Types.{type_called}
use Rattle.gql_schema_types.specs.declared.schema.Schema.{Schema}
use Rattle.jb_tree.specs.declared.value.Value.{Value as JsonValue}
use Rattle.jb_tree.specs.declared.value.Value.TheVariants as json

-- `includeDeprecated: true`, or no arguments
abbrev pub given : Bool → Members
given false = []
given true = (codes "includeDeprecated", json.Bool true) ∷ []

out-true : out-ValueKind (kind.Boolean true) ≡ ValueKind-F.Boolean true
out-true = search (rules, the_lemmas)

module _ (schema : Schema) (scalar : HasScalar schema (codes "Boolean")) where
  abbrev literal : ℕ → Value
  literal start = (deprecated_too start).value

  translated-true : (start : ℕ) (words : List ℕ) → translated words (literal start) ≡ Ok (json.Bool true)
  translated-true start words = search (rules, the_lemmas)

  wrapped-none : (name : Named) (value : JsonValue) → wrap (ref.Named name) value ≡ value
  wrapped-none name value = search (rules, type_lemmas)

  -- a literal truth value is coerced to itself
  literal-coerced : (start : ℕ) (words : List ℕ) (ty : TypeRef) → RefersAs plain (codes "Boolean") ty
      → coerced_literal schema.types [] (literal start) words ty ≡ Ok (json.Bool true)
  unfolding coerced_literal literal_within
  literal-coerced start words ty refers =
      ap (λ k. literal_level schema.types [] (literal_within schema.types [] (depth (literal start))) k (literal start) words ty) out-true
      ∙ ap (λ o. mapped (wrap ty) (at_type o words (named_type ty) (literal start)))
      (ap (λ n. type_called n schema.types) (its_name schema refers) ∙ scalar.called)
      ∙ ap (mapped (wrap ty)) (translated-true start words)
      ∙ ap (λ (v : JsonValue). let outcome : Outcome JsonValue = Ok v in outcome) (ap (λ t. wrap t (json.Bool true)) refers.is ∙ wrapped-none refers.name (json.Bool true))

  -- of the one definition and the one argument
  abbrev one_more : InputValueDefinition → Option JsonValue → Outcome Members
  one_more definition found = filled (λ (d : InputValueDefinition). argument_value schema.types [] [] d) field_name (with_value [] (field_name definition) found) []

  argument-coerced : (start : ℕ) (definition : InputValueDefinition) → definition.name.text ≡ codes "includeDeprecated" → RefersAs plain (codes "Boolean") definition.ty
      → argument_value schema.types [] (arguments_at start true) definition ≡ Ok (Some (json.Bool true))
  argument-coerced start definition named refers =
      ap (λ n. argument_given schema.types [] definition (first_named n (arguments_at start true))) named
      ∙ ap (λ k. by_kind schema.types [] definition k (literal start)) out-true
      ∙ ap (mapped Some) (literal-coerced start (argument_words (field_name definition)) definition.ty refers)

  pub given-arguments : (deprecated : Bool) (start : ℕ) (definitions : List InputValueDefinition) → Takes deprecated definitions
      → told_as argument_fault (coerced_arguments schema.types [] definitions (arguments_at start deprecated)) ≡ Ok (given deprecated)
  given-arguments false start definitions none = ap (λ ds. told_as argument_fault (coerced_arguments schema.types [] ds [])) none
  given-arguments true start definitions takes =
      ap (λ ds. told_as argument_fault (coerced_arguments schema.types [] ds (arguments_at start true))) takes.only
      ∙ ap (λ o. told_as argument_fault (and_then o (one_more takes.argument))) (argument-coerced start takes.argument takes.named takes.ty)
      ∙ ap (λ n. told_as argument_fault (let made : Outcome Members = Ok ((n, json.Bool true) ∷ []) in made)) takes.named
