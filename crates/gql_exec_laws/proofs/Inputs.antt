-- Values of a variable of lists of lists, computed.
use Rattle.std.proofs.Common.{rules, ◌≡◌, ℕ, ℤ, List, [], ◌∷◌, codes, ap, ◌∙◌}
use Rattle.jb_tree.specs.declared.value.Value.{Value, out-Value, the_lemmas as value_lemmas}
use Rattle.jb_tree.specs.declared.value.Value.TheVariants as json
use Rattle.jb_tree.specs.declared.value.Value.TheOpen.{Value-F}
use Rattle.gql_ast_base.specs.Names.{Named}
use Rattle.gql_ast_base.specs.TypeParts.{named_type, item_type}
use Rattle.gql_ast_base.specs.declared.type_ref.TypeRef.{TypeRef, the_lemmas as type_lemmas}
use Rattle.gql_ast_base.specs.declared.type_ref.TypeRef.TheVariants as ty
use Rattle.gql_schema_types.specs.declared.types.ExtendedType.{ExtendedType}
use Rattle.gql_coerce.specs.InputValue.{array, coerced, leaf, level}
use Rattle.gql_coerce.specs.Outcome.{mapped}
use Rattle.gql_coerce.specs.Wrapped.{wrap}
use Rattle.gql_coerce.proofs.Coerced.{coerced-by_rule}
use Rattle.gql_exec_laws.specs.Inputs.{IsRefused, IsTakenAs, list, one, two, word}
use Rattle.gql_exec_laws.proofs.Opened.{fitting, out-number, printing}
use Rattle.gql_exec_laws.proofs.Computed.{computed}

out-array : (values : List Value) → out-Value (json.Array values) ≡ Value-F.Array values
out-array values = search (rules, value_lemmas)

wrap-named : (name : Named) (value : Value) → wrap (ty.Named name) value ≡ value
wrap-named name value = search (rules, type_lemmas)

wrap-list : (item : TypeRef) (value : Value) → wrap (ty.List item) value ≡ json.Array (wrap item value ∷ [])
wrap-list item value = search (rules, type_lemmas)

by-number : (types : List ExtendedType) (z : ℤ) (d : List ℕ) (type : TypeRef)
    → coerced types (json.Number z) d type ≡ mapped (wrap type) (leaf types d (named_type type) (json.Number z))
by-number types z d type =
    ap (λ rule. rule d type) (coerced-by_rule types (json.Number z))
    ∙ ap (λ k. level types (coerced types) k (json.Number z) d type) (out-number z)

by-array : (types : List ExtendedType) (values : List Value) (d : List ℕ) (type : TypeRef)
    → coerced types (json.Array values) d type ≡ array types (coerced types) (item_type type) values (json.Array values) d type
by-array types values d type =
    ap (λ rule. rule d type) (coerced-by_rule types (json.Array values))
    ∙ ap (λ k. level types (coerced types) k (json.Array values) d type) (out-array values)

pub single : IsTakenAs one (list (list (one ∷ []) ∷ []))
single = simp (by-number, wrap-named, wrap-list, fitting)

pub each : IsTakenAs (list (one ∷ two ∷ [])) (list (list (one ∷ []) ∷ list (two ∷ []) ∷ []))
each = simp (by-number, by-array, wrap-named, wrap-list, fitting)

pub whole : IsTakenAs (list (list (one ∷ two ∷ []) ∷ [])) (list (list (one ∷ two ∷ []) ∷ []))
whole = simp (by-number, by-array, wrap-named, fitting)

out-text : (bytes : List ℕ) → out-Value (json.String bytes) ≡ Value-F.String bytes
out-text bytes = search (rules, value_lemmas)

by-text : (types : List ExtendedType) (bytes : List ℕ) (d : List ℕ) (type : TypeRef)
    → coerced types (json.String bytes) d type ≡ mapped (wrap type) (leaf types d (named_type type) (json.String bytes))
by-text types bytes d type =
    ap (λ rule. rule d type) (coerced-by_rule types (json.String bytes))
    ∙ ap (λ k. level types (coerced types) k (json.String bytes) d type) (out-text bytes)

pub refused-text : IsRefused word (codes "could not coerce variable v: \"a\" to type Int")
unfolding computed
refused-text = simp (by-text, out-text, fitting, printing)

pub refused-inside : IsRefused (list (one ∷ list (word ∷ []) ∷ [])) (codes "could not coerce variable v: \"a\" to type Int")
unfolding computed
refused-inside = simp (by-number, by-text, by-array, out-text, wrap-list, fitting, printing)
