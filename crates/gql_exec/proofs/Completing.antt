-- What is made of an answer at a place, step by step.
use Rattle.std.proofs.Common.{◌≡◌, List, [], ◌∷◌, ◌++◌, Option, Some, None, option_map, refl, sym, ap, ◌∙◌}
use Rattle.std.proofs.lemmas.List.{append-nil}
use Rattle.jb_tree.specs.declared.value.Value.{Value}
use Rattle.jb_tree.specs.declared.value.Value.TheVariants as json
use Rattle.gql_ast_base.specs.Names.{Named}
use Rattle.gql_ast_base.specs.declared.type_ref.TypeRef.{TypeRef}
use Rattle.gql_response.specs.declared.graphql_error.GraphQLError.{GraphQLError}
use Rattle.gql_response.specs.declared.path.ResponseDataPathSegment.TheVariants.{Field}
use Rattle.gql_resolvers.specs.Execute.{Made, Member, Below, null_or_pass, settled_by, settled, unless_misfit, value_made, completed, object_made, one_object, one_array}
use Rattle.gql_resolvers.specs.Fault.{told_at, fault_error}
use Rattle.gql_resolvers.specs.Resolved.{Meaning, gives_object, Misfit}
use Rattle.gql_resolvers.specs.Spot.{Spot, trail, field_spot}
use Rattle.gql_resolvers.specs.Trail.{Trail}
use Rattle.gql_ast_base.specs.TypeParts.{is_non_null}
use Rattle.gql_resolvers.specs.World.{World}
use Rattle.gql_exec.specs.bridge.Executed.{IsMade}

pub made-as : {A : Type 0} (found other : Option (List A)) (before after : List GraphQLError) (made whole : Made A) → found ≡ other → made ≡ whole
    → IsMade found before after made → IsMade other before after whole
made-as {A} found other before after made whole same is it = record {
  is = sym same ∙ it.is ∙ ap (λ (m : Made A). m.0) is;
  listed = it.listed ∙ ap (λ (m : Made A). before ++ m.1) is;
}

-- a value without errors
pub made-value : {A : Type 0} (xs : List A) (errors : List GraphQLError) → IsMade (Some xs) errors errors (Some xs, [])
made-value xs errors = record { is = refl; listed = sym (append-nil errors) }

module _ {X T G S : Type 0} (w : World X T G S) (run : Below w) where
  pub completed-misfit : (spot : Spot G) (m : Meaning X) (misfit : Misfit) → w.misfit spot.type m ≡ Some misfit
      → completed w run spot m ≡ settled spot (None, fault_error w spot (told_at (w.span_of spot.group) misfit) ∷ [])
  completed-misfit spot m misfit is = ap (λ o. settled spot (unless_misfit w spot o (value_made w run spot m))) is

  pub completed-fits : (spot : Spot G) (m : Meaning X) → w.misfit spot.type m ≡ None → completed w run spot m ≡ settled spot (value_made w run spot m)
  completed-fits spot m is = ap (λ o. settled spot (unless_misfit w spot o (value_made w run spot m))) is

  pub completed-object : (spot : Spot G) (x : X) (U : T) → w.misfit spot.type (gives_object x) ≡ None → w.type_of x ≡ Some U
      → completed w run spot (gives_object x) ≡ settled spot (one_object (run U x (trail spot) (w.below spot.group)))
  completed-object spot x U fits is = completed-fits spot (gives_object x) fits ∙ ap (λ o. settled spot (object_made w run spot x o)) is

module _ {G : Type 0} (spot : Spot G) where
  pub object-some : (members : List Member) (before after : List GraphQLError) (made : Made Member) → IsMade (Some members) before after made
      → IsMade (Some (json.Object members ∷ [])) before after (settled spot (one_object made))
  object-some members before after made it = record {
    is = ap (λ (o : Option (List Member)). settled_by (is_non_null spot.type) (option_map (λ ms. json.Object ms ∷ []) o)) it.is;
    listed = it.listed;
  }

  pub object-none : (before after : List GraphQLError) (made : Made Member) → IsMade None before after made
      → IsMade (null_or_pass (is_non_null spot.type)) before after (settled spot (one_object made))
  object-none before after made it = record {
    is = ap (λ (o : Option (List Member)). settled_by (is_non_null spot.type) (option_map (λ ms. json.Object ms ∷ []) o)) it.is;
    listed = it.listed;
  }

  pub array-some : (values : List Value) (before after : List GraphQLError) (made : Made Value) → IsMade (Some values) before after made
      → IsMade (Some (json.Array values ∷ [])) before after (settled spot (one_array made))
  array-some values before after made it = record {
    is = ap (λ (o : Option (List Value)). settled_by (is_non_null spot.type) (option_map (λ vs. json.Array vs ∷ []) o)) it.is;
    listed = it.listed;
  }

  pub array-none : (before after : List GraphQLError) (made : Made Value) → IsMade None before after made
      → IsMade (null_or_pass (is_non_null spot.type)) before after (settled spot (one_array made))
  array-none before after made it = record {
    is = ap (λ (o : Option (List Value)). settled_by (is_non_null spot.type) (option_map (λ vs. json.Array vs ∷ []) o)) it.is;
    listed = it.listed;
  }

abbrev pub at_field : {G : Type 0} → Trail → G → Named → TypeRef → Spot G
at_field outer g name ty = record { around = outer; step = Field name; type = ty; group = g }

-- the place of a group's field, as the code has it
pub field-spot : {X T G S : Type 0} (w : World X T G S) (U : T) (outer : Trail) (g : G) (name : Named) (ty : TypeRef) → name ≡ w.name_of g → ty ≡ w.type_at U g
    → at_field outer g name ty ≡ field_spot w U outer g
field-spot w U outer g name ty named typed =
    ap (λ (n : Named). at_field outer g n ty) named ∙ ap (λ (t : TypeRef). at_field outer g (w.name_of g) t) typed
