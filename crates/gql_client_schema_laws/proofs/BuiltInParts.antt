-- What is built in is as printing leaves definitions, but that it stands in the built-in file.
use Rattle.std.proofs.Common.{◌≡◌, ℕ, Bool, true, false, not, ◌&&◌, Option, None, List, [], ◌∷◌, map, fold, refl, sym, subst}
use Rattle.std.specs.List.{AllByRecursion, list_all}
use Rattle.gql_ast_base.specs.Names.{Named}
use Rattle.gql_ast_base.specs.declared.directive.Directive.{Directive}
use Rattle.gql_ast_base.specs.declared.value.Value.{Value}
use Rattle.gql_ast_base.specs.declared.value.ValueKind.TheVariants as kind
use Rattle.gql_ast.specs.declared.field_definition.EnumValueDefinition.{EnumValueDefinition}
use Rattle.gql_ast.specs.declared.field_definition.FieldDefinition.{FieldDefinition}
use Rattle.gql_ast.specs.declared.field_definition.InputValueDefinition.{InputValueDefinition}
use Rattle.gql_ast.specs.declared.schema_definition.DirectiveDefinition.{DirectiveDefinition}
use Rattle.gql_client_schema_laws.specs.AsPrinted.{IsDeprecated, InputUses, FieldUses, ValueUses, HasConstantParts, HasConstantParameters}
use Rattle.gql_client_schema_laws.specs.Parts.{said_type}
use Rattle.gql_client_schema_laws.specs.PrintedDefinitions.{IsTypeAsPrinted, IsDirectiveAsPrinted}
use Rattle.gql_client_schema_laws.specs.Throughout.{TypeIs, DirectiveIs}
use Rattle.gql_client_schema_laws.proofs.BuiltIns.{OneDocument, same_directives, same_types}
use Rattle.gql_introspection.specs.Deprecation.{specified_by}
use Rattle.gql_print_laws.specs.Literal.{literal_of}
use Rattle.gql_print_laws.specs.Written.{IsConstant}
use Rattle.gql_print_laws.proofs.Meaning.{literal-Boolean, literal-String}
use Rattle.gql_rules_values.specs.Written.{is_written}
use Rattle.gql_schema.proofs.Known.{SoundLaw, by_rows}
use Rattle.gql_schema.specs.BuiltInSchema.{IsBuiltIn}
use Rattle.gql_schema.specs.Rows as rows
use Rattle.gql_client_schema_laws.specs.Uses.{AreUses, url_uses}
use Rattle.gql_schema_build.specs.Built.{built}
use Rattle.gql_schema_build.specs.DirectiveDefinitionCollision.{directive_name}
use Rattle.gql_schema_build.specs.declared.built_in.BuiltIn.{BuiltIn}
use Rattle.gql_schema_types.specs.Entries.{put}
use Rattle.gql_schema_types.specs.declared.types.ExtendedType.{ExtendedType}
use Rattle.gql_schema_types.specs.declared.types.ExtendedType.TheVariants as type
use Rattle.gql_sdl.specs.Schemas.{is_directive_name, is_built_in}

-- ---- tests

both : (a b : Bool) → (a && b) ≡ true → (a ≡ true) × (b ≡ true)
both true b is = (refl, is)
both false b is = absurd cc

opposite : (b : Bool) → not b ≡ true → b ≡ false
opposite true is = absurd cc
opposite false is = refl

all_tested : {X : Type 0} (test : X → Bool) (P : X → Type 0) → ((x : X) → test x ≡ true → P x) → (xs : List X) → list_all test xs ≡ true → AllByRecursion P xs
all_tested test P h [] is = tt
all_tested test P h (x ∷ xs) is =
    let parts = both (test x) (list_all test xs) is in
    (h x parts.0, all_tested test P h xs parts.1)

all_together : {X : Type 0} (test : X → Bool) (P Q : X → Type 0) → ((x : X) → test x ≡ true → P x → Q x) → (xs : List X) → list_all test xs ≡ true → AllByRecursion P xs → AllByRecursion Q xs
all_together test P Q h [] is all = tt
all_together test P Q h (x ∷ xs) is all =
    let parts = both (test x) (list_all test xs) is in
    (h x parts.0 all.0, all_together test P Q h xs parts.1 all.1)

abbrev no_uses : List Directive → Bool
no_uses [] = true
no_uses (d ∷ ds) = false

abbrev no_names : List Named → Bool
no_names [] = true
no_names (name ∷ names) = false

abbrev test_input : InputValueDefinition → Bool
test_input x = no_uses x.directives

abbrev test_field : FieldDefinition → Bool
test_field x = not (is_written x.location) && (no_uses x.directives && list_all test_input x.arguments)

abbrev test_value : EnumValueDefinition → Bool
test_value x = not (is_written x.location) && no_uses x.directives

abbrev test_type : ExtendedType → Bool
test_type (type.Scalar t) = not (is_written t.name.location) && (not (is_written t.location) && (is_built_in (said_type None (type.Scalar t)) && no_uses t.directives))
test_type (type.Object t) =
    not (is_written t.name.location) && (not (is_written t.location) && (is_built_in (said_type None (type.Object t))
    && (no_uses t.directives && (no_names t.implements_interfaces && list_all test_field t.fields))))
test_type (type.Enum t) =
    not (is_written t.name.location) && (not (is_written t.location) && (is_built_in (said_type None (type.Enum t)) && (no_uses t.directives && list_all test_value t.values)))
test_type _ = false

abbrev test_directive : DirectiveDefinition → Bool
test_directive d = not (is_written d.name.location) && (not (is_written d.location) && (is_directive_name d.name.text && list_all test_input d.arguments))

-- ---- what they say

unused : (ds : List Directive) → no_uses ds ≡ true → ds ≡ []
unused [] is = refl
unused (d ∷ ds) is = absurd cc

unnamed : (names : List Named) → no_names names ≡ true → names ≡ []
unnamed [] is = refl
unnamed (name ∷ names) is = absurd cc

module _ (why : Option Value) where
  not_deprecated : (ds : List Directive) → no_uses ds ≡ true → IsDeprecated why ds
  not_deprecated ds is = subst (IsDeprecated why) (sym (unused ds is)) refl

  inputs_unused : (xs : List InputValueDefinition) → list_all test_input xs ≡ true → AllByRecursion (InputUses why) xs
  inputs_unused = all_tested test_input (InputUses why) (λ x is. not_deprecated x.directives is)

  field_unused : (x : FieldDefinition) → test_field x ≡ true → FieldUses why x
  field_unused x is =
      let parts = both (no_uses x.directives) (list_all test_input x.arguments) (both (not (is_written x.location)) (no_uses x.directives && list_all test_input x.arguments) is).1 in
      record { itself = not_deprecated x.directives parts.0; arguments = inputs_unused x.arguments parts.1 }

  field_place : (x : FieldDefinition) → test_field x ≡ true → is_written x.location ≡ false
  field_place x is = opposite (is_written x.location) (both (not (is_written x.location)) (no_uses x.directives && list_all test_input x.arguments) is).0

  -- a type that passes, with constant defaults
  as_printed : (t : ExtendedType) → test_type t ≡ true → HasConstantParts t → IsTypeAsPrinted why t
  as_printed (type.Scalar t) is constant =
      let a = both (not (is_written t.name.location)) (not (is_written t.location) && (is_built_in (said_type None (type.Scalar t)) && no_uses t.directives)) is in
      let b = both (not (is_written t.location)) (is_built_in (said_type None (type.Scalar t)) && no_uses t.directives) a.1 in
      let c = both (is_built_in (said_type None (type.Scalar t))) (no_uses t.directives) b.1 in
      record {
        place = subst (λ q. TypeIs (not q) (type.Scalar t)) (sym c.0) (record { name = opposite (is_written t.name.location) a.0; itself = opposite (is_written t.location) b.0 });
        uses = subst (λ ds. AreUses (url_uses (specified_by ds)) ds) (sym (unused t.directives c.1)) refl;
        constant = constant;
      }
  as_printed (type.Object t) is constant =
      let a = both (not (is_written t.name.location)) (not (is_written t.location) && (is_built_in (said_type None (type.Object t)) && (no_uses t.directives && (no_names t.implements_interfaces && list_all test_field t.fields)))) is in
      let b = both (not (is_written t.location)) (is_built_in (said_type None (type.Object t)) && (no_uses t.directives && (no_names t.implements_interfaces && list_all test_field t.fields))) a.1 in
      let c = both (is_built_in (said_type None (type.Object t))) (no_uses t.directives && (no_names t.implements_interfaces && list_all test_field t.fields)) b.1 in
      let d = both (no_uses t.directives) (no_names t.implements_interfaces && list_all test_field t.fields) c.1 in
      let e = both (no_names t.implements_interfaces) (list_all test_field t.fields) d.1 in
      record {
        place =
            subst (λ q. TypeIs (not q) (type.Object t)) (sym c.0)
            (record {
              name = opposite (is_written t.name.location) a.0;
              itself = opposite (is_written t.location) b.0;
              interfaces = subst (AllByRecursion (λ (name : Named). is_written name.location ≡ false)) (sym (unnamed t.implements_interfaces e.0)) tt;
              fields = all_tested test_field (λ x. is_written x.location ≡ false) field_place t.fields e.1;
            });
        uses = (subst (AreUses []) (sym (unused t.directives d.0)) refl, all_tested test_field (FieldUses why) field_unused t.fields e.1);
        constant = constant;
      }
  as_printed (type.Enum t) is constant =
      let a = both (not (is_written t.name.location)) (not (is_written t.location) && (is_built_in (said_type None (type.Enum t)) && (no_uses t.directives && list_all test_value t.values))) is in
      let b = both (not (is_written t.location)) (is_built_in (said_type None (type.Enum t)) && (no_uses t.directives && list_all test_value t.values)) a.1 in
      let c = both (is_built_in (said_type None (type.Enum t))) (no_uses t.directives && list_all test_value t.values) b.1 in
      let d = both (no_uses t.directives) (list_all test_value t.values) c.1 in
      record {
        place =
            subst (λ q. TypeIs (not q) (type.Enum t)) (sym c.0)
            (record {
              name = opposite (is_written t.name.location) a.0;
              itself = opposite (is_written t.location) b.0;
              values =
                  all_tested test_value (λ x. is_written x.location ≡ false)
                  (λ x it. opposite (is_written x.location) (both (not (is_written x.location)) (no_uses x.directives) it).0) t.values d.1;
            });
        uses = (
          subst (AreUses []) (sym (unused t.directives d.0)) refl,
          all_tested test_value (ValueUses why) (λ x it. not_deprecated x.directives (both (not (is_written x.location)) (no_uses x.directives) it).1) t.values d.1,
        );
        constant = constant;
      }
  as_printed _ is constant = absurd cc

  directive_as_printed : (d : DirectiveDefinition) → test_directive d ≡ true → HasConstantParameters d → IsDirectiveAsPrinted why d
  directive_as_printed d is constant =
      let a = both (not (is_written d.name.location)) (not (is_written d.location) && (is_directive_name d.name.text && list_all test_input d.arguments)) is in
      let b = both (not (is_written d.location)) (is_directive_name d.name.text && list_all test_input d.arguments) a.1 in
      let c = both (is_directive_name d.name.text) (list_all test_input d.arguments) b.1 in
      record {
        place = subst (λ q. DirectiveIs (not q) d) (sym c.0) (record { name = opposite (is_written d.name.location) a.0; itself = opposite (is_written d.location) b.0 });
        uses = inputs_unused d.arguments c.1;
        constant = constant;
      }

-- ---- the rows

rows_pass : list_all test_type (map built by_rows.types) ≡ true
unfolding rows.arguments_at rows.fields_at rows.values_at rows.locations_at rows.argument_of rows.field_of rows.enum_value_of rows.object_of rows.enum_of rows.scalar_of rows.directive_of
rows_pass = refl

directives_pass : list_all test_directive (fold (put directive_name) [] by_rows.directives) ≡ true
unfolding rows.arguments_at rows.fields_at rows.values_at rows.locations_at rows.argument_of rows.field_of rows.enum_value_of rows.object_of rows.enum_of rows.scalar_of rows.directive_of
directives_pass = refl

-- a truth and a string are constant
truth : IsConstant (literal_of (kind.Boolean false))
truth = subst IsConstant (sym (literal-Boolean false)) tt

string : (text : List ℕ) → IsConstant (literal_of (kind.String text))
string text = subst IsConstant (sym (literal-String text)) tt

-- `includeDeprecated: Boolean = false` stands at some fields
rows_constant : AllByRecursion HasConstantParts (map built by_rows.types)
unfolding rows.arguments_at rows.fields_at rows.values_at rows.locations_at rows.argument_of rows.field_of rows.enum_value_of rows.object_of rows.enum_of rows.scalar_of rows.directive_of
rows_constant = (
  (tt, (tt, (tt, (tt, (tt, (tt, tt)))))),
  (
    (tt, (tt, (tt, ((truth, tt), (tt, (tt, ((truth, tt), ((truth, tt), (tt, (tt, (tt, tt))))))))))),
    (
      tt,
      (
        (tt, (tt, ((truth, tt), (tt, (tt, (tt, tt)))))),
        (
          (tt, (tt, (tt, (tt, (tt, (tt, tt)))))),
          (
            (tt, (tt, (tt, (tt, tt)))),
            (
              (tt, (tt, (tt, ((truth, tt), (tt, tt))))),
              (tt, (tt, (tt, (tt, (tt, (tt, tt)))))),
            ),
          ),
        ),
      ),
    ),
  ),
)

directives_constant : AllByRecursion HasConstantParameters (fold (put directive_name) [] by_rows.directives)
unfolding rows.arguments_at rows.fields_at rows.values_at rows.locations_at rows.argument_of rows.field_of rows.enum_value_of rows.object_of rows.enum_of rows.scalar_of rows.directive_of
directives_constant = ((tt, tt), ((tt, tt), ((string _, tt), ((tt, tt), (tt, tt)))))

module _ (sound : SoundLaw) (once : OneDocument) (built_in : BuiltIn) (is : IsBuiltIn built_in) (why : Option Value) where
  pub types_as_printed : AllByRecursion (IsTypeAsPrinted why) (map built built_in.types)
  types_as_printed =
      subst (λ ds. AllByRecursion (IsTypeAsPrinted why) (map built ds)) (same_types sound once built_in is)
      (all_together test_type HasConstantParts (IsTypeAsPrinted why) (as_printed why) (map built by_rows.types) rows_pass rows_constant)

  pub directives_as_printed : AllByRecursion (IsDirectiveAsPrinted why) (fold (put directive_name) [] built_in.directives)
  directives_as_printed =
      subst (λ ds. AllByRecursion (IsDirectiveAsPrinted why) (fold (put directive_name) [] ds)) (same_directives sound once built_in is)
      (all_together test_directive HasConstantParameters (IsDirectiveAsPrinted why) (directive_as_printed why) (fold (put directive_name) [] by_rows.directives) directives_pass directives_constant)
