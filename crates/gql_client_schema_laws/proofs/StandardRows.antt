-- What is built of what a text says has what the standard builds in.
use Rattle.std.proofs.Common.{◌≡◌, List, [], ◌∷◌, ◌++◌, map, fold, codes, refl, sym, ap, subst, rules}
use Rattle.gql_ast_base.specs.Names.{Named}
use Rattle.gql_ast_base.specs.Types.{non_null}
use Rattle.gql_ast_base.specs.declared.type_ref.TypeRef.{TypeRef, the_lemmas}
use Rattle.gql_ast_base.specs.declared.type_ref.TypeRef.TheVariants as ref
use Rattle.gql_ast.specs.declared.schema_definition.DirectiveDefinition.{DirectiveDefinition}
use Rattle.gql_ast_laws.specs.Printed.{from_nowhere, unplaced}
use Rattle.gql_client_schema_laws.proofs.BuiltIns.{OneDocument, same_directives, same_types}
use Rattle.gql_schema.proofs.Known.{SoundLaw, by_rows}
use Rattle.gql_schema.specs.BuiltInSchema.{IsBuiltIn}
use Rattle.gql_schema.specs.Rows as rows
use Rattle.gql_client_schema_laws.specs.Standard.{IsStandard}
use Rattle.gql_schema_build.specs.Built.{built}
use Rattle.gql_schema_build.specs.DirectiveDefinitionCollision.{directive_name}
use Rattle.gql_schema_build.specs.declared.built_in.BuiltIn.{BuiltIn}
use Rattle.gql_schema_types.specs.Entries.{put}
use Rattle.gql_schema_types.specs.declared.types.ExtendedType.{ExtendedType}

un_named : (name : Named) → unplaced (ref.Named name) ≡ ref.Named (from_nowhere name)
un_named name = search (rules, the_lemmas)

un_required : (name : Named) → unplaced (non_null (ref.Named name)) ≡ ref.NonNullNamed (from_nowhere name)
un_required name = search (rules, the_lemmas)

standard_rows : (user : List DirectiveDefinition) (rest : List ExtendedType) → IsStandard (map built by_rows.types ++ rest) (fold (put directive_name) [] by_rows.directives ++ user)
unfolding rows.arguments_at rows.fields_at rows.values_at rows.locations_at rows.argument_of rows.field_of rows.enum_value_of rows.object_of rows.enum_of rows.scalar_of rows.directive_of
standard_rows user rest = record {
  string = record { scalar = _; is = refl; plain = refl };
  deprecated = record {
    definition = _;
    is = refl;
    stands = (refl, (refl, (refl, (refl, tt))));
    takes = ap (λ (t : TypeRef). (codes "reason", t) ∷ []) (un_named _);
    plain = (refl, tt);
  };
  specified_by = record {
    definition = _;
    is = refl;
    stands = (refl, tt);
    takes = ap (λ (t : TypeRef). (codes "url", t) ∷ []) (un_required _);
    plain = (refl, tt);
  };
  one_of = record { definition = _; is = refl; stands = (refl, tt); takes = refl; plain = tt };
}

pub standard_of : SoundLaw → OneDocument → (built_in : BuiltIn) → IsBuiltIn built_in → (user : List DirectiveDefinition) (rest : List ExtendedType)
    → IsStandard (map built built_in.types ++ rest) (fold (put directive_name) [] built_in.directives ++ user)
standard_of sound once built_in is user rest =
    subst (λ types. IsStandard (map built types ++ rest) (fold (put directive_name) [] built_in.directives ++ user)) (same_types sound once built_in is)
    (subst (λ ds. IsStandard (map built by_rows.types ++ rest) (fold (put directive_name) [] ds ++ user)) (same_directives sound once built_in is) (standard_rows user rest))

pub standard_again : (types other_types : List ExtendedType) (ds other_ds : List DirectiveDefinition) → types ≡ other_types → ds ≡ other_ds → IsStandard other_types other_ds → IsStandard types ds
standard_again types other_types ds other_ds one two standard =
    subst (λ ts. IsStandard ts ds) (sym one) (subst (λ l. IsStandard other_types l) (sym two) standard)
