-- The object types of a schema that a text means are covariant.
use Rattle.std.proofs.Common.{ℕ, List, sym, subst}
use Rattle.gql_parser.specs.OutputFields.{HaveNoReservedFields, HaveOutputTypes}
use Rattle.gql_parser.specs.Roots.{AreRootsObjects}
use Rattle.gql_parser.specs.SchemaText.{SchemaText}
use Rattle.gql_schema.proofs.Known.{SoundLaw}
use Rattle.gql_schema.specs.Builders.{built}
use Rattle.gql_schema_types.specs.declared.schema.Schema.{Schema}
use Rattle.gql_valid_laws.proofs.Covariance.{covariant}
use Rattle.gql_valid_laws.proofs.Implementing.{types-sound}
use Rattle.gql_valid_laws.proofs.WrittenNames.{OneDocument, names-written}
use Rattle.gql_valid_laws.specs.Covariant.{IsCovariant}

-- what other laws say of such schemas
abbrev pub OfTexts : (Schema → Type 0) → Type 0
OfTexts P = (text : List ℕ) (schema : Schema) → SchemaText text schema → P schema

pub text-covariant : SoundLaw → OneDocument → OfTexts HaveOutputTypes → OfTexts HaveNoReservedFields → OfTexts AreRootsObjects → OfTexts IsCovariant
text-covariant sound one outputs unreserved roots text S means =
    subst IsCovariant (sym means.settled)
    (covariant (built means.taken) (types-sound (built means.taken) (names-written sound one text means.taken means.definitions) means.holds)
    (subst HaveOutputTypes means.settled (outputs text S means)) (subst HaveNoReservedFields means.settled (unreserved text S means))
    (subst AreRootsObjects means.settled (roots text S means)))
