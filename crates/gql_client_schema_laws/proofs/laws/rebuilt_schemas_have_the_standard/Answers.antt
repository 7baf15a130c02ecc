-- What a rebuilt schema has of what the standard builds in.
use Rattle.std.proofs.Common.{map}
use Rattle.gql_client_schema_laws.specs.Shown.{HasBuiltInNames}
use Rattle.gql_client_schema_laws.proofs.BuiltIns.{have_names}
use Rattle.gql_client_schema_laws.proofs.Rebuilt.{types_again, directives_again}
use Rattle.gql_client_schema_laws.proofs.StandardRows.{standard_of, standard_again}
use Rattle.gql_client_schema_laws.proofs.laws.rebuilt_schemas_have_the_standard.Goals as goal
use Rattle.gql_schema_build.specs.Built.{built}

pub returns : goal.returns
returns c =
    let sound = c.factored_is_declared.ensures.sound in
    let once = c.texts_have_one_document.ensures.document in
    λ sources files built_in first user shown is own right shows says.
    let names : HasBuiltInNames built_in = have_names sound once built_in is in
    standard_again _ _ _ _ (types_again sources built_in first own names right shown shows user says)
    (directives_again sources built_in first own names right shown shows user says) (standard_of sound once built_in is user.directives (map built user.types))
