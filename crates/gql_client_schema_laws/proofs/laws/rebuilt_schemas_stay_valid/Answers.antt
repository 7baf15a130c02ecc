-- Validity of a rebuilt schema.
use Rattle.std.proofs.Common.{false}
use Rattle.gql_client_schema_laws.proofs.PrintedAgain.{placed, constant, uses}
use Rattle.gql_client_schema_laws.proofs.laws.rebuilt_schemas_stay_valid.Goals as goal
use Rattle.gql_schema_build.specs.Build.{built}

pub returns : goal.returns
returns c =
    let sound = c.factored_is_declared.ensures.sound in
    let once = c.texts_have_one_document.ensures.document in
    λ sources files built_in first user shown is own right shows says here constants are.
    c.shown_schemas_stay_valid.ensures (built sources false built_in first) (built files false built_in user) shown shows
    (c.rebuilt_definitions_show_the_same.ensures.shows sources files built_in first user shown (c.built_in_definitions_have_known_names.ensures built_in is) own right shows says)
    here (placed sound once sources files built_in is first own right shown shows user says are) constants
    (constant sound once sources files built_in is first own right shown shows user says are) (uses sound once sources files built_in is first own right shown shows user says are)
    (c.rebuilt_schemas_have_the_standard.ensures sources files built_in first user shown is own right shows says)
