-- Words of the crates below, passed on to what stands on the engine.
pub use Rattle.gql_exec.specs.Thing.{Thing, of_library, of_user, type_of_thing}
pub use Rattle.gql_exec.specs.ThingMeaning.{Resolving, thing_meaning}
pub use Rattle.gql_parser.specs.DocumentText.{DocumentText}
pub use Rattle.gql_parser.specs.SchemaText.{SchemaText}
pub use Rattle.gql_engine.specs.NotAsked.{IsAsked, NotAsked}
pub use Rattle.gql_engine.specs.Request.{Asked, HasForm, asked_in}
pub use Rattle.gql_engine.specs.declared.request_form.Request.{Request}
pub use Rattle.gql_engine.specs.declared.request_form.RequestForm.{RequestForm}
pub use Rattle.gql_engine.specs.declared.request_form.RequestForm.TheVariants as forms
