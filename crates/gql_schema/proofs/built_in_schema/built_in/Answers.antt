use Rattle.std.proofs.Common.{◌≡◌, sym, ap, ◌∙◌, subst}
use Rattle.gql_source.specs.File.{File}
use Rattle.gql_schema.specs.BuiltInSchema as spec
use Rattle.gql_schema.specs.bridge.Rows as rows
use Rattle.gql_schema.specs.declared.built_in_rows.TheConstants.{DIRECTIVES, TYPES}
use Rattle.gql_schema.proofs.Known.{by_rows, is_built_in}
use Rattle.gql_schema.proofs.built_in_schema.built_in.Goals as goal

pub returns-clause-definitions : goal.returns-clause-definitions
returns-clause-definitions c =
    let same : c.in_ok-built_in.built_in ≡ by_rows =
    c.in_ok-built_in.ensures
    ∙ ap (λ text. rows.built_in_of text spec.built_in_file DIRECTIVES.now TYPES.now) (c.shared_text.ensures ∙ ap (λ (file : File). file.source_text) c.in_ok-file.ensures) in
    subst spec.IsBuiltIn (sym same) (is_built_in c.factored_is_declared.ensures.sound)
