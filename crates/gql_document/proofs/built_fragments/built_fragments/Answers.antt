use Rattle.std.proofs.Common.{◌≡◌, [], fold, ap, ◌∙◌}
use Rattle.std.proofs.lemmas.Result.{IfOk-weaker}
use Rattle.gql_schema_types.specs.Entries.{put}
use Rattle.gql_document_types.specs.RootFields.{fragment_name as built_name}
use Rattle.gql_document.specs.Build as spec
use Rattle.gql_document.proofs.Fragments.{all_put}
use Rattle.gql_document.proofs.built_fragments.built_fragments.Goals as goal

pub returns : goal.returns
returns c =
    let schema = c.args.schema.now in
    IfOk-weaker c.put_all.result (λ made. made ≡ fold (put built_name) [] (spec.built_fragments schema c.into_vec.result.items)) (λ made. made ≡ spec.built_fragments schema c.args.fragments)
    (λ made is. is ∙ ap (λ fs. fold (put built_name) [] (spec.built_fragments schema fs)) c.into_vec.ensures.entries ∙ all_put schema c.args.fragments c.into_vec.ensures.distinct)
    c.put_all.ensures
