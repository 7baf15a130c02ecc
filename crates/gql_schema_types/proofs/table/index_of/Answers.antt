use Rattle.std.proofs.Common.{position, [], ◌∷◌, ◌++◌, ap, ◌∙◌}
use Rattle.std.specs.Str.{bytes_eq}
use Rattle.gql_schema_types.proofs.Lookups.{new_text, take_text}
use Rattle.gql_schema_types.proofs.table.index_of.Goals as goal

pub push-requires : goal.push-requires
push-requires g c =
    let own = g.T.Named.own in
    let xs = c.args.entries.now in
    let i = c.loop-entry.entry-index in
    let x = c.entry-item.result in
    let same = c.as_str.ensures.text ∙ ap (λ n. n.text) c.own_name.ensures in
    ap (λ k. position (bytes_eq k) c.loop-entry.names) same ∙ ap (position (bytes_eq (own x).text)) c.loop-entry.invariant
    ∙ new_text own xs i x c.loop-entry-test.true c.entry-item.is c.requires

pub loop-entry-preserved : goal.loop-entry-preserved
loop-entry-preserved g c =
    let own = g.T.Named.own in
    let xs = c.args.entries.now in
    let i = c.loop-entry.entry-index in
    let x = c.entry-item.result in
    let same = c.as_str.ensures.text ∙ ap (λ n. n.text) c.own_name.ensures in
    c.in_ok-push.ensures.pushed ∙ ap (λ k. c.loop-entry.names ++ k ∷ []) same ∙ ap (λ l. l ++ (own x).text ∷ []) c.loop-entry.invariant
    ∙ take_text own xs i x c.loop-entry-test.true c.entry-item.is
