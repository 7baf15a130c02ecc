use Rattle.std.proofs.Common.{position, get_or, ap, ◌∙◌}
use Rattle.gql_rules_values.proofs.Places.{stands_at, first-of-name}
use Rattle.gql_rules_values.proofs.by_name.ByName.is_first.Goals as goal
use Rattle.gql_schema_types.specs.Entries.{is_called}

pub returns-in-Some : goal.returns-in-Some
returns-in-Some g c item there =
    let own = g.T.Placed.name_of in
    let xs = c.args.self.now in
    let at = c.args.at in
    let same = c.as_str.ensures.text ∙ ap (λ n. n.text) c.placed_name.ensures in
    ap (λ o. stands_at o at) (c.in-Some.ensures ∙ ap (λ n. position (is_called own n) xs) same)
    ∙ first-of-name own xs at c.index-as_slice-at.result c.requires (c.index-as_slice-at.is ∙ ap (λ l. get_or l at c.index-as_slice-at.result) c.as_slice.ensures) item there

pub returns-in-None : goal.returns-in-None
returns-in-None g c item there =
    let own = g.T.Placed.name_of in
    let xs = c.args.self.now in
    let at = c.args.at in
    let same = c.as_str.ensures.text ∙ ap (λ n. n.text) c.placed_name.ensures in
    ap (λ o. stands_at o at) (c.in-None.ensures ∙ ap (λ n. position (is_called own n) xs) same)
    ∙ first-of-name own xs at c.index-as_slice-at.result c.requires (c.index-as_slice-at.is ∙ ap (λ l. get_or l at c.index-as_slice-at.result) c.as_slice.ensures) item there
