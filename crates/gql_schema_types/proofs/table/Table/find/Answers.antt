use Rattle.std.proofs.Common.{◌≡◌, IfSome, ap, ◌∙◌, subst, position}
use Rattle.std.specs.Str.{bytes_eq}
use Rattle.gql_schema_types.specs.Entries.{texts, is_called}
use Rattle.gql_schema_types.proofs.Lookups.{place-texts}
use Rattle.gql_schema_types.proofs.table.Table.find.Goals as goal

pub returns-in-Some : goal.returns-in-Some
returns-in-Some g c =
    let own = g.T.Named.own in
    let xs = c.self.inside.entries.items in
    let name = c.args.name.now in
    let fits = subst (λ o. IfSome o (λ i. i.value ≡ texts own xs)) c.in-Some.is c.self.invariant.1 in
    c.find.ensures ∙ ap (position (bytes_eq name)) (c.deref.ensures ∙ fits) ∙ place-texts own name xs ∙ ap (position (is_called own name)) c.self.view_is
