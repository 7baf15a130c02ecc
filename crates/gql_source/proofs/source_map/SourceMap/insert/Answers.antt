use Rattle.std.proofs.Common.{◌∙◌, ap}
use Rattle.gql_source.specs.File.{put, are_distinct}
use Rattle.gql_source.proofs.Files.{put-found, put-absent, are_distinct-put}
use Rattle.gql_source.proofs.source_map.SourceMap.insert.Goals as goal

pub invariant_of-self : goal.invariant_of-self
invariant_of-self c =
    ap are_distinct (put-found c.args.id c.args.file c.self.inside.entries.items c.in-Some.at (rw c.deref.ensures.value at c.in-Some.ensures))
    ∙ are_distinct-put c.args.id c.args.file c.self.inside.entries.items c.self.invariant

pub invariant_of-self-in-Continue-1 : goal.invariant_of-self-in-Continue-1
invariant_of-self-in-Continue-1 c =
    ap are_distinct (c.in_ok-push-in-None.ensures.items ∙ put-absent c.args.id c.args.file c.self.inside.entries.items (rw c.deref.ensures.value at c.in-None.ensures))
    ∙ are_distinct-put c.args.id c.args.file c.self.inside.entries.items c.self.invariant

pub returns-in-Some-clause-put : goal.returns-in-Some-clause-put
returns-in-Some-clause-put c =
    put-found c.args.id c.args.file c.self.inside.entries.items c.in-Some.at (rw c.deref.ensures.value at c.in-Some.ensures) ∙ ap (put c.args.id c.args.file) c.self.view_is

pub returns-in_ok-push-in-None-clause-put : goal.returns-in_ok-push-in-None-clause-put
returns-in_ok-push-in-None-clause-put c =
    c.in_ok-push-in-None.ensures.items ∙ put-absent c.args.id c.args.file c.self.inside.entries.items (rw c.deref.ensures.value at c.in-None.ensures) ∙ ap (put c.args.id c.args.file) c.self.view_is

pub returns-in-Some-clause-distinct : goal.returns-in-Some-clause-distinct
returns-in-Some-clause-distinct c =
    ap are_distinct (put-found c.args.id c.args.file c.self.inside.entries.items c.in-Some.at (rw c.deref.ensures.value at c.in-Some.ensures))
    ∙ are_distinct-put c.args.id c.args.file c.self.inside.entries.items c.self.invariant

pub returns-in_ok-push-in-None-clause-distinct : goal.returns-in_ok-push-in-None-clause-distinct
returns-in_ok-push-in-None-clause-distinct c =
    ap are_distinct (c.in_ok-push-in-None.ensures.items ∙ put-absent c.args.id c.args.file c.self.inside.entries.items (rw c.deref.ensures.value at c.in-None.ensures))
    ∙ are_distinct-put c.args.id c.args.file c.self.inside.entries.items c.self.invariant
