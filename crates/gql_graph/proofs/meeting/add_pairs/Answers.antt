use Rattle.std.proofs.Common.{length, sym, ap, ◌∙◌, subst}
use Rattle.gql_graph.specs.bridge.Explored.{AreEmpty, IsPaired}
use Rattle.gql_graph.specs.bridge.Steps.{Meeting, all_emptied}
use Rattle.gql_graph.proofs.Meetings.{paired_all, empty_again, as_many_again}
use Rattle.gql_graph.proofs.meeting.add_pairs.Goals as goal

pub returns-clause-empty : goal.returns-clause-empty
returns-clause-empty c =
    subst AreEmpty (sym (c.empty_all.ensures ∙ ap (λ (t : Meeting). all_emptied c.args.keys.now t.buckets c.args.fields.now) c.in_ok-meet_all.ensures))
    (empty_again c.args.keys.now c.args.classes.now c.args.in_full c.args.fields.now c.args.buckets.now c.args.seen.now c.requires)

pub returns-clause-as_many : goal.returns-clause-as_many
returns-clause-as_many c =
    ap length (c.empty_all.ensures ∙ ap (λ (t : Meeting). all_emptied c.args.keys.now t.buckets c.args.fields.now) c.in_ok-meet_all.ensures)
    ∙ as_many_again c.args.keys.now c.args.classes.now c.args.in_full c.args.fields.now c.args.buckets.now c.args.seen.now c.requires

pub returns-clause-paired : goal.returns-clause-paired
returns-clause-paired c =
    subst (IsPaired c.args.keys.now c.args.classes.now c.args.fields.now (length c.args.buckets.now) c.args.in_full c.args.seen.now)
    (sym (ap (λ (t : Meeting). t.seen) c.in_ok-meet_all.ensures))
    (paired_all c.args.keys.now c.args.classes.now c.args.in_full c.args.fields.now c.args.buckets.now c.args.seen.now c.requires)
