use Rattle.std.proofs.Common.{position, sym, ap, ◌∙◌}
use Rattle.gql_schema_types.specs.Entries.{is_called}
use Rattle.gql_schema_types.proofs.Lookups.{found, missing, put-found, put-missing}
use Rattle.gql_schema_types.proofs.table.Table.insert.Goals as goal

pub insert_new-requires : goal.insert_new-requires
insert_new-requires g c =
    let own = g.T.Named.own in
    let same = c.as_str.ensures.text ∙ ap (λ n. n.text) c.own_name.ensures in
    missing (is_called own (own c.args.item).text) c.args.self.now (ap (λ k. position (is_called own k) c.args.self.now) (sym same) ∙ sym c.in-None.ensures)

pub returns-in-Some-clause-replaced : goal.returns-in-Some-clause-replaced
returns-in-Some-clause-replaced g c =
    let own = g.T.Named.own in
    let same = c.as_str.ensures.text ∙ ap (λ n. n.text) c.own_name.ensures in
    let is = ap (λ k. position (is_called own k) c.args.self.now) (sym same) ∙ sym c.in-Some.ensures in
    sym (found (is_called own (own c.args.item).text) c.args.self.now c.in-Some.at is ∙ c.replace_at.ensures.old)

pub returns-in-Some-clause-entries : goal.returns-in-Some-clause-entries
returns-in-Some-clause-entries g c =
    let own = g.T.Named.own in
    let same = c.as_str.ensures.text ∙ ap (λ n. n.text) c.own_name.ensures in
    let is = ap (λ k. position (is_called own k) c.args.self.now) (sym same) ∙ sym c.in-Some.ensures in
    c.replace_at.ensures.entries ∙ sym (put-found own c.args.item c.args.self.now c.in-Some.at is)

pub returns-in-Ok-clause-replaced : goal.returns-in-Ok-clause-replaced
returns-in-Ok-clause-replaced g c =
    let own = g.T.Named.own in
    let same = c.as_str.ensures.text ∙ ap (λ n. n.text) c.own_name.ensures in
    sym (missing (is_called own (own c.args.item).text) c.args.self.now (ap (λ k. position (is_called own k) c.args.self.now) (sym same) ∙ sym c.in-None.ensures))

pub returns-in-Ok-clause-entries : goal.returns-in-Ok-clause-entries
returns-in-Ok-clause-entries g c =
    let own = g.T.Named.own in
    let same = c.as_str.ensures.text ∙ ap (λ n. n.text) c.own_name.ensures in
    let none = missing (is_called own (own c.args.item).text) c.args.self.now (ap (λ k. position (is_called own k) c.args.self.now) (sym same) ∙ sym c.in-None.ensures) in
    c.in-Ok.ensures.entries ∙ sym (put-missing own c.args.item c.args.self.now none)

pub returns-in-Err-clause-absent : goal.returns-in-Err-clause-absent
returns-in-Err-clause-absent g c =
    let own = g.T.Named.own in
    let same = c.as_str.ensures.text ∙ ap (λ n. n.text) c.own_name.ensures in
    missing (is_called own (own c.args.item).text) c.args.self.now (ap (λ k. position (is_called own k) c.args.self.now) (sym same) ∙ sym c.in-None.ensures)
