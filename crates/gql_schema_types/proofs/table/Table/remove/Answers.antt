use Rattle.std.proofs.Common.{sym, ◌∙◌}
use Rattle.gql_schema_types.specs.Entries.{is_called}
use Rattle.gql_schema_types.proofs.Lookups.{found, missing, without-found, without-missing}
use Rattle.gql_schema_types.proofs.table.Table.remove.Goals as goal

pub returns-in-Some-clause-removed : goal.returns-in-Some-clause-removed
returns-in-Some-clause-removed g c = sym (found (is_called g.T.Named.own c.args.name.now) c.args.self.now c.in-Some.at (sym c.in-Some.ensures) ∙ c.remove_at.ensures.old)

pub returns-in-Some-clause-entries : goal.returns-in-Some-clause-entries
returns-in-Some-clause-entries g c =
    c.remove_at.ensures.entries ∙ sym (without-found g.T.Named.own c.args.name.now c.remove_at.result c.args.self.now c.in-Some.at (sym c.in-Some.ensures) c.len-count.ensures.distinct)

pub returns-in-None-clause-removed : goal.returns-in-None-clause-removed
returns-in-None-clause-removed g c = sym (missing (is_called g.T.Named.own c.args.name.now) c.args.self.now (sym c.in-None.ensures))

pub returns-in-None-clause-entries : goal.returns-in-None-clause-entries
returns-in-None-clause-entries g c = sym (without-missing g.T.Named.own c.args.name.now c.args.self.now (missing (is_called g.T.Named.own c.args.name.now) c.args.self.now (sym c.in-None.ensures)))
