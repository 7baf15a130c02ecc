use Rattle.gql_parser.proofs.Running.{acyclic, ranked, roots, spreads_defined}
use Rattle.gql_parser.proofs.laws.valid_documents_run.Goals as goal

pub returns-clause-defined : goal.returns-clause-defined
returns-clause-defined c = λ schema text document means. spreads_defined schema document means.holds

pub returns-clause-acyclic : goal.returns-clause-acyclic
returns-clause-acyclic c = acyclic

pub returns-clause-ranked : goal.returns-clause-ranked
returns-clause-ranked c = ranked c.acyclic_graphs_have_ranks.ensures

pub returns-clause-roots : goal.returns-clause-roots
returns-clause-roots c = roots
