-- What only private clauses and proofs cite, beside `Collected`.
use Rattle.gql_collect.specs.Setting.{Setting}
use Rattle.gql_collect.specs.declared.collecting.Collector.{Collector}
use Rattle.gql_collect.specs.Collected.{setting}

abbrev pub setting_of : Collector → Setting
setting_of collector = setting collector.fragments.now collector.schema.now collector.object.now collector.variables.now
