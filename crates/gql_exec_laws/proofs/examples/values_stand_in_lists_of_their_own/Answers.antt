use Rattle.gql_exec_laws.proofs.Inputs.{single, each, whole, refused-text, refused-inside}
use Rattle.gql_exec_laws.proofs.examples.values_stand_in_lists_of_their_own.Goals as goal

pub returns-clause-single : goal.returns-clause-single
returns-clause-single c = single

pub returns-clause-each : goal.returns-clause-each
returns-clause-each c = each

pub returns-clause-whole : goal.returns-clause-whole
returns-clause-whole c = whole

pub returns-clause-text : goal.returns-clause-text
returns-clause-text c = refused-text

pub returns-clause-inside : goal.returns-clause-inside
returns-clause-inside c = refused-inside
