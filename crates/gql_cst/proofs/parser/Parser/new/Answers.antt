use Rattle.std.proofs.Common.{[], refl}
use Rattle.gql_cst.proofs.Going.{new-going}
use Rattle.gql_cst.proofs.parser.Parser.new.Goals as goal

pub returns-clause-going : goal.returns-clause-going
returns-clause-going g c = new-going g.O.Output.stands _ (λ at. c.new.ensures at [] (c.requires.nothing at)) refl refl c.requires.starts c.requires.root
