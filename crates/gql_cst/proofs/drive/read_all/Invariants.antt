use Rattle.std.proofs.Common.{◌≡◌, ◌-◌, length}
use Rattle.gql_cst.specs.bridge.Going.{IsGoing, SameText}
use Rattle.gql_cst.proofs.drive.read_all.Given as goal

abbrev pub invariant-loop-found : goal.invariant-loop-found
invariant-loop-found g l = record {
  going : IsGoing g.O.Output.stands l.parser l.lexer.place;
  text : l.lexer.text ≡ l.initial.parser.text.now;
  same : SameText l.initial.parser l.parser;
}

abbrev pub decreases-loop-found : goal.decreases-loop-found
decreases-loop-found g l = length l.lexer.text - l.lexer.place
