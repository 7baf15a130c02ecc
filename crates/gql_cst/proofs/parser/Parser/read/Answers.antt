use Rattle.std.proofs.Common.{◌≡◌, ap, subst, rules}
use Rattle.gql_lexer.specs.declared.token.TokenKind.TheVariants.{Ignored}
use Rattle.gql_cst.specs.Leaves.{Part, IsLeaf, part_of_token}
use Rattle.gql_cst.proofs.Going.{token-limit-ended, ignored-going, going-counted}
use Rattle.gql_cst.proofs.parser.Parser.read.Goals as goal

pub returns-then-is_past-clause-ends : goal.returns-then-is_past-clause-ends
returns-then-is_past-clause-ends g c =
    token-limit-ended g.O.Output.stands c.args.self.now c.in_ok-self.field-0 (part_of_token c.args.token.kind) c.args.token.range c.requires.going c.requires.token c.in_ok-self.ensures c.if-is_past.ensures

pub returns-then-eq-clause-goes_on : goal.returns-then-eq-clause-goes_on
returns-then-eq-clause-goes_on g c =
    let p = c.args.self.now in
    let range = c.args.token.range in
    let e : c.args.token.kind ≡ Ignored = search rules in
    let leaf = subst (λ (part : Part). IsLeaf p.text.now range.start (record { part = part; start = range.start; end = range.end })) (ap part_of_token e) c.requires.token in
    ignored-going g.O.Output.stands p c.ignored.new.self c.in_ok-self.field-0 range c.requires.going leaf c.in_ok-ignored.ensures c.in_ok-self.ensures c.if-is_past.ensures

pub read_word-requires-clause-counted : goal.read_word-requires-clause-counted
read_word-requires-clause-counted g c =
    going-counted g.O.Output.stands c.args.self.now c.in_ok-self.field-0 c.args.token.range.start c.requires.going c.in_ok-self.ensures c.if-is_past.ensures
