use Rattle.std.proofs.Common.{refl}
use Rattle.gql_cst.specs.Parses.{Reports}
use Rattle.gql_cst.specs.Report.{report_of}
use Rattle.gql_grammar.specs.declared.rule.Rule.TheVariants as rule
use Rattle.gql_parser.proofs.Judging.{judged}
use Rattle.gql_parser.proofs.Ordered.{ordered}
use Rattle.gql_parser.proofs.parser.Parser.read_type.Goals as goal

pub returns-clause-judged : goal.returns-clause-judged
returns-clause-judged c =
    let parsed = c.in_ok-parsed.parsed in
    let is = c.in_ok-parsed.ensures in
    let reports : Reports rule.TypeReference c.args.text.now c.self.inside.limits (report_of parsed) =
    record { parse = is.parse; accepts = is.accepts; cut = is.cut; spans = is.spans } in
    judged (record { limits = c.self.inside.limits; recursion_reached = parsed.recursion_reached; tokens_reached = parsed.tokens_reached }) rule.TypeReference c.args.text.now
    (report_of parsed) refl (record { reports = reports; recursion_reached = refl; tokens_reached = refl }) c.in_ok-parsed.ensures.accepts

pub returns-clause-ordered : goal.returns-clause-ordered
returns-clause-ordered c = ordered rule.TypeReference c.args.text.now c.self.inside.limits (report_of c.in_ok-parsed.parsed) c.in_ok-parsed.ensures.parse
