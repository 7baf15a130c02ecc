use Rattle.gql_cst.specs.Report.{report_of}
use Rattle.gql_cst.proofs.OneError.{told_alike}
use Rattle.gql_cst.proofs.laws.parses_tell_the_same.Goals as goal

pub returns : goal.returns
returns c =
    let stands = c.one_thing_stands.ensures in
    let words = c.sentences_have_one_tree.ensures.words in
    record {
      error = λ start text limits one other h k. (told_alike stands words start text limits (report_of one) (report_of other) h k).error;
      levels = λ start text limits one other h k. (told_alike stands words start text limits (report_of one) (report_of other) h k).levels;
      tokens = λ start text limits one other h k. (told_alike stands words start text limits (report_of one) (report_of other) h k).tokens;
    }
