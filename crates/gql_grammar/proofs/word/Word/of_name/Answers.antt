use Rattle.std.proofs.Common.{◌∙◌, arith}
use Rattle.gql_grammar.proofs.Spelled.{is_four, is_five, is_six, is_eight, is_nine, is_ten, is_long}
use Rattle.gql_grammar.proofs.word.Word.of_name.Goals as goal

pub returns-in-4 : goal.returns-in-4
returns-in-4 c = c.word_of_four.ensures ∙ is_four c.args.name.now c.in-4.is

pub returns-in-5 : goal.returns-in-5
returns-in-5 c = c.word_of_five.ensures ∙ is_five c.args.name.now c.in-5.is

pub returns-in-6 : goal.returns-in-6
returns-in-6 c = c.word_of_six.ensures ∙ is_six c.args.name.now c.in-6.is

pub returns-in-8 : goal.returns-in-8
returns-in-8 c = c.word_of_eight.ensures ∙ is_eight c.args.name.now c.in-8.is

pub returns-in-9 : goal.returns-in-9
returns-in-9 c = c.word_of_nine.ensures ∙ is_nine c.args.name.now c.in-9.is

pub returns-in-10 : goal.returns-in-10
returns-in-10 c = c.word_of_ten.ensures ∙ is_ten c.args.name.now c.in-10.is

pub returns-in_default : goal.returns-in_default
returns-in_default c = c.word_of_long.ensures ∙ is_long c.args.name.now (grind (arith, c.in_default))
