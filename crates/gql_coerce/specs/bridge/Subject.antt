-- What only private clauses and proofs cite, beside `Subject`.
use Rattle.std.specs.Prelude.{ℕ, List}
use Rattle.gql_coerce.specs.declared.subject.Subject.{Subject}
use Rattle.gql_coerce.specs.declared.subject.Subject.TheVariants.{Variable, DefaultOfVariable, Argument, InputField}
use Rattle.gql_coerce.specs.Subject.{variable_words, default_words, argument_words, field_words}

abbrev pub subject_text : Subject → List ℕ
subject_text (Variable name) = variable_words name.now
subject_text (DefaultOfVariable name) = default_words name.now
subject_text (Argument name) = argument_words name.now
subject_text (InputField T f) = field_words T.now f.now
