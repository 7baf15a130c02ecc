-- What only private clauses and proofs cite, beside `RuleText`.
use Rattle.gql_diag_messages.specs.declared.rule_text.Compat.{Compat as CompatWords}
use Rattle.gql_diag_messages.specs.declared.rule_text.Compat.TheVariants as compat
use Rattle.gql_diag_messages.specs.declared.rule_text.RuleText.{RuleText as Text}
use Rattle.gql_diag_messages.specs.RuleText.{Compat, argument_words, lacking_words, no_words, words, RuleText, says}

-- ---- what the code holds, as these

abbrev pub compat_shown : CompatWords → Compat
compat_shown compat.NoWords = no_words
compat_shown (compat.Words text) = words text.now
compat_shown (compat.Lacking number unnamed named) = lacking_words number unnamed.now named.now
compat_shown (compat.OfArgument directive field) = argument_words directive.now field.now

abbrev pub shown : Text → RuleText
shown text = says text.row text.name.now text.message.now (compat_shown text.compat)
