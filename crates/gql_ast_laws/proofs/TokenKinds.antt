-- Which kinds are those of tokens, and which those of nodes.
use Rattle.std.proofs.Common.{◌≡◌, Bool, true, false, refl, ◌∙◌, ap, rules}
use denote.Enum.Bare.{same_true, true_same}
use Rattle.gql_grammar.specs.declared.syntax_kind.SyntaxKind.{SyntaxKind}
use Rattle.gql_grammar.specs.declared.syntax_kind.SyntaxKind.TheVariants.{Token}
use Rattle.gql_grammar.specs.contracts.syntax_kind.SyntaxKind.{the_type}
use Rattle.gql_cst.specs.Leaves.{Part, word, ignored, node, part_of}
use Rattle.gql_ast_base.specs.Kinds.{is_kind}

abbrev pub is_word_part : Part → Bool
is_word_part word = true
is_word_part ignored = false
is_word_part node = false

pub token_kind : (kind : SyntaxKind) → is_kind kind Token ≡ is_word_part (part_of kind)
unfolding is_kind
token_kind Token = refl
token_kind _ = refl

pub word_is_token : (kind : SyntaxKind) → part_of kind ≡ word → Token ≡ kind
word_is_token Token h = refl
word_is_token _ h = cc

pub same_kind : (kind : SyntaxKind) → is_kind kind kind ≡ true
unfolding is_kind
same_kind kind = true_same the_type kind kind refl

pub kind_is : (kind other : SyntaxKind) → is_kind kind other ≡ true → kind ≡ other
unfolding is_kind
kind_is kind other h = same_true the_type (search rules) kind other h

pub no_token : (kind : SyntaxKind) → part_of kind ≡ node → is_kind kind Token ≡ false
no_token kind h = token_kind kind ∙ ap is_word_part h
