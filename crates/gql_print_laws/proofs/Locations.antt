-- Where a directive may stand.
use Rattle.std.proofs.Common.{◌≡◌, ℕ, ◌+◌, true, List, [], ◌∷◌, ◌++◌, length, map, option_to_list, Option, Some, None, refl, ap, ◌∙◌, arith}
use Rattle.std.specs.Prelude.{codes, option_and_then}
use Rattle.gql_grammar.specs.declared.word.Word.{Word}
use Rattle.gql_grammar.specs.declared.word.Word.TheVariants.{Bar, OnWord, LocationWord}
use Rattle.gql_grammar.specs.declared.symbol.Symbol.{Symbol}
use Rattle.gql_grammar.specs.declared.symbol.Symbol.TheVariants.{Token, Optional, Repeated}
use Rattle.gql_grammar.specs.declared.symbol.Terminal.TheVariants.{Exactly}
use Rattle.gql_grammar.specs.declared.rule.Rule.TheVariants as rule
use Rattle.gql_grammar.specs.declared.syntax_kind.SyntaxKind.{SyntaxKind}
use Rattle.gql_grammar.specs.declared.syntax_kind.SyntaxKind.TheVariants as kind
use Rattle.gql_grammar.specs.Sentence.{here}
use Rattle.gql_grammar.specs.Word.{is_same}
use Rattle.gql_cst.specs.Forest.{Plain, nothing}
use Rattle.gql_cst.specs.Words.{word_of}
use Rattle.gql_ast_base.specs.Kinds.{is_kind}
use Rattle.gql_ast_base.specs.Names.{is_name}
use Rattle.gql_ast_base.specs.Parts.{gather, word as name_text}
use Rattle.gql_ast.specs.Schemas.{location_name, location_word, directive_location_of}
use Rattle.gql_ast.specs.declared.schema_definition.DirectiveLocation.{DirectiveLocation}
use Rattle.gql_ast.specs.declared.schema_definition.DirectiveLocation.TheVariants as at
use Rattle.gql_ast_laws.proofs.Blind.{tree}
use Rattle.gql_ast_laws.proofs.Named.{no_text}
use Rattle.gql_ast_laws.proofs.TokenKinds.{no_token}
use Rattle.gql_print_laws.specs.bridge.Said.{Text, Said, over, token, space, under, text_of, forest_at}
use Rattle.gql_print_laws.specs.bridge.Written.{Ends}
use Rattle.gql_sdl.specs.Definitions.{locations_text}
use Rattle.gql_sdl.specs.Pieces.{pieces}
use Rattle.gql_print_laws.proofs.Depths.{depth_said, IsShallow}
use Rattle.gql_print_laws.proofs.Grammar.{FitsTo, no_symbol, one_token, one_group, ignored, skip, stop, again}
use Rattle.gql_print_laws.proofs.Reading.{After, after_over, bar, mark_from, name_from, blank_after}
use Rattle.gql_print_laws.proofs.Standing.{inside_said, Stands, past_token, past_space, past_node, leaf_tree, word_in, word_stands}

-- ---- their names

record IsLocation (l : DirectiveLocation) : Type 0 where
  named : is_name (location_name l) ≡ true
  location : is_same LocationWord (word_of (location_name l)) ≡ true
  told : location_word (location_name l) ≡ Some l

is_location : (l : DirectiveLocation) → IsLocation l
unfolding location_word
is_location at.Query = record { named = refl; location = refl; told = refl }
is_location at.Mutation = record { named = refl; location = refl; told = refl }
is_location at.Subscription = record { named = refl; location = refl; told = refl }
is_location at.Field = record { named = refl; location = refl; told = refl }
is_location at.FragmentDefinition = record { named = refl; location = refl; told = refl }
is_location at.FragmentSpread = record { named = refl; location = refl; told = refl }
is_location at.InlineFragment = record { named = refl; location = refl; told = refl }
is_location at.VariableDefinition = record { named = refl; location = refl; told = refl }
is_location at.Schema = record { named = refl; location = refl; told = refl }
is_location at.Scalar = record { named = refl; location = refl; told = refl }
is_location at.Object = record { named = refl; location = refl; told = refl }
is_location at.FieldDefinition = record { named = refl; location = refl; told = refl }
is_location at.ArgumentDefinition = record { named = refl; location = refl; told = refl }
is_location at.Interface = record { named = refl; location = refl; told = refl }
is_location at.Union = record { named = refl; location = refl; told = refl }
is_location at.Enum = record { named = refl; location = refl; told = refl }
is_location at.EnumValue = record { named = refl; location = refl; told = refl }
is_location at.InputObject = record { named = refl; location = refl; told = refl }
is_location at.InputFieldDefinition = record { named = refl; location = refl; told = refl }

-- ---- how they are said

abbrev bars : List DirectiveLocation → Said
bars [] = over
bars (l ∷ ls) = space (codes " ") (token (codes "|") (space (codes " ") (token (location_name l) (bars ls))))

-- ` on X | Y`
abbrev pub on_said : DirectiveLocation → List DirectiveLocation → Said
on_said l ls = space (codes " ") (token (codes "on") (space (codes " ") (token (location_name l) (bars ls))))

bars_text : (ls : List DirectiveLocation) → text_of (bars ls) ≡ pieces (codes " | ") true (map location_name ls)
bars_text [] = refl
bars_text (l ∷ ls) = ap (λ t. codes " | " ++ (location_name l ++ t)) (bars_text ls)

pub on_text : (l : DirectiveLocation) (ls : List DirectiveLocation) → text_of (on_said l ls) ≡ locations_text (l ∷ ls)
on_text l ls = ap (λ t. codes " on " ++ (location_name l ++ t)) (bars_text ls)

bars_after : (ls : List DirectiveLocation) {rest : Text} → Ends rest → After (bars ls) rest
bars_after [] e = after_over e
bars_after (l ∷ ls) e = blank_after (mark_from bar (blank_after (name_from (is_location l).named (bars_after ls e))))

bars_depth : (ls : List DirectiveLocation) → depth_said (bars ls) ≡ 0
bars_depth [] = refl
bars_depth (l ∷ ls) = bars_depth ls

pub on_shallow : (l : DirectiveLocation) (ls : List DirectiveLocation) → IsShallow (on_said l ls)
on_shallow l ls = let a = bars_depth ls in omega (arith, a)

pub on_after : (l : DirectiveLocation) (ls : List DirectiveLocation) {rest : Text} → Ends rest → After (on_said l ls) rest
on_after l ls e = blank_after (name_from refl (blank_after (name_from (is_location l).named (bars_after ls e))))

bars_fit : (ls : List DirectiveLocation) {vs : List Word} → FitsTo (Repeated rule.BarLocation ∷ []) (bars ls) vs
bars_fit [] = stop no_symbol
bars_fit (l ∷ ls) =
    again (one_group rule.BarLocation (Token (Exactly Bar) ∷ Token (Exactly LocationWord) ∷ []) refl here
    (ignored (one_token refl (ignored (one_token (is_location l).location (bars_fit ls))))))

abbrev pub on_way : List Symbol
on_way = Token (Exactly OnWord) ∷ Optional rule.BarSign ∷ Token (Exactly LocationWord) ∷ Repeated rule.BarLocation ∷ []

pub on_fits : (l : DirectiveLocation) (ls : List DirectiveLocation) {vs : List Word} → FitsTo on_way (on_said l ls) vs
on_fits l ls = ignored (one_token refl (skip (ignored (one_token (is_location l).location (bars_fit ls)))))

bars_inside : (known : SyntaxKind) (ls : List DirectiveLocation) → inside_said known (bars ls) ≡ over
bars_inside known [] = refl
bars_inside known (l ∷ ls) = bars_inside known ls

-- no node stands in it
pub on_inside : (known : SyntaxKind) (l : DirectiveLocation) (ls : List DirectiveLocation) → inside_said known (on_said l ls) ≡ over
on_inside known l ls = bars_inside known ls

-- ---- what the tokens tell

abbrev pub locations_in : Said → List DirectiveLocation
locations_in over = []
locations_in (token t s) = option_to_list (option_and_then location_word (word_in t)) ++ locations_in s
locations_in (space t s) = locations_in s
locations_in (under k i s) = locations_in s

one_location : (l : DirectiveLocation) (s : Said) → locations_in (token (location_name l) s) ≡ l ∷ locations_in s
one_location l s = let n = (is_location l).named in let t = (is_location l).told in rw n (rw t refl)

bars_told : (ls : List DirectiveLocation) → locations_in (bars ls) ≡ ls
bars_told [] = refl
bars_told (l ∷ ls) = one_location l (bars ls) ∙ ap (λ m. l ∷ m) (bars_told ls)

pub on_told : (l : DirectiveLocation) (ls : List DirectiveLocation) → locations_in (on_said l ls) ≡ l ∷ ls
unfolding location_word
on_told l ls = one_location l (bars ls) ∙ ap (λ m. l ∷ m) (bars_told ls)

module _ (text : Text) where
  told_of : (t : Plain) (o : Option Text) → name_text text t ≡ o → directive_location_of text t ≡ option_and_then location_word o
  unfolding directive_location_of
  told_of t o e = ap (λ w. option_and_then location_word w) e

  ignored_word : (start end : ℕ) → name_text text (tree kind.Ignored start end nothing) ≡ None
  unfolding is_kind
  ignored_word start end = no_text text kind.Ignored start end nothing refl

  pub located : (s : Said) (n : ℕ) → Stands text n s → gather (directive_location_of text) (forest_at n s) ≡ locations_in s
  located over n r = refl
  located (token t s) n r =
      ap (λ o. option_to_list o ++ gather (directive_location_of text) (forest_at (n + length t) s)) (told_of (leaf_tree text n t) (word_in t) (word_stands text n t s r))
      ∙ ap (λ l. option_to_list (option_and_then location_word (word_in t)) ++ l) (located s (n + length t) (past_token text n t s r))
  located (space t s) n r =
      ap (λ o. option_to_list o ++ gather (directive_location_of text) (forest_at (n + length t) s))
      (told_of (tree kind.Ignored n (n + length t) nothing) None (ignored_word n (n + length t)))
      ∙ located s (n + length t) (past_space text n t s r)
  located (under k i s) n r =
      ap (λ o. option_to_list o ++ gather (directive_location_of text) (forest_at (n + length (text_of i)) s))
      (told_of (tree k 0 0 (forest_at n i)) None (no_text text k 0 0 (forest_at n i) (no_token k r.lexes.0)))
      ∙ located s (n + length (text_of i)) (past_node text n k i s r)
