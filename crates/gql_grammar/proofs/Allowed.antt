-- Each node of a sentence's tree is one that its rule allows.
use Rattle.std.proofs.Common.{List}
use Rattle.gql_grammar.specs.declared.word.Word.{Word}
use Rattle.gql_grammar.specs.declared.symbol.Symbol.{Symbol}
use Rattle.gql_grammar.specs.declared.rule.Rule.{Rule}
use Rattle.gql_grammar.specs.Row.{Row}
use Rattle.gql_grammar.specs.Sentence.{Fits, Sentence}
use Rattle.gql_grammar.specs.Nodes.{AllAllowed}

pub AllAllowed-fits : {ss : List Symbol} {ws vs : List Word} {f : Row} → Fits ss ws f vs → AllAllowed f
AllAllowed-fits Fits.done = tt
AllAllowed-fits (Fits.token t w h d) = AllAllowed-fits d
AllAllowed-fits (Fits.tree {ws = ws} {us = us} r k way i m d1 d2) =
    (record { rule = r; way = way; words = ws; behind = us; of_kind = i; one = m; fits = d1 }, (AllAllowed-fits d1, AllAllowed-fits d2))
AllAllowed-fits (Fits.group r way i m d) = AllAllowed-fits d
AllAllowed-fits (Fits.skip r d) = AllAllowed-fits d
AllAllowed-fits (Fits.take r d) = AllAllowed-fits d
AllAllowed-fits (Fits.stop r d) = AllAllowed-fits d
AllAllowed-fits (Fits.again r d) = AllAllowed-fits d
AllAllowed-fits (Fits.leave r h d) = AllAllowed-fits d
AllAllowed-fits (Fits.enter r d) = AllAllowed-fits d

pub AllAllowed-sentence : {start : Rule} {ws : List Word} {f : Row} → Sentence start ws f → AllAllowed f
AllAllowed-sentence d = AllAllowed-fits d
