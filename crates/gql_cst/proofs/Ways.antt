-- The ways to write rules close no node, and make nothing but nodes.
use Rattle.std.proofs.Common.{◌≡◌, Bool, true, false, ◌&&◌, List, [], ◌∷◌, Option, Some, None, refl}
use Rattle.std.specs.Prelude.{if◌then◌else◌}
use Rattle.std.specs.List.{list_all}
use Rattle.gql_grammar.specs.declared.word.Word.{Word}
use Rattle.gql_grammar.specs.declared.rule.Rule.{Rule}
use Rattle.gql_grammar.specs.declared.rule.Rule.TheVariants.{Document}
use Rattle.gql_grammar.specs.declared.symbol.Symbol.{Symbol}
use Rattle.gql_grammar.specs.declared.syntax_kind.SyntaxKind.{SyntaxKind}
use Rattle.gql_grammar.specs.Factored.{factored}
use Rattle.gql_grammar.specs.Starts.{begins, starts, chosen, way}
use Rattle.gql_grammar.specs.Rule.{kind_of}
use Rattle.gql_cst.specs.Leaves.{part_of}
use Rattle.gql_cst.specs.bridge.Frames.{is_loose}
use Rattle.gql_cst.specs.bridge.Sound.{is_node}

ways_loose : (r : Rule) → list_all (list_all is_loose) (factored r) ≡ true
ways_loose Document = refl
ways_loose _ = refl

abbrev pub makes : Option SyntaxKind → Bool
makes None = true
makes (Some kind) = is_node (part_of kind)

pub kind_node : (r : Rule) → makes (kind_of r) ≡ true
kind_node Document = refl
kind_node _ = refl

pub both : (a b : Bool) → (a && b) ≡ true → (a ≡ true) × (b ≡ true)
both true b h = (refl, h)
both false b h = cc

pub choose : (b : Bool) (x y : List Symbol) → list_all is_loose x ≡ true → list_all is_loose y ≡ true → list_all is_loose (if b then x else y) ≡ true
choose true x y p q = p
choose false x y p q = q

chosen_loose : (ways : List (List Symbol)) (w : Word) → list_all (list_all is_loose) ways ≡ true → list_all is_loose (chosen ways w) ≡ true
chosen_loose [] w h = refl
chosen_loose (x ∷ []) w h = (both (list_all is_loose x) _ h).0
chosen_loose (x ∷ next ∷ ways) w h =
    let p = both (list_all is_loose x) (list_all (list_all is_loose) (next ∷ ways)) h in
    choose (begins x w) x (chosen (next ∷ ways) w) p.0 (chosen_loose (next ∷ ways) w p.1)

some_loose : (b : Bool) (x y : List Symbol) → list_all is_loose x ≡ true → (if b then Some x else None) ≡ Some y → list_all is_loose y ≡ true
some_loose true x y h e = let f : x ≡ y = cc in rw (← f) h
some_loose false x y h e = cc

pub way_loose : (r : Rule) (w : Word) (x : List Symbol) → way r w ≡ Some x → list_all is_loose x ≡ true
way_loose r w x e = some_loose (starts r w) (chosen (factored r) w) x (chosen_loose (factored r) w (ways_loose r)) e
