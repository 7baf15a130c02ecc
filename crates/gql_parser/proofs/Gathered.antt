-- The selections of a row, within braces and without, are what its trees stand for.
use Rattle.std.proofs.Common.{◌≡◌, true, false, if◌then◌else◌, ◌++◌, option_to_list, Some, None, refl, ap, ◌∙◌}
use Rattle.gql_source.specs.declared.file_id.FileId.{FileId}
use Rattle.gql_cst.specs.Forest.{Forest, nothing, tree_then}
use Rattle.gql_grammar.specs.declared.syntax_kind.SyntaxKind.TheVariants.{SelectionSet}
use Rattle.gql_ast_base.specs.Kinds.{is_kind}
use Rattle.gql_ast_base.specs.Parts.{Text, head, gather, of_kind, children_of, inside}
use Rattle.gql_ast.specs.Selections.{selections, selected, selection_of}

each : (text : Text) (file : FileId) (row : Forest) → gather (selection_of text file) row ≡ selections text file row
each text file nothing = refl
each text file (tree_then k start end children rest) =
    ap (λ l. option_to_list (selection_of text file (record { kind = k; start = start; end = end; children = children })) ++ l) (each text file rest)

within : (text : Text) (file : FileId) (row : Forest) → selections text file (inside SelectionSet row) ≡ selected text file row
within text file nothing = refl
within text file (tree_then k start end children rest) =
    elim (is_kind k SelectionSet) as (λ b. selections text file (children_of (head (option_to_list (if b then Some (record { kind = k; start = start; end = end; children = children }) else None) ++ gather (of_kind SelectionSet) rest))) ≡ (if b then selections text file children else selected text file rest)) [
      | true ↦ refl
      | false ↦ within text file rest
    ]

pub gathered : (text : Text) (file : FileId) (row : Forest)
    → gather (selection_of text file) (inside SelectionSet row) ++ gather (selection_of text file) row ≡ selected text file row ++ selections text file row
gathered text file row =
    ap (λ l. l ++ gather (selection_of text file) row) (each text file (inside SelectionSet row) ∙ within text file row)
    ∙ ap (λ l. selected text file row ++ l) (each text file row)
