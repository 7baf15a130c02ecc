-- What is found in a list of one value at most, and the kind of a value.
use Rattle.std.proofs.Common.{◌≡◌, Bool, true, false, if◌then◌else◌, Option, Some, None, refl}
use Rattle.std.specs.Option.{option_map}
use Rattle.gql_source.specs.declared.file_id.FileId.{FileId}
use Rattle.gql_source.specs.Span.{Span}
use Rattle.gql_ast_base.specs.Forest.{Plain}
use Rattle.gql_ast_base.specs.SyntaxKind.TheVariants as kind
use Rattle.gql_ast_base.specs.Kinds.{is_kind}
use Rattle.gql_ast_base.specs.Parts.{Text, head, location}
use Rattle.gql_ast_base.specs.declared.value.Value.{Value}
use Rattle.gql_ast_base.specs.declared.value.ValueKind.{ValueKind}
use Rattle.gql_ast_base.specs.Values.{contents, value_step, value_of, kind_of}

kind_in : (b : Bool) (place : Option Span) (o : Option ValueKind)
    → (if b then o else None) ≡ option_map (λ (v : Value). v.kind) (if b then option_map (λ found. record { kind = found; location = place }) o else None)
kind_in true place None = refl
kind_in true place (Some k) = refl
kind_in false place o = refl

-- the kind of what a tree stands for
pub kind-is : (text : Text) (file : FileId) (tree : Plain) → kind_of text file tree ≡ option_map (λ (v : Value). v.kind) (value_of text file tree)
unfolding value_step
kind-is text file tree = kind_in (is_kind tree.kind kind.Value) (location file tree) (head (contents text file tree.children))
