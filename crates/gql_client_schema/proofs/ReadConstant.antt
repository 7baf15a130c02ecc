-- What the parse of a text tells of constant values.
use Rattle.std.proofs.Common.{◌≡◌, ℕ, ◌+◌, ◌≤◌, max, List, Option, Some, None, is_some, true, false, slice_range, refl, sym, ◌∙◌, ap, subst, arith}
use Rattle.gql_ast.specs.ValueText.{value_text}
use Rattle.gql_ast_base.specs.Values.{value_of}
use Rattle.gql_ast_base.specs.declared.value.Value.{Value}
use Rattle.gql_ast_laws.proofs.Blind.{tree}
use Rattle.gql_cst.specs.Forest.{Forest, Plain, plain, nothing, tree_then}
use Rattle.gql_cst.specs.Leaves.{Part, word, ignored, node, part_of, leaves}
use Rattle.gql_cst.specs.Levels.{levels, NestsTo}
use Rattle.gql_cst.specs.Nesting.{within_node, nesting}
use Rattle.gql_cst.specs.Outcome.{IsWithin, Stops}
use Rattle.gql_cst.specs.Parses.{IsParse, reached_at}
use Rattle.gql_cst.specs.bridge.Parses.{Accepts}
use Rattle.gql_cst.specs.Report.{report_of}
use Rattle.gql_cst.specs.Sentences.{root_kind, row_then, shown}
use Rattle.gql_cst.specs.TreeOf.{IsTreeOf}
use Rattle.gql_cst.specs.Words.{word_of}
use Rattle.gql_cst.specs.declared.limits.Parsed.{Parsed}
use Rattle.gql_grammar.specs.Row as row
use Rattle.gql_grammar.specs.Row.{Row, level}
use Rattle.gql_grammar.specs.declared.rule.Rule.{Rule}
use Rattle.gql_grammar.specs.declared.rule.Rule.TheVariants.{ConstValue}
use Rattle.gql_grammar.specs.declared.syntax_kind.SyntaxKind.{SyntaxKind}
use Rattle.gql_grammar.specs.declared.syntax_kind.SyntaxKind.TheVariants as kind
use Rattle.gql_grammar.specs.declared.word.Word.{Word}
use Rattle.gql_lexer.specs.declared.error.CstError.{CstError}
use Rattle.gql_parser.specs.Readings.{IsSentenceWithin}
use Rattle.gql_client_schema.specs.Constants.{IsConstant, IsConstantOf, IsNoConstant, limits, no_file}
use Rattle.gql_client_schema.proofs.OneConstant.{TreesLaw, EndsLaw, same_value}

-- the row of one node more is nested no deeper than its tree
one_deeper : (p : Part) (k : SyntaxKind) (w : Word) (x y : Row) (n m : ℕ) → row.nesting x ≤ n → row.nesting y ≤ m
    → row.nesting (row_then p k w x y) ≤ max (within_node p (level k + n)) m
one_deeper node k w x y n m a b = omega arith
one_deeper word k w x y n m a b = omega arith
one_deeper ignored k w x y n m a b = omega arith

row_nesting : (text : List ℕ) (f : Forest) → row.nesting (shown text f) ≤ nesting f
row_nesting text nothing = omega arith
row_nesting text (tree_then k start end below rest) =
    one_deeper (part_of k) k (word_of (slice_range text start end)) (shown text below) (shown text rest) (nesting below) (nesting rest)
    (row_nesting text below) (row_nesting text rest)

module _ (text : List ℕ) (parsed : Parsed) (parse : IsParse ConstValue text limits parsed) where
  -- where the reading stopped the text is no constant value
  pub stopped_none : Accepts ConstValue text limits parsed → (error : CstError) → parsed.error ≡ Some error → IsNoConstant text
  stopped_none accepts error is printed k =
      let s = k.means.sentence in
      let deep : row.nesting (row.node (root_kind ConstValue) (shown text s.children) row.nothing) ≤ 500 = omega (arith, s.nested, row_nesting text s.children) in
      let none : parsed.error ≡ None =
      accepts (leaves s.children) (row.node (root_kind ConstValue) (shown text s.children) row.nothing) s.tree.tiles s.tree.sentence deep s.counted in
      cc (none, is)

  module _ (children : IsTreeOf ConstValue text (plain parsed.tree).children) (root : (plain parsed.tree).kind ≡ kind.Value) (trees : TreesLaw) (ends : EndsLaw) where
    -- the tree that was read stands for what every tree of the text stands for
    same_tree : (f : Forest) → IsTreeOf ConstValue text f → value_of text no_file (tree kind.Value 0 0 f) ≡ value_of text no_file (plain parsed.tree)
    same_tree f h = same_value trees ends text (tree kind.Value 0 0 f) (plain parsed.tree) refl root h children

    -- where it stands for nothing the text is no constant value
    pub nothing_none : value_of text no_file (plain parsed.tree) ≡ None → IsNoConstant text
    nothing_none is printed k =
        let both : Some k.value ≡ None = sym k.means.means ∙ same_tree k.means.children k.means.tree ∙ is in
        absurd cc

    sentence : parsed.error ≡ None → IsSentenceWithin limits ConstValue text
    sentence is =
        let f = parse.1 in
        let ends_there = subst (λ (e : Option CstError). Stops limits (reached_at text f parse.0 (report_of parsed)) e) is parse.2.stops in
        let nests = subst (λ (e : Option CstError). NestsTo 500 (levels (shown text f)) e) is parse.2.nests in
        record {
          children = f;
          tree = subst (λ (g : Forest). IsTreeOf ConstValue text g) parse.2.tree_children children;
          nested = omega (arith, nests, parse.2.levels_reached, parse.2.recursion_reached);
          counted = tt;
        }

    -- and what it stands for is the constant value
    pub constant_read : parsed.error ≡ None → (value : Value) (printed : List ℕ) → value_of text no_file (plain parsed.tree) ≡ Some value
        → printed ≡ value_text value → IsConstant text printed
    constant_read is value printed read print = record {
      value = value;
      means = record {
        sentence = sentence is;
        children = (plain parsed.tree).children;
        tree = children;
        means = same_tree (plain parsed.tree).children children ∙ read;
      };
      is = print;
    }

  -- the same of an error that is there or not
  pub error_none : Accepts ConstValue text limits parsed → is_some parsed.error ≡ true → IsNoConstant text
  error_none accepts some = by_error parsed.error refl some
    where
      by_error : (error : Option CstError) → parsed.error ≡ error → is_some error ≡ true → IsNoConstant text
      by_error None is h = absurd cc
      by_error (Some error) is h = stopped_none accepts error is

pub no_error : (error : Option CstError) → is_some error ≡ false → error ≡ None
no_error None h = refl
no_error (Some error) h = absurd cc
