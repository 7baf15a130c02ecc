-- The definition of a schema.
use Rattle.std.proofs.Common.{◌≡◌, ℕ, true, false, List, [], ◌∷◌, ◌++◌, map, Option, Some, None, refl, sym, ap, ◌∙◌, subst, append_assoc, append-nil, arith}
use Rattle.std.specs.Prelude.{codes, option_and_then}
use Rattle.gql_source.specs.declared.file_id.FileId.{FileId}
use Rattle.gql_grammar.specs.declared.word.Word.{Word}
use Rattle.gql_grammar.specs.declared.word.Word.TheVariants.{Colon, SchemaWord, OperationWord}
use Rattle.gql_grammar.specs.declared.symbol.Symbol.{Symbol}
use Rattle.gql_grammar.specs.declared.symbol.Symbol.TheVariants.{Token, One, Optional}
use Rattle.gql_grammar.specs.declared.symbol.Terminal.TheVariants.{Exactly}
use Rattle.gql_grammar.specs.declared.rule.Rule.TheVariants as rule
use Rattle.gql_grammar.specs.declared.syntax_kind.SyntaxKind.{SyntaxKind}
use Rattle.gql_grammar.specs.declared.syntax_kind.SyntaxKind.TheVariants as kind
use Rattle.gql_grammar.specs.Sentence.{here, there}
use Rattle.gql_grammar.specs.Word.{is_same}
use Rattle.gql_cst.specs.Forest.{Forest}
use Rattle.gql_cst.specs.Words.{word_of}
use Rattle.gql_ast.specs.Documents.{choice_of}
use Rattle.gql_ast.specs.declared.definition.Definition.TheVariants as definition
use Rattle.gql_ast_base.specs.Directives.{directives}
use Rattle.gql_ast_base.specs.Kinds.{is_kind}
use Rattle.gql_ast_base.specs.Literals.{description}
use Rattle.gql_ast_base.specs.Names.{Named, is_name}
use Rattle.gql_ast_base.specs.NamedTypes.{named_type_in}
use Rattle.gql_ast_base.specs.OperationTypes.{operation_word, operation_type_of, operation_type_in, root_operation_of}
use Rattle.gql_ast_base.specs.Parts.{first, gather, inside, location, nth_name, nth_text}
use Rattle.gql_ast_base.specs.declared.operation_type.OperationType.{OperationType}
use Rattle.gql_ast_base.specs.declared.operation_type.OperationType.TheVariants.{Query, Mutation, Subscription}
use Rattle.gql_ast.specs.Schemas.{root_operations, schema_of}
use Rattle.gql_ast.specs.declared.schema_definition.SchemaDefinition.{SchemaDefinition}
use Rattle.gql_ast_laws.proofs.Blind.{tree}
use Rattle.gql_print_laws.specs.bridge.Said.{Text, Said, over, token, space, under, text_of, forest_at}
use Rattle.gql_print_laws.specs.bridge.Written.{Ends}
use Rattle.gql_print_laws.proofs.Named.{name_is_name}
use Rattle.gql_sdl.specs.Forms.{described}
use Rattle.gql_sdl.specs.Pieces.{spaced}
use Rattle.gql_sdl.specs.Schemas.{root_text, roots_text}
use Rattle.gql_sdl.specs.declared.shown.ShownSchema.{ShownSchema}
use Rattle.gql_print_laws.specs.Forms.{Form}
use Rattle.gql_print_laws.specs.Meant.{says, root_says}
use Rattle.gql_print_laws.specs.Plain as plain
use Rattle.gql_print_laws.specs.Plain.{Use, Plain}
use Rattle.gql_print_laws.specs.Printable.{Each, IsRoot, AreRoots}
use Rattle.gql_print_laws.specs.Told.{root_told, roots_told}
use Rattle.gql_print_laws.proofs.Blocks.{block_way}
use Rattle.gql_print_laws.proofs.Choices.{is_schema}
use Rattle.gql_print_laws.proofs.Definition.{PrintedDefinition, definition_of_node, head_apart}
use Rattle.gql_print_laws.proofs.Grammar.{FitsTo, no_symbol, one_token, one_node, one_group, ignored, skip}
use Rattle.gql_print_laws.proofs.Parts.{inner, named_first, described_said, description_said, described_text, described_from, described_fits, inside_described, own_description, nodes_described, description_is, described_shallow}
use Rattle.gql_print_laws.proofs.Printed.{Printed, each_printed, blanks, blanks_text, blanks_after, one_fits, blanks_fit, blanks_say, AllSay, blanks_shallow}
use Rattle.gql_print_laws.proofs.Reading.{After, From, after_over, brace_open, brace_close, colon, mark_after, mark_from, name_from, node_from, blank_after}
use Rattle.gql_print_laws.proofs.References.{IsName}
use Rattle.gql_print_laws.proofs.Standing.{inside_said, nodes_said, Stands, Within, within, name_at, text_at, Only, Means, gathered, First, first_of}
use Rattle.gql_print_laws.proofs.Uses.{uses_are}

abbrev Root : Type 0
Root = OperationType × Text

abbrev operation_text : OperationType → Text
operation_text Query = codes "query"
operation_text Mutation = codes "mutation"
operation_text Subscription = codes "subscription"

abbrev root_written : Root → Text
root_written root = operation_text root.0 ++ (codes ": " ++ root.1)

abbrev root_form : Form Root (OperationType × Named) Root
root_form = record {
  rule = rule.RootOperationTypeDefinition;
  kind = kind.RootOperationTypeDefinition;
  written = root_written;
  meant = root_operation_of;
  says = root_says;
  told = λ root. root;
}

record IsOperation (o : OperationType) : Type 0 where
  named : is_name (operation_text o) ≡ true
  operation : is_same OperationWord (word_of (operation_text o)) ≡ true
  told : operation_word (operation_text o) ≡ Some o

is_operation : (o : OperationType) → IsOperation o
is_operation Query = record { named = refl; operation = refl; told = refl }
is_operation Mutation = record { named = refl; operation = refl; told = refl }
is_operation Subscription = record { named = refl; operation = refl; told = refl }

-- ---- one root

abbrev itself : OperationType → OperationType
itself o = o

module _ (text : Text) where
  operation_is : (row : Forest) (t : Text) (o : OperationType) → nth_text text 0 row ≡ Some t → operation_word t ≡ Some o → operation_type_of text (tree kind.OperationType 0 0 row) ≡ Some o
  unfolding operation_type_of is_kind
  operation_is row t o e f = ap (λ w. option_and_then operation_word w) e ∙ f

  only_operation : Only text (operation_type_of text) itself kind.OperationType
  unfolding operation_type_of
  only_operation t h = rw h refl

  operation_means : (o : OperationType) → Means text (operation_type_of text) itself kind.OperationType (token (operation_text o) over) o
  operation_means o n r =
      let t = operation_text o in
      record {
        found = o;
        is = operation_is (forest_at n (token t over)) t o (text_at text n (token t over) r 0 ∙ named_first t over (is_operation o).named) (is_operation o).told;
        same = refl;
      }

module _ (text : Text) (file : FileId) where
  root_is : (row : Forest) (o : OperationType) (name : Named) → first (operation_type_of text) row ≡ Some o → nth_name text file 0 (inside kind.NamedType row) ≡ Some name
      → root_operation_of text file (tree kind.RootOperationTypeDefinition 0 0 row) ≡ Some (o, name)
  unfolding root_operation_of operation_type_in named_type_in is_kind
  root_is row o name e f = rw (e, f) refl

  only_root : Only text (root_operation_of text file) root_says kind.RootOperationTypeDefinition
  unfolding root_operation_of
  only_root t h = rw h refl

module _ (root : Root) (n : IsName root.1) where
  abbrev behind_operation : Said
  behind_operation = token (codes ":") (space (codes " ") (under kind.NamedType (token root.1 over) over))

  abbrev root_said : Said
  root_said = under kind.OperationType (token (operation_text root.0) over) behind_operation

  root_text_is : text_of root_said ≡ root_written root
  root_text_is =
      ap (λ t. t ++ text_of behind_operation) (append-nil (operation_text root.0))
      ∙ ap (λ t. operation_text root.0 ++ (codes ": " ++ t)) (append-nil (root.1 ++ []) ∙ append-nil root.1)

  root_from : {rest : Text} → Ends rest → From root_said rest
  root_from {rest = rest} e =
      let more : After behind_operation rest = mark_after colon (blank_after (node_from refl (name_from n (after_over e)) tt)) in
      node_from refl (name_from (is_operation root.0).named (after_over more.ends)) more.lexes

  abbrev root_way : List Symbol
  root_way = One rule.OperationType ∷ Token (Exactly Colon) ∷ One rule.NamedType ∷ []

  root_fits : {vs : List Word} → FitsTo root_way root_said vs
  root_fits =
      one_node rule.OperationType _ refl here (one_token (is_operation root.0).operation no_symbol)
      (one_token refl (ignored (one_node rule.NamedType _ refl here (one_token (name_is_name root.1 n) no_symbol) no_symbol)))

  root_operation : (text : Text) (m : ℕ) → Stands text m root_said → map itself (gather (operation_type_of text) (forest_at m root_said)) ≡ root.0 ∷ []
  unfolding is_kind
  root_operation text m r =
      gathered text (operation_type_of text) itself kind.OperationType (only_operation text) refl root_said m r (root.0 ∷ []) (operation_means text root.0, tt)

  root_name : inside_said kind.NamedType root_said ≡ token root.1 over
  unfolding is_kind
  root_name = refl

  found_operation : (text : Text) (row : Forest) → First text (operation_type_of text) itself kind.OperationType row root.0 → first (operation_type_of text) row ≡ Some root.0
  found_operation text row f = f.is ∙ ap (λ o. Some o) f.same

  root_means : (text : Text) (file : FileId) → Means text (root_operation_of text file) root_says kind.RootOperationTypeDefinition root_said root
  root_means text file m r =
      let row = forest_at m root_said in
      let o = found_operation text row (first_of text (operation_type_of text) itself kind.OperationType row root.0 (root_operation text m r)) in
      let w : Within text m kind.NamedType root_said (token root.1 over) = subst (λ i. Within text m kind.NamedType root_said i) root_name (within text kind.NamedType refl root_said m r) in
      let a = name_at text file w.place (token root.1 over) w.stands 0 root.1 (named_first root.1 over n) in
      record {
        found = (root.0, a.found);
        is = root_is text file row root.0 a.found o (ap (λ f. nth_name text file 0 f) w.is ∙ a.is);
        same = ap (λ t. (root.0, t)) a.same;
      }

abbrev IsNamedRoot : Root → Type 0
IsNamedRoot root = IsName root.1

printed_root : (root : Root) → IsNamedRoot root → Printed root_form root
printed_root root n = record {
  said = root_said root n;
  text = root_text_is root n;
  from = root_from root n;
  way = root_way root n;
  one = here;
  fits = root_fits root n;
  shallow = omega arith;
  means = root_means root n;
}

map_same : (roots : List Root) → map (λ (root : Root). root) roots ≡ roots
map_same [] = refl
map_same (root ∷ roots) = ap (λ l. root ∷ l) (map_same roots)

-- ---- the roots of a schema

abbrev later_roots : Option Named → Option Named → List Root
later_roots mutation subscription = root_told Mutation mutation ++ root_told Subscription subscription

later_named : (mutation subscription : Option Named) → IsRoot mutation → IsRoot subscription → Each IsNamedRoot (later_roots mutation subscription)
later_named None None m s = tt
later_named None (Some b) m s = (s, tt)
later_named (Some a) None m s = (m, tt)
later_named (Some a) (Some b) m s = (m, (s, tt))

later_text : (mutation subscription : Option Named) → spaced (map root_written (later_roots mutation subscription))
    ≡ root_text (codes " mutation: ") mutation ++ root_text (codes " subscription: ") subscription
later_text None None = refl
later_text None (Some b) = ap (λ t. codes " subscription: " ++ t) (append-nil b.text)
later_text (Some a) None = refl
later_text (Some a) (Some b) = ap (λ t. codes " mutation: " ++ (a.text ++ (codes " subscription: " ++ t))) (append-nil b.text)

abbrev told_schema : Option Text → List Use → List Root → Plain
told_schema d u roots = plain.schema (record { description = d; uses = u; operations = roots })

same_schema : {d e : Option Text} {u v : List Use} {r s : List Root} → d ≡ e → u ≡ v → r ≡ s → told_schema d u r ≡ told_schema e v s
same_schema {d = d} {e = e} {u = u} {v = v} {r = r} {s = s} a b c = ap (λ o. told_schema o u r) a ∙ ap (λ o. told_schema e o r) b ∙ ap (λ o. told_schema e v o) c

abbrev schema_way : List Symbol
schema_way = Optional rule.Description ∷ Token (Exactly SchemaWord) ∷ Optional rule.ConstDirectives ∷ One rule.RootOperations ∷ []

module _ (d : Option Text) (query : Text) (q : IsName query) (mutation subscription : Option Named) (m : IsRoot mutation) (s : IsRoot subscription) where
  abbrev roots : List Root
  roots = (Query, query) ∷ later_roots mutation subscription

  given : Each (Printed root_form) roots
  given = each_printed root_form IsNamedRoot printed_root roots (q, later_named mutation subscription m s)

  abbrev close : Said
  close = space (codes " ") (token (codes "}") over)

  abbrev braces : Said
  braces = token (codes "{") (blanks root_form roots given close)

  abbrev word_said : Said
  word_said = token (codes "schema") (space (codes " ") braces)

  abbrev said : Said
  said = described_said d word_said

  abbrev written : Text
  written = (described d ++ (codes "schema { query: " ++ query)) ++ (root_text (codes " mutation: ") mutation ++ (root_text (codes " subscription: ") subscription ++ codes " }"))

  said_text : text_of said ≡ written
  said_text =
      let one = root_text (codes " mutation: ") mutation in
      let two = root_text (codes " subscription: ") subscription in
      let all = spaced (map root_written (later_roots mutation subscription)) in
      described_text d word_said
      ∙ ap (λ t. described d ++ (codes "schema {" ++ t)) (blanks_text root_form roots given close)
      ∙ ap (λ t. described d ++ (codes "schema { query: " ++ t))
      (append_assoc query all (codes " }") ∙ ap (λ t. query ++ (t ++ codes " }")) (later_text mutation subscription) ∙ ap (λ t. query ++ t) (append_assoc one two (codes " }")))
      ∙ sym (append_assoc (described d) (codes "schema { query: " ++ query) (one ++ (two ++ codes " }")))

  said_from : {rest : Text} → Ends rest → From said rest
  said_from e =
      described_from d (name_from refl (blank_after (mark_from brace_open (blanks_after root_form refl roots given (blank_after (mark_from brace_close (after_over e)))))))

  said_fits : {vs : List Word} → FitsTo schema_way said vs
  said_fits =
      described_fits d (one_token refl (skip (ignored (one_group rule.RootOperations (block_way rule.RootOperationTypeDefinition) refl here
      (one_token refl (ignored (one_fits root_form refl (Query, query) given.0
      (blanks_fit root_form refl (later_roots mutation subscription) given.1 (ignored (one_token refl no_symbol))))))))))

  blanks_inside : (known : SyntaxKind) (xs : List Root) (h : Each (Printed root_form) xs) → is_kind kind.RootOperationTypeDefinition known ≡ false → inside_said known (blanks root_form xs h close) ≡ over
  blanks_inside known [] h e = refl
  blanks_inside known (x ∷ xs) h e = rw e (blanks_inside known xs h.1 e)

  said_description : inside_said kind.Description said ≡ inner (description_said d)
  unfolding is_kind
  said_description = own_description d word_said (blanks_inside kind.Description roots given refl)

  said_uses : inside_said kind.Directives said ≡ over
  unfolding is_kind
  said_uses = inside_described kind.Directives d word_said refl ∙ blanks_inside kind.Directives roots given refl

  said_roots : nodes_said kind.RootOperationTypeDefinition said ≡ nodes_said kind.RootOperationTypeDefinition (blanks root_form roots given close)
  unfolding is_kind
  said_roots = nodes_described kind.RootOperationTypeDefinition d word_said refl

  module _ (text : Text) (file : FileId) where
    schema_is : (row : Forest) → schema_of text file (tree kind.SchemaDefinition 0 0 row) ≡ Some (record {
      description = description text row;
      directives = directives text file row;
      root_operations = root_operations text file row;
      location = location file (tree kind.SchemaDefinition 0 0 row);
    })
    unfolding schema_of is_kind
    schema_is row = refl

    roots_are : (n : ℕ) → Stands text n said → map root_says (root_operations text file (forest_at n said)) ≡ roots
    unfolding root_operations
    roots_are n r =
        gathered text (root_operation_of text file) root_says kind.RootOperationTypeDefinition (only_root text file) refl said n r roots
        (subst (λ is. AllSay root_form text file is roots) (sym said_roots) (subst (λ told. AllSay root_form text file (nodes_said kind.RootOperationTypeDefinition (blanks root_form roots given close)) told)
        (map_same roots) (blanks_say root_form text file roots given close tt)))

    said_means : Means text (choice_of text file) says kind.SchemaDefinition said (told_schema d [] roots)
    said_means n r =
        let row = forest_at n said in
        let it : SchemaDefinition = record {
          description = description text row;
          directives = directives text file row;
          root_operations = root_operations text file row;
          location = location file (tree kind.SchemaDefinition 0 0 row);
        } in
        record {
          found = definition.SchemaDefinition it;
          is = is_schema text file row it (schema_is row);
          same = same_schema (description_is text d said n r said_description) (uses_are text file None said n r said_uses) (roots_are n r);
        }

  printed_roots : PrintedDefinition written (told_schema d [] roots)
  printed_roots =
      definition_of_node rule.SchemaDefinition kind.SchemaDefinition said written (told_schema d [] roots) refl refl refl (there (there here))
      (record {
        text = said_text;
        from = said_from;
        way = schema_way;
        one = here;
        fits = λ b. said_fits;
        shallow = described_shallow d word_said (blanks_shallow root_form refl roots given close (omega arith));
        apart = head_apart d (codes "schema") (space (codes " ") braces) refl;
        means = said_means;
      })

pub printed_schema_definition : (x : ShownSchema) → AreRoots x → PrintedDefinition (roots_text x) (roots_told x)
printed_schema_definition x h = printed_roots x.description x.query.text h.query x.mutation x.subscription h.mutation h.subscription
