-- Where directives are used as they are printed, none leads back to itself, and chains of them are short.
use Rattle.std.proofs.Common.{◌≡◌, ℕ, zero, suc, ◌+◌, nat_lt, Bool, true, false, not, cond, Option, Some, None, List, [], ◌∷◌, ◌++◌, length, map, codes, refl, sym, ap, ◌∙◌, subst, arith}
use Rattle.std.specs.Prelude.{option_to_list}
use Rattle.std.specs.List.{AllByRecursion, slice_get, find, position, position_or_len}
use Rattle.std.specs.Option.{option_map_or, unwrap_or}
use Rattle.gql_ast_base.specs.Names.{Named}
use Rattle.gql_ast_base.specs.TypeParts.{named_type}
use Rattle.gql_ast_base.specs.declared.directive.Directive.{Directive}
use Rattle.gql_ast.specs.declared.field_definition.InputValueDefinition.{InputValueDefinition}
use Rattle.gql_ast.specs.declared.schema_definition.DirectiveDefinition.{DirectiveDefinition}
use Rattle.gql_ast.specs.declared.schema_definition.DirectiveLocation.{DirectiveLocation}
use Rattle.gql_diag_messages.specs.declared.diagnostic_data.DiagnosticData.{DiagnosticData}
use Rattle.gql_diag_messages.specs.declared.rule.Rule.TheVariants as rule
use Rattle.gql_graph.specs.Chains.{has_chain, is_marked}
use Rattle.gql_graph.specs.Cycles.{IsOnCycle, ReachesCycle}
use Rattle.gql_graph.specs.Graph.{Graph, row}
use Rattle.gql_rules_values.specs.Written.{is_written}
use Rattle.gql_client_schema_laws.specs.Pairs.{Paired}
use Rattle.gql_client_schema_laws.specs.Retold.{IsRetoldInput, IsRetoldType, IsRetoldDirective, IsRetold}
use Rattle.gql_client_schema_laws.specs.Standard.{Parameter, said_parameter, string_name, reason_parameter, url_parameter, HasDirective, HasScalar, HasStandard}
use Rattle.gql_client_schema_laws.specs.Uses.{said_use, AreUses, deprecation_uses, url_uses, one_of_uses, text_or_null}
use Rattle.gql_client_schema_laws.proofs.Found.{by_kind}
use Rattle.gql_client_schema_laws.proofs.Pairs.{all_append, all_mapped, all_flat, all_weaker}
use Rattle.gql_client_schema_laws.proofs.Marks.{marked_holds, fewer_marks}
use Rattle.gql_client_schema_laws.proofs.Ranks.{all_at, EndsWithin, longer, on_no_cycle, no_chain}
use Rattle.gql_client_schema_laws.proofs.References.{name_unplaced, name_Named, name_NonNullNamed}
use Rattle.gql_client_schema_laws.proofs.Uses.{one_mapped, none_mapped}
use Rattle.gql_schema_rules.specs.CycleFaults.{faults_from}
use Rattle.gql_schema_rules.specs.RecursiveDirectiveDefinition.{directive_name, directive_node, directive_nodes, type_edges, type_node, argument_edges, directive_edges, directive_graph, AreRecursiveDirectives}
use Rattle.gql_schema_types.specs.Entries.{entry, is_called}
use Rattle.gql_schema_types.specs.Types.{type_name, type_called, is_one_of}
use Rattle.gql_schema_types.specs.declared.schema.Schema.{Schema}
use Rattle.gql_schema_types.specs.declared.types.ExtendedType.{ExtendedType}
use Rattle.gql_schema_types.specs.declared.types.ExtendedType.TheVariants as type

-- ---- places in lists

get_first : {X : Type 0} (p : X → Bool) (xs : List X) → slice_get xs (position_or_len p xs) ≡ find p xs
get_first p [] = refl
get_first p (x ∷ xs) = by_test (p x) (get_first p xs)
  where
    by_test : (b : Bool) → slice_get xs (position_or_len p xs) ≡ find p xs
        → slice_get (x ∷ xs) (cond (not b) (1 + position_or_len p xs) 0) ≡ cond b (Some x) (find p xs)
    by_test true later = refl
    by_test false later = let next : 1 + position_or_len p xs ≡ suc (position_or_len p xs) = omega arith in ap (slice_get (x ∷ xs)) next ∙ later

chosen : (b : Bool) (n v : ℕ) → cond b (Some n) None ≡ Some v → n ≡ v
chosen true n v is = cc
chosen false n v is = absurd cc

get_position : {X : Type 0} (p : X → Bool) (xs : List X) (v : ℕ) → position p xs ≡ Some v → slice_get xs v ≡ find p xs
get_position p xs v is = ap (slice_get xs) (sym (chosen (nat_lt (position_or_len p xs) (length xs)) (position_or_len p xs) v is)) ∙ get_first p xs

get_mapped : {X Y : Type 0} (f : X → Y) (xs : List X) (v : ℕ) (x : X) → slice_get xs v ≡ Some x → slice_get (map f xs) v ≡ Some (f x)
get_mapped f [] v x is = absurd cc
get_mapped f (y ∷ xs) zero x is = let e : y ≡ x = cc in ap (λ z. Some (f z)) e
get_mapped f (y ∷ xs) (suc v) x is = get_mapped f xs v x is

get_none : {X Y : Type 0} (f : X → Y) (xs : List X) (v : ℕ) → slice_get xs v ≡ None → slice_get (map f xs) v ≡ None
get_none f [] v is = refl
get_none f (y ∷ xs) zero is = absurd cc
get_none f (y ∷ xs) (suc v) is = get_none f xs v is

get_left : {X : Type 0} (xs ys : List X) (v : ℕ) (x : X) → slice_get xs v ≡ Some x → slice_get (xs ++ ys) v ≡ Some x
get_left [] ys v x is = absurd cc
get_left (y ∷ xs) ys zero x is = is
get_left (y ∷ xs) ys (suc v) x is = get_left xs ys v x is

get_right : {X Y : Type 0} (f : X → Y) (xs : List X) (ys : List Y) (k : ℕ) → slice_get (map f xs ++ ys) (length xs + k) ≡ slice_get ys k
get_right f [] ys k = let e : 0 + k ≡ k = omega arith in ap (slice_get ys) e
get_right f (x ∷ xs) ys k =
    let e : length (x ∷ xs) + k ≡ suc (length xs + k) = omega arith in
    ap (slice_get (f x ∷ (map f xs ++ ys))) e ∙ get_right f xs ys k

module _ (definitions : List DirectiveDefinition) (types : List ExtendedType) where
  abbrev graph : Graph
  graph = directive_graph definitions types

  abbrev Ends : ℕ → ℕ → Type 0
  Ends = EndsWithin graph

  row_of : (v : ℕ) (r : List ℕ) → slice_get graph v ≡ Some r → row graph v ≡ r
  row_of v r is = ap (λ o. unwrap_or o []) is

  directive_row : (v : ℕ) (d : DirectiveDefinition) → slice_get definitions v ≡ Some d → row graph v ≡ directive_edges definitions types d
  directive_row v d is =
      row_of v (directive_edges definitions types d)
      (get_left (map (directive_edges definitions types) definitions) (map (type_edges definitions) types) v (directive_edges definitions types d)
      (get_mapped (directive_edges definitions types) definitions v d is))

  type_row : (k : ℕ) (t : ExtendedType) → slice_get types k ≡ Some t → row graph (length definitions + k) ≡ type_edges definitions t
  type_row k t is =
      row_of (length definitions + k) (type_edges definitions t)
      (get_right (directive_edges definitions types) definitions (map (type_edges definitions) types) k ∙ get_mapped (type_edges definitions) types k t is)

  -- of the type that a name names, if there is one, something holds
  all_node : (P : ℕ → Type 0) (name : Named) → ((k : ℕ) → position (is_called type_name name.text) types ≡ Some k → P (length definitions + k))
      → AllByRecursion P (type_node definitions types name)
  all_node P name h = by_place (position (is_called type_name name.text) types) h
    where
      by_place : (o : Option ℕ) → ((k : ℕ) → o ≡ Some k → P (length definitions + k)) → AllByRecursion P (option_map_or (λ v. (length definitions + v) ∷ []) o [])
      by_place None h = tt
      by_place (Some k) h = (h k refl, tt)

  all_used : (P : ℕ → Type 0) (used : Directive) → ((v : ℕ) → position (is_called directive_name used.name.text) definitions ≡ Some v → P v) → AllByRecursion P (directive_node definitions used)
  all_used P used h = by_place (position (is_called directive_name used.name.text) definitions) h
    where
      by_place : (o : Option ℕ) → ((v : ℕ) → o ≡ Some v → P v) → AllByRecursion P (option_to_list o)
      by_place None h = tt
      by_place (Some v) h = (h v refl, tt)

  module _ (string : HasScalar types (codes "String")) where
    -- ---- `String`

    string_ends : (name : Named) → name.text ≡ codes "String" → (k : ℕ) → position (is_called type_name name.text) types ≡ Some k → Ends 0 (length definitions + k)
    string_ends name is k at =
        type_row k (type.Scalar string.scalar) (get_position (is_called type_name name.text) types k at ∙ ap (λ n. type_called n types) is ∙ string.is)
        ∙ ap (directive_nodes definitions) string.plain

    -- ---- a directive whose parameters are texts, if it has some

    abbrev IsText : InputValueDefinition → Type 0
    IsText argument = (argument.directives ≡ []) × ((named_type argument.ty).text ≡ codes "String")

    argument_ends : (argument : InputValueDefinition) → IsText argument → AllByRecursion (Ends 0) (argument_edges definitions types argument)
    argument_ends argument is =
        all_append (Ends 0) (directive_nodes definitions argument.directives) (type_node definitions types (named_type argument.ty))
        (subst (λ ds. AllByRecursion (Ends 0) (directive_nodes definitions ds)) (sym is.0) tt)
        (all_node (Ends 0) (named_type argument.ty) (string_ends (named_type argument.ty) is.1))

    built_in_ends : (name : List ℕ) (d : DirectiveDefinition) → entry directive_name name definitions ≡ Some d → AllByRecursion IsText d.arguments
        → (v : ℕ) → position (is_called directive_name name) definitions ≡ Some v → Ends 1 v
    built_in_ends name d is texts v at =
        subst (AllByRecursion (Ends 0)) (sym (directive_row v d (get_position (is_called directive_name name) definitions v at ∙ is)))
        (all_flat (Ends 0) (argument_edges definitions types) d.arguments
        (all_weaker IsText (λ argument. AllByRecursion (Ends 0) (argument_edges definitions types argument)) argument_ends d.arguments texts))

    -- one parameter
    one_text : (d : DirectiveDefinition) (parameter : Parameter) → AllByRecursion (λ argument. argument.directives ≡ []) d.arguments → map said_parameter d.arguments ≡ parameter ∷ []
        → (named_type parameter.1).text ≡ codes "String" → AllByRecursion IsText d.arguments
    one_text d parameter plain is named =
        let p = one_mapped said_parameter parameter d.arguments is in
        let bare : AllByRecursion (λ argument. argument.directives ≡ []) (p.0 ∷ []) = subst (AllByRecursion (λ argument. argument.directives ≡ [])) p.1 plain in
        subst (AllByRecursion IsText) (sym p.1)
        ((bare.0, sym (name_unplaced p.0.ty) ∙ ap (λ g. (named_type g.1).text) p.2 ∙ named), tt)

    used_ends : (name : List ℕ) → ((v : ℕ) → position (is_called directive_name name) definitions ≡ Some v → Ends 1 v) → (used : Directive) → used.name.text ≡ name
        → AllByRecursion (Ends 1) (directive_node definitions used)
    used_ends name h used is = all_used (Ends 1) used (λ v at. h v (ap (λ n. position (is_called directive_name n) definitions) (sym is) ∙ at))

    -- the uses are none, or one of this name
    one_used : (name : List ℕ) → ((v : ℕ) → position (is_called directive_name name) definitions ≡ Some v → Ends 1 v) → (ds : List Directive) (used : Directive)
        → ds ≡ used ∷ [] → used.name.text ≡ name → AllByRecursion (Ends 1) (directive_nodes definitions ds)
    one_used name h ds used is named =
        subst (λ l. AllByRecursion (Ends 1) (directive_nodes definitions l)) (sym is)
        (all_append (Ends 1) (directive_node definitions used) [] (used_ends name h used named) tt)

    none_used : (ds : List Directive) → AreUses [] ds → AllByRecursion (Ends 1) (directive_nodes definitions ds)
    none_used ds is = subst (λ l. AllByRecursion (Ends 1) (directive_nodes definitions l)) (sym (none_mapped said_use ds is)) tt

    module _ (places : List DirectiveLocation) (deprecated : HasDirective definitions (codes "deprecated") places (reason_parameter ∷ [])) where
      deprecation_ends : (deprecation : Option (Option (List ℕ))) (ds : List Directive) → AreUses (deprecation_uses deprecation) ds → AllByRecursion (Ends 1) (directive_nodes definitions ds)
      deprecation_ends None ds is = none_used ds is
      deprecation_ends (Some reason) ds is =
          let u = one_mapped said_use (codes "deprecated", (codes "reason", text_or_null reason) ∷ []) ds is in
          one_used (codes "deprecated")
          (built_in_ends (codes "deprecated") deprecated.definition deprecated.is
          (one_text deprecated.definition reason_parameter deprecated.plain deprecated.takes (ap (λ n. n.text) (name_Named string_name))))
          ds u.0 u.1 (ap (λ g. g.0) u.2)

    module _ (places : List DirectiveLocation) (specified_by : HasDirective definitions (codes "specifiedBy") places (url_parameter ∷ [])) where
      url_ends : (url : Option (List ℕ)) (ds : List Directive) → AreUses (url_uses url) ds → AllByRecursion (Ends 1) (directive_nodes definitions ds)
      url_ends None ds is = none_used ds is
      url_ends (Some url) ds is =
          let u = one_mapped said_use (codes "specifiedBy", (codes "url", text_or_null (Some url)) ∷ []) ds is in
          one_used (codes "specifiedBy")
          (built_in_ends (codes "specifiedBy") specified_by.definition specified_by.is
          (one_text specified_by.definition url_parameter specified_by.plain specified_by.takes (ap (λ n. n.text) (name_NonNullNamed string_name))))
          ds u.0 u.1 (ap (λ g. g.0) u.2)

    module _ (places : List DirectiveLocation) (one_of : HasDirective definitions (codes "oneOf") places []) where
      one_of_ends : (is_so : Bool) (ds : List Directive) → AreUses (one_of_uses is_so) ds → AllByRecursion (Ends 1) (directive_nodes definitions ds)
      one_of_ends false ds is = none_used ds is
      one_of_ends true ds is =
          let u = one_mapped said_use (codes "oneOf", []) ds is in
          one_used (codes "oneOf")
          (built_in_ends (codes "oneOf") one_of.definition one_of.is
          (subst (AllByRecursion IsText) (sym (none_mapped said_parameter one_of.definition.arguments one_of.takes)) tt))
          ds u.0 u.1 (ap (λ g. g.0) u.2)

-- ---- the whole graph

module _ (schema again : Schema) (retold : IsRetold schema again) (standard : HasStandard again) where
  abbrev graph_again : Graph
  graph_again = directive_graph again.directive_definitions again.types

  abbrev EndsHere : ℕ → ℕ → Type 0
  EndsHere = EndsWithin graph_again

  type_ends : (t u : ExtendedType) → IsRetoldType t u → AllByRecursion (EndsHere 1) (type_edges again.directive_definitions u)
  type_ends =
      by_kind (λ t u. AllByRecursion (EndsHere 1) (type_edges again.directive_definitions u))
      (λ t u same. url_ends again.directive_definitions again.types standard.string _ standard.specified_by same.url u.directives same.uses)
      (λ t u same. tt) (λ t u same. tt) (λ t u same. tt)
      (λ t u same. none_used again.directive_definitions again.types standard.string u.directives same.uses)
      (λ t u same. one_of_ends again.directive_definitions again.types standard.string _ standard.one_of (is_one_of u) u.directives same.uses)

  -- something holds of each second thing of the pairs
  all_again : {X Y : Type 0} (R : X → Y → Type 0) (P : Y → Type 0) → ((x : X) (y : Y) → R x y → P y) → (xs : List X) (ys : List Y) → Paired R xs ys → AllByRecursion P ys
  all_again R P h [] [] pairs = tt
  all_again R P h (x ∷ xs) (y ∷ ys) pairs = (h x y pairs.0, all_again R P h xs ys pairs.1)
  all_again R P h [] (y ∷ ys) pairs = absurd pairs
  all_again R P h (x ∷ xs) [] pairs = absurd pairs

  each_type_ends : AllByRecursion (λ (t : ExtendedType). AllByRecursion (EndsHere 1) (type_edges again.directive_definitions t)) again.types
  each_type_ends = all_again IsRetoldType (λ t. AllByRecursion (EndsHere 1) (type_edges again.directive_definitions t)) type_ends schema.types again.types retold.types

  named_ends : (name : Named) (k : ℕ) → position (is_called type_name name.text) again.types ≡ Some k → EndsHere 2 (length again.directive_definitions + k)
  named_ends name k at = by_type (slice_get again.types k) refl
    where
      past : slice_get again.types k ≡ None → row graph_again (length again.directive_definitions + k) ≡ []
      past none =
          ap (λ o. unwrap_or o [])
          (get_right (directive_edges again.directive_definitions again.types) again.directive_definitions (map (type_edges again.directive_definitions) again.types) k
          ∙ get_none (type_edges again.directive_definitions) again.types k none)

      by_type : (o : Option ExtendedType) → slice_get again.types k ≡ o → EndsHere 2 (length again.directive_definitions + k)
      by_type None is = subst (AllByRecursion (EndsHere 1)) (sym (past is)) tt
      by_type (Some t) is =
          subst (AllByRecursion (EndsHere 1)) (sym (type_row again.directive_definitions again.types k t is))
          (all_at (λ (t : ExtendedType). AllByRecursion (EndsHere 1) (type_edges again.directive_definitions t)) again.types k t each_type_ends is)

  argument_ends_again : (x y : InputValueDefinition) → IsRetoldInput x y → AllByRecursion (EndsHere 2) (argument_edges again.directive_definitions again.types y)
  argument_ends_again x y same =
      all_append (EndsHere 2) (directive_nodes again.directive_definitions y.directives) (type_node again.directive_definitions again.types (named_type y.ty))
      (all_weaker (EndsHere 1) (EndsHere 2) (longer graph_again 1) (directive_nodes again.directive_definitions y.directives)
      (deprecation_ends again.directive_definitions again.types standard.string _ standard.deprecated same.deprecation y.directives same.uses))
      (all_node again.directive_definitions again.types (EndsHere 2) (named_type y.ty) (named_ends (named_type y.ty)))

  directive_ends : (x y : DirectiveDefinition) → IsRetoldDirective x y → AllByRecursion (EndsHere 2) (directive_edges again.directive_definitions again.types y)
  directive_ends x y same =
      all_flat (EndsHere 2) (argument_edges again.directive_definitions again.types) y.arguments
      (all_again IsRetoldInput (λ a. AllByRecursion (EndsHere 2) (argument_edges again.directive_definitions again.types a)) argument_ends_again x.arguments y.arguments same.arguments)

  each_row_ends : AllByRecursion (λ r. AllByRecursion (EndsHere 2) r) graph_again
  each_row_ends =
      all_append (λ r. AllByRecursion (EndsHere 2) r) (map (directive_edges again.directive_definitions again.types) again.directive_definitions) (map (type_edges again.directive_definitions) again.types)
      (all_mapped (λ r. AllByRecursion (EndsHere 2) r) (directive_edges again.directive_definitions again.types) again.directive_definitions
      (all_again IsRetoldDirective (λ d. AllByRecursion (EndsHere 2) (directive_edges again.directive_definitions again.types d)) directive_ends
      schema.directive_definitions again.directive_definitions retold.directives))
      (all_mapped (λ r. AllByRecursion (EndsHere 2) r) (type_edges again.directive_definitions) again.types
      (all_weaker (λ (t : ExtendedType). AllByRecursion (EndsHere 1) (type_edges again.directive_definitions t)) (λ t. AllByRecursion (EndsHere 2) (type_edges again.directive_definitions t))
      (λ t ends. all_weaker (EndsHere 1) (EndsHere 2) (longer graph_again 1) (type_edges again.directive_definitions t) ends) again.types each_type_ends))

  each_node_ends : (v : ℕ) → EndsHere 3 v
  each_node_ends v = by_row (slice_get graph_again v) refl
    where
      by_row : (o : Option (List ℕ)) → slice_get graph_again v ≡ o → AllByRecursion (EndsHere 2) (unwrap_or (slice_get graph_again v) [])
      by_row None is = subst (λ o. AllByRecursion (EndsHere 2) (unwrap_or o [])) (sym is) tt
      by_row (Some r) is =
          subst (λ o. AllByRecursion (EndsHere 2) (unwrap_or o [])) (sym is) (all_at (λ r. AllByRecursion (EndsHere 2) r) graph_again v r each_row_ends is)

  -- ---- nothing is told

  none_from : (recursive long : List Bool) → ((v : ℕ) → is_marked recursive v ≡ true → ⊥) → ((v : ℕ) → is_marked long v ≡ true → ⊥) → (v : ℕ) (ds : List DirectiveDefinition)
      → faults_from directive_name rule.RecursiveDirectiveDefinition recursive long v ds ≡ []
  none_from recursive long cycles chains v ds =
      fewer_marks directive_name directive_name rule.RecursiveDirectiveDefinition [] [] recursive long (λ w is. absurd (cycles w is)) (λ w is. absurd (chains w is)) v ds ds (same_places ds) (unmarked v ds)
    where
      same_places : (ds : List DirectiveDefinition) → Paired (λ (x y : DirectiveDefinition). is_written x.name.location ≡ is_written y.name.location) ds ds
      same_places [] = tt
      same_places (d ∷ ds) = (refl, same_places ds)

      unmarked : (v : ℕ) (ds : List DirectiveDefinition) → faults_from directive_name rule.RecursiveDirectiveDefinition [] [] v ds ≡ []
      unmarked v [] = refl
      unmarked v (d ∷ ds) = unmarked (v + 1) ds

  pub recursive_directives_alike : (told : List DiagnosticData) → AreRecursiveDirectives again.directive_definitions again.types told → told ≡ []
  recursive_directives_alike told are =
      are.whole
      ∙ none_from are.recursive are.long
      (λ v is. on_no_cycle graph_again 3 v (each_node_ends v) (marked_holds (IsOnCycle graph_again) (length graph_again) are.recursive are.judged.on_cycles v is))
      (λ v is. let holds = marked_holds (λ v. (has_chain graph_again (length again.directive_definitions) 32 v ≡ true) × (ReachesCycle graph_again v → ⊥)) (length graph_again) are.long are.judged.on_chains v is in
      let none : has_chain graph_again (length again.directive_definitions) 32 v ≡ false = no_chain graph_again (length again.directive_definitions) 3 32 v (each_node_ends v) (omega arith) in
      let has : has_chain graph_again (length again.directive_definitions) 32 v ≡ true = holds.0 in
      let wrong : false ≡ true = sym none ∙ has in absurd cc)
      0 again.directive_definitions
