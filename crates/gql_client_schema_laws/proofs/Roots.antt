-- Roots of a schema, by what is said of them.
use Rattle.std.proofs.Common.{◌≡◌, ℕ, Bool, true, false, not, ◌&&◌, if◌then◌else◌, Option, Some, None, is_some, List, [], ◌∷◌, ◌++◌, map, fold, refl, sym, ap, ◌∙◌}
use Rattle.std.specs.Option.{option_map, option_map_or}
use Rattle.gql_ast_base.specs.Names.{Named}
use Rattle.gql_ast_base.specs.declared.operation_type.OperationType.{OperationType}
use Rattle.gql_ast_base.specs.declared.operation_type.OperationType.TheVariants.{Query, Mutation, Subscription}
use Rattle.gql_ast_laws.specs.Printed.{from_nowhere}
use Rattle.gql_client_schema_laws.specs.Shown.{ShownRoot, said_root, root_if}
use Rattle.gql_diag_messages.specs.declared.diagnostic_data.DiagnosticData.{DiagnosticData}
use Rattle.gql_diag_messages.specs.declared.rule.Rule.TheVariants.{DuplicateRootOperation}
use Rattle.gql_schema_build.specs.DuplicateRootOperation.{keyword, duplicate_root_operations}
use Rattle.gql_schema_build.specs.Faults.{fault}
use Rattle.gql_schema_build.specs.Roots.{Root, with_root, root_put}
use Rattle.gql_schema_types.specs.Schemas.{root_of}
use Rattle.gql_schema_types.specs.declared.schema.SchemaDefinition.{SchemaDefinition}

-- the root types without places
pub record Texts : Type 0 where
  pub query : Option Named
  pub mutation : Option Named
  pub subscription : Option Named

abbrev pub texts_of : SchemaDefinition → Texts
texts_of d = record {
  query = option_map from_nowhere d.query;
  mutation = option_map from_nowhere d.mutation;
  subscription = option_map from_nowhere d.subscription;
}

abbrev name : List ℕ → Named
name text = record { text = text; location = None }

abbrev at : OperationType → Texts → Option Named
at Query t = t.query
at Mutation t = t.mutation
at Subscription t = t.subscription

abbrev text_put : OperationType → List ℕ → Texts → Texts
text_put Query n t = record t { query = Some (name n) }
text_put Mutation n t = record t { mutation = Some (name n) }
text_put Subscription n t = record t { subscription = Some (name n) }

abbrev pub with_said : Texts → ShownRoot → Texts
with_said t root = if is_some (at root.0 t) then t else text_put root.0 root.1 t

abbrev pub all_free : Texts → List ShownRoot → Bool
all_free t [] = true
all_free t (root ∷ roots) = not (is_some (at root.0 t)) && all_free (with_said t root) roots

is_at : (operation : OperationType) (d : SchemaDefinition) → is_some (at operation (texts_of d)) ≡ is_some (root_of operation d)
is_at Query d = by_root d.query
  where
    by_root : (o : Option Named) → is_some (option_map from_nowhere o) ≡ is_some o
    by_root None = refl
    by_root (Some n) = refl
is_at Mutation d = by_root d.mutation
  where
    by_root : (o : Option Named) → is_some (option_map from_nowhere o) ≡ is_some o
    by_root None = refl
    by_root (Some n) = refl
is_at Subscription d = by_root d.subscription
  where
    by_root : (o : Option Named) → is_some (option_map from_nowhere o) ≡ is_some o
    by_root None = refl
    by_root (Some n) = refl

put_said : (operation : OperationType) (n : Named) (d : SchemaDefinition) → texts_of (root_put operation n d) ≡ text_put operation n.text (texts_of d)
put_said Query n d = refl
put_said Mutation n d = refl
put_said Subscription n d = refl

said_with : (d : SchemaDefinition) (root : Root) → texts_of (with_root d root) ≡ with_said (texts_of d) (said_root root)
said_with d root =
    by_test (is_some (root_of root.0 d)) ∙ ap (λ b. if b then texts_of d else text_put root.0 root.1.text (texts_of d)) (sym (is_at root.0 d))
  where
    by_test : (b : Bool) → texts_of (if b then d else root_put root.0 root.1 d) ≡ (if b then texts_of d else text_put root.0 root.1.text (texts_of d))
    by_test true = refl
    by_test false = put_said root.0 root.1 d

pub said_all : (d : SchemaDefinition) (roots : List Root) → texts_of (fold with_root d roots) ≡ fold with_said (texts_of d) (map said_root roots)
said_all d [] = refl
said_all d (root ∷ roots) = said_all (with_root d root) roots ∙ ap (λ t. fold with_said t (map said_root roots)) (said_with d root)

and_left : (a b : Bool) → (a && b) ≡ true → a ≡ true
and_left true b is = refl
and_left false b is = absurd cc

and_right : (a b : Bool) → (a && b) ≡ true → b ≡ true
and_right true b is = is
and_right false b is = absurd cc

pub none_doubled : (d : SchemaDefinition) (roots : List Root) → all_free (texts_of d) (map said_root roots) ≡ true → duplicate_root_operations d roots ≡ []
none_doubled d [] free = refl
none_doubled d (root ∷ roots) free =
    let here = and_left (not (is_some (at root.0 (texts_of d)))) _ free in
    let later = and_right (not (is_some (at root.0 (texts_of d)))) _ free in
    ap (λ l. l ++ duplicate_root_operations (with_root d root) roots) (by_root (λ first. fault DuplicateRootOperation (keyword root.0 ∷ []) root.1.location first.location ∷ []) (root_of root.0 d) (ap not (sym (is_at root.0 d)) ∙ here))
    ∙ none_doubled (with_root d root) roots (ap (λ t. all_free t (map said_root roots)) (said_with d root) ∙ later)
  where
    by_root : (told : Named → List DiagnosticData) (o : Option Named) → not (is_some o) ≡ true → option_map_or told o [] ≡ []
    by_root told None none = refl
    by_root told (Some n) none = absurd cc

abbrev pub no_roots : Texts
no_roots = record { query = None; mutation = None; subscription = None }

abbrev pub list_of : List ℕ → Option Named → Option Named → List ShownRoot
list_of query mutation subscription = (Query, query) ∷ (root_if Mutation mutation ++ root_if Subscription subscription)

abbrev pub made : List ℕ → Option Named → Option Named → Texts
made query mutation subscription =
    record { query = Some (name query); mutation = option_map from_nowhere mutation; subscription = option_map from_nowhere subscription }

pub listed : (query : List ℕ) (mutation subscription : Option Named) → fold with_said no_roots (list_of query mutation subscription) ≡ made query mutation subscription
listed query None None = refl
listed query (Some m) None = refl
listed query None (Some s) = refl
listed query (Some m) (Some s) = refl

pub listed_free : (query : List ℕ) (mutation subscription : Option Named) → all_free no_roots (list_of query mutation subscription) ≡ true
listed_free query None None = refl
listed_free query (Some m) None = refl
listed_free query None (Some s) = refl
listed_free query (Some m) (Some s) = refl
