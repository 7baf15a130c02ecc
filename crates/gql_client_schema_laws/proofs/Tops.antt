-- A value by its literal: what is at its top, and what is inside.
use Rattle.std.proofs.Common.{◌≡◌, List, [], ◌∷◌, map, refl, sym, ap, ◌∙◌, subst, rules}
use Rattle.gql_ast_base.specs.Names.{Named}
use Rattle.gql_ast_base.specs.declared.value.Value.{Value}
use Rattle.gql_ast_base.specs.declared.value.ValueKind.{ValueKind, roll-ValueKind, out-ValueKind, List as ListKind, Object as ObjectKind, the_lemmas}
use Rattle.gql_ast_base.specs.declared.value.ValueKind.TheOpen.{ValueKind-F}
use Rattle.gql_ast_base.specs.declared.value.ValueKind.TheVariants as kind
use Rattle.gql_print_laws.specs.Literal as lit
use Rattle.gql_print_laws.specs.Literal.{Literal, Literals, Pairs, literals_of, pairs_of, literal_of, literal_in}
use Rattle.gql_client_schema_laws.specs.Pairs.{Paired}

abbrev pub Level : Type 0
Level = ValueKind-F ValueKind Value

abbrev pub closed : Level → ValueKind
closed ValueKind-F.Null = kind.Null
closed (ValueKind-F.Variable name) = kind.Variable name
closed (ValueKind-F.Int text) = kind.Int text
closed (ValueKind-F.Float text) = kind.Float text
closed (ValueKind-F.String text) = kind.String text
closed (ValueKind-F.Boolean truth) = kind.Boolean truth
closed (ValueKind-F.Enum name) = kind.Enum name
closed (ValueKind-F.List items) = ListKind items
closed (ValueKind-F.Object members) = ObjectKind members

rolled : (x : Level) → roll-ValueKind x ≡ closed x
rolled ValueKind-F.Null = search (rules, the_lemmas)
rolled (ValueKind-F.Variable name) = search (rules, the_lemmas)
rolled (ValueKind-F.Int text) = search (rules, the_lemmas)
rolled (ValueKind-F.Float text) = search (rules, the_lemmas)
rolled (ValueKind-F.String text) = search (rules, the_lemmas)
rolled (ValueKind-F.Boolean truth) = search (rules, the_lemmas)
rolled (ValueKind-F.Enum name) = search (rules, the_lemmas)
rolled (ValueKind-F.List items) = search (rules, the_lemmas)
rolled (ValueKind-F.Object members) = search (rules, the_lemmas)

pub opened : (k : ValueKind) → closed (out-ValueKind k) ≡ k
opened k = let again : roll-ValueKind (out-ValueKind k) ≡ k = search (rules, the_lemmas) in sym (rolled (out-ValueKind k)) ∙ again

abbrev pub seen : Named × Value → Named × Literal
seen member = (member.0, literal_in member.1)

-- the literal of what is at the top
abbrev pub level_literal : Level → Literal
level_literal ValueKind-F.Null = lit.null
level_literal (ValueKind-F.Variable name) = lit.variable name.text
level_literal (ValueKind-F.Int text) = lit.int text
level_literal (ValueKind-F.Float text) = lit.float text
level_literal (ValueKind-F.String text) = lit.string text
level_literal (ValueKind-F.Boolean truth) = lit.truth truth
level_literal (ValueKind-F.Enum name) = lit.name name.text
level_literal (ValueKind-F.List items) = lit.list (literals_of (map literal_in items))
level_literal (ValueKind-F.Object members) = lit.object (pairs_of (map seen members))

closed_literal : (x : Level) → literal_of (closed x) ≡ level_literal x
closed_literal ValueKind-F.Null = search (rules, the_lemmas)
closed_literal (ValueKind-F.Variable name) = search (rules, the_lemmas)
closed_literal (ValueKind-F.Int text) = search (rules, the_lemmas)
closed_literal (ValueKind-F.Float text) = search (rules, the_lemmas)
closed_literal (ValueKind-F.String text) = search (rules, the_lemmas)
closed_literal (ValueKind-F.Boolean truth) = search (rules, the_lemmas)
closed_literal (ValueKind-F.Enum name) = search (rules, the_lemmas)
closed_literal (ValueKind-F.List items) = search (rules, the_lemmas)
closed_literal (ValueKind-F.Object members) = search (rules, the_lemmas)

pub literal_at : (k : ValueKind) → literal_of k ≡ level_literal (out-ValueKind k)
literal_at k = sym (ap literal_of (opened k)) ∙ closed_literal (out-ValueKind k)

-- what is at the top of a value of this literal
abbrev pub HasTop : Literal → Level → Type 0
HasTop lit.null x = x ≡ ValueKind-F.Null
HasTop (lit.variable t) x = (name : Named) × (x ≡ ValueKind-F.Variable name) × (name.text ≡ t)
HasTop (lit.int t) x = x ≡ ValueKind-F.Int t
HasTop (lit.float t) x = x ≡ ValueKind-F.Float t
HasTop (lit.string t) x = x ≡ ValueKind-F.String t
HasTop (lit.truth b) x = x ≡ ValueKind-F.Boolean b
HasTop (lit.name t) x = (name : Named) × (x ≡ ValueKind-F.Enum name) × (name.text ≡ t)
HasTop (lit.list ls) x = (items : List Value) × (x ≡ ValueKind-F.List items) × (literals_of (map literal_in items) ≡ ls)
HasTop (lit.object ps) x = (members : List (Named × Value)) × (x ≡ ValueKind-F.Object members) × (pairs_of (map seen members) ≡ ps)

top : (x : Level) → HasTop (level_literal x) x
top ValueKind-F.Null = refl
top (ValueKind-F.Variable name) = (name, refl, refl)
top (ValueKind-F.Int text) = refl
top (ValueKind-F.Float text) = refl
top (ValueKind-F.String text) = refl
top (ValueKind-F.Boolean truth) = refl
top (ValueKind-F.Enum name) = (name, refl, refl)
top (ValueKind-F.List items) = (items, refl, refl)
top (ValueKind-F.Object members) = (members, refl, refl)

pub top_of : (v : Value) (l : Literal) → literal_in v ≡ l → HasTop l (out-ValueKind v.kind)
top_of v l is = subst (λ m. HasTop m (out-ValueKind v.kind)) (sym (literal_at v.kind) ∙ is) (top (out-ValueKind v.kind))

-- the kind of a value whose top is known
pub kind_is : (v : Value) (x : Level) → out-ValueKind v.kind ≡ x → v.kind ≡ closed x
kind_is v x is = sym (opened v.kind) ∙ ap closed is

-- ---- pairs of the same keys and literals

abbrev pub SameMember : Named × Value → Named × Value → Type 0
SameMember member again = (member.0.text ≡ again.0.text) × (literal_in member.1 ≡ literal_in again.1)

pub same_members : (xs ys : List (Named × Value)) → pairs_of (map seen xs) ≡ pairs_of (map seen ys) → Paired SameMember xs ys
same_members [] [] same = tt
same_members (x ∷ xs) (y ∷ ys) same =
    let key : x.0.text ≡ y.0.text = cc in
    let value : literal_in x.1 ≡ literal_in y.1 = cc in
    let later : pairs_of (map seen xs) ≡ pairs_of (map seen ys) = cc in
    ((key, value), same_members xs ys later)
same_members [] (y ∷ ys) same = absurd cc
same_members (x ∷ xs) [] same = absurd cc
