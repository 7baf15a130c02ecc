-- The texts of the self-test's request: it is printed JSON of a known tree.
use Rattle.std.proofs.Common.{rules, ◌≡◌, ◌<◌, ◌≤◌, ◌^◌, ℕ, zero, suc, pos, Bool, true, false, if◌then◌else◌, Option, Some, None, Result, Ok, Err, List, [], ◌∷◌, ◌++◌, flat_map, refl, sym, ap, ◌∙◌, subst, arith, append_assoc, append-nil}
use Rattle.std.proofs.lemmas.Nat.{mod_below}
use Rattle.std.specs.Fmt.{decimal, digits}
use Rattle.std.specs.List.{IsDistinct}
use Rattle.std.specs.Prelude.{◌%◌, codes, eqb, unwrap_or}
use Rattle.std.specs.Str.{IsUtf8}
use Rattle.jb_io.specs.Proper.{AreProperItems, IsProper, depth, depth_of_items}
use Rattle.jb_io.proofs.Printed.{text_spelled}
use Rattle.jb_print.specs.Compact.{comma_separated, compact_items, compact_tree}
use Rattle.jb_print.specs.Quoted.{escaped}
use Rattle.jb_read.specs.Spelling.{JsonText, settled}
use Rattle.jb_tree.specs.Tree.{Tree, array, member_then, no_members, no_trees, number, object, text, tree_then, trees_of}
use Rattle.jb_tree.specs.Value.{object_members, string_text, truth_value}
use Rattle.jb_tree.specs.declared.value.Value.{Value, the_lemmas}
use Rattle.jb_tree.specs.declared.value.Value.TheVariants as value
use Rattle.gql_engine.specs.NotAsked.{IsAsked}
use Rattle.gql_engine.specs.Request.{◌>>=◌, Asked, Members, asked, asked_by_kind, asked_by_members, of_kind, optional}
use Rattle.gql_engine.specs.SelfTest.{comma_before, head, item, items, self_test, tag}
use Rattle.gql_engine.specs.declared.request_form.Member.TheVariants.{Schema, Query, OperationName, Variables, Introspection, Data}
use Rattle.gql_engine.specs.declared.request_form.RequestFault.{RequestFault}
use Rattle.gql_engine.specs.declared.request_form.RequestForm.TheVariants.{Plain}
use Rattle.gql_engine.specs.Texts.{query_text, schema_text}

-- ---- the tree

abbrev tag_tree : ℕ → Tree
tag_tree n = if eqb (n % 10) 9 then object (member_then (codes "__error") (text (codes "e")) no_members) else text (codes "t" ++ decimal (n % 7))

abbrev item_tree : ℕ → Tree
item_tree n = object (member_then (codes "id") (number (pos n)) (member_then (codes "tags") (array (tree_then (tag_tree n) no_trees)) no_members))

abbrev item_trees : ℕ → List Tree
item_trees zero = []
item_trees (suc n) = item_trees n ++ item_tree n ∷ []

abbrev data_tree : ℕ → Tree
data_tree count = object (member_then (codes "items") (array (trees_of (item_trees count))) no_members)

abbrev whole : ℕ → Tree
whole count =
    object (member_then (codes "schema") (text schema_text) (member_then (codes "query") (text query_text) (member_then (codes "data") (data_tree count) no_members)))

-- ---- as it is printed

abbrev comma_of : List (List ℕ) → List ℕ
comma_of [] = []
comma_of (x ∷ xs) = codes ","

joined_more : (xs : List (List ℕ)) (x : List ℕ) → comma_separated (xs ++ x ∷ []) ≡ comma_separated xs ++ (comma_of xs ++ x)
joined_more [] x = append-nil x
joined_more (y ∷ ys) x = ap (λ l. y ++ l) (later ys) ∙ sym (append_assoc y (flat_map (λ z. codes "," ++ z) ys) (codes "," ++ x))
  where
    later : (zs : List (List ℕ)) → flat_map (λ z. codes "," ++ z) (zs ++ x ∷ []) ≡ flat_map (λ z. codes "," ++ z) zs ++ (codes "," ++ x)
    later [] = append-nil (codes "," ++ x)
    later (z ∷ zs) = ap (λ l. (codes "," ++ z) ++ l) (later zs) ∙ sym (append_assoc (codes "," ++ z) (flat_map (λ z. codes "," ++ z) zs) (codes "," ++ x))

comma_behind : (xs : List (List ℕ)) (x : List ℕ) → comma_of (xs ++ x ∷ []) ≡ codes ","
comma_behind [] x = refl
comma_behind (y ∷ ys) x = refl

items_more : (ts : List Tree) (t : Tree) → compact_items (trees_of (ts ++ t ∷ [])) ≡ compact_items (trees_of ts) ++ compact_tree t ∷ []
items_more [] t = refl
items_more (s ∷ ts) t = ap (λ l. compact_tree s ∷ l) (items_more ts t)

-- a digit below seven has no escape
small : (k : ℕ) → k < 7 → flat_map escaped (decimal k) ≡ decimal k
unfolding escaped digits
small zero h = refl
small (suc zero) h = refl
small (suc (suc zero)) h = refl
small (suc (suc (suc zero))) h = refl
small (suc (suc (suc (suc zero)))) h = refl
small (suc (suc (suc (suc (suc zero))))) h = refl
small (suc (suc (suc (suc (suc (suc zero)))))) h = refl
small (suc (suc (suc (suc (suc (suc (suc k))))))) h = absurd (omega (arith, h))

tag_printed : (n : ℕ) → compact_tree (tag_tree n) ≡ tag n
unfolding escaped
tag_printed n = by_test (eqb (n % 10) 9)
  where
    by_test : (b : Bool)
        → compact_tree (if b then object (member_then (codes "__error") (text (codes "e")) no_members) else text (codes "t" ++ decimal (n % 7)))
        ≡ (if b then codes "{\"__error\":\"e\"}" else (codes "\"t" ++ (decimal (n % 7) ++ codes "\"")))
    by_test true = refl
    by_test false = ap (λ l. codes "\"t" ++ (l ++ codes "\"")) (small (n % 7) (mod_below n 7 (omega arith)))

item_printed : (n : ℕ) → compact_tree (item_tree n) ≡ item n
unfolding escaped
item_printed n =
    ap (λ l. codes "{\"id\":" ++ ((decimal n ++ (codes ",\"tags\":[" ++ (((l ++ []) ++ codes "]") ++ []))) ++ codes "}")) (tag_printed n)
    ∙ ap (λ l. codes "{\"id\":" ++ l) (append_assoc (decimal n) (codes ",\"tags\":[" ++ (((tag n ++ []) ++ codes "]") ++ [])) (codes "}"))
    ∙ ap (λ l. codes "{\"id\":" ++ (decimal n ++ (codes ",\"tags\":[" ++ l))) (closed (tag n))
  where
    closed : (t : List ℕ) → (((t ++ []) ++ codes "]") ++ []) ++ codes "}" ≡ t ++ codes "]}"
    closed t =
        ap (λ l. l ++ codes "}") (append-nil ((t ++ []) ++ codes "]"))
        ∙ ap (λ l. (l ++ codes "]") ++ codes "}") (append-nil t)
        ∙ append_assoc t (codes "]") (codes "}")

items_printed : (count : ℕ) → comma_separated (compact_items (trees_of (item_trees count))) ≡ items count
items_printed zero = refl
items_printed (suc n) =
    let before = compact_items (trees_of (item_trees n)) in
    ap comma_separated (items_more (item_trees n) (item_tree n))
    ∙ joined_more before (compact_tree (item_tree n))
    ∙ ap (λ l. l ++ (comma_of before ++ compact_tree (item_tree n))) (items_printed n)
    ∙ ap (λ l. items n ++ (l ++ compact_tree (item_tree n))) (comma_known n)
    ∙ ap (λ l. items n ++ (comma_before n ++ l)) (item_printed n)
  where
    comma_known : (n : ℕ) → comma_of (compact_items (trees_of (item_trees n))) ≡ comma_before n
    comma_known zero = refl
    comma_known (suc m) = ap comma_of (items_more (item_trees m) (item_tree m)) ∙ comma_behind (compact_items (trees_of (item_trees m))) (compact_tree (item_tree m))

printed : (count : ℕ) → compact_tree (whole count) ≡ self_test count
unfolding escaped
printed count =
    ap (λ l. head ++ (((((l ++ codes "]") ++ []) ++ codes "}") ++ []) ++ codes "}")) (items_printed count)
    ∙ ap (λ l. head ++ l) (closed (items count))
  where
    closed : (t : List ℕ) → ((((t ++ codes "]") ++ []) ++ codes "}") ++ []) ++ codes "}" ≡ t ++ codes "]}}"
    closed t =
        ap (λ l. l ++ codes "}") (append-nil (((t ++ codes "]") ++ []) ++ codes "}"))
        ∙ ap (λ l. (l ++ codes "}") ++ codes "}") (append-nil (t ++ codes "]"))
        ∙ ap (λ l. l ++ codes "}") (append_assoc t (codes "]") (codes "}"))
        ∙ append_assoc t (codes "]}") (codes "}")

-- ---- the tree is one that a text can have

utf8_tag : (k : ℕ) → k < 7 → IsUtf8 (codes "t" ++ decimal k)
unfolding digits lib.Utf8.encode
utf8_tag zero h = (codes "t0", (refl, refl))
utf8_tag (suc zero) h = (codes "t1", (refl, refl))
utf8_tag (suc (suc zero)) h = (codes "t2", (refl, refl))
utf8_tag (suc (suc (suc zero))) h = (codes "t3", (refl, refl))
utf8_tag (suc (suc (suc (suc zero)))) h = (codes "t4", (refl, refl))
utf8_tag (suc (suc (suc (suc (suc zero))))) h = (codes "t5", (refl, refl))
utf8_tag (suc (suc (suc (suc (suc (suc zero)))))) h = (codes "t6", (refl, refl))
utf8_tag (suc (suc (suc (suc (suc (suc (suc k))))))) h = absurd (omega (arith, h))

module _ (n : ℕ) (low : n < 2 ^ 64) where
  tag_proper : IsProper (tag_tree n)
  unfolding IsDistinct lib.Utf8.encode
  tag_proper = by_test (eqb (n % 10) 9)
    where
      by_test : (b : Bool) → IsProper (if b then object (member_then (codes "__error") (text (codes "e")) no_members) else text (codes "t" ++ decimal (n % 7)))
      by_test true = ((tt, tt), ((codes "__error", (refl, refl)), (codes "e", (refl, refl)), tt))
      by_test false = utf8_tag (n % 7) (mod_below n 7 (omega arith))

  item_proper : IsProper (item_tree n)
  unfolding IsDistinct lib.Utf8.encode
  item_proper = (((refl, tt), (tt, tt)), ((codes "id", (refl, refl)), low, ((codes "tags", (refl, refl)), (tag_proper, tt), tt)))

tag_depth : (n : ℕ) → depth (tag_tree n) ≤ 1
tag_depth n = by_test (eqb (n % 10) 9)
  where
    by_test : (b : Bool) → depth (if b then object (member_then (codes "__error") (text (codes "e")) no_members) else text (codes "t" ++ decimal (n % 7))) ≤ 1
    by_test true = omega arith
    by_test false = omega arith

items_proper : (ts : List Tree) (t : Tree) → AreProperItems (trees_of ts) → IsProper t → AreProperItems (trees_of (ts ++ t ∷ []))
items_proper [] t h p = (p, tt)
items_proper (s ∷ ts) t h p = (h.0, items_proper ts t h.1 p)

items_depth : (ts : List Tree) (t : Tree) (d : ℕ) → depth_of_items (trees_of ts) ≤ d → depth t ≤ d → depth_of_items (trees_of (ts ++ t ∷ [])) ≤ d
items_depth [] t d h p = omega (arith, p)
items_depth (s ∷ ts) t d h p = let rest : depth_of_items (trees_of (ts ++ t ∷ [])) ≤ d = items_depth ts t d (omega (arith, h)) p in omega (arith, h, rest)

all_proper : (count : ℕ) → count < 2 ^ 64 → AreProperItems (trees_of (item_trees count))
all_proper zero low = tt
all_proper (suc n) low = items_proper (item_trees n) (item_tree n) (all_proper n (omega (arith, low))) (item_proper n (omega (arith, low)))

all_depth : (count : ℕ) → depth_of_items (trees_of (item_trees count)) ≤ 3
all_depth zero = omega arith
all_depth (suc n) = items_depth (item_trees n) (item_tree n) 3 (all_depth n) (omega (arith, tag_depth n))

whole_proper : (count : ℕ) → count < 2 ^ 64 → IsProper (whole count)
unfolding IsDistinct lib.Utf8.encode
whole_proper count low = (
  ((refl, (refl, tt)), ((refl, tt), (tt, tt))),
  (
    (codes "schema", (refl, refl)),
    (schema_text, (refl, refl)),
    (
      (codes "query", (refl, refl)),
      (query_text, (refl, refl)),
      ((codes "data", (refl, refl)), ((tt, tt), ((codes "items", (refl, refl)), all_proper count low, tt)), tt),
    ),
  ),
)

whole_depth : (count : ℕ) → depth (whole count) ≤ 127
whole_depth count = omega (arith, all_depth count)

spells : (count : ℕ) → count < 2 ^ 64 → JsonText (self_test count) (settled (whole count))
spells count low = subst (λ bytes. JsonText bytes (settled (whole count))) (printed count) (record {
  tree = whole count;
  behind = [];
  spelled = text_spelled (whole count) 127 (whole_proper count low) (whole_depth count);
  nothing_more = refl;
  is_value = refl;
})

-- ---- what it asks

object_there : (members : Members) → object_members (value.Object members) ≡ Some members
object_there members = search (rules, the_lemmas)

string_there : (bytes : List ℕ) → string_text (value.String bytes) ≡ Some bytes
string_there bytes = search (rules, the_lemmas)

same_ok : {A E : Type 0} (x y : A) → ◌≡◌ {A = Result A E} (Ok x) (Ok y) → x ≡ y
same_ok x y h = cc

abbrev asked_with : List ℕ → List ℕ → Option (List ℕ) → Option Members → Option Bool → Option Members → Asked
asked_with s q o v i d = record { schema = s; query = q; operation_name = o; variables = v; introspection = unwrap_or i false; root = d; response = None }

rest : (s q : List ℕ) (o : Result (Option (List ℕ)) RequestFault) (v : Result (Option Members) RequestFault) (i : Result (Option Bool) RequestFault)
    (d : Result (Option Members) RequestFault) (r : Asked) → (o >>= λ o. v >>= λ v. i >>= λ i. d >>= λ d. Ok (asked_with s q o v i d)) ≡ Ok r
    → (r.schema ≡ s) × (r.query ≡ q)
rest s q (Err e) v i d r h = absurd cc
rest s q (Ok o) (Err e) i d r h = absurd cc
rest s q (Ok o) (Ok v) (Err e) d r h = absurd cc
rest s q (Ok o) (Ok v) (Ok i) (Err e) r h = absurd cc
rest s q (Ok o) (Ok v) (Ok i) (Ok d) r h =
    let same : asked_with s q o v i d ≡ r = same_ok (asked_with s q o v i d) r h in
    (ap (λ (a : Asked). a.schema) (sym same), ap (λ (a : Asked). a.query) (sym same))

abbrev pub OneValue : Type 0
OneValue = (bytes : List ℕ) (v w : Value) → JsonText bytes v → JsonText bytes w → v ≡ w

module _ (count : ℕ) where
  abbrev members : Members
  members = (codes "schema", value.String schema_text) ∷ (codes "query", value.String query_text) ∷ (codes "data", settled (data_tree count)) ∷ []

  abbrev after : List ℕ → List ℕ → Result Asked RequestFault
  after s q =
      optional string_text OperationName members >>= λ o. optional object_members Variables members >>= λ v.
      optional truth_value Introspection members >>= λ i. optional object_members Data members >>= λ d. Ok (asked_with s q o v i d)

  abbrev of_texts : Option (List ℕ) → Option (List ℕ) → Result Asked RequestFault
  of_texts s q = of_kind Schema s >>= λ s. of_kind Query q >>= λ q. after s q

  pub asks_these : OneValue → (r : Asked) → count < 2 ^ 64 → IsAsked Plain (self_test count) r → (r.schema ≡ schema_text) × (r.query ≡ query_text)
  asks_these law r low h =
      let now : asked_by_members Plain members ≡ Ok r =
      ap (asked_by_kind Plain) (sym (object_there members)) ∙ ap (asked Plain) (law (self_test count) (settled (whole count)) h.value (spells count low) h.read) ∙ h.asks in
      rest schema_text query_text (optional string_text OperationName members) (optional object_members Variables members) (optional truth_value Introspection members)
      (optional object_members Data members) r
      (sym (ap (λ q. of_texts (Some schema_text) q) (string_there query_text))
      ∙ sym (ap (λ s. of_texts s (string_text (value.String query_text))) (string_there schema_text))
      ∙ now)
