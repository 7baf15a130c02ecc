-- Texts of lists and objects that are still open, and how they go on and end.
use Rattle.std.proofs.Common.{◌≡◌, ℕ, suc, ◌+◌, ◌-◌, ◌<◌, Bool, true, false, List, [], ◌∷◌, ◌++◌, map, length, take, get_or, codes, refl, sym, ap, ◌∙◌, arith, append_assoc}
use Rattle.std.proofs.Math.Seq.{take-append_seam, get_or-append_seam}
use Rattle.std.proofs.lemmas.List.{append-nil, length-append}
use Rattle.jb_tree.specs.declared.value.Value.{Value, Array, Object}
use Rattle.jb_print.specs.Compact.{compact}
use Rattle.jb_print.specs.bridge.Pieces.{comma_after, pieces_text, member_piece}
use Rattle.jb_print.specs.Quoted.{quoted}
use Rattle.jb_print.proofs.Compacts.{compact-Array, compact-Object}
use Rattle.gql_resolvers.specs.Execute.{Member}
use Rattle.gql_exec.specs.bridge.Written.{with_commas, list_text, object_text, has_some, IsOpenList, IsOpenObject, IsKeyed}
use Rattle.gql_exec.specs.declared.text_output.OpenList.{OpenList}
use Rattle.gql_exec.specs.declared.text_output.OpenObject.{OpenObject}

-- ---- lists

commas-more : (values : List Value) (v : Value) → with_commas (map compact (values ++ v ∷ [])) ≡ with_commas (map compact values) ++ (compact v ++ codes ",")
commas-more [] v = refl
commas-more (u ∷ values) v =
    ap (λ rest. compact u ++ (codes "," ++ rest)) (commas-more values v)
    ∙ sym (append_assoc (compact u) (codes "," ++ with_commas (map compact values)) (compact v ++ codes ","))

-- what three texts in a row are with the last two joined
joined : (start middle value end : List ℕ) → ((start ++ middle) ++ value) ++ end ≡ start ++ (middle ++ (value ++ end))
joined start middle value end = append_assoc (start ++ middle) value end ∙ append_assoc start middle (value ++ end)

pub list-added : (start before old new : List ℕ) (list : OpenList) (values : List Value) (v : Value) → IsOpenList start before list values
    → old ≡ before ++ compact v → new ≡ old ++ codes "," → IsOpenList start new list (values ++ v ∷ [])
list-added start before old new list values v is made added = record {
  begins = is.begins;
  text =
      added ∙ ap (λ t. t ++ codes ",") made ∙ ap (λ t. (t ++ compact v) ++ codes ",") is.text
      ∙ joined start (list_text values) (compact v) (codes ",")
      ∙ ap (λ t. start ++ (codes "[" ++ t)) (sym (commas-more values v));
}

-- a comma first, and a comma last
commas-turn : (pieces : List (List ℕ)) → codes "," ++ with_commas pieces ≡ pieces_text true pieces ++ codes ","
commas-turn [] = refl
commas-turn (piece ∷ pieces) =
    ap (λ rest. codes "," ++ (piece ++ rest)) (commas-turn pieces)
    ∙ ap (λ rest. codes "," ++ rest) (sym (append_assoc piece (pieces_text true pieces) (codes ",")))

-- what is left of an open list without its last comma
abbrev all_but_comma : List ℕ → Value → List Value → List ℕ
all_but_comma start v values = start ++ (codes "[" ++ (compact v ++ pieces_text true (map compact values)))

without-comma : (start : List ℕ) (v : Value) (values : List Value) → start ++ list_text (v ∷ values) ≡ all_but_comma start v values ++ codes ","
without-comma start v values =
    ap (λ rest. start ++ (codes "[" ++ (compact v ++ rest))) (commas-turn (map compact values))
    ∙ ap (λ rest. start ++ (codes "[" ++ rest)) (sym (append_assoc (compact v) (pieces_text true (map compact values)) (codes ",")))
    ∙ sym (append_assoc start (codes "[" ++ (compact v ++ pieces_text true (map compact values))) (codes ","))

module _ (start before : List ℕ) (list : OpenList) (n : ℕ) (long : n ≡ length before) where
  none-open : IsOpenList start before list [] → n ≡ length start + 1
  none-open is = long ∙ ap (λ (t : List ℕ). length t) is.text ∙ length-append start (list_text [])

  some-open : (v : Value) (values : List Value) → IsOpenList start before list (v ∷ values) → before ≡ all_but_comma start v values ++ codes ","
  some-open v values is = is.text ∙ without-comma start v values

  some-long : (v : Value) (values : List Value) → IsOpenList start before list (v ∷ values) → n ≡ length (all_but_comma start v values) + 1
  some-long v values is = long ∙ ap (λ (t : List ℕ). length t) (some-open v values is) ∙ length-append (all_but_comma start v values) (codes ",")

  -- the last byte is a comma
  pub comma-last : (values : List Value) → IsOpenList start before list values → list.start + 1 < n → get_or before (n - 1) 0 ≡ 44
  comma-last [] is more = absurd (omega (arith, none-open is, is.begins, more))
  comma-last (v ∷ values) is more =
      let front = all_but_comma start v values in
      let at : n - 1 ≡ length front = omega (arith, some-long v values is) in
      ap (λ i. get_or before i 0) at ∙ ap (λ (t : List ℕ). get_or t (length front) 0) (some-open v values is) ∙ get_or-append_seam front 44 [] 0

  -- the list with its end in the place of the last comma
  pub list-ended : (values : List Value) → IsOpenList start before list values → list.start + 1 < n → take (n - 1) before ++ codes "]" ≡ start ++ compact (Array values)
  list-ended [] is more = absurd (omega (arith, none-open is, is.begins, more))
  list-ended (v ∷ values) is more =
      let front = all_but_comma start v values in
      let at : n - 1 ≡ length front = omega (arith, some-long v values is) in
      ap (λ i. take i before ++ codes "]") at ∙ ap (λ (t : List ℕ). take (length front) t ++ codes "]") (some-open v values is)
      ∙ ap (λ (t : List ℕ). t ++ codes "]") (take-append_seam front (codes ","))
      ∙ append_assoc start (codes "[" ++ (compact v ++ pieces_text true (map compact values))) (codes "]")
      ∙ ap (λ t. start ++ t) (sym (compact-Array (v ∷ values)))

  -- no item, and so no comma
  pub list-empty : (values : List Value) → IsOpenList start before list values → (list.start + 1 < n → ⊥) → before ++ codes "]" ≡ start ++ compact (Array values)
  list-empty [] is none =
      ap (λ t. t ++ codes "]") is.text ∙ append_assoc start (codes "[") (codes "]") ∙ ap (λ t. start ++ t) (sym (compact-Array []))
  list-empty (v ∷ values) is none =
      let front = codes "[" ++ (compact v ++ pieces_text true (map compact values)) in
      let long = some-long v values is in
      let more : length (start ++ front) ≡ length start + length front = length-append start front in
      let one : length front ≡ suc (length (compact v ++ pieces_text true (map compact values))) = refl in
      absurd (none (omega (arith, long, more, one, is.begins)))

-- ---- objects

-- whether a comma stands before a piece that comes after these
abbrev pub after : {A : Type 0} → Bool → List A → Bool
after later [] = later
after later (x ∷ xs) = true

after-true : {A : Type 0} (xs : List A) → after true xs ≡ true
after-true [] = refl
after-true (x ∷ xs) = refl

after-false : {A : Type 0} (xs : List A) → after false xs ≡ has_some xs
after-false [] = refl
after-false (x ∷ xs) = refl

has-more : {A : Type 0} (xs : List A) (x : A) → true ≡ has_some (xs ++ x ∷ [])
has-more [] x = refl
has-more (y ∷ ys) x = refl

pub pieces-more : (later : Bool) (members : List Member) (m : Member)
    → pieces_text later (map member_piece (members ++ m ∷ [])) ≡ pieces_text later (map member_piece members) ++ (comma_after (after later members) ++ member_piece m)
pieces-more later [] m = ap (λ t. comma_after later ++ t) (append-nil (member_piece m))
pieces-more later (n ∷ members) m =
    let more = comma_after true ++ member_piece m in
    let rest = pieces_text true (map member_piece members) in
    ap (λ t. comma_after later ++ (member_piece n ++ t)) (pieces-more true members m)
    ∙ ap (λ b. comma_after later ++ (member_piece n ++ (rest ++ (comma_after b ++ member_piece m)))) (after-true members)
    ∙ ap (λ t. comma_after later ++ t) (sym (append_assoc (member_piece n) rest more))
    ∙ sym (append_assoc (comma_after later) (member_piece n ++ rest) more)

pub member-added : (start before old : List ℕ) (object : OpenObject) (members : List Member) (key : List ℕ) (v : Value) → IsKeyed start before object members key
    → old ≡ before ++ compact v → IsOpenObject start old (record object { later = true }) (members ++ (key, v) ∷ [])
member-added start before old object members key v is made =
    let comma = comma_after (has_some members) in
    let named = quoted key ++ codes ":" in
    record {
      begins = is.begins;
      later = has-more members (key, v);
      text =
          made ∙ ap (λ t. t ++ compact v) is.text
          ∙ append_assoc (start ++ object_text members) (comma ++ named) (compact v)
          ∙ ap (λ t. (start ++ object_text members) ++ t) (append_assoc comma named (compact v))
          ∙ append_assoc start (object_text members) (comma ++ (named ++ compact v))
          ∙ ap (λ b. start ++ (object_text members ++ (comma_after b ++ (named ++ compact v)))) (sym (after-false members))
          ∙ ap (λ t. start ++ (codes "{" ++ t)) (sym (pieces-more false members (key, v)));
    }

pub object-ended : (start before new : List ℕ) (object : OpenObject) (members : List Member) → IsOpenObject start before object members
    → new ≡ before ++ codes "}" → new ≡ start ++ compact (Object members)
object-ended start before new object members is added =
    added ∙ ap (λ t. t ++ codes "}") is.text ∙ append_assoc start (object_text members) (codes "}") ∙ ap (λ t. start ++ t) (sym (compact-Object members))
