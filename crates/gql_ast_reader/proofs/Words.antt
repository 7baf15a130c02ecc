-- The names among the tokens of a row, and their places.
use Rattle.std.proofs.Common.{◌≡◌, ℕ, zero, suc, Bool, true, false, if◌then◌else◌, ◌++◌, option_to_list, Option, Some, None, refl, sym, ap, ◌∙◌, subst}
use Rattle.std.specs.Prelude.{◌&&◌, nat_le, option_and_then, slice_get, slice_range}
use Rattle.std.specs.Option.{option_map}
use Rattle.gql_source.specs.declared.file_id.FileId.{FileId}
use Rattle.gql_ast_base.specs.Forest.{Forest, Plain, nothing, tree_then}
use Rattle.gql_ast_base.specs.SyntaxKind.TheVariants.{Token}
use Rattle.gql_ast_base.specs.Kinds.{is_kind}
use Rattle.gql_ast_base.specs.Names.{is_name}
use Rattle.gql_ast_base.specs.Parts.{Text, gather, word, word_leaf, nth_word, nth_text, nth_name, name_of, token_text, piece, is_boundary, location, span, start_of, end_of}
use Rattle.gql_ast_base.specs.bridge.Parts.{name_in}
use Rattle.gql_ast_reader.specs.declared.place.Place.{Place}
use Rattle.gql_ast_reader.specs.bridge.Places.{place_of, text_at, name_at, name_there, words}

word-cases : (b : Bool) (o : Option Text) (found : Text) → option_and_then (λ t. if is_name t then Some t else None) (if b then o else None) ≡ Some found
    → (b ≡ true) × (o ≡ Some found) × (is_name found ≡ true)
word-cases false o found h = absurd (cc)
word-cases true None found h = absurd (cc)
word-cases true (Some t) found h =
    elim (is_name t) as (λ b. is_name t ≡ b → (if b then Some t else None) ≡ Some found → (true ≡ true) × (Some t ≡ Some found) × (is_name found ≡ true)) [
      | true ↦ λ is s. (refl, s, let e : t ≡ found = cc in subst (λ u. is_name u ≡ true) e is)
      | false ↦ λ is s. absurd (cc)
    ] refl h

-- a tree that is a name is a token, and its text is a piece of the text
module _ (text : Text) (tree : Plain) (found : Text) (is : word text tree ≡ Some found) where
  named : (is_kind tree.kind Token ≡ true) × (piece text tree.start tree.end ≡ Some found) × (is_name found ≡ true)
  unfolding word token_text
  named = word-cases (is_kind tree.kind Token) (piece text tree.start tree.end) found is

  pub text-there : word text tree ≡ text_at text (place_of tree)
  text-there = is ∙ sym named.1

  chosen : (b : Bool) (o : Option Text) → (if b then o else None) ≡ Some found → b ≡ true
  chosen true o h = refl
  chosen false o h = absurd (cc)

  first-of : (a b : Bool) → (a && b) ≡ true → a ≡ true
  first-of true b h = refl
  first-of false b h = h

  in-order : nat_le tree.start tree.end ≡ true
  unfolding piece
  in-order =
      let both = chosen (nat_le tree.start tree.end && is_boundary text tree.start && is_boundary text tree.end) (Some (slice_range text tree.start tree.end)) named.1 in
      first-of (nat_le tree.start tree.end) (is_boundary text tree.start) (first-of (nat_le tree.start tree.end && is_boundary text tree.start) (is_boundary text tree.end) both)

  located : (file : FileId) → location file tree ≡ Some (record { file_id = file; offset = tree.start; end_offset = tree.end })
  unfolding location
  located file =
      ap (λ b. span file (if b then Some tree.start else start_of tree.children) (if b then Some tree.end else end_of tree.children)) named.0
      ∙ ap (λ b. if b then Some (record { file_id = file; offset = tree.start; end_offset = tree.end }) else None) in-order

  pub name-there : (file : FileId) → name_of text file tree ≡ name_at text file (place_of tree)
  unfolding name_of name_in
  name-there file =
      ap (λ o. option_map (λ t. record { text = t; location = location file tree }) o) is
      ∙ ap (λ l. Some (record { text = found; location = l })) (located file)
      ∙ sym (ap (option_and_then (λ t. if is_name t then Some (record { text = t; location = Some (record { file_id = file; offset = tree.start; end_offset = tree.end }) }) else None)) named.1
      ∙ ap (λ b. if b then Some (record { text = found; location = Some (record { file_id = file; offset = tree.start; end_offset = tree.end }) }) else None) named.2)

-- what is found of the nth name is found at its place
module _ {T : Type 0} (text : Text) (of : Plain → Option T) (at : Place → Option T)
    (same : (tree : Plain) (found : Text) → word text tree ≡ Some found → of tree ≡ at (place_of tree)) where
  pub nth-there : (n : ℕ) (row : Forest) → option_and_then of (nth_word text n row) ≡ option_and_then at (slice_get (words text row) n)
  nth-there n nothing = refl
  nth-there zero (tree_then k start end children rest) =
      let tree : Plain = record { kind = k; start = start; end = end; children = children } in
      elim (word text tree) as (λ o. word text tree ≡ o →
      option_and_then of (slice_get (option_to_list (option_map (λ _. tree) o) ++ gather (word_leaf text) rest) zero)
      ≡ option_and_then at (slice_get (option_to_list (option_map (λ _. place_of tree) o) ++ words text rest) zero)) [
        | None ↦ λ is. nth-there zero rest
        | Some found ↦ λ is. same tree found is
      ] refl
  nth-there (suc n) (tree_then k start end children rest) =
      let tree : Plain = record { kind = k; start = start; end = end; children = children } in
      elim (word text tree) as (λ o. word text tree ≡ o →
      option_and_then of (slice_get (option_to_list (option_map (λ _. tree) o) ++ gather (word_leaf text) rest) (suc n))
      ≡ option_and_then at (slice_get (option_to_list (option_map (λ _. place_of tree) o) ++ words text rest) (suc n))) [
        | None ↦ λ is. nth-there (suc n) rest
        | Some found ↦ λ is. nth-there n rest
      ] refl

pub nth-text-there : (text : Text) (n : ℕ) (row : Forest) → nth_text text n row ≡ option_and_then (text_at text) (slice_get (words text row) n)
nth-text-there text n row = nth-there text (word text) (text_at text) (text-there text) n row

pub nth-name-there : (text : Text) (file : FileId) (n : ℕ) (row : Forest) → nth_name text file n row ≡ name_there text file (slice_get (words text row) n)
unfolding nth_name
nth-name-there text file n row = nth-there text (name_of text file) (name_at text file) (λ tree found is. name-there text tree found is file) n row
