-- A name that is cut from a text: what stands in its range, and the range as its place.
use Rattle.std.proofs.Common.{◌≡◌, Bool, true, false, ◌&&◌, if◌then◌else◌, nat_le, Option, Some, None}
use Rattle.std.specs.Prelude.{slice_range, option_and_then}
use Rattle.gql_source.specs.declared.file_id.FileId.{FileId}
use Rattle.gql_ast_base.specs.Names.{Named, is_name}
use Rattle.gql_ast_base.specs.Parts.{Text, is_boundary, piece}
use Rattle.gql_ast_base.specs.bridge.Parts.{name_in}
use Rattle.gql_schema.specs.Rows.{name_at}
use Rattle.gql_schema.specs.declared.built_in_row.Place.{Place}

if_some : {X : Type 0} (b : Bool) (x y : X) → Some x ≡ (if b then Some y else None) → x ≡ y
if_some true x y h = cc
if_some false x y h = absurd cc

abbrev named_if : Named → Text → Option Named
named_if made found = if is_name found then Some (record made { text = found }) else None

of_piece : (text : Text) (b : Bool) (name made : Named) (found : Text) → Some name ≡ option_and_then (named_if made) (if b then Some found else None) → name ≡ record made { text = found }
of_piece text true name made found h = if_some (is_name found) name (record made { text = found }) h
of_piece text false name made found h = absurd cc

pub cut : (text : Text) (file : FileId) (place : Place) (name : Named) → Some name ≡ name_in text file place.0 place.1 → name ≡ name_at text file place
unfolding name_in piece
cut text file place name h =
    of_piece text (nat_le place.0 place.1 && is_boundary text place.0 && is_boundary text place.1) name (name_at text file place) (slice_range text place.0 place.1) h
