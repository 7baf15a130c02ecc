-- Places of a text, and what stands there.
use Rattle.std.specs.Prelude.{List, Option, slice_get, Some, None, if◌then◌else◌, ◌||◌, option_and_then}
use Rattle.std.specs.Option.{option_map}
use Rattle.gql_source.specs.declared.file_id.FileId.{FileId}
use Rattle.gql_ast_base.specs.Forest.{Forest, Plain}
use Rattle.gql_ast_base.specs.Names.{Named, is_name}
use Rattle.gql_ast_base.specs.Parts.{Text, gather, word, piece}
use Rattle.gql_ast_base.specs.bridge.Parts.{name_in}
use Rattle.gql_ast_base.specs.Literals.{opens_string, opens_number}
use Rattle.gql_ast_reader.specs.declared.place.Place.{Place}
use Rattle.gql_ast_reader.specs.declared.part.Part.{Part}
use Rattle.gql_ast_reader.specs.declared.part.Part.TheVariants.{Word, Literal}

-- where a tree stands
abbrev pub place_of : Plain → Place
place_of tree = record { start = tree.start; end = tree.end }

-- what stands at a place
abbrev pub text_at : Text → Place → Option Text
text_at text place = piece text place.start place.end

abbrev pub name_at : Text → FileId → Place → Option Named
name_at text file place = name_in text file place.start place.end

-- what stands at the place, if there is one
abbrev pub text_there : Text → Option Place → Option Text
text_there text place = option_and_then (text_at text) place

-- the name that stands there, where there is a place
abbrev pub name_there : Text → FileId → Option Place → Option Named
name_there text file place = option_and_then (name_at text file) place

-- the place of a token that is a name
abbrev pub word_place : Text → Plain → Option Place
word_place text tree = option_map (λ _. place_of tree) (word text tree)

-- the places of the names among the tokens of a row
abbrev pub words : Text → Forest → List Place
words text row = gather (word_place text) row

-- the first of them
abbrev pub first_word : Text → Forest → Option Place
first_word text row = slice_get (words text row) 0

-- what a token at the place is in its row
abbrev pub token_is : Text → Place → Option Part
token_is token place =
    if is_name token then Some (Word place)
    else if opens_string token || opens_number token then Some (Literal place)
    else None

abbrev pub token_part_at : Text → Place → Option Part
token_part_at text place = option_and_then (λ token. token_is token place) (text_at text place)
