-- Paths of a response, and which place around one holds a null: sections 6.4.4 and 7.1.2 of GraphQL October 2021.
use Rattle.std.specs.Prelude.{List, [], ◌∷◌, ◌++◌, map, Option, Some, None, if◌then◌else◌}
use Rattle.gql_ast_base.specs.declared.type_ref.TypeRef.{TypeRef}
use Rattle.gql_response.specs.declared.path.ResponseDataPathSegment.{ResponseDataPathSegment}
use Rattle.gql_response.specs.Held.{unplaced_segment}
use Rattle.gql_ast_base.specs.TypeParts.{is_non_null}

abbrev pub Segment : Type 0
Segment = ResponseDataPathSegment

-- a place with those around it, outward: the last step to each and its type
abbrev pub Trail : Type 0
Trail = List (Segment × TypeRef)

-- the steps from the root
abbrev pub path_of : Trail → List Segment
path_of [] = []
path_of (t ∷ ts) = path_of ts ++ t.0 ∷ []

-- the path as a response shows it, where a name is its text, wherever it stands in a document
abbrev pub shown : List Segment → List Segment
shown path = map unplaced_segment path

-- the innermost place, from this one outward, whose type may be null; none: the root
abbrev pub held : Trail → Option Trail
held [] = None
held (t ∷ ts) = if is_non_null t.1 then held ts else Some (t ∷ ts)
