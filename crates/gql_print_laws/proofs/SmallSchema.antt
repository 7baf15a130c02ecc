-- What the definitions say of a small schema.
use Rattle.std.proofs.Common.{◌≡◌, ◌++◌, [], ◌∷◌, refl, arith}
use Rattle.std.specs.Prelude.{codes}
use Rattle.gql_sdl.specs.Forms.{string_text}
use Rattle.gql_sdl.specs.Schemas.{directive_line, type_line, schema_text}
use Rattle.jb_print.specs.Quoted.{escaped}
use Rattle.gql_print_laws.specs.Examples.{sides, roots_of_sides, directive_of_sides, type_of_sides}
use Rattle.gql_print_laws.specs.Printable.{IsSchema}
use Rattle.gql_print_laws.specs.Told.{schema_told}

pub printable : IsSchema sides
printable = record {
  roots = record { query = refl; mutation = tt; subscription = tt };
  directives = (record { named = refl; arguments = tt; some = omega arith }, tt);
  types = (tt, (record { named = refl; body = (record { named = refl; other = refl }, (record { named = refl; other = refl }, tt)) }, tt));
}

pub written : schema_text sides ≡ codes "schema { query: Q }\n" ++ (codes "\"Any\" directive @d on FIELD\n" ++ codes "enum Side { LEFT @deprecated(reason: \"late\") RIGHT }\n")
unfolding directive_line type_line string_text escaped lib.Utf8.encode
written = refl

pub told : schema_told sides ≡ roots_of_sides ∷ directive_of_sides ∷ type_of_sides ∷ []
told = refl
