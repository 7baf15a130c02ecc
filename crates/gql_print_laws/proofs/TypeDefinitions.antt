-- Definitions of types, by their kinds.
use Rattle.gql_sdl.specs.declared.shown.ShownType.{ShownType}
use Rattle.gql_sdl.specs.declared.shown.TypeKind.{TypeKind}
use Rattle.gql_sdl.specs.declared.shown.TypeKind.TheVariants.{Scalar, Object, Interface, Union, Enum, InputObject}
use Rattle.gql_sdl.specs.Definitions.{type_definition_text}
use Rattle.gql_print_laws.specs.Printable.{IsBody, IsType}
use Rattle.gql_print_laws.specs.Told.{named_type_told}
use Rattle.gql_print_laws.proofs.Definition.{PrintedDefinition}
use Rattle.gql_print_laws.proofs.EnumTypes.{printed_enum}
use Rattle.gql_print_laws.proofs.InputTypes.{printed_input_object}
use Rattle.gql_print_laws.proofs.InterfaceTypes.{printed_interface}
use Rattle.gql_print_laws.proofs.ObjectTypes.{printed_object}
use Rattle.gql_print_laws.proofs.References.{IsName}
use Rattle.gql_print_laws.proofs.ScalarTypes.{printed_scalar}
use Rattle.gql_print_laws.proofs.TypeParts.{PrintedKind}
use Rattle.gql_print_laws.proofs.UnionTypes.{printed_union}

printed_kind : (k : TypeKind) (x : ShownType) → IsName x.name.text → IsBody k x → PrintedKind k x
printed_kind Scalar x n h = printed_scalar x n
printed_kind Object x n h = printed_object x n h.0 h.1
printed_kind Interface x n h = printed_interface x n h.0 h.1
printed_kind Union x n h = printed_union x n h
printed_kind Enum x n h = printed_enum x n h
printed_kind InputObject x n h = printed_input_object x n h

pub printed_named_type : (x : ShownType) → IsType x → PrintedDefinition (type_definition_text x) (named_type_told x)
printed_named_type x h = printed_kind x.kind x h.named h.body
