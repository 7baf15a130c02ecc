-- A request whose document has other fragments.
use Rattle.std.specs.Prelude.{List}
use Rattle.gql_document_types.specs.declared.fragment.Fragment.{Fragment}
use Rattle.gql_exec.specs.Request.{Request}

abbrev pub among : {X : Type 0} → List Fragment → Request X → Request X
among others r = record r { fragments = others }
