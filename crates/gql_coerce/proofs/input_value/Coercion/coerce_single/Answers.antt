use Rattle.gql_coerce.specs.bridge.Subject.{subject_text}
use Rattle.gql_ast_base.specs.TypeParts.{named_type}
use Rattle.gql_coerce.specs.InputValue.{leaf}
use Rattle.gql_coerce.proofs.input_value.Coercion.coerce_single.Goals as goal

pub returns : goal.returns
returns c =
    c.wrapped.ensures (leaf c.args.self.now.types.now (subject_text c.args.subject.now) (named_type c.args.wanted.now.ty.now) c.args.value.now)
    c.coerce_leaf-made.ensures
