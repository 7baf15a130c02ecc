use Rattle.gql_coerce.specs.bridge.Subject.{subject_text}
use Rattle.gql_ast_base.specs.TypeParts.{named_type}
use Rattle.gql_coerce.specs.LiteralValue.{literal_leaf}
use Rattle.gql_coerce.proofs.literal_value.LiteralCoercion.single.Goals as goal

pub returns : goal.returns
returns c =
    c.wrapped.ensures (literal_leaf c.args.self.now.coercion.types.now (subject_text c.args.subject.now) (named_type c.args.ty.now) c.args.literal.now)
    (rw c.inner_named_type.ensures at c.leaf-made.ensures)
