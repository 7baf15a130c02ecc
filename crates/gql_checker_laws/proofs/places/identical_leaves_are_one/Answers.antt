use Rattle.gql_checker_laws.proofs.Leaf.{leaf-is}
use Rattle.gql_checker_laws.proofs.places.identical_leaves_are_one.Goals as goal

pub returns : goal.returns
returns c = λ b leaf v h. leaf-is b leaf v h
