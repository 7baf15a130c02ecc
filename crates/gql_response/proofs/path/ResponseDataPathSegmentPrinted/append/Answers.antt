use Rattle.gql_response.proofs.Texts.{compact-String}
use Rattle.gql_response.proofs.path.ResponseDataPathSegmentPrinted.append.Goals as goal

pub returns-in-Field : goal.returns-in-Field
returns-in-Field c = rw (c.in-Field.is, compact-String, ← c.as_str.ensures.text) c.append_string.ensures
