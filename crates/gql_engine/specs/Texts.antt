-- The texts of the self-test's request.
use Rattle.std.specs.Prelude.{ℕ, List, codes}

abbrev pub schema_text : List ℕ
schema_text = codes "type Query { items: [Item!]! } type Item { id: Int! tags: [String] }"

abbrev pub query_text : List ℕ
query_text = codes "{ items { id tags } }"
