-- The request of the self-test: its data has as many items as are asked for.
use Rattle.std.specs.Prelude.{ℕ, zero, suc, ◌%◌, eqb, if◌then◌else◌, List, [], ◌++◌, codes}
use Rattle.std.specs.Fmt.{decimal}

abbrev pub head : List ℕ
head =
    codes
    "{\"schema\":\"type Query { items: [Item!]! } type Item { id: Int! tags: [String] }\",\"query\":\"{ items { id tags } }\",\"data\":{\"items\":["

abbrev pub tail : List ℕ
tail = codes "]}}"

-- the one tag of an item: an error for every tenth
abbrev pub tag : ℕ → List ℕ
tag n = if eqb (n % 10) 9 then codes "{\"__error\":\"e\"}" else (codes "\"t" ++ (decimal (n % 7) ++ codes "\""))

-- the item of a number
abbrev pub item : ℕ → List ℕ
item n = codes "{\"id\":" ++ (decimal n ++ (codes ",\"tags\":[" ++ (tag n ++ codes "]}")))

abbrev pub comma_before : ℕ → List ℕ
comma_before zero = []
comma_before (suc n) = codes ","

-- the items of the numbers below one
abbrev pub items : ℕ → List ℕ
items zero = []
items (suc n) = items n ++ (comma_before n ++ item n)

-- the text of the request with so many items
abbrev pub self_test : ℕ → List ℕ
self_test count = head ++ (items count ++ tail)
