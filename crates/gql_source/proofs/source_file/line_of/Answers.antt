use Rattle.std.proofs.Common.{rules, ◌≡◌, length, leb, ap, arith}
use Rattle.std.specs.List.Sorted.{IsPartitionedBy}
use Rattle.std.proofs.lemmas.List.Sorted.{IsPartitionPoint-from_clause}
use Rattle.gql_source.specs.Lines as lines
use Rattle.gql_source.proofs.LineStarts.{starts-partitioned, starts-point, starts-some, starts-fewer, starts-start, start-up_to}
use Rattle.gql_source.proofs.source_file.line_of.Goals as goal

point : (c : goal.After-partition_point) → c.partition_point.result ≡ length (lines.line_starts c.args.text.now c.args.offset)
point c =
    let parted : IsPartitionedBy (λ y. leb y c.args.offset) c.args.starts.now =
    rw c.requires.starts (starts-partitioned c.args.text.now c.args.offset (length c.args.text.now) c.requires.within) in
    let found = IsPartitionPoint-from_clause (λ y. leb y c.args.offset) c.args.starts.now c.partition_point.result c.partition_point.ensures.partitioned parted (λ a r f k. search rules) in
    starts-point c.args.text.now c.args.offset (length c.args.text.now) c.partition_point.result c.requires.within
    (rw c.requires.starts at c.partition_point.ensures.bound)
    (rw c.requires.starts at found)

pub returns-clause-value : goal.returns-clause-value
returns-clause-value c = point c

pub returns-clause-within : goal.returns-clause-within
returns-clause-within c = (
  omega (arith, point c, starts-some c.args.text.now c.args.offset),
  omega (arith, point c, ap length c.requires.starts, starts-fewer c.args.text.now c.args.offset (length c.args.text.now) c.requires.within),
)

pub returns-clause-start : goal.returns-clause-start
returns-clause-start c =
    rw (c.requires.starts, point c) (starts-start c.args.text.now c.args.offset (length c.args.text.now) c.requires.within)

pub returns-clause-ordered : goal.returns-clause-ordered
returns-clause-ordered c = start-up_to c.args.text.now c.args.offset
