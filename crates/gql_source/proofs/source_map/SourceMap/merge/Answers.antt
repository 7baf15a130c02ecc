use Rattle.std.proofs.Common.{◌∙◌, ap, sym, subst, ◌≡◌, length, take}
use Rattle.gql_source.specs.File.{Files, put_absent}
use Rattle.gql_source.proofs.Joined.{joined-append, put_absent-front}
use Rattle.gql_source.proofs.source_map.SourceMap.merge.Goals as goal

pub loop-id-preserved : goal.loop-id-preserved
loop-id-preserved c = record {
  all = c.in-Ok.ensures.put
      ∙ ap (put_absent c.in-Some.id c.in-Some.file) c.loop-id.invariant.all
      ∙ sym (joined-append c.args.self.now c.loop-id.yielded (c.in-Some.id, c.in-Some.file));
  front = let P : Files → Type 0 = λ files. take (length c.args.self.now) files ≡ c.args.self.now in
      subst P (sym c.in-Ok.ensures.put) (put_absent-front c.in-Some.id c.in-Some.file c.args.self.now c.loop-id.self c.loop-id.invariant.front);
}
