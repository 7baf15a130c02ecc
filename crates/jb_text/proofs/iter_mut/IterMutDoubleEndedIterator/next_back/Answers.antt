use Rattle.indexmap.proofs.IterLemmas.{rest_back, mut_rest_back, pair_back, length_back}
use Rattle.jb_text.proofs.iter_mut.IterMutDoubleEndedIterator.next_back.Goals as goal

pub returns-clause-steps : goal.returns-clause-steps
returns-clause-steps g c =
    let ks = rest_back c.args.self.now.keys c.next_back.new.self _ _ c.in_ok-key.was c.next_back.ensures.steps in
    let vs = mut_rest_back c.args.self.now.values c.next_back-2.new.self _ _ c.unwrap.ensures c.next_back-2.ensures.steps in
    pair_back _ _ _ _ _ _ ks vs c.args.self.now.even

pub returns-clause-goes : goal.returns-clause-goes
returns-clause-goes g c =
    let ks = rest_back c.args.self.now.keys c.next_back.new.self _ _ c.in_ok-key.was c.next_back.ensures.steps in
    let vs = mut_rest_back c.args.self.now.values c.next_back-2.new.self _ _ c.unwrap.ensures c.next_back-2.ensures.steps in
    record { on = λ _. (tt, tt, length_back _ _ _ _ _ _ ks vs c.args.self.now.even); keeps = tt; rests = λ _. tt }
