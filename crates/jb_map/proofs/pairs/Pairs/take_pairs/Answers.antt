use Rattle.std.proofs.Common.{◌≡◌, [], OnOk, OnErr, length, reverse, zip, sym, ap, subst, ◌∙◌, arith}
use Rattle.std.specs.Str.{bytes_eq}
use Rattle.std.specs.List.{IsDistinct}
use Rattle.std.specs.Map.{keys_of}
use Rattle.std.proofs.lemmas.List.{reverse-reverse}
use Rattle.std_collections.proofs.Zip.{keys_of-zip}
use Rattle.std_collections.proofs.TreeShape.Zip.{zip-reverse}
use Rattle.indexmap.specs.IndexMap.{insert_all}
use Rattle.jb_map.specs.Moved.{MovesSome}
use Rattle.jb_map.proofs.Inserted.{left_distinct, none_reversed}
use Rattle.jb_map.proofs.pairs.Pairs.take_pairs.Goals as goal

pub put_texts-requires : goal.put_texts-requires
put_texts-requires g c =
    let ks = c.args.list.now in
    let vs = c.args.values.now.items in
    let all = zip ks vs in
    let turned = ap reverse ((λ j. zip ((c.reverse.ensures.items ∙ ap reverse c.take_texts-texts.ensures.taken) j) (c.reverse-2.ensures.items j)) ∙ zip-reverse ks vs c.requires) ∙ reverse-reverse all in
    let r = c.take_back_to_front-moved.result in
    let ls = c.take_back_to_front-moved.new.texts in
    let ws = c.take_back_to_front-moved.new.values in
    let even : length ws.items ≡ length ls.items = omega (arith, c.take_back_to_front-moved.ensures.even, ls.ok.0, ws.ok.0) in
    let back = (λ j. zip (c.reverse-3.ensures.items j) (c.reverse-4.ensures.items j)) ∙ zip-reverse ls.items ws.items even in
    let left = reverse (zip ls.items ws.items) in
    let ks' = c.reverse-3.new.self in
    let vs' = c.reverse-4.new.self in
    let even' : length vs'.items ≡ length ks'.items = omega (arith, even, c.reverse-3.ensures.len, c.reverse-4.ensures.len, ls.ok.0, ws.ok.0, ks'.ok.0, vs'.ok.0) in
    let moves = subst (λ l. OnErr r (MovesSome c.args.self.now l c.take_back_to_front-moved.new.self left)) turned c.take_back_to_front-moved.ensures.refused in
    let none = none_reversed r (zip ls.items ws.items) c.take_back_to_front-moved.ensures.emptied in
    let distinct = subst (IsDistinct bytes_eq) (sym (keys_of-zip ks vs c.requires)) c.take_texts-texts.ensures.distinct in
    let apart = left_distinct r c.args.self.now all c.take_back_to_front-moved.new.self left none moves distinct in
    subst (IsDistinct bytes_eq) (ap keys_of (sym back) ∙ keys_of-zip ks'.items vs'.items even') apart

pub returns-clause-pairs : goal.returns-clause-pairs
returns-clause-pairs g c =
    let ks = c.args.list.now in
    let vs = c.args.values.now.items in
    let all = zip ks vs in
    let turned = ap reverse ((λ j. zip ((c.reverse.ensures.items ∙ ap reverse c.take_texts-texts.ensures.taken) j) (c.reverse-2.ensures.items j)) ∙ zip-reverse ks vs c.requires) ∙ reverse-reverse all in
    let r = c.take_back_to_front-moved.result in
    subst (λ l. OnOk r (c.take_back_to_front-moved.new.self ≡ insert_all bytes_eq c.args.self.now l)) turned c.take_back_to_front-moved.ensures.pairs

pub returns-clause-emptied : goal.returns-clause-emptied
returns-clause-emptied g c =
    let r = c.take_back_to_front-moved.result in
    let ls = c.take_back_to_front-moved.new.texts in
    let ws = c.take_back_to_front-moved.new.values in
    let even : length ws.items ≡ length ls.items = omega (arith, c.take_back_to_front-moved.ensures.even, ls.ok.0, ws.ok.0) in
    let back = (λ j. zip (c.reverse-3.ensures.items j) (c.reverse-4.ensures.items j)) ∙ zip-reverse ls.items ws.items even in
    let new = ap (λ l. zip l c.reverse-4.new.self.items) c.put_texts.ensures ∙ back in
    subst (λ l. OnOk r (l ≡ [])) (sym new) (none_reversed r (zip ls.items ws.items) c.take_back_to_front-moved.ensures.emptied)

pub returns-clause-refused : goal.returns-clause-refused
returns-clause-refused g c =
    let ks = c.args.list.now in
    let vs = c.args.values.now.items in
    let all = zip ks vs in
    let turned = ap reverse ((λ j. zip ((c.reverse.ensures.items ∙ ap reverse c.take_texts-texts.ensures.taken) j) (c.reverse-2.ensures.items j)) ∙ zip-reverse ks vs c.requires) ∙ reverse-reverse all in
    let r = c.take_back_to_front-moved.result in
    let ls = c.take_back_to_front-moved.new.texts in
    let ws = c.take_back_to_front-moved.new.values in
    let even : length ws.items ≡ length ls.items = omega (arith, c.take_back_to_front-moved.ensures.even, ls.ok.0, ws.ok.0) in
    let back = (λ j. zip (c.reverse-3.ensures.items j) (c.reverse-4.ensures.items j)) ∙ zip-reverse ls.items ws.items even in
    let left = reverse (zip ls.items ws.items) in
    let new = ap (λ l. zip l c.reverse-4.new.self.items) c.put_texts.ensures ∙ back in
    let moves = subst (λ l. OnErr r (MovesSome c.args.self.now l c.take_back_to_front-moved.new.self left)) turned c.take_back_to_front-moved.ensures.refused in
    subst (λ l. OnErr r (MovesSome c.args.self.now all c.take_back_to_front-moved.new.self l)) (sym new) moves
