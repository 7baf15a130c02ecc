-- Two lists of one length, changed in step, as one list of pairs.
use Rattle.std.proofs.Common.{◌≡◌, ℕ, List, length, swap, zip, sym, ◌∙◌}
use Rattle.std_collections.proofs.Zip.{keys_of-zip, values_of-zip}
use Rattle.indexmap.proofs.ReorderLemmas.{map-swap, zip_of_parts}

pub zip-swap : {K X : Type 0} (ks : List K) (vs : List X) (i j : ℕ) → length vs ≡ length ks → zip (swap ks i j) (swap vs i j) ≡ swap (zip ks vs) i j
zip-swap {K} {X} ks vs i j even =
    let es = zip ks vs in
    (λ n. zip (swap (sym (keys_of-zip ks vs even) n) i j) (swap (sym (values_of-zip ks vs even) n) i j))
    ∙ (λ n. zip (sym (map-swap (λ (e : K × X). e.0) es i j) n) (sym (map-swap (λ (e : K × X). e.1) es i j) n)) ∙ zip_of_parts (swap es i j)
