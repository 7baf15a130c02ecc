-- Runs of bytes that stand for themselves.
use Rattle.std.proofs.Common.{◌≡◌, ℕ, ◌+◌, ◌-◌, ◌≤◌, true, List, [], ◌∷◌, ◌++◌, length, take, drop, sym, ap, ◌∙◌, arith}
use Rattle.std.specs.List.{prefix_len, list_all}
use Rattle.std.proofs.lemmas.Bool.Decides.{nat_tests}
use Rattle.std.proofs.lemmas.List.{length-take-le, length-drop, drop-drop, take-append-drop}
use Rattle.jb_text.specs.Plain.{is_plain}

prefix_len-plain : (run rest : List ℕ) → list_all is_plain run ≡ true → prefix_len is_plain (run ++ rest) ≡ length run + prefix_len is_plain rest
prefix_len-plain [] rest plain = omega arith
prefix_len-plain (byte ∷ run) rest plain =
    let first : is_plain byte ≡ true = grind (arith, nat_tests) in
    let others : list_all is_plain run ≡ true = grind (arith, nat_tests) in
    rw first (omega (arith, prefix_len-plain run rest others))

-- a run of plain bytes is passed over
pub prefix_len-run : (bytes : List ℕ) (from to : ℕ) → from ≤ to → to ≤ length bytes → list_all is_plain (take (to - from) (drop from bytes)) ≡ true → prefix_len is_plain (drop from bytes) ≡ (to - from) + prefix_len is_plain (drop to bytes)
prefix_len-run bytes from to order within plain =
    let run = take (to - from) (drop from bytes) in
    let size : length run ≡ to - from = length-take-le (to - from) (drop from bytes) (omega (arith, length-drop from bytes)) in
    let behind : drop (to - from) (drop from bytes) ≡ drop to bytes = drop-drop (to - from) from bytes ∙ ap (λ i. drop i bytes) (omega arith) in
    let whole : run ++ drop to bytes ≡ drop from bytes = ap (λ rest. run ++ rest) (sym behind) ∙ take-append-drop (to - from) (drop from bytes) in
    let passed : prefix_len is_plain (drop from bytes) ≡ length run + prefix_len is_plain (drop to bytes) = ap (prefix_len is_plain) (sym whole) ∙ prefix_len-plain run (drop to bytes) plain in
    omega (arith, passed, size)
