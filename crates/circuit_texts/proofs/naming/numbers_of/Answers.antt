use Rattle.std.proofs.Common.{◌≡◌, ℕ, ◌+◌, ◌<◌, List, [], ◌∷◌, ◌++◌, length, map, take, get_or, Some, None, Bor, sym, subst}
use Rattle.std.specs.Prelude.{slice_get}
use Rattle.std.specs.List.{AllZip}
use Rattle.std.specs.Str.{bytes_eq}
use Rattle.std.proofs.lemmas.Option.{slice_get-get_or}
use Rattle.std.specs.BTreeMap.{get_by}
use Rattle.std.specs.Cmp.Lexicographic.{slice_cmp}
use Rattle.std.specs.Ordering.{nat_cmp}
use Rattle.circuit_texts.proofs.Zips.{zip_push, map_take_more, get_map}
use Rattle.circuit_texts.proofs.naming.numbers_of.Goals as goal

abbrev no_name : Bor (List ℕ)
no_name = record { ref_ptr = (0, 0); now = [] }

pub returns-in_default-clause-none : goal.returns-in_default-clause-none
returns-in_default-clause-none c =
    let names = c.args.names.now in
    let k = c.loop-at.at in
    let lt : k < length names = c.loop-at-test.true in
    let name : Bor (List ℕ) = get_or names k no_name in
    let there : slice_get names k ≡ Some name = slice_get-get_or names k no_name lt in
    (k, name.now, get_map (λ n. n.now) names k name there, subst (λ n. get_by {K = Bor (List ℕ)} (λ k. slice_cmp nat_cmp n k.now) c.args.firsts.now ≡ None) c.as_bytes.ensures.value (sym c.in_default.ensures.value))

pub loop-at-preserved : goal.loop-at-preserved
loop-at-preserved c =
    let names = c.args.names.now in
    let firsts = c.args.firsts.now in
    let k = c.loop-at.at in
    let lt : k < length names = c.loop-at-test.true in
    let name : Bor (List ℕ) = get_or names k no_name in
    let P : List ℕ → ℕ → Type 0 = λ n x. get_by {K = Bor (List ℕ)} (λ k. slice_cmp nat_cmp n k.now) firsts ≡ Some x in
    let n : ℕ = c.in-Some.number.now in
    let one : P name.now n = subst (λ m. P m n) c.as_bytes.ensures.value (sym c.in-Some.ensures.value) in
    subst (AllZip P (map (λ n. n.now) (take (k + 1) names))) (sym c.in_ok-push.ensures.ok)
    (subst (λ l. AllZip P l (c.loop-at.numbers ++ n ∷ [])) (sym (map_take_more (λ n. n.now) names k no_name lt)) (zip_push P (map (λ n. n.now) (take k names)) c.loop-at.numbers name.now n c.loop-at.invariant one))
