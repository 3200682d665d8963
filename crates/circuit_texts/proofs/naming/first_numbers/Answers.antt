use Rattle.std.proofs.Common.{◌≡◌, ℕ, ◌+◌, ◌-◌, ◌<◌, Bool, cond, List, ◌∷◌, length, drop, get_or, Some, Bor, sym, ap, ap₂, ◌∙◌, arith}
use Rattle.std.specs.List.{position_from}
use Rattle.std.specs.Str.{bytes_eq}
use Rattle.std.proofs.lemmas.List.{drop_more}
use Rattle.std.specs.BTreeMap.{get_by}
use Rattle.std.specs.Cmp.Lexicographic.{slice_cmp}
use Rattle.std.specs.Ordering.{nat_cmp}
use Rattle.ground_net.specs.declared.net.Leaf.{Leaf}
use Rattle.circuit_texts.specs.NetNames.{is_named}
use Rattle.circuit_texts.proofs.naming.first_numbers.Goals as goal

-- one leaf more, from the back
one_more : (T : Leaf → Bool) (leaves : List Leaf) (n : ℕ) (leaf : Leaf) → n < length leaves → leaf ≡ get_or leaves n leaf
    → position_from T n (drop n leaves) ≡ cond (T leaf) (Some n) (position_from T (n + 1) (drop (n + 1) leaves))
one_more T leaves n leaf inside is = ap (position_from T n) (drop_more leaves n leaf inside ∙ ap (λ l. l ∷ drop (n + 1) leaves) (sym is))

pub loop-turn-preserved : goal.loop-turn-preserved
loop-turn-preserved c = λ name.
    let leaves = c.args.leaves.now in
    let t = c.loop-turn.turn in
    let lt : t < length leaves = c.loop-turn-test.true in
    let n = length leaves - (t + 1) in
    let inside : n < length leaves = omega arith in
    let back : length leaves - t ≡ n + 1 = omega arith in
    let place : length leaves - 1 - t ≡ n = omega arith in
    let leaf : Leaf = c.index-leaves-number.result in
    let is : leaf ≡ get_or leaves n leaf = c.index-leaves-number.is ∙ ap (λ k. get_or leaves k leaf) place in
    let before : get_by {K = Bor (List ℕ)} (λ k. slice_cmp nat_cmp name k.now) c.loop-turn.firsts ≡ position_from (is_named name) (n + 1) (drop (n + 1) leaves) =
    c.loop-turn.invariant name ∙ ap (λ k. position_from (is_named name) k (drop k leaves)) back in
    c.in_ok-note.ensures name ∙ (ap₂ (λ k o. cond (is_named name leaf) (Some k) o) place before ∙ sym (one_more (is_named name) leaves n leaf inside is))
