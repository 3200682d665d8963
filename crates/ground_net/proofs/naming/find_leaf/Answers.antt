use Rattle.std.proofs.Common.{◌≡◌, ℕ, ◌<◌, List, length, slice_get, get_or, Some, refl, ◌∙◌, ap, sym, arith}
use Rattle.std.proofs.lemmas.Option.{slice_get-get_or}
use Rattle.ground_net.specs.declared.net.Leaf.{Leaf}
use Rattle.ground_net.specs.Naming.{IsNamed}
use Rattle.ground_net.proofs.Names.{first_is, is_one, below_more, nowhere}
use Rattle.ground_net.proofs.naming.find_leaf.Goals as goal

there : (leaves items : List Leaf) (n : ℕ) (leaf : Leaf) → n < length leaves → items ≡ leaves → leaf ≡ get_or items n leaf → slice_get leaves n ≡ Some leaf
there leaves items n leaf h e f = slice_get-get_or leaves n leaf h ∙ ap Some (sym (f ∙ ap (λ l. get_or l n leaf) e))

is : (c : goal.Then-has_name) → IsNamed c.args.net.now c.args.name.now c.loop-number.number
is c =
    let leaf : Leaf = c.index-as_slice-number.result in
    let yes = c.has_name.ensures.yes c.if-has_name.true in
    record { leaf = leaf; there = there c.args.net.now.leaves c.as_slice.result.now c.loop-number.number leaf (omega arith) c.as_slice.ensures c.index-as_slice-number.is; named = yes.0; valued = yes.1 }

pub returns-then-has_name-clause-found : goal.returns-then-has_name-clause-found
returns-then-has_name-clause-found c = first_is c.args.net.now c.args.name.now c.loop-number.number (is c) c.loop-number.invariant

pub returns-then-has_name-clause-none : goal.returns-then-has_name-clause-none
returns-then-has_name-clause-none c = is_one c.args.net.now c.args.name.now c.loop-number.number (is c)

pub loop-number-preserved : goal.loop-number-preserved
loop-number-preserved c = below_more c.args.net.now c.args.name.now c.loop-number.number
    (λ is.
    let leaf : Leaf = c.index-as_slice-number.result in
    let here = there c.args.net.now.leaves c.as_slice.result.now c.loop-number.number leaf (omega arith) c.as_slice.ensures c.index-as_slice-number.is in
    let at = is.there in
    let same : is.leaf ≡ leaf = cc in
    is.valued (ap (λ l. l.role) same ∙ c.has_name.ensures.no c.if-has_name.false (ap (λ l. l.name) (sym same) ∙ is.named)))
    c.loop-number.invariant

pub returns-clause-found : goal.returns-clause-found
returns-clause-found c = λ x. (λ e. cc, λ first. absurd (nowhere c.args.net.now c.args.name.now c.loop-number.number (omega arith) c.loop-number.invariant x first.is))

pub returns-clause-none : goal.returns-clause-none
returns-clause-none c = (λ e. nowhere c.args.net.now c.args.name.now c.loop-number.number (omega arith) c.loop-number.invariant, λ e. refl)
