use Rattle.std.proofs.Common.{◌≡◌, ◌&&◌, ◌++◌, ◌∙◌, sym, ap, ap₂, map, take, get_or, Some, [], option_map, if◌then◌else◌, arith}
use Rattle.bit_words.specs.declared.value.Value.{Value}
use Rattle.bit_words.specs.Values.{integer_of}
use Rattle.fir_meaning.specs.Values.{lone, fitted_to}
use Rattle.fir_meaning.specs.Drives.{same_leaf, is_turned}
use Rattle.drive_check.specs.Keys.{leaf_of_key, step_of}
use Rattle.plain_values.proofs.Settings.{left_along, left_more, left_whole}
use Rattle.plain_values.proofs.setting.set_at.Goals.{then-sets, else-sets}
use Rattle.plain_values.proofs.setting.set_at.Goals as goal

pub loop-at-preserved : goal.loop-at-preserved
loop-at-preserved c =
    let leaf = leaf_of_key c.args.leaf.now in
    let flip = c.args.flip in
    let component = c.in-Some.place.component in
    let way = map step_of c.in-Some-way.way in
    let parts = c.as_slice-parts.result.now in
    let values = c.args.values.now in
    let at = c.loop-at.at in
    let part = c.index-parts-at.result in
    let key_is : leaf_of_key c.in_ok-key.key ≡ record { component = component; way = way ++ part.path } =
    ap₂ (λ m w. record { component = m; way = w }) c.in_ok-key.ensures.component (c.in_ok-key.ensures.way ∙ ap₂ (λ a b. map step_of a ++ b) c.as_slice.ensures c.as_slice-in-loop-at.ensures) in
    let test : c.sets.result ≡ (is_turned flip part && same_leaf (record { component = component; way = way ++ part.path }) leaf) = c.sets.ensures ∙ ap (λ k. is_turned flip part && same_leaf k leaf) key_is in
    let more = left_more leaf flip component way parts values at part (omega arith) c.index-parts-at.is in
    let new = Some (integer_of (fitted_to part (integer_of (get_or values at (lone []))))) in
    let old = left_along leaf flip component way (take at parts) values in
    elim c.if-sets.branch [
      | then-sets w ↦
          ap (option_map integer_of) w.set-is ∙ (ap (λ (v : Value). Some (integer_of v)) (w.fitted_value.ensures ∙ ap (λ v. fitted_to part (integer_of v)) w.value_or_zero.ensures)
          ∙ sym (more ∙ ap (λ b. if b then new else old) (sym test ∙ w.if-sets.true)))
      | else-sets w ↦ ap (option_map integer_of) w.set-is ∙ (c.loop-at.invariant ∙ sym (more ∙ ap (λ b. if b then new else old) (sym test ∙ w.if-sets.false)))
    ]

pub returns : goal.returns
returns c =
    c.loop-at.invariant
    ∙ left_whole (leaf_of_key c.args.leaf.now) c.args.flip c.args.spot.now c.in-Some.place c.in-Some-way.way c.as_slice-parts.result.now c.args.values.now c.loop-at.at c.in-Some.is c.in-Some-way.is
    (c.as_slice-parts.ensures.value ∙ c.in_ok-listed.ensures) (omega arith)
